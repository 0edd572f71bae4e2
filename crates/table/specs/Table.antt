-- "Numbers of refusal": the checks of every call on a map, and of a line that is read, in the document's order, each with its number and what it
-- asks. Assumes nothing.
use Rattle.std.specs.Prelude.{◌≡◌, true, ◌≢◌, ◌⊎◌, List, [], ◌∷◌, ◌++◌, Result, Ok, Err, ℕ, zero, suc, ◌*◌, ◌-◌, ◌≤◌, ◌<◌, length, get_or}
use Rattle.limits.specs.Limits.{Between}
use Rattle.line.specs.declared.Line.{Line}
use Rattle.line.specs.declared.Line.TheVariants.{Comment, Size, Link}
use Rattle.line.specs.declared.NoLine.{NoLine}
use Rattle.step.specs.Step.{FaultAt, taken}
use Rattle.step.specs.declared.State.{State}
use Rattle.map.specs.Map.{tail, head, cost, map_fault}
use Rattle.map.specs.declared.Side.{Side}
use Rattle.half.specs.Half.{unknown, ceiling}
use Rattle.shape.specs.Bench.{Bench, half, root, bench_words, parse, WellShaped}
use Rattle.shape.specs.Rules.{done}
use Rattle.trail.specs.Sound.{SoundHalf, MarksSound}
use Rattle.route.specs.Area.{route_of}
use Rattle.area.specs.Finished.{area_fault, route_fault}
use Rattle.bench.specs.Calls.{open_fault, turn_fault}

-- a number, given unless what the check asks is so
pub data Check : Type 1 where
  unless : ℕ → Type 0 → Check

-- "A number is given only as the table says; a call that meets none of it isn't refused": the number of the first check that is not met, 0 where
-- all are
abbrev pub Judged : List Check → ℕ → Type 0
Judged [] number = number ≡ 0
Judged (unless given asked ∷ rest) number = (asked × Judged rest number) ⊎ ((asked → ⊥) × (number ≡ given))

-- ---- the reader: "line by line the first fault; within a line 1 (an `a` beyond M included), 2, 3, 4 for U then V, 5"

-- a line as it is read in a state, for a map that has room for so many words; what is no line of the layout is never so
unfoldable pub line_checks : ℕ → State → Result Line NoLine → List Check
line_checks room st (Ok Comment) = []
line_checks room st (Ok (Size n m)) =
    unless 1 (st.n ≡ 0) ∷ unless 2 (Between 1 4096 n.value) ∷ unless 2 (m.value ≤ 16384) ∷ unless 3 (3 * m.value ≤ room) ∷ []
line_checks room st (Ok (Link u v w)) =
    unless 1 (st.k < st.m)
    ∷ unless 4 (Between 1 st.n u.value)
    ∷ unless 4 (Between 1 st.n v.value)
    ∷ unless 5 (Between 1 65535 w.value)
    ∷ []
line_checks room st (Err none) = unless 1 ⊥ ∷ []

-- the number with which a line stops, 0 where it goes on
abbrev pub stop_number : Result State FaultAt → ℕ
stop_number (Ok st) = 0
stop_number (Err fault) = fault.number

abbrev pub LineTable : Type 0
LineTable = (room : ℕ) (st : State) (l : Result Line NoLine) → Judged (line_checks room st l) (stop_number (taken room st l))

-- ---- the calls on a map

module _ (map : List ℕ) (n m : ℕ) where
  -- so many links, from link k on
  unfoldable pub link_checks : ℕ → ℕ → List Check
  link_checks k zero = []
  link_checks k (suc more) =
      unless 4 (Between 1 n (tail map k)) ∷ unless 4 (Between 1 n (head map k)) ∷ unless 5 (Between 1 65535 (cost map k)) ∷ link_checks (suc k) more

  -- "Every call on a map: counts 2, map room 3, then link by link 4 and 5."
  unfoldable pub map_checks : List Check
  map_checks = unless 2 (Between 1 4096 n) ∷ unless 2 (m ≤ 16384) ∷ unless 3 (3 * m ≤ length map) ∷ link_checks 1 m

  -- "Then opening: start 4, target 4, stretch 5, bench 3."
  abbrev pub open_checks : ℕ → ℕ → ℕ → List ℕ → List Check
  open_checks start target stretch x =
      map_checks
      ++ (unless 4 (Between 1 n start) ∷ unless 4 (Between 1 n target) ∷ unless 5 (Between 1000 4000 stretch) ∷ unless 3 (bench_words n ≤ length x) ∷ [])

  -- "Turn: bench 3, then 6."
  abbrev pub bench_checks : List ℕ → List Check
  bench_checks x = unless 3 (bench_words n ≤ length x) ∷ unless 6 (WellShaped n m (parse n x)) ∷ []

  abbrev pub turn_checks : List ℕ → List Check
  turn_checks x = map_checks ++ bench_checks x

  -- both halves done 8, optimum known 9, trails and marks sound 7
  abbrev pub finished_checks : Bench → List Check
  finished_checks b =
      unless 8 ((s : Side) → done s b ≡ true)
      ∷ unless 9 (b.optimum ≢ unknown)
      ∷ unless 7 (((s : Side) → SoundHalf s map n m (root s b) (half s b)) × MarksSound b)
      ∷ []

  -- "Area: locality 5, bench 3, 6, mask 3, 8, 9, 7."
  abbrev pub area_checks : List ℕ → ℕ → ℕ → List Check
  area_checks x locality room =
      (map_checks ++ (unless 5 (locality ≤ ceiling) ∷ bench_checks x)) ++ (unless 3 (n ≤ room) ∷ finished_checks (parse n x))

  -- "Route: crossing 4, bench 3, 6, 8, 9, 7, 10, buffer 3."
  abbrev pub route_checks : List ℕ → ℕ → ℕ → List Check
  route_checks x crossing room =
      (map_checks ++ (unless 4 (Between 1 n crossing) ∷ bench_checks x))
      ++ (finished_checks (parse n x)
      ++ (unless 10 (get_or (parse n x).marks (crossing - 1) 0 ≢ 0) ∷ unless 3 (length (route_of map (parse n x) crossing) ≤ room) ∷ []))

  -- the numbers that the calls answer are the table's, for all inputs
  pub record Table : Type 0 where
    pub fault : Judged map_checks (map_fault n m map)
    pub opening : (start target stretch : ℕ) (x : List ℕ) → Judged (open_checks start target stretch x) (open_fault map n m start target stretch x)
    pub turn : (x : List ℕ) → Judged (turn_checks x) (turn_fault map n m x)
    pub area : (x : List ℕ) (locality room : ℕ) → Judged (area_checks x locality room) (area_fault map n m x locality room)
    pub route : (x : List ℕ) (crossing room : ℕ) → Judged (route_checks x crossing room) (route_fault map n m x crossing room)
