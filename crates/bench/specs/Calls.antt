-- What the public calls on a bench answer and what the lent words hold afterward, for all inputs; in the order of the document.
-- Assumes nothing.
use Rattle.std.specs.Prelude.{cond, List, [], ◌∷◌, ℕ, eqb, length, drop, Result, Ok, Err}
use Rattle.limits.specs.First.{or_else}
use Rattle.limits.specs.Limits.{crossing_fault, stretch_fault, room_fault}
use Rattle.limits.specs.Refusals.{number_of}
use Rattle.limits.specs.declared.Refusal.{Refusal}
use Rattle.limits.specs.Said.{Said, told, refused, unless_refused}
use Rattle.map.specs.Map.{map_fault}
use Rattle.map.specs.declared.Side.{Side}
use Rattle.shape.specs.Bench.{bench_words, words, parse, opened}
use Rattle.shape.specs.Rules.{turned, turn_told}
use Rattle.shaped.specs.Lent.{lent_fault}
use Rattle.bench.specs.declared.Turn.{Turn}
use Rattle.bench.specs.declared.Turn.TheVariants.{Settled, Done}

-- what an answer says: the values of its Ok, or the number of its refusal
abbrev pub said_by : {A : Type 0} → (A → List ℕ) → Result A Refusal → Said
said_by values (Ok a) = told (values a)
said_by values (Err r) = refused (number_of r) []

-- the answer, unless there is a number of refusal
unfoldable pub judged : ℕ → Said → Said
judged fault answer = cond (eqb fault 0) answer (refused fault [])

-- ---- opening

abbrev pub said_opening : Result (Unit {0}) Refusal → Said
said_opening = said_by (λ _. [])

-- start 4, target 4, stretch 5
unfoldable pub order_fault : ℕ → ℕ → ℕ → ℕ → ℕ
order_fault n start target stretch = or_else (crossing_fault n start) (or_else (crossing_fault n target) (stretch_fault stretch))

-- those of the map, those of the order, bench 3
unfoldable pub open_fault : List ℕ → ℕ → ℕ → ℕ → ℕ → ℕ → List ℕ → ℕ
open_fault map n m start target stretch x =
    or_else (map_fault n m map)
    (or_else (order_fault n start target stretch)
    (room_fault (bench_words n) (length x)))

unfoldable pub open_said : List ℕ → ℕ → ℕ → ℕ → ℕ → ℕ → List ℕ → Said
open_said map n m start target stretch x = judged (open_fault map n m start target stretch x) (told [])

-- refused, the bench stays; else it is opened, and the words past it stay
unfoldable pub open_words : List ℕ → ℕ → ℕ → ℕ → ℕ → ℕ → List ℕ → List ℕ
open_words map n m start target stretch x =
    unless_refused (open_said map n m start target stretch x) (words (opened n m start target stretch (drop (bench_words n) x))) x

-- ---- a turn

abbrev pub turn_values : Turn → List ℕ
turn_values (Settled crossing distance) = crossing ∷ distance ∷ []
turn_values Done = []

abbrev pub said_turn : Result Turn Refusal → Said
said_turn = said_by turn_values

-- those of the map, bench 3, then 6
unfoldable pub turn_fault : List ℕ → ℕ → ℕ → List ℕ → ℕ
turn_fault map n m x = lent_fault map n m 0 x

unfoldable pub turn_said : Side → List ℕ → ℕ → ℕ → List ℕ → Said
turn_said s map n m x = judged (turn_fault map n m x) (turn_told s (parse n x))

-- refused, the bench stays; else it takes the turn
unfoldable pub turn_words : Side → List ℕ → ℕ → ℕ → List ℕ → List ℕ
turn_words s map n m x = unless_refused (turn_said s map n m x) (words (turned s map (parse n x))) x
