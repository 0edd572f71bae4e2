-- Demand 1 and how tight the promises are, as one table of the public calls: "No road map, order or bench, however damaged, makes a call index out
-- of range, wrap a sum or run on. Bad input, as the table of refusals lists it, is refused by number, whoever calls. A refusal writes nothing into
-- anything we lent." That no call indexes out of range, wraps or runs on is checked of every function; as no public call has a `requires`, it holds
-- whoever calls. A promise here is what the contract of a call ensures, for all inputs, of its answer and of what was lent to be written.
-- Assumes nothing.
use Rattle.std.specs.Prelude.{◌≡◌, ◌≢◌, ◌↔◌, List, [], ℕ, Result, length, drop}
use Rattle.std.specs.Borrow.{Bor}
use Rattle.limits.specs.Limits.{Between}
use Rattle.limits.specs.Refusals.{fault_of}
use Rattle.limits.specs.Said.{Said, refused}
use Rattle.limits.specs.declared.Refusal.{Refusal}
use Rattle.line.specs.Lines.{line_end}
use Rattle.line.specs.declared.Line.{Line}
use Rattle.line.specs.declared.NoLine.{NoLine}
use Rattle.text.specs.Held.{reader_at, line_at}
use Rattle.text.specs.Text.{said, read_text, map_after}
use Rattle.text.specs.declared.Reader.{Reader}
use Rattle.map.specs.Map.{map_fault}
use Rattle.map.specs.declared.Side.{Side}
use Rattle.area.specs.Finished.{route_fault}
use Rattle.bench.specs.Calls.{said_opening, open_said, open_words, said_turn, turn_said, turn_words}
use Rattle.bench.specs.Areas.{said_filling, area_said, area_mask}
use Rattle.bench.specs.Routes.{said_routing, route_said, route_part, route_buffer}
use Rattle.sankayop.specs.Packed.{in_one, packed, Fits}
use Rattle.demands.specs.Calls.{mixture_words}

-- ---- the promises, as the contracts state them, of what an answer says: any number may stand there, also one that no refusal has

abbrev pub Read : List ℕ → List ℕ → Said → List ℕ → Type 0
Read text map s after = (s ≡ read_text (length map) text) × (after ≡ map_after text map)

-- a reader at the beginning of a lent text, the line at a reader's place, and the reader past that line
abbrev pub Begin : Bor (List ℕ) → Reader → Type 0
Begin text r = r ≡ reader_at text 0

abbrev pub TellLine : Reader → Result Line NoLine → Type 0
TellLine reader r = r ≡ line_at reader.text.now reader.at

abbrev pub PassLine : Reader → Reader → Type 0
PassLine reader r = r ≡ reader_at reader.text (line_end reader.text.now reader.at)

-- a reader reads what is left of its text
abbrev pub ReadOn : Reader → List ℕ → Said → List ℕ → Type 0
ReadOn reader = Read (drop reader.at reader.text.now)

abbrev pub Open : List ℕ → ℕ → ℕ → ℕ → ℕ → ℕ → List ℕ → Said → List ℕ → Type 0
Open map n m start target stretch x s after =
    (s ≡ open_said map n m start target stretch x) × (after ≡ open_words map n m start target stretch x)

abbrev pub TakeTurn : Side → List ℕ → ℕ → ℕ → List ℕ → Said → List ℕ → Type 0
TakeTurn side map n m x s after = (s ≡ turn_said side map n m x) × (after ≡ turn_words side map n m x)

abbrev pub FillMask : List ℕ → ℕ → ℕ → List ℕ → ℕ → List ℕ → Said → List ℕ → Type 0
FillMask map n m x locality mask s after = (s ≡ area_said map n m x locality mask) × (after ≡ area_mask map n m x locality mask)

abbrev pub FillRoute : List ℕ → ℕ → ℕ → List ℕ → ℕ → List ℕ → Said → List ℕ → Type 0
FillRoute map n m x crossing buffer s after = (s ≡ route_said map n m x crossing buffer) × (after ≡ route_buffer map n m x crossing buffer)

-- the part handed back, and its place
abbrev pub HandRoute : {Place : Type 0} → List ℕ → ℕ → ℕ → List ℕ → ℕ → List ℕ → Place → List ℕ → Place → Type 0
HandRoute map n m x crossing buffer lent part place = (part ≡ route_part map n m x crossing buffer) × (place ≡ lent)

abbrev pub Mix : List ℕ → ℕ → ℕ → ℕ → ℕ → ℕ → List ℕ → List ℕ → Said → List ℕ → Type 0
Mix map n m start target stretch schedule x s after =
    (s ≡ open_said map n m start target stretch x) × (after ≡ mixture_words map n m start target stretch schedule x)

-- the C interface: what the calls say, packed in one number
abbrev pub ReadPacked : List ℕ → List ℕ → ℕ → List ℕ → Type 0
ReadPacked text map r after = (r ≡ packed (read_text (length map) text)) × (after ≡ map_after text map)

abbrev pub OpenPacked : List ℕ → ℕ → ℕ → ℕ → ℕ → ℕ → List ℕ → ℕ → List ℕ → Type 0
OpenPacked map n m start target stretch x r after =
    (r ≡ packed (open_said map n m start target stretch x)) × (after ≡ open_words map n m start target stretch x)

abbrev pub TurnPacked : Side → List ℕ → ℕ → ℕ → List ℕ → ℕ → List ℕ → Type 0
TurnPacked s map n m x r after = (r ≡ packed (turn_said s map n m x)) × (after ≡ turn_words s map n m x)

abbrev pub MaskPacked : List ℕ → ℕ → ℕ → List ℕ → ℕ → List ℕ → ℕ → List ℕ → Type 0
MaskPacked map n m x locality mask r after = (r ≡ packed (area_said map n m x locality mask)) × (after ≡ area_mask map n m x locality mask)

abbrev pub RoutePacked : List ℕ → ℕ → ℕ → List ℕ → ℕ → List ℕ → ℕ → List ℕ → Type 0
RoutePacked map n m x crossing route r after = (r ≡ packed (route_said map n m x crossing route)) × (after ≡ route_buffer map n m x crossing route)

-- ---- what is shown of each

-- of a call that is lent something to be written, and that may refuse with the numbers from low to high
pub record Kept {A : Type 0} (say : A → Said) (low high : ℕ) (lent : List ℕ) (P : Said → List ℕ → Type 0) : Type 0 where
  -- "Bad input, as the table of refusals lists it, is refused by number"
  pub numbered : (after : List ℕ) (number : ℕ) (rest : List ℕ) → P (refused number rest) after → Between low high number
  -- "A refusal writes nothing into anything we lent."
  pub stays : (after : List ℕ) (number : ℕ) (rest : List ℕ) → P (refused number rest) after → after ≡ lent
  -- "a second program meeting that statement is shown to give the same"
  pub same : (a b : A) (x y : List ℕ) → P (say a) x → P (say b) y → (a ≡ b) × (x ≡ y)
  -- the same of what may be said, also of what no answer says
  pub one : (s t : Said) (x y : List ℕ) → P s x → P t y → (s ≡ t) × (x ≡ y)

-- the same of a call whose answer is packed: it can be taken apart into a number of refusal, 0 for none, and two values
pub record KeptPacked (low high : ℕ) (lent : List ℕ) (P : ℕ → List ℕ → Type 0) : Type 0 where
  pub numbered : (r : ℕ) (after : List ℕ) → P r after → (number first second : ℕ) → Fits number first second → r ≡ in_one number first second → number ≢ 0 → Between low high number
  pub stays : (r : ℕ) (after : List ℕ) → P r after → (number first second : ℕ) → Fits number first second → r ≡ in_one number first second → number ≢ 0 → after ≡ lent
  pub same : (r q : ℕ) (x y : List ℕ) → P r x → P q y → (r ≡ q) × (x ≡ y)

-- of a call that answers whether there is a refusal, by its number, 0 for none, and writes nothing
pub record Answered (low high : ℕ) (P : ℕ → Type 0) : Type 0 where
  pub numbered : (number : ℕ) → P number → number ≢ 0 → Between low high number
  pub same : (r q : Result (Unit {0}) Refusal) → P (fault_of r) → P (fault_of q) → r ≡ q
  -- there is one number that may be told
  pub one : (k l : ℕ) → P k → P l → k ≡ l

-- of a call that is not refused and writes nothing
pub record Told {A : Type 0} (P : A → Type 0) : Type 0 where
  pub same : (a b : A) → P a → P b → a ≡ b

-- every public call; a Place is where a part of a lent buffer lies
pub record Promises (Place : Type 0) : Type 0 where
  -- text::read, lent the map
  pub read : (text map : List ℕ) → Kept said 1 5 map (Read text map)
  -- text::begin, text::line_here, text::past_line, and text::read_on, lent the map
  pub begin : (text : Bor (List ℕ)) → Told (Begin text)
  pub line_here : (reader : Reader) → Told (TellLine reader)
  pub past_line : (reader : Reader) → Told (PassLine reader)
  pub read_on : (reader : Reader) (map : List ℕ) → Kept said 1 5 map (ReadOn reader map)
  -- map::check
  pub check : (map : List ℕ) (n m : ℕ) → Answered 2 5 (λ number. number ≡ map_fault n m map)
  -- bench::open_bench, lent the bench x
  pub open_bench : (map : List ℕ) (n m start target stretch : ℕ) (x : List ℕ) → Kept said_opening 2 5 x (Open map n m start target stretch x)
  -- bench::take_turn, bench::forward and bench::backward, lent the bench x
  pub turn : (s : Side) (map : List ℕ) (n m : ℕ) (x : List ℕ) → Kept said_turn 2 6 x (TakeTurn s map n m x)
  -- bench::area, lent the mask
  pub area : (map : List ℕ) (n m : ℕ) (x : List ℕ) (locality : ℕ) (mask : List ℕ) → Kept said_filling 2 9 mask (FillMask map n m x locality mask)
  -- bench::fill_route, lent the buffer
  pub fill_route : (map : List ℕ) (n m : ℕ) (x : List ℕ) (crossing : ℕ) (buffer : List ℕ) → Kept said_routing 2 10 buffer (FillRoute map n m x crossing buffer)
  -- bench::route_refusal
  pub route_refusal : (map : List ℕ) (n m : ℕ) (x : List ℕ) (crossing : ℕ) (buffer : List ℕ)
      → Answered 2 10 (λ number. number ≡ route_fault map n m x crossing (length buffer))
  -- bench::route, whose part has no words exactly on a refusal; of the buffer past it docs/TIGHT.md speaks
  pub route_same : (map : List ℕ) (n m : ℕ) (x : List ℕ) (crossing : ℕ) (buffer : List ℕ) (lent : Place)
      (p q : List ℕ) (i j : Place) → HandRoute map n m x crossing buffer lent p i → HandRoute map n m x crossing buffer lent q j → (p ≡ q) × (i ≡ j)
  pub route_empty : (map : List ℕ) (n m : ℕ) (x : List ℕ) (crossing : ℕ) (buffer : List ℕ) (lent : Place)
      (p : List ℕ) (i : Place) → HandRoute map n m x crossing buffer lent p i → (p ≡ []) ↔ (route_fault map n m x crossing (length buffer) ≢ 0)
  -- claims::mixture, lent the bench x
  pub mixture : (map : List ℕ) (n m start target stretch : ℕ) (schedule x : List ℕ)
      → Kept said_opening 2 5 x (Mix map n m start target stretch schedule x)
  -- sankayop_read, sankayop_open, sankayop_forward and sankayop_backward, sankayop_area, sankayop_route
  pub c_read : (text map : List ℕ) → KeptPacked 1 5 map (ReadPacked text map)
  pub c_open : (map : List ℕ) (n m start target stretch : ℕ) (x : List ℕ) → KeptPacked 2 5 x (OpenPacked map n m start target stretch x)
  pub c_turn : (s : Side) (map : List ℕ) (n m : ℕ) (x : List ℕ) → KeptPacked 2 6 x (TurnPacked s map n m x)
  pub c_area : (map : List ℕ) (n m : ℕ) (x : List ℕ) (locality : ℕ) (mask : List ℕ) → KeptPacked 2 9 mask (MaskPacked map n m x locality mask)
  pub c_route : (map : List ℕ) (n m : ℕ) (x : List ℕ) (crossing : ℕ) (route : List ℕ) → KeptPacked 2 10 route (RoutePacked map n m x crossing route)
