-- The numbers of the table of refusals, and the number that an answer refuses with. Assumes nothing.
use Rattle.std.specs.Prelude.{◌≡◌, ℕ, Result, Ok, Err}
use Rattle.limits.specs.Limits.{Between}
use Rattle.limits.specs.declared.Refusal.{Refusal}
use Rattle.limits.specs.declared.Refusal.TheVariants.{Layout, Count, Room, Crossing, Amount, Shape, Trails, NotDone, NoRoute, Unmarked}

abbrev pub number_of : Refusal → ℕ
number_of Layout = 1
number_of Count = 2
number_of Room = 3
number_of Crossing = 4
number_of Amount = 5
number_of Shape = 6
number_of Trails = 7
number_of NotDone = 8
number_of NoRoute = 9
number_of Unmarked = 10

-- the number of an answer that refuses, 0 of any other
abbrev pub fault_of : {A : Type 0} → Result A Refusal → ℕ
fault_of (Ok a) = 0
fault_of (Err r) = number_of r

-- a check, given by its possible answers, tells these numbers of 1 to n
abbrev pub Tells : (ℕ → Result (Unit {0}) Refusal → Type 0) → ℕ → (ℕ → ℕ) → Type 0
Tells answers n fault = (v : ℕ) (r : Result (Unit {0}) Refusal) → Between 1 n v → answers v r → fault_of r ≡ fault v
