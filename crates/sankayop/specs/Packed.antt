-- An answer in one 64-bit number: its number of refusal, 0 for none, and its two values, of which those that it does not have are 0.
-- Assumes nothing.
use Rattle.std.specs.Prelude.{Result, Ok, Err, List, ℕ, ◌+◌, ◌*◌, ◌<◌, get_or}
use Rattle.limits.specs.Said.{Said, told, refused}

abbrev pub number : Said → ℕ
number (told vs) = 0
number (refused r vs) = r

abbrev pub values : Said → List ℕ
values (told vs) = vs
values (refused r vs) = vs

abbrev pub first : Said → ℕ
first s = get_or (values s) 0 0

abbrev pub second : Said → ℕ
second s = get_or (values s) 1 0

-- number x 2^56 + first x 2^28 + second
abbrev pub in_one : ℕ → ℕ → ℕ → ℕ
in_one number first second = number * 72057594037927936 + first * 268435456 + second

unfoldable pub packed : Said → ℕ
packed s = in_one (number s) (first s) (second s)

-- what can be taken apart again: a number of refusal below 2^8, and two values below 2^28
pub record Fits (number first second : ℕ) : Type 0 where
  pub few : number < 256
  pub first_in : first < 268435456
  pub second_in : second < 268435456

abbrev pub Packs : Said → Type 0
Packs s = Fits (number s) (first s) (second s)

-- what an answer says, by what is said of its Ok and of its Err
abbrev pub said_either : {A E : Type 0} → (A → Said) → (E → Said) → Result A E → Said
said_either f g (Ok a) = f a
said_either f g (Err e) = g e
