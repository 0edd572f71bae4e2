-- The ways that reading a number goes, one law for each. Assumes nothing.
use Prim.Native.Nat.{ℕ, ◌+◌, ◌*◌, ◌≤◌, ◌<◌}
use mathlib.Core.Path.{◌≡◌}
use mathlib.Core.List.{List}
use native.Mathlib.Numerals.{add-one}
use native.Mathlib.Omega.{arith}
use borrow.Author.Tests.{lt-ltb, le-ltb, eq-eqb, ne_eqb}
use lib.ListN.{length, get_or, drop, drop_of_length-le}
use lib.Seq.{drop-cons}
use Rattle.number.specs.Number.{good, bad, digit_of, grow, begin, number_at}

-- no byte at the place
pub number_none : (s : List ℕ) (at : ℕ) → length s ≤ at → bad at ≡ number_at s at
unfolding number_at begin
number_none s at h = rw (drop_of_length-le s h)

-- the byte at the place
module _ (s : List ℕ) {at b : ℕ} (h : at < length s) (e : b ≡ get_or s at 0) where
  pub number_bad : 9 < digit_of b → bad at ≡ number_at s at
  unfolding number_at begin
  number_bad g = rw (drop-cons s at 0, ← e, lt-ltb 9 (digit_of b))

  pub number_begun : {d : ℕ} → d ≡ digit_of b → d ≤ 9 → number_at s at ≡ grow d (at + 1) (drop (at + 1) s)
  unfolding number_at begin
  number_begun {d} f g = rw (drop-cons s at 0, ← e, ← f, le-ltb 9 d, add-one at)

pub grow_stop : (s : List ℕ) {at : ℕ} → at < length s → (v : ℕ) → 9 < digit_of (get_or s at 0) → grow v at (drop at s) ≡ good v at
unfolding grow
grow_stop s {at} h v g = rw (drop-cons s at 0, lt-ltb 9 (digit_of (get_or s at 0)))

module _ (s : List ℕ) {at d : ℕ} (h : at < length s) (e : d ≡ digit_of (get_or s at 0)) (f : d ≤ 9) where
  pub grow_zero : (v : ℕ) → v ≡ 0 → grow v at (drop at s) ≡ bad at
  unfolding grow
  grow_zero v z = rw (drop-cons s at 0, ← e, le-ltb 9 d, eq-eqb v 0)

  pub grow_big : (v : ℕ) → (v ≡ 0 → ⊥) → 4294967295 < v * 10 + d → grow v at (drop at s) ≡ bad at
  unfolding grow
  grow_big v z b = rw (drop-cons s at 0, ← e, le-ltb 9 d, ne_eqb v 0, lt-ltb 4294967295 (v * 10 + d))

  pub grow_more : (v : ℕ) → (v ≡ 0 → ⊥) → v * 10 + d ≤ 4294967295 → grow v at (drop at s) ≡ grow (v * 10 + d) (at + 1) (drop (at + 1) s)
  unfolding grow
  grow_more v z b = rw (drop-cons s at 0, ← e, le-ltb 9 d, ne_eqb v 0, le-ltb 4294967295 (v * 10 + d), add-one at)

pub grow_end : (s : List ℕ) {at : ℕ} (v : ℕ) → at ≡ length s → grow v at (drop at s) ≡ good v (length s)
unfolding grow
grow_end s {at} v e = let h : length s ≤ at = omega arith in rw (drop_of_length-le s h, e)
