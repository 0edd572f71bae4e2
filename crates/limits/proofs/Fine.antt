-- Whether all is fine: the steps of a loop that asks, what it says of each place, and of the first fault. Assumes nothing.
use mathlib.Core.Path.{◌≡◌, refl}
use mathlib.Core.Bool.{Bool, true, ◌&&◌, and-eq-true_iff}
use Prim.Native.Nat.{ℕ, zero, suc, ◌-◌, ◌≤◌}
use native.Mathlib.Omega.{arith}
use native.Mathlib.Decide.{ℕ_discrete}
use lib.Dec.{eqb}
use borrow.Author.Tests.{eqb-true, eq-eqb}
use Rattle.limits.specs.First.{first_from, all_fine}
use Rattle.limits.specs.Limits.{Between}
use Rattle.limits.proofs.Laws.{none_first}

module _ (f : ℕ → ℕ) where
  pub fine_start : true ≡ all_fine f 0
  unfolding all_fine
  fine_start = refl

  pub fine_next : (v : ℕ) {s r : Bool} → 1 ≤ v → s ≡ all_fine f (v - 1) → r ≡ eqb (f v) 0 → (s && r) ≡ all_fine f v
  unfolding all_fine
  fine_next zero h p q = elim h [ ]
  fine_next (suc k) h p q = let e : suc k - 1 ≡ k = omega arith in rw (p, q, e)

  pub fine_all : (k : ℕ) → all_fine f k ≡ true → (v : ℕ) → Between 1 k v → f v ≡ 0
  unfolding all_fine
  fine_all zero e v i = omega arith
  fine_all (suc k) e v i = go ((and-eq-true_iff _ _).0 e) (ℕ_discrete v (suc k)) (fine_all k)
    where
      go : (all_fine f k ≡ true) × (eqb (f (suc k)) 0 ≡ true) → Dec (v ≡ suc k) → (all_fine f k ≡ true → (u : ℕ) → Between 1 k u → f u ≡ 0) → f v ≡ 0
      go both (yes z) below = rw z (eqb-true _ _ both.1)
      go both (no ne) below = below both.0 v (omega arith)

  pub all_fine_lem : (k : ℕ) → ((v : ℕ) → Between 1 k v → f v ≡ 0) → all_fine f k ≡ true
  unfolding all_fine
  all_fine_lem zero h = refl
  all_fine_lem (suc k) h = (and-eq-true_iff _ _).1 (all_fine_lem k (λ v i. h v (omega arith)), eq-eqb _ _ (h (suc k) (omega arith)))

  pub fine_first : (k : ℕ) → all_fine f k ≡ true → first_from f 1 k ≡ 0
  fine_first k e = none_first f 1 k (λ j a b. fine_all k e j (omega arith))
