-- Laws of folds over 1 to k and of sums: the step of a loop, what a fold keeps, and one more at one place. Assumes nothing.
use mathlib.Core.Path.{◌≡◌, refl, subst}
use mathlib.Core.Logic.{◌≢◌, ◌⊎◌, inl, inr, ⊎_elim}
use Prim.Native.Nat.{ℕ, zero, suc, ◌-◌, ◌≤◌}
use native.Mathlib.Omega.{arith}
use native.Mathlib.Nat.{le-suc_iff}
use Rattle.limits.specs.Limits.{Between}
use Rattle.half.specs.Fold.{up_to, tally}

-- ---- folds

module _ {ℓ} {A : Type ℓ} (f : ℕ → A → A) where
  -- the step of a loop that has gone over the numbers below v
  pub up_to_next : (j : ℕ) (a : A) (v : ℕ) {b c : A} → j ≡ v → 1 ≤ v → c ≡ f v b → b ≡ up_to f (v - 1) a → up_to f j a ≡ c
  unfolding up_to
  up_to_next j a zero i h p q = elim h [ ]
  up_to_next j a (suc k) i h p q = let e : suc k - 1 ≡ k = omega arith in rw (i, p, q, e)

  -- what holds at the start and is kept by each step holds after k steps
  pub up_to_keeps {κ} : (P : ℕ → A → Type κ) (m : ℕ) {a : A} → P 0 a → ((k : ℕ) (x : A) → Between 1 m (suc k) → P k x → P (suc k) (f (suc k) x)) → P m (up_to f m a)
  unfolding up_to
  up_to_keeps P zero z s = z
  up_to_keeps P (suc m) {a} z s =
      s m (up_to f m a) (omega arith) (up_to_keeps P m z (λ k x i. s k x (omega arith)))

-- ---- sums

-- a number among the first suc k is among the first k, or is the last
pub last_or : {k v : ℕ} → Between 1 (suc k) v → Between 1 k v ⊎ (v ≡ suc k)
last_or i = ⊎_elim (λ a. inl (record { least = i.least; most = a })) (λ a. inr a) (le-suc_iff.0 i.most)

up : {k v : ℕ} → Between 1 k v → Between 1 (suc k) v
up i = omega arith

pub tally_le : (f : ℕ → ℕ) (k : ℕ) → ((v : ℕ) → f v ≤ 1) → tally f k ≤ k
unfolding tally up_to
tally_le f zero le = omega arith
tally_le f (suc k) le = omega (arith, le (suc k), tally_le f k le)

module _ (f g : ℕ → ℕ) where
  pub tally_same : (k : ℕ) → ((v : ℕ) → Between 1 k v → f v ≡ g v) → tally f k ≡ tally g k
  unfolding tally up_to
  tally_same zero e = refl
  tally_same (suc k) e = omega (arith, e (suc k) (omega arith), tally_same k (λ v i. e v (up i)))

  -- one more at x, and the same elsewhere
  pub tally_more : (k x : ℕ) → Between 1 k x → suc (f x) ≡ g x → ((v : ℕ) → Between 1 k v → v ≢ x → f v ≡ g v) → suc (tally f k) ≡ tally g k
  unfolding tally up_to
  tally_more zero x i more e = omega arith
  tally_more (suc k) x i more e =
      ⊎_elim (λ a. omega (arith, tally_more k x a more (λ v j. e v (up j)), e (suc k) (omega arith) (omega arith)))
      (λ a. omega (arith, subst (λ (t : ℕ). suc (f t) ≡ g t) a more, tally_same k (λ v j. e v (up j) (omega arith))))
      (last_or i)
