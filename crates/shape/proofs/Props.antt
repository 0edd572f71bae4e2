-- That a half or a bench is well shaped has one proof at most, as a struct's fact needs. Assumes nothing.
use Rattle.std.proofs.Common.{ℕ, List, ◌≡◌, ◌≤◌, ◌⊎◌, inl, inr, ap, arith}
use Rattle.std.proofs.Math.Bridge.{le_prop}
use Rattle.std.proofs.Math.Nat.{ℕ_set}
use Rattle.limits.specs.Limits.{Between}
use Rattle.half.specs.Half.{unknown, ceiling, Shaped, unseen, seen, ShapedHalf}
use Rattle.half.specs.declared.Entry.{Entry}
use Rattle.shape.specs.Bench.{Bench, WellShaped}

either_prop : {A B : Type 0} → (A → B → ⊥) → IsProp A → IsProp B → IsProp (A ⊎ B)
either_prop apart p q (inl a) (inl b) = ap inl (p a b)
either_prop apart p q (inl a) (inr b) = absurd (apart a b)
either_prop apart p q (inr a) (inl b) = absurd (apart b a)
either_prop apart p q (inr a) (inr b) = ap inr (q a b)

shaped_prop : {m : ℕ} {e : Entry} → IsProp (Shaped m e)
shaped_prop (unseen s d k) (unseen t f l) = λ j. unseen (ℕ_set _ _ s t j) (ℕ_set _ _ d f j) (ℕ_set _ _ k l j)
shaped_prop (unseen s d k) (seen t f l) = absurd (omega arith)
shaped_prop (seen s d k) (unseen t f l) = absurd (omega arith)
shaped_prop (seen s d k) (seen t f l) = λ j. seen (between_prop s t j) (le_prop d f j) (le_prop k l j)
  where
    between_prop : {a b x : ℕ} → IsProp (Between a b x)
    between_prop = hlevel le_prop

optimum_prop : {o : ℕ} → IsProp ((o ≡ unknown) ⊎ (o ≤ ceiling))
optimum_prop {o} = either_prop (λ e l. omega arith) (ℕ_set o unknown) le_prop

pub shaped_half_prop : {n m : ℕ} {h : List ℕ} → IsProp (ShapedHalf n m h)
shaped_half_prop = hlevel (ℕ_set, shaped_prop)

pub well_shaped_prop : {n m : ℕ} {b : Bench} → IsProp (WellShaped n m b)
well_shaped_prop = hlevel (le_prop, ℕ_set, shaped_prop, optimum_prop)
