-- Rule 1 on the words of a bench: the next crossing, and when the half is done. Assumes nothing.
use mathlib.Core.Path.{◌≡◌, refl, sym, ap, ◌∙◌}
use mathlib.Core.Bool.{Bool, true}
use mathlib.Core.List.{List}
use Prim.Native.Nat.{ℕ}
use borrow.Author.Tests.{eq-eqb, ne_eqb}
use lib.ListN.{get_or}
use Rattle.map.specs.declared.Side.{Side}
use Rattle.half.specs.Half.{dist, nearest_open}
use Rattle.shape.specs.Bench.{half, parse}
use Rattle.shape.specs.Rules.{next, beyond, done}

module _ (s : Side) (n : ℕ) (y : List ℕ) {x : ℕ} (e : x ≡ nearest_open n (half s (parse n y))) (same : get_or y 0 0 ≡ n) where
  pub next_is : next s (parse n y) ≡ x
  unfolding parse
  next_is = ap (λ (k : ℕ). nearest_open k (half s (parse n y))) same ∙ sym e

  pub done_none : x ≡ 0 → done s (parse n y) ≡ true
  unfolding done
  done_none z = rw (next_is, eq-eqb x 0 z)

  pub done_by : (x ≡ 0 → ⊥) → {stretch optimum d : ℕ} {t : Bool} → stretch ≡ (parse n y).stretch → optimum ≡ (parse n y).optimum → d ≡ dist (half s (parse n y)) x → t ≡ beyond stretch optimum d → done s (parse n y) ≡ t
  unfolding done
  done_by z p q r f = rw next_is (simp (ne_eqb x 0 z) (sym (f ∙ rw (p, q, r) refl)))
