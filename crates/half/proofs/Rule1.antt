-- Rule 1: what the nearest open crossing is. Assumes nothing.
use mathlib.Core.Path.{◌≡◌, refl}
use mathlib.Core.Bool.{Bool, true, false, cond, ◌&&◌, ◌||◌}
use mathlib.Core.Logic.{◌≢◌, ⊎_elim}
use mathlib.Core.List.{List}
use Prim.Native.Nat.{ℕ, suc, ◌≤◌, ◌<◌}
use native.Mathlib.Omega.{arith}
use lib.Dec.{eqb, ltb}
use borrow.Author.Tests.{eqb-true, eqb-false, ltb-true, ltb-false}
use Rattle.limits.specs.Limits.{Between}
use Rattle.half.specs.Half.{dist, state, nearer, nearest_open, Before}
use Rattle.half.proofs.Folds.{up_to_keeps, last_or}

-- b is the first of the open crossings among 1 to k, by distance and number
pub record First (n : ℕ) (h : List ℕ) (k b : ℕ) : Type 0 where
  pub inside : Between 1 k b
  pub is_open : state n h b ≡ 1
  pub before : (v : ℕ) → Between 1 k v → state n h v ≡ 1 → Before (dist h b) b (dist h v) v

-- b is 0 and none of the crossings 1 to k is open, or b is the first of the open ones
pub data Nearest (n : ℕ) (h : List ℕ) (k b : ℕ) : Type 0 where
  nothing : b ≡ 0 → ((v : ℕ) → Between 1 k v → state n h v ≢ 1) → Nearest n h k b
  found : First n h k b → Nearest n h k b

module _ (n : ℕ) (h : List ℕ) where
  step : (k b : ℕ) → Nearest n h k b → Nearest n h (suc k) (nearer n h (suc k) b)
  unfolding nearer
  step k b p = go (eqb (state n h (suc k)) 1) (eqb b 0) (ltb (dist h (suc k)) (dist h b)) refl refl refl p
    where
      -- what holds of the crossings 1 to k, and of the one after
      all : (P : ℕ → Type 0) → ((v : ℕ) → Between 1 k v → P v) → P (suc k) → (v : ℕ) → Between 1 (suc k) v → P v
      all P f q v i = ⊎_elim (λ a. f v a) (λ a. rw a q) (last_or i)

      after : ℕ → ℕ → Type 0
      after b v = state n h v ≡ 1 → Before (dist h b) b (dist h v) v

      go : (r s t : Bool) → eqb (state n h (suc k)) 1 ≡ r → eqb b 0 ≡ s → ltb (dist h (suc k)) (dist h b) ≡ t → Nearest n h k b → Nearest n h (suc k) (cond (r && (s || t)) (suc k) b)
      go false s t x y z (nothing e f) = nothing e (all (λ v. state n h v ≢ 1) f (eqb-false _ _ x))
      go false s t x y z (found r) =
          found (record { inside = omega arith; is_open = r.is_open; before = all (after b) r.before (λ q. absurd (eqb-false _ _ x q)) })
      go true true t x y z (nothing e f) =
          found (record { inside = omega arith; is_open = eqb-true _ _ x; before = all (after (suc k)) (λ v i q. absurd (f v i q)) (λ q. omega arith) })
      go true true t x y z (found r) = absurd (omega (arith, eqb-true b 0 y))
      go true false t x y z (nothing e f) = absurd (eqb-false _ _ y e)
      go true false true x y z (found r) =
          let lt : dist h (suc k) < dist h b = ltb-true _ _ z in
          found (record { inside = omega arith; is_open = eqb-true _ _ x; before = all (after (suc k)) (λ v i q. let g = r.before v i q in omega arith) (λ q. omega arith) })
      go true false false x y z (found r) =
          let le : dist h b ≤ dist h (suc k) = ltb-false _ _ z in
          found (record { inside = omega arith; is_open = r.is_open; before = all (after b) r.before (λ q. omega arith) })

  pub nearest_open_lem : Nearest n h n (nearest_open n h)
  unfolding nearest_open
  nearest_open_lem =
      up_to_keeps (nearer n h) (Nearest n h) n (nothing refl (λ v i o. omega arith)) (λ k b i p. step k b p)

-- 0 exactly if no crossing is open
module _ {n : ℕ} {h : List ℕ} {b : ℕ} where
  pub none_open : Nearest n h n b → b ≡ 0 → (v : ℕ) → Between 1 n v → state n h v ≢ 1
  none_open (nothing e f) z = f
  none_open (found r) z = absurd (omega arith)

  pub nearest_first : Nearest n h n b → b ≢ 0 → First n h n b
  nearest_first (nothing e f) ne = absurd (ne e)
  nearest_first (found r) ne = r
