-- How many settled crossings are nearer than a distance: it falls along a trail, and stays below n. Assumes nothing.
use mathlib.Core.Path.{◌≡◌, subst}
use mathlib.Core.Bool.{cond, ◌&&◌, and-false}
use mathlib.Core.Logic.{⊎_elim}
use mathlib.Core.List.{List}
use Prim.Native.Nat.{ℕ, zero, suc, ◌≤◌, ◌<◌}
use native.Mathlib.Omega.{arith}
use lib.Dec.{eqb, ltb}
use borrow.Author.Tests.{eqb-true, ltb-true, eq-eqb, lt-ltb, le-ltb}
use Rattle.limits.specs.Limits.{Between}
use Rattle.limits.proofs.Cases.{and_both, cond_cases}
use Rattle.half.specs.Fold.{up_to, tally}
use Rattle.half.specs.Half.{dist, state}
use Rattle.half.proofs.Folds.{last_or, tally_le}
use Rattle.trail.specs.Trail.{Settled}

-- ---- sums that are less

module _ (f g : ℕ → ℕ) (le : (v : ℕ) → f v ≤ g v) where
  tally_mono : (k : ℕ) → tally f k ≤ tally g k
  unfolding tally up_to
  tally_mono zero = omega arith
  tally_mono (suc k) = omega (arith, le (suc k), tally_mono k)

  tally_lt : (k x : ℕ) → Between 1 k x → f x < g x → tally f k < tally g k
  unfolding tally up_to
  tally_lt zero x i lt = absurd (omega arith)
  tally_lt (suc k) x i lt =
      ⊎_elim (λ a. omega (arith, tally_lt k x a lt, le (suc k)))
      (λ a. omega (arith, subst (λ (t : ℕ). f t < g t) a lt, tally_mono k))
      (last_or i)

-- ---- the rank of a distance

module _ (n : ℕ) (h : List ℕ) where
  abbrev is_nearer : ℕ → ℕ → ℕ
  is_nearer d v = cond (eqb (state n h v) 2 && ltb (dist h v) d) 1 0

  is_nearer_lem : (d v : ℕ) → state n h v ≡ 2 → dist h v < d → is_nearer d v ≡ 1
  is_nearer_lem d v s lt = simp (eq-eqb _ _ s, lt-ltb _ _ lt)

  not_nearer : (d v : ℕ) → d ≤ dist h v → is_nearer d v ≡ 0
  not_nearer d v le = simp (le-ltb _ _ le, and-false)

  nearer_one : (d v : ℕ) → is_nearer d v ≤ 1
  nearer_one d v = cond_cases (λ (c : ℕ). c ≤ 1) (eqb (state n h v) 2 && ltb (dist h v) d) (λ _. omega arith) (λ _. omega arith)

  nearer_mono : (d e v : ℕ) → d ≤ e → is_nearer d v ≤ is_nearer e v
  nearer_mono d e v le =
      cond_cases (λ (c : ℕ). c ≤ is_nearer e v) (eqb (state n h v) 2 && ltb (dist h v) d)
      (λ t.
      let b = and_both (eqb (state n h v) 2) (ltb (dist h v) d) t in
      let lt : dist h v < d = ltb-true _ _ b.1 in
      omega (arith, is_nearer_lem e v (eqb-true _ _ b.0) (omega arith)))
      (λ _. omega arith)

  pub rank : ℕ → ℕ
  rank d = tally (is_nearer d) n

  pub rank_lt : (u d : ℕ) → Settled n h u → dist h u < d → rank (dist h u) < rank d
  unfolding rank
  rank_lt u d s lt =
      tally_lt (is_nearer (dist h u)) (is_nearer d) (λ v. nearer_mono (dist h u) d v (omega arith)) n u s.inside
      (omega (arith, not_nearer (dist h u) u (omega arith), is_nearer_lem d u s.settled lt))

  pub rank_top : (v : ℕ) → Between 1 n v → rank (dist h v) < n
  unfolding rank
  rank_top v i =
      omega (
        arith,
        tally_lt (is_nearer (dist h v)) (λ _. 1) (nearer_one (dist h v)) n v i (omega (arith, not_nearer (dist h v) v (omega arith))),
        tally_le (λ _. 1) n (λ _. omega arith),
      )
