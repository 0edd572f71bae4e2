-- Walking a trail: how it goes on, that it ends, and how to show a thing of all trails. Assumes nothing.
use mathlib.Core.Path.{◌≡◌, refl, sym, ◌∙◌, ap}
use mathlib.Core.Logic.{◌≢◌, dite}
use Rattle.std.proofs.Common.{Option, Some, None, IfSome}
use mathlib.Core.List.{List, [], ◌∷◌}
use Prim.Native.Nat.{ℕ, zero, suc, ◌-◌, ◌≤◌, ◌<◌}
use native.Mathlib.Omega.{arith}
use native.Mathlib.Decide.{ℕ_discrete}
use lib.Dec.{eqb}
use lib.ListN.{length}
use borrow.Author.Tests.{eq-eqb, ne_eqb}
use Rattle.limits.proofs.Cases.{cond_both}
use Rattle.map.specs.Walk.{near}
use Rattle.map.specs.declared.Side.{Side}
use Rattle.half.specs.Half.{or_zero, ceiling, dist, link}
use Rattle.trail.specs.Trail.{after, trail_from, trail, Settled, Trails}
use Rattle.trail.proofs.Rank.{rank, rank_lt, rank_top}

module _ (side : Side) (map : List ℕ) (n : ℕ) (h : List ℕ) (v : ℕ) where
  pub after_none : link n h v ≡ 0 → after side map n h v ≡ 0
  unfolding after
  after_none e = simp (eq-eqb _ _ e)

  pub after_some : link n h v ≢ 0 → after side map n h v ≡ near side map (link n h v)
  unfolding after
  after_some ne = simp (ne_eqb _ _ ne)

  from_none : (k : ℕ) → v ≡ 0 → trail_from side map n h k v ≡ []
  unfolding trail_from
  from_none zero e = refl
  from_none (suc k) e = simp (eq-eqb _ _ e)

  from_more : (k : ℕ) → v ≢ 0 → trail_from side map n h (suc k) v ≡ v ∷ trail_from side map n h k (after side map n h v)
  unfolding trail_from
  from_more k ne = simp (ne_eqb _ _ ne)

  pub trail_none : v ≡ 0 → trail side map n h v ≡ []
  trail_none = from_none n

from_short : (side : Side) (map : List ℕ) (n : ℕ) (h : List ℕ) (k v : ℕ) → length (trail_from side map n h k v) ≤ k
unfolding trail_from
from_short side map n h zero v = omega arith
from_short side map n h (suc k) v =
    cond_both (λ (qs : List ℕ). length qs ≤ suc k) (eqb v 0) (omega arith) (omega (arith, from_short side map n h k (after side map n h v)))

pub trail_short : (side : Side) (map : List ℕ) (n : ℕ) (h : List ℕ) (v : ℕ) → length (trail side map n h v) ≤ n
trail_short side map n h v = from_short side map n h n v

module _ {side : Side} {map : List ℕ} {n : ℕ} {h : List ℕ} (walk : Trails side map n h) where
  -- the crossing after v, if there is one, is settled and nearer
  pub after_settled : (v : ℕ) → Settled n h v → after side map n h v ≢ 0 → Settled n h (after side map n h v)
  after_settled v s ne =
      dite (ℕ_discrete (link n h v) 0) (λ e. absurd (ne (after_none side map n h v e))) (λ e. rw (after_some side map n h v e) (walk.onward v s e).next)

  pub after_nearer : (v : ℕ) → Settled n h v → after side map n h v ≢ 0 → dist h (after side map n h v) < dist h v
  after_nearer v s ne =
      dite (ℕ_discrete (link n h v) 0) (λ e. absurd (ne (after_none side map n h v e))) (λ e. rw (after_some side map n h v e) (walk.onward v s e).nearer)

  rest : (j k u : ℕ) → (u ≢ 0 → Settled n h u) → (u ≢ 0 → rank n h (dist h u) < j) → (u ≢ 0 → rank n h (dist h u) < k) → (Settled n h u → rank n h (dist h u) < j → rank n h (dist h u) < k → trail_from side map n h j u ≡ trail_from side map n h k u) → trail_from side map n h j u ≡ trail_from side map n h k u
  rest j k u s p q more =
      dite (ℕ_discrete u 0) (λ e. from_none side map n h u j e ∙ sym (from_none side map n h u k e)) (λ ne. more (s ne) (p ne) (q ne))

  -- however many crossings are allowed, if they are more than the rank
  enough : (j k v : ℕ) → Settled n h v → rank n h (dist h v) < j → rank n h (dist h v) < k → trail_from side map n h j v ≡ trail_from side map n h k v
  enough zero k v s p q = absurd (omega arith)
  enough (suc j) zero v s p q = absurd (omega arith)
  enough (suc j) (suc k) v s p q =
      let i = s.inside in
      let u = after side map n h v in
      from_more side map n h v j (omega arith) ∙ ap (λ (qs : List ℕ). v ∷ qs) (rest j k u (after_settled v s) (λ ne. falls ne p) (λ ne. falls ne q) (enough j k u)) ∙ sym (from_more side map n h v k (omega arith))
    where
      falls : {k : ℕ} → after side map n h v ≢ 0 → rank n h (dist h v) < suc k → rank n h (dist h (after side map n h v)) < k
      falls ne q = omega (arith, rank_lt n h (after side map n h v) (dist h v) (after_settled v s ne) (after_nearer v s ne))

  -- a trail goes on from a settled crossing
  pub trail_more : (v : ℕ) → Settled n h v → trail side map n h v ≡ v ∷ trail side map n h (after side map n h v)
  trail_more v s =
      let i = s.inside in
      let u = after side map n h v in
      let e : n ≡ suc (n - 1) = omega arith in
      ap (λ (k : ℕ). trail_from side map n h k v) e
      ∙ from_more side map n h v (n - 1) (omega arith)
      ∙ ap (λ (qs : List ℕ). v ∷ qs)
      (rest (n - 1) n u (after_settled v s)
      (λ ne. omega (arith, rank_lt n h u (dist h v) (after_settled v s ne) (after_nearer v s ne), rank_top n h v i))
      (λ ne. rank_top n h u (after_settled v s ne).inside)
      (enough (n - 1) n u))

  -- what holds of the trail of a crossing with link number 0, and of a trail if of the one after it, holds of every trail
  pub trail_induct : (P : ℕ → List ℕ → Type 0)
      → ((v : ℕ) → Settled n h v → link n h v ≡ 0 → P v (v ∷ []))
      → ((v : ℕ) → Settled n h v → link n h v ≢ 0 → P (near side map (link n h v)) (trail side map n h (near side map (link n h v))) → P v (v ∷ trail side map n h (near side map (link n h v))))
      → (v : ℕ) → Settled n h v → P v (trail side map n h v)
  trail_induct P last more v s = go (suc (dist h v)) v s (omega arith)
    where
      go : (d v : ℕ) → Settled n h v → dist h v < d → P v (trail side map n h v)
      go zero v s lt = absurd (omega arith)
      go (suc d) v s lt =
          rw (trail_more v s)
          (dite (ℕ_discrete (link n h v) 0)
          (λ e. rw (after_none side map n h v e, trail_none side map n h 0 refl) (last v s e))
          (λ ne.
          let o = walk.onward v s ne in
          rw (after_some side map n h v ne) (more v s ne (go d (near side map (link n h v)) o.next (omega (arith, o.nearer))))))

  -- a trail has no more crossings than its first is far
  pub trail_few : (v : ℕ) → Settled n h v → length (trail side map n h v) ≤ suc ceiling
  trail_few v s = omega (arith, walk.low v s, few v s)
    where
      few : (v : ℕ) → Settled n h v → length (trail side map n h v) ≤ suc (dist h v)
      few = trail_induct (λ v qs. length qs ≤ suc (dist h v)) (λ v s z. omega arith) (λ v s nz r. omega (arith, r, (walk.onward v s nz).nearer))

  -- ---- a step of a loop, to y

  module _ (v : ℕ) (s : Settled n h v) {y : ℕ} (e : y ≡ after side map n h v) where
    pub step_settled : y ≢ 0 → Settled n h y
    step_settled ne = rw e (after_settled v s (λ z. ne (e ∙ z)))

    pub step_nearer : y ≢ 0 → dist h y < dist h v
    step_nearer ne = rw e (after_nearer v s (λ z. ne (e ∙ z)))

    pub step_trail : trail side map n h v ≡ v ∷ trail side map n h y
    step_trail = rw e (trail_more v s)

  -- ---- a loop stands at a crossing, or has none left

  module _ {at : Option ℕ} {v : ℕ} (here : at ≡ Some v) (s : IfSome at (Settled n h)) where
    pub walk_here : Settled n h v
    walk_here = rw here at s

    pub walk_on : {y : ℕ} → y ≡ after side map n h v → trail side map n h (or_zero at) ≡ v ∷ trail side map n h y
    walk_on e = rw here (step_trail v walk_here e)

    pub walk_long : 1 ≤ length (trail side map n h (or_zero at))
    walk_long = omega (arith, ap length (walk_on refl))

pub walk_done : (side : Side) (map : List ℕ) (n : ℕ) (h : List ℕ) {at : Option ℕ} → at ≡ None → trail side map n h (or_zero at) ≡ []
walk_done side map n h e = rw e (trail_none side map n h 0 refl)
