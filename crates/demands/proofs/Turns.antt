-- How many turns a half takes until it is done: as many as there are crossings in reach. Assumes nothing.
use mathlib.Core.Path.{◌≡◌, refl, sym, ap, ◌∙◌}
use mathlib.Core.Bool.{Bool, true, false, cond, not, and-false, true≢false}
use mathlib.Core.Logic.{◌≢◌, ◌↔◌, ◌⊎◌, ⊎_elim, dite}
use mathlib.Core.List.{List}
use Prim.Native.Nat.{ℕ, zero, suc, ◌+◌, ◌*◌, ◌≤◌, ◌<◌}
use native.Mathlib.Decide.{ℕ_discrete}
use native.Mathlib.Nat.{mul-le-mul_right}
use native.Mathlib.Omega.{arith}
use borrow.Author.Tests.{eq-eqb, ne_eqb, eqb-true, eqb-false, leb-true, lt-leb, leb-false, le-leb, not-true, not-false}
use lib.Dec.{eqb}
use Rattle.limits.specs.Limits.{Between}
use Rattle.map.specs.Walk.{stay, Least}
use Rattle.map.specs.declared.Side.{Side}
use Rattle.map.proofs.Walks.{least_unique}
use Rattle.half.specs.Fold.{up_to, tally}
use Rattle.half.specs.Half.{unknown, ceiling, dist, state, settled_count}
use Rattle.half.proofs.Folds.{tally_le}
use Rattle.shape.specs.Rules.{known, within, beyond}
use Rattle.limits.proofs.Cases.{and_both, cond_cases, cond_else}
use Rattle.nearest.proofs.Theorems.{settled_reached, settled_count_lem}
use Rattle.demands.specs.Mixture.{Order, is_in_reach, turns_of}
use Rattle.demands.proofs.Optimum.{known_low, known_unknown, root, goal, after, next, best, best_is, Best, route, none, best_cases, Route, route_best, route_goal, root_in, settled_cost, walk_settled, settled_turn, next_cost, next_in, next_near}

-- ---- tests and sums

tick_le : (a b : Bool) → (a ≡ true → b ≡ true) → ◌≤◌ (cond a 1 0) (cond b 1 0)
tick_le false b f = omega arith
tick_le true b f = rw (f refl) (omega arith)

tally_mono : (f g : ℕ → ℕ) (k : ℕ) → ((v : ℕ) → Between 1 k v → f v ≤ g v) → tally f k ≤ tally g k
unfolding tally up_to
tally_mono f g zero le = omega arith
tally_mono f g (suc k) le = omega (arith, le (suc k) (omega arith), tally_mono f g k (λ v i. le v (omega arith)))

-- ---- rule 1's comparison

beyond_more : (stretch o d c : ℕ) → beyond stretch o d ≡ true → d ≤ c → beyond stretch o c ≡ true
unfolding beyond within
beyond_more stretch o d c e le =
    let p = and_both (known o) _ e in
    rw (p.0, lt-leb (1000 * (c + 0)) (stretch * o) (omega (arith, leb-false (1000 * (d + 0)) (stretch * o) (not-true _ p.1)))) refl

beyond_under : (stretch o d : ℕ) → o ≤ ceiling → beyond stretch o d ≡ false → 1000 * d ≤ stretch * o
unfolding beyond within
beyond_under stretch o d le e = omega (arith, leb-true (1000 * (d + 0)) (stretch * o) (not-false _ (simp (known_low o le) at e)))

pub not_beyond : (stretch o d : ℕ) → 1000 * d ≤ stretch * o → beyond stretch o d ≡ false
unfolding beyond within
not_beyond stretch o d le = rw (le-leb (1000 * (d + 0)) (stretch * o) (omega arith)) (and-false (known o))

unknown_beyond : (stretch o d : ℕ) → o ≡ unknown → beyond stretch o d ≡ false
unfolding beyond
unknown_beyond stretch o d e = simp (known_unknown o e)

module _ {map : List ℕ} {n m start target stretch : ℕ} (order : Order map n m start target stretch) where
  -- done by rule 1, were the optimum known from the first
  abbrev pub stops_by : Side → ℕ → ℕ → Bool
  stops_by s k o = cond (eqb (next order s k) 0) true (beyond stretch o (dist (after order s k) (next order s k)))

  abbrev pub stops : Side → ℕ → Bool
  stops s k = stops_by s k (best order)

  abbrev pub turns : Side → ℕ
  turns s = turns_of s map n m start target stretch

  -- rule 1 reads the optimum, where it is known, and is not yet at its limit where the half has not come to the other root
  pub stops_same : (s : Side) (k o : ℕ) → (o ≡ best order) ⊎ ((o ≡ unknown) × (state n (after order s k) (goal order s) ≢ 2)) → stops_by s k o ≡ stops s k
  stops_same s k o w =
      ⊎_elim (λ e. ap (stops_by s k) e)
      (λ p. dite (ℕ_discrete (next order s k) 0)
      (λ e. simp (eq-eqb _ _ e))
      (λ ne. simp (ne_eqb _ _ ne) (unknown_beyond stretch o _ p.0 ∙ sym (near ne p.1 (best_cases order)))))
      w
    where
      near : next order s k ≢ 0 → state n (after order s k) (goal order s) ≢ 2 → Best order → beyond stretch (best order) (dist (after order s k) (next order s k)) ≡ false
      near ne a (none e _) = unknown_beyond stretch _ _ e
      near ne a (route r _) =
          not_beyond stretch (best order) _
          (omega (arith, next_near order s k (goal order s) (best order) ne a (route_goal order s r).walk, mul-le-mul_right (best order) order.stretch_in.least))

  module _ (s : Side) where
    abbrev pub inside : ℕ → Bool
    inside v = is_in_reach n stretch (best order) (after order s n) v

    -- a walk leads to it, and it is not beyond the limit
    pub in_reach : (v c : ℕ) → Between 1 n v → Least s map m (root order s) v c → inside v ≡ not (beyond stretch (best order) c)
    unfolding is_in_reach
    in_reach v c cv p =
        let e = walk_settled order s v c cv p.walk in
        simp (eq-eqb _ _ e, least_unique (settled_cost order s n v cv e) p)

    reach_least : (v : ℕ) → Between 1 n v → inside v ≡ true → (c : ℕ) × Least s map m (root order s) v c × (beyond stretch (best order) c ≡ false)
    unfolding is_in_reach
    reach_least v cv e =
        let p = and_both (eqb (state n (after order s n) v) 2) _ e in
        (dist (after order s n) v, settled_cost order s n v cv (eqb-true _ _ p.0), not-true _ p.1)

    -- so it is counted exactly if it has a least cost and, where there is a route, with 1,000 x it <= stretch x optimum
    pub reach_exactly : (v : ℕ) → Between 1 n v → (inside v ≡ true) ↔ ((c : ℕ) × Least s map m (root order s) v c × ((o : ℕ) → Route order o → 1000 * c ≤ stretch * o))
    reach_exactly v cv = (
      λ e. let (c, p, near) = reach_least v cv e in
          (c, p, λ o r. let q = best_is order r in rw q at (beyond_under stretch (best order) c (route_best order r).1 near)),
      λ (c, p, f). in_reach v c cv p ∙ ap not (go c f (best_cases order)),
    )
      where
        go : (c : ℕ) → ((o : ℕ) → Route order o → 1000 * c ≤ stretch * o) → Best order → beyond stretch (best order) c ≡ false
        go c f (route r _) = not_beyond stretch (best order) c (f _ r)
        go c f (none e _) = unknown_beyond stretch _ _ e

    -- ---- what a half not done settles is in reach, and a done half has settled all that is

    pub going : (k : ℕ) → stops s k ≡ false → (next order s k ≢ 0) × (inside (next order s k) ≡ true)
    going k e =
        let p = cond_else (eqb (next order s k) 0) e true≢false in
        let ne = eqb-false _ _ p.0 in
        (ne, in_reach (next order s k) _ (next_in order s k ne).0 (next_cost order s k ne) ∙ ap not p.1)

    pub covers : (k v : ℕ) → Between 1 n v → stops s k ≡ true → inside v ≡ true → state n (after order s k) v ≡ 2
    covers k v cv e p =
        let (c, l, near) = reach_least v cv p in
        dite (ℕ_discrete (state n (after order s k) v) 2) (λ y. y)
        (λ o. dite (ℕ_discrete (next order s k) 0)
        (λ z. (settled_reached s map n m (root order s) order.valid (root_in order s) k v cv z).1 (c, l.walk))
        (λ ne. absurd (true≢false (sym (beyond_more stretch (best order) _ c (simp (ne_eqb _ _ ne) at e) (next_near order s k v c ne o l.walk)) ∙ near))))

    settled_within : (k : ℕ) → ((j : ℕ) → j < k → stops s j ≡ false) → settled_count n (after order s k) ≤ turns s
    unfolding settled_count turns_of
    settled_within k f =
        tally_mono _ _ n (λ v i. tick_le (eqb (state n (after order s k) v) 2) (inside v)
        (λ e. let (j, lt, q) = settled_turn order s k v i (eqb-true _ _ e) in
        ap inside (sym q) ∙ (going j (f j lt)).1))

    within_settled : (k : ℕ) → stops s k ≡ true → turns s ≤ settled_count n (after order s k)
    unfolding settled_count turns_of
    within_settled k e =
        tally_mono _ _ n (λ v i. tick_le (inside v) (eqb (state n (after order s k) v) 2) (λ p. eq-eqb _ _ (covers k v i e p)))

    counted : (k : ℕ) → ((j : ℕ) → j < k → stops s j ≡ false) → settled_count n (after order s k) ≡ k
    counted k f = settled_count_lem s map n m (root order s) order.valid (root_in order s) k (λ j lt. (going j (f j lt)).0)

    -- ---- done after exactly that many turns

    pub turns_low : turns s ≤ n
    unfolding turns_of
    turns_low = tally_le _ n (λ v. cond_cases (λ (c : ℕ). c ≤ 1) (inside v) (λ _. omega arith) (λ _. omega arith))

    pub before_turns : (k : ℕ) → k ≤ turns s → (j : ℕ) → j < k → stops s j ≡ false
    before_turns zero le j lt = absurd (omega arith)
    before_turns (suc k) le j lt = go (stops s k) refl (before_turns k (omega arith))
      where
        go : (t : Bool) → stops s k ≡ t → ((i : ℕ) → i < k → stops s i ≡ false) → stops s j ≡ false
        go true e f = absurd (omega (arith, counted k f, within_settled k e))
        go false e f = dite (ℕ_discrete j k) (λ z. rw z e) (λ ne. f j (omega arith))

    pub at_turns : stops s (turns s) ≡ true
    at_turns = go (stops s (turns s)) refl
      where
        go : (t : Bool) → stops s (turns s) ≡ t → t ≡ true
        go true e = refl
        go false e =
            let f : (j : ℕ) → j < suc (turns s) → stops s j ≡ false =
            λ j lt. dite (ℕ_discrete j (turns s)) (λ z. rw z e) (λ ne. before_turns (turns s) (omega arith) j (omega arith)) in
            absurd (omega (arith, counted (suc (turns s)) f, settled_within (suc (turns s)) f))

    pub settled_turns : (k : ℕ) → k ≤ turns s → settled_count n (after order s k) ≡ k
    settled_turns k le = counted k (before_turns k le)

    -- no half is done before it has settled its root
    pub stops_some : (k : ℕ) → stops s k ≡ true → 1 ≤ k
    stops_some (suc k) e = omega arith
    stops_some zero e =
        let p : Least s map m (root order s) (root order s) 0 = record { walk = stay refl refl; least = λ d _. omega arith } in
        let t = covers 0 (root order s) (root_in order s) e (in_reach (root order s) 0 (root_in order s) p ∙ ap not (not_beyond stretch (best order) 0 (omega arith))) in
        absurd (omega (arith, (settled_turn order s 0 (root order s) (root_in order s) t).1))
