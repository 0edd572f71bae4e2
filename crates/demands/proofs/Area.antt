-- A done half knows the optimum, where there is a route; where both are done, the marks are the area. Assumes nothing.
use mathlib.Core.Path.{◌≡◌, refl, sym, ap, ◌∙◌}
use mathlib.Core.Bool.{true, not, true≢false}
use mathlib.Core.List.{List}
use Prim.Native.Nat.{ℕ, ◌+◌, ◌*◌, ◌≤◌}
use native.Mathlib.Nat.{mul-le-mul_right}
use native.Mathlib.Omega.{arith}
use borrow.Author.Tests.{eq-eqb, eqb-true, leb-true, le-leb}
use lib.Dec.{eqb}
use Rattle.limits.specs.Limits.{Between}
use Rattle.limits.proofs.Cases.{and_both, cond_then}
use Rattle.map.specs.Walk.{other, Walk, stay, Least, by_side}
use Rattle.map.specs.declared.Side.{Side}
use Rattle.map.specs.declared.Side.TheVariants.{Forward, Backward}
use Rattle.map.proofs.Walks.{least_unique, least_back}
use Rattle.half.specs.Half.{unknown, ceiling, dist, state}
use Rattle.shape.specs.Rules.{known, within, mark}
use Rattle.demands.specs.Mixture.{Order}
use Rattle.demands.specs.Demands.{InArea}
use Rattle.demands.proofs.Optimum.{known_low, known_unknown, root, goal, after, best, best_is, Best, route, none, best_cases, Route, route_best, route_goal, goal_in, settled_cost, optimum, Optimum, missing, present, optimum_cases}
use Rattle.demands.proofs.Turns.{not_beyond, stops, in_reach, covers}

module _ {map : List ℕ} {n m start target stretch : ℕ} (order : Order map n m start target stretch) where
  -- a done half has settled every crossing in reach, at its least cost
  pub reached : (s : Side) (k v c o : ℕ) → stops order s k ≡ true → Between 1 n v → Least s map m (root order s) v c → Route order o → 1000 * c ≤ stretch * o
      → (state n (after order s k) v ≡ 2) × (dist (after order s k) v ≡ c)
  reached s k v c o e cv p r le =
      let b : stretch * best order ≡ stretch * o = ap (λ (x : ℕ). stretch * x) (best_is order r) in
      let t = covers order s k v cv e (in_reach order s v c cv p ∙ ap not (not_beyond stretch (best order) c (omega arith))) in
      (t, least_unique (settled_cost order s k v cv t) p)

  -- ---- the optimum

  pub finds : (s : Side) (i j : ℕ) → stops order s (by_side s i j) ≡ true → optimum order i j ≡ best order
  finds s i j e = go (optimum_cases order i j) (best_cases order)
    where
      go : Optimum order i j → Best order → optimum order i j ≡ best order
      go (present p _ _) _ = p
      go (missing p _) (none q _) = p ∙ sym q
      go (missing p f) (route r _) =
          absurd (f s (reached s (by_side s i j) (goal order s) (best order) (best order) e (goal_in order s) (route_goal order s r) r (mul-le-mul_right (best order) order.stretch_in.least)).0)

  pub optimum_unknown : (i j : ℕ) → ((c : ℕ) → Walk Forward map m start target c → ⊥) → optimum order i j ≡ unknown
  optimum_unknown i j f = go (optimum_cases order i j)
    where
      go : Optimum order i j → optimum order i j ≡ unknown
      go (missing e _) = e
      go (present _ r _) = absurd (f _ r.walk)

  -- ---- the marks

  abbrev mark_of : ℕ → ℕ → ℕ → ℕ
  mark_of i j v = mark n stretch (optimum order i j) (after order Forward i) (after order Backward j) v

  abbrev Area : ℕ → Type 0
  Area v = InArea map m start target stretch v

  -- a marked crossing is in the area, at any time
  pub mark_sound : (i j v : ℕ) → Between 1 n v → mark_of i j v ≡ 1 → Area v
  unfolding mark within other
  mark_sound i j v cv e =
      let (a, p) = and_both (known (optimum order i j)) _ (cond_then _ e (λ z. omega arith)).0 in
      let (b, q) = and_both (eqb (state n (after order Forward i) v) 2) _ p in
      let (c, r) = and_both (eqb (state n (after order Backward j) v) 2) _ q in
      go a (leb-true _ _ r)
      (settled_cost order Forward i v cv (eqb-true _ _ b))
      (least_back (settled_cost order Backward j v cv (eqb-true _ _ c)))
      (optimum_cases order i j)
    where
      go : known (optimum order i j) ≡ true → 1000 * (dist (after order Forward i) v + dist (after order Backward j) v) ≤ stretch * optimum order i j
          → Least Forward map m start v (dist (after order Forward i) v) → Least Forward map m v target (dist (after order Backward j) v) → Optimum order i j → Area v
      go a le p q (missing e _) = absurd (true≢false (sym a ∙ known_unknown _ e))
      go a le p q (present e r _) =
          record {
            from = dist (after order Forward i) v;
            to = dist (after order Backward j) v;
            optimum = best order;
            from_least = p;
            to_least = q;
            optimum_least = r;
            within = rw e at le;
          }

  -- where both halves are done, every crossing of the area is marked
  pub mark_complete : (i j v : ℕ) → Between 1 n v → stops order Forward i ≡ true → stops order Backward j ≡ true → Area v → mark_of i j v ≡ 1
  unfolding mark within other
  mark_complete i j v cv ef eb p =
      let o = p.optimum_least in
      let w = p.within in
      let (a, d) = reached Forward i v p.from p.optimum ef cv p.from_least o (omega arith) in
      let (b, e) = reached Backward j v p.to p.optimum eb cv (least_back p.to_least) o (omega arith) in
      let q : optimum order i j ≡ p.optimum = finds Forward i j ef ∙ best_is order o in
      let l : p.optimum ≤ ceiling = omega (arith, (route_best order o).1, best_is order o) in
      rw (q, known_low p.optimum l, eq-eqb _ 2 a, eq-eqb _ 2 b, d, e, le-leb (1000 * (p.from + p.to)) (stretch * p.optimum) w) refl

  -- with a route, start and target are in the area
  pub ends_in : (o : ℕ) → Route order o → (s : Side) → Area (root order s)
  ends_in o p s = go s (mul-le-mul_right o order.stretch_in.least)
    where
      here : (v : ℕ) → Least Forward map m v v 0
      here v = record { walk = stay refl refl; least = λ d _. omega arith }

      go : (s : Side) → 1000 * o ≤ stretch * o → Area (root order s)
      go Forward le = record { from = 0; to = o; optimum = o; from_least = here start; to_least = p; optimum_least = p; within = omega arith }
      go Backward le = record { from = o; to = 0; optimum = o; from_least = p; to_least = here target; optimum_least = p; within = omega arith }
