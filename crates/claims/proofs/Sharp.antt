-- The hypotheses of the demands are needed: without each of them a demand fails, as a small order shows. Assumes nothing.
use mathlib.Core.Path.{◌≡◌, refl, sym, ap, ◌∙◌}
use mathlib.Core.Logic.{◌≢◌, ◌↔◌}
use mathlib.Core.List.{[], ◌∷◌, ◌++◌}
use Prim.Native.Nat.{ℕ, ◌≤◌}
use native.Mathlib.Omega.{arith}
use lib.ListN.{replicate}
use Rattle.limits.specs.Limits.{Between}
use Rattle.map.specs.Walk.{Walk, stay, more, Least}
use Rattle.map.specs.declared.Side.TheVariants.{Forward, Backward}
use Rattle.half.specs.Half.{dist, state, Before}
use Rattle.shape.specs.Bench.{Bench}
use Rattle.demands.specs.Demands.{InArea, mark_of, left, at, Demand2, Demand3}
use Rattle.claims.specs.Five.{five}
use Rattle.claims.proofs.Computed.{computed}
use Rattle.claims.proofs.Orders.{tie_met, area_met}

-- ---- "a stretch in thousandths from 1,000": with 999 on one link from 1 to 2, the half that comes second stops short of the other's root,
-- so who went first can be seen in the bench

pub stretch_999 : Demand3 (1 ∷ 2 ∷ 1 ∷ []) 2 1 1 2 999 [] → ⊥
unfolding computed
stretch_999 d =
    let e = d.mixture (Forward ∷ Forward ∷ Backward ∷ Backward ∷ []) ∙ sym (d.mixture (Backward ∷ Backward ∷ Forward ∷ Forward ∷ [])) in
    let z : ◌≡◌ {A = ℕ} 2 1 = ap (λ (b : Bench). state 2 b.forward 2) e in
    omega arith

-- ---- "a cost from 1": over a link of cost 0 from 2 to 1, crossing 2 is settled before crossing 1, which is as near and has the lower number

free : Least Forward (2 ∷ 1 ∷ 0 ∷ []) 1 2 1 0
unfolding computed
free = record { walk = more (stay refl refl) 1 (omega arith) refl refl refl; least = λ d _. omega arith }

pub cost_0 : Demand3 (2 ∷ 1 ∷ 0 ∷ []) 2 1 2 2 1000 [] → ⊥
unfolding computed
cost_0 d =
    let b = d.nearest Forward 1 0 2 1 0 (omega arith) refl (λ e. let z : ◌≡◌ {A = ℕ} 1 2 = e in omega arith) free in
    let z : 2 ≤ 1 = b.tie refl in
    omega arith

-- ---- "and a cost .. to 65,535": over a link that costs more than the ceiling, the target is never seen, although a walk leads there

dear : Walk Forward (1 ∷ 2 ∷ 268365826 ∷ []) 1 1 2 268365826
unfolding computed
dear = more (stay refl refl) 1 (omega arith) refl refl refl

pub cost_above : Demand2 (1 ∷ 2 ∷ 268365826 ∷ []) 2 1 1 2 1000 (left (1 ∷ 2 ∷ 268365826 ∷ []) 2 1 1 2 1000 [] (Forward ∷ [])) → ⊥
unfolding computed
cost_above d = (d.no_route Forward refl).0 refl 268365826 dear

-- ---- "a tail, a head" in 1 to n: settling 1, whose link leads to 3 of 2 crossings, writes over the state of 1

pub head_3 : Demand3 (1 ∷ 3 ∷ 1 ∷ []) 2 1 1 1 1000 [] → ⊥
unfolding computed
head_3 d = let z : ◌≡◌ {A = ℕ} 0 1 = d.one_more Forward [] refl in omega arith

-- ---- "ties by crossing number": of 3 and 4, both at cost 5, the lower number is settled first; so not by the higher one

pub ties_by_higher : ((u v c : ℕ) → Between 1 5 u → state 5 (at five 5 7 1 5 1200 [] 3 0).forward u ≡ 2 → state 5 (at five 5 7 1 5 1200 [] 3 0).forward v ≢ 2
    → Least Forward five 7 1 v c → Before (dist (at five 5 7 1 5 1200 [] 3 0).forward u) v c u) → ⊥
unfolding computed
ties_by_higher f =
    let b = f 3 4 5 (omega arith) refl (λ e. let z : ◌≡◌ {A = ℕ} 1 2 = e in omega arith) tie_met in
    let z : 4 ≤ 3 = b.tie refl in
    omega arith

-- ---- "start and target in 1 to n": opened at 0, a half settles crossing 1, to which no walk leads from there

nowhere : {c : ℕ} → Walk Forward [] 0 0 1 c → ⊥
nowhere (stay e _) = omega arith
nowhere (more _ k b _ _ _) = omega (arith, b)

pub start_0 : Demand2 [] 1 0 0 1 1000 (left [] 1 0 0 1 1000 [] (Forward ∷ [])) → ⊥
unfolding computed
start_0 d = nowhere (d.costs_least Forward 1 (omega arith) refl).walk

-- ---- "when both workers are done": after four turns each, crossing 4 is in the area and not yet marked

pub not_done : ((v : ℕ) → Between 1 5 v
    → (mark_of five 5 7 1 5 1200 (left five 5 7 1 5 1200 [] (replicate 4 Forward ++ replicate 4 Backward)) v ≡ 1) ↔ InArea five 7 1 5 1200 v) → ⊥
unfolding computed
not_done f = let z : ◌≡◌ {A = ℕ} 0 1 = (f 4 (omega arith)).1 area_met in omega arith
