-- What the theorems of the calls say at the five crossings, where what they ask is met. Assumes nothing.
use mathlib.Core.Path.{◌≡◌, refl, ap, ◌∙◌, subst}
use mathlib.Core.List.{List, [], ◌∷◌}
use Prim.Native.Nat.{ℕ}
use native.Mathlib.Omega.{arith}
use lib.ListN.{length, replicate}
use Rattle.map.specs.declared.Side.TheVariants.{Forward, Backward}
use Rattle.shape.specs.Bench.{Bench, WellShaped}
use Rattle.trail.specs.Trail.{Drive}
use Rattle.route.specs.Area.{mask_at, route_of}
use Rattle.demands.specs.Demands.{InArea, left}
use Rattle.claims.specs.Five.{five}
use Rattle.demands.specs.Trails.{InLocal, RouteThrough}
use Rattle.demands.specs.Afterward.{area_number, Afterward}
use Rattle.claims.proofs.Computed.{computed}
use Rattle.demands.proofs.Demands.{sound}
use Rattle.demands.proofs.Afterward.{mask_byte, part_route, afterward}
use Rattle.claims.proofs.Orders.{turns, order_met, finished_met, route_met, lost_met, lost_finished, no_walk_met}

-- ---- from 1 to 5 at stretch 1,200, five turns each

abbrev bench : Bench
bench = left five 5 7 1 5 1200 [] turns

-- what the bench holds
record Holds : Type 0 where
  byte_3 : mask_at five 5 1 bench.forward bench.backward bench.marks 3 ≡ 2
  byte_4 : mask_at five 5 1 bench.forward bench.backward bench.marks 4 ≡ 1
  route_4 : route_of five bench 4 ≡ 1 ∷ 2 ∷ 4 ∷ 2 ∷ 5 ∷ []
  route_5 : route_of five bench 5 ≡ 1 ∷ 2 ∷ 5 ∷ []

holds : Holds
unfolding computed
holds = record { byte_3 = refl; byte_4 = refl; route_4 = refl; route_5 = refl }

afterwards : Afterward five 5 7 1 5 1200 bench
afterwards = afterward order_met [] turns

shaped : WellShaped 5 7 bench
shaped = (sound order_met [] turns).well_shaped

lent : List ℕ
lent = replicate 5 0

-- "locality 0, BL is all; 1: without 4"
fills : area_number five 5 7 1 5 1200 bench 1 (length lent) ≡ 0
unfolding lent
fills = afterwards.area_goes finished_met 10 route_met 1 5 (omega arith) (omega arith)

pub three_local : InLocal five 7 1 5 1200 1 3
three_local = (afterwards.mask_local 1 lent fills 3 (omega arith)).0 (mask_byte five shaped 1 lent fills 3 (omega arith) ∙ holds.byte_3)

pub four_not_local : InArea five 7 1 5 1200 4 × (InLocal five 7 1 5 1200 1 4 → ⊥)
four_not_local = (afterwards.mask_area 1 lent fills 4 (omega arith)).0 (mask_byte five shaped 1 lent fills 4 (omega arith) ∙ holds.byte_4)

-- "route through 4 is 1 2 4 2 5"
pub four_route : RouteThrough five 7 1 5 4 (1 ∷ 2 ∷ 4 ∷ 2 ∷ 5 ∷ [])
unfolding lent
four_route =
    let z = afterwards.route_goes finished_met 4 (length lent) (omega arith) four_not_local.0 (omega (arith, ap length holds.route_4)) in
    subst (RouteThrough five 7 1 5 4) (part_route five shaped 4 lent z ∙ holds.route_4) (afterwards.route_trails 4 lent z)

-- the route through the target costs the optimum
pub five_route : Drive Forward five 7 1 5 (1 ∷ 2 ∷ 5 ∷ []) 10
unfolding lent
five_route =
    let p = afterwards.route_optimal finished_met 10 route_met lent (omega (arith, ap length holds.route_5)) in
    subst (λ (qs : List ℕ). Drive Forward five 7 1 5 qs 10) (part_route five shaped 5 lent p.0 ∙ holds.route_5) p.1

-- ---- "Without the last link (m = 6), start 5, target 1: one turn each settles, both done, refusal 9."

pub no_route : area_number five 5 6 5 1 1000 (left five 5 6 5 1 1000 [] (Forward ∷ Backward ∷ [])) 0 5 ≡ 9
no_route = ((afterward lost_met [] (Forward ∷ Backward ∷ [])).area_none lost_finished 0 5 (omega arith) (omega arith)).1 no_walk_met
