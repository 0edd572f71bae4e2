-- The hypotheses of the demands are met: orders at the five crossings with a route and without one, both halves done. Assumes nothing.
use mathlib.Core.Path.{◌≡◌, refl}
use mathlib.Core.List.{List, [], ◌∷◌, ◌++◌}
use native.Mathlib.Omega.{arith}
use lib.ListN.{replicate}
use Rattle.map.specs.Map.{Valid}
use Rattle.map.specs.Walk.{Least}
use Rattle.map.specs.declared.Side.{Side}
use Rattle.map.specs.declared.Side.TheVariants.{Forward, Backward}
use Rattle.map.proofs.Laws.{fault_valid}
use Rattle.demands.specs.Mixture.{Order, turns_of}
use Rattle.demands.specs.Demands.{InArea, NoWalk, Finished, left}
use Rattle.claims.specs.Five.{five}
use Rattle.claims.proofs.Computed.{computed}
use Rattle.demands.proofs.Demands.{demand_2}

-- five turns each, forward first
abbrev pub turns : List Side
turns = replicate 5 Forward ++ replicate 5 Backward

-- ---- start 1, target 5, stretch 1,200

five_valid : Valid 5 7 five
unfolding computed
five_valid = fault_valid 5 7 five refl

pub order_met : Order five 5 7 1 5 1200
order_met = record { valid = five_valid; start_in = omega arith; target_in = omega arith; stretch_in = omega arith }

pub finished_met : Finished five 5 7 1 5 1200 (left five 5 7 1 5 1200 [] turns)
unfolding computed
finished_met Forward = refl
finished_met Backward = refl

pub turns_met : (s : Side) → turns_of s five 5 7 1 5 1200 ≡ 5
unfolding computed
turns_met Forward = refl
turns_met Backward = refl

pub route_met : Least Forward five 7 1 5 10
unfolding computed
route_met = (demand_2 order_met [] turns).costs_least Forward 5 (omega arith) refl

pub tie_met : Least Forward five 7 1 4 5
unfolding computed
tie_met = (demand_2 order_met [] turns).costs_least Forward 4 (omega arith) refl

pub area_met : InArea five 7 1 5 1200 4
unfolding computed
area_met = ((demand_2 order_met [] turns).marked_area finished_met 4 (omega arith)).0 refl

-- ---- without the last link, start 5, target 1

six_valid : Valid 5 6 five
unfolding computed
six_valid = fault_valid 5 6 five refl

pub lost_met : Order five 5 6 5 1 1000
lost_met = record { valid = six_valid; start_in = omega arith; target_in = omega arith; stretch_in = omega arith }

pub lost_finished : Finished five 5 6 5 1 1000 (left five 5 6 5 1 1000 [] (Forward ∷ Backward ∷ []))
unfolding computed
lost_finished Forward = refl
lost_finished Backward = refl

pub no_walk_met : NoWalk five 5 6 5 1 1000
unfolding computed
no_walk_met = ((demand_2 lost_met [] (Forward ∷ Backward ∷ [])).no_route Forward (lost_finished Forward)).0 refl
