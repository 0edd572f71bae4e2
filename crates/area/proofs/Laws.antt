-- When a bench is finished, and that its trails can be walked then. Assumes nothing.
use Rattle.std.proofs.Common.{◌≡◌, ℕ, List, true, false, ◌&&◌, ◌-◌, get_or, arith}
use Rattle.limits.specs.Limits.{Between}
use Rattle.limits.proofs.Cases.{and_both, cond_then}
use Rattle.limits.proofs.Laws.{or_else_none}
use Rattle.map.specs.Map.{Valid}
use Rattle.map.specs.declared.Side.{Side}
use Rattle.map.specs.declared.Side.TheVariants.{Forward, Backward}
use Rattle.shape.specs.Bench.{Bench, half, root, parse, WellShaped}
use Rattle.shape.specs.Rules.{done}
use Rattle.trail.specs.Sound.{SoundHalf}
use Rattle.trail.specs.Trail.{Settled, Trails, Walkable}
use Rattle.trail.proofs.Soundness.{fault_sound, fault_marks, sound_walkable}
use Rattle.area.specs.Finished.{done_fault, rule_fault, trails_fault, finished_fault}

-- ---- both halves are done

module _ (b : Bench) where
  pub fault_done : done_fault b ≡ 0 → (s : Side) → done s b ≡ true
  unfolding done_fault
  fault_done z = let p = and_both _ _ (cond_then (done Forward b && done Backward b) z (λ e. omega arith)).0 in λ s. elim s as (λ t. done t b ≡ true) [ Forward ↦ p.0 | Backward ↦ p.1 ]

  pub done_fault_lem : ((s : Side) → done s b ≡ true) → done_fault b ≡ 0
  unfolding done_fault
  done_fault_lem d = rw (d Forward, d Backward)

  pub forward_open : false ≡ done Forward b → 8 ≡ done_fault b
  unfolding done_fault
  forward_open e = rw (← e)

  pub backward_open : true ≡ done Forward b → false ≡ done Backward b → 8 ≡ done_fault b
  unfolding done_fault
  backward_open e f = rw (← e, ← f)

  pub both_done : true ≡ done Forward b → true ≡ done Backward b → 0 ≡ done_fault b
  unfolding done_fault
  both_done e f = rw (← e, ← f)

-- ---- the words of a bench that is well shaped

pub first_word : (n m : ℕ) (x : List ℕ) → WellShaped n m (parse n x) → get_or x 0 0 ≡ n
unfolding parse
first_word n m x w = w.same_n

-- ---- a finished bench

by_side_lem : {map : List ℕ} {n m : ℕ} (b : Bench) → SoundHalf Forward map n m b.start b.forward → SoundHalf Backward map n m b.target b.backward
    → (s : Side) → SoundHalf s map n m (root s b) (half s b)
by_side_lem b f g Forward = f
by_side_lem b f g Backward = g

pub finished_walkable : {map : List ℕ} {n m : ℕ} {b : Bench} → Valid n m map → WellShaped n m b → finished_fault map n m b ≡ 0 → Walkable map n b.forward b.backward b.marks
unfolding finished_fault trails_fault rule_fault
finished_walkable {map} {n} {m} {b} valid shaped z =
    let a = or_else_none _ _ (or_else_none _ _ (or_else_none _ _ z).1).1 in
    let c = or_else_none _ _ a.1 in
    let there = fault_sound Forward map n m b.start b.forward shaped.start_in a.0 in
    let back = fault_sound Backward map n m b.target b.backward shaped.target_in c.0 in
    let marks = fault_marks n b.stretch b.optimum b.forward b.backward b.marks shaped.marks_room c.1 in
    sound_walkable b valid shaped (by_side_lem b there back) (rw shaped.same_n marks)

-- of a marked crossing
pub finished_routed : {map : List ℕ} {n m : ℕ} {b : Bench} (crossing : ℕ) → Valid n m map → WellShaped n m b → finished_fault map n m b ≡ 0 → Between 1 n crossing → (get_or b.marks (crossing - 1) 0 ≡ 0 → ⊥)
    → Trails Forward map n b.forward × Trails Backward map n b.backward × Settled n b.forward crossing × Settled n b.backward crossing
finished_routed {b = b} crossing valid shaped z inside marked =
    let w = finished_walkable valid shaped z in
    let one : get_or b.marks (crossing - 1) 0 ≡ 1 = omega (arith, marked, shaped.marks_in crossing inside) in
    (w.forward, w.backward, w.marked_forward crossing inside one, w.marked_backward crossing inside one)
