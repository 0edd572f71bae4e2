-- `route::BothTrails::fill_mask` meets its contract. The loop's invariant: writing the rest, from x on, gives the whole. Assumes nothing.
use Rattle.std.proofs.Common.{◌≡◌, ◌+◌, ◌-◌, ◌≤◌, length}
use lib.Seq.{sets}
use Rattle.shape.specs.Rules.{list_from}
use Rattle.route.specs.Area.{mask_at, mask_in}
use Rattle.route.proofs.BothTrails.fill_mask.Given as goal

abbrev pub invariant-loop-x : goal.invariant-loop-x
invariant-loop-x l =
    let t = l.self in
    let n = t.halves.forward.n in
    let f = t.halves.forward.words.now in
    let g = t.halves.backward.words.now in
    (l.x ≤ n + 1)
    × (length l.mask ≡ length l.initial.mask)
    × (sets l.initial.mask 0 (mask_in t.map.now n l.locality f g l.marks) ≡ sets l.mask (l.x - 1) (list_from (mask_at t.map.now n l.locality f g l.marks) l.x (n + 1 - l.x)))
