-- `trail::Trails::length` meets its contract. Assumes nothing.
use Rattle.std.proofs.Common.{length, ap, arith}
use Rattle.trail.proofs.Walking.{trail_few, walk_long, walk_on, walk_done}
use Rattle.trail.proofs.Trails.length.Goals as goal

pub overflow_add-count : goal.overflow_add-count
overflow_add-count c =
    let s = c.args.self.now in
    let l = c.loop-at in
    omega (arith, trail_few s.walkable c.args.x c.requires, l.invariant.1, walk_long s.walkable c.in-Some.is l.invariant.0)

pub loop-at-smaller : goal.loop-at-smaller
loop-at-smaller c =
    let s = c.args.self.now in
    let l = c.loop-at in
    omega (arith, ap length (walk_on s.walkable c.in-Some.is l.invariant.0 c.after-at.ensures.crossing))

pub loop-at-preserved : goal.loop-at-preserved
loop-at-preserved c =
    let s = c.args.self.now in
    let l = c.loop-at in
    (c.after-at.ensures.settled, omega (arith, l.invariant.1, ap length (walk_on s.walkable c.in-Some.is l.invariant.0 c.after-at.ensures.crossing)))

pub returns : goal.returns
returns c =
    let s = c.args.self.now in
    let l = c.loop-at in
    omega (arith, l.invariant.1, ap length (walk_done s.side s.map.now s.half.n s.half.words.now c.in_default.is))
