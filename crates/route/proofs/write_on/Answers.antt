-- `route::write_on` meets its contract. Assumes nothing.
use Rattle.std.proofs.Common.{length, sym, ◌∙◌, ap, arith}
use lib.Seq.{sets}
use lib.ListN.{length-set}
use Rattle.trail.proofs.Walking.{walk_long, walk_on, walk_done}
use Rattle.route.proofs.Writing.{on_step}
use Rattle.route.proofs.write_on.Goals as goal

pub bounds-buffer-i : goal.bounds-buffer-i
bounds-buffer-i c =
    let l = c.loop-at in
    omega (arith, l.invariant.1, l.invariant.2, c.requires.1, walk_long c.args.trails.now.walkable c.in-Some.is l.invariant.0)

pub loop-at-smaller : goal.loop-at-smaller
loop-at-smaller c =
    omega (arith, ap length (walk_on c.args.trails.now.walkable c.in-Some.is c.loop-at.invariant.0 c.after-at.ensures.crossing))

pub loop-at-preserved : goal.loop-at-preserved
loop-at-preserved c =
    let l = c.loop-at in
    let t = walk_on c.args.trails.now.walkable c.in-Some.is l.invariant.0 c.after-at.ensures.crossing in
    (c.after-at.ensures.settled, omega (arith, l.invariant.1, ap length t), simp length-set l.invariant.2, l.invariant.3 ∙ on_step l.buffer l.i t)

pub returns : goal.returns
returns c =
    let t = c.args.trails.now in
    let l = c.loop-at in
    let z = walk_done t.side t.map.now t.half.n t.half.words.now c.in_default.is in
    (omega (arith, l.invariant.1, ap length z), sym (l.invariant.3 ∙ ap (sets l.buffer l.i) z))
