-- `route::write_back` meets its contract. Assumes nothing.
use Rattle.std.proofs.Common.{ℕ, List, length, reverse, sym, ◌∙◌, ap, arith}
use lib.Seq.{sets}
use lib.ListN.{length-set}
use Rattle.trail.proofs.Walking.{walk_long, walk_on, walk_done}
use Rattle.route.proofs.Writing.{back_step}
use Rattle.route.proofs.write_back.Goals as goal

pub overflow_sub-j : goal.overflow_sub-j
overflow_sub-j c =
    let l = c.loop-at in
    omega (arith, l.invariant.1, walk_long c.args.trails.now.walkable c.in-Some.is l.invariant.0)

pub bounds-buffer-j : goal.bounds-buffer-j
bounds-buffer-j c =
    let l = c.loop-at in
    omega (arith, l.invariant.1, l.invariant.2, l.invariant.3, c.requires.2, walk_long c.args.trails.now.walkable c.in-Some.is l.invariant.0)

pub loop-at-smaller : goal.loop-at-smaller
loop-at-smaller c =
    omega (arith, ap length (walk_on c.args.trails.now.walkable c.in-Some.is c.loop-at.invariant.0 c.after-at.ensures.crossing))

pub loop-at-preserved : goal.loop-at-preserved
loop-at-preserved c =
    let l = c.loop-at in
    let t = walk_on c.args.trails.now.walkable c.in-Some.is l.invariant.0 c.after-at.ensures.crossing in
    (c.after-at.ensures.settled, omega (arith, l.invariant.1, ap length t), omega (arith, l.invariant.2), simp length-set l.invariant.3, l.invariant.4 ∙ back_step l.buffer t l.invariant.1)

pub returns : goal.returns
returns c =
    let t = c.args.trails.now in
    let l = c.loop-at in
    sym (l.invariant.4 ∙ ap (λ (qs : List ℕ). sets l.buffer 0 (reverse qs)) (walk_done t.side t.map.now t.half.n t.half.words.now c.in_default.is))
