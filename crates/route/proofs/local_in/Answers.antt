-- `route::local_in` meets its contract. Assumes nothing.
use Rattle.std.proofs.Common.{length, refl, sym, ◌∙◌, ap, arith}
use Rattle.trail.proofs.Walking.{walk_on}
use Rattle.route.specs.Area.{local_in}
use Rattle.route.proofs.Local.{local_far, local_end, local_on, local_fails, on_no_farther}
use Rattle.route.proofs.local_in.Goals as goal

pub loop-at-init : goal.loop-at-init
unfolding local_in
loop-at-init c = ((c.requires.1, omega arith), refl)

pub returns-then-locality-d : goal.returns-then-locality-d
returns-then-locality-d c =
    let t = c.args.trails.now in
    let l = c.loop-at in
    let s = (rw c.in-Some.is at l.invariant.0).0 in
    let far = rw (c.entry-from.ensures, c.entry.ensures) at c.if-locality-d.true in
    sym (l.invariant.1 ∙ rw c.in-Some.is (local_far t.walkable c.args.locality c.args.other.now.words.now c.args.x c.in-Some.q s far))

pub returns-then-not-agrees : goal.returns-then-not-agrees
returns-then-not-agrees c =
    let t = c.args.trails.now in
    let l = c.loop-at in
    let s = (rw c.in-Some.is at l.invariant.0).0 in
    let near = rw (c.entry-from.ensures, c.entry.ensures) at c.if-locality-d.false in
    let told = rw (c.entry-from.ensures, c.entry.ensures, c.entry-to.ensures, c.requires.0) at c.agrees.ensures in
    sym (l.invariant.1 ∙ rw c.in-Some.is (local_fails t.walkable c.args.locality c.args.other.now.words.now c.args.x c.in-Some.q s near told c.if-not-agrees.true))

pub loop-at-smaller : goal.loop-at-smaller
loop-at-smaller c =
    let l = c.loop-at in
    let s = (rw c.in-Some.is at l.invariant.0).0 in
    omega (arith, ap length (walk_on c.args.trails.now.walkable c.in-Some.is (rw c.in-Some.is s) c.after-at.ensures.crossing))

pub loop-at-preserved : goal.loop-at-preserved
loop-at-preserved c =
    let t = c.args.trails.now in
    let l = c.loop-at in
    let s = rw c.in-Some.is at l.invariant.0 in
    let near = rw (c.entry-from.ensures, c.entry.ensures) at c.if-locality-d.false in
    let told = rw (c.entry-from.ensures, c.entry.ensures, c.entry-to.ensures, c.requires.0) at c.agrees.ensures in (
      on_no_farther t.walkable c.args.x c.in-Some.q s.0 s.1 c.after-at.result c.after-at.ensures.crossing c.after-at.ensures.settled,
      l.invariant.1 ∙ rw c.in-Some.is (local_on t.walkable c.args.locality c.args.other.now.words.now c.args.x c.in-Some.q s.0 near c.after-at.ensures.crossing told c.if-not-agrees.false),
    )

pub returns : goal.returns
returns c =
    let t = c.args.trails.now in
    let l = c.loop-at in
    sym (l.invariant.1 ∙ rw c.in_default.is (local_end t.walkable c.args.locality c.args.other.now.words.now c.args.x 0 refl))
