-- `route::write_on` meets its contract. The loop's invariant: writing the rest, from the next on, gives the whole. Assumes nothing.
use Rattle.std.proofs.Common.{◌≡◌, ◌+◌, length, IfSome}
use lib.Seq.{sets}
use Rattle.half.specs.Half.{or_zero}
use Rattle.trail.specs.Trail.{trail, Settled}
use Rattle.route.proofs.write_on.Given as goal

abbrev pub invariant-loop-at : goal.invariant-loop-at
invariant-loop-at l =
    let t = l.trails in
    let of = trail t.side t.map.now t.half.n t.half.words.now in
    IfSome l.at (Settled t.half.n t.half.words.now)
    × (l.i + length (of (or_zero l.at)) ≡ l.k + length (of (or_zero l.fn.first)))
    × (length l.buffer ≡ length l.initial.buffer)
    × (sets l.initial.buffer l.k (of (or_zero l.fn.first)) ≡ sets l.buffer l.i (of (or_zero l.at)))

abbrev pub decreases-loop-at : goal.decreases-loop-at
decreases-loop-at l = let t = l.trails in length (trail t.side t.map.now t.half.n t.half.words.now (or_zero l.at))
