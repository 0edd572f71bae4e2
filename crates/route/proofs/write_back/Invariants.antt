-- `route::write_back` meets its contract. The loop's invariant: writing the rest, from the next on, gives the whole. Assumes nothing.
use Rattle.std.proofs.Common.{◌≡◌, ◌≤◌, length, reverse, IfSome}
use lib.Seq.{sets}
use Rattle.half.specs.Half.{or_zero}
use Rattle.trail.specs.Trail.{trail, Settled}
use Rattle.route.proofs.write_back.Given as goal

abbrev pub invariant-loop-at : goal.invariant-loop-at
invariant-loop-at l =
    let t = l.trails in
    let of = trail t.side t.map.now t.half.n t.half.words.now in
    IfSome l.at (Settled t.half.n t.half.words.now)
    × (l.j ≡ length (of (or_zero l.at)))
    × (l.j ≤ l.k)
    × (length l.buffer ≡ length l.initial.buffer)
    × (sets l.initial.buffer 0 (reverse (of l.x)) ≡ sets l.buffer 0 (reverse (of (or_zero l.at))))

abbrev pub decreases-loop-at : goal.decreases-loop-at
decreases-loop-at l = let t = l.trails in length (trail t.side t.map.now t.half.n t.half.words.now (or_zero l.at))
