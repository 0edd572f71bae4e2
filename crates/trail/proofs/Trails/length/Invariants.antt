-- `trail::Trails::length` meets its contract. The loop's invariant: the crossings counted and those from the next on make the trail of x.
-- Assumes nothing.
use Rattle.std.proofs.Common.{◌≡◌, ◌+◌, length, IfSome}
use Rattle.half.specs.Half.{or_zero}
use Rattle.trail.specs.Trail.{trail, Settled}
use Rattle.trail.proofs.Trails.length.Given as goal

abbrev pub invariant-loop-at : goal.invariant-loop-at
invariant-loop-at l =
    let s = l.self in
    let of = trail s.side s.map.now s.half.n s.half.words.now in
    IfSome l.at (Settled s.half.n s.half.words.now) × (length (of l.x) ≡ l.count + length (of (or_zero l.at)))

abbrev pub decreases-loop-at : goal.decreases-loop-at
decreases-loop-at l = let s = l.self in length (trail s.side s.map.now s.half.n s.half.words.now (or_zero l.at))
