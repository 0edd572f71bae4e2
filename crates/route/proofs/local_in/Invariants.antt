-- `route::local_in` meets its contract. The loop's invariant: the tested crossings from the next on decide. Assumes nothing.
use Rattle.std.proofs.Common.{◌≡◌, ◌≤◌, length, IfSome}
use Rattle.half.specs.Half.{or_zero, dist}
use Rattle.trail.specs.Trail.{trail, Settled}
use Rattle.route.specs.Area.{tested, agrees, every, local_in}
use Rattle.route.proofs.local_in.Given as goal

abbrev pub invariant-loop-at : goal.invariant-loop-at
invariant-loop-at l =
    let t = l.trails in
    let h = t.half.words.now in
    IfSome l.at (λ q. Settled t.half.n h q × (dist h q ≤ dist h l.x))
    × (local_in t.side t.map.now t.half.n l.locality h l.other.words.now l.x ≡ every (agrees t.half.n h l.other.words.now l.x) (tested l.locality h l.x (trail t.side t.map.now t.half.n h (or_zero l.at))))

abbrev pub decreases-loop-at : goal.decreases-loop-at
decreases-loop-at l = let t = l.trails in length (trail t.side t.map.now t.half.n t.half.words.now (or_zero l.at))
