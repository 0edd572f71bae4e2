-- `half::Half::nearest_open` meets its contract. The loop's invariant: best is the nearest open crossing below v. Assumes nothing.
use Rattle.std.proofs.Common.{◌≡◌, ◌+◌, ◌-◌, ◌≤◌, IfSome}
use Rattle.limits.specs.Limits.{Between}
use Rattle.half.specs.Fold.{up_to}
use Rattle.half.specs.Half.{or_zero, nearer}
use Rattle.half.proofs.Half.nearest_open.Given as goal

abbrev pub invariant-loop-v : goal.invariant-loop-v
invariant-loop-v l = (l.v ≤ l.self.n + 1) × (or_zero l.best ≡ up_to (nearer l.self.n l.self.words.now) (l.v - 1) 0) × IfSome l.best (λ b. Between 1 l.self.n b)
