-- `rules::mark_all` meets its contract. The loop's invariant: the marks before v are written, and all else is as at entry. Assumes nothing.
use Rattle.std.proofs.Common.{◌≡◌, ◌+◌, ◌-◌, ◌≤◌}
use Rattle.shape.specs.Bench.{words}
use Rattle.shape.proofs.Marks.{so_far}
use Rattle.rules.proofs.mark_all.Given as goal

abbrev pub invariant-loop-v : goal.invariant-loop-v
invariant-loop-v l = (l.v ≤ l.n + 1) × (l.bench ≡ words (so_far l.n l.initial.bench (l.v - 1)))
