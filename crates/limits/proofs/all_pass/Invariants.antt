-- `limits::all_pass` meets its contract. The loop's invariant: of any faults that the answers tell of, none below v is one exactly if all is
-- true. Assumes nothing.
use Rattle.std.proofs.Common.{◌≡◌, ℕ, ◌+◌, ◌-◌, ◌≤◌}
use Rattle.limits.specs.First.{all_fine}
use Rattle.limits.specs.Refusals.{Tells}
use Rattle.limits.proofs.all_pass.Given as goal

abbrev pub invariant-loop-v : goal.invariant-loop-v
invariant-loop-v g l = (l.v ≤ l.n + 1) × ((fault : ℕ → ℕ) → Tells (goal.F-post g l.check) l.n fault → l.all ≡ all_fine fault (l.v - 1))
