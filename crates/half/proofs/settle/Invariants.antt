-- `half::settle` meets its contract. The loop's invariant: the half is x made settled and then the links below k. Assumes nothing.
use Rattle.std.proofs.Common.{◌≡◌, ◌+◌, ◌-◌, ◌≤◌}
use Rattle.half.specs.Fold.{up_to}
use Rattle.half.specs.Half.{relaxed}
use Rattle.half.proofs.settle.Given as goal

abbrev pub invariant-loop-k : goal.invariant-loop-k
invariant-loop-k l = (l.k ≤ l.roads.m + 1) × (l.half ≡ up_to (relaxed l.side l.roads.map.now l.roads.n l.x l.e.dist) (l.k - 1) l.initial.half)
