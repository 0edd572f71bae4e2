-- `map::check_links` meets its contract. The loop's invariant: the first fault of all links is that of the links from k on. Assumes nothing.
use Rattle.std.proofs.Common.{◌≡◌, ◌+◌, ◌-◌, ◌≤◌}
use Rattle.limits.specs.First.{first_from}
use Rattle.map.specs.Map.{link_fault}
use Rattle.map.proofs.check_links.Given as goal

abbrev pub invariant-loop-k : goal.invariant-loop-k
invariant-loop-k l = (l.k ≤ l.m + 1) × (first_from (link_fault l.n l.map) 1 l.m ≡ first_from (link_fault l.n l.map) l.k (l.m + 1 - l.k))
