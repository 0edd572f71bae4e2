-- `number::number_at` meets its contract. The loop's invariant: the number at the place is the one that value grows to from next on.
-- Assumes nothing.
use Rattle.std.proofs.Common.{◌≡◌, ◌≤◌, length, drop}
use Rattle.number.specs.Number.{grow, number_at}
use Rattle.number.proofs.number_at.Given as goal

abbrev pub invariant-loop-next : goal.invariant-loop-next
invariant-loop-next l = (l.next ≤ length l.text) × (l.value ≤ 4294967295) × (number_at l.text l.at ≡ grow l.value l.next (drop l.next l.text))
