-- `booklet::take_turns` meets its contract. The loop's invariant: the turns that are left make of the bench what all make of the first one.
-- Assumes nothing.
use Rattle.booklet.proofs.Turns.{Taken}
use Rattle.booklet.proofs.take_turns.Given as goal

abbrev pub invariant-loop : goal.invariant-loop
invariant-loop l = Taken l.map l.n l.m l.initial.bench l.side l.counter l.idle l.bench
