-- `claims::take_turns` meets its contract. The loop's invariant: the turns of the whole schedule are those of the bytes from here on. Assumes nothing.
use Rattle.std.proofs.Common.{◌≡◌, drop}
use Rattle.demands.specs.Calls.{turns_words}
use Rattle.claims.proofs.take_turns.Given as goal

abbrev pub invariant-loop-byte : goal.invariant-loop-byte
invariant-loop-byte l = turns_words l.map l.n l.m l.schedule l.initial.bench ≡ turns_words l.map l.n l.m (drop l.byte-index l.schedule) l.bench
