-- `claims::take_turns` meets its contract. The loop's invariant: the turns of the whole schedule are those of the bytes from here on. Assumes nothing.
use Rattle.std.proofs.Common.{sym, ◌∙◌}
use Rattle.demands.proofs.Calls.{turns_more, turns_end}
use Rattle.claims.proofs.take_turns.Goals as goal

pub loop-byte-preserved : goal.loop-byte-preserved
loop-byte-preserved c = let s = c.args in let e = rw c.side_of.ensures at c.take_turn.ensures.bench in c.loop-byte.invariant ∙ turns_more s.map.now s.n s.m s.schedule.now c.loop-byte.bench c.loop-byte-test.true e

pub returns : goal.returns
returns c = sym (c.loop-byte.invariant ∙ turns_end _ _ _ _ _ c.loop-byte-test.false)
