-- `booklet::take_turns` meets its contract. The loop's invariant: the turns that are left make of the bench what all make of the first one.
-- Assumes nothing.
use Rattle.std.proofs.Common.{arith}
use Rattle.std.proofs.lemmas.Result.{err_from_is_err_and}
use Rattle.booklet.proofs.Turns.{none_taken, all_taken, refused_taken, settled_taken, idle_taken, both_done}
use Rattle.booklet.proofs.take_turns.Goals as goal

pub loop-init : goal.loop-init
loop-init c = none_taken _ _ _ _

pub returns-in_err-turn : goal.returns-in_err-turn
returns-in_err-turn c =
    let p = err_from_is_err_and c.from_residual.result c.from_residual.ensures.1 in
    let ended = refused_taken _ _ _ _ c.loop.invariant c.take_turn.result c.take_turn.ensures.answer c.take_turn.ensures.bench c.in_err-turn.was in
    record { answer = rw (p.1, p.2) ended.0; bench = ended.1 }

pub returns-then-idle : goal.returns-then-idle
returns-then-idle c =
    let ended = both_done _ _ _ _ c.loop.invariant c.take_turn.result c.take_turn.ensures.answer c.take_turn.ensures.bench c.in_ok-turn.was c.in_default.not-Settled c.if-idle.true in
    record { answer = ended.0; bench = ended.1 }

pub loop-preserved-in_default : goal.loop-preserved-in_default
loop-preserved-in_default c = idle_taken _ _ _ _ c.loop.invariant c.take_turn.result c.take_turn.ensures.answer c.take_turn.ensures.bench c.in_ok-turn.was c.in_default.not-Settled (omega arith) c.other-side.ensures

pub loop-preserved : goal.loop-preserved
loop-preserved c = settled_taken _ _ _ _ c.loop.invariant c.take_turn.result c.take_turn.ensures.answer c.take_turn.ensures.bench c.in_ok-turn.was (omega arith) c.other-side.ensures

pub returns : goal.returns
returns c =
    let ended = all_taken _ _ _ _ c.loop.invariant (omega arith) in
    record { answer = ended.0; bench = ended.1 }
