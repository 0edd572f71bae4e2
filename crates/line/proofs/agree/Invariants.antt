-- `line::agree` meets its contract. The loop's invariant: they agree up to i, and so as far as from i on. Assumes nothing.
use Rattle.std.proofs.Common.{◌≡◌, drop}
use Rattle.line.specs.Line.{agree_from}
use Rattle.line.proofs.agree.Given as goal

abbrev pub invariant-loop-i : goal.invariant-loop-i
invariant-loop-i l = agree_from 0 l.word l.line ≡ agree_from l.i (drop l.i l.word) (drop l.i l.line)
