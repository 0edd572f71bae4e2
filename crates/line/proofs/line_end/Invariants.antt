-- `line::line_end` meets its contract. The loop's invariant: the line that goes on at i ends where the one from the place does. Assumes nothing.
use Rattle.std.proofs.Common.{◌≡◌}
use Rattle.line.specs.Lines.{line_end}
use Rattle.line.proofs.line_end.Given as goal

abbrev pub invariant-loop-i : goal.invariant-loop-i
invariant-loop-i l = line_end l.text l.at ≡ line_end l.text l.i
