-- `rules::mark_all` meets its contract. The loop's invariant: the marks before v are written, and all else is as at entry. Assumes nothing.
use Rattle.std.proofs.Common.{arith}
use Rattle.shape.proofs.Marks.{marks_start}
use Rattle.rules.proofs.mark_all.Goals as goal

pub loop-v-init : goal.loop-v-init
loop-v-init c = (omega arith, marks_start _ _ c.requires.1)
