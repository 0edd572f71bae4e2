-- `text::line_at` meets its contract. Assumes nothing.
use Rattle.text.proofs.Laws.{end_within, line_first}
use mathlib.Core.Path.{sym, ◌∙◌}
use lib.Seq.{length-take-le}
use Rattle.text.proofs.line_at.Goals as goal

pub slice_bounds-read_line-end : goal.slice_bounds-read_line-end
slice_bounds-read_line-end c = sym (length-take-le _ _ (end_within _ c.line_end-end.ensures))

pub returns : goal.returns
returns c = c.read_line.ensures ∙ line_first _ c.line_end-end.ensures _ _ c.left-rest.ensures
