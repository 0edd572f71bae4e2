-- `text::scan` meets its contract. The loop's invariant: the answer for the whole text is that of the lines that are left. Assumes nothing.
use Rattle.std.proofs.Common.{◌≡◌, ◌+◌, ◌≤◌, length}
use Rattle.line.specs.Lines.{lines_of}
use Rattle.text.specs.Text.{read_lines, read_text}
use Rattle.text.proofs.scan.Given as goal

abbrev pub invariant-loop-line : goal.invariant-loop-line
invariant-loop-line l =
    let rest = l.line-iterator.rest.now in
    (l.number + length rest ≤ length l.text + 1) × (length l.text ≤ 1048576) × (read_text l.room l.text ≡ read_lines l.room l.state l.number (lines_of rest))
