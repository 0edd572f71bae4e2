-- `text::fill` meets its contract. The loop's invariant: the words of the lines that are left, written behind those written, give the whole.
-- Assumes nothing.
use Rattle.std.proofs.Common.{◌≡◌, ◌+◌, ◌≤◌, length}
use Rattle.std.proofs.lemmas.List.Edits.{sets}
use Rattle.line.specs.Lines.{lines_of}
use Rattle.text.specs.Text.{words_of}
use Rattle.text.proofs.fill.Given as goal

abbrev pub invariant-loop-line : goal.invariant-loop-line
invariant-loop-line l =
    let left = words_of (lines_of l.line-iterator.rest.now) in
    (length l.map ≡ length l.initial.map) × (l.at + length left ≤ length l.map) × (sets l.initial.map 0 (words_of (lines_of l.text)) ≡ sets l.map l.at left)
