-- A reader, which holds its text and a place, and what it finds there. Assumes nothing.
use Rattle.std.specs.Prelude.{List, ℕ, drop, Result}
use Rattle.std.specs.Borrow.{Bor}
use Rattle.line.specs.Line.{line_of}
use Rattle.line.specs.Lines.{first_line}
use Rattle.line.specs.declared.Line.{Line}
use Rattle.line.specs.declared.NoLine.{NoLine}
use Rattle.text.specs.declared.Reader.{Reader}

-- the reader of a lent text at a place
abbrev pub reader_at : Bor (List ℕ) → ℕ → Reader
reader_at text at = record { text = text; at = at }

-- the line that begins at a place; from the end on there is none, which is read as the empty line is
unfoldable pub line_at : List ℕ → ℕ → Result Line NoLine
line_at s at = line_of (first_line (drop at s))
