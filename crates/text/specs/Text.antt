-- What reading a text answers, and what the map then holds: line by line the first fault, else n, m and the links. Assumes nothing.
use Rattle.std.specs.Prelude.{cond, List, [], ◌∷◌, ◌++◌, ℕ, ◌+◌, ltb, eqb, length, drop, Result, Ok, Err}
use Rattle.limits.specs.Refusals.{number_of}
use Rattle.limits.specs.Said.{Said, told, refused, unless_refused}
use Rattle.line.specs.Line.{line_of}
use Rattle.line.specs.Lines.{lines_of}
use Rattle.line.specs.declared.Line.{Line}
use Rattle.line.specs.declared.Line.TheVariants as lines
use Rattle.line.specs.declared.NoLine.{NoLine}
use Rattle.step.specs.Step.{state_of, taken, step_then}
use Rattle.step.specs.declared.State.{State}
use Rattle.step.specs.declared.Fault.{Fault}
use Rattle.text.specs.declared.Size.{Size}
use Rattle.text.specs.declared.Refused.{Refused}

-- the answer in the paper's numbers: n and m, or the number of refusal and the line
abbrev pub said : Result Size Refused → Said
said (Ok size) = told (size.n ∷ size.m ∷ [])
said (Err r) = refused (number_of r.refusal) (r.line ∷ [])

-- what a line does, its refusal told with the line's number
abbrev pub at_line : ℕ → Result State Fault → Result State Refused
at_line line (Ok st) = Ok st
at_line line (Err f) = Err (record { refusal = f.refusal; line = line })

-- ---- the whole text

-- the end, at the line after the last: there was a `p` line, and all its links
unfoldable pub finish : State → ℕ → Said
finish st at =
    cond (eqb st.n 0) (refused 1 (at ∷ []))
    (cond (eqb st.k st.m) (told (st.n ∷ st.m ∷ [])) (refused 1 (at ∷ [])))

-- the lines from line number `at` on
unfoldable pub read_lines : ℕ → State → ℕ → List (List ℕ) → Said
read_lines room st at [] = finish st at
read_lines room st at (l ∷ ls) =
    step_then (taken room st (line_of l)) (λ next. read_lines room next (at + 1) ls) (λ fault. refused fault.number (at ∷ []))

-- the answer, where the map has room for so many words
unfoldable pub read_text : ℕ → List ℕ → Said
read_text room s = cond (ltb 1048576 (length s)) (refused 2 (0 ∷ [])) (read_lines room (state_of 0 0 0) 1 (lines_of s))

-- the words of the links, in their order
unfoldable pub line_words : Result Line NoLine → List ℕ
line_words (Ok lines.Comment) = []
line_words (Ok (lines.Size n m)) = []
line_words (Ok (lines.Link u v w)) = u.value ∷ v.value ∷ w.value ∷ []
line_words (Err none) = []

unfoldable pub words_of : List (List ℕ) → List ℕ
words_of [] = []
words_of (l ∷ ls) = line_words (line_of l) ++ words_of ls

-- the map afterward: the links' words over its first, later words as before; a refusal leaves all
unfoldable pub map_after : List ℕ → List ℕ → List ℕ
map_after s map = unless_refused (read_text (length map) s) (words_of (lines_of s) ++ drop (length (words_of (lines_of s))) map) map
