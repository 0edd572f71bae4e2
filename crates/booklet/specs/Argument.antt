-- What an argument of the program is: the whole of it one number by the text's rule. Assumes nothing.
use Rattle.std.specs.Prelude.{cond, List, ℕ, eqb, length, Option, Some, None, Result, Ok, Err}
use Rattle.number.specs.Number.{number_at}
use Rattle.number.specs.declared.Number.{Number}
use Rattle.number.specs.declared.Misplaced.{Misplaced}

-- the number, if it ends where the word does
abbrev pub whole : List ℕ → Result Number Misplaced → Option ℕ
whole word (Ok number) = cond (eqb number.next (length word)) (Some number.value) None
whole word (Err misplaced) = None

unfoldable pub argument_of : List ℕ → Option ℕ
argument_of word = whole word (number_at word 0)
