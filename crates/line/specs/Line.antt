-- What one line is, its LF included. A place past its end stands for the end of a text whose last line has no LF. Assumes nothing.
use Rattle.std.specs.Prelude.{cond, List, [], ◌∷◌, ℕ, ◌+◌, ◌-◌, length, get_or, ltb, eqb, Result, Ok, Err}
use Rattle.number.specs.Number.{good, bad, number_at}
use Rattle.number.specs.declared.Number.{Number}
use Rattle.number.specs.declared.Misplaced.{Misplaced}
use Rattle.line.specs.declared.Field.{Field}
use Rattle.line.specs.declared.Line.{Line}
use Rattle.line.specs.declared.Line.TheVariants.{Comment, Size, Link}
use Rattle.line.specs.declared.NoLine.{NoLine}
use Rattle.line.specs.declared.NoLine.TheVariants.{Strange, Wrong}

-- a line read as one of the three kinds, or as none of them, with the first place that cannot belong there
abbrev pub as_comment : Result Line NoLine
as_comment = Ok Comment

abbrev pub as_size : Field → Field → Result Line NoLine
as_size n m = Ok (Size n m)

abbrev pub as_link : Field → Field → Field → Result Line NoLine
as_link u v w = Ok (Link u v w)

abbrev pub strange : ℕ → Result Line NoLine
strange p = Err (Strange p)

abbrev pub wrong : ℕ → Result Line NoLine
wrong p = Err (Wrong p)

-- what follows from a number that was read, and from the place that cannot belong
abbrev pub number_then : {A : Type 0} → Result Number Misplaced → (ℕ → ℕ → A) → (ℕ → A) → A
number_then (Ok n) k f = k n.value n.next
number_then (Err m) k f = f m.at

-- the byte `stop` behind the number v: v and the place after that byte
unfoldable pub stop_at : List ℕ → ℕ → ℕ → ℕ → Result Number Misplaced
stop_at l stop v at = cond (ltb at (length l)) (cond (eqb (get_or l at 0) stop) (good v (at + 1)) (bad at)) (bad at)

unfoldable pub field_at : List ℕ → ℕ → ℕ → Result Number Misplaced
field_at l at stop = number_then (number_at l at) (stop_at l stop) bad

abbrev pub field_of : ℕ → ℕ → Field
field_of v at = record { value = v; place = at }

-- how far the bytes agree with the word, counted from i
unfoldable pub agree_from : ℕ → List ℕ → List ℕ → ℕ
agree_from i [] xs = i
agree_from i (y ∷ ys) [] = i
agree_from i (y ∷ ys) (x ∷ xs) = cond (eqb x y) (agree_from (i + 1) ys xs) i

abbrev pub agree_of : List ℕ → List ℕ → ℕ
agree_of l word = agree_from 0 word l

-- `p sp ` and `a `
abbrev pub size_word : List ℕ
size_word = 112 ∷ 32 ∷ 115 ∷ 112 ∷ 32 ∷ []

abbrev pub link_word : List ℕ
link_word = 97 ∷ 32 ∷ []

-- `c` alone, or `c` and a space and anything
unfoldable pub comment_of : List ℕ → Result Line NoLine
comment_of l =
    cond (ltb (length l) 2) (wrong (length l))
    (cond (eqb (get_or l 1 0) 10) as_comment
    (cond (eqb (get_or l 1 0) 32) (cond (eqb (get_or l (length l - 1) 0) 10) as_comment (wrong (length l)))
    (strange 1)))

-- `p sp N M`
unfoldable pub size_of : List ℕ → Result Line NoLine
size_of l =
    cond (ltb (agree_of l size_word) 5) (strange (agree_of l size_word))
    (number_then (field_at l 5 32)
    (λ n m_at. number_then (field_at l m_at 10) (λ m end. as_size (field_of n 5) (field_of m m_at)) wrong)
    wrong)

-- `a U V W`
unfoldable pub link_of : List ℕ → Result Line NoLine
link_of l =
    cond (ltb (agree_of l link_word) 2) (strange (agree_of l link_word))
    (number_then (field_at l 2 32)
    (λ u v_at. number_then (field_at l v_at 32) (λ v w_at. number_then (field_at l w_at 10) (λ w end. as_link (field_of u 2) (field_of v v_at) (field_of w w_at)) wrong) wrong)
    wrong)

unfoldable pub line_of : List ℕ → Result Line NoLine
line_of l =
    cond (ltb 0 (length l))
    (cond (eqb (get_or l 0 0) 99) (comment_of l)
    (cond (eqb (get_or l 0 0) 112) (size_of l)
    (cond (eqb (get_or l 0 0) 97) (link_of l) (strange 0))))
    (strange 0)
