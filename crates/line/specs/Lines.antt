-- The lines of a text, each with its LF, which the last may lack. Assumes nothing.
use Rattle.std.specs.Prelude.{cond, List, [], ◌∷◌, ℕ, ◌+◌, length, drop, eqb}

-- a byte before the first of some lines
unfoldable pub onto : ℕ → List (List ℕ) → List (List ℕ)
onto b [] = (b ∷ []) ∷ []
onto b (l ∷ ls) = (b ∷ l) ∷ ls

unfoldable pub lines_of : List ℕ → List (List ℕ)
lines_of [] = []
lines_of (b ∷ bs) = cond (eqb b 10) ((b ∷ []) ∷ lines_of bs) (onto b (lines_of bs))

-- the bytes up to the first LF, with it
unfoldable pub first_line : List ℕ → List ℕ
first_line [] = []
first_line (b ∷ bs) = cond (eqb b 10) (b ∷ []) (b ∷ first_line bs)

-- the place after the line that begins at a place
unfoldable pub line_end : List ℕ → ℕ → ℕ
line_end s at = at + length (first_line (drop at s))
