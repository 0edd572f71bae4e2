-- A number at a place of a text: digits with no leading zero but `0` itself, at most 4,294,967,295. Assumes nothing.
use Rattle.std.specs.Prelude.{cond, List, [], ◌∷◌, ℕ, ◌+◌, ◌*◌, ◌-◌, drop, ltb, eqb, Result, Ok, Err}
use Rattle.number.specs.declared.Number.{Number}
use Rattle.number.specs.declared.Misplaced.{Misplaced}

-- a number and the place after it, or the first place that cannot belong to one
abbrev pub good : ℕ → ℕ → Result Number Misplaced
good v next = Ok (record { value = v; next = next })

abbrev pub bad : ℕ → Result Number Misplaced
bad at = Err (record { at = at })

-- the worth of a digit, and 10 of any other byte
unfoldable pub digit_of : ℕ → ℕ
digit_of b = cond (ltb b 48) 10 (cond (ltb 57 b) 10 (b - 48))

-- v has been read, and the bytes from the place on are given: a digit behind a lone 0, or one that takes the number past the largest,
-- cannot belong there
unfoldable pub grow : ℕ → ℕ → List ℕ → Result Number Misplaced
grow v at [] = good v at
grow v at (b ∷ bs) =
    cond (ltb 9 (digit_of b)) (good v at)
    (cond (eqb v 0) (bad at)
    (cond (ltb 4294967295 (v * 10 + digit_of b)) (bad at)
    (grow (v * 10 + digit_of b) (at + 1) bs)))

unfoldable pub begin : ℕ → List ℕ → Result Number Misplaced
begin at [] = bad at
begin at (b ∷ bs) = cond (ltb 9 (digit_of b)) (bad at) (grow (digit_of b) (at + 1) bs)

-- what is read at a place
unfoldable pub number_at : List ℕ → ℕ → Result Number Misplaced
number_at s at = begin at (drop at s)
