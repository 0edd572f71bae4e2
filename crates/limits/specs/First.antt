-- The first of several numbers of refusal, where 0 stands for no refusal, and whether there is none. Assumes nothing.
use Rattle.std.specs.Prelude.{Bool, true, cond, ◌&&◌, ℕ, zero, suc, eqb}

-- the first of two
unfoldable pub or_else : ℕ → ℕ → ℕ
or_else a b = cond (eqb a 0) b a

-- the first of f i, f (i + 1), .., f (i + k - 1)
unfoldable pub first_from : (ℕ → ℕ) → ℕ → ℕ → ℕ
first_from f i zero = 0
first_from f i (suc k) = or_else (f i) (first_from f (suc i) k)

-- none of f 1, f 2, .., f k is a fault
unfoldable pub all_fine : (ℕ → ℕ) → ℕ → Bool
all_fine f zero = true
all_fine f (suc k) = all_fine f k && eqb (f (suc k)) 0
