-- Going over the numbers 1 to k in order, and sums over them. Assumes nothing.
use Rattle.std.specs.Prelude.{ℕ, zero, suc, ◌+◌}

-- f 1, then f 2, .., then f k, from a
unfoldable pub up_to {ℓ} : {A : Type ℓ} → (ℕ → A → A) → ℕ → A → A
up_to f zero a = a
up_to f (suc k) a = f (suc k) (up_to f k a)

-- f 1 + f 2 + .. + f k
unfoldable pub tally : (ℕ → ℕ) → ℕ → ℕ
tally f k = up_to (λ v c. f v + c) k 0
