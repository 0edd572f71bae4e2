-- A half after k turns from its opening, each settling the nearest open crossing if there is one. Assumes nothing.
use Rattle.std.specs.Prelude.{cond, List, ℕ, zero, suc, eqb}
use Rattle.map.specs.declared.Side.{Side}
use Rattle.half.specs.Half.{open_half, nearest_open, settled_at}

-- x settled, unless it is 0
unfoldable pub settled_if : Side → List ℕ → ℕ → ℕ → ℕ → List ℕ → List ℕ
settled_if side map n m x h = cond (eqb x 0) h (settled_at side map n m x h)

unfoldable pub half_after : Side → List ℕ → ℕ → ℕ → ℕ → ℕ → List ℕ
half_after side map n m root zero = open_half n root
half_after side map n m root (suc k) =
    let h = half_after side map n m root k in
    settled_if side map n m (nearest_open n h) h
