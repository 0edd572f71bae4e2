-- The road map as lent words: link k, counted from 1, has its tail, head and cost in turn, and further words are ignored.
-- When a map is valid, and the first fault of one that is not. Assumes nothing.
use Rattle.std.specs.Prelude.{List, ℕ, ◌*◌, ◌-◌, ◌≤◌, length, get_or}
use Rattle.limits.specs.First.{or_else, first_from}
use Rattle.limits.specs.Limits.{Between, n_fault, m_fault, crossing_fault, cost_fault, room_fault}

unfoldable pub tail : List ℕ → ℕ → ℕ
tail map k = get_or map (3 * k - 3) 0

unfoldable pub head : List ℕ → ℕ → ℕ
head map k = get_or map (3 * k - 2) 0

unfoldable pub cost : List ℕ → ℕ → ℕ
cost map k = get_or map (3 * k - 1) 0

-- ---- a valid map

pub record Link (n : ℕ) (map : List ℕ) (k : ℕ) : Type 0 where
  pub tail_in : Between 1 n (tail map k)
  pub head_in : Between 1 n (head map k)
  pub cost_in : Between 1 65535 (cost map k)

pub record Valid (n m : ℕ) (map : List ℕ) : Type 0 where
  pub n_in : Between 1 4096 n
  pub m_in : m ≤ 16384
  pub room : 3 * m ≤ length map
  pub links : (k : ℕ) → Between 1 m k → Link n map k

-- ---- the first fault

-- an end outside 1 to n
unfoldable pub ends_fault : ℕ → List ℕ → ℕ → ℕ
ends_fault n map k = or_else (crossing_fault n (tail map k)) (crossing_fault n (head map k))

unfoldable pub link_fault : ℕ → List ℕ → ℕ → ℕ
link_fault n map k = or_else (ends_fault n map k) (cost_fault (cost map k))

unfoldable pub counts_fault : ℕ → ℕ → ℕ
counts_fault n m = or_else (n_fault n) (m_fault m)

-- counts 2, map room 3, then link by link 4 and 5
unfoldable pub map_fault : ℕ → ℕ → List ℕ → ℕ
map_fault n m map =
    or_else (counts_fault n m)
    (or_else (room_fault (3 * m) (length map))
    (first_from (link_fault n map) 1 m))
