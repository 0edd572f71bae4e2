-- Walks over the links of a map, with their costs, and least costs. A side drives the links forward, from tail to head, or backward.
-- Assumes nothing.
use Rattle.std.specs.Prelude.{◌≡◌, List, ℕ, ◌+◌, ◌≤◌}
use Rattle.limits.specs.Limits.{Between}
use Rattle.map.specs.Map.{tail, head, cost}
use Rattle.map.specs.declared.Side.{Side}
use Rattle.map.specs.declared.Side.TheVariants.{Forward, Backward}

unfoldable pub other : Side → Side
other Forward = Backward
other Backward = Forward

-- what is the forward side's, or the backward side's
abbrev pub by_side : {A : Type 0} → Side → A → A → A
by_side Forward a b = a
by_side Backward a b = b

-- the end of link k that a side leaves, and the end that it comes to
unfoldable pub near : Side → List ℕ → ℕ → ℕ
near Forward map k = tail map k
near Backward map k = head map k

unfoldable pub far : Side → List ℕ → ℕ → ℕ
far Forward map k = head map k
far Backward map k = tail map k

-- a walk from u to v that costs c: the empty one, or a walk to w and then a link from w to v
pub data Walk (s : Side) (map : List ℕ) (m u : ℕ) : ℕ → ℕ → Type 0 where
  stay : {v c : ℕ} → u ≡ v → c ≡ 0 → Walk s map m u v c
  more : {w v d c : ℕ} → Walk s map m u w d → (k : ℕ) → Between 1 m k → near s map k ≡ w → far s map k ≡ v → d + cost map k ≡ c → Walk s map m u v c

-- c is the least cost from u to v: some walk costs c, and none is cheaper
pub record Least (s : Side) (map : List ℕ) (m u v c : ℕ) : Type 0 where
  pub walk : Walk s map m u v c
  pub least : (d : ℕ) → Walk s map m u v d → c ≤ d
