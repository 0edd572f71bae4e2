-- The trail of a crossing in one half: its link numbers followed to the root. What walking one relies on, and driving along crossings.
-- Assumes nothing.
use Rattle.std.specs.Prelude.{◌≡◌, cond, ◌≢◌, List, [], ◌∷◌, ℕ, zero, suc, ◌+◌, ◌*◌, ◌-◌, ◌≤◌, ◌<◌, eqb, length, get_or}
use Rattle.limits.specs.Limits.{Between}
use Rattle.map.specs.Map.{cost}
use Rattle.map.specs.Walk.{near, far}
use Rattle.map.specs.declared.Side.{Side}
use Rattle.map.specs.declared.Side.TheVariants.{Forward, Backward}
use Rattle.half.specs.Half.{ceiling, dist, link, state}

-- the other end of the link that v names; 0 where its link number is 0
unfoldable pub after : Side → List ℕ → ℕ → List ℕ → ℕ → ℕ
after side map n h v = cond (eqb (link n h v) 0) 0 (near side map (link n h v))

-- at most k crossings from v on; none from 0
unfoldable pub trail_from : Side → List ℕ → ℕ → List ℕ → ℕ → ℕ → List ℕ
trail_from side map n h zero v = []
trail_from side map n h (suc k) v = cond (eqb v 0) [] (v ∷ trail_from side map n h k (after side map n h v))

abbrev pub trail : Side → List ℕ → ℕ → List ℕ → ℕ → List ℕ
trail side map n h v = trail_from side map n h n v

-- ---- what walking a trail relies on; sound trails of a well-shaped half give it

pub record Settled (n : ℕ) (h : List ℕ) (v : ℕ) : Type 0 where
  pub inside : Between 1 n v
  pub settled : state n h v ≡ 2

-- the link that v names is one of the map's, and leads on to a settled crossing that is nearer
pub record Onward (side : Side) (map : List ℕ) (n : ℕ) (h : List ℕ) (v : ℕ) : Type 0 where
  pub room : 3 * link n h v ≤ length map
  pub next : Settled n h (near side map (link n h v))
  pub nearer : dist h (near side map (link n h v)) < dist h v

pub record Trails (side : Side) (map : List ℕ) (n : ℕ) (h : List ℕ) : Type 0 where
  pub room : length h ≡ 3 * n
  pub low : (v : ℕ) → Settled n h v → dist h v ≤ ceiling
  pub onward : (v : ℕ) → Settled n h v → link n h v ≢ 0 → Onward side map n h v

-- the same of both halves, and every marked crossing is settled in both
pub record Walkable (map : List ℕ) (n : ℕ) (f g marks : List ℕ) : Type 0 where
  pub forward : Trails Forward map n f
  pub backward : Trails Backward map n g
  pub marks_room : length marks ≡ n
  pub marked_forward : (v : ℕ) → Between 1 n v → get_or marks (v - 1) 0 ≡ 1 → Settled n f v
  pub marked_backward : (v : ℕ) → Between 1 n v → get_or marks (v - 1) 0 ≡ 1 → Settled n g v

-- ---- a drive from u to v along links of the map, over exactly these crossings in this order, that costs c

pub data Drive (side : Side) (map : List ℕ) (m : ℕ) : ℕ → ℕ → List ℕ → ℕ → Type 0 where
  rests : {u v c : ℕ} {qs : List ℕ} → u ≡ v → qs ≡ u ∷ [] → c ≡ 0 → Drive side map m u v qs c
  goes : {u w v d c : ℕ} {qs rest : List ℕ} → (k : ℕ) → Between 1 m k → near side map k ≡ u → far side map k ≡ w → qs ≡ u ∷ rest → Drive side map m w v rest d → c ≡ cost map k + d → Drive side map m u v qs c
