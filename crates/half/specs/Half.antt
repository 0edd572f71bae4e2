-- One half of a bench as its 3n words: n distances, n link numbers, n states, crossing v at index v - 1 of each.
-- Opening, rules 1 and 2 of a turn, and the shape of a half. Assumes nothing.
use Rattle.std.specs.Prelude.{◌≡◌, cond, ◌&&◌, ◌||◌, List, ◌++◌, ℕ, ◌+◌, ◌*◌, ◌-◌, ◌≤◌, eqb, ltb, length, get_or, set, replicate, Option, Some, None}
use Rattle.limits.specs.Limits.{Between}
use Rattle.map.specs.Map.{cost}
use Rattle.map.specs.Walk.{near, far}
use Rattle.map.specs.declared.Side.{Side}
use Rattle.half.specs.Fold.{up_to, tally}
use Rattle.half.specs.declared.Entry.{Entry}

-- no distance goes above it: 4,095 x 65,535
abbrev pub ceiling : ℕ
ceiling = 268365825

-- an unknown optimum, and the distance of an unseen crossing
abbrev pub unknown : ℕ
unknown = 4294967295

-- ---- the words of a crossing; states: 0 unseen, 1 open, 2 settled

unfoldable pub dist : List ℕ → ℕ → ℕ
dist h v = get_or h (v - 1) 0

unfoldable pub link : ℕ → List ℕ → ℕ → ℕ
link n h v = get_or h (n + (v - 1)) 0

unfoldable pub state : ℕ → List ℕ → ℕ → ℕ
state n h v = get_or h (2 * n + (v - 1)) 0

abbrev pub entry : ℕ → List ℕ → ℕ → Entry
entry n h v = record { dist = dist h v; link = link n h v; state = state n h v }

unfoldable pub put : ℕ → List ℕ → ℕ → Entry → List ℕ
put n h v e = set (set (set h (v - 1) e.dist) (n + (v - 1)) e.link) (2 * n + (v - 1)) e.state

-- ---- opening: the root is open at distance 0 with link number 0, all else is unseen

unfoldable pub blank : ℕ → List ℕ
blank n = replicate n unknown ++ replicate (2 * n) 0

unfoldable pub open_half : ℕ → ℕ → List ℕ
open_half n root = put n (blank n) root (record { dist = 0; link = 0; state = 1 })

-- ---- nearer, ties by number: (d, u) comes before (e, v), or is it

pub record Before (d u e v : ℕ) : Type 0 where
  pub le : d ≤ e
  pub tie : d ≡ e → u ≤ v

-- a crossing, or 0 where there is none
abbrev pub or_zero : Option ℕ → ℕ
or_zero (Some v) = v
or_zero None = 0

-- ---- rule 1: the open crossing of least distance, the lower number on a tie; 0 where none is open

-- v, if it is open and none was found before or it is nearer than the one found, b
unfoldable pub nearer : ℕ → List ℕ → ℕ → ℕ → ℕ
nearer n h v b = cond (eqb (state n h v) 1 && (eqb b 0 || ltb (dist h v) (dist h b))) v b

unfoldable pub nearest_open : ℕ → List ℕ → ℕ
nearest_open n h = up_to (nearer n h) n 0

-- ---- rule 2

-- what a crossing holds after link number k offers it the sum. A settled one stays, a sum over the ceiling is passed over;
-- if it was unseen, or the sum is less, it becomes open with this sum and this link number;
-- if the sum is equal and this link number is lower, only the link number is replaced
unfoldable pub offered : ℕ → ℕ → Entry → Entry
offered k sum e =
    cond (eqb e.state 2) e
    (cond (ltb ceiling sum) e
    (cond (eqb e.state 0 || ltb sum e.dist) (record { dist = sum; link = k; state = 1 })
    (cond (eqb sum e.dist && ltb k e.link) (record { dist = e.dist; link = k; state = e.state })
    e)))

-- link k, where it leaves x, which is settled at distance d
unfoldable pub relaxed : Side → List ℕ → ℕ → ℕ → ℕ → ℕ → List ℕ → List ℕ
relaxed side map n x d k h =
    cond (eqb (near side map k) x)
    (put n h (far side map k) (offered k (d + cost map k) (entry n h (far side map k))))
    h

-- x made settled, then each link leaving it, in number order
unfoldable pub settled_at : Side → List ℕ → ℕ → ℕ → ℕ → List ℕ → List ℕ
settled_at side map n m x h =
    up_to (relaxed side map n x (dist h x)) m (put n h x (record { dist = dist h x; link = link n h x; state = 2 }))

-- link k comes to v from a settled crossing, the distance of v being exactly that crossing's plus the cost
pub record Tight (side : Side) (map : List ℕ) (n m : ℕ) (h : List ℕ) (v k : ℕ) : Type 0 where
  pub inside : Between 1 m k
  pub comes : far side map k ≡ v
  pub from : state n h (near side map k) ≡ 2
  pub exact : dist h (near side map k) + cost map k ≡ dist h v

-- how many crossings are settled
unfoldable pub settled_count : ℕ → List ℕ → ℕ
settled_count n h = tally (λ v. cond (eqb (state n h v) 2) 1 0) n

-- ---- well shaped for m links: unseen crossings hold the two words above,
-- others hold a distance up to the ceiling, a link number up to m and state 1 or 2

pub data Shaped (m : ℕ) (e : Entry) : Type 0 where
  unseen : e.state ≡ 0 → e.dist ≡ unknown → e.link ≡ 0 → Shaped m e
  seen : Between 1 2 e.state → e.dist ≤ ceiling → e.link ≤ m → Shaped m e

pub record ShapedHalf (n m : ℕ) (h : List ℕ) : Type 0 where
  pub room : length h ≡ 3 * n
  pub entries : (v : ℕ) → Between 1 n v → Shaped m (entry n h v)
