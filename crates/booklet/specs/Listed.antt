-- What the program prints, held against walks, the document's sentence above each. Assumes nothing.
use Rattle.std.specs.Prelude.{◌≡◌, ◌↔◌, List, ℕ, ◌+◌, ◌-◌, ◌≤◌, length, get_or}
use Rattle.limits.specs.Limits.{Between}
use Rattle.map.specs.Walk.{Least}
use Rattle.map.specs.declared.Side.TheVariants.{Forward, Backward}
use Rattle.half.specs.Half.{ceiling, dist}
use Rattle.shape.specs.Bench.{half, parse}
use Rattle.bench.specs.Calls.{open_fault}
use Rattle.demands.specs.Demands.{InArea, NoWalk}
use Rattle.demands.specs.Trails.{InLocal}
use Rattle.booklet.specs.Survey.{finished_words, finished_mask, area_number}
use Rattle.booklet.specs.declared.Order.{Order}

module _ (map : List ℕ) (n m : ℕ) (order : Order) (x mask : List ℕ) where
  abbrev pub Area : ℕ → Type 0
  Area v = InArea map m order.start order.target order.stretch v

  abbrev pub Local : ℕ → Type 0
  Local v = InLocal map m order.start order.target order.stretch order.locality v

  -- what is printed of crossing v: its byte of the mask, and its distance in each half
  abbrev pub byte_of : ℕ → ℕ
  byte_of v = get_or (finished_mask map n m order x mask) (v - 1) 0

  abbrev pub from_of : ℕ → ℕ
  from_of v = dist (half Forward (parse n (finished_words map n m order x))) v

  abbrev pub to_of : ℕ → ℕ
  to_of v = dist (half Backward (parse n (finished_words map n m order x))) v

  -- the survey ends without a refusal
  pub record Listed : Type 0 where
    -- "`o` and the optimum"
    pub optimum : Least Forward map m order.start order.target (get_or (finished_words map n m order x) 5 0)
    -- "then for each crossing of B": no other is listed
    pub unlisted : (v : ℕ) → Between 1 n v → (byte_of v ≡ 0) ↔ (Area v → ⊥)
    -- "`l` if in BL or `b`"
    pub local : (v : ℕ) → Between 1 n v → (byte_of v ≡ 2) ↔ Local v
    pub plain : (v : ℕ) → Between 1 n v → (byte_of v ≡ 1) ↔ (Area v × (Local v → ⊥))
    -- "its number and the sum of its two distances", which are least costs
    pub sum : (v : ℕ) → Between 1 n v → (p : Area v) → from_of v + to_of v ≡ p.from + p.to

  -- "no route", with nothing else amiss, is printed exactly if no walk leads from start to target
  abbrev pub Unrouted : Type 0
  Unrouted =
      open_fault map n m order.start order.target order.stretch x ≡ 0 → order.locality ≤ ceiling → n ≤ length mask
      → (area_number map n m order x mask ≡ 9) ↔ NoWalk map n m order.start order.target order.stretch
