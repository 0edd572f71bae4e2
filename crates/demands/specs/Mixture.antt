-- A mixture of turns, and the bench that it leaves, given by how many crossings each half has settled; an order on a valid map.
-- Assumes nothing.
use Rattle.std.specs.Prelude.{Bool, cond, not, ◌&&◌, List, [], ◌∷◌, ℕ, suc, min, eqb}
use Rattle.limits.specs.Limits.{Between}
use Rattle.map.specs.Map.{Valid}
use Rattle.map.specs.Walk.{by_side}
use Rattle.map.specs.declared.Side.{Side}
use Rattle.map.specs.declared.Side.TheVariants.{Forward, Backward}
use Rattle.half.specs.Fold.{tally}
use Rattle.half.specs.Half.{unknown, dist, state}
use Rattle.shape.specs.Bench.{Bench, opened}
use Rattle.shape.specs.Rules.{beyond, marked, turned}
use Rattle.nearest.specs.After.{half_after}

-- "open a bench for one order": start, target and stretch in their ranges, on a valid map of n crossings and m links
pub record Order (map : List ℕ) (n m start target stretch : ℕ) : Type 0 where
  pub valid : Valid n m map
  pub start_in : Between 1 n start
  pub target_in : Between 1 n target
  pub stretch_in : Between 1000 4000 stretch

-- ---- "any mixture of their turns"

-- turns in the order of the list
unfoldable pub run : List ℕ → List Side → Bench → Bench
run map [] b = b
run map (s ∷ rest) b = run map rest (turned s map b)

-- how many of them are one side's
unfoldable pub turns_in : Side → List Side → ℕ
turns_in s [] = 0
turns_in Forward (Forward ∷ rest) = suc (turns_in Forward rest)
turns_in Forward (Backward ∷ rest) = turns_in Forward rest
turns_in Backward (Forward ∷ rest) = turns_in Backward rest
turns_in Backward (Backward ∷ rest) = suc (turns_in Backward rest)

-- ---- "the whole bench depends only on how many crossings each has settled"

-- the distance of v in a half that has settled it, else unknown
unfoldable pub settled_dist : ℕ → List ℕ → ℕ → ℕ
settled_dist n h v = cond (eqb (state n h v) 2) (dist h v) unknown

-- known exactly if the forward half has settled the target or the backward half the start: unknown is above every distance
unfoldable pub optimum_of : ℕ → ℕ → ℕ → List ℕ → List ℕ → ℕ
optimum_of n start target f g = min (settled_dist n f target) (settled_dist n g start)

-- the bench after opening and i settled crossings of the forward half, j of the backward half
unfoldable pub bench_at : List ℕ → ℕ → ℕ → ℕ → ℕ → ℕ → List ℕ → ℕ → ℕ → Bench
bench_at map n m start target stretch past i j =
    let f = half_after Forward map n m start i in
    let g = half_after Backward map n m target j in
    marked (opened n m start target stretch past) (optimum_of n start target f g) f g

-- ---- how many crossings a half settles until it is done

-- v is settled and, if the optimum is known, 1,000 x its distance <= stretch x optimum
unfoldable pub is_in_reach : ℕ → ℕ → ℕ → List ℕ → ℕ → Bool
is_in_reach n stretch optimum h v = eqb (state n h v) 2 && not (beyond stretch optimum (dist h v))

-- how many crossings have a least cost from the root of this side and, where there is a route, with 1,000 x it <= stretch x optimum:
-- counted in halves with nothing left open
unfoldable pub turns_of : Side → List ℕ → ℕ → ℕ → ℕ → ℕ → ℕ → ℕ
turns_of s map n m start target stretch =
    let optimum = settled_dist n (half_after Forward map n m start n) target in
    let h = half_after s map n m (by_side s start target) n in
    tally (λ v. cond (is_in_reach n stretch optimum h v) 1 0) n
