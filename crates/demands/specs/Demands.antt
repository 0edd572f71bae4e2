-- Demands 2 and 3 as statements, the user's sentence above each, and what the document says of benches that came from opening.
-- Demand 2 and Sound are over a bench b: they hold of the bench at any two counts, so of what any mixture of turns leaves. Assumes nothing.
use Rattle.std.specs.Prelude.{◌≡◌, true, false, ◌≢◌, ◌↔◌, ◌⊎◌, List, ℕ, suc, ◌+◌, ◌*◌, ◌-◌, ◌≤◌, ◌<◌, min, get_or, replicate}
use Rattle.limits.specs.Limits.{Between}
use Rattle.map.specs.Map.{cost}
use Rattle.map.specs.Walk.{near, far, Walk, Least, by_side}
use Rattle.map.specs.declared.Side.{Side}
use Rattle.map.specs.declared.Side.TheVariants.{Forward, Backward}
use Rattle.half.specs.Half.{unknown, dist, link, state, entry, settled_count, Before, Tight}
use Rattle.shape.specs.Bench.{Bench, half, opened, WellShaped}
use Rattle.shape.specs.Rules.{done, marks_of, turned}
use Rattle.nearest.specs.After.{half_after}
use Rattle.demands.specs.Mixture.{run, turns_in, settled_dist, is_in_reach, turns_of, bench_at}

-- v is in the bypass area B: "least cost from start plus least cost to target stays within the stretch times the optimum"
pub record InArea (map : List ℕ) (m start target stretch v : ℕ) : Type 0 where
  pub from : ℕ
  pub to : ℕ
  pub optimum : ℕ
  pub from_least : Least Forward map m start v from
  pub to_least : Least Forward map m v target to
  pub optimum_least : Least Forward map m start target optimum
  pub within : 1000 * (from + to) ≤ stretch * optimum

module _ (map : List ℕ) (n m start target stretch : ℕ) where
  abbrev pub Route : ℕ → Type 0
  Route o = Least Forward map m start target o

  abbrev pub NoWalk : Type 0
  NoWalk = (c : ℕ) → Walk Forward map m start target c → ⊥

  abbrev pub Finished : Bench → Type 0
  Finished b = (s : Side) → done s b ≡ true

  abbrev pub mark_of : Bench → ℕ → ℕ
  mark_of b v = get_or b.marks (v - 1) 0

  -- ---- demand 2

  pub record Demand2 (b : Bench) : Type 0 where
    -- "Costs are the least over all walks in the one-way road graph."
    pub costs_least : (s : Side) (v : ℕ) → Between 1 n v → state n (half s b) v ≡ 2 → Least s map m (by_side s start target) v (dist (half s b) v)
    -- "When both workers are done .., the marked crossings are exactly those where least cost from start plus least cost to target stays
    -- within the stretch times the optimum, as Roth's paper on bypass areas defines it"
    pub marked_area : Finished b → (v : ℕ) → Between 1 n v → (mark_of b v ≡ 1) ↔ InArea map m start target stretch v
    -- "(none without a route)"
    pub unmarked : NoWalk → b.marks ≡ replicate n 0
    -- with a route, start and target are marked
    pub ends_marked : Finished b → (o : ℕ) → Route o → (s : Side) → mark_of b (by_side s start target) ≡ 1
    -- a worker that is done knows the optimum, "the least cost from start to target"
    pub optimum_least : (s : Side) → done s b ≡ true → (o : ℕ) → Route o → b.optimum ≡ o
    -- ""No route" is then .. given exactly if no walk leads from start to target."
    pub no_route : (s : Side) → done s b ≡ true → (b.optimum ≡ unknown) ↔ NoWalk

  -- ---- "Calls after opening with the same map and bench never meet 6 or 7."

  pub record Sound (b : Bench) : Type 0 where
    pub well_shaped : WellShaped n m b
    -- "each mark is what rule 4 of a turn gives"
    pub marks_rule : b.marks ≡ marks_of n stretch b.optimum b.forward b.backward
    -- "the start (target) is settled at distance 0 with link number 0", from the first turn on and so when done
    pub root_settled : (s : Side) → (done s b ≡ true) ⊎ (1 ≤ settled_count n (half s b))
        → entry n (half s b) (by_side s start target) ≡ record { dist = 0; link = 0; state = 2 }
    -- "every other settled crossing of that half names a link into (out of) it whose other end is settled there, the distance being exactly
    -- that end's plus the cost"
    pub linked : (s : Side) (v : ℕ) → Between 1 n v → v ≢ by_side s start target → state n (half s b) v ≡ 2 → Tight s map n m (half s b) v (link n (half s b) v)
    -- "the lowest link among those that end (backward: begin) a cheapest way"
    pub lowest : (s : Side) (v k c : ℕ) → Between 1 n v → state n (half s b) v ≡ 2 → Between 1 m k → far s map k ≡ v
        → Walk s map m (by_side s start target) (near s map k) c → c + cost map k ≡ dist (half s b) v → link n (half s b) v ≤ k

  -- ---- demand 3

  -- how many crossings a half settles until it is done
  abbrev pub turns : Side → ℕ
  turns s = turns_of s map n m start target stretch

  module _ (past : List ℕ) where
    -- the bench after opening and a mixture of turns, and the bench at two counts
    abbrev pub left : List Side → Bench
    left schedule = run map schedule (opened n m start target stretch past)

    abbrev pub at : ℕ → ℕ → Bench
    at i j = bench_at map n m start target stretch past i j

    pub record Demand3 : Type 0 where
      -- "After any mixture of their turns the whole bench, marks included, depends for that map and order only on how many crossings each has
      -- settled, never on who went when"
      pub mixture : (schedule : List Side) → left schedule ≡ at (min (turns_in Forward schedule) (turns Forward)) (min (turns_in Backward schedule) (turns Backward))
      pub counts_decide : (one two : List Side) → ((s : Side) → settled_count n (half s (left one)) ≡ settled_count n (half s (left two))) → left one ≡ left two
      -- "each has settled that many"
      pub settled_so_far : (s : Side) (i j : ℕ) → by_side s i j ≤ turns s → settled_count n (half s (at i j)) ≡ by_side s i j
      -- "of its nearest, ties by crossing number": each comes before whatever else has a least cost
      pub nearest : (s : Side) (i j u v c : ℕ) → Between 1 n u → state n (half s (at i j)) u ≡ 2 → state n (half s (at i j)) v ≢ 2
          → Least s map m (by_side s start target) v c → Before (dist (half s (at i j)) u) u c v
      -- "A turn of a worker not yet done settles exactly one more."
      pub one_more : (s : Side) (schedule : List Side) → done s (left schedule) ≡ false
          → settled_count n (half s (turned s map (left schedule))) ≡ suc (settled_count n (half s (left schedule)))
      pub turn_at : (s : Side) (i j : ℕ) → by_side s i j < turns s → turned s map (at i j) ≡ at (by_side s (suc i) i) (by_side s j (suc j))
      -- a worker is done exactly when it has settled all in its reach: by its own count, whatever the other has done
      pub done_at : (s : Side) (i j : ℕ) → by_side s i j ≤ turns s → (done s (at i j) ≡ true) ↔ (by_side s i j ≡ turns s)
      pub in_reach : (s : Side) (v : ℕ) → Between 1 n v
          → (is_in_reach n stretch (settled_dist n (half_after Forward map n m start n) target) (half_after s map n m (by_side s start target) n) v ≡ true)
          ↔ ((c : ℕ) × Least s map m (by_side s start target) v c × ((o : ℕ) → Route o → 1000 * c ≤ stretch * o))
      -- "On a map of n crossings each is done by its turn n + 1 at the latest"
      pub done_by : (s : Side) (schedule : List Side) → n ≤ turns_in s schedule → done s (left schedule) ≡ true
      -- "the answer is Done and nothing changes", and it stays done
      pub done_keeps : (s : Side) (schedule : List Side) → done s (left schedule) ≡ true → turned s map (left schedule) ≡ left schedule
      pub done_stays : (s t : Side) (schedule : List Side) → done s (left schedule) ≡ true → done s (turned t map (left schedule)) ≡ true
