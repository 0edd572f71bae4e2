-- Trails by lowest links over walks, and along them the locally optimal area BL and routes. No bench is mentioned. Assumes nothing.
use Rattle.std.specs.Prelude.{◌≡◌, ◌≢◌, ℕ, ◌+◌, ◌≤◌, drop}
use mathlib.Core.List.{List, [], ◌∷◌, ◌++◌, reverse, Memᴰ}
use Rattle.limits.specs.Limits.{Between}
use Rattle.map.specs.Map.{cost}
use Rattle.map.specs.Walk.{other, near, far, Walk, Least, by_side}
use Rattle.map.specs.declared.Side.{Side}
use Rattle.map.specs.declared.Side.TheVariants.{Forward, Backward}
use Rattle.demands.specs.Demands.{InArea}

module _ (map : List ℕ) (m start target : ℕ) where
  -- from(v) is c; backward: to(v) is c
  abbrev pub Away : Side → ℕ → ℕ → Type 0
  Away s v c = Least s map m (by_side s start target) v c

  -- link k ends a cheapest way from the start to v; backward: begins one from v to the target
  pub record Ends (s : Side) (v k : ℕ) : Type 0 where
    pub inside : Between 1 m k
    pub into : far s map k ≡ v
    pub before : ℕ
    pub walk : Walk s map m (by_side s start target) (near s map k) before
    pub cheapest : Away s v (before + cost map k)

  -- "the lowest link among those that end (backward: begin) a cheapest way"
  pub record Lowest (s : Side) (v k : ℕ) : Type 0 where
    pub ends : Ends s v k
    pub lowest : (j : ℕ) → Ends s v j → k ≤ j

  -- qs is the trail of v: "The trail of I in the forward half follows link numbers back to the start; in the backward half on to the target."
  pub data Trail (s : Side) : ℕ → List ℕ → Type 0 where
    at_root : {v : ℕ} {qs : List ℕ} → v ≡ by_side s start target → qs ≡ v ∷ [] → Trail s v qs
    by_link : {v : ℕ} {qs rest : List ℕ} → (k : ℕ) → v ≢ by_side s start target → Lowest s v k → Trail s (near s map k) rest → qs ≡ v ∷ rest → Trail s v qs

  -- which crossings of the trail of v are tested: those from which v is at most the locality away
  abbrev pub Tested : ℕ → ℕ → Type 0
  Tested locality d = d ≤ locality

  -- the condition on the trail qs of v: "for every q on its forward trail with d = from(I) - from(q) <= locality, I itself included,
  -- to(q) = d + to(I)"; "A q that the other half hasn't settled fails", for it has no such least cost: that would be in reach
  abbrev pub Optimal : Side → ℕ → ℕ → List ℕ → Type 0
  Optimal s locality v qs =
      (q a c d : ℕ) → Memᴰ q qs → Away s q a → Away s v (a + d) → Tested locality d → Away (other s) v c → Away (other s) q (d + c)

  -- "A marked I is in BL if (a)", that condition on its forward trail, "and (b)", that on its backward trail
  pub record InLocal (stretch locality v : ℕ) : Type 0 where
    pub area : InArea map m start target stretch v
    pub trail : Side → List ℕ
    pub is_trail : (s : Side) → Trail s v (trail s)
    pub optimal : (s : Side) → Optimal s locality v (trail s)

  -- "start, .., I, .., target along the two trails (I once, any other crossing on both trails twice)"
  pub record RouteThrough (v : ℕ) (qs : List ℕ) : Type 0 where
    pub there : List ℕ
    pub on : List ℕ
    pub there_trail : Trail Forward v there
    pub on_trail : Trail Backward v on
    pub joined : qs ≡ reverse there ++ drop 1 on
