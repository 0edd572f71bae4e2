-- Local optimality along the two trails of a crossing, the mask of the area call, and the route through a crossing. Assumes nothing.
use Rattle.std.specs.Prelude.{Bool, true, cond, ◌&&◌, List, [], ◌∷◌, ◌++◌, reverse, ℕ, ◌+◌, ◌-◌, eqb, leb, get_or, drop}
use Rattle.std.proofs.lemmas.List.Edits.{sets}
use Rattle.map.specs.Walk.{other}
use Rattle.map.specs.declared.Side.{Side}
use Rattle.map.specs.declared.Side.TheVariants.{Forward, Backward}
use Rattle.half.specs.Half.{dist, state}
use Rattle.shape.specs.Bench.{Bench, half}
use Rattle.shape.specs.Rules.{list_from}
use Rattle.trail.specs.Trail.{trail}

-- ---- local optimality

-- which crossings q of the trail of x are tested: those with d = dist x - dist q <= locality
unfoldable pub tested : ℕ → List ℕ → ℕ → List ℕ → List ℕ
tested locality h x [] = []
tested locality h x (q ∷ qs) = cond (leb (dist h x - dist h q) locality) (q ∷ tested locality h x qs) (tested locality h x qs)

-- the other half g has settled q, at distance sum
unfoldable pub agrees_at : ℕ → List ℕ → ℕ → ℕ → Bool
agrees_at n g q sum = eqb (state n g q) 2 && eqb (dist g q) sum

-- the sum being d + its distance of x
unfoldable pub agrees : ℕ → List ℕ → List ℕ → ℕ → ℕ → Bool
agrees n h g x q = agrees_at n g q (dist h x - dist h q + dist g x)

unfoldable pub every : (ℕ → Bool) → List ℕ → Bool
every p [] = true
every p (q ∷ qs) = p q && every p qs

-- every tested crossing of the trail of x in the half h agrees with the other half g
unfoldable pub local_in : Side → List ℕ → ℕ → ℕ → List ℕ → List ℕ → ℕ → Bool
local_in side map n locality h g x = every (agrees n h g x) (tested locality h x (trail side map n h x))

abbrev pub local : Side → List ℕ → ℕ → Bench → ℕ → Bool
local side map locality b x = local_in side map b.n locality (half side b) (half (other side) b) x

-- ---- the mask: 0 unmarked, 1 in B only, 2 also in BL

unfoldable pub mask_at : List ℕ → ℕ → ℕ → List ℕ → List ℕ → List ℕ → ℕ → ℕ
mask_at map n locality f g marks x =
    cond (eqb (get_or marks (x - 1) 0) 1)
    (cond (local_in Forward map n locality f g x && local_in Backward map n locality g f x) 2 1)
    0

unfoldable pub mask_in : List ℕ → ℕ → ℕ → List ℕ → List ℕ → List ℕ → List ℕ
mask_in map n locality f g marks = list_from (mask_at map n locality f g marks) 1 n

-- the lent mask afterward: later bytes stay
abbrev pub mask_filled : List ℕ → ℕ → ℕ → List ℕ → List ℕ → List ℕ → List ℕ → List ℕ
mask_filled map n locality f g marks mask = sets mask 0 (mask_in map n locality f g marks)

abbrev pub mask_of : List ℕ → ℕ → Bench → List ℕ
mask_of map locality b = mask_in map b.n locality b.forward b.backward b.marks

-- ---- the route: start, .., x, .., target along the two trails, x once

unfoldable pub route_in : List ℕ → ℕ → List ℕ → List ℕ → ℕ → List ℕ
route_in map n f g x = reverse (trail Forward map n f x) ++ drop 1 (trail Backward map n g x)

abbrev pub route_of : List ℕ → Bench → ℕ → List ℕ
route_of map b x = route_in map b.n b.forward b.backward x
