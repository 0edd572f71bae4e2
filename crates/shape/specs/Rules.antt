-- One turn on a bench, rule by rule: when a half is done, what a settled turn changes, and the marks. Assumes nothing.
use Rattle.std.specs.Prelude.{Bool, true, cond, not, ◌&&◌, List, [], ◌∷◌, ℕ, zero, suc, ◌+◌, ◌*◌, eqb, leb}
use Rattle.limits.specs.Said.{Said, told}
use Rattle.map.specs.declared.Side.{Side}
use Rattle.map.specs.declared.Side.TheVariants.{Forward, Backward}
use Rattle.half.specs.Half.{unknown, dist, state, nearest_open, settled_at}
use Rattle.shape.specs.Bench.{Bench, half, root}
use Rattle.shape.specs.Parts.{with_parts}

-- the one comparison with stretch times optimum: 1,000 x (a + b) <= stretch x optimum
unfoldable pub within : ℕ → ℕ → ℕ → ℕ → Bool
within stretch optimum a b = leb (1000 * (a + b)) (stretch * optimum)

unfoldable pub known : ℕ → Bool
known optimum = not (eqb optimum unknown)

-- ---- rule 1

-- the open crossing of least distance, the lower number on a tie; 0 where none is open
abbrev pub next : Side → Bench → ℕ
next s b = nearest_open b.n (half s b)

-- the optimum is known and 1,000 x the distance > stretch x optimum
unfoldable pub beyond : ℕ → ℕ → ℕ → Bool
beyond stretch optimum d = known optimum && not (within stretch optimum d 0)

unfoldable pub done : Side → Bench → Bool
done s b = cond (eqb (next s b) 0) true (beyond b.stretch b.optimum (dist (half s b) (next s b)))

-- ---- rule 3: settled at distance d, x makes the optimum known if it is the other half's root

unfoldable pub found : ℕ → ℕ → ℕ → ℕ → ℕ
found goal x d optimum = cond (eqb x goal && not (known optimum)) d optimum

-- ---- rule 4

-- of a crossing with states s and t and distances a and b in the two halves
abbrev pub mark_by : ℕ → ℕ → ℕ → ℕ → ℕ → ℕ → ℕ
mark_by stretch optimum s t a b = cond (known optimum && (eqb s 2 && (eqb t 2 && within stretch optimum a b))) 1 0

unfoldable pub mark : ℕ → ℕ → ℕ → List ℕ → List ℕ → ℕ → ℕ
mark n stretch optimum f g v = mark_by stretch optimum (state n f v) (state n g v) (dist f v) (dist g v)

-- f i, f (i + 1), .., f (i + k - 1)
unfoldable pub list_from : (ℕ → ℕ) → ℕ → ℕ → List ℕ
list_from f i zero = []
list_from f i (suc k) = f i ∷ list_from f (suc i) k

unfoldable pub marks_of : ℕ → ℕ → ℕ → List ℕ → List ℕ → List ℕ
marks_of n stretch optimum f g = list_from (mark n stretch optimum f g) 1 n

-- ---- the turn

-- the bench with this optimum, these halves, and the marks of rule 4
abbrev pub marked : Bench → ℕ → List ℕ → List ℕ → Bench
marked b optimum f g = with_parts optimum f g (marks_of b.n b.stretch optimum f g) b

-- the bench with the marks of rule 4, all else as it stands
abbrev pub remarked : Bench → Bench
remarked b = marked b b.optimum b.forward b.backward

-- x is settled: its half by rule 2, the optimum by rule 3, the marks by rule 4
abbrev pub settled_by : Side → List ℕ → ℕ → Bench → Bench
settled_by Forward map x b =
    marked b (found (root Backward b) x (dist b.forward x) b.optimum) (settled_at Forward map b.n b.m x b.forward) b.backward
settled_by Backward map x b =
    marked b (found (root Forward b) x (dist b.backward x) b.optimum) b.forward (settled_at Backward map b.n b.m x b.backward)

unfoldable pub turned : Side → List ℕ → Bench → Bench
turned s map b = cond (done s b) b (settled_by s map (next s b) b)

-- what the turn says: nothing where the half is done, else the crossing settled and its distance
unfoldable pub turn_told : Side → Bench → Said
turn_told s b = told (cond (done s b) [] (next s b ∷ dist (half s b) (next s b) ∷ []))
