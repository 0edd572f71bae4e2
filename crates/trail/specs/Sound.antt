-- When the trails of a bench are sound, and the checks of it: 7 where they are not, else 0. Assumes nothing.
use Rattle.std.specs.Prelude.{◌≡◌, Bool, cond, ◌&&◌, ◌≢◌, List, ℕ, ◌+◌, ◌-◌, eqb, leb, get_or}
use Rattle.limits.specs.First.{all_fine}
use Rattle.limits.specs.Limits.{Between}
use Rattle.map.specs.Map.{cost}
use Rattle.map.specs.Walk.{near, far}
use Rattle.map.specs.declared.Side.{Side}
use Rattle.half.specs.Half.{dist, link, state, entry, Tight}
use Rattle.half.specs.declared.Entry.{Entry}
use Rattle.shape.specs.Bench.{Bench}
use Rattle.shape.specs.Rules.{mark, marks_of}

-- ---- one half: the root is settled at distance 0 with link number 0, every other settled crossing names a link into it (backward: out of it)
-- whose other end is settled there, the distance being exactly that end's plus the cost

pub record SoundHalf (side : Side) (map : List ℕ) (n m root : ℕ) (h : List ℕ) : Type 0 where
  pub root_is : entry n h root ≡ record { dist = 0; link = 0; state = 2 }
  pub named : (v : ℕ) → Between 1 n v → v ≢ root → state n h v ≡ 2 → Tight side map n m h v (link n h v)

-- ---- its check

abbrev pub seven_unless : Bool → ℕ
seven_unless t = cond t 0 7

unfoldable pub root_fault : Entry → ℕ
root_fault e = seven_unless (eqb e.dist 0 && (eqb e.link 0 && eqb e.state 2))

-- of v, settled at distance d, and link k, one of the map's
unfoldable pub tight_fault : Side → List ℕ → ℕ → List ℕ → ℕ → ℕ → ℕ → ℕ
tight_fault side map n h v d k =
    seven_unless (eqb (far side map k) v && (eqb (state n h (near side map k)) 2 && eqb d (dist h (near side map k) + cost map k)))

-- of v, settled at distance d with link number k
unfoldable pub named_fault : Side → List ℕ → ℕ → ℕ → List ℕ → ℕ → ℕ → ℕ → ℕ
named_fault side map n m h v d k = cond (leb 1 k && leb k m) (tight_fault side map n h v d k) 7

unfoldable pub sound_at : Side → List ℕ → ℕ → ℕ → ℕ → List ℕ → ℕ → ℕ
sound_at side map n m root h v =
    cond (eqb v root) (root_fault (entry n h v))
    (cond (eqb (state n h v) 2) (named_fault side map n m h v (dist h v) (link n h v)) 0)

unfoldable pub sound_fault : Side → List ℕ → ℕ → ℕ → ℕ → List ℕ → ℕ
sound_fault side map n m root h = seven_unless (all_fine (sound_at side map n m root h) n)

-- ---- the marks: each is what rule 4 of a turn gives

abbrev pub MarksSound : Bench → Type 0
MarksSound b = b.marks ≡ marks_of b.n b.stretch b.optimum b.forward b.backward

unfoldable pub mark_fault : ℕ → ℕ → ℕ → List ℕ → List ℕ → List ℕ → ℕ → ℕ
mark_fault n stretch optimum f g marks v = seven_unless (eqb (get_or marks (v - 1) 0) (mark n stretch optimum f g v))

unfoldable pub marks_fault : ℕ → ℕ → ℕ → List ℕ → List ℕ → List ℕ → ℕ
marks_fault n stretch optimum f g marks = seven_unless (all_fine (mark_fault n stretch optimum f g marks) n)
