-- "Four worthless programs are named": what the promises say at the five crossings, which none of the four does. Assumes nothing.
use Rattle.std.specs.Prelude.{◌≡◌, List, [], ◌∷◌, ℕ, replicate}
use Rattle.limits.specs.Said.{Said, told}
use Rattle.map.specs.Walk.{by_side}
use Rattle.map.specs.declared.Side.{Side}
use Rattle.half.specs.Half.{settled_count}
use Rattle.shape.specs.Bench.{half, parse}
use Rattle.claims.specs.Five.{five, five_after}
use Rattle.claims.specs.Promises.{Open, TakeTurn, FillMask}

-- the bench of start 1, target 5 and a stretch, after i turns each
abbrev pub after : ℕ → ℕ → List ℕ
after stretch i = five_after 7 1 5 stretch i i

pub record Worthless : Type 0 where
  -- "One that refuses everything breaks the table, and with it the turns of demand 3"
  pub opens : (s : Said) (x : List ℕ) → Open five 5 7 1 5 1200 (replicate 41 0) s x → s ≡ told []
  pub settles : (side : Side) (s : Said) (x : List ℕ) → TakeTurn side five 5 7 (after 1200 0) s x → s ≡ told (by_side side 1 5 ∷ 0 ∷ [])
  -- "one that returns the same area always breaks demand 2"
  pub areas_differ : (s t : Said) (x y : List ℕ) → FillMask five 5 7 (after 1099 5) 0 (replicate 5 0) s x → FillMask five 5 7 (after 1200 5) 0 (replicate 5 0) t y
      → x ≡ y → ⊥
  -- "One whose turns change nothing breaks demand 3"
  pub changes : (side : Side) (s : Said) (x : List ℕ) → TakeTurn side five 5 7 (after 1200 0) s x → x ≡ after 1200 0 → ⊥
  -- "and so does one that settles all crossings in its first turn and afterward only names them"
  pub settles_one : (side : Side) (s : Said) (x : List ℕ) → TakeTurn side five 5 7 (after 1200 0) s x → settled_count 5 (half side (parse 5 x)) ≡ 1
