-- What a settled turn writes before the marks. Assumes nothing.
use Rattle.std.specs.Prelude.{List, ℕ}
use Rattle.map.specs.Walk.{other}
use Rattle.map.specs.declared.Side.{Side}
use Rattle.half.specs.Half.{dist, settled_at}
use Rattle.shape.specs.Bench.{Bench, half, root}
use Rattle.shape.specs.Parts.{with_half, with_optimum}
use Rattle.shape.specs.Rules.{found}

-- rule 2 on the half of a side, then rule 3
unfoldable pub unmarked : Side → List ℕ → ℕ → Bench → Bench
unmarked s map x b =
    with_optimum (found (root (other s) b) x (dist (half s b) x) b.optimum) (with_half s (settled_at s map b.n b.m x (half s b)) b)
