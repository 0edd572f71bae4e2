-- A bench in which some of its parts are others, the rest as it was. Assumes nothing.
use Rattle.std.specs.Prelude.{List, ℕ}
use Rattle.map.specs.Walk.{by_side}
use Rattle.map.specs.declared.Side.{Side}
use Rattle.shape.specs.Bench.{Bench}

-- the six words before the halves
abbrev pub with_head : ℕ → ℕ → ℕ → ℕ → ℕ → ℕ → Bench → Bench
with_head n m start target stretch optimum b =
    record {
      n = n;
      m = m;
      start = start;
      target = target;
      stretch = stretch;
      optimum = optimum;
      forward = b.forward;
      backward = b.backward;
      marks = b.marks;
      past = b.past;
    }

-- the parts that a turn writes
abbrev pub with_parts : ℕ → List ℕ → List ℕ → List ℕ → Bench → Bench
with_parts optimum forward backward marks b =
    record {
      n = b.n;
      m = b.m;
      start = b.start;
      target = b.target;
      stretch = b.stretch;
      optimum = optimum;
      forward = forward;
      backward = backward;
      marks = marks;
      past = b.past;
    }

abbrev pub with_optimum : ℕ → Bench → Bench
with_optimum optimum b = with_parts optimum b.forward b.backward b.marks b

abbrev pub with_half : Side → List ℕ → Bench → Bench
with_half s p b = with_parts b.optimum (by_side s p b.forward) (by_side s b.backward p) b.marks b

abbrev pub with_marks : List ℕ → Bench → Bench
with_marks marks b = with_parts b.optimum b.forward b.backward marks b
