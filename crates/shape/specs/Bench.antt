-- The bench as a record of its parts and as the words that are lent, with every place of the layout; opened, and well shaped for a map.
-- Assumes nothing.
use Rattle.std.specs.Prelude.{◌≡◌, ◌⊎◌, List, ◌∷◌, ◌++◌, ℕ, ◌+◌, ◌*◌, ◌-◌, ◌≤◌, length, get_or, take, drop, replicate}
use Rattle.limits.specs.Limits.{Between}
use Rattle.map.specs.declared.Side.{Side}
use Rattle.map.specs.declared.Side.TheVariants.{Forward, Backward}
use Rattle.half.specs.Half.{unknown, ceiling, open_half, ShapedHalf}

-- ---- the parts

pub record Bench : Type 0 where
  pub n : ℕ
  pub m : ℕ
  pub start : ℕ
  pub target : ℕ
  pub stretch : ℕ
  pub optimum : ℕ
  pub forward : List ℕ
  pub backward : List ℕ
  pub marks : List ℕ
  pub past : List ℕ

abbrev pub half : Side → Bench → List ℕ
half Forward b = b.forward
half Backward b = b.backward

-- the crossing at which a half opens
abbrev pub root : Side → Bench → ℕ
root Forward b = b.start
root Backward b = b.target

-- ---- the words: n, m, start, target, stretch, optimum, the forward half, the backward half, the marks, and the words past the bench

abbrev pub half_at : Side → ℕ → ℕ
half_at Forward n = 6
half_at Backward n = 6 + 3 * n

abbrev pub marks_at : ℕ → ℕ
marks_at n = 6 + 6 * n

abbrev pub bench_words : ℕ → ℕ
bench_words n = 6 + 7 * n

unfoldable pub words : Bench → List ℕ
words b = b.n ∷ b.m ∷ b.start ∷ b.target ∷ b.stretch ∷ b.optimum ∷ (b.forward ++ (b.backward ++ (b.marks ++ b.past)))

-- the parts of the words of a bench for n crossings
unfoldable pub parse : ℕ → List ℕ → Bench
parse n x =
    record {
      n = get_or x 0 0;
      m = get_or x 1 0;
      start = get_or x 2 0;
      target = get_or x 3 0;
      stretch = get_or x 4 0;
      optimum = get_or x 5 0;
      forward = take (3 * n) (drop (half_at Forward n) x);
      backward = take (3 * n) (drop (half_at Backward n) x);
      marks = take n (drop (marks_at n) x);
      past = drop (bench_words n) x;
    }

-- ---- opened: optimum unknown, each half opened at its root, all marks 0

unfoldable pub opened : ℕ → ℕ → ℕ → ℕ → ℕ → List ℕ → Bench
opened n m start target stretch past =
    record {
      n = n;
      m = m;
      start = start;
      target = target;
      stretch = stretch;
      optimum = unknown;
      forward = open_half n start;
      backward = open_half n target;
      marks = replicate n 0;
      past = past;
    }

-- ---- well shaped for a map of n crossings and m links

pub record WellShaped (n m : ℕ) (b : Bench) : Type 0 where
  pub same_n : b.n ≡ n
  pub same_m : b.m ≡ m
  pub start_in : Between 1 n b.start
  pub target_in : Between 1 n b.target
  pub stretch_in : Between 1000 4000 b.stretch
  pub optimum_in : (b.optimum ≡ unknown) ⊎ (b.optimum ≤ ceiling)
  pub halves : (s : Side) → ShapedHalf n m (half s b)
  pub marks_room : length b.marks ≡ n
  pub marks_in : (v : ℕ) → Between 1 n v → get_or b.marks (v - 1) 0 ≤ 1
