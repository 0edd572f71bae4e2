-- A mixture of turns on the lent words: opened, then a turn for each byte of a schedule, forward for 0 and else backward. Assumes nothing.
use Rattle.std.specs.Prelude.{cond, List, [], ◌∷◌, ℕ, min, eqb, drop}
use Rattle.limits.specs.Said.{unless_refused}
use Rattle.map.specs.declared.Side.{Side}
use Rattle.map.specs.declared.Side.TheVariants.{Forward, Backward}
use Rattle.shape.specs.Bench.{bench_words, words}
use Rattle.bench.specs.Calls.{open_said, turn_words}
use Rattle.demands.specs.Mixture.{turns_in, bench_at, turns_of}

abbrev pub side_of : ℕ → Side
side_of byte = cond (eqb byte 0) Forward Backward

unfoldable pub sides_of : List ℕ → List Side
sides_of [] = []
sides_of (byte ∷ rest) = side_of byte ∷ sides_of rest

-- the words after the turns of a schedule, call by call
unfoldable pub turns_words : List ℕ → ℕ → ℕ → List ℕ → List ℕ → List ℕ
turns_words map n m [] x = x
turns_words map n m (byte ∷ rest) x = turns_words map n m rest (turn_words (side_of byte) map n m x)

-- "after any mixture of their turns the whole bench, marks included, depends only on how many crossings each has settled": refused as
-- opening is, the words stay; else they are those of the bench at the two counts of bytes, each cut where its half is done
unfoldable pub mixture_words : List ℕ → ℕ → ℕ → ℕ → ℕ → ℕ → List ℕ → List ℕ → List ℕ
mixture_words map n m start target stretch schedule x =
    let i = min (turns_in Forward (sides_of schedule)) (turns_of Forward map n m start target stretch) in
    let j = min (turns_in Backward (sides_of schedule)) (turns_of Backward map n m start target stretch) in
    unless_refused (open_said map n m start target stretch x) (words (bench_at map n m start target stretch (drop (bench_words n) x) i j)) x
