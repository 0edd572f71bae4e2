-- How far a line agrees with a word: one law for each way that the loop goes. Assumes nothing.
use Prim.Native.Nat.{ℕ, ◌+◌, ◌≤◌, ◌<◌}
use mathlib.Core.Path.{◌≡◌}
use mathlib.Core.List.{List}
use native.Mathlib.Numerals.{add-one}
use borrow.Author.Tests.{eq-eqb, ne_eqb}
use lib.ListN.{length, get_or, drop, drop_of_length-le}
use lib.Seq.{drop-cons}
use Rattle.line.specs.Line.{agree_from}

module _ (w l : List ℕ) {i : ℕ} where
  pub agree_end : length w ≤ i → agree_from i (drop i w) (drop i l) ≡ i
  unfolding agree_from
  agree_end h = rw (drop_of_length-le w h)

  pub agree_out : i < length w → length l ≤ i → agree_from i (drop i w) (drop i l) ≡ i
  unfolding agree_from
  agree_out g h = rw (drop_of_length-le l h, drop-cons w i 0)

  pub agree_other : i < length w → i < length l → (get_or l i 0 ≡ get_or w i 0 → ⊥) → agree_from i (drop i w) (drop i l) ≡ i
  unfolding agree_from
  agree_other g h n = rw (drop-cons l i 0, drop-cons w i 0, ne_eqb (get_or l i 0) (get_or w i 0))

  pub agree_more : i < length w → i < length l → get_or l i 0 ≡ get_or w i 0 → agree_from i (drop i w) (drop i l) ≡ agree_from (i + 1) (drop (i + 1) w) (drop (i + 1) l)
  unfolding agree_from
  agree_more g h n = rw (drop-cons l i 0, drop-cons w i 0, eq-eqb (get_or l i 0) (get_or w i 0), add-one i)
