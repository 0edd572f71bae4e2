-- `text_rows::read_row` is safe and ends. That an array has its length is said by the law, as counting it out is beyond the checker. Assumes nothing.
use mathlib.Core.Path.{sym}
use Prim.Native.Nat.{ℕ}
use lib.ListN.{length-replicate}
use Rattle.text_rows.proofs.read_row.Goals as goal

pub slice_bounds-run_row-end : goal.slice_bounds-run_row-end
slice_bounds-run_row-end g c = sym (length-replicate {0} {A = ℕ} 1048600 0)
