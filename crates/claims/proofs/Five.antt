-- Every row of the table of the five crossings holds, by computing the definitions. Assumes nothing.
use mathlib.Core.Path.{◌≡◌, refl}
use Rattle.claims.specs.Five.{row_shows, row_says, each, rows}
use Rattle.claims.proofs.Computed.{computed}

pub rows_hold : each row_shows rows ≡ each row_says rows
unfolding computed
rows_hold = refl
