-- The letter of a crossing of the area, by its byte of the mask. Assumes nothing.
use Rattle.std.specs.Prelude.{cond, ℕ, eqb}

-- `l` in BL, else `b`
abbrev pub letter_of : ℕ → ℕ
letter_of byte = cond (eqb byte 2) 108 98
