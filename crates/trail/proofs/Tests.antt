-- What a check of 7 says that found no fault. Assumes nothing.
use mathlib.Core.Path.{◌≡◌, refl}
use mathlib.Core.Bool.{Bool, true, false}
use native.Mathlib.Omega.{arith}
use Rattle.trail.specs.Sound.{seven_unless}

pub seven_none : (t : Bool) → seven_unless t ≡ 0 → t ≡ true
seven_none true e = refl
seven_none false e = absurd (omega arith)
