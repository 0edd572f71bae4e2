-- An answer that says values is no refusal. Assumes nothing.
use mathlib.Core.Path.{◌≡◌}
use mathlib.Core.List.{List}
use Prim.Native.Nat.{ℕ}
use native.Mathlib.Omega.{arith}
use Rattle.limits.specs.Said.{told, refused}

pub told_refused : {r : ℕ} {vs ws : List ℕ} → told vs ≡ refused r ws → ⊥
told_refused e = let z : ◌≡◌ {A = ℕ} 0 1 = cc in omega arith

pub refused_told : {r : ℕ} {vs ws : List ℕ} → refused r vs ≡ told ws → ⊥
refused_told e = let z : ◌≡◌ {A = ℕ} 0 1 = cc in omega arith
