-- A choice by a test: what holds of both holds of the choice; and what the test was, where one of the two cannot have been chosen.
-- Assumes nothing.
use mathlib.Core.Path.{◌≡◌, refl, sym}
use mathlib.Core.Bool.{Bool, true, false, cond, ◌&&◌, true≢false}

module _ {A : Type 0} {a b x : A} where
  pub cond_then : (t : Bool) → cond t a b ≡ x → (b ≡ x → ⊥) → (t ≡ true) × (a ≡ x)
  cond_then true e n = (refl, e)
  cond_then false e n = absurd (n e)

  pub cond_else : (t : Bool) → cond t a b ≡ x → (a ≡ x → ⊥) → (t ≡ false) × (b ≡ x)
  cond_else true e n = absurd (n e)
  cond_else false e n = (refl, e)

pub cond_both {ℓ κ} : {A : Type ℓ} (P : A → Type κ) (t : Bool) {a b : A} → P a → P b → P (cond t a b)
cond_both P true p q = p
cond_both P false p q = q

pub cond_cases {ℓ κ} : {A : Type ℓ} (P : A → Type κ) (t : Bool) {a b : A} → (t ≡ true → P a) → (t ≡ false → P b) → P (cond t a b)
cond_cases P true p q = p refl
cond_cases P false p q = q refl

pub and_both : (a b : Bool) → (a && b) ≡ true → (a ≡ true) × (b ≡ true)
and_both true b e = (refl, e)
and_both false b e = absurd (true≢false (sym e))
