-- Laws of the definitions: what no refusal says, and how a loop finds the first one. Assumes nothing.
use mathlib.Core.Path.{◌≡◌, refl, sym, ap, ◌∙◌}
use mathlib.Core.Bool.{Bool, true, false, cond}
use Prim.Native.Nat.{ℕ, zero, suc, ◌+◌, ◌-◌, ◌≤◌, ◌<◌}
use native.Mathlib.Omega.{arith}
use native.Mathlib.Numerals.{add-one}
use native.Mathlib.Decide.{ℕ_discrete}
use lib.Dec.{eqb, ltb}
use borrow.Author.Tests.{eq-eqb, ne_eqb, eqb-true, eqb-false, ltb-false, le-ltb, lt-ltb}
use Rattle.limits.specs.First.{or_else, first_from}
use Rattle.limits.specs.Limits.{Between, number_outside, room_fault}
use Rattle.limits.proofs.Cases.{cond_both, cond_cases, cond_else}

-- ---- the first of two

pub or_else_first : (a b : ℕ) → (a ≡ 0 → ⊥) → or_else a b ≡ a
unfolding or_else
or_else_first a b h = simp (ne_eqb _ _ h)

pub or_else_second : (a b : ℕ) → a ≡ 0 → or_else a b ≡ b
unfolding or_else
or_else_second a b h = simp (eq-eqb _ _ h)

pub or_else_none : (a b : ℕ) → or_else a b ≡ 0 → (a ≡ 0) × (b ≡ 0)
unfolding or_else
or_else_none a b = go (eqb a 0) refl
  where
    go : (t : Bool) → eqb a 0 ≡ t → cond t b a ≡ 0 → (a ≡ 0) × (b ≡ 0)
    go true e h = (eqb-true _ _ e, h)
    go false e h = absurd (eqb-false _ _ e h)

pub or_else_assoc : (a b c : ℕ) → or_else a (or_else b c) ≡ or_else (or_else a b) c
or_else_assoc a b c = go (ℕ_discrete a 0)
  where
    go : Dec (a ≡ 0) → or_else a (or_else b c) ≡ or_else (or_else a b) c
    go (yes z) = or_else_second _ _ z ∙ ap (λ (k : ℕ). or_else k c) (sym (or_else_second a b z))
    go (no z) = or_else_first _ _ z ∙ sym (ap (λ (k : ℕ). or_else k c) (or_else_first a b z) ∙ or_else_first _ _ z)

pub none_or_else : (a b : ℕ) → a ≡ 0 → b ≡ 0 → or_else a b ≡ 0
none_or_else a b p q = or_else_second a b p ∙ q

pub or_else_zero : (a : ℕ) → or_else a 0 ≡ a
unfolding or_else
or_else_zero a = cond_cases (λ (k : ℕ). k ≡ a) (eqb a 0) (λ e. sym (eqb-true _ _ e)) (λ e. refl)

-- ---- what holds of every number that a check can give

module _ (P : ℕ → Type 0) where
  pub or_else_both : (a b : ℕ) → P a → P b → P (or_else a b)
  unfolding or_else
  or_else_both a b p q = cond_both P (eqb a 0) q p

  pub outside_both : (low high number x : ℕ) → P number → P 0 → P (number_outside low high number x)
  unfolding number_outside
  outside_both low high number x p q = cond_both P (ltb x low) p (cond_both P (ltb high x) p q)

  pub room_both : (needed lent : ℕ) → P 3 → P 0 → P (room_fault needed lent)
  unfolding room_fault
  room_both needed lent p q = cond_both P (ltb lent needed) p q

  pub first_both : (f : ℕ → ℕ) → ((j : ℕ) → P (f j)) → P 0 → (i k : ℕ) → P (first_from f i k)
  unfolding first_from
  first_both f p q i zero = q
  first_both f p q i (suc k) = or_else_both _ _ (p i) (first_both f p q (suc i) k)

-- ---- the first of many

module _ (f : ℕ → ℕ) (i k : ℕ) (h : i < k) where
  one_more : k - i ≡ suc (k - (i + 1))
  one_more = omega arith

  first_step : first_from f i (k - i) ≡ or_else (f i) (first_from f (i + 1) (k - (i + 1)))
  unfolding first_from
  first_step = rw (one_more, add-one)

  pub first_hit : (f i ≡ 0 → ⊥) → first_from f i (k - i) ≡ f i
  first_hit g = first_step ∙ or_else_first _ _ g

  pub first_miss : f i ≡ 0 → first_from f i (k - i) ≡ first_from f (i + 1) (k - (i + 1))
  first_miss g = first_step ∙ or_else_second _ _ g

pub first_end : (f : ℕ → ℕ) (i k : ℕ) → k ≤ i → first_from f i (k - i) ≡ 0
unfolding first_from
first_end f i k h = let e : k - i ≡ 0 = omega arith in rw e

pub first_none : (f : ℕ → ℕ) (i k : ℕ) → first_from f i k ≡ 0 → (j : ℕ) → i ≤ j → j < i + k → f j ≡ 0
unfolding first_from
first_none f i zero h j a b = absurd (omega arith)
first_none f i (suc k) h j a b = go (ℕ_discrete j i) (first_none f (suc i) k (or_else_none _ _ h).1 j)
  where
    go : Dec (j ≡ i) → (suc i ≤ j → j < suc i + k → f j ≡ 0) → f j ≡ 0
    go (yes e) rest = rw e (or_else_none _ _ h).0
    go (no n) rest = rest (omega arith) (omega arith)

pub none_first : (f : ℕ → ℕ) (i k : ℕ) → ((j : ℕ) → i ≤ j → j < i + k → f j ≡ 0) → first_from f i k ≡ 0
unfolding first_from
none_first f i zero h = refl
none_first f i (suc k) h =
    none_or_else _ _ (h i (omega arith) (omega arith)) (none_first f (suc i) k (λ j a b. h j (omega arith) (omega arith)))

-- ---- a range

pub outside_none : (low high number x : ℕ) → (number ≡ 0 → ⊥) → number_outside low high number x ≡ 0 → Between low high x
unfolding number_outside
outside_none low high number x ne = go (ltb x low) (ltb high x) refl refl
  where
    go : (s t : Bool) → ltb x low ≡ s → ltb high x ≡ t → cond s number (cond t number 0) ≡ 0 → Between low high x
    go true t e f h = absurd (ne h)
    go false true e f h = absurd (ne h)
    go false false e f h = record { least = ltb-false _ _ e; most = ltb-false _ _ f }

pub none_outside : (low high number x : ℕ) → Between low high x → number_outside low high number x ≡ 0
unfolding number_outside
none_outside low high number x b = simp (le-ltb _ _ b.least, le-ltb _ _ b.most)

-- ---- lent memory

pub room_none : (needed lent : ℕ) → room_fault needed lent ≡ 0 → needed ≤ lent
unfolding room_fault
room_none needed lent h = ltb-false _ _ (cond_else (ltb lent needed) h (λ z. omega arith)).0

pub none_room : (needed lent : ℕ) → needed ≤ lent → room_fault needed lent ≡ 0
unfolding room_fault
none_room needed lent h = rw (le-ltb lent needed h)

-- ---- the three ways that a number lies, and the two that room does

module _ (low high number x : ℕ) where
  pub below_outside : x < low → number ≡ number_outside low high number x
  unfolding number_outside
  below_outside h = simp (lt-ltb _ _ h)

  pub above_outside : low ≤ x → high < x → number ≡ number_outside low high number x
  unfolding number_outside
  above_outside h g = simp (le-ltb _ _ h, lt-ltb _ _ g)

  pub inside_outside : low ≤ x → x ≤ high → 0 ≡ number_outside low high number x
  unfolding number_outside
  inside_outside h g = simp (le-ltb _ _ h, le-ltb _ _ g)

module _ (needed lent : ℕ) where
  pub short_room : lent < needed → 3 ≡ room_fault needed lent
  unfolding room_fault
  short_room h = simp (lt-ltb _ _ h)

  pub long_room : needed ≤ lent → 0 ≡ room_fault needed lent
  unfolding room_fault
  long_room h = simp (le-ltb _ _ h)

  pub room_for : 0 ≡ room_fault needed lent → needed ≤ lent
  room_for e = room_none needed lent (sym e)
