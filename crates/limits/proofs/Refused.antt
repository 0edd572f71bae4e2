-- Answers that refuse: no refusal has the number 0, so in a chain of checks the first that refuses tells the number. Assumes nothing.
use Rattle.std.proofs.Common.{◌≡◌, ℕ, sym, ◌∙◌, arith, Result, Ok, Err, eqb}
use borrow.Author.Tests.{eq-eqb, ne_eqb}
use Rattle.std.specs.Result.{is_ok, result_and}
use Rattle.limits.specs.First.{or_else}
use Rattle.limits.specs.Refusals.{number_of, fault_of}
use Rattle.limits.specs.declared.Refusal.{Refusal}
use Rattle.limits.specs.declared.Refusal.TheVariants.{Layout, Count, Room, Crossing, Amount, Shape, Trails, NotDone, NoRoute, Unmarked}
use Rattle.limits.proofs.Laws.{or_else_first, or_else_second}

pub number_not_zero : (r : Refusal) → number_of r ≡ 0 → ⊥
number_not_zero Layout e = omega (arith, e)
number_not_zero Count e = omega (arith, e)
number_not_zero Room e = omega (arith, e)
number_not_zero Crossing e = omega (arith, e)
number_not_zero Amount e = omega (arith, e)
number_not_zero Shape e = omega (arith, e)
number_not_zero Trails e = omega (arith, e)
number_not_zero NotDone e = omega (arith, e)
number_not_zero NoRoute e = omega (arith, e)
number_not_zero Unmarked e = omega (arith, e)

module _ (a b : ℕ) where
  -- the first check refuses
  pub refused_first : (r : Refusal) → number_of r ≡ a → number_of r ≡ or_else a b
  refused_first r e = e ∙ sym (or_else_first a b (λ z. number_not_zero r (e ∙ z)))

  -- it doesn't, and the second tells
  pub passed_first : {k : ℕ} → 0 ≡ a → k ≡ b → k ≡ or_else a b
  passed_first e h = h ∙ sym (or_else_second a b (sym e))

-- whether an answer is Ok, by its number
pub passes : (r : Result (Unit {0}) Refusal) {k : ℕ} → fault_of r ≡ k → is_ok r ≡ eqb k 0
passes (Ok a) e = sym (eq-eqb _ _ (sym e))
passes (Err r) e = sym (ne_eqb _ _ (λ z. number_not_zero r (e ∙ z)))

-- of two checks that are both made, the first that refuses tells the number
pub told_and : (r s : Result (Unit {0}) Refusal) {a b : ℕ} → fault_of r ≡ a → fault_of s ≡ b → fault_of (result_and r s) ≡ or_else a b
told_and (Ok u) s {a} {b} e h = h ∙ sym (or_else_second a b (sym e))
told_and (Err r) s {a} {b} e h = e ∙ sym (or_else_first a b (λ z. number_not_zero r (e ∙ z)))

-- what a chain of checks with `?` tells
pub ruleset checks = (refused_first, passed_first)
