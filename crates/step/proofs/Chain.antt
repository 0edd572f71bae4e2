-- A chain of checks of a line: the first that refuses is its fault. Assumes nothing.
use Rattle.std.proofs.Common.{◌≡◌, ℕ, sym, ◌∙◌, Result, Ok, Err}
use borrow.Author.Tests.{eq-eqb, ne_eqb}
use Rattle.limits.specs.Refusals.{number_of}
use Rattle.limits.specs.declared.Refusal.{Refusal}
use Rattle.limits.proofs.Refused.{number_not_zero}
use Rattle.step.specs.Step.{FaultAt, fault_at, first_of, step_by}
use Rattle.step.specs.declared.State.{State}

module _ (a p : ℕ) (next : State) where
  -- the last check refuses, or it doesn't
  pub refused_last : (r : Refusal) → number_of r ≡ a → Err (fault_at (number_of r) p) ≡ step_by (fault_at a p) next
  unfolding step_by
  refused_last r e = let n = λ (z : a ≡ 0). number_not_zero r (e ∙ z) in rw (e, ne_eqb a 0 n)

  pub passed_last : 0 ≡ a → Ok next ≡ step_by (fault_at a p) next
  unfolding step_by
  passed_last e = rw (eq-eqb a 0 (sym e))

  module _ (b : FaultAt) where
    -- one before it does, or the next tells
    pub refused_at : (r : Refusal) → number_of r ≡ a → Err (fault_at (number_of r) p) ≡ step_by (first_of (fault_at a p) b) next
    unfolding step_by first_of
    refused_at r e = let n = λ (z : a ≡ 0). number_not_zero r (e ∙ z) in rw (e, ne_eqb a 0 n, ne_eqb a 0 n)

    pub passed_at : {x : Result State FaultAt} → 0 ≡ a → x ≡ step_by b next → x ≡ step_by (first_of (fault_at a p) b) next
    unfolding first_of
    passed_at e h = rw (eq-eqb a 0 (sym e)) h

pub ruleset chain = (refused_last, passed_last, refused_at, passed_at)
