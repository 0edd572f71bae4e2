-- Two answers of a call that say the same are the same. Assumes nothing.
use Rattle.std.proofs.Common.{◌≡◌, ℕ, List, refl, sym, ap, ◌∙◌, arith, Result, Ok, Err, cond, eqb}
use Rattle.limits.specs.Refusals.{number_of}
use Rattle.limits.specs.Said.{told, refused}
use Rattle.limits.specs.declared.Refusal.{Refusal}
use Rattle.limits.specs.declared.Refusal.TheVariants.{Layout, Count, Room, Crossing, Amount, Shape, Trails, NotDone, NoRoute, Unmarked}
use Rattle.limits.proofs.Said.{told_refused}
use Rattle.bench.specs.Areas.{said_filling}
use Rattle.bench.specs.Calls.{said_by, said_opening, turn_values, said_turn}
use Rattle.bench.specs.Routes.{said_routing}
use Rattle.bench.specs.declared.Turn.{Turn}
use Rattle.bench.specs.declared.Turn.TheVariants.{Settled, Done}

-- ---- numbers of refusal

refusal_at : ℕ → Refusal
refusal_at k =
    cond (eqb k 1) Layout (cond (eqb k 2) Count (cond (eqb k 3) Room (cond (eqb k 4) Crossing (cond (eqb k 5) Amount (cond (eqb k 6) Shape (cond (eqb k 7) Trails (cond (eqb k 8) NotDone (cond (eqb k 9) NoRoute (Unmarked)))))))))

refusal_back : (r : Refusal) → refusal_at (number_of r) ≡ r
unfolding refusal_at
refusal_back Layout = refl
refusal_back Count = refl
refusal_back Room = refl
refusal_back Crossing = refl
refusal_back Amount = refl
refusal_back Shape = refl
refusal_back Trails = refl
refusal_back NotDone = refl
refusal_back NoRoute = refl
refusal_back Unmarked = refl

pub number_same : (r q : Refusal) → number_of r ≡ number_of q → r ≡ q
number_same r q e = sym (refusal_back r) ∙ ap refusal_at e ∙ refusal_back q

-- ---- answers

told_same : {v w : List ℕ} → told v ≡ told w → v ≡ w
told_same e = cc

refused_same : {r q : ℕ} {v w : List ℕ} → refused r v ≡ refused q w → r ≡ q
refused_same e = cc

module _ {A : Type 0} (values : A → List ℕ) (same : (a b : A) → values a ≡ values b → a ≡ b) where
  pub said_same : (a b : Result A Refusal) → said_by values a ≡ said_by values b → a ≡ b
  said_same (Ok a) (Ok b) e = ap Ok (same a b (told_same e))
  said_same (Ok a) (Err q) e = absurd (told_refused e)
  said_same (Err r) (Ok b) e = absurd (told_refused (sym e))
  said_same (Err r) (Err q) e = ap Err (number_same r q (refused_same e))

pub opening_same : (a b : Result (Unit {0}) Refusal) → said_opening a ≡ said_opening b → a ≡ b
opening_same = said_same _ (λ a b e. refl)

pub filling_same : (a b : Result (Unit {0}) Refusal) → said_filling a ≡ said_filling b → a ≡ b
filling_same = said_same _ (λ a b e. refl)

values_same : (a b : Turn) → turn_values a ≡ turn_values b → a ≡ b
values_same (Settled x d) (Settled y e) q = cc
values_same (Settled x d) Done q = let z : ◌≡◌ {A = ℕ} 0 1 = cc in absurd (omega arith)
values_same Done (Settled y e) q = let z : ◌≡◌ {A = ℕ} 0 1 = cc in absurd (omega arith)
values_same Done Done q = refl

pub turn_same : (a b : Result Turn Refusal) → said_turn a ≡ said_turn b → a ≡ b
turn_same = said_same _ values_same

pub routing_same : (a b : Result ℕ Refusal) → said_routing a ≡ said_routing b → a ≡ b
routing_same = said_same _ (λ a b e. cc)
