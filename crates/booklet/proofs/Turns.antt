-- Turns that are taken alternately: what an answer says of the bench, that a bench on which neither half goes on stays, and the loop over
-- the turns. Assumes nothing.
use mathlib.Core.Path.{◌≡◌, refl, sym, ap, ◌∙◌}
use mathlib.Core.Bool.{Bool, true, false, true≢false}
use mathlib.Core.List.{List, [], ◌∷◌}
use Prim.Native.Nat.{ℕ, zero, suc, ◌+◌, ◌*◌, ◌-◌, ◌≤◌, ◌<◌}
use native.Mathlib.Decide.{ℕ_discrete}
use native.Mathlib.Omega.{arith}
use borrow.Author.Tests.{eqb-true, eqb-false}
use lib.Dec.{eqb}
use Rattle.std.specs.Prelude.{Result, Ok, Err}
use Rattle.limits.specs.Refusals.{number_of, fault_of}
use Rattle.limits.proofs.Refused.{number_not_zero}
use Rattle.limits.specs.declared.Refusal.{Refusal}
use Rattle.limits.specs.Said.{Said, told, refused}
use Rattle.limits.proofs.Said.{told_refused, refused_told}
use Rattle.limits.proofs.Cases.{cond_then, cond_else}
use Rattle.map.specs.Walk.{other}
use Rattle.map.specs.declared.Side.{Side}
use Rattle.map.specs.declared.Side.TheVariants.{Forward, Backward}
use Rattle.shape.specs.Bench.{words, parse}
use Rattle.shape.specs.Rules.{done, turned, turn_told}
use Rattle.shape.proofs.Rounds.{words_parse}
use Rattle.shape.proofs.Turns.{turned_done, turned_shaped}
use Rattle.shaped.proofs.Lent.{Ready, lent_ready}
use Rattle.bench.specs.Calls.{judged, said_turn, turn_fault, turn_said, turn_words}
use Rattle.bench.proofs.Laws.{turn_refused, turn_goes}
use Rattle.bench.specs.declared.Turn.{Turn}
use Rattle.bench.specs.declared.Turn.TheVariants.{Settled, Done}
use Rattle.demands.proofs.Calls.{turn_fine}
use Rattle.booklet.specs.Survey.{alternate, alternated}

-- ---- what an answer says of its number of refusal

pub judged_fine : {fault : ℕ} {answer : Said} {vs : List ℕ} → told vs ≡ judged fault answer → (fault ≡ 0) × (answer ≡ told vs)
unfolding judged
judged_fine {fault} e = let (t, a) = cond_then (eqb fault 0) (sym e) refused_told in (eqb-true _ 0 t, a)

pub judged_number : {fault r : ℕ} {vs : List ℕ} (ws : List ℕ) → refused r vs ≡ judged fault (told ws) → (fault ≡ r) × (fault ≡ 0 → ⊥)
unfolding judged
judged_number {fault} ws e = let (t, a) = cond_else (eqb fault 0) (sym e) told_refused in (cc, eqb-false _ 0 t)

told_same : {vs ws : List ℕ} → told vs ≡ told ws → vs ≡ ws
told_same e = cc

not_nothing : {v : ℕ} {vs : List ℕ} → v ∷ vs ≡ [] → ⊥
not_nothing e = let z : ◌≡◌ {A = ℕ} 0 1 = cc in omega arith

module _ (map : List ℕ) (n m : ℕ) (s : Side) (x : List ℕ) where
  turn_number : (t : Result Turn Refusal) → said_turn t ≡ turn_said s map n m x → fault_of t ≡ turn_fault map n m x
  unfolding turn_said turn_told
  turn_number (Ok (Settled v d)) e = sym (judged_fine e).0
  turn_number (Ok Done) e = sym (judged_fine e).0
  turn_number (Err r) e = sym (judged_number _ e).0

  -- what a turn has that is not refused, and what it leaves
  ready : turn_fault map n m x ≡ 0 → Ready map n m x
  unfolding turn_fault
  ready z = (lent_ready map n m 0 x z).1

  turn_leaves : turn_fault map n m x ≡ 0 → turn_words s map n m x ≡ words (turned s map (parse n x))
  unfolding turn_fault
  turn_leaves z = sym (turn_goes map n m x refl s z refl refl).1

  -- a refused turn, and one of a half that is done, leave the bench
  refused_stays : (turn_fault map n m x ≡ 0 → ⊥) → turn_words s map n m x ≡ x
  unfolding turn_fault
  refused_stays z = sym (turn_refused map n m x refl s z).1

  done_stays : told [] ≡ turn_said s map n m x → turn_words s map n m x ≡ x
  unfolding turn_said turn_told
  done_stays e =
      let (z, a) = judged_fine e in
      let d = (cond_then (done s (parse n x)) (told_same a) not_nothing).0 in
      turn_leaves z ∙ ap words (turned_done s map (parse n x) d) ∙ words_parse n x (ready z).room

  -- the next turn is refused exactly as this one
  turn_keeps : turn_fault map n m (turn_words s map n m x) ≡ turn_fault map n m x
  turn_keeps = go (ℕ_discrete (turn_fault map n m x) 0)
    where
      go : Dec (turn_fault map n m x ≡ 0) → turn_fault map n m (turn_words s map n m x) ≡ turn_fault map n m x
      go (yes z) = let r = ready z in ap (turn_fault map n m) (turn_leaves z) ∙ turn_fine r.valid (turned_shaped r.valid r.shaped s) ∙ sym z
      go (no z) = ap (turn_fault map n m) (refused_stays z)

  -- neither settled nor refused: the half is done
  idle_stays : (t : Turn) → said_turn (Ok t) ≡ turn_said s map n m x → ((v d : ℕ) → t ≡ Settled v d → ⊥) → turn_words s map n m x ≡ x
  idle_stays (Settled v d) e f = absurd (f v d refl)
  idle_stays Done e f = done_stays e

-- ---- where neither half goes on, the bench stays

both_stay : (map : List ℕ) (n m : ℕ) (s : Side) (x : List ℕ) → turn_words s map n m x ≡ x → turn_words (other s) map n m x ≡ x → (r : Side) → turn_words r map n m x ≡ x
unfolding other
both_stay map n m Forward x p q Forward = p
both_stay map n m Forward x p q Backward = q
both_stay map n m Backward x p q Forward = q
both_stay map n m Backward x p q Backward = p

alternate_stays : (map : List ℕ) (n m : ℕ) (s : Side) (x : List ℕ) → ((r : Side) → turn_words r map n m x ≡ x) → (k : ℕ) → alternate map n m s k x ≡ x
unfolding alternate
alternate_stays map n m s x still zero = refl
alternate_stays map n m s x still (suc k) = rw (still s) (alternate_stays map n m (other s) x still k)

alternate_more : (map : List ℕ) (n m : ℕ) (s : Side) (x : List ℕ) (k : ℕ) → (k ≡ 0 → ⊥) → alternate map n m s k x ≡ alternate map n m (other s) (k - 1) (turn_words s map n m x)
unfolding alternate
alternate_more map n m s x zero z = absurd (z refl)
alternate_more map n m s x (suc k) z = let e : suc k - 1 ≡ k = omega arith in rw e

other_other : (s : Side) → other (other s) ≡ s
unfolding other
other_other Forward = refl
other_other Backward = refl

-- ---- the loop over the turns, which began on the bench x₀

-- so many turns are taken, and the next one is of side s; where the last was idle, its half is done
pub record Taken (map : List ℕ) (n m : ℕ) (x₀ : List ℕ) (s : Side) (taken : ℕ) (idle : Bool) (x : List ℕ) : Type 0 where
  pub rest : alternated map n m x₀ ≡ alternate map n m s (2 * n + 2 - taken) x
  pub kept : turn_fault map n m x ≡ turn_fault map n m x₀
  pub fine : 0 < taken → turn_fault map n m x ≡ 0
  pub still : idle ≡ true → turn_words (other s) map n m x ≡ x

module _ (map : List ℕ) (n m : ℕ) (x₀ : List ℕ) where
  abbrev Ended : ℕ → List ℕ → Type 0
  Ended number y = (number ≡ turn_fault map n m x₀) × (y ≡ alternated map n m x₀)

  pub none_taken : Taken map n m x₀ Forward 0 false x₀
  unfolding alternated
  none_taken =
      let e : 2 * n + 2 - 0 ≡ 2 * n + 2 = omega arith in
      record { rest = rw e; kept = refl; fine = λ h. absurd (omega arith); still = λ h. absurd (true≢false (sym h)) }

  pub all_taken : {s : Side} {k : ℕ} {idle : Bool} {x : List ℕ} → Taken map n m x₀ s k idle x → 2 * n + 2 ≤ k → Ended 0 x
  unfolding alternate
  all_taken {k = k} t h =
      let e : 2 * n + 2 - k ≡ 0 = omega arith in
      (sym (t.fine (omega arith)) ∙ t.kept, sym (rw e at t.rest))

  module _ {s : Side} {k : ℕ} {idle : Bool} {x y : List ℕ} (before : Taken map n m x₀ s k idle x) (t : Result Turn Refusal) (e : said_turn t ≡ turn_said s map n m x) (p : y ≡ turn_words s map n m x) where
    -- the turn is refused
    pub refused_taken : {r : Refusal} → t ≡ Err r → Ended (number_of r) y
    refused_taken {r} q =
        let a : number_of r ≡ turn_fault map n m x = ap fault_of (sym q) ∙ turn_number map n m s x t e in
        let f : (v : Side) → turn_words v map n m x ≡ x = λ v. refused_stays map n m v x (λ h. number_not_zero r (a ∙ h)) in
        (a ∙ before.kept, p ∙ f s ∙ sym (before.rest ∙ alternate_stays map n m s x f _))

    -- one turn more is taken
    more : k < 2 * n + 2 → {r : Side} → r ≡ other s → fault_of t ≡ 0 → {again : Bool} → (again ≡ true → turn_words s map n m y ≡ y) → Taken map n m x₀ r (k + 1) again y
    more h q f still =
        let a = turn_keeps map n m s x in
        let b : turn_fault map n m y ≡ turn_fault map n m x = rw p a in
        let left : 2 * n + 2 - (k + 1) ≡ 2 * n + 2 - k - 1 = omega arith in
        record {
          rest = before.rest ∙ rw (left, q, p) (alternate_more map n m s x (2 * n + 2 - k) (λ z. omega arith));
          kept = b ∙ before.kept;
          fine = λ _. b ∙ sym (turn_number map n m s x t e) ∙ f;
          still = λ h. rw (q, other_other s) (still h);
        }

    module _ {u : Turn} (q : t ≡ Ok u) where
      pub settled_taken : k < 2 * n + 2 → {r : Side} → r ≡ other s → Taken map n m x₀ r (k + 1) false y
      settled_taken h o = more h o (ap fault_of q) (λ z. absurd (true≢false (sym z)))

      module _ (f : (v d : ℕ) → u ≡ Settled v d → ⊥) where
        same : turn_words s map n m x ≡ x
        same = idle_stays map n m s x u (ap said_turn (sym q) ∙ e) f

        -- the half is done
        pub idle_taken : k < 2 * n + 2 → {r : Side} → r ≡ other s → Taken map n m x₀ r (k + 1) true y
        idle_taken h o = more h o (ap fault_of q) (λ _. rw (p ∙ same) same)

        -- both are
        pub both_done : idle ≡ true → Ended 0 y
        both_done h =
            (sym (ap fault_of q) ∙ turn_number map n m s x t e ∙ before.kept, p ∙ same ∙ sym (before.rest ∙ alternate_stays map n m s x (both_stay map n m s x same (before.still h)) _))
