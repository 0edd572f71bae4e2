-- What the calls say where they refuse and where they do not, and what opening and a turn have then. Assumes nothing.
use Rattle.std.proofs.Common.{◌≡◌, ℕ, ◌≤◌, true, false, List, [], ◌∷◌, length, refl, sym, ap, ◌∙◌, arith}
use borrow.Author.Tests.{eq-eqb, ne_eqb}
use Rattle.limits.specs.Limits.{Between}
use Rattle.limits.specs.Refusals.{number_of}
use Rattle.limits.specs.declared.Refusal.{Refusal}
use Rattle.limits.proofs.Refused.{number_not_zero}
use Rattle.limits.specs.Said.{Said, told, refused, unless_refused}
use Rattle.limits.proofs.Laws.{or_else_none, outside_none, room_none}
use Rattle.map.specs.Map.{Valid}
use Rattle.map.specs.declared.Side.{Side}
use Rattle.map.proofs.Laws.{fault_valid}
use Rattle.half.specs.Half.{dist}
use Rattle.shape.specs.Bench.{half, bench_words, words, parse}
use Rattle.shape.specs.Rules.{next, done, settled_by, turned, turn_told}
use Rattle.shaped.specs.Lent.{lent_fault}
use Rattle.shaped.proofs.Lent.{lent_ready}
use Rattle.shape.proofs.Rounds.{words_parse}
use Rattle.shape.proofs.Turns.{turned_done, turned_settles}
use Rattle.bench.specs.Calls.{judged, order_fault, open_fault, turn_fault, turn_said, turn_words}

-- ---- refused or not

pub judged_refused : {fault : ℕ} (answer : Said) (x y : List ℕ) → (fault ≡ 0 → ⊥) → (refused fault [] ≡ judged fault answer) × (x ≡ unless_refused (judged fault answer) y x)
unfolding judged
judged_refused answer x y z = simp (ne_eqb _ _ z) (refl, refl)

pub judged_told : {fault : ℕ} {answer : Said} {values : List ℕ} (x : List ℕ) {y w : List ℕ} → fault ≡ 0 → answer ≡ told values → w ≡ y
    → (answer ≡ judged fault (told values)) × (w ≡ unless_refused (judged fault (told values)) y x)
unfolding judged
judged_told x z e f = simp (eq-eqb _ _ z) (e, f)

module _ (fault : ℕ) where
  pub refused_says : (r : Refusal) (answer : Said) → number_of r ≡ fault → refused (number_of r) [] ≡ judged fault answer
  unfolding judged
  refused_says r answer e = rw (← e) (simp (ne_eqb _ _ (number_not_zero r)) refl)

  pub refused_keeps : (r : Refusal) (answer : Said) (x y : List ℕ) → number_of r ≡ fault → x ≡ unless_refused (judged fault answer) y x
  unfolding judged
  refused_keeps r answer x y e = rw (← e) (simp (ne_eqb _ _ (number_not_zero r)) refl)

  pub passed_says : (answer said : Said) → 0 ≡ fault → said ≡ answer → said ≡ judged fault answer
  unfolding judged
  passed_says answer said e f = rw (← e) f

  pub passed_writes : (values x y z : List ℕ) → 0 ≡ fault → z ≡ y → z ≡ unless_refused (judged fault (told values)) y x
  unfolding judged
  passed_writes values x y z e f = rw (← e) f

-- for the answers of a call
pub ruleset answers = (refused_says, refused_keeps, passed_says, passed_writes)

-- ---- opening

-- what an order has that is not refused
pub record Order (map : List ℕ) (n m start target : ℕ) (x : List ℕ) : Type 0 where
  pub valid : Valid n m map
  pub start_in : Between 1 n start
  pub target_in : Between 1 n target
  pub room : bench_words n ≤ length x

pub open_order : (map : List ℕ) (n m start target stretch : ℕ) (x : List ℕ) → 0 ≡ open_fault map n m start target stretch x → Order map n m start target x
unfolding open_fault order_fault
open_order map n m start target stretch x h =
    let a = or_else_none _ _ (sym h) in
    let b = or_else_none _ _ a.1 in
    let c = or_else_none _ _ b.0 in
    record {
      valid = fault_valid n m map a.0;
      start_in = outside_none 1 n 4 start (λ z. omega arith) c.0;
      target_in = outside_none 1 n 4 target (λ z. omega arith) (or_else_none _ _ c.1).0;
      room = room_none _ _ b.1;
    }

-- ---- one turn

module _ (map : List ℕ) (n m : ℕ) (x : List ℕ) where
  module _ {fault : ℕ} (e : fault ≡ lent_fault map n m 0 x) where
    pub turn_refused : (s : Side) → (fault ≡ 0 → ⊥) → (refused fault [] ≡ turn_said s map n m x) × (x ≡ turn_words s map n m x)
    unfolding turn_words turn_said turn_fault
    turn_refused s z = rw (← e) (judged_refused _ _ _ z)

    pub turn_goes : (s : Side) {answer : Said} {y : List ℕ} → fault ≡ 0 → answer ≡ turn_told s (parse n x) → y ≡ words (turned s map (parse n x))
        → (answer ≡ turn_said s map n m x) × (y ≡ turn_words s map n m x)
    unfolding turn_words turn_said turn_fault turn_told
    turn_goes s z p q = rw (← e) (judged_told x z p q)

  module _ (s : Side) (z : 0 ≡ lent_fault map n m 0 x) where
    pub turn_stays : done s (parse n x) ≡ true → (told [] ≡ turn_said s map n m x) × (x ≡ turn_words s map n m x)
    unfolding turn_told
    turn_stays d = turn_goes refl s (sym z) told_is (sym (words_parse n x (lent_ready map n m 0 x (sym z)).1.room) ∙ ap words (sym (turned_done s map (parse n x) d)))
      where
        told_is : told [] ≡ turn_told s (parse n x)
        told_is = rw d refl

    pub turn_settles : {v d : ℕ} {y : List ℕ} → done s (parse n x) ≡ false → next s (parse n x) ≡ v → d ≡ dist (half s (parse n x)) v → y ≡ words (settled_by s map v (parse n x))
        → (told (v ∷ d ∷ []) ≡ turn_said s map n m x) × (y ≡ turn_words s map n m x)
    unfolding turn_told
    turn_settles {v} {d} e is f p =
        turn_goes refl s (sym z) told_is (p ∙ ap (λ (k : ℕ). words (settled_by s map k (parse n x))) (sym is) ∙ ap words (sym (turned_settles s map (parse n x) e)))
      where
        told_is : told (v ∷ d ∷ []) ≡ turn_told s (parse n x)
        told_is = rw (e, is, f) refl
