-- The public calls do what the mixture of turns says: turn by turn on the words, from opening on. Assumes nothing.
use mathlib.Core.Path.{◌≡◌, refl, ap, ◌∙◌}
use mathlib.Core.List.{List, [], ◌∷◌}
use Prim.Native.Nat.{ℕ, ◌+◌, ◌≤◌, ◌<◌}
use native.Mathlib.Numerals.{add-one}
use native.Mathlib.Omega.{arith}
use borrow.Author.Tests.{eq-eqb, eqb-true}
use lib.Dec.{eqb}
use lib.ListN.{length, get_or, drop, length-append, drop_of_length-le}
use lib.Seq.{drop-cons}
use Rattle.limits.specs.Said.{told, refused}
use Rattle.limits.proofs.Said.{refused_told}
use Rattle.limits.proofs.Cases.{cond_then}
use Rattle.limits.specs.First.{or_else}
use Rattle.limits.proofs.Laws.{or_else_second, or_else_none, or_else_zero, none_or_else, outside_none, none_room}
use Rattle.map.specs.Map.{Valid}
use Rattle.map.proofs.Laws.{fault_valid, valid_fault}
use Rattle.map.specs.declared.Side.{Side}
use Rattle.map.specs.declared.Side.TheVariants.{Forward, Backward}
use Rattle.shape.specs.Bench.{Bench, bench_words, words, opened, WellShaped}
use Rattle.shape.specs.Rules.{turned, turn_told}
use Rattle.shape.proofs.Rounds.{Room, shaped_room, parse_words}
use Rattle.shaped.specs.Lent.{lent_fault}
use Rattle.shaped.proofs.Shapes.{shaped_fault, opened_shaped}
use Rattle.shape.proofs.Turns.{turned_shaped}
use Rattle.bench.specs.Calls.{judged, order_fault, open_fault, open_said, open_words, turn_fault, turn_said, turn_words}
use Rattle.demands.specs.Mixture.{Order, run}
use Rattle.demands.specs.Calls.{side_of, sides_of, turns_words, mixture_words}
use Rattle.demands.proofs.Run.{run_opened}

-- ---- a turn on the words of a well-shaped bench

words_long : {n : ℕ} {b : Bench} → Room n b → bench_words n ≤ length (words b)
unfolding words
words_long {n} {b} r =
    simp length-append (omega (arith, r.halves Forward, r.halves Backward, r.marks))

module _ {map : List ℕ} {n m : ℕ} (valid : Valid n m map) where
  pub lent_fine : {b : Bench} → WellShaped n m b → (given : ℕ) → lent_fault map n m given (words b) ≡ given
  unfolding lent_fault
  lent_fine {b} w given =
      or_else_second _ _ (valid_fault n m map valid)
      ∙ ap (or_else given) (none_or_else _ _ (none_room _ _ (words_long (shaped_room w))) (rw (parse_words n b (shaped_room w)) (shaped_fault w)))
      ∙ or_else_zero given

  pub turn_fine : {b : Bench} → WellShaped n m b → turn_fault map n m (words b) ≡ 0
  unfolding turn_fault
  turn_fine w = lent_fine w 0

  turn_words_lem : (s : Side) {b : Bench} → WellShaped n m b → turn_words s map n m (words b) ≡ words (turned s map b)
  unfolding turn_words turn_said judged turn_told
  turn_words_lem s {b} w = rw (eq-eqb _ 0 (turn_fine w), parse_words n b (shaped_room w))

  turns_words_lem : (schedule : List ℕ) {b : Bench} → WellShaped n m b → turns_words map n m schedule (words b) ≡ words (run map (sides_of schedule) b)
  unfolding turns_words sides_of run
  turns_words_lem [] w = refl
  turns_words_lem (byte ∷ rest) {b} w = rw (turn_words_lem (side_of byte) w) (turns_words_lem rest (turned_shaped valid w (side_of byte)))

-- ---- an opening that is not refused

module _ (map : List ℕ) (n m start target stretch : ℕ) (x : List ℕ) (e : open_said map n m start target stretch x ≡ told []) where
  pub opened_order : Order map n m start target stretch
  unfolding open_said judged open_fault order_fault
  opened_order =
      let z = eqb-true _ 0 (cond_then (eqb (open_fault map n m start target stretch x) 0) e refused_told).0 in
      let a = or_else_none _ _ z in
      let b = or_else_none _ _ (or_else_none _ _ a.1).0 in
      let c = or_else_none _ _ b.1 in
      record {
        valid = fault_valid n m map a.0;
        start_in = outside_none 1 n 4 start (λ q. omega arith) b.0;
        target_in = outside_none 1 n 4 target (λ q. omega arith) c.0;
        stretch_in = outside_none 1000 4000 5 stretch (λ q. omega arith) c.1;
      }

  pub mixture_goes : (schedule : List ℕ) {y z : List ℕ} → y ≡ open_words map n m start target stretch x → z ≡ turns_words map n m schedule y → z ≡ mixture_words map n m start target stretch schedule x
  unfolding open_words mixture_words
  mixture_goes schedule p q =
      let o = opened_order in
      let b = opened n m start target stretch (drop (bench_words n) x) in
      let w = opened_shaped n m start target stretch (drop (bench_words n) x) o.start_in o.target_in o.stretch_in in
      let y : _ ≡ words b = p ∙ rw e in
      rw e (q ∙ ap (turns_words map n m schedule) y ∙ turns_words_lem o.valid schedule w ∙ ap words (run_opened o (drop (bench_words n) x) (sides_of schedule)))

pub mixture_refused : (map : List ℕ) (n m start target stretch : ℕ) (x : List ℕ) {r : ℕ} {vs : List ℕ} → open_said map n m start target stretch x ≡ refused r vs
    → (schedule : List ℕ) {y : List ℕ} → y ≡ open_words map n m start target stretch x → y ≡ mixture_words map n m start target stretch schedule x
unfolding open_words mixture_words
mixture_refused map n m start target stretch x e schedule p = rw e (p ∙ rw e)

-- ---- the ways that the code goes

module _ (map : List ℕ) (n m : ℕ) (schedule x : List ℕ) {i : ℕ} where
  pub turns_more : i < length schedule → {y : List ℕ} → y ≡ turn_words (side_of (get_or schedule i 0)) map n m x
      → turns_words map n m (drop i schedule) x ≡ turns_words map n m (drop (i + 1) schedule) y
  unfolding turns_words
  turns_more h p = rw (drop-cons schedule i 0, p, add-one i)

  pub turns_end : length schedule ≤ i → turns_words map n m (drop i schedule) x ≡ x
  unfolding turns_words
  turns_end h = rw (drop_of_length-le schedule h)
