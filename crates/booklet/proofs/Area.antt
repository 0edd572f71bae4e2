-- The ways that the survey goes: opened, turns taken until both halves are done, and the mask filled. Assumes nothing.
use mathlib.Core.Path.{◌≡◌, refl, sym, ap, ◌∙◌}
use mathlib.Core.List.{List, [], ◌∷◌}
use Prim.Native.Nat.{ℕ, zero, suc, ◌+◌, ◌*◌, min}
use native.Mathlib.Omega.{arith}
use borrow.Author.Tests.{ne_eqb}
use lib.ListN.{length, drop}
use Rattle.std.specs.Prelude.{Result, Ok, Err, IfOk, OnOk}
use Rattle.limits.specs.Refusals.{number_of, fault_of}
use Rattle.limits.proofs.Refused.{number_not_zero}
use Rattle.limits.specs.declared.Refusal.{Refusal}
use Rattle.limits.specs.Said.{Said, told, refused}
use Rattle.limits.proofs.Laws.{or_else_first, or_else_second}
use Rattle.map.specs.Walk.{other}
use Rattle.map.specs.declared.Side.{Side}
use Rattle.map.specs.declared.Side.TheVariants.{Forward, Backward}
use Rattle.text.specs.Text.{read_text, map_after}
use Rattle.text.specs.declared.Refused.{Refused}
use Rattle.shape.specs.Bench.{bench_words}
use Rattle.shaped.proofs.Shapes.{opened_shaped}
use Rattle.area.specs.Finished.{area_fault}
use Rattle.area.proofs.Areas.{area_filled}
use Rattle.bench.specs.Calls.{open_said, open_words, turn_fault, turn_words}
use Rattle.bench.specs.Areas.{area_said, area_mask}
use Rattle.demands.specs.Mixture as mixture
use Rattle.demands.specs.Mixture.{turns_in, turns_of}
use Rattle.demands.specs.Calls.{sides_of, turns_words, mixture_words}
use Rattle.demands.proofs.Calls.{opened_order, turn_fine, mixture_goes}
use Rattle.demands.proofs.Turns.{turns_low}
use Rattle.booklet.specs.Survey.{alternate, alternated, finished_words, area_number, finished_mask, area_told, said, survey_said, survey_bench, survey_mask, HasRoom}
use Rattle.booklet.specs.declared.Order.{Order}
use Rattle.booklet.proofs.Turns.{judged_fine, judged_number}

-- ---- turns taken alternately are a mixture, in which each half takes n + 1

-- the bytes of the turns from a side on
schedule : Side → ℕ → List ℕ
schedule s zero = []
schedule Forward (suc k) = 0 ∷ schedule Backward k
schedule Backward (suc k) = 1 ∷ schedule Forward k

alternate_mixture : (map : List ℕ) (n m : ℕ) (s : Side) (k : ℕ) (x : List ℕ) → alternate map n m s k x ≡ turns_words map n m (schedule s k) x
unfolding alternate turns_words schedule other
alternate_mixture map n m s zero x = refl
alternate_mixture map n m Forward (suc k) x = alternate_mixture map n m Backward k (turn_words Forward map n m x)
alternate_mixture map n m Backward (suc k) x = alternate_mixture map n m Forward k (turn_words Backward map n m x)

schedule_counts : (s : Side) (k : ℕ) → turns_in s (sides_of (schedule Forward (2 * k))) ≡ k
unfolding schedule sides_of turns_in
schedule_counts s zero = refl
schedule_counts Forward (suc k) = let e : 2 * suc k ≡ suc (suc (2 * k)) = omega arith in rw e (ap suc (schedule_counts Forward k))
schedule_counts Backward (suc k) = let e : 2 * suc k ≡ suc (suc (2 * k)) = omega arith in rw e (ap suc (schedule_counts Backward k))

module _ (map : List ℕ) (n m : ℕ) (order : Order) (x : List ℕ) where
  abbrev opening : Said
  opening = open_said map n m order.start order.target order.stretch x

  abbrev after : List ℕ
  after = open_words map n m order.start order.target order.stretch x

  -- the answer, the bench and the mask are as promised
  pub record Found (mask₀ : List ℕ) (r : Result (Unit {0}) Refusal) (y w : List ℕ) : Type 0 where
    pub answer : fault_of r ≡ area_number map n m order x mask₀
    pub bench : y ≡ finished_words map n m order x
    pub mask : w ≡ finished_mask map n m order x mask₀
    pub room : OnOk r (HasRoom n y w)

  -- ---- refused at opening

  pub opening_refused : {r : Refusal} → refused (number_of r) [] ≡ opening → {y : List ℕ} → y ≡ after → (mask : List ℕ) → Found mask (Err r) y mask
  unfolding finished_words finished_mask open_words area_number open_said
  opening_refused e p mask =
      let (f, z) = judged_number [] e in
      record { answer = rw (or_else_first _ _ z, f); bench = p ∙ rw (← e); mask = rw (← e); room = tt }

  -- ---- opened

  module _ (e : told [] ≡ opening) where
    pub in_order : mixture.Order map n m order.start order.target order.stretch
    in_order = opened_order map n m order.start order.target order.stretch x (sym e)

    -- no turn is refused
    pub opened_turns : turn_fault map n m after ≡ 0
    unfolding open_words
    opened_turns =
        let o = in_order in
        rw (← e) (turn_fine o.valid (opened_shaped n m order.start order.target order.stretch (drop (bench_words n) x) o.start_in o.target_in o.stretch_in))

    -- after n + 1 turns each, both halves are done
    turns_cut : (s : Side) → min (turns_in s (sides_of (schedule Forward (2 * n + 2)))) (turns_of s map n m order.start order.target order.stretch) ≡ turns_of s map n m order.start order.target order.stretch
    turns_cut s =
        let k : 2 * n + 2 ≡ 2 * (n + 1) = omega arith in
        rw (k, schedule_counts s (n + 1)) (omega (arith, turns_low in_order s))

    pub opened_finished : {y z : List ℕ} → y ≡ after → z ≡ alternated map n m y → z ≡ finished_words map n m order x
    unfolding alternated mixture_words finished_words
    opened_finished p q =
        let t = mixture_goes map n m order.start order.target order.stretch x (sym e) (schedule Forward (2 * n + 2)) p (q ∙ alternate_mixture map n m Forward (2 * n + 2) _) in
        rw (← e) (rw (← e, turns_cut Forward, turns_cut Backward) at t)

    -- ---- the area

    module _ {z : List ℕ} (p : z ≡ finished_words map n m order x) (mask : List ℕ) where
      told_number : {number : ℕ} → number ≡ area_fault map n m z order.locality (length mask) → area_number map n m order x mask ≡ number
      unfolding area_number open_said
      told_number q = or_else_second _ _ (judged_fine e).0 ∙ rw (← p) (sym q)

      filled : {w : List ℕ} → w ≡ area_mask map n m z order.locality mask → w ≡ finished_mask map n m order x mask
      unfolding finished_mask
      filled q = rw (← e, ← p) q

      pub area_refused : {r : Refusal} → refused (number_of r) [] ≡ area_said map n m z order.locality mask → {w : List ℕ} → w ≡ area_mask map n m z order.locality mask
          → Found mask (Err r) z w
      unfolding area_said
      area_refused a b =
          record { answer = sym (told_number (sym (judged_number [] a).0)); bench = p; mask = filled b; room = tt }

      pub area_found : told [] ≡ area_said map n m z order.locality mask → {w : List ℕ} → w ≡ area_mask map n m z order.locality mask → length w ≡ length mask
          → Found mask (Ok tt) z w
      unfolding area_said
      area_found a b same =
          let f = (judged_fine a).0 in
          let g = area_filled map n m z order.locality (length mask) f in
          record { answer = sym (told_number (sym f)); bench = p; mask = filled b; room = (g.ready.valid.n_in.most, g.ready.room, omega (arith, g.fits)) }

-- ---- the whole survey

module _ (text map₀ : List ℕ) (order : Order) (x mask₀ : List ℕ) where
  -- the answer, the map, the bench and the mask are as promised
  pub record Surveyed (r : Result ℕ Refused) (l y w : List ℕ) : Type 0 where
    pub answer : said r ≡ survey_said text map₀ order x mask₀
    pub map : l ≡ map_after text map₀
    pub bench : y ≡ survey_bench text map₀ order x mask₀
    pub mask : w ≡ survey_mask text map₀ order x mask₀
    pub room : IfOk r (λ n. HasRoom n y w)

  module _ {l : List ℕ} (p : l ≡ map_after text map₀) where
    pub reading_refused : (r : Refused) → said (Err r) ≡ read_text (length map₀) text → Surveyed (Err r) l x mask₀
    unfolding survey_said survey_bench survey_mask
    reading_refused r e = record { answer = rw (← e); map = p; bench = rw (← e); mask = rw (← e); room = tt }

    module _ {n m : ℕ} (e : told (n ∷ m ∷ []) ≡ read_text (length map₀) text) {y w : List ℕ} where
      pub area_missing : (r : Refusal) → Found l n m order x mask₀ (Err r) y w → Surveyed (Err (record { refusal = r; line = 0 })) l y w
      unfolding survey_said survey_bench survey_mask area_told
      area_missing r f =
          record {
            answer = rw (← e, ← p, ← f.answer, ne_eqb _ 0 (number_not_zero r));
            map = p;
            bench = rw (← e, ← p) f.bench;
            mask = rw (← e, ← p) f.mask;
            room = tt;
          }

      pub area_there : Found l n m order x mask₀ (Ok tt) y w → Surveyed (Ok n) l y w
      unfolding survey_said survey_bench survey_mask area_told
      area_there f =
          record {
            answer = rw (← e, ← p, ← f.answer);
            map = p;
            bench = rw (← e, ← p) f.bench;
            mask = rw (← e, ← p) f.mask;
            room = f.room;
          }
