-- A turn of a half takes the bench at two counts to the bench at one more, until the half is done; so after any mixture of turns
-- the bench is the bench at the two counts of turns, each cut at the turns of its half. Assumes nothing.
use mathlib.Core.Path.{◌≡◌, refl, sym, ap, ap₂, ◌∙◌}
use mathlib.Core.Bool.{true, false}
use mathlib.Core.Logic.{◌≢◌, inl, inr, dite}
use mathlib.Core.List.{List, [], ◌∷◌}
use Prim.Native.Nat.{ℕ, zero, suc, ◌+◌, min}
use native.Mathlib.Decide.{dec_le}
use native.Mathlib.Omega.{arith}
use lib.ListN.{replicate}
use Rattle.map.specs.Walk.{by_side}
use Rattle.map.specs.declared.Side.{Side}
use Rattle.map.specs.declared.Side.TheVariants.{Forward, Backward}
use Rattle.half.specs.Half.{unknown, nearest_open}
use Rattle.shape.specs.Bench.{Bench, half, opened}
use Rattle.shape.specs.Rules.{done, mark, list_from, marks_of, marked, settled_by, turned}
use Rattle.shape.proofs.Turns.{turned_done, turned_settles}
use Rattle.nearest.specs.After.{half_after}
use Rattle.nearest.proofs.Theorems.{after_some}
use Rattle.demands.specs.Mixture.{Order, run, turns_in, optimum_of, bench_at}
use Rattle.demands.proofs.Optimum.{known_unknown, after, next, own, own_word, optimum, Optimum, missing, present, optimum_cases, optimum_opened, found_more}
use Rattle.demands.proofs.Turns.{stops, stops_same, turns, going, before_turns, at_turns}

no_marks : (n stretch : ℕ) (f g : List ℕ) (v k : ℕ) → list_from (mark n stretch unknown f g) v k ≡ replicate k 0
unfolding list_from mark
no_marks n stretch f g v zero = refl
no_marks n stretch f g v (suc k) = rw (known_unknown unknown refl, no_marks n stretch f g (suc v) k) refl

pub unmarked : (n stretch : ℕ) (f g : List ℕ) → marks_of n stretch unknown f g ≡ replicate n 0
unfolding marks_of
unmarked n stretch f g = no_marks n stretch f g 1 n

module _ {map : List ℕ} {n m start target stretch : ℕ} (order : Order map n m start target stretch) (past : List ℕ) where
  abbrev pub bench : ℕ → ℕ → Bench
  bench i j = bench_at map n m start target stretch past i j

  -- ---- one turn

  -- whether a half is done depends on its own count alone
  pub done_stops : (s : Side) (i j : ℕ) → done s (bench i j) ≡ stops order s (by_side s i j)
  unfolding done bench_at opened
  done_stops s i j = go s (optimum_cases order i j)
    where
      go : (s : Side) → Optimum order i j → done s (bench i j) ≡ stops order s (by_side s i j)
      go Forward (missing e f) = stops_same order Forward i (optimum order i j) (inr (e, f Forward))
      go Forward (present e _ _) = stops_same order Forward i (optimum order i j) (inl e)
      go Backward (missing e f) = stops_same order Backward j (optimum order i j) (inr (e, f Backward))
      go Backward (present e _ _) = stops_same order Backward j (optimum order i j) (inl e)

  abbrev one_more : Side → ℕ → ℕ → Bench
  one_more s i j = bench (by_side s (suc i) i) (by_side s j (suc j))

  settled_more : (s : Side) (i j : ℕ) → next order s (by_side s i j) ≢ 0 → settled_by s map (nearest_open n (half s (bench i j))) (bench i j) ≡ one_more s i j
  unfolding bench_at opened optimum_of
  settled_more Forward i j ne =
      ap₂ (λ o h. marked (bench i j) o h (after order Backward j))
      (found_more order Forward i (own order Backward j) _ ne (own_word order Backward j) refl)
      (sym (after_some Forward map n m start i ne))
  settled_more Backward i j ne =
      ap₂ (λ o h. marked (bench i j) o (after order Forward i) h)
      (found_more order Backward j (own order Forward i) (min (own order Forward i) (own order Backward j)) ne (own_word order Forward i) (omega arith) ∙ omega arith)
      (sym (after_some Backward map n m target j ne))

  turn_done : (s : Side) (i j : ℕ) → stops order s (by_side s i j) ≡ true → turned s map (bench i j) ≡ bench i j
  turn_done s i j e = turned_done s map (bench i j) (done_stops s i j ∙ e)

  pub turn_more : (s : Side) (i j : ℕ) → stops order s (by_side s i j) ≡ false → turned s map (bench i j) ≡ one_more s i j
  unfolding bench_at opened
  turn_more s i j e = turned_settles s map (bench i j) (done_stops s i j ∙ e) ∙ settled_more s i j (going order s (by_side s i j) e).0

  -- ---- any mixture of turns

  -- the bench after a turns of the forward half and b of the backward one
  abbrev cut : ℕ → ℕ → Bench
  cut a b = bench (min a (turns order Forward)) (min b (turns order Backward))

  pub turn_cut : (s : Side) (a b : ℕ) → turned s map (cut a b) ≡ cut (by_side s (suc a) a) (by_side s b (suc b))
  turn_cut Forward a b =
      dite (dec_le (suc a) (turns order Forward))
      (λ l. turn_more Forward _ _ (before_turns order Forward (suc a) l (min a (turns order Forward)) (omega arith)) ∙ ap₂ bench (omega arith) refl)
      (λ l. let e : min a (turns order Forward) ≡ turns order Forward = omega arith in
      turn_done Forward _ _ (rw e (at_turns order Forward)) ∙ ap₂ bench (omega arith) refl)
  turn_cut Backward a b =
      dite (dec_le (suc b) (turns order Backward))
      (λ l. turn_more Backward _ _ (before_turns order Backward (suc b) l (min b (turns order Backward)) (omega arith)) ∙ ap₂ bench refl (omega arith))
      (λ l. let e : min b (turns order Backward) ≡ turns order Backward = omega arith in
      turn_done Backward _ _ (rw e (at_turns order Backward)) ∙ ap₂ bench refl (omega arith))

  run_cut : (schedule : List Side) (a b : ℕ) → run map schedule (cut a b) ≡ cut (a + turns_in Forward schedule) (b + turns_in Backward schedule)
  unfolding run turns_in
  run_cut [] a b = ap₂ cut (omega arith) (omega arith)
  run_cut (Forward ∷ rest) a b = rw (turn_cut Forward a b) (run_cut rest (suc a) b ∙ ap₂ cut (omega arith) refl)
  run_cut (Backward ∷ rest) a b = rw (turn_cut Backward a b) (run_cut rest a (suc b) ∙ ap₂ cut refl (omega arith))

  pub opened_at : opened n m start target stretch past ≡ bench 0 0
  unfolding opened bench_at half_after
  opened_at = rw (optimum_opened order, unmarked) refl

  pub run_opened : (schedule : List Side) → run map schedule (opened n m start target stretch past) ≡ cut (turns_in Forward schedule) (turns_in Backward schedule)
  run_opened schedule =
      ap (run map schedule) (opened_at ∙ ap₂ bench (omega arith) (omega arith))
      ∙ run_cut schedule 0 0
      ∙ ap₂ cut (omega arith) (omega arith)
