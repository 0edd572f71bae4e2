-- Demands 2 and 3, and that every bench kept so is sound, for every order on a valid map. Assumes nothing.
use mathlib.Core.Path.{◌≡◌, refl, sym, ap, ap₂, ◌∙◌, subst⁻¹}
use mathlib.Core.Bool.{true, true≢false}
use mathlib.Core.Logic.{◌↔◌, ◌⊎◌, inl, inr, ⊎_elim, dite}
use mathlib.Core.List.{List}
use Prim.Native.Nat.{ℕ, zero, suc, ◌≤◌, min}
use native.Mathlib.Decide.{dec_le}
use native.Mathlib.Omega.{arith}
use lib.ListN.{replicate}
use Rattle.limits.specs.Limits.{Between}
use Rattle.map.specs.Walk.{Least, by_side}
use Rattle.map.specs.declared.Side.{Side}
use Rattle.map.specs.declared.Side.TheVariants.{Forward, Backward}
use Rattle.half.specs.Half.{unknown, ceiling, settled_count}
use Rattle.shape.specs.Bench.{Bench, half, WellShaped, opened}
use Rattle.shape.specs.Rules.{done}
use Rattle.shape.proofs.Marks.{marks_length, marks_at_lem, marks_le}
use Rattle.shape.proofs.Turns.{turned_done, turned_counts, done_stays}
use Rattle.nearest.proofs.Theorems.{after_shaped, settled_nearest, root_settled, least_or_none, least_ceiling, link_tight, link_lowest}
use Rattle.demands.specs.Mixture.{Order, turns_in, bench_at}
use Rattle.demands.specs.Demands.{InArea, NoWalk, Finished, mark_of, left, Demand2, Sound, Demand3}
use Rattle.demands.proofs.Optimum.{root, after, best_is, root_in, settled_cost, optimum, Optimum, missing, present, optimum_cases}
use Rattle.demands.proofs.Turns.{stops, turns, reach_exactly, stops_some, turns_low, before_turns, at_turns, settled_turns}
use Rattle.demands.proofs.Run.{bench, unmarked, done_stops, turn_more, run_opened}
use Rattle.demands.proofs.Area.{finds, optimum_unknown, mark_sound, mark_complete, ends_in}

module _ {map : List ℕ} {n m start target stretch : ℕ} (order : Order map n m start target stretch) (past : List ℕ) where
  -- ---- the bench at two counts

  module _ (i j : ℕ) where
    pub half_at_lem : (s : Side) → half s (bench order past i j) ≡ after order s (by_side s i j)
    unfolding bench_at opened
    half_at_lem Forward = refl
    half_at_lem Backward = refl

    settled_so_far : (s : Side) → by_side s i j ≤ turns order s → settled_count n (half s (bench order past i j)) ≡ by_side s i j
    settled_so_far s le = ap (settled_count n) (half_at_lem s) ∙ settled_turns order s (by_side s i j) le

    pub stopped : (s : Side) → done s (bench order past i j) ≡ true → stops order s (by_side s i j) ≡ true
    stopped s e = sym (done_stops order past s i j) ∙ e

    -- ---- demand 2

    least_at : (s : Side) (o : ℕ) → done s (bench order past i j) ≡ true → Least Forward map m start target o → (bench order past i j).optimum ≡ o
    unfolding bench_at opened
    least_at s o e p = finds order s i j (stopped s e) ∙ best_is order p

    none_at : (s : Side) → done s (bench order past i j) ≡ true → ((bench order past i j).optimum ≡ unknown) ↔ NoWalk map n m start target stretch
    unfolding bench_at opened
    none_at s d = (
      λ e c w. ⊎_elim
          (λ (o, p). omega (arith, least_at s o d p, least_ceiling Forward map n m start order.valid order.start_in target o p))
          (λ f. f c w)
          (least_or_none Forward map n m start order.valid order.start_in target order.target_in),
      optimum_unknown order i j,
    )

    area_at : Finished map n m start target stretch (bench order past i j) → (v : ℕ) → Between 1 n v
        → (mark_of map n m start target stretch (bench order past i j) v ≡ 1) ↔ InArea map m start target stretch v
    unfolding bench_at opened
    area_at d v cv =
        let q = marks_at_lem n stretch (optimum order i j) (after order Forward i) (after order Backward j) cv in (
          λ e. mark_sound order i j v cv (sym q ∙ e),
          λ p. q ∙ mark_complete order i j v cv (stopped Forward (d Forward)) (stopped Backward (d Backward)) p,
        )

    unmarked_at : NoWalk map n m start target stretch → (bench order past i j).marks ≡ replicate n 0
    unfolding bench_at opened
    unmarked_at f = rw (optimum_unknown order i j f) (unmarked n stretch _ _)

    pub demand_2_at : Demand2 map n m start target stretch (bench order past i j)
    demand_2_at =
        record {
          costs_least = λ s v cv. rw (half_at_lem s) (settled_cost order s (by_side s i j) v cv);
          marked_area = area_at;
          unmarked = unmarked_at;
          ends_marked = λ d o p s. (area_at d _ (root_in order s)).1 (ends_in order o p s);
          optimum_least = λ s d o p. least_at s o d p;
          no_route = none_at;
        }

    -- ---- sound

    shaped : WellShaped n m (bench order past i j)
    unfolding bench_at opened
    shaped =
        record {
          same_n = refl;
          same_m = refl;
          start_in = order.start_in;
          target_in = order.target_in;
          stretch_in = order.stretch_in;
          optimum_in = word (optimum_cases order i j);
          halves = λ s. rw (half_at_lem s) (after_shaped s map n m (root order s) order.valid (root_in order s) (by_side s i j));
          marks_room = marks_length n _ _ _ _;
          marks_in = λ v cv. marks_le n stretch _ _ _ cv;
        }
      where
        word : Optimum order i j → (optimum order i j ≡ unknown) ⊎ (optimum order i j ≤ ceiling)
        word (missing e _) = inl e
        word (present e _ l) = inr (omega arith)

    -- done, or with a crossing settled, a half has had a turn
    begun : (s : Side) → (done s (bench order past i j) ≡ true) ⊎ (1 ≤ settled_count n (half s (bench order past i j))) → (k : ℕ) × (by_side s i j ≡ suc k)
    begun s w = go (by_side s i j) refl
      where
        go : (k : ℕ) → by_side s i j ≡ k → (l : ℕ) × (k ≡ suc l)
        go (suc k) e = (k, refl)
        go zero e = absurd (omega (arith, ⊎_elim (λ d. stops_some order s (by_side s i j) (stopped s d)) (λ c. omega (arith, settled_so_far s (omega arith))) w))

    pub sound_at_lem : Sound map n m start target stretch (bench order past i j)
    unfolding bench_at opened
    sound_at_lem =
        record {
          well_shaped = shaped;
          marks_rule = refl;
          root_settled = λ s w. let (k, e) = begun s w in rw (half_at_lem s, e) (root_settled s map n m (root order s) order.valid (root_in order s) k);
          linked = λ s v cv ne. rw (half_at_lem s) (λ e. link_tight s map n m (root order s) order.valid (root_in order s) (by_side s i j) v cv (omega arith) ne);
          lowest = λ s v k c cv. rw (half_at_lem s) (link_lowest s map n m (root order s) order.valid (root_in order s) (by_side s i j) v k c cv);
        }

    -- ---- demand 3, of the bench at two counts

    done_at : (s : Side) → by_side s i j ≤ turns order s → (done s (bench order past i j) ≡ true) ↔ (by_side s i j ≡ turns order s)
    done_at s le = (
      λ e. dite (dec_le (turns order s) (by_side s i j)) (λ l. omega arith)
          (λ l. absurd (true≢false (sym (stopped s e) ∙ before_turns order s (turns order s) (omega arith) (by_side s i j) (omega arith)))),
      λ e. done_stops order past s i j ∙ rw e (at_turns order s),
    )

  -- ---- what a mixture of turns leaves

  module _ (schedule : List Side) where
    abbrev kept : Bench
    kept = left map n m start target stretch past schedule

    pub demand_2 : Demand2 map n m start target stretch kept
    demand_2 = subst⁻¹ (Demand2 map n m start target stretch) (run_opened order past schedule) (demand_2_at _ _)

    pub sound : Sound map n m start target stretch kept
    sound = subst⁻¹ (Sound map n m start target stretch) (run_opened order past schedule) (sound_at_lem _ _)

    counted : (s : Side) → settled_count n (half s kept) ≡ min (turns_in s schedule) (turns order s)
    counted Forward = rw (run_opened order past schedule) (settled_so_far _ _ Forward (omega arith))
    counted Backward = rw (run_opened order past schedule) (settled_so_far _ _ Backward (omega arith))

    done_left : (s : Side) → done s kept ≡ stops order s (min (turns_in s schedule) (turns order s))
    done_left Forward = ap (done Forward) (run_opened order past schedule) ∙ done_stops order past Forward _ _
    done_left Backward = ap (done Backward) (run_opened order past schedule) ∙ done_stops order past Backward _ _

    done_by : (s : Side) → n ≤ turns_in s schedule → done s kept ≡ true
    done_by s le = let e : min (turns_in s schedule) (turns order s) ≡ turns order s = omega (arith, turns_low order s) in done_left s ∙ rw e (at_turns order s)

  pub demand_3 : Demand3 map n m start target stretch past
  demand_3 =
      record {
        mixture = run_opened order past;
        counts_decide = λ one two e.
            let f : (s : Side) → min (turns_in s one) (turns order s) ≡ min (turns_in s two) (turns order s) = λ s. sym (counted one s) ∙ e s ∙ counted two s in
            run_opened order past one ∙ ap₂ (bench order past) (f Forward) (f Backward) ∙ sym (run_opened order past two);
        settled_so_far = λ s i j. settled_so_far i j s;
        nearest = λ s i j u v c cu.
            rw (half_at_lem i j s) (λ p q l. settled_nearest s map n m (root order s) order.valid (root_in order s) (by_side s i j) u v c cu p q l.walk);
        one_more = λ s schedule e. turned_counts order.valid (sound schedule).well_shaped s e;
        turn_at = λ s i j lt. turn_more order past s i j (before_turns order s (turns order s) (omega arith) (by_side s i j) lt);
        done_at = λ s i j. done_at i j s;
        in_reach = reach_exactly order;
        done_by = λ s schedule. done_by schedule s;
        done_keeps = λ s schedule. turned_done s map (kept schedule);
        done_stays = λ s t schedule. done_stays s t map (kept schedule);
      }
