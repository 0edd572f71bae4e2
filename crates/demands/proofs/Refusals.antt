-- The numbers of refusal of the calls on a bench that came from opening: its shape and its trails are never at fault. Assumes nothing.
use mathlib.Core.Path.{◌≡◌, refl, sym, ap, ◌∙◌}
use mathlib.Core.Bool.{true, ◌&&◌}
use mathlib.Core.Logic.{◌≢◌, ◌↔◌, inl, dite}
use mathlib.Core.List.{List}
use Prim.Native.Nat.{ℕ, ◌-◌, ◌≤◌}
use native.Mathlib.Decide.{ℕ_discrete}
use native.Mathlib.Omega.{arith}
use lib.Dec.{eqb}
use lib.ListN.{length, get_or}
use borrow.Author.Tests.{eq-eqb, ne_eqb, eqb-true, eqb-false, not-false}
use Rattle.limits.specs.First.{or_else}
use Rattle.limits.specs.Limits.{Between, crossing_fault, locality_fault, room_fault}
use Rattle.limits.proofs.Cases.{cond_both, cond_else}
use Rattle.limits.proofs.Laws.{or_else_first, or_else_second, or_else_none, or_else_zero, none_or_else, or_else_both, outside_both, room_both, outside_none, none_outside, none_room}
use Rattle.map.specs.Walk.{by_side}
use Rattle.map.specs.declared.Side.{Side}
use Rattle.map.specs.declared.Side.TheVariants.{Forward, Backward}
use Rattle.half.specs.Half.{unknown, ceiling}
use Rattle.shape.specs.Bench.{Bench, half, words, parse, WellShaped, opened}
use Rattle.shape.specs.Rules.{known, done}
use Rattle.shape.proofs.Rounds.{shaped_room, parse_words}
use Rattle.shaped.specs.Lent.{lent_fault}
use Rattle.trail.specs.Sound.{SoundHalf}
use Rattle.trail.proofs.Soundness.{sound_fault_lem, marks_fault_lem}
use Rattle.route.specs.Area.{route_of}
use Rattle.area.specs.Finished.{done_fault, unknown_fault, rule_fault, trails_fault, finished_fault, area_fault, asked_fault, route_fault}
use Rattle.area.proofs.Laws.{fault_done, done_fault_lem}
use Rattle.demands.specs.Mixture.{Order, bench_at}
use Rattle.demands.specs.Demands.{InArea, Route, Finished, NoWalk}
use Rattle.nearest.proofs.Theorems.{least_ceiling}
use Rattle.demands.proofs.Optimum.{known_low, known_unknown}
use Rattle.demands.proofs.Run.{bench}
use Rattle.demands.proofs.Demands.{demand_2_at, sound_at_lem}
use Rattle.demands.proofs.Calls.{lent_fine}

-- ---- which numbers a check can give

module _ (P : ℕ → Type 0) where
  unready_both : (b : Bench) → P 8 → P 9 → P 0 → P (or_else (done_fault b) (unknown_fault b))
  unfolding done_fault unknown_fault
  unready_both b p q r = or_else_both P _ _ (cond_both P (done Forward b && done Backward b) r p) (cond_both P (known b.optimum) r q)

  asked_both : (map : List ℕ) (b : Bench) (v room : ℕ) → P 10 → P 3 → P 0 → P (asked_fault map b v room)
  unfolding asked_fault
  asked_both map b v room p q r = or_else_both P _ _ (cond_both P (eqb (get_or b.marks (v - 1) 0) 0) p r) (room_both P (length (route_of map b v)) room q r)

-- ---- a route known

module _ (b : Bench) where
  known_fault : b.optimum ≤ ceiling → unknown_fault b ≡ 0
  unfolding unknown_fault
  known_fault le = rw (known_low b.optimum le)

  unknown_fault_lem : b.optimum ≡ unknown → unknown_fault b ≡ 9
  unfolding unknown_fault
  unknown_fault_lem e = rw (known_unknown b.optimum e)

  fault_unknown : unknown_fault b ≡ 9 → b.optimum ≡ unknown
  unfolding unknown_fault known
  fault_unknown z = eqb-true _ _ (not-false _ (cond_else (known b.optimum) z (λ e. omega arith)).0)

-- ---- on a bench that came from opening

module _ {map : List ℕ} {n m start target stretch : ℕ} (order : Order map n m start target stretch) (past : List ℕ) (i j : ℕ) where
  abbrev b : Bench
  b = bench order past i j

  shaped : WellShaped n m b
  shaped = (sound_at_lem order past i j).well_shaped

  parse_back : parse n (words b) ≡ b
  parse_back = parse_words n b (shaped_room shaped)

  pub sound_half : (s : Side) → done s b ≡ true → SoundHalf s map n m (by_side s start target) (half s b)
  sound_half s d =
      let p = sound_at_lem order past i j in
      record { root_is = p.root_settled s (inl d); named = p.linked s }

  trails_fine : ((s : Side) → done s b ≡ true) → trails_fault map n m b ≡ 0
  unfolding trails_fault rule_fault bench_at opened
  trails_fine d =
      none_or_else _ _ (sound_fault_lem Forward map n m start _ (sound_half Forward (d Forward)))
      (none_or_else _ _ (sound_fault_lem Backward map n m target _ (sound_half Backward (d Backward)))
      (marks_fault_lem n stretch _ _ _ _ (sound_at_lem order past i j).marks_rule))

  -- 7 is judged once both are done, and then it is not met
  finished_is : finished_fault map n m b ≡ or_else (done_fault b) (unknown_fault b)
  unfolding finished_fault
  finished_is =
      dite (ℕ_discrete (done_fault b) 0)
      (λ z. ap (λ (k : ℕ). or_else (done_fault b) (or_else (unknown_fault b) k)) (trails_fine (fault_done b z)) ∙ ap (or_else (done_fault b)) (or_else_zero (unknown_fault b)))
      (λ ne. or_else_first _ _ ne ∙ sym (or_else_first _ _ ne))

  -- nor are the map, the room for the bench and 6
  lent_is : (given : ℕ) → lent_fault map n m given (words b) ≡ given
  lent_is = lent_fine order.valid shaped

  area_is : (locality room : ℕ) → area_fault map n m (words b) locality room ≡ or_else (locality_fault locality) (or_else (room_fault n room) (or_else (done_fault b) (unknown_fault b)))
  unfolding area_fault
  area_is locality room = rw (lent_is (locality_fault locality), parse_back, finished_is)

  route_is : (v room : ℕ) → route_fault map n m (words b) v room ≡ or_else (crossing_fault n v) (or_else (or_else (done_fault b) (unknown_fault b)) (asked_fault map b v room))
  unfolding route_fault
  route_is v room = rw (lent_is (crossing_fault n v), parse_back, finished_is)

  -- ---- a call that is not refused

  pub area_done : (locality room : ℕ) → area_fault map n m (words b) locality room ≡ 0 → Finished map n m start target stretch b
  area_done locality room z =
      let p = or_else_none _ _ (sym (area_is locality room) ∙ z) in
      fault_done b (or_else_none _ _ (or_else_none _ _ p.1).1).0

  pub route_done : (v room : ℕ) → route_fault map n m (words b) v room ≡ 0
      → Finished map n m start target stretch b × Between 1 n v × (get_or b.marks (v - 1) 0 ≢ 0)
  unfolding asked_fault
  route_done v room z =
      let p = or_else_none _ _ (sym (route_is v room) ∙ z) in
      let q = or_else_none _ _ p.1 in
      let r = or_else_none _ _ q.1 in (
        fault_done b (or_else_none _ _ q.0).0,
        outside_none 1 n 4 v (λ e. omega arith) p.0,
        eqb-false _ _ (cond_else (eqb (get_or b.marks (v - 1) 0) 0) r.0 (λ e. omega arith)).0,
      )

  -- ---- neither 6 nor 7

  abbrev Fine : ℕ → Type 0
  Fine k = (k ≢ 6) × (k ≢ 7)

  pub area_fine : (locality room : ℕ) → Fine (area_fault map n m (words b) locality room)
  area_fine locality room =
      rw (area_is locality room)
      (or_else_both Fine _ _ (outside_both Fine _ _ 5 locality (omega arith) (omega arith))
      (or_else_both Fine _ _ (room_both Fine n room (omega arith) (omega arith)) (unready_both Fine b (omega arith) (omega arith) (omega arith))))

  pub route_fine : (v room : ℕ) → Fine (route_fault map n m (words b) v room)
  route_fine v room =
      rw (route_is v room)
      (or_else_both Fine _ _ (outside_both Fine _ _ 4 v (omega arith) (omega arith))
      (or_else_both Fine _ _ (unready_both Fine b (omega arith) (omega arith) (omega arith)) (asked_both Fine map b v room (omega arith) (omega arith) (omega arith))))

  -- ---- 9

  module _ (d : Finished map n m start target stretch b) where
    unknown_none : (unknown_fault b ≡ 9) ↔ NoWalk map n m start target stretch
    unknown_none =
        let p = (demand_2_at order past i j).no_route Forward (d Forward) in
        (λ e. p.0 (fault_unknown b e), λ f. unknown_fault_lem b (p.1 f))

    known_route : (o : ℕ) → Route map n m start target stretch o → unknown_fault b ≡ 0
    known_route o r =
        known_fault b (omega (arith, (demand_2_at order past i j).optimum_least Forward (d Forward) o r, least_ceiling Forward map n m start order.valid order.start_in target o r))

    -- with nothing else amiss, the number is that of the optimum
    area_left : (locality room : ℕ) → locality ≤ ceiling → n ≤ room → area_fault map n m (words b) locality room ≡ unknown_fault b
    area_left locality room le fits =
        area_is locality room
        ∙ or_else_second _ _ (none_outside _ _ 5 locality (omega arith))
        ∙ or_else_second _ _ (none_room n room fits)
        ∙ or_else_second _ _ (done_fault_lem b d)

    pub area_none : (locality room : ℕ) → locality ≤ ceiling → n ≤ room → (area_fault map n m (words b) locality room ≡ 9) ↔ NoWalk map n m start target stretch
    area_none locality room le fits =
        let e = area_left locality room le fits in
        (λ z. unknown_none.0 (sym e ∙ z), λ f. e ∙ unknown_none.1 f)

    pub area_goes : (o : ℕ) → Route map n m start target stretch o → (locality room : ℕ) → locality ≤ ceiling → n ≤ room → area_fault map n m (words b) locality room ≡ 0
    area_goes o r locality room le fits = area_left locality room le fits ∙ known_route o r

    route_left : (v room : ℕ) → Between 1 n v → route_fault map n m (words b) v room ≡ or_else (unknown_fault b) (asked_fault map b v room)
    route_left v room cv =
        route_is v room
        ∙ or_else_second _ _ (none_outside 1 n 4 v cv)
        ∙ ap (λ (k : ℕ). or_else k (asked_fault map b v room)) (or_else_second _ _ (done_fault_lem b d))

    -- what is asked after it is never 9
    pub route_none : (v room : ℕ) → Between 1 n v → (route_fault map n m (words b) v room ≡ 9) ↔ NoWalk map n m start target stretch
    route_none v room cv =
        let e = route_left v room cv in (
          λ z. unknown_none.0 (dite (ℕ_discrete (unknown_fault b) 0)
              (λ y. absurd (asked_both (λ (k : ℕ). k ≢ 9) map b v room (omega arith) (omega arith) (omega arith) (sym (e ∙ or_else_second _ _ y) ∙ z)))
              (λ ne. sym (e ∙ or_else_first _ _ ne) ∙ z)),
          λ f. let u = unknown_none.1 f in e ∙ or_else_first _ _ (λ y. omega arith) ∙ u,
        )

    -- ---- 10, and no refusal

    asked_left : (o : ℕ) → Route map n m start target stretch o → (v room : ℕ) → Between 1 n v → route_fault map n m (words b) v room ≡ asked_fault map b v room
    asked_left o r v room cv = route_left v room cv ∙ or_else_second _ _ (known_route o r)

    unmarked_asked : (v room : ℕ) → get_or b.marks (v - 1) 0 ≡ 0 → asked_fault map b v room ≡ 10
    unfolding asked_fault
    unmarked_asked v room z = rw (eq-eqb (get_or b.marks (v - 1) 0) 0 z) (or_else_first 10 _ (λ e. omega arith))

    marked_asked : (v room : ℕ) → get_or b.marks (v - 1) 0 ≢ 0 → asked_fault map b v room ≡ room_fault (length (route_of map b v)) room
    unfolding asked_fault
    marked_asked v room ne = rw (ne_eqb (get_or b.marks (v - 1) 0) 0 ne) (or_else_second 0 _ refl)

    pub route_unmarked : (o : ℕ) → Route map n m start target stretch o → (v room : ℕ) → Between 1 n v
        → (route_fault map n m (words b) v room ≡ 10) ↔ (InArea map m start target stretch v → ⊥)
    route_unmarked o r v room cv =
        let e = asked_left o r v room cv in
        let marked = (demand_2_at order past i j).marked_area d v cv in (
          λ z p.
              let one = marked.1 p in
              room_both (λ (k : ℕ). k ≢ 10) (length (route_of map b v)) room (omega arith) (omega arith)
              (sym (e ∙ marked_asked v room (λ y. omega arith)) ∙ z),
          λ f.
              dite (ℕ_discrete (get_or b.marks (v - 1) 0) 0)
              (λ y. e ∙ unmarked_asked v room y)
              (λ ne. absurd (f (marked.0 (omega (arith, shaped.marks_in v cv))))),
        )

    pub route_goes : (v room : ℕ) → Between 1 n v → InArea map m start target stretch v → length (route_of map b v) ≤ room → route_fault map n m (words b) v room ≡ 0
    route_goes v room cv p fits =
        let one = ((demand_2_at order past i j).marked_area d v cv).1 p in
        asked_left p.optimum p.optimum_least v room cv ∙ marked_asked v room (λ y. omega arith) ∙ none_room _ _ fits
