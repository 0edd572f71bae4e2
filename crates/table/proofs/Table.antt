-- The numbers that the calls on a map answer are those of the table, check by check. Assumes nothing.
use mathlib.Core.Path.{◌≡◌, refl, sym, ◌∙◌}
use mathlib.Core.Bool.{Bool, true, false, cond}
use mathlib.Core.Logic.{◌≢◌, inr}
use mathlib.Core.List.{List, [], ◌∷◌, ◌++◌}
use Rattle.std.specs.Prelude.{Ok, Err}
use Prim.Native.Nat.{ℕ, zero, suc, ◌+◌, ◌*◌, ◌-◌, ◌≤◌, ◌<◌}
use native.Mathlib.Omega.{arith}
use borrow.Author.Tests.{eq-eqb, ne_eqb, eqb-true, eqb-false, ltb-true, ltb-false}
use lib.Dec.{eqb, ltb}
use lib.ListN.{length, get_or}
use Rattle.limits.specs.First.{or_else, first_from}
use Rattle.limits.specs.Limits.{room_fault}
use Rattle.limits.proofs.Laws.{or_else_first, or_else_second, or_else_none, none_or_else, room_none}
use Rattle.line.specs.declared.Line.TheVariants.{Comment, Size, Link}
use Rattle.line.specs.declared.NoLine.TheVariants.{Strange, Wrong}
use Rattle.step.specs.Step.{FaultAt, fault_at, state_of, first_of, size_fault, link_fault, step_by, size_step, link_step, taken}
use Rattle.step.specs.declared.State.{State}
use Rattle.map.specs.Map as maps
use Rattle.map.specs.declared.Side.{Side}
use Rattle.map.specs.declared.Side.TheVariants.{Forward, Backward}
use Rattle.half.specs.Half.{unknown, ceiling}
use Rattle.shape.specs.Bench.{half, root, bench_words, parse, WellShaped}
use Rattle.shape.specs.Rules.{known}
use Rattle.shaped.specs.Shape.{shape_fault}
use Rattle.shaped.specs.Lent.{lent_fault}
use Rattle.shape.proofs.Rounds.{parse_room}
use Rattle.shaped.proofs.Lent.{Ready, lent_ready}
use Rattle.shaped.proofs.Shapes.{fault_shaped, shaped_fault}
use Rattle.trail.specs.Sound.{SoundHalf, MarksSound}
use Rattle.trail.proofs.Soundness.{fault_sound, sound_fault_lem, fault_marks, marks_fault_lem}
use Rattle.route.specs.Area.{route_of}
use Rattle.area.specs.Finished.{done_fault, unknown_fault, rule_fault, trails_fault, finished_fault, area_fault, asked_fault, route_fault}
use Rattle.area.proofs.Laws.{fault_done, done_fault_lem}
use Rattle.bench.specs.Calls.{order_fault, open_fault, turn_fault}
use Rattle.table.specs.Table.{unless, Judged, line_checks, stop_number, LineTable, link_checks, map_checks, open_checks, bench_checks, turn_checks, finished_checks, area_checks, route_checks, Table}
use Rattle.table.proofs.Judged.{Numbers, Part, next, both, one, in_range, up_to, has_room, so}
use Rattle.table.proofs.Numbers.{where_only, shape_only, done_only, known_only, trails_only}

-- ---- the map

module _ (map : List ℕ) (n m : ℕ) where
  link_numbers : {low high : ℕ} → low ≤ 4 → 5 ≤ high → (k more : ℕ) → Numbers low high (link_checks map n m k more)
  unfolding link_checks
  link_numbers l h k zero = tt
  link_numbers l h k (suc more) = (omega arith, (omega arith, (omega arith, link_numbers l h (suc k) more)))

  pub map_numbers : {low high : ℕ} → low ≤ 2 → 5 ≤ high → Numbers low high (map_checks map n m)
  unfolding map_checks
  map_numbers l h = (omega arith, (omega arith, (omega arith, link_numbers (omega arith) h 1 m)))

  link_part : ℕ → Part
  link_part k =
      both (both (in_range 1 n 4 (maps.tail map k) (omega arith)) (in_range 1 n 4 (maps.head map k) (omega arith))) (in_range 1 65535 5 (maps.cost map k) (omega arith))

  links_judged : (k more : ℕ) → Judged (link_checks map n m k more) (first_from (maps.link_fault n map) k more)
  unfolding link_checks first_from maps.link_fault maps.ends_fault link_part in_range one both
  links_judged k zero = refl
  links_judged k (suc more) = next (link_part k) (link_checks map n m (suc k) more) (first_from (maps.link_fault n map) (suc k) more) (λ _. links_judged (suc k) more)

  links_part : Part
  links_part =
      record { checks = link_checks map n m 1 m; number = first_from (maps.link_fault n map) 1 m; numbers = link_numbers (omega arith) (omega arith) 1 m; judged = links_judged 1 m }

  map_judged : Judged (map_checks map n m) (maps.map_fault n m map)
  unfolding map_checks maps.map_fault maps.counts_fault in_range up_to has_room one both links_part
  map_judged = (both (both (in_range 1 4096 2 n (omega arith)) (up_to 16384 2 m (omega arith))) (both (has_room (3 * m) (length map)) links_part)).judged

  map_part : Part
  map_part = record { checks = map_checks map n m; number = maps.map_fault n m map; numbers = map_numbers (omega arith) (omega arith); judged = map_judged }

  -- ---- opening

  open_judged : (start target stretch : ℕ) (x : List ℕ) → Judged (open_checks map n m start target stretch x) (open_fault map n m start target stretch x)
  unfolding open_fault order_fault map_part in_range has_room one both
  open_judged start target stretch x =
      (both map_part
      (both (both (in_range 1 n 4 start (omega arith)) (both (in_range 1 n 4 target (omega arith)) (in_range 1000 4000 5 stretch (omega arith))))
      (has_room (bench_words n) (length x)))
      ).judged

  -- ---- a turn

  module _ (x : List ℕ) where
    shaped : bench_words n ≤ length x → Part
    shaped room = one 6 (shape_fault n m (parse n x)) (omega arith) (fault_shaped (parse_room n x room)) shaped_fault (shape_only n m (parse n x))

    bench_judged : Judged (bench_checks map n m x) (or_else (room_fault (bench_words n) (length x)) (shape_fault n m (parse n x)))
    unfolding has_room shaped one
    bench_judged =
        next (has_room (bench_words n) (length x)) (unless 6 (WellShaped n m (parse n x)) ∷ []) (shape_fault n m (parse n x))
        (λ z. (shaped (room_none _ _ z)).judged)

    bench_part : Part
    bench_part =
        record {
          checks = bench_checks map n m x;
          number = or_else (room_fault (bench_words n) (length x)) (shape_fault n m (parse n x));
          numbers = (omega arith, (omega arith, tt));
          judged = bench_judged;
        }

    turn_judged : Judged (turn_checks map n m x) (turn_fault map n m x)
    unfolding turn_fault lent_fault map_part bench_part both
    turn_judged = rw (or_else_second 0 _ refl) (both map_part bench_part).judged

    -- ---- a finished bench

    module _ (ready : Ready map n m x) where
      known_some : unknown_fault (parse n x) ≡ 0 → (parse n x).optimum ≢ unknown
      unfolding unknown_fault known
      known_some z e = let w : ◌≡◌ {A = ℕ} 9 0 = (simp (eq-eqb _ _ e) at z) in omega arith

      some_known : (parse n x).optimum ≢ unknown → unknown_fault (parse n x) ≡ 0
      unfolding unknown_fault known
      some_known ne = simp (ne_eqb _ _ ne)

      abbrev Trails : Type 0
      Trails = ((s : Side) → SoundHalf s map n m (root s (parse n x)) (half s (parse n x))) × MarksSound (parse n x)

      trails_sound : trails_fault map n m (parse n x) ≡ 0 → Trails
      unfolding trails_fault rule_fault
      trails_sound z =
          let b = parse n x in
          let w = ready.shaped in
          let p = or_else_none _ _ z in
          let q = or_else_none _ _ p.1 in (
            go (fault_sound Forward map n m b.start b.forward w.start_in p.0) (fault_sound Backward map n m b.target b.backward w.target_in q.0),
            rw w.same_n (fault_marks n b.stretch b.optimum b.forward b.backward b.marks w.marks_room q.1),
          )
        where
          go : SoundHalf Forward map n m (parse n x).start (parse n x).forward → SoundHalf Backward map n m (parse n x).target (parse n x).backward
              → (s : Side) → SoundHalf s map n m (root s (parse n x)) (half s (parse n x))
          go p q Forward = p
          go p q Backward = q

      sound_trails : Trails → trails_fault map n m (parse n x) ≡ 0
      unfolding trails_fault rule_fault
      sound_trails (p, q) =
          let b = parse n x in
          none_or_else _ _ (sound_fault_lem Forward map n m b.start b.forward (p Forward))
          (none_or_else _ _ (sound_fault_lem Backward map n m b.target b.backward (p Backward))
          (marks_fault_lem n b.stretch b.optimum b.forward b.backward b.marks (rw ready.shaped.same_n at q)))

      finished_part : Part
      finished_part =
          both (one 8 (done_fault (parse n x)) (omega arith) (fault_done (parse n x)) (done_fault_lem (parse n x)) (done_only (parse n x)))
          (both (one 9 (unknown_fault (parse n x)) (omega arith) known_some some_known (known_only (parse n x)))
          (one 7 (trails_fault map n m (parse n x)) (omega arith) trails_sound sound_trails (trails_only map n m (parse n x))))

    -- ---- the area

    area_judged : (locality room : ℕ) → Judged (area_checks map n m x locality room) (area_fault map n m x locality room)
    unfolding area_fault lent_fault finished_fault map_part bench_part up_to has_room one both finished_part
    area_judged locality room =
        next (both map_part (both (up_to ceiling 5 locality (omega arith)) bench_part))
        (unless 3 (n ≤ room) ∷ finished_checks map n m (parse n x))
        (or_else (room_fault n room) (finished_fault map n m (parse n x)))
        (λ z. (both (has_room n room) (finished_part (lent_ready map n m _ x z).1)).judged)

    -- ---- the route

    abbrev marked : ℕ → ℕ
    marked crossing = get_or (parse n x).marks (crossing - 1) 0

    abbrev mark_number : ℕ → ℕ
    mark_number crossing = cond (eqb (marked crossing) 0) 10 0

    asked_part : ℕ → ℕ → Part
    asked_part crossing room =
        both
        (one 10 (mark_number crossing) (omega arith)
        (λ z e. let w : ◌≡◌ {A = ℕ} 10 0 = (simp (eq-eqb _ _ e) at z) in omega arith)
        (λ (ne : marked crossing ≢ 0). simp (ne_eqb _ _ ne))
        (where_only 10 (eqb (marked crossing) 0)))
        (has_room (length (route_of map (parse n x) crossing)) room)

    route_judged : (crossing room : ℕ) → Judged (route_checks map n m x crossing room) (route_fault map n m x crossing room)
    unfolding route_fault lent_fault finished_fault asked_fault map_part bench_part in_range has_room one both finished_part asked_part
    route_judged crossing room =
        next (both map_part (both (in_range 1 n 4 crossing (omega arith)) bench_part))
        (finished_checks map n m (parse n x)
        ++ (unless 10 (get_or (parse n x).marks (crossing - 1) 0 ≢ 0) ∷ unless 3 (length (route_of map (parse n x) crossing) ≤ room) ∷ []))
        (or_else (finished_fault map n m (parse n x)) (asked_fault map (parse n x) crossing room))
        (λ z. (both (finished_part (lent_ready map n m _ x z).1) (asked_part crossing room)).judged)

  pub table : Table map n m
  table = record { fault = map_judged; opening = open_judged; turn = turn_judged; area = area_judged; route = route_judged }

-- ---- a line that is read

first_number : (a b : FaultAt) → (first_of a b).number ≡ or_else a.number b.number
unfolding first_of or_else
first_number a b = go (eqb a.number 0)
  where
    go : (t : Bool) → (cond t b a).number ≡ cond t b.number a.number
    go true = refl
    go false = refl

step_number : (fault : FaultAt) (st : State) → stop_number (step_by fault st) ≡ fault.number
unfolding step_by
step_number fault st = go (eqb fault.number 0) refl
  where
    go : (t : Bool) → eqb fault.number 0 ≡ t → stop_number (cond t (Ok st) (Err fault)) ≡ fault.number
    go true e = sym (eqb-true _ _ e)
    go false e = refl

-- 1 before the others
due : (t : Bool) (fault : FaultAt) (st : State) → stop_number (cond t (step_by fault st) (Err (fault_at 1 0))) ≡ or_else (cond t 0 1) fault.number
due true fault st = step_number fault st ∙ sym (or_else_second 0 _ refl)
due false fault st = sym (or_else_first 1 _ (λ e. omega arith))

pub line_table : LineTable
unfolding line_checks taken size_step link_step size_fault link_fault so in_range up_to has_room one both
line_table room st (Ok Comment) = refl
line_table room st (Ok (Size n m)) =
    rw (due (eqb st.n 0) (size_fault room n m) (state_of n.value m.value 0))
    (simp first_number
    (both (so 1 (eqb st.n 0) (omega arith) (eqb-true _ _) (eqb-false _ _))
    (both (in_range 1 4096 2 n.value (omega arith)) (both (up_to 16384 2 m.value (omega arith)) (has_room (3 * m.value) room)))
    ).judged)
line_table room st (Ok (Link u v w)) =
    rw (due (ltb st.k st.m) (link_fault st.n u v w) (state_of st.n st.m (st.k + 1)))
    (simp first_number
    (both (so 1 (ltb st.k st.m) (omega arith) (ltb-true _ _) (λ e (lt : st.k < st.m). omega (arith, ltb-false st.k st.m e)))
    (both (in_range 1 st.n 4 u.value (omega arith)) (both (in_range 1 st.n 4 v.value (omega arith)) (in_range 1 65535 5 w.value (omega arith))))
    ).judged)
line_table room st (Err (Strange p)) = inr (λ e. e, refl)
line_table room st (Err (Wrong p)) = inr (λ e. e, refl)
