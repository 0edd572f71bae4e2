-- What is listed is the area: the bench of the survey is one on which both halves are done, of which the demands speak. Assumes nothing.
use mathlib.Core.Path.{◌≡◌, sym, ap, ◌∙◌}
use mathlib.Core.Bool.{Bool, true, cond}
use mathlib.Core.Logic.{◌↔◌}
use mathlib.Core.List.{List, []}
use Prim.Native.Nat.{ℕ, ◌+◌, ◌≤◌}
use native.Mathlib.Omega.{arith}
use borrow.Author.Tests.{eq-eqb}
use lib.ListN.{length, drop}
use Rattle.limits.specs.Limits.{Between}
use Rattle.limits.specs.Said.{told}
use Rattle.limits.proofs.Laws.{or_else_none, or_else_second}
use Rattle.map.specs.Walk.{Least}
use Rattle.map.specs.declared.Side.{Side}
use Rattle.map.specs.declared.Side.TheVariants.{Forward, Backward}
use Rattle.half.specs.Half.{unknown, ceiling}
use Rattle.shape.specs.Bench.{Bench, bench_words, words, parse, opened}
use Rattle.shape.specs.Rules.{done}
use Rattle.shape.proofs.Rounds.{shaped_room, parse_words}
use Rattle.area.specs.Finished.{unknown_fault, finished_fault, area_fault}
use Rattle.bench.specs.Areas.{area_mask}
use Rattle.bench.specs.Calls.{judged, open_fault, open_said}
use Rattle.demands.specs.Mixture as mixture
use Rattle.demands.specs.Mixture.{turns_of, bench_at}
use Rattle.demands.specs.Demands.{NoWalk}
use Rattle.demands.specs.Afterward.{Afterward}
use Rattle.demands.proofs.Afterward.{afterward_at}
use Rattle.demands.proofs.Demands.{sound_at_lem}
use Rattle.demands.proofs.Optimum.{Optimum, missing, present, optimum_cases, known_unknown}
use Rattle.demands.proofs.Run.{done_stops}
use Rattle.demands.proofs.Trails.{settled_both}
use Rattle.demands.proofs.Turns.{at_turns}
use Rattle.booklet.specs.Listed.{Area, Listed, Unrouted, from_of, to_of}
use Rattle.booklet.specs.Survey.{finished_words, finished_mask, area_number}
use Rattle.booklet.specs.declared.Order.{Order}
use Rattle.booklet.proofs.Area.{in_order}

unknown_not : (b : Bench) → b.optimum ≡ unknown → unknown_fault b ≡ 0 → ⊥
unfolding unknown_fault
unknown_not b q z = let w : ◌≡◌ {A = ℕ} 9 0 = ap (λ (t : Bool). cond t 0 9) (sym (known_unknown b.optimum q)) ∙ z in omega arith

module _ (map : List ℕ) (n m : ℕ) (order : Order) (x mask : List ℕ) (opens : open_fault map n m order.start order.target order.stretch x ≡ 0) where
  accepted : told [] ≡ open_said map n m order.start order.target order.stretch x
  unfolding open_said judged
  accepted = rw (eq-eqb _ 0 opens)

  ordered : mixture.Order map n m order.start order.target order.stretch
  ordered = in_order map n m order x accepted

  abbrev past : List ℕ
  past = drop (bench_words n) x

  abbrev turns : Side → ℕ
  turns s = turns_of s map n m order.start order.target order.stretch

  -- the bench on which both halves are done
  abbrev finished : Bench
  finished = bench_at map n m order.start order.target order.stretch past (turns Forward) (turns Backward)

  both_done : (s : Side) → done s finished ≡ true
  both_done Forward = done_stops ordered past Forward (turns Forward) (turns Backward) ∙ at_turns ordered Forward
  both_done Backward = done_stops ordered past Backward (turns Forward) (turns Backward) ∙ at_turns ordered Backward

  afterward : Afterward map n m order.start order.target order.stretch finished
  afterward = afterward_at ordered past (turns Forward) (turns Backward)

  words_are : finished_words map n m order x ≡ words finished
  unfolding finished_words
  words_are = rw (← accepted)

  mask_is : finished_mask map n m order x mask ≡ area_mask map n m (words finished) order.locality mask
  unfolding finished_mask
  mask_is = rw (← accepted, words_are)

  number_is : area_number map n m order x mask ≡ area_fault map n m (words finished) order.locality (length mask)
  unfolding area_number
  number_is = or_else_second _ _ opens ∙ rw words_are

  parsed : parse n (words finished) ≡ finished
  parsed = parse_words n finished (shaped_room (sound_at_lem ordered past (turns Forward) (turns Backward)).well_shaped)

  no_route : order.locality ≤ ceiling → n ≤ length mask → (area_number map n m order x mask ≡ 9) ↔ NoWalk map n m order.start order.target order.stretch
  no_route l r = rw number_is (afterward.area_none both_done order.locality (length mask) l r)

  module _ (z : area_number map n m order x mask ≡ 0) where
    fine : area_fault map n m (words finished) order.locality (length mask) ≡ 0
    fine = sym number_is ∙ z

    is_known : unknown_fault finished ≡ 0
    unfolding area_fault finished_fault
    is_known = ap unknown_fault (sym parsed) ∙ (or_else_none _ _ (or_else_none _ _ (or_else_none _ _ (or_else_none _ _ fine).1).1).1).0

    least : Least Forward map m order.start order.target finished.optimum
    unfolding bench_at opened
    least = go (optimum_cases ordered (turns Forward) (turns Backward))
      where
        go : Optimum ordered (turns Forward) (turns Backward) → Least Forward map m order.start order.target finished.optimum
        go (present q r _) = rw q r
        go (missing q _) = absurd (unknown_not finished q is_known)

    sums : (v : ℕ) → Between 1 n v → (p : Area map n m order x mask v) → from_of map n m order x mask v + to_of map n m order x mask v ≡ p.from + p.to
    sums v cv p =
        rw (words_are, parsed)
        (omega (arith, (settled_both ordered past (turns Forward) (turns Backward) both_done v cv p Forward).1, (settled_both ordered past (turns Forward) (turns Backward) both_done v cv p Backward).1))

    lists : Listed map n m order x mask
    unfolding words
    lists =
        record {
          optimum = rw words_are least;
          unlisted = λ v cv. rw mask_is (afterward.mask_unmarked order.locality mask fine v cv);
          local = λ v cv. rw mask_is (afterward.mask_local order.locality mask fine v cv);
          plain = λ v cv. rw mask_is (afterward.mask_area order.locality mask fine v cv);
          sum = sums;
        }

-- ---- the statements

pub unrouted : (map : List ℕ) (n m : ℕ) (order : Order) (x mask : List ℕ) → Unrouted map n m order x mask
unrouted map n m order x mask opens = no_route map n m order x mask opens

pub listed : (map : List ℕ) (n m : ℕ) (order : Order) (x mask : List ℕ) → area_number map n m order x mask ≡ 0 → Listed map n m order x mask
unfolding area_number
listed map n m order x mask z = lists map n m order x mask (or_else_none _ _ z).0 z
