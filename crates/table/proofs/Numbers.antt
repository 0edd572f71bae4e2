-- With which number a check refuses: each of its parts with the same one. Assumes nothing.
use mathlib.Core.Path.{◌≡◌, refl}
use mathlib.Core.Bool.{Bool, cond, ◌&&◌}
use mathlib.Core.Logic.{◌≢◌}
use mathlib.Core.List.{List}
use Prim.Native.Nat.{ℕ, ◌-◌}
use native.Mathlib.Omega.{arith}
use lib.Dec.{eqb}
use lib.ListN.{get_or}
use Rattle.limits.specs.First.{or_else, all_fine}
use Rattle.limits.specs.Limits.{Between, number_outside, room_fault}
use Rattle.limits.specs.Said.{Said, told, refused}
use Rattle.limits.proofs.Cases.{cond_both}
use Rattle.limits.proofs.Laws.{or_else_both, outside_both, room_both}
use Rattle.limits.proofs.Said.{told_refused}
use Rattle.map.specs.declared.Side.{Side}
use Rattle.map.specs.declared.Side.TheVariants.{Forward, Backward}
use Rattle.half.specs.Half.{unknown, ceiling, entry}
use Rattle.shape.specs.Bench.{Bench}
use Rattle.shape.specs.Rules.{known, done}
use Rattle.shaped.specs.Shape as shape
use Rattle.trail.specs.Sound as sound
use Rattle.area.specs.Finished.{done_fault, unknown_fault, rule_fault, trails_fault}

-- ---- no refusal, or one with a given number

module _ (number : ℕ) where
  abbrev pub Only : ℕ → Type 0
  Only fault = fault ≢ 0 → fault ≡ number

  none : Only 0
  none ne = absurd (ne refl)

  this : Only number
  this _ = refl

  either : (a b : ℕ) → Only a → Only b → Only (or_else a b)
  either = or_else_both Only

  pub unless_only : (t : Bool) → Only (cond t 0 number)
  unless_only t = cond_both Only t none this

  pub where_only : (t : Bool) → Only (cond t number 0)
  where_only t = cond_both Only t this none

  pub outside_only : (low high x : ℕ) → Only (number_outside low high number x)
  outside_only low high x = outside_both Only low high number x this none

pub room_only : (needed lent : ℕ) → Only 3 (room_fault needed lent)
room_only needed lent = room_both (Only 3) needed lent (this 3) (none 3)

-- ---- 6: not well shaped

unlike_only : (a b : ℕ) → Only 6 (shape.unlike a b)
unfolding shape.unlike
unlike_only a b = unless_only 6 (eqb a b)

optimum_only : (o : ℕ) → Only 6 (shape.optimum_fault o)
unfolding shape.optimum_fault
optimum_only o = cond_both (Only 6) (eqb o unknown) (none 6) (outside_only 6 0 ceiling o)

half_only : (n m : ℕ) (h : List ℕ) → Only 6 (shape.half_fault n m h)
unfolding shape.half_fault
half_only n m h = unless_only 6 (all_fine (λ v. shape.entry_fault m (entry n h v)) n)

marks_only : (n : ℕ) (marks : List ℕ) → Only 6 (shape.marks_fault n marks)
unfolding shape.marks_fault
marks_only n marks = unless_only 6 (all_fine (λ v. number_outside 0 1 6 (get_or marks (v - 1) 0)) n)

pub shape_only : (n m : ℕ) (b : Bench) → Only 6 (shape.shape_fault n m b)
unfolding shape.shape_fault shape.head_fault shape.size_fault shape.ends_fault
shape_only n m b =
    either 6 _ _
    (either 6 _ _ (either 6 _ _ (unlike_only _ _) (unlike_only _ _))
    (either 6 _ _ (either 6 _ _ (outside_only 6 _ _ _) (outside_only 6 _ _ _))
    (either 6 _ _ (outside_only 6 _ _ _) (optimum_only _))))
    (either 6 _ _ (half_only n m _) (either 6 _ _ (half_only n m _) (marks_only n _)))

-- ---- 7: trails not sound

sound_only : (side : Side) (map : List ℕ) (n m root : ℕ) (h : List ℕ) → Only 7 (sound.sound_fault side map n m root h)
unfolding sound.sound_fault
sound_only side map n m root h = unless_only 7 (all_fine (sound.sound_at side map n m root h) n)

rule_only : (n stretch optimum : ℕ) (f g marks : List ℕ) → Only 7 (sound.marks_fault n stretch optimum f g marks)
unfolding sound.marks_fault
rule_only n stretch optimum f g marks = unless_only 7 (all_fine (sound.mark_fault n stretch optimum f g marks) n)

pub trails_only : (map : List ℕ) (n m : ℕ) (b : Bench) → Only 7 (trails_fault map n m b)
unfolding trails_fault rule_fault
trails_only map n m b =
    either 7 _ _ (sound_only Forward map n m b.start b.forward)
    (either 7 _ _ (sound_only Backward map n m b.target b.backward) (rule_only n _ _ _ _ _))

-- ---- 8 and 9

module _ (b : Bench) where
  pub done_only : Only 8 (done_fault b)
  unfolding done_fault
  done_only = unless_only 8 (done Forward b && done Backward b)

  pub known_only : Only 9 (unknown_fault b)
  unfolding unknown_fault
  known_only = unless_only 9 (known b.optimum)

-- ---- an answer that is no refusal, or one with a number from low to high

module _ (low high : ℕ) where
  abbrev pub Numbered : Said → Type 0
  Numbered s = (number : ℕ) (rest : List ℕ) → s ≡ refused number rest → Between low high number

  pub told_numbered : (vs : List ℕ) → Numbered (told vs)
  told_numbered vs number rest e = absurd (told_refused e)

  pub refused_numbered : (fault : ℕ) (vs : List ℕ) → Between low high fault → Numbered (refused fault vs)
  refused_numbered fault vs b number rest e = let q : fault ≡ number = cc in omega (arith, q)
