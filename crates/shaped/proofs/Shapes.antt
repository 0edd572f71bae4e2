-- The check finds no fault exactly if the bench is well shaped; an opened bench is. Assumes nothing.
use mathlib.Core.Path.{◌≡◌, refl, sym}
use mathlib.Core.Logic.{◌⊎◌, inl, inr}
use mathlib.Core.List.{List}
use Prim.Native.Nat.{ℕ, ◌*◌, ◌-◌, ◌≤◌}
use native.Mathlib.Omega.{arith}
use lib.Dec.{eqb}
use lib.ListN.{length, get_or, length-replicate, get_or-replicate}
use borrow.Author.Tests.{eq-eqb, ne_eqb, eqb-true}
use Rattle.limits.specs.First.{all_fine}
use Rattle.limits.specs.Limits.{Between, number_outside}
use Rattle.limits.proofs.Laws.{or_else_none, none_or_else, outside_none, none_outside}
use Rattle.limits.proofs.Cases.{cond_cases, cond_then}
use Rattle.limits.proofs.Fine.{fine_all, all_fine_lem}
use Rattle.map.specs.declared.Side.{Side}
use Rattle.map.specs.declared.Side.TheVariants.{Forward, Backward}
use Rattle.half.specs.Half.{unknown, ceiling, entry, Shaped, unseen, seen, ShapedHalf}
use Rattle.half.specs.declared.Entry.{Entry}
use Rattle.half.proofs.Shape.{open_shaped}
use Rattle.shape.specs.Bench.{Bench, half, bench_words, parse, opened, WellShaped}
use Rattle.shaped.specs.Shape.{unlike, unseen_fault, seen_fault, entry_fault, half_fault, marks_fault, size_fault, ends_fault, optimum_fault, head_fault, shape_fault}
use Rattle.shape.proofs.Rounds.{Room, parse_room}

-- ---- the words

six : ◌≡◌ {A = ℕ} 6 0 → ⊥
six e = omega arith

-- 6 is the number of what is outside
outside : {low high x : ℕ} → number_outside low high 6 x ≡ 0 → Between low high x
outside e = outside_none _ _ 6 _ six e

unlike_none : (a b : ℕ) → unlike a b ≡ 0 → a ≡ b
unfolding unlike
unlike_none a b e = eqb-true _ _ (cond_then (eqb a b) e six).0

none_unlike : (a b : ℕ) → a ≡ b → unlike a b ≡ 0
unfolding unlike
none_unlike a b e = simp (eq-eqb _ _ e)

optimum_none : (o : ℕ) → optimum_fault o ≡ 0 → (o ≡ unknown) ⊎ (o ≤ ceiling)
unfolding optimum_fault
optimum_none o =
    cond_cases (λ (f : ℕ). f ≡ 0 → (o ≡ unknown) ⊎ (o ≤ ceiling)) (eqb o unknown) (λ t _. inl (eqb-true _ _ t)) (λ _ e. inr (outside e).most)

none_optimum : (o : ℕ) → (o ≡ unknown) ⊎ (o ≤ ceiling) → optimum_fault o ≡ 0
unfolding optimum_fault
none_optimum o (inl e) = simp (eq-eqb _ _ e)
none_optimum o (inr e) = cond_cases (λ (f : ℕ). f ≡ 0) (eqb o unknown) (λ _. refl) (λ _. none_outside _ _ _ _ (omega arith))

-- ---- the halves

module _ (m : ℕ) (e : Entry) where
  unseen_none : unseen_fault e ≡ 0 → (e.dist ≡ unknown) × (e.link ≡ 0)
  unfolding unseen_fault
  unseen_none z = let a = or_else_none _ _ z in (unlike_none _ _ a.0, unlike_none _ _ a.1)

  seen_none : seen_fault m e ≡ 0 → Shaped m e
  unfolding seen_fault
  seen_none z =
      let a = or_else_none _ _ z in
      let b = or_else_none _ _ a.1 in
      seen (outside b.1) (outside a.0).most (outside b.0).most

  entry_none : entry_fault m e ≡ 0 → Shaped m e
  unfolding entry_fault
  entry_none =
      cond_cases (λ (f : ℕ). f ≡ 0 → Shaped m e) (eqb e.state 0)
      (λ t z. unseen (eqb-true _ _ t) (unseen_none z).0 (unseen_none z).1) (λ _ z. seen_none z)

  none_entry : Shaped m e → entry_fault m e ≡ 0
  unfolding entry_fault unseen_fault seen_fault
  none_entry (unseen s d k) = simp (eq-eqb _ _ s) (none_or_else _ _ (none_unlike _ _ d) (none_unlike _ _ k))
  none_entry (seen s d k) =
      let ne : e.state ≡ 0 → ⊥ = λ z. omega arith in
      simp (ne_eqb _ _ ne)
      (none_or_else _ _ (none_outside _ _ _ _ (omega arith)) (none_or_else _ _ (none_outside _ _ _ _ (omega arith)) (none_outside _ _ _ _ s)))

module _ (n m : ℕ) (h : List ℕ) where
  half_none : length h ≡ 3 * n → half_fault n m h ≡ 0 → ShapedHalf n m h
  unfolding half_fault
  half_none room z =
      record { room = room; entries = λ v i. entry_none m _ (fine_all _ n (cond_then (all_fine (λ w. entry_fault m (entry n h w)) n) z six).0 v i) }

  none_half : ShapedHalf n m h → half_fault n m h ≡ 0
  unfolding half_fault
  none_half p = rw (all_fine_lem (λ w. entry_fault m (entry n h w)) n (λ v i. none_entry m _ (p.entries v i)))

-- ---- the marks

module _ (n : ℕ) (marks : List ℕ) where
  marks_none : marks_fault n marks ≡ 0 → (v : ℕ) → Between 1 n v → get_or marks (v - 1) 0 ≤ 1
  unfolding marks_fault
  marks_none z v i =
      (outside (fine_all _ n (cond_then (all_fine (λ w. number_outside 0 1 6 (get_or marks (w - 1) 0)) n) z six).0 v i)).most

  none_marks : ((v : ℕ) → Between 1 n v → get_or marks (v - 1) 0 ≤ 1) → marks_fault n marks ≡ 0
  unfolding marks_fault
  none_marks p =
      rw (all_fine_lem (λ w. number_outside 0 1 6 (get_or marks (w - 1) 0)) n
      (λ v i. none_outside _ _ _ _ (record { least = omega arith; most = p v i })))

-- ---- the bench

module _ {n m : ℕ} {b : Bench} where
  pub fault_shaped : Room n b → shape_fault n m b ≡ 0 → WellShaped n m b
  unfolding shape_fault head_fault size_fault ends_fault
  fault_shaped room z =
      let whole = or_else_none _ _ z in
      let head = or_else_none _ _ whole.0 in
      let size = or_else_none _ _ head.0 in
      let rest = or_else_none _ _ head.1 in
      let ends = or_else_none _ _ rest.0 in
      let order = or_else_none _ _ rest.1 in
      let first = or_else_none _ _ whole.1 in
      let second = or_else_none _ _ first.1 in
      record {
        same_n = unlike_none _ _ size.0;
        same_m = unlike_none _ _ size.1;
        start_in = outside ends.0;
        target_in = outside ends.1;
        stretch_in = outside order.0;
        optimum_in = optimum_none _ order.1;
        halves = both (half_none n m _ (room.halves Forward) first.0) (half_none n m _ (room.halves Backward) second.0);
        marks_room = room.marks;
        marks_in = marks_none n _ second.1;
      }
    where
      both : ShapedHalf n m b.forward → ShapedHalf n m b.backward → (s : Side) → ShapedHalf n m (half s b)
      both p q Forward = p
      both p q Backward = q

  pub shaped_fault : WellShaped n m b → shape_fault n m b ≡ 0
  unfolding shape_fault head_fault size_fault ends_fault
  shaped_fault w =
      none_or_else _ _
      (none_or_else _ _ (none_or_else _ _ (none_unlike _ _ w.same_n) (none_unlike _ _ w.same_m))
      (none_or_else _ _ (none_or_else _ _ (none_outside _ _ _ _ w.start_in) (none_outside _ _ _ _ w.target_in))
      (none_or_else _ _ (none_outside _ _ _ _ w.stretch_in) (none_optimum _ w.optimum_in))))
      (none_or_else _ _ (none_half n m _ (w.halves Forward))
      (none_or_else _ _ (none_half n m _ (w.halves Backward))
      (none_marks n _ w.marks_in)))

-- the words that a call is lent
pub shaped_for : (n m : ℕ) (x : List ℕ) → bench_words n ≤ length x → 0 ≡ shape_fault n m (parse n x) → WellShaped n m (parse n x)
shaped_for n m x room e = fault_shaped (parse_room n x room) (sym e)

-- ---- opened

pub opened_shaped : (n m start target stretch : ℕ) (past : List ℕ) → Between 1 n start → Between 1 n target → Between 1000 4000 stretch
    → WellShaped n m (opened n m start target stretch past)
unfolding opened
opened_shaped n m start target stretch past i j k =
    record {
      same_n = refl;
      same_m = refl;
      start_in = i;
      target_in = j;
      stretch_in = k;
      optimum_in = inl refl;
      halves = halves;
      marks_room = length-replicate n 0;
      marks_in = λ v l. omega (arith, get_or-replicate {A = ℕ} n (v - 1) 0 0 (omega arith));
    }
  where
    halves : (s : Side) → ShapedHalf n m (half s (opened n m start target stretch past))
    halves Forward = open_shaped n m start i
    halves Backward = open_shaped n m target j
