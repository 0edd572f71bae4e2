-- The checks give 0 exactly if the trails are sound; and sound trails of a well-shaped half can be walked. Assumes nothing.
use mathlib.Core.Path.{◌≡◌, refl, sym, ◌∙◌, ap}
use mathlib.Core.Bool.{◌&&◌}
use mathlib.Core.Logic.{◌≢◌, dite}
use mathlib.Core.List.{List}
use Prim.Native.Nat.{ℕ, suc, ◌-◌}
use native.Mathlib.Omega.{arith}
use native.Mathlib.Decide.{ℕ_discrete}
use lib.Dec.{eqb}
use lib.ListN.{length, get_or}
use lib.Seq.{ext_get_or}
use borrow.Author.Tests.{eqb-true, leb-true, eq-eqb, le-leb}
use Rattle.limits.specs.Limits.{Between}
use Rattle.limits.proofs.Cases.{and_both, cond_then}
use Rattle.limits.proofs.Fine.{fine_all, all_fine_lem}
use Rattle.map.specs.Map.{Valid}
use Rattle.map.specs.declared.Side.{Side}
use Rattle.map.specs.declared.Side.TheVariants.{Forward, Backward}
use Rattle.map.proofs.Walks.{near_in}
use Rattle.half.specs.Half.{dist, link, state, entry, ShapedHalf, Tight}
use Rattle.half.specs.declared.Entry.{Entry}
use Rattle.shape.specs.Bench.{Bench, half, root, WellShaped}
use Rattle.shape.specs.Rules.{known, within, mark, marks_of}
use Rattle.shape.proofs.Marks.{marks_length, marks_at_lem}
use Rattle.trail.specs.Sound.{SoundHalf, root_fault, tight_fault, named_fault, sound_at, sound_fault, MarksSound, mark_fault, marks_fault}
use Rattle.trail.specs.Trail.{Settled, Trails, Walkable}
use Rattle.trail.proofs.Tests.{seven_none}
use Rattle.trail.proofs.Checks.{settled_low, sound_root, sound_unsettled, sound_settled}

-- ---- one half

root_entry : (e : Entry) → root_fault e ≡ 0 → e ≡ record { dist = 0; link = 0; state = 2 }
unfolding root_fault
root_entry e z =
    let p = and_both _ _ (seven_none _ z) in
    let q = and_both _ _ p.1 in
    λ j. record { dist = eqb-true e.dist 0 p.0 j; link = eqb-true e.link 0 q.0 j; state = eqb-true e.state 2 q.1 j }

entry_root : (e : Entry) → e ≡ record { dist = 0; link = 0; state = 2 } → 0 ≡ root_fault e
unfolding root_fault
entry_root e z = rw z

module _ (side : Side) (map : List ℕ) (n m root : ℕ) (h : List ℕ) where
  named_link : (v : ℕ) → named_fault side map n m h v (dist h v) (link n h v) ≡ 0 → Tight side map n m h v (link n h v)
  unfolding named_fault tight_fault
  named_link v z =
      let a = cond_then {b = 7} {x = 0} _ z (λ y. omega arith) in
      let b = and_both _ _ a.0 in
      let p = and_both _ _ (seven_none _ a.1) in
      let q = and_both _ _ p.1 in
      record {
        inside = record { least = leb-true _ _ b.0; most = leb-true _ _ b.1 };
        comes = eqb-true _ _ p.0;
        from = eqb-true _ _ q.0;
        exact = sym (eqb-true _ _ q.1);
      }

  link_named : (v : ℕ) → Tight side map n m h v (link n h v) → 0 ≡ named_fault side map n m h v (dist h v) (link n h v)
  unfolding named_fault tight_fault
  link_named v r =
      simp (le-leb _ _ r.inside.least, le-leb _ _ r.inside.most, eq-eqb _ _ r.comes, eq-eqb _ _ r.from, eq-eqb _ _ (sym r.exact))

  pub fault_sound : Between 1 n root → sound_fault side map n m root h ≡ 0 → SoundHalf side map n m root h
  unfolding sound_fault
  fault_sound i z =
      record {
        root_is = root_entry (entry n h root) (sound_root side map n m root h root refl ∙ fine_all _ n (seven_none _ z) root i);
        named = λ v j ne s. named_link v (sound_settled side map n m root h v ne s ∙ fine_all _ n (seven_none _ z) v j);
      }

  pub sound_fault_lem : SoundHalf side map n m root h → sound_fault side map n m root h ≡ 0
  unfolding sound_fault
  sound_fault_lem sound = rw (all_fine_lem (sound_at side map n m root h) n (λ v i. sym (at v i)))
    where
      at : (v : ℕ) → Between 1 n v → 0 ≡ sound_at side map n m root h v
      at v i =
          dite (ℕ_discrete v root)
          (λ z. entry_root _ (ap (entry n h) z ∙ sound.root_is) ∙ sound_root side map n m root h v z)
          (λ ne. dite (ℕ_discrete (state n h v) 2)
          (λ s. link_named v (sound.named v i ne s) ∙ sound_settled side map n m root h v ne s)
          (λ o. sound_unsettled side map n m root h v ne o))

  -- ---- walking on it

  module _ (valid : Valid n m map) (shaped : ShapedHalf n m h) (sound : SoundHalf side map n m root h) where
    pub link_root : (v : ℕ) → Settled n h v → link n h v ≡ 0 → v ≡ root
    link_root v s z = dite (ℕ_discrete v root) (λ e. e) (λ ne. absurd (omega (arith, (sound.named v s.inside ne s.settled).inside)))

    pub link_name : (v : ℕ) → Settled n h v → link n h v ≢ 0 → Tight side map n m h v (link n h v)
    link_name v s nz =
        sound.named v s.inside (λ e. nz (ap (link n h) e ∙ ap (λ (f : Entry). f.link) sound.root_is)) s.settled

    pub sound_trails : Trails side map n h
    sound_trails =
        record {
          room = shaped.room;
          low = λ v s. settled_low shaped v s.inside s.settled;
          onward = λ v s nz.
              let r = link_name v s nz in
              let t = r.exact in
              let i = r.inside in
              record {
                room = omega (arith, valid.room);
                next = record { inside = near_in valid side (link n h v) i; settled = r.from };
                nearer = omega (arith, (valid.links (link n h v) i).cost_in);
              };
        }

-- ---- the marks

module _ (n stretch optimum : ℕ) (f g marks : List ℕ) where
  pub fault_marks : length marks ≡ n → marks_fault n stretch optimum f g marks ≡ 0 → marks ≡ marks_of n stretch optimum f g
  unfolding marks_fault mark_fault
  fault_marks room z =
      ext_get_or 0 _ _ (room ∙ sym (marks_length n stretch optimum f g))
      (λ i lt.
      let e : suc i - 1 ≡ i = omega arith in
      let one : Between 1 n (suc i) = omega arith in
      ap (λ (j : ℕ). get_or marks j 0) (sym e)
      ∙ eqb-true _ _ (seven_none _ (fine_all _ n (seven_none _ z) (suc i) one))
      ∙ sym (marks_at_lem n stretch optimum f g one)
      ∙ ap (λ (j : ℕ). get_or (marks_of n stretch optimum f g) j 0) e)

  pub marks_fault_lem : marks ≡ marks_of n stretch optimum f g → marks_fault n stretch optimum f g marks ≡ 0
  unfolding marks_fault mark_fault
  marks_fault_lem e =
      rw (all_fine_lem (mark_fault n stretch optimum f g marks) n
      (λ v i. simp (eq-eqb _ _ (ap (λ (l : List ℕ). get_or l (v - 1) 0) e ∙ marks_at_lem n stretch optimum f g i))))

  -- a marked crossing is settled in both halves
  module _ (e : marks ≡ marks_of n stretch optimum f g) (v : ℕ) (i : Between 1 n v) (one : get_or marks (v - 1) 0 ≡ 1) where
    marked_tests : (state n f v ≡ 2) × (state n g v ≡ 2)
    unfolding mark
    marked_tests =
        let near = within stretch optimum (dist f v) (dist g v) in
        let all = eqb (state n f v) 2 && (eqb (state n g v) 2 && near) in
        let t = (cond_then {a = 1} {b = 0} {x = 1} (known optimum && all) (sym (marks_at_lem n stretch optimum f g i) ∙ sym (ap (λ (l : List ℕ). get_or l (v - 1) 0) e) ∙ one) (λ y. omega arith)).0 in
        let p = and_both _ _ (and_both (known optimum) all t).1 in
        (eqb-true _ _ p.0, eqb-true _ _ (and_both _ near p.1).0)

    pub marked_forward : Settled n f v
    marked_forward = record { inside = i; settled = marked_tests.0 }

    pub marked_backward : Settled n g v
    marked_backward = record { inside = i; settled = marked_tests.1 }

-- ---- a bench with sound trails can be walked

pub sound_walkable : {n m : ℕ} {map : List ℕ} (b : Bench) → Valid n m map → WellShaped n m b → ((s : Side) → SoundHalf s map n m (root s b) (half s b)) → MarksSound b → Walkable map n b.forward b.backward b.marks
sound_walkable {n} {m} {map} b valid shaped sound marks =
    let e : b.marks ≡ marks_of n b.stretch b.optimum b.forward b.backward = marks ∙ rw shaped.same_n in
    record {
      forward = sound_trails Forward map n m b.start b.forward valid (shaped.halves Forward) (sound Forward);
      backward = sound_trails Backward map n m b.target b.backward valid (shaped.halves Backward) (sound Backward);
      marks_room = shaped.marks_room;
      marked_forward = λ v i one. marked_forward n b.stretch b.optimum b.forward b.backward b.marks e v i one;
      marked_backward = λ v i one. marked_backward n b.stretch b.optimum b.forward b.backward b.marks e v i one;
    }
