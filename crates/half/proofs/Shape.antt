-- An opened half is well shaped, and settling an open crossing keeps a half well shaped. Assumes nothing.
use mathlib.Core.Path.{◌≡◌, ◌∙◌, subst⁻¹}
use mathlib.Core.Bool.{Bool, false, ◌&&◌, ◌||◌, true≢false}
use mathlib.Core.Logic.{dite}
use mathlib.Core.List.{List}
use Prim.Native.Nat.{ℕ, suc, ◌≤◌}
use native.Mathlib.Omega.{arith}
use native.Mathlib.Decide.{ℕ_discrete}
use lib.Dec.{eqb, ltb}
use borrow.Author.Tests.{ltb-false, eq-eqb}
use Rattle.limits.specs.Limits.{Between}
use Rattle.map.specs.Map.{Valid}
use Rattle.map.specs.declared.Side.{Side}
use Rattle.map.proofs.Walks.{far_in}
use Rattle.half.specs.Half.{ceiling, state, open_half, offered, settled_at, Shaped, unseen, seen, ShapedHalf}
use Rattle.half.specs.declared.Entry.{Entry}
use Rattle.limits.proofs.Cases.{cond_cases}
use Rattle.half.proofs.Entries.{Change, change_cases}
use Rattle.half.proofs.Opening.{open_length, open_root, open_other}
use Rattle.half.proofs.Rule2.{settled_at_keeps}

pub open_shaped : (n m root : ℕ) → Between 1 n root → ShapedHalf n m (open_half n root)
open_shaped n m root cr =
    record {
      room = open_length n root;
      entries = λ v i.
          dite (ℕ_discrete v root)
          (λ e. rw e (subst⁻¹ (Shaped m) (open_root n root cr) (seen (omega arith) (omega arith) (omega arith))))
          (λ ne. subst⁻¹ (Shaped m) (open_other n root cr v i ne) (unseen (omega arith) (omega arith) (omega arith)));
    }

-- a lower link number in a seen one
tied : (m k : ℕ) (e : Entry) (t : Bool) → k ≤ m → Shaped m e → (eqb e.state 0 || t) ≡ false → Shaped m (record { dist = e.dist; link = k; state = e.state })
tied m k e t le (unseen a b c) o = absurd (true≢false (rw (eq-eqb _ _ a) at o))
tied m k e t le (seen a b c) o = seen a b le

offered_shaped : (m k sum : ℕ) (e : Entry) → k ≤ m → Shaped m e → Shaped m (offered k sum e)
unfolding offered
offered_shaped m k sum e le p =
    cond_cases (Shaped m) (eqb e.state 2) (λ _. p) (λ _.
    cond_cases (Shaped m) (ltb ceiling sum) (λ _. p) (λ under.
    cond_cases (Shaped m) (eqb e.state 0 || ltb sum e.dist) (λ _. seen (omega arith) (ltb-false _ _ under) le) (λ old.
    cond_cases (Shaped m) (eqb sum e.dist && ltb k e.link) (λ _. tied m k e _ le p old) (λ _. p))))

change_shaped : {n m v : ℕ} {h g : List ℕ} {e : Entry} → Change n h g v e → Shaped m e → ShapedHalf n m h → ShapedHalf n m g
change_shaped {m = m} c new p =
    record { room = c.long ∙ p.room; entries = λ u i. change_cases c (λ _ f. Shaped m f) new u i (λ _. p.entries u i) }

-- once settled
settled_shaped : {m : ℕ} {e : Entry} → Shaped m e → e.state ≡ 1 → Shaped m (record { dist = e.dist; link = e.link; state = 2 })
settled_shaped (unseen a b c) o = absurd (omega arith)
settled_shaped (seen a b c) o = seen (omega arith) b c

pub settled_at_shaped : (side : Side) (map : List ℕ) {n m : ℕ} → Valid n m map → (x : ℕ) → Between 1 n x → (h : List ℕ) → state n h x ≡ 1 → ShapedHalf n m h → ShapedHalf n m (settled_at side map n m x h)
settled_at_shaped side map {n} {m} valid x cx h o p =
    settled_at_keeps side map valid x cx h p.room (λ _ g. ShapedHalf n m g)
    (λ g c. change_shaped c (settled_shaped (p.entries x cx) o) p)
    (λ k g i ne q. q)
    (λ k g f i e c q. change_shaped c (offered_shaped m (suc k) _ _ (omega arith) (q.entries _ (far_in valid side (suc k) i))) q)
