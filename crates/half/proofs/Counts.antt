-- Settling an open crossing settles it alone, keeps the entries of the settled ones, and counts one more. Assumes nothing.
use mathlib.Core.Path.{◌≡◌, refl, sym, ◌∙◌, ap}
use mathlib.Core.Bool.{cond}
use mathlib.Core.Logic.{◌≢◌, dite}
use mathlib.Core.List.{List}
use Prim.Native.Nat.{ℕ, suc, ◌*◌, ◌≤◌}
use native.Mathlib.Omega.{arith}
use native.Mathlib.Decide.{ℕ_discrete}
use lib.Dec.{eqb}
use lib.ListN.{length}
use borrow.Author.Tests.{eq-eqb, ne_eqb}
use Rattle.limits.specs.Limits.{Between}
use Rattle.map.specs.Map.{Valid}
use Rattle.map.specs.declared.Side.{Side}
use Rattle.half.specs.Half.{dist, link, state, entry, offered, settled_at, settled_count}
use Rattle.half.specs.declared.Entry.{Entry}
use Rattle.limits.proofs.Cases.{cond_cases}
use Rattle.half.proofs.Folds.{tally_le, tally_more}
use Rattle.half.proofs.Entries.{Change, change_cases}
use Rattle.half.proofs.Rule2.{offered_settled, offered_unsettled, settled_at_keeps}

pub settled_count_le : (n : ℕ) (h : List ℕ) → settled_count n h ≤ n
unfolding settled_count
settled_count_le n h =
    tally_le _ n (λ v. cond_cases (λ (c : ℕ). c ≤ 1) (eqb (state n h v) 2) (λ _. omega arith) (λ _. omega arith))

-- g settles x besides, at the distance and the link number it had
pub record Settles (n : ℕ) (h g : List ℕ) (x : ℕ) : Type 0 where
  pub at_x : entry n g x ≡ record { dist = dist h x; link = link n h x; state = 2 }
  pub stays : (v : ℕ) → Between 1 n v → state n h v ≡ 2 → entry n g v ≡ entry n h v
  pub was : (v : ℕ) → Between 1 n v → v ≢ x → state n g v ≡ 2 → state n h v ≡ 2

-- ---- settling x

module _ {n : ℕ} {h g : List ℕ} {x : ℕ} where
  -- x is made settled
  starts : state n h x ≡ 1 → Change n h g x (record { dist = dist h x; link = link n h x; state = 2 }) → Settles n h g x
  starts o c =
      record {
        at_x = c.same;
        stays = λ v i s. c.other v i (λ e. omega (arith, ap (state n h) e));
        was = λ v i ne s. sym (ap (λ (e : Entry). e.state) (c.other v i ne)) ∙ s;
      }

  -- an offer keeps it
  goes_on : {f : List ℕ} {w : ℕ} (k sum : ℕ) → Between 1 n x → Change n g f w (offered k sum (entry n g w)) → Settles n h g x → Settles n h f x
  goes_on {f} {w} k sum cx c p =
      record {
        at_x = kept x cx (ap (λ (e : Entry). e.state) p.at_x) ∙ p.at_x;
        stays = λ v i s. kept v i (ap (λ (e : Entry). e.state) (p.stays v i s) ∙ s) ∙ p.stays v i s;
        was = λ v i ne s. p.was v i ne (held v i s);
      }
    where
      kept : (v : ℕ) → Between 1 n v → state n g v ≡ 2 → entry n f v ≡ entry n g v
      kept v i = change_cases c (λ u e. state n g u ≡ 2 → e ≡ entry n g u) (λ s. offered_settled k sum _ s) v i (λ _ _. refl)

      held : (v : ℕ) → Between 1 n v → state n f v ≡ 2 → state n g v ≡ 2
      held v i =
          change_cases c (λ u e. e.state ≡ 2 → state n g u ≡ 2)
          (λ s. dite (ℕ_discrete (state n g w) 2) (λ y. y) (λ ne. absurd (offered_unsettled k sum _ ne s))) v i (λ _ s. s)

pub settled_at_settles : (side : Side) (map : List ℕ) {n m : ℕ} → Valid n m map → (x : ℕ) → Between 1 n x → (h : List ℕ) → length h ≡ 3 * n → state n h x ≡ 1 → Settles n h (settled_at side map n m x h) x
settled_at_settles side map {n} valid x cx h room o =
    settled_at_keeps side map valid x cx h room (λ _ g. Settles n h g x)
    (λ g c. starts o c)
    (λ k g i ne p. p)
    (λ k g f i e c p. goes_on (suc k) _ cx c p)

-- ---- how many are settled

tick_yes : {s : ℕ} → s ≡ 2 → ◌≡◌ {A = ℕ} (cond (eqb s 2) 1 0) 1
tick_yes o = simp (eq-eqb _ _ o)

tick_no : {s : ℕ} → s ≢ 2 → ◌≡◌ {A = ℕ} (cond (eqb s 2) 1 0) 0
tick_no o = simp (ne_eqb _ _ o)

pub settles_count : {n : ℕ} {h g : List ℕ} {x : ℕ} → Between 1 n x → state n h x ≢ 2 → Settles n h g x → settled_count n g ≡ suc (settled_count n h)
unfolding settled_count
settles_count {n} {h} {g} {x} cx o p =
    sym (tally_more (λ v. cond (eqb (state n h v) 2) 1 0) (λ v. cond (eqb (state n g v) 2) 1 0) n x cx
    (omega (arith, tick_no o, tick_yes (ap (λ (e : Entry). e.state) p.at_x)))
    (λ v i ne. dite (ℕ_discrete (state n h v) 2)
    (λ s. tick_yes s ∙ sym (tick_yes (ap (λ (e : Entry). e.state) (p.stays v i s) ∙ s)))
    (λ s. tick_no s ∙ sym (tick_no (λ t. s (p.was v i ne t))))))
