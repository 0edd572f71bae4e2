-- What one offer leaves of an entry, and what settling an open crossing x leaves of a half, in terms of the half before.
-- Assumes nothing.
use mathlib.Core.Path.{◌≡◌, refl, sym, ap, ◌∙◌, subst⁻¹}
use mathlib.Core.Bool.{Bool, true, false, cond, ◌&&◌, ◌||◌}
use mathlib.Core.Logic.{◌≢◌, ⊎_elim}
use mathlib.Core.List.{List}
use Prim.Native.Nat.{ℕ, suc, ◌+◌, ◌*◌, ◌≤◌}
use native.Mathlib.Nat.{le_trans}
use native.Mathlib.Omega.{arith}
use lib.Dec.{eqb, ltb}
use lib.ListN.{length}
use borrow.Author.Tests.{eqb-true, eqb-false, ltb-true, ltb-false}
use Rattle.limits.specs.Limits.{Between}
use Rattle.limits.proofs.Cases.{cond_cases}
use Rattle.map.specs.Map.{cost, Valid}
use Rattle.map.specs.Walk.{near, far}
use Rattle.map.specs.declared.Side.{Side}
use Rattle.map.proofs.Walks.{far_in}
use Rattle.half.specs.Half.{ceiling, dist, link, state, entry, offered, settled_at, Before}
use Rattle.half.specs.declared.Entry.{Entry}
use Rattle.half.proofs.Folds.{last_or}
use Rattle.half.proofs.Entries.{Change, change_cases}
use Rattle.half.proofs.Rule2.{offered_settled, settled_at_keeps}

pub before_trans : {d u e v f w : ℕ} → Before d u e v → Before e v f w → Before d u f w
before_trans p q = record { le = omega arith; tie = λ t. le_trans (p.tie (omega arith)) (q.tie (omega arith)) }

-- an entry is seen, and what it holds comes before the offer of distance d over link l, or is it
pub record Held (d l : ℕ) (e : Entry) : Type 0 where
  pub seen : 1 ≤ e.state
  pub before : Before e.dist e.link d l

-- ---- one offer

data Offer (k sum : ℕ) (e f : Entry) : Type 0 where
  kept : f ≡ e → (e.state ≢ 2 → Held sum k e) → Offer k sum e f
  taken : 1 ≤ f.state → f.dist ≡ sum → f.link ≡ k → (1 ≤ e.state → Before sum k e.dist e.link) → Offer k sum e f

module _ {k sum : ℕ} {e : Entry} where
  offer : (e.state ≢ 2 → sum ≤ ceiling) → Offer k sum e (offered k sum e)
  unfolding offered
  offer under =
      cond_cases (Offer k sum e) (eqb e.state 2) (λ t. kept refl (λ ne. absurd (ne (eqb-true _ _ t)))) (λ s.
      cond_cases (Offer k sum e) (ltb ceiling sum) (λ t. absurd (omega (arith, ltb-true ceiling sum t, under (eqb-false e.state 2 s)))) (λ _.
      go (eqb e.state 0) (ltb sum e.dist) (eqb sum e.dist) (ltb k e.link) refl refl refl refl))
    where
      go : (a b c d : Bool) → eqb e.state 0 ≡ a → ltb sum e.dist ≡ b → eqb sum e.dist ≡ c → ltb k e.link ≡ d
          → Offer k sum e (cond (a || b) (record { dist = sum; link = k; state = 1 }) (cond (c && d) (record { dist = e.dist; link = k; state = e.state }) e))
      go true b c d p q r s = taken (omega arith) refl refl (λ t. omega (arith, eqb-true e.state 0 p))
      go false true c d p q r s = taken (omega arith) refl refl (λ t. omega (arith, ltb-true sum e.dist q))
      go false false true true p q r s = taken (omega (arith, eqb-false e.state 0 p)) (sym (eqb-true sum e.dist r)) refl (λ t. omega (arith, eqb-true sum e.dist r, ltb-true k e.link s))
      go false false true false p q r s = kept refl (λ _. record { seen = omega (arith, eqb-false e.state 0 p); before = omega (arith, eqb-true sum e.dist r, ltb-false k e.link s) })
      go false false false d p q r s = kept refl (λ _. record { seen = omega (arith, eqb-false e.state 0 p); before = omega (arith, ltb-false sum e.dist q, eqb-false sum e.dist r) })

  module _ {f : Entry} where
    held_on : Offer k sum e f → {d l : ℕ} → Held d l e → Held d l f
    held_on (kept z _) {d} {l} q = subst⁻¹ (Held d l) z q
    held_on (taken s a b c) q =
        let p = before_trans (c q.seen) q.before in
        record { seen = s; before = record { le = omega arith; tie = λ t. omega (arith, p.tie (omega arith)) } }

    held_new : Offer k sum e f → e.state ≢ 2 → Held sum k f
    held_new (kept z h) ne = subst⁻¹ (Held sum k) z (h ne)
    held_new (taken s a b _) ne = record { seen = s; before = omega arith }

-- ---- x is settled, and then the links 1 to i

module _ (side : Side) (map : List ℕ) (n m x : ℕ) (h : List ℕ) where
  -- where what v holds comes from: from before, or from a link that leaves x
  pub data From (v : ℕ) (e : Entry) : Type 0 where
    old : 1 ≤ state n h v → e.dist ≡ dist h v → e.link ≡ link n h v → From v e
    new : (k : ℕ) → Between 1 m k → near side map k ≡ x → far side map k ≡ v → e.dist ≡ dist h x + cost map k → e.link ≡ k → From v e

  pub record Step (i : ℕ) (g : List ℕ) : Type 0 where
    pub left : (v : ℕ) → Between 1 n v → state n g v ≢ 2 → (state n h v ≢ 2) × (v ≢ x)
    pub improves : (v : ℕ) → Between 1 n v → (d l : ℕ) → Held d l (entry n h v) → Held d l (entry n g v)
    pub offers : (k : ℕ) → Between 1 i k → near side map k ≡ x → state n g (far side map k) ≢ 2 → Held (dist h x + cost map k) k (entry n g (far side map k))
    pub from : (v : ℕ) → Between 1 n v → 1 ≤ state n g v → From v (entry n g v)

  module _ (valid : Valid n m map) (cx : Between 1 n x) (room : length h ≡ 3 * n) (o : state n h x ≡ 1)
      (under : (k : ℕ) → Between 1 m k → state n h (far side map k) ≢ 2 → far side map k ≢ x → dist h x + cost map k ≤ ceiling) where
    starts : (g : List ℕ) → Change n h g x (record { dist = dist h x; link = link n h x; state = 2 }) → Step 0 g
    starts g c =
        record {
          left = λ v i. change_cases c (λ u e. e.state ≢ 2 → (state n h u ≢ 2) × (u ≢ x)) (λ s. absurd (s refl)) v i (λ ne s. (s, ne));
          improves = λ v i. change_cases c (λ u e. (d l : ℕ) → Held d l (entry n h u) → Held d l e) (λ d l q. record { seen = omega arith; before = q.before }) v i (λ _ d l q. q);
          offers = λ k i. absurd (omega arith);
          from = λ v i. change_cases c (λ u e. 1 ≤ e.state → From u e) (λ _. old (omega arith) refl refl) v i (λ _ s. old s refl refl);
        }

    off : (k : ℕ) (g : List ℕ) → near side map (suc k) ≢ x → Step k g → Step (suc k) g
    off k g ne p =
        record {
          left = p.left;
          improves = p.improves;
          offers = λ j i e s. ⊎_elim (λ a. p.offers j a e s) (λ a. absurd (ne (ap (near side map) (sym a) ∙ e))) (last_or i);
          from = p.from;
        }

    on : (k : ℕ) (g f : List ℕ) → Between 1 m (suc k) → near side map (suc k) ≡ x
        → Change n g f (far side map (suc k)) (offered (suc k) (dist h x + cost map (suc k)) (entry n g (far side map (suc k)))) → Step k g → Step (suc k) f
    on k g f i e c p =
        record {
          left = λ v j s. p.left v j (was v j s);
          improves = λ v j d l q. on_held v j d l (p.improves v j d l q);
          offers = λ j a b s.
              ⊎_elim
              (λ z. let cj = far_in valid side j (omega arith) in on_held _ cj _ _ (p.offers j z b (was _ cj s)))
              (λ z. subst⁻¹ (λ (t : ℕ). state n f (far side map t) ≢ 2 → Held (dist h x + cost map t) t (entry n f (far side map t))) z
              (λ r. subst⁻¹ (Held _ _) c.same (held_new its (was w cw r))) s)
              (last_or a);
          from = λ v j. change_cases c (λ u z. 1 ≤ z.state → From u z) (arrives its) v j (λ _ s. p.from v j s);
        }
      where
        w : ℕ
        w = far side map (suc k)

        cw : Between 1 n w
        cw = far_in valid side (suc k) i

        its : Offer (suc k) (dist h x + cost map (suc k)) (entry n g w) (offered (suc k) (dist h x + cost map (suc k)) (entry n g w))
        its = offer (λ s. let q = p.left w cw s in under (suc k) i q.0 q.1)

        was : (v : ℕ) → Between 1 n v → state n f v ≢ 2 → state n g v ≢ 2
        was v j = change_cases c (λ u z. z.state ≢ 2 → state n g u ≢ 2) (λ s t. s (ap (λ (z : Entry). z.state) (offered_settled _ _ _ t) ∙ t)) v j (λ _ s. s)

        on_held : (v : ℕ) → Between 1 n v → (d l : ℕ) → Held d l (entry n g v) → Held d l (entry n f v)
        on_held v j d l = change_cases c (λ u z. Held d l (entry n g u) → Held d l z) (held_on its) v j (λ _ q. q)

        arrives : {z : Entry} → Offer (suc k) (dist h x + cost map (suc k)) (entry n g w) z → 1 ≤ z.state → From w z
        arrives (kept q _) = subst⁻¹ (λ (z : Entry). 1 ≤ z.state → From w z) q (p.from w cw)
        arrives (taken _ a b _) = λ _. new (suc k) i e refl a b

    pub settled_at_step : Step m (settled_at side map n m x h)
    settled_at_step = settled_at_keeps side map valid x cx h room Step starts (λ k g i. off k g) on
