-- What the checks of soundness rest on, and the ways that the check of a crossing goes. Assumes nothing.
use mathlib.Core.Path.{◌≡◌, sym, ◌∙◌, ap}
use mathlib.Core.Logic.{◌≢◌, dite}
use mathlib.Core.List.{List}
use Prim.Native.Nat.{ℕ, ◌+◌, ◌≤◌}
use native.Mathlib.Omega.{arith}
use borrow.Author.Tests.{eq-eqb, ne_eqb, le-leb, lt-leb, le-ltb, lt-ltb}
use Rattle.std.proofs.Math.Decide.{dec_lt}
use Rattle.limits.specs.First.{or_else}
use Rattle.limits.specs.Limits.{Between, number_outside}
use Rattle.limits.specs.Refusals.{number_of}
use Rattle.limits.specs.declared.Refusal.{Refusal}
use Rattle.limits.proofs.Laws.{outside_none}
use Rattle.limits.proofs.Refused.{refused_first}
use Rattle.map.specs.Map.{cost, Valid}
use Rattle.map.specs.Walk.{near}
use Rattle.map.specs.declared.Side.{Side}
use Rattle.map.proofs.Walks.{near_in}
use Rattle.half.specs.Half.{ceiling, dist, link, state, entry, Shaped, unseen, seen, ShapedHalf}
use Rattle.half.specs.declared.Entry.{Entry}
use Rattle.trail.specs.Sound.{root_fault, tight_fault, named_fault, sound_at}

shaped_low : {m : ℕ} {e : Entry} → Shaped m e → e.state ≡ 2 → e.dist ≤ ceiling
shaped_low (unseen s d l) t = absurd (omega arith)
shaped_low (seen s d l) t = d

pub settled_low : {n m : ℕ} {h : List ℕ} → ShapedHalf n m h → (v : ℕ) → Between 1 n v → state n h v ≡ 2 → dist h v ≤ ceiling
settled_low shaped v i t = shaped_low (shaped.entries v i) t

-- ---- the link that a crossing names

-- the sum does not wrap
pub tight_sum : (side : Side) {map : List ℕ} {n m : ℕ} {h : List ℕ} → Valid n m map → ShapedHalf n m h → (k : ℕ) → Between 1 m k → {u : ℕ} {e : Entry} → u ≡ near side map k → e ≡ entry n h u → e.state ≡ 2 → e.dist + cost map k ≤ 268431360
tight_sum side {map} {n} {m} {h} valid shaped k i {u} {e} from at t =
    let low : e.dist ≤ ceiling = rw at (settled_low shaped u (rw from (near_in valid side k i)) (sym (ap (λ (f : Entry). f.state) at) ∙ t)) in
    omega (arith, (valid.links k i).cost_in)

module _ (side : Side) (map : List ℕ) (n m : ℕ) (h : List ℕ) (v d k : ℕ) where
  -- its range, then the link
  named_chain : or_else (number_outside 1 m 7 k) (tight_fault side map n h v d k) ≡ named_fault side map n m h v d k
  unfolding named_fault number_outside or_else
  named_chain =
      dite (dec_lt k 1) (λ low. simp (lt-ltb _ _ low, lt-leb _ _ low))
      (λ least. dite (dec_lt m k)
      (λ past. simp (le-ltb k 1 (omega arith), lt-ltb _ _ past, le-leb 1 k (omega arith), lt-leb _ _ past))
      (λ most. simp (le-ltb k 1 (omega arith), le-ltb m k (omega arith), le-leb 1 k (omega arith), le-leb k m (omega arith))))

  pub named_refused : (r : Refusal) → number_of r ≡ number_outside 1 m 7 k → number_of r ≡ named_fault side map n m h v d k
  named_refused r e = refused_first _ _ r e ∙ named_chain

pub named_in : {m k : ℕ} → 0 ≡ number_outside 1 m 7 k → Between 1 m k
named_in {m} {k} z = outside_none 1 m 7 k (λ y. omega (arith, y)) (sym z)

-- ---- a crossing

module _ (side : Side) (map : List ℕ) (n m root : ℕ) (h : List ℕ) (v : ℕ) where
  pub sound_root : v ≡ root → root_fault (entry n h v) ≡ sound_at side map n m root h v
  unfolding sound_at
  sound_root z = simp (eq-eqb _ _ z)

  pub sound_unsettled : v ≢ root → state n h v ≢ 2 → 0 ≡ sound_at side map n m root h v
  unfolding sound_at
  sound_unsettled z ne = simp (ne_eqb _ _ z, ne_eqb _ _ ne)

  pub sound_settled : v ≢ root → state n h v ≡ 2 → named_fault side map n m h v (dist h v) (link n h v) ≡ sound_at side map n m root h v
  unfolding sound_at
  sound_settled z t = simp (ne_eqb _ _ z, eq-eqb _ _ t)
