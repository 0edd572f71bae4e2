-- What the reader accepts, the checks of a map accept. Assumes nothing.
use mathlib.Core.Path.{◌≡◌, sym, ap, subst}
use mathlib.Core.List.{List, [], ◌∷◌, ◌++◌}
use Prim.Native.Nat.{ℕ, zero, suc, ◌*◌, ◌-◌, ◌≤◌}
use native.Mathlib.Omega.{arith}
use lib.ListN.{length, drop, length-append}
use Rattle.limits.specs.Said.{told}
use Rattle.line.specs.Lines.{lines_of}
use Rattle.text.specs.Text.{read_text, words_of, map_after}
use Rattle.text.specs.Good.{Links, done, skip, link, Layout, skipped, sized}
use Rattle.text.proofs.Good.{accepted_good}
use Rattle.map.specs.Map.{tail, head, cost, Link, Valid, map_fault}
use Rattle.map.proofs.Laws.{valid_fault}

-- the words of a link behind another's
module _ (u v w : ℕ) (x : List ℕ) (j : ℕ) where
  tail_behind : tail (u ∷ v ∷ w ∷ x) (suc (suc j)) ≡ tail x (suc j)
  unfolding tail
  tail_behind = let e : 3 * suc (suc j) - 3 ≡ suc (suc (suc (3 * suc j - 3))) = omega arith in rw e

  head_behind : head (u ∷ v ∷ w ∷ x) (suc (suc j)) ≡ head x (suc j)
  unfolding head
  head_behind = let e : 3 * suc (suc j) - 2 ≡ suc (suc (suc (3 * suc j - 2))) = omega arith in rw e

  cost_behind : cost (u ∷ v ∷ w ∷ x) (suc (suc j)) ≡ cost x (suc j)
  unfolding cost
  cost_behind = let e : 3 * suc (suc j) - 1 ≡ suc (suc (suc (3 * suc j - 1))) = omega arith in rw e

  link_behind : (n : ℕ) → Link n x (suc j) → Link n (u ∷ v ∷ w ∷ x) (suc (suc j))
  link_behind n l =
      record { tail_in = rw tail_behind l.tail_in; head_in = rw head_behind l.head_in; cost_in = rw cost_behind l.cost_in }

links_valid : (n : ℕ) (s ws rest : List ℕ) → Links n s ws → (k : ℕ) → 1 ≤ k → 3 * k ≤ length ws → Link n (ws ++ rest) k
unfolding tail head cost
links_valid n s ws rest (done e f) k a b = absurd (omega (arith, ap length f))
links_valid n s ws rest (skip l more e c r) k a b = links_valid n more ws rest r k a b
links_valid n s ws rest (link l more u v w words e f c p q t r) zero a b = absurd (omega arith)
links_valid n s ws rest (link l more u v w words e f c p q t r) (suc zero) a b =
    subst (λ (z : List ℕ). Link n (z ++ rest) 1) (sym f) (record { tail_in = p; head_in = q; cost_in = t })
links_valid n s ws rest (link l more u v w words e f c p q t r) (suc (suc j)) a b =
    subst (λ (z : List ℕ). Link n (z ++ rest) (suc (suc j))) (sym f)
    (link_behind u v w (words ++ rest) j n (links_valid n more words rest r (suc j) (omega arith) (omega (arith, ap length f))))

layout_valid : (n m : ℕ) (ws s rest : List ℕ) → Layout n m ws s → (k : ℕ) → 1 ≤ k → 3 * k ≤ length ws → Link n (ws ++ rest) k
layout_valid n m ws s rest (skipped l more e c r) = layout_valid n m ws more rest r
layout_valid n m ws s rest (sized l more e c r) = links_valid n more ws rest r

module _ (s map : List ℕ) {n m : ℕ} (e : read_text (length map) s ≡ told (n ∷ m ∷ [])) where
  accepted_valid : Valid n m (map_after s map)
  unfolding map_after
  accepted_valid = rw e
      (let g = accepted_good (length map) s e in
      let ws = words_of (lines_of s) in
      record {
        n_in = g.n_in;
        m_in = g.m_in;
        room = omega (arith, g.all, length-append ws (drop (length ws) map));
        links = λ k i. layout_valid n m ws s (drop (length ws) map) g.layout k i.least (omega (arith, g.all, i.most));
      })

  pub accepted_fault : map_fault n m (map_after s map) ≡ 0
  accepted_fault = valid_fault n m (map_after s map) accepted_valid
