-- Opening: the words of a blank half and the way that the code writes them, and the entries of an opened half. Assumes nothing.
use mathlib.Core.Path.{◌≡◌, sym, ◌∙◌, ap}
use mathlib.Core.Logic.{◌≢◌}
use mathlib.Core.List.{List, ◌++◌, append-nil}
use Prim.Native.Nat.{ℕ, suc, ◌+◌, ◌-◌, ◌*◌, ◌≤◌, ◌<◌}
use native.Mathlib.Omega.{arith}
use native.Mathlib.Numerals.{add-one}
use borrow.Rule.Slice.PartMut.{put_mid}
use lib.ListN.{length, get_or, set, take, drop, replicate, length-append, length-replicate, length-take, length-drop, get_or-replicate, get_or-append, drop_of_length-le}
use lib.Seq.{take_at, drop_at, get_or-append-add, drop-cons, take-suc, set_at, append_snoc, length-take-le, take_all}
use Rattle.limits.specs.Limits.{Between}
use Rattle.half.specs.Half.{unknown, dist, link, state, entry, blank, open_half}
use Rattle.half.proofs.Entries.{put_length, put_same, put_other}

-- ---- a blank half

module _ (n : ℕ) where
  pub blank_length : length (blank n) ≡ 3 * n
  unfolding blank
  blank_length = simp (length-append, length-replicate) (omega arith)

  pub blank_left : (i : ℕ) → i < n → get_or (blank n) i 0 ≡ unknown
  unfolding blank
  blank_left i lt =
      get_or-append (replicate n unknown) (replicate (2 * n) 0) 0 i (omega (arith, length-replicate n unknown)) ∙ get_or-replicate n i unknown 0 lt

  pub blank_right : (i : ℕ) → n ≤ i → i < 3 * n → get_or (blank n) i 0 ≡ 0
  unfolding blank
  blank_right i le lt =
      let e : i ≡ length (replicate n unknown) + (i - n) = omega (arith, length-replicate n unknown) in
      ap (λ (j : ℕ). get_or (replicate n unknown ++ replicate (2 * n) 0) j 0) e
      ∙ get_or-append-add (replicate n unknown) (replicate (2 * n) 0) (i - n) 0
      ∙ get_or-replicate (2 * n) (i - n) 0 0 (omega arith)

  -- the first n words are filled, then those after them
  pub blank_by : (h : List ℕ) {p q : List ℕ} → length h ≡ 3 * n → p ≡ replicate (length (take n h)) unknown
      → q ≡ replicate (length (take (length (p ++ drop n h) - n) (drop n (p ++ drop n h)))) 0
      → put_mid n (length (p ++ drop n h) - n) (p ++ drop n h) q ≡ blank n
  unfolding blank
  blank_by h {p} {q} room e f =
      let z : length (take n h) ≡ n = simp length-take (omega arith) in
      let p_is : p ≡ replicate n unknown = e ∙ ap (λ (k : ℕ). replicate k unknown) z in
      let lp : length p ≡ n = rw p_is (length-replicate n unknown) in
      let l : length (p ++ drop n h) - n ≡ 2 * n = simp (length-append, length-drop) (omega arith) in
      let y : length (take (length (p ++ drop n h) - n) (drop n (p ++ drop n h))) ≡ 2 * n = simp (length-take, length-drop, length-append) (omega arith) in
      let le : length (drop n h) ≤ 2 * n = simp length-drop (omega arith) in
      rw (l, take_at p (drop n h) n lp, drop_at p (drop n h) n lp, drop_of_length-le (drop n h) le, append-nil, p_is, f, y)

-- ---- words of s written over those of h, from the first on

module _ (s h : List ℕ) (i : ℕ) (long : length s ≡ length h) where
  pub over_step : {g : List ℕ} {w : ℕ} → i < length h → w ≡ get_or s i 0 → g ≡ take i s ++ drop i h → set g i w ≡ take (i + 1) s ++ drop (i + 1) h
  over_step {g} {w} lt e p =
      let ls : i < length s = omega arith in
      rw (p, e, add-one, drop-cons h i 0, take-suc s i 0)
      (set_at (take i s) (get_or h i 0) (drop (suc i) h) (get_or s i 0) i (length-take-le i s (omega arith)) ∙ sym (append_snoc (take i s) (get_or s i 0) (drop (suc i) h)))

  pub over_end : length h ≤ i → take i s ++ drop i h ≡ s
  over_end le = rw (take_all i s (omega arith), drop_of_length-le h le, append-nil)

-- ---- an opened half

pub open_length : (n root : ℕ) → length (open_half n root) ≡ 3 * n
unfolding open_half
open_length n root = put_length n (blank n) root _ ∙ blank_length n

module _ (n root : ℕ) (cr : Between 1 n root) where
  pub open_root : entry n (open_half n root) root ≡ record { dist = 0; link = 0; state = 1 }
  unfolding open_half
  open_root = put_same n (blank n) root _ cr (blank_length n)

  pub open_other : (v : ℕ) → Between 1 n v → v ≢ root → entry n (open_half n root) v ≡ record { dist = unknown; link = 0; state = 0 }
  unfolding open_half dist link state
  open_other v cv ne =
      put_other n (blank n) root _ cr (blank_length n) v cv ne
      ∙ (λ j. record {
        dist = blank_left n (v - 1) (omega arith) j;
        link = blank_right n (n + (v - 1)) (omega arith) (omega arith) j;
        state = blank_right n (2 * n + (v - 1)) (omega arith) (omega arith) j;
      })
