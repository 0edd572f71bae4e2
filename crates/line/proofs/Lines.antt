-- Laws of the lines of a text: one line after another, the place where each ends, and where LF stands in them. Assumes nothing.
use mathlib.Core.Path.{◌≡◌, refl, sym, ap, ap₂, ◌∙◌}
use mathlib.Core.Bool.{Bool, true, false, cond}
use mathlib.Core.List.{List, [], ◌∷◌, ◌++◌, append_assoc}
use Prim.Native.Nat.{ℕ, zero, suc, ◌+◌, ◌-◌, ◌≤◌, ◌<◌}
use native.Mathlib.Numerals.{add-one}
use native.Mathlib.Omega.{arith}
use borrow.Author.Tests.{eq-eqb, ne_eqb, eqb-false}
use lib.Dec.{eqb}
use lib.ListN.{length, get_or, take, drop, length-drop, drop_of_length-le}
use lib.Seq.{drop-cons, drop-drop, take-append_seam, drop-append_seam}
use Rattle.std.specs.Prelude.{min}
use Rattle.std.specs.List.{IsFirstMatchOrLen}
use Rattle.line.specs.Good.{All, none, more, NoLf}
use Rattle.line.specs.Lines.{onto, lines_of, first_line, line_end}

-- ---- the first line of some bytes

first_cut : (b : ℕ) (bs : List ℕ) → b ≡ 10 → first_line (b ∷ bs) ≡ b ∷ []
unfolding first_line
first_cut b bs e = rw (eq-eqb b 10 e)

first_more : (b : ℕ) (bs : List ℕ) → (b ≡ 10 → ⊥) → first_line (b ∷ bs) ≡ b ∷ first_line bs
unfolding first_line
first_more b bs e = rw (ne_eqb b 10 e)

-- it begins the bytes, and has one if they do
pub record FirstOf (s l : List ℕ) : Type 0 where
  pub begins : take (length l) s ≡ l
  pub within : length l ≤ length s
  pub some : 0 < length s → 0 < length l

pub first_of : (s : List ℕ) → FirstOf s (first_line s)
unfolding first_line
first_of [] = record { begins = refl; within = omega arith; some = λ h. h }
first_of (b ∷ bs) = go (eqb b 10) (first_of bs)
  where
    go : (t : Bool) → FirstOf bs (first_line bs) → FirstOf (b ∷ bs) (cond t (b ∷ []) (b ∷ first_line bs))
    go true r = record { begins = refl; within = omega arith; some = λ h. omega arith }
    go false r = record { begins = ap (λ (l : List ℕ). b ∷ l) r.begins; within = omega (arith, r.within); some = λ h. omega arith }

-- the lines of some bytes are their first line, and the lines of what is left
lines_first : (b : ℕ) (bs : List ℕ) → lines_of (b ∷ bs) ≡ first_line (b ∷ bs) ∷ lines_of (drop (length (first_line (b ∷ bs))) (b ∷ bs))
unfolding lines_of first_line onto
lines_first b [] = go (eqb b 10)
  where
    go : (t : Bool) → cond t ((b ∷ []) ∷ []) ((b ∷ []) ∷ []) ≡ cond t (b ∷ []) (b ∷ []) ∷ lines_of (drop (length (cond t (b ∷ []) (b ∷ []))) (b ∷ []))
    go true = refl
    go false = refl
lines_first b (x ∷ xs) = go (eqb b 10) (lines_first x xs)
  where
    go : (t : Bool) → lines_of (x ∷ xs) ≡ first_line (x ∷ xs) ∷ lines_of (drop (length (first_line (x ∷ xs))) (x ∷ xs))
        → cond t ((b ∷ []) ∷ lines_of (x ∷ xs)) (onto b (lines_of (x ∷ xs)))
        ≡ cond t (b ∷ []) (b ∷ first_line (x ∷ xs)) ∷ lines_of (drop (length (cond t (b ∷ []) (b ∷ first_line (x ∷ xs)))) (b ∷ x ∷ xs))
    go true e = refl
    go false e = ap (onto b) e

-- ---- the bytes up to the first LF and with it, as `split_inclusive` cuts them off

first_size : (s : List ℕ) (i : ℕ) → IsFirstMatchOrLen (λ b. eqb b 10) s i → length (first_line s) ≡ min (i + 1) (length s)
unfolding first_line
first_size [] i h = omega arith
first_size (b ∷ bs) zero h =
    let e : eqb b 10 ≡ true = h.1 (omega arith) 0 in
    rw e (omega arith)
first_size (b ∷ bs) (suc i) h =
    let e : eqb b 10 ≡ false = h.0 0 0 (omega arith) (omega arith) in
    let rest = first_size bs i (λ k d low high. h.0 (suc k) d (omega arith) (omega arith), λ g. h.1 (omega arith)) in
    rw e (omega (arith, rest))

-- what its `next` ensures, of a closure that asks for LF
pub cut_off : (Q R : (ℕ → Bool) → Type 0) (s x t : List ℕ)
    → (s ≡ x ++ t) × ((i : ℕ) × (length x ≡ min (i + 1) (length s)) × ((p : ℕ → Bool) → Q p → R p × IsFirstMatchOrLen p s i)) × (0 < length s)
    → Q (λ b. eqb b 10) → lines_of s ≡ x ∷ lines_of t
cut_off Q R [] x t step q = absurd (omega (arith, step.2))
cut_off Q R (b ∷ bs) x t step q =
    let size : length (first_line (b ∷ bs)) ≡ length x = first_size (b ∷ bs) step.1.0 (step.1.2 (λ b. eqb b 10) q).1 ∙ sym step.1.1 in
    let first : first_line (b ∷ bs) ≡ x = sym (first_of (b ∷ bs)).begins ∙ ap (λ (n : ℕ). take n (b ∷ bs)) size ∙ ap (take (length x)) step.0 ∙ take-append_seam x t in
    let rest : drop (length (first_line (b ∷ bs))) (b ∷ bs) ≡ t = ap (λ (n : ℕ). drop n (b ∷ bs)) size ∙ ap (drop (length x)) step.0 ∙ drop-append_seam x t in
    lines_first b bs ∙ ap₂ (λ (l r : List ℕ). l ∷ lines_of r) first rest

-- ---- the place where a line ends

module _ (s : List ℕ) {i : ℕ} where
  pub end_cut : i < length s → get_or s i 0 ≡ 10 → line_end s i ≡ i + 1
  unfolding line_end
  end_cut h e = rw (drop-cons s i 0, first_cut (get_or s i 0) (drop (suc i) s) e)

  pub end_more : i < length s → (get_or s i 0 ≡ 10 → ⊥) → line_end s i ≡ line_end s (i + 1)
  unfolding line_end
  end_more h e = rw (drop-cons s i 0, first_more (get_or s i 0) (drop (suc i) s) e, add-one i) (omega arith)

  pub end_out : length s ≤ i → line_end s i ≡ i
  unfolding line_end first_line
  end_out h = rw (drop_of_length-le s h) (omega arith)

-- ---- the lines from a place on: the line up to its end, and those from there on

pub record Ends (s : List ℕ) (at e : ℕ) : Type 0 where
  pub after : at < e
  pub within : e ≤ length s
  pub first : lines_of (drop at s) ≡ take (e - at) (drop at s) ∷ lines_of (drop e s)

pub line_ends : (s : List ℕ) (at e : ℕ) → at < length s → e ≡ line_end s at → Ends s at e
unfolding line_end
line_ends s at e h q =
    let r = first_of (drop at s) in
    let k : length (drop at s) ≡ length s - at = length-drop at s in
    let z : 0 < length (drop at s) = omega arith in
    let size : e - at ≡ length (first_line (drop at s)) = omega (arith, q) in
    let lines : lines_of (drop at s) ≡ first_line (drop at s) ∷ lines_of (drop (length (first_line (drop at s))) (drop at s)) =
    rw (drop-cons s at 0) (lines_first (get_or s at 0) (drop (suc at) s)) in
    record {
      after = omega (arith, q, r.some z);
      within = omega (arith, q, r.within);
      first = lines ∙ rw (size, r.begins, drop-drop, ← q);
    }

-- ---- the lines of a text joined, and where LF stands in them

unfoldable pub joined : List (List ℕ) → List ℕ
joined [] = []
joined (l ∷ ls) = l ++ joined ls

onto_joined : (b : ℕ) (ls : List (List ℕ)) → joined (onto b ls) ≡ b ∷ joined ls
unfolding joined onto
onto_joined b [] = refl
onto_joined b (l ∷ ls) = refl

pub lines_joined : (s : List ℕ) → joined (lines_of s) ≡ s
unfolding lines_of joined
lines_joined [] = refl
lines_joined (b ∷ bs) = go (eqb b 10) (lines_joined bs)
  where
    go : (t : Bool) → joined (lines_of bs) ≡ bs → joined (cond t ((b ∷ []) ∷ lines_of bs) (onto b (lines_of bs))) ≡ b ∷ bs
    go true e = ap (λ (l : List ℕ). b ∷ l) e
    go false e = onto_joined b (lines_of bs) ∙ ap (λ (l : List ℕ). b ∷ l) e

-- LF stands nowhere but at the end
abbrev pub Cut : List ℕ → Type 0
Cut l = (i : ℕ) → suc i < length l → get_or l i 0 ≡ 10 → ⊥

cut_more : (b : ℕ) (l : List ℕ) → NoLf b → Cut l → Cut (b ∷ l)
cut_more b l n h zero g = n
cut_more b l n h (suc i) g = h i (omega arith)

cut_one : (b : ℕ) → Cut (b ∷ [])
cut_one b i g = absurd (omega arith)

onto_cut : (b : ℕ) (ls : List (List ℕ)) → NoLf b → All Cut ls → All Cut (onto b ls)
unfolding onto
onto_cut b [] n none = more (cut_one b) none
onto_cut b (l ∷ ls) n (more h hs) = more (cut_more b l n h) hs

pub lines_cut : (s : List ℕ) → All Cut (lines_of s)
unfolding lines_of
lines_cut [] = none
lines_cut (b ∷ bs) = go (eqb b 10) refl (lines_cut bs)
  where
    go : (t : Bool) → eqb b 10 ≡ t → All Cut (lines_of bs) → All Cut (cond t ((b ∷ []) ∷ lines_of bs) (onto b (lines_of bs)))
    go true e h = more (cut_one b) h
    go false e h = onto_cut b (lines_of bs) (eqb-false b 10 e) h

-- a line with its LF and no other
pub record Whole (l : List ℕ) : Type 0 where
  pub xs : List ℕ
  pub plain : All NoLf xs
  pub is : l ≡ xs ++ 10 ∷ []

lines_line : (xs rest : List ℕ) → All NoLf xs → lines_of (xs ++ 10 ∷ rest) ≡ (xs ++ 10 ∷ []) ∷ lines_of rest
unfolding lines_of onto
lines_line [] rest none = refl
lines_line (x ∷ xs) rest (more n h) = rw (ne_eqb x 10 n, lines_line xs rest h)

pub lines_whole : {l : List ℕ} → Whole l → (s : List ℕ) → lines_of (l ++ s) ≡ l ∷ lines_of s
lines_whole w s = rw (w.is, append_assoc w.xs (10 ∷ []) s) (lines_line w.xs s w.plain)
