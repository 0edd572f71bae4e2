-- Every place that a number or a line answers is within it: at most its length. Assumes nothing.
use mathlib.Core.Path.{◌≡◌, refl, subst}
use mathlib.Core.List.{List, [], ◌∷◌}
use Prim.Native.Nat.{ℕ, zero-le, suc, ◌+◌, ◌*◌, ◌-◌, ◌≤◌, ◌<◌}
use native.Mathlib.Omega.{arith}
use borrow.Author.Tests.{ltb-true, ltb-false}
use lib.Dec.{ltb, eqb}
use lib.ListN.{length, get_or, drop, length-drop}
use Rattle.std.specs.Prelude.{Result, Ok, Err}
use Rattle.limits.proofs.Cases.{cond_both, cond_cases}
use Rattle.number.specs.Number.{good, bad, digit_of, grow, begin, number_at}
use Rattle.line.specs.Line.{strange, wrong, number_then, stop_at, field_at, agree_from, agree_of, size_word, link_word, comment_of, size_of, link_of, line_of}
use Rattle.line.specs.Good.{All, none, more}
use Rattle.number.specs.declared.Number.{Number}
use Rattle.number.specs.declared.Misplaced.{Misplaced}
use Rattle.line.specs.declared.Line.{Line}
use Rattle.line.specs.declared.Line.TheVariants.{Comment, Size, Link}
use Rattle.line.specs.declared.NoLine.{NoLine}
use Rattle.line.specs.declared.NoLine.TheVariants.{Strange, Wrong}

-- ---- a number

abbrev pub place_of : Result Number Misplaced → ℕ
place_of (Ok n) = n.next
place_of (Err m) = m.at

grow_place : (v at : ℕ) (bs : List ℕ) → place_of (grow v at bs) ≤ at + length bs
unfolding grow
grow_place v at [] = omega arith
grow_place v at (b ∷ bs) =
    let P : Result Number Misplaced → Type 0 = λ x. place_of x ≤ at + suc (length bs) in
    cond_both P (ltb 9 (digit_of b)) (omega arith)
    (cond_both P (eqb v 0) (omega arith)
    (cond_both P (ltb 4294967295 (v * 10 + digit_of b)) (omega arith) (omega (arith, grow_place (v * 10 + digit_of b) (at + 1) bs))))

begin_place : (at : ℕ) (bs : List ℕ) → place_of (begin at bs) ≤ at + length bs
unfolding begin
begin_place at [] = omega arith
begin_place at (b ∷ bs) =
    cond_both (λ x. place_of x ≤ at + suc (length bs)) (ltb 9 (digit_of b)) (omega arith) (omega (arith, grow_place (digit_of b) (at + 1) bs))

pub number_place : (s : List ℕ) (at : ℕ) → at ≤ length s → place_of (number_at s at) ≤ length s
unfolding number_at
number_place s at h = omega (arith, begin_place at (drop at s), length-drop at s)

-- ---- a line

abbrev pub places : Result Line NoLine → List ℕ
places (Ok Comment) = []
places (Ok (Size n m)) = n.place ∷ m.place ∷ []
places (Ok (Link u v w)) = u.place ∷ v.place ∷ w.place ∷ []
places (Err (Strange p)) = p ∷ []
places (Err (Wrong p)) = p ∷ []

then_cases : {A : Type 0} (P : A → Type 0) (x : Result Number Misplaced) {k : ℕ → ℕ → A} {f : ℕ → A}
    → ((v next : ℕ) → x ≡ good v next → P (k v next)) → ((p : ℕ) → x ≡ bad p → P (f p)) → P (number_then x k f)
then_cases P (Ok n) g b = g n.value n.next refl
then_cases P (Err m) g b = b m.at refl

agree_place : (i : ℕ) (word l : List ℕ) → agree_from i word l ≤ i + length l
unfolding agree_from
agree_place i [] l = omega arith
agree_place i (y ∷ ys) [] = omega arith
agree_place i (y ∷ ys) (x ∷ xs) = cond_both (λ z. z ≤ i + suc (length xs)) (eqb x y) (omega (arith, agree_place (i + 1) ys xs)) (omega arith)

module _ (l : List ℕ) where
  Within : Result Line NoLine → Type 0
  Within x = All (λ p. p ≤ length l) (places x)

  field_place : (at stop : ℕ) → at ≤ length l → place_of (field_at l at stop) ≤ length l
  unfolding field_at stop_at
  field_place at stop h =
      let P : Result Number Misplaced → Type 0 = λ x. place_of x ≤ length l in
      then_cases P (number_at l at)
      (λ v next e. cond_cases P (ltb next (length l))
      (λ t. let in-it : next < length l = ltb-true _ _ t in cond_both P (eqb (get_or l next 0) stop) (omega arith) (omega arith))
      (λ t. subst P e (number_place l at h)))
      (λ p e. subst P e (number_place l at h))

  module _ (at stop : ℕ) (h : at ≤ length l) where
    good_place : {v next : ℕ} → field_at l at stop ≡ good v next → next ≤ length l
    good_place e = subst (λ x. place_of x ≤ length l) e (field_place at stop h)

    bad_place : (p : ℕ) → field_at l at stop ≡ bad p → Within (wrong p)
    unfolding Within
    bad_place p e = more (subst (λ x. place_of x ≤ length l) e (field_place at stop h)) none

  comment_places : 0 < length l → Within (comment_of l)
  unfolding Within comment_of
  comment_places h =
      let all : length l ≤ length l = omega arith in
      let no_end : Within (wrong (length l)) = more all none in
      cond_cases Within (ltb (length l) 2) (λ t. no_end)
      (λ t. let long : 2 ≤ length l = ltb-false _ _ t in
      let one : 1 ≤ length l = omega arith in
      cond_both Within (eqb (get_or l 1 0) 10) none
      (cond_both Within (eqb (get_or l 1 0) 32) (cond_both Within (eqb (get_or l (length l - 1) 0) 10) none no_end) (more one none)))

  size_places : Within (size_of l)
  unfolding Within size_of
  size_places =
      let in-it : agree_of l size_word ≤ length l = omega (arith, agree_place 0 size_word l) in
      cond_cases Within (ltb (agree_of l size_word) 5) (λ t. more in-it none)
      (λ t. let five : 5 ≤ length l = omega (arith, in-it, ltb-false (agree_of l size_word) 5 t) in
      then_cases Within (field_at l 5 32)
      (λ n m_at e. let h = good_place 5 32 five e in
      then_cases Within (field_at l m_at 10) (λ m end f. more five (more h none)) (bad_place m_at 10 h))
      (bad_place 5 32 five))

  link_places : Within (link_of l)
  unfolding Within link_of
  link_places =
      let in-it : agree_of l link_word ≤ length l = omega (arith, agree_place 0 link_word l) in
      cond_cases Within (ltb (agree_of l link_word) 2) (λ t. more in-it none)
      (λ t. let two : 2 ≤ length l = omega (arith, in-it, ltb-false (agree_of l link_word) 2 t) in
      then_cases Within (field_at l 2 32)
      (λ u v_at e. let h = good_place 2 32 two e in
      then_cases Within (field_at l v_at 32)
      (λ v w_at f. let g = good_place v_at 32 h f in
      then_cases Within (field_at l w_at 10) (λ w end q. more two (more h (more g none))) (bad_place w_at 10 g))
      (bad_place v_at 32 h))
      (bad_place 2 32 two))

pub line_places : (l : List ℕ) → All (λ p. p ≤ length l) (places (line_of l))
unfolding Within line_of
line_places l =
    let none_of : Within l (strange 0) = more zero-le none in
    cond_cases (Within l) (ltb 0 (length l))
    (λ t. cond_both (Within l) (eqb (get_or l 0 0) 99) (comment_places l (ltb-true _ _ t))
    (cond_both (Within l) (eqb (get_or l 0 0) 112) (size_places l)
    (cond_both (Within l) (eqb (get_or l 0 0) 97) (link_places l) none_of)))
    (λ t. none_of)
