-- The parts of a bench in its words: what the words are once a lent part is back, or a word is written by its index. Assumes nothing.
use mathlib.Core.Path.{◌≡◌, refl, sym, ◌∙◌, ap}
use mathlib.Core.List.{List, [], ◌∷◌, ◌++◌, append_assoc}
use Prim.Native.Nat.{ℕ, ◌+◌, ◌*◌, ◌-◌, ◌≤◌}
use native.Mathlib.Omega.{arith}
use lib.ListN.{length, set, take, drop, length-append}
use lib.Seq.{drop-drop, drop_at, take_at}
use Rattle.map.specs.declared.Side.{Side}
use Rattle.map.specs.declared.Side.TheVariants.{Forward, Backward}
use Rattle.shape.specs.Bench.{Bench, half, half_at, marks_at, bench_words, words, parse}
use Rattle.shape.specs.Parts.{with_head, with_optimum, with_half, with_marks}
use Rattle.shape.proofs.Rounds.{Room, parse_room, words_parse, parse_words}

-- ---- a list h ++ (q ++ r) with p in the place of q

part_put : (a k : ℕ) (h q r p : List ℕ) → length h ≡ a → length q ≡ k → take a (h ++ (q ++ r)) ++ (p ++ drop (a + k) (h ++ (q ++ r))) ≡ h ++ (p ++ r)
part_put a k h q r p e f = rw (← drop-drop, drop_at h (q ++ r) a e, drop_at q r k f, take_at h (q ++ r) a e)

-- ---- the words before a half and after it, and before the marks

abbrev head : Bench → List ℕ
head b = b.n ∷ b.m ∷ b.start ∷ b.target ∷ b.stretch ∷ b.optimum ∷ []

abbrev before : Side → Bench → List ℕ
before Forward b = head b
before Backward b = head b ++ b.forward

abbrev after : Side → Bench → List ℕ
after Forward b = b.backward ++ (b.marks ++ b.past)
after Backward b = b.marks ++ b.past

words_half : (s : Side) (b : Bench) → words b ≡ before s b ++ (half s b ++ after s b)
unfolding words
words_half Forward b = refl
words_half Backward b = refl

words_with : (s : Side) (p : List ℕ) (b : Bench) → words (with_half s p b) ≡ before s b ++ (p ++ after s b)
unfolding words
words_with Forward p b = refl
words_with Backward p b = refl

abbrev pub before_marks : Bench → List ℕ
before_marks b = head b ++ (b.forward ++ b.backward)

pub words_marks : (marks : List ℕ) (b : Bench) → words (with_marks marks b) ≡ before_marks b ++ (marks ++ b.past)
unfolding words
words_marks marks b = rw (append_assoc b.forward b.backward (marks ++ b.past))

-- ---- a bench with other parts

pub room_by : {n : ℕ} {b : Bench} → length b.forward ≡ 3 * n → length b.backward ≡ 3 * n → length b.marks ≡ n → Room n b
room_by f g k = record { halves = elim [ Forward ↦ f | Backward ↦ g ]; marks = k }

pub half_room : {n : ℕ} {b : Bench} → Room n b → (s : Side) (p : List ℕ) → length p ≡ 3 * n → Room n (with_half s p b)
half_room r Forward p e = room_by e (r.halves Backward) r.marks
half_room r Backward p e = room_by (r.halves Forward) e r.marks

module _ {n : ℕ} {b : Bench} (r : Room n b) where
  pub parsed : {x : List ℕ} → x ≡ words b → parse n x ≡ b
  parsed e = ap (parse n) e ∙ parse_words n b r

  half_place : (s : Side) → length (before s b) ≡ half_at s n
  half_place Forward = refl
  half_place Backward = omega (arith, r.halves Forward)

  pub marks_place : length (before_marks b) ≡ marks_at n
  marks_place = simp length-append (omega (arith, r.halves Forward, r.halves Backward))

  half_put : (s : Side) (p : List ℕ) → take (half_at s n) (words b) ++ (p ++ drop (half_at s n + 3 * n) (words b)) ≡ words (with_half s p b)
  half_put s p = rw (words_half s b) (part_put (half_at s n) (3 * n) (before s b) (half s b) (after s b) p (half_place s) (r.halves s) ∙ sym (words_with s p b))

  marks_put : (p : List ℕ) → take (marks_at n) (words b) ++ (p ++ drop (marks_at n + n) (words b)) ≡ words (with_marks p b)
  marks_put p = rw (words_marks b.marks b) (part_put (marks_at n) n (before_marks b) b.marks b.past p marks_place r.marks ∙ sym (words_marks p b))

module _ (n : ℕ) (x : List ℕ) (long : bench_words n ≤ length x) where
  -- ---- words written by their index

  pub optimum_written : (o : ℕ) → set x 5 o ≡ words (with_optimum o (parse n x))
  unfolding words
  optimum_written o = ap (λ (y : List ℕ). set y 5 o) (sym (words_parse n x long))

  pub head_written : (a b c d e f : ℕ) → set (set (set (set (set (set x 0 a) 1 b) 2 c) 3 d) 4 e) 5 f ≡ words (with_head a b c d e f (parse n x))
  unfolding words
  head_written a b c d e f = ap (λ (y : List ℕ). set (set (set (set (set (set y 0 a) 1 b) 2 c) 3 d) 4 e) 5 f) (sym (words_parse n x long))

  -- ---- `&mut x[a..a + k]` back, holding p

  part_back : (a k : ℕ) (p : List ℕ) → take a x ++ (p ++ drop (a + k - a) (drop a x)) ≡ take a (words (parse n x)) ++ (p ++ drop (a + k) (words (parse n x)))
  part_back a k p = let e : a + k - a ≡ k = omega arith in rw (e, drop-drop, words_parse n x long)

  pub half_back : (s : Side) {a : ℕ} → a ≡ half_at s n → {p q : List ℕ} → p ≡ q → take a x ++ (p ++ drop (a + 3 * n - a) (drop a x)) ≡ words (with_half s q (parse n x))
  half_back s {a} e {p} f = part_back a (3 * n) p ∙ rw (e, f) (half_put (parse_room n x long) s _)

  pub marks_back : {a : ℕ} → a ≡ marks_at n → {p q : List ℕ} → p ≡ q → take a x ++ (p ++ drop (a + n - a) (drop a x)) ≡ words (with_marks q (parse n x))
  marks_back {a} e {p} f = part_back a n p ∙ rw (e, f) (marks_put (parse_room n x long) _)
