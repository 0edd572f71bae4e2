-- The words of a bench and its parts, there and back. Assumes nothing.
use mathlib.Core.Path.{◌≡◌, sym, ◌∙◌, ap}
use mathlib.Core.List.{List, ◌∷◌, ◌++◌}
use Prim.Native.Nat.{ℕ, suc, ◌+◌, ◌*◌, ◌-◌, ◌≤◌, ◌<◌}
use native.Mathlib.Omega.{arith}
use lib.ListN.{length, get_or, take, drop, take-append-drop, length-take, length-drop}
use lib.Seq.{take_at, drop_at, drop-drop, drop-cons}
use Rattle.map.specs.declared.Side.{Side}
use Rattle.map.specs.declared.Side.TheVariants.{Forward, Backward}
use Rattle.shape.specs.Bench.{Bench, half, half_at, marks_at, bench_words, words, parse, WellShaped}

-- the halves and the marks are as long as n crossings need
pub record Room (n : ℕ) (b : Bench) : Type 0 where
  pub halves : (s : Side) → length (half s b) ≡ 3 * n
  pub marks : length b.marks ≡ n

pub shaped_room : {n m : ℕ} {b : Bench} → WellShaped n m b → Room n b
shaped_room w = record { halves = λ s. (w.halves s).room; marks = w.marks_room }

-- what a function is lent of the words
module _ (n : ℕ) (x : List ℕ) {a : ℕ} where
  pub half_part : (s : Side) → a ≡ half_at s n → take (a + 3 * n - a) (drop a x) ≡ half s (parse n x)
  unfolding parse
  half_part Forward p = let k : a + 3 * n - a ≡ 3 * n = omega arith in rw (k, p)
  half_part Backward p = let k : a + 3 * n - a ≡ 3 * n = omega arith in rw (k, p)

  pub marks_part : {e : ℕ} → a ≡ marks_at n → e ≡ bench_words n → take (e - a) (drop a x) ≡ (parse n x).marks
  unfolding parse
  marks_part {e} p q = let k : e - a ≡ n = omega arith in rw (k, p)

module _ (n : ℕ) (x : List ℕ) (long : bench_words n ≤ length x) where
  pub parse_room : Room n (parse n x)
  unfolding parse
  parse_room = record { halves = halves; marks = simp (length-take, length-drop) (omega arith) }
    where
      halves : (s : Side) → length (half s (parse n x)) ≡ 3 * n
      halves Forward = simp (length-take, length-drop) (omega arith)
      halves Backward = simp (length-take, length-drop) (omega arith)

  -- what follows the first six words, part by part
  parts : drop (half_at Forward n) x ≡ (parse n x).forward ++ ((parse n x).backward ++ ((parse n x).marks ++ (parse n x).past))
  unfolding parse
  parts =
      cut (half_at Forward n) (3 * n) ∙ ap (λ (l : List ℕ). take (3 * n) (drop (half_at Forward n) x) ++ l)
      (cut (half_at Backward n) (3 * n) ∙ ap (λ (l : List ℕ). take (3 * n) (drop (half_at Backward n) x) ++ l)
      (to (half_at Backward n + 3 * n) (marks_at n) (omega arith)
      ∙ cut (marks_at n) n
      ∙ ap (λ (l : List ℕ). take n (drop (marks_at n) x) ++ l) (to (marks_at n + n) (bench_words n) (omega arith))))
    where
      cut : (a k : ℕ) → drop a x ≡ take k (drop a x) ++ drop (a + k) x
      cut a k = sym (take-append-drop k (drop a x)) ∙ ap (λ (l : List ℕ). take k (drop a x) ++ l) (drop-drop k a x)

      to : (a b : ℕ) → a ≡ b → drop a x ≡ drop b x
      to a b e = ap (λ (k : ℕ). drop k x) e

  pub words_parse : words (parse n x) ≡ x
  unfolding words parse
  words_parse =
      rw (← parts, back 5 (omega arith), back 4 (omega arith), back 3 (omega arith), back 2 (omega arith), back 1 (omega arith), back 0 (omega arith))
    where
      back : (j : ℕ) → j < length x → get_or x j 0 ∷ drop (suc j) x ≡ drop j x
      back j lt = sym (drop-cons x j 0 lt)

module _ (n : ℕ) (b : Bench) (room : Room n b) where
  -- the words from the backward half on, and from the marks on
  from_backward : drop (half_at Backward n) (words b) ≡ b.backward ++ (b.marks ++ b.past)
  unfolding words
  from_backward = sym (drop-drop (3 * n) (half_at Forward n) (words b)) ∙ drop_at b.forward _ (3 * n) (room.halves Forward)

  from_marks : drop (marks_at n) (words b) ≡ b.marks ++ b.past
  from_marks =
      let e : marks_at n ≡ half_at Backward n + 3 * n = omega arith in
      ap (λ (k : ℕ). drop k (words b)) e
      ∙ sym (drop-drop (3 * n) (half_at Backward n) (words b))
      ∙ rw from_backward (drop_at b.backward _ (3 * n) (room.halves Backward))

  from_past : drop (bench_words n) (words b) ≡ b.past
  from_past =
      let e : bench_words n ≡ marks_at n + n = omega arith in
      ap (λ (k : ℕ). drop k (words b)) e
      ∙ sym (drop-drop n (marks_at n) (words b))
      ∙ rw from_marks (drop_at b.marks _ n room.marks)

  pub parse_words : parse n (words b) ≡ b
  unfolding parse words
  parse_words =
      λ j. record {
        n = b.n;
        m = b.m;
        start = b.start;
        target = b.target;
        stretch = b.stretch;
        optimum = b.optimum;
        forward = take_at b.forward (b.backward ++ (b.marks ++ b.past)) (3 * n) (room.halves Forward) j;
        backward = (ap (take (3 * n)) from_backward ∙ take_at b.backward (b.marks ++ b.past) (3 * n) (room.halves Backward)) j;
        marks = (ap (take n) from_marks ∙ take_at b.marks b.past n room.marks) j;
        past = from_past j;
      }
