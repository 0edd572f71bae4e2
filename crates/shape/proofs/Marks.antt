-- The marks of rule 4: how many, what each is, and how a loop writes them into the words of a bench. Assumes nothing.
use mathlib.Core.Path.{◌≡◌, refl, sym, ◌∙◌, ap}
use mathlib.Core.Bool.{◌&&◌}
use mathlib.Core.List.{List, [], ◌∷◌, ◌++◌}
use Prim.Native.Nat.{ℕ, zero, suc, ◌+◌, ◌-◌, ◌≤◌, ◌<◌}
use native.Mathlib.Omega.{arith}
use native.Mathlib.Nat.{zero-add, suc-add}
use lib.Dec.{eqb}
use lib.ListN.{length, get_or, set, take, drop, length-append, length-take, length-drop}
use lib.Seq.{set-append_left}
use Rattle.limits.specs.Limits.{Between}
use Rattle.limits.proofs.Cases.{cond_both}
use Rattle.map.specs.declared.Side.TheVariants.{Forward, Backward}
use Rattle.half.specs.Half.{dist, state}
use Rattle.half.proofs.Opening.{over_step, over_end}
use Rattle.shape.specs.Bench.{Bench, marks_at, bench_words, words, parse}
use Rattle.shape.specs.Parts.{with_marks}
use Rattle.shape.specs.Rules.{within, known, mark, list_from, marks_of, remarked}
use Rattle.shape.proofs.Rounds.{Room, parse_room, words_parse, parse_words}
use Rattle.shape.proofs.Parts.{before_marks, words_marks, room_by, marks_place}

-- ---- f i, f (i + 1), .., f (i + k - 1)

pub list_length : (f : ℕ → ℕ) (i k : ℕ) → length (list_from f i k) ≡ k
unfolding list_from
list_length f i zero = refl
list_length f i (suc k) = ap suc (list_length f (suc i) k)

pub list_at : (f : ℕ → ℕ) (i k j : ℕ) → j < k → get_or (list_from f i k) j 0 ≡ f (i + j)
unfolding list_from
list_at f i zero j lt = absurd (omega arith)
list_at f i (suc k) zero lt = ap f (omega arith)
list_at f i (suc k) (suc j) lt = list_at f (suc i) k j (omega arith) ∙ ap f (omega arith)

-- ---- the marks

module _ (n stretch optimum : ℕ) (f g : List ℕ) where
  pub marks_length : length (marks_of n stretch optimum f g) ≡ n
  unfolding marks_of
  marks_length = list_length _ 1 n

  pub marks_at_lem : {v : ℕ} → Between 1 n v → get_or (marks_of n stretch optimum f g) (v - 1) 0 ≡ mark n stretch optimum f g v
  unfolding marks_of
  marks_at_lem {v} i = list_at _ 1 n (v - 1) (omega arith) ∙ ap (mark n stretch optimum f g) (omega arith)

  mark_le : (v : ℕ) → mark n stretch optimum f g v ≤ 1
  unfolding mark
  mark_le v =
      cond_both (λ (x : ℕ). x ≤ 1)
      (known optimum && (eqb (state n f v) 2 && (eqb (state n g v) 2 && within stretch optimum (dist f v) (dist g v)))) {a = 1} {b = 0}
      (omega arith) (omega arith)

  pub marks_le : {v : ℕ} → Between 1 n v → get_or (marks_of n stretch optimum f g) (v - 1) 0 ≤ 1
  marks_le {v} i = rw (marks_at_lem i) (mark_le v)

-- ---- writing them

set_after : (xs ys : List ℕ) (i a : ℕ) → set (xs ++ ys) (length xs + i) a ≡ xs ++ set ys i a
set_after [] ys i a = rw zero-add
set_after (x ∷ xs) ys i a = rw suc-add (ap (λ (l : List ℕ). x ∷ l) (set_after xs ys i a))

-- one mark is written
words_mark : (n : ℕ) (b : Bench) → Room n b → (i a : ℕ) → i < n → set (words b) (marks_at n + i) a ≡ words (with_marks (set b.marks i a) b)
words_mark n b room i a lt =
    rw (words_marks b.marks b, words_marks (set b.marks i a) b, ← marks_place room)
    (set_after (before_marks b) (b.marks ++ b.past) i a ∙ ap (λ (l : List ℕ). before_marks b ++ l) (set-append_left b.marks b.past i a (omega (arith, room.marks))))

-- ---- the loop that writes them

module _ (n : ℕ) (x : List ℕ) where
  -- the marks of rule 4 on the bench of these words
  abbrev new : List ℕ
  new = marks_of n (parse n x).stretch (parse n x).optimum (parse n x).forward (parse n x).backward

  -- once i of them are written
  abbrev pub so_far : ℕ → Bench
  so_far i = with_marks (take i new ++ drop i (parse n x).marks) (parse n x)

  module _ (long : bench_words n ≤ length x) where
    marks_long : length new ≡ length (parse n x).marks
    marks_long = marks_length n _ _ _ _ ∙ sym (parse_room n x long).marks

    so_far_room : (i : ℕ) → i ≤ n → Room n (so_far i)
    so_far_room i le =
        let r = parse_room n x long in
        room_by (r.halves Forward) (r.halves Backward) (simp (length-append, length-take, length-drop) (omega (arith, marks_long, r.marks)))

    pub marks_start : x ≡ words (so_far 0)
    marks_start = sym (words_parse n x long)

    -- the step of a loop that has written the marks before v
    pub marks_next : (j v : ℕ) {y : List ℕ} {i a : ℕ} → j ≡ v → Between 1 n v → i ≡ marks_at n + (v - 1) → y ≡ words (so_far (v - 1))
        → a ≡ mark n (parse n x).stretch (parse n x).optimum (parse n y).forward (parse n y).backward v
        → set y i a ≡ words (so_far j)
    marks_next j v {y} {i} {a} jv in_n place p r =
        let room = so_far_room (v - 1) (omega arith) in
        let back : parse n y ≡ so_far (v - 1) = ap (parse n) p ∙ parse_words n (so_far (v - 1)) room in
        let w : a ≡ get_or new (v - 1) 0 = (rw back at r) ∙ sym (marks_at_lem n _ _ _ _ in_n) in
        let e : v - 1 + 1 ≡ j = omega arith in
        rw (p, place) (words_mark n (so_far (v - 1)) room (v - 1) a (omega arith))
        ∙ ap (λ (l : List ℕ). words (with_marks l (parse n x)))
        (over_step new (parse n x).marks (v - 1) marks_long (omega (arith, (parse_room n x long).marks)) w refl
        ∙ ap (λ (k : ℕ). take k new ++ drop k (parse n x).marks) e)

    pub marks_end : (j : ℕ) → n ≤ j → get_or x 0 0 ≡ n → words (so_far j) ≡ words (remarked (parse n x))
    unfolding parse
    marks_end j le same =
        ap (λ (l : List ℕ). words (with_marks l (parse n x)))
        (over_end new (parse n x).marks j marks_long (omega (arith, (parse_room n x long).marks))
        ∙ ap (λ (k : ℕ). marks_of k (parse n x).stretch (parse n x).optimum (parse n x).forward (parse n x).backward) (sym same))
