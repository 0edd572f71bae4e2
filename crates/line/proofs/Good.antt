-- A line is read as a comment, sizes or a link exactly where it is a good line of that kind. Assumes nothing.
use mathlib.Core.Path.{◌≡◌, refl, ap, ap₂, subst, ◌∙◌}
use mathlib.Core.Bool.{Bool, true, false, cond, not}
use mathlib.Core.List.{List, [], ◌∷◌, ◌++◌, append_assoc}
use Prim.Native.Nat.{ℕ, suc, ◌+◌, ◌-◌, ◌≤◌, ◌<◌}
use native.Mathlib.Decide.{dec_le}
use native.Mathlib.Omega.{arith}
use borrow.Author.Tests.{le-ltb, lt-ltb, eq-eqb, ltb-false, eqb-true}
use lib.Dec.{T, T_not, ltb, eqb, lit<}
use lib.ListN.{length, get_or, drop, length-append, drop_of_length-le}
use lib.Seq.{get_or-append_seam}
use Rattle.std.specs.Prelude.{Result, Ok, Err}
use Rattle.limits.specs.Limits.{Between}
use Rattle.limits.proofs.Cases.{cond_both, cond_then, cond_else}
use Rattle.number.specs.Number.{good, digit_of}
use Rattle.line.specs.Line.{as_comment, as_size, as_link, strange, wrong, number_then, field_at, field_of, agree_from, agree_of, size_word, link_word, comment_of, size_of, link_of, line_of}
use Rattle.line.specs.Good.{All, none, more, NoLf, Spells, CommentLine, alone, spaced, SizeLine, LinkLine}
use Rattle.line.proofs.Lines.{Cut, Whole}
use Rattle.line.proofs.Spelling.{FieldAt, field_spelled, spelled_field, behind_field}
use Rattle.number.specs.declared.Number.{Number}
use Rattle.number.specs.declared.Misplaced.{Misplaced}
use Rattle.line.specs.declared.Field.{Field}
use Rattle.line.specs.declared.Line.{Line}
use Rattle.line.specs.declared.NoLine.{NoLine}

-- ---- the word that a line begins with

agree_word : (i : ℕ) (word l : List ℕ) → i + length word ≤ agree_from i word l → l ≡ word ++ drop (length word) l
unfolding agree_from
agree_word i [] l h = refl
agree_word i (y ∷ ys) [] h = absurd (omega arith)
agree_word i (y ∷ ys) (x ∷ xs) h = go (eqb x y) refl (agree_word (i + 1) ys xs) h
  where
    go : (t : Bool) → eqb x y ≡ t → (i + 1 + length ys ≤ agree_from (i + 1) ys xs → xs ≡ ys ++ drop (length ys) xs)
        → i + suc (length ys) ≤ cond t (agree_from (i + 1) ys xs) i → x ∷ xs ≡ y ∷ (ys ++ drop (length ys) xs)
    go true e rest h = ap₂ (λ (z : ℕ) (l : List ℕ). z ∷ l) (eqb-true _ _ e) (rest (omega (arith, h)))
    go false e rest h = absurd (omega arith)

word_agree : (i : ℕ) (word rest : List ℕ) → agree_from i word (word ++ rest) ≡ i + length word
unfolding agree_from
word_agree i [] rest = omega arith
word_agree i (y ∷ ys) rest = rw (eq-eqb y y refl) (word_agree (i + 1) ys rest ∙ omega arith)

-- ---- what a number must have been

record Then {A : Type 0} (x : Result Number Misplaced) (k : ℕ → ℕ → A) (r : A) : Type 0 where
  v : ℕ
  next : ℕ
  is : x ≡ good v next
  gives : k v next ≡ r

then_good : {A : Type 0} (x : Result Number Misplaced) (k : ℕ → ℕ → A) (f : ℕ → A) (r : A) → number_then x k f ≡ r → ((p : ℕ) → f p ≡ r → ⊥) → Then x k r
then_good (Ok n) k f r e bads = record { v = n.value; next = n.next; is = refl; gives = e }
then_good (Err m) k f r e bads = absurd (bads m.at e)

-- a field that LF ends is the last
last_field : (l : List ℕ) {at v next : ℕ} → Cut l → FieldAt l at 10 v next → drop next l ≡ []
last_field l {at} {v} {next} cut f = go (dec_le (length l) next)
  where
    go : Dec (length l ≤ next) → drop next l ≡ []
    go (yes h) = drop_of_length-le l h
    go (no h) = absurd (cut (at + length f.ds) (omega (arith, f.place)) f.byte)

-- ---- sizes

size_fields : {a b n m : Field} → as_size a b ≡ as_size n m → (a.value ≡ n.value) × (b.value ≡ m.value)
size_fields e = (cc, cc)

size_line : (l : List ℕ) {n m : Field} → Cut l → size_of l ≡ as_size n m → SizeLine l n.value m.value
unfolding size_of
size_line l {n} {m} cut e =
    let a = cond_else (ltb (agree_of l size_word) 5) e (λ q. cc) in
    let x = then_good (field_at l 5 32) _ wrong (as_size n m) a.1 (λ p q. cc) in
    let y = then_good (field_at l x.next 10) _ wrong (as_size n m) x.gives (λ p q. cc) in
    let f = field_spelled l 5 32 x.v x.next x.is in
    let g = field_spelled l x.next 10 y.v y.next y.is in
    let values = size_fields y.gives in
    record {
      ns = f.ds;
      ms = g.ds;
      spells_n = subst (Spells f.ds) values.0 f.spells;
      spells_m = subst (Spells g.ds) values.1 g.spells;
      bytes = cc (agree_word 0 size_word l (ltb-false _ _ a.0), f.split, g.split, last_field l cut g);
    }

-- the place of M in a line of sizes
pub size_place : {l : List ℕ} {n m : ℕ} → SizeLine l n m → ℕ
size_place s = 5 + length s.ns + 1

line_size : {l : List ℕ} {n m : ℕ} (s : SizeLine l n m) → size_of l ≡ as_size (field_of n 5) (field_of m (size_place s))
unfolding size_of size_place digit_of
line_size {l} {n} {m} s =
    let rest = s.ms ++ 10 ∷ [] in
    let word : agree_of l size_word ≡ 5 = rw s.bytes (word_agree 0 size_word (s.ns ++ 32 ∷ rest)) in
    let tail : drop 5 l ≡ s.ns ++ 32 ∷ rest = rw s.bytes in
    let first = spelled_field l 5 32 n s.ns rest tail s.spells_n (lit< tt) in
    let behind = behind_field l 5 32 n s.ns rest tail s.spells_n (lit< tt) in
    let second = spelled_field l (5 + length s.ns + 1) 10 m s.ms [] behind s.spells_m (lit< tt) in
    rw (word, first, second)

-- ---- a link

link_fields : {a b c u v w : Field} → as_link a b c ≡ as_link u v w → (a.value ≡ u.value) × (b.value ≡ v.value) × (c.value ≡ w.value)
link_fields e = (cc, cc, cc)

link_line : (l : List ℕ) {u v w : Field} → Cut l → link_of l ≡ as_link u v w → LinkLine l u.value v.value w.value
unfolding link_of
link_line l {u} {v} {w} cut e =
    let a = cond_else (ltb (agree_of l link_word) 2) e (λ q. cc) in
    let x = then_good (field_at l 2 32) _ wrong (as_link u v w) a.1 (λ p q. cc) in
    let y = then_good (field_at l x.next 32) _ wrong (as_link u v w) x.gives (λ p q. cc) in
    let z = then_good (field_at l y.next 10) _ wrong (as_link u v w) y.gives (λ p q. cc) in
    let f = field_spelled l 2 32 x.v x.next x.is in
    let g = field_spelled l x.next 32 y.v y.next y.is in
    let h = field_spelled l y.next 10 z.v z.next z.is in
    let values = link_fields z.gives in
    record {
      us = f.ds;
      vs = g.ds;
      ws = h.ds;
      spells_u = subst (Spells f.ds) values.0 f.spells;
      spells_v = subst (Spells g.ds) values.1 g.spells;
      spells_w = subst (Spells h.ds) values.2 h.spells;
      bytes = cc (agree_word 0 link_word l (ltb-false _ _ a.0), f.split, g.split, h.split, last_field l cut h);
    }

-- the places of V and W in a line of a link
pub second_place : {l : List ℕ} {u v w : ℕ} → LinkLine l u v w → ℕ
second_place s = 2 + length s.us + 1

pub third_place : {l : List ℕ} {u v w : ℕ} → LinkLine l u v w → ℕ
third_place s = 2 + length s.us + 1 + length s.vs + 1

line_link : {l : List ℕ} {u v w : ℕ} (s : LinkLine l u v w) → link_of l ≡ as_link (field_of u 2) (field_of v (second_place s)) (field_of w (third_place s))
unfolding link_of second_place third_place digit_of
line_link {l} {u} {v} {w} s =
    let last = s.ws ++ 10 ∷ [] in
    let rest = s.vs ++ 32 ∷ last in
    let at = 2 + length s.us + 1 in
    let word : agree_of l link_word ≡ 2 = rw s.bytes (word_agree 0 link_word (s.us ++ 32 ∷ rest)) in
    let tail : drop 2 l ≡ s.us ++ 32 ∷ rest = rw s.bytes in
    let first = spelled_field l 2 32 u s.us rest tail s.spells_u (lit< tt) in
    let behind = behind_field l 2 32 u s.us rest tail s.spells_u (lit< tt) in
    let second = spelled_field l at 32 v s.vs last behind s.spells_v (lit< tt) in
    let behind-2 = behind_field l at 32 v s.vs last behind s.spells_v (lit< tt) in
    let third = spelled_field l (at + length s.vs + 1) 10 w s.ws [] behind-2 s.spells_w (lit< tt) in
    rw (word, first, second, third)

-- ---- a comment

-- bytes that LF ends, and that have no other
ended : (x : ℕ) (xs : List ℕ) → Cut (x ∷ xs) → get_or (x ∷ xs) (length xs) 0 ≡ 10 → Whole (x ∷ xs)
ended x [] cut e = record { xs = []; plain = none; is = ap (λ (z : ℕ). z ∷ []) e }
ended x (y ∷ ys) cut e =
    let r = ended y ys (λ i g. cut (suc i) (omega arith)) e in
    record { xs = x ∷ r.xs; plain = more (cut 0 (omega arith)) r.plain; is = ap (λ (z : List ℕ). x ∷ z) r.is }

comment_line : (l : List ℕ) → Cut l → get_or l 0 0 ≡ 99 → comment_of l ≡ as_comment → CommentLine l
unfolding comment_of
comment_line [] cut f e = absurd cc
comment_line (a ∷ []) cut f e = absurd cc
comment_line (a ∷ b ∷ r) cut f e = go (eqb b 10) refl long.1
  where
    l : List ℕ
    l = a ∷ b ∷ r

    long : (ltb (length l) 2 ≡ false) × (cond (eqb b 10) as_comment (cond (eqb b 32) (cond (eqb (get_or l (length l - 1) 0) 10) as_comment (wrong (length l))) (strange 1)) ≡ as_comment)
    long = cond_else (ltb (length l) 2) e (λ q. cc)

    behind : (r : List ℕ) → Cut (a ∷ b ∷ r) → b ≡ 32 → get_or (a ∷ b ∷ r) (length (a ∷ b ∷ r) - 1) 0 ≡ 10 → CommentLine (a ∷ b ∷ r)
    behind [] cut s last = absurd (omega (arith, s, last))
    behind (x ∷ xs) cut s last =
        let size : suc (suc (suc (length xs))) - 1 ≡ suc (suc (length xs)) = omega arith in
        let d = ended x xs (λ i g. cut (suc (suc i)) (omega arith)) (rw size at last) in
        spaced d.xs d.plain (ap₂ (λ (y : ℕ) (z : List ℕ). y ∷ z) f (ap₂ (λ (y : ℕ) (z : List ℕ). y ∷ z) s d.is))

    bare : (r : List ℕ) → Cut (a ∷ b ∷ r) → b ≡ 10 → CommentLine (a ∷ b ∷ r)
    bare [] cut s = alone (ap₂ (λ (y z : ℕ). y ∷ z ∷ []) f s)
    bare (x ∷ xs) cut s = absurd (cut 1 (omega arith) s)

    go : (t : Bool) → eqb b 10 ≡ t → cond t as_comment (cond (eqb b 32) (cond (eqb (get_or l (length l - 1) 0) 10) as_comment (wrong (length l))) (strange 1)) ≡ as_comment → CommentLine l
    go true q h = bare r cut (eqb-true b 10 q)
    go false q h =
        let s = cond_then (eqb b 32) h (λ q. cc) in
        let t = cond_then (eqb (get_or l (length l - 1) 0) 10) s.1 (λ q. cc) in
        behind r cut (eqb-true b 32 s.0) (eqb-true _ _ t.0)

line_comment : {l : List ℕ} → CommentLine l → comment_of l ≡ as_comment
unfolding comment_of
line_comment (alone e) = rw e
line_comment (spaced xs h e) =
    let size : suc (suc (length (xs ++ 10 ∷ []))) ≡ suc (suc (suc (length xs))) = omega (arith, length-append xs (10 ∷ [])) in
    let last : suc (suc (suc (length xs))) - 1 ≡ suc (suc (length xs)) = omega arith in
    let long : 2 ≤ suc (suc (suc (length xs))) = omega arith in
    rw (e, size, last, le-ltb _ 2 long, get_or-append_seam xs 10 [] 0)

-- ---- the line as a whole

-- what each kind of line can be read as
module _ (P : Result Line NoLine → Type 0) (is_strange : (p : ℕ) → P (strange p)) (is_wrong : (p : ℕ) → P (wrong p)) (l : List ℕ) where
  then_any : (x : Result Number Misplaced) {k : ℕ → ℕ → Result Line NoLine} → ((v next : ℕ) → P (k v next)) → P (number_then x k wrong)
  then_any (Ok n) h = h n.value n.next
  then_any (Err m) h = is_wrong m.at

  comment_any : P as_comment → P (comment_of l)
  unfolding comment_of
  comment_any c =
      cond_both P (ltb (length l) 2) (is_wrong (length l))
      (cond_both P (eqb (get_or l 1 0) 10) c
      (cond_both P (eqb (get_or l 1 0) 32) (cond_both P (eqb (get_or l (length l - 1) 0) 10) c (is_wrong (length l))) (is_strange 1)))

  size_any : ((n m : Field) → P (as_size n m)) → P (size_of l)
  unfolding size_of
  size_any c =
      cond_both P (ltb (agree_of l size_word) 5) (is_strange (agree_of l size_word))
      (then_any (field_at l 5 32) (λ n m_at. then_any (field_at l m_at 10) (λ m end. c (field_of n 5) (field_of m m_at))))

  link_any : ((u v w : Field) → P (as_link u v w)) → P (link_of l)
  unfolding link_of
  link_any c =
      cond_both P (ltb (agree_of l link_word) 2) (is_strange (agree_of l link_word))
      (then_any (field_at l 2 32) (λ u v_at. then_any (field_at l v_at 32) (λ v w_at. then_any (field_at l w_at 10) (λ w end. c (field_of u 2) (field_of v v_at) (field_of w w_at)))))

module _ (l : List ℕ) (cut : Cut l) where
  -- the three choices by the first byte, where the first or the last two cannot have been taken
  some : {x : Result Line NoLine} → line_of l ≡ x → ((p : ℕ) → strange p ≡ x → ⊥)
      → cond (eqb (get_or l 0 0) 99) (comment_of l) (cond (eqb (get_or l 0 0) 112) (size_of l) (cond (eqb (get_or l 0 0) 97) (link_of l) (strange 0))) ≡ x
  unfolding line_of
  some e n = (cond_then (ltb 0 (length l)) e (n 0)).1

  pub read_comment : line_of l ≡ as_comment → CommentLine l
  read_comment e =
      let P : Result Line NoLine → Type 0 = λ x. x ≡ as_comment → ⊥ in
      let size = size_any P (λ p q. cc) (λ p q. cc) l (λ n m q. cc) in
      let link = link_any P (λ p q. cc) (λ p q. cc) l (λ u v w q. cc) in
      let c = cond_then (eqb (get_or l 0 0) 99) (some e (λ p q. cc)) (cond_both P (eqb (get_or l 0 0) 112) size (cond_both P (eqb (get_or l 0 0) 97) link (λ q. cc))) in
      comment_line l cut (eqb-true _ _ c.0) c.1

  pub read_size : {n m : Field} → line_of l ≡ as_size n m → SizeLine l n.value m.value
  read_size {n} {m} e =
      let P : Result Line NoLine → Type 0 = λ x. x ≡ as_size n m → ⊥ in
      let comment = comment_any P (λ p q. cc) (λ p q. cc) l (λ q. cc) in
      let link = link_any P (λ p q. cc) (λ p q. cc) l (λ u v w q. cc) in
      let c = cond_else (eqb (get_or l 0 0) 99) (some e (λ p q. cc)) comment in
      let d = cond_then (eqb (get_or l 0 0) 112) c.1 (cond_both P (eqb (get_or l 0 0) 97) link (λ q. cc)) in
      size_line l cut d.1

  pub read_link : {u v w : Field} → line_of l ≡ as_link u v w → LinkLine l u.value v.value w.value
  read_link {u} {v} {w} e =
      let P : Result Line NoLine → Type 0 = λ x. x ≡ as_link u v w → ⊥ in
      let comment = comment_any P (λ p q. cc) (λ p q. cc) l (λ q. cc) in
      let size = size_any P (λ p q. cc) (λ p q. cc) l (λ n m q. cc) in
      let c = cond_else (eqb (get_or l 0 0) 99) (some e (λ p q. cc)) comment in
      let d = cond_else (eqb (get_or l 0 0) 112) c.1 size in
      link_line l cut (cond_then (eqb (get_or l 0 0) 97) d.1 (λ q. cc)).1

-- a line that begins with a byte
begins : (l rest : List ℕ) (b : ℕ) → l ≡ b ∷ rest → line_of l ≡ cond (eqb b 99) (comment_of l) (cond (eqb b 112) (size_of l) (cond (eqb b 97) (link_of l) (strange 0)))
unfolding line_of
begins l rest b e =
    let some : 0 < length l = omega (arith, ap length e) in
    let first : get_or l 0 0 ≡ b = ap (λ (z : List ℕ). get_or z 0 0) e in
    rw (lt-ltb 0 (length l) some, first)

pub comment_read : {l : List ℕ} → CommentLine l → line_of l ≡ as_comment
comment_read {l} c = go c
  where
    go : CommentLine l → line_of l ≡ as_comment
    go (alone e) = begins l (10 ∷ []) 99 e ∙ line_comment c
    go (spaced xs h e) = begins l (32 ∷ (xs ++ 10 ∷ [])) 99 e ∙ line_comment c

pub size_read : {l : List ℕ} {n m : ℕ} (s : SizeLine l n m) → line_of l ≡ as_size (field_of n 5) (field_of m (size_place s))
size_read {l} s = begins l _ 112 s.bytes ∙ line_size s

pub link_read : {l : List ℕ} {u v w : ℕ} (s : LinkLine l u v w) → line_of l ≡ as_link (field_of u 2) (field_of v (second_place s)) (field_of w (third_place s))
link_read {l} s = begins l _ 97 s.bytes ∙ line_link s

-- ---- a good line has its LF, and no other

all_append : {A : Type 0} {P : A → Type 0} {xs ys : List A} → All P xs → All P ys → All P (xs ++ ys)
all_append none h = h
all_append (more p g) h = more p (all_append g h)

digits_plain : {ds : List ℕ} → All (Between 48 57) ds → All NoLf ds
digits_plain none = none
digits_plain (more {x = x} d h) = let n : NoLf x = λ (e : x ≡ 10). omega (arith, d.least) in more n (digits_plain h)

not_lf : (b : ℕ) → T (not (eqb b 10)) → NoLf b
not_lf b h e = T_not (eqb b 10) h (rw (eq-eqb b 10 e) tt)

pub comment_whole : {l : List ℕ} → CommentLine l → Whole l
comment_whole (alone e) = record { xs = 99 ∷ []; plain = more (not_lf 99 tt) none; is = e }
comment_whole (spaced xs h e) = record { xs = 99 ∷ 32 ∷ xs; plain = more (not_lf 99 tt) (more (not_lf 32 tt) h); is = e }

pub size_whole : {l : List ℕ} {n m : ℕ} → SizeLine l n m → Whole l
size_whole s =
    let plain : All NoLf size_word = more (not_lf 112 tt) (more (not_lf 32 tt) (more (not_lf 115 tt) (more (not_lf 112 tt) (more (not_lf 32 tt) none)))) in
    record {
      xs = size_word ++ (s.ns ++ 32 ∷ s.ms);
      plain = all_append plain (all_append (digits_plain s.spells_n.digits) (more (not_lf 32 tt) (digits_plain s.spells_m.digits)));
      is = s.bytes ∙ simp append_assoc;
    }

pub link_whole : {l : List ℕ} {u v w : ℕ} → LinkLine l u v w → Whole l
link_whole s =
    let third : All NoLf (32 ∷ s.ws) = more (not_lf 32 tt) (digits_plain s.spells_w.digits) in
    let second : All NoLf (32 ∷ (s.vs ++ 32 ∷ s.ws)) = more (not_lf 32 tt) (all_append (digits_plain s.spells_v.digits) third) in
    record {
      xs = link_word ++ (s.us ++ 32 ∷ (s.vs ++ 32 ∷ s.ws));
      plain = more (not_lf 97 tt) (more (not_lf 32 tt) (all_append (digits_plain s.spells_u.digits) second));
      is = s.bytes ∙ simp append_assoc;
    }
