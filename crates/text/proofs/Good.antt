-- The reader accepts exactly the good texts, with their n, m and links. Assumes nothing.
use mathlib.Core.Path.{◌≡◌, refl, sym, ap, subst, subst₂, ◌∙◌}
use mathlib.Core.Bool.{Bool, true, false, cond}
use mathlib.Core.List.{List, [], ◌∷◌, ◌++◌}
use Prim.Native.Nat.{ℕ, ◌+◌, ◌*◌, ◌≤◌, ◌<◌}
use native.Mathlib.Omega.{arith}
use borrow.Author.Tests.{lt-ltb, le-ltb, eq-eqb, ne_eqb, ltb-false, eqb-true, eqb-false}
use lib.Dec.{ltb, eqb}
use lib.ListN.{length}
use Rattle.std.specs.Prelude.{Result, Ok, Err}
use Rattle.limits.specs.Limits.{Between}
use Rattle.limits.specs.Said.{Said, told, refused}
use Rattle.limits.proofs.Said.{refused_told}
use Rattle.limits.proofs.Cases.{cond_then, cond_else}
use Rattle.limits.proofs.Laws.{outside_none, none_outside, room_none, none_room}
use Rattle.line.specs.Line.{as_comment, as_size, as_link, line_of, field_of}
use Rattle.line.specs.Lines.{lines_of}
use Rattle.line.specs.Good.{All, more, SizeLine}
use Rattle.line.proofs.Lines.{Cut, Whole, joined, lines_joined, lines_cut, lines_whole}
use Rattle.line.proofs.Good.{read_comment, read_size, read_link, comment_read, size_read, link_read, size_place, second_place, third_place, comment_whole, size_whole, link_whole}
use Rattle.line.specs.declared.Field.{Field}
use Rattle.line.specs.declared.Line.{Line}
use Rattle.line.specs.declared.Line.TheVariants.{Comment, Size, Link}
use Rattle.line.specs.declared.NoLine.{NoLine}
use Rattle.line.specs.declared.NoLine.TheVariants.{Strange, Wrong}
use Rattle.step.specs.Step.{FaultAt, fault_at, state_of, first_of, size_fault, link_fault, step_by, size_step, link_step, taken, step_then}
use Rattle.text.specs.Text.{finish, read_lines, read_text, line_words, words_of}
use Rattle.text.specs.Good.{Links, done, skip, link, Layout, skipped, sized, Good}
use Rattle.step.specs.declared.State.{State}

-- ---- faults that are none

first_none : (a b : FaultAt) → (first_of a b).number ≡ 0 → (a.number ≡ 0) × (b.number ≡ 0)
unfolding first_of
first_none a b = go (eqb a.number 0) refl
  where
    go : (t : Bool) → eqb a.number 0 ≡ t → (cond t b a).number ≡ 0 → (a.number ≡ 0) × (b.number ≡ 0)
    go true e h = (eqb-true _ _ e, h)
    go false e h = absurd (eqb-false _ _ e h)

none_first : (a b : FaultAt) → a.number ≡ 0 → b.number ≡ 0 → (first_of a b).number ≡ 0
unfolding first_of
none_first a b p q = rw (eq-eqb _ _ p) q

record SizeIn (room n m : ℕ) : Type 0 where
  n_in : Between 1 4096 n
  m_in : m ≤ 16384
  fits : 3 * m ≤ room

size_none : (room : ℕ) (n m : Field) → (size_fault room n m).number ≡ 0 → SizeIn room n.value m.value
unfolding size_fault
size_none room n m h =
    let a = first_none _ _ h in
    let b = first_none _ _ a.1 in
    record {
      n_in = outside_none 1 4096 2 n.value (λ z. omega arith) a.0;
      m_in = (outside_none 0 16384 2 m.value (λ z. omega arith) b.0).most;
      fits = room_none (3 * m.value) room b.1;
    }

none_size : (room : ℕ) (n m : Field) → SizeIn room n.value m.value → (size_fault room n m).number ≡ 0
unfolding size_fault
none_size room n m h =
    none_first _ _ (none_outside 1 4096 2 n.value h.n_in)
    (none_first _ _ (none_outside 0 16384 2 m.value (record { least = omega arith; most = h.m_in })) (none_room (3 * m.value) room h.fits))

record LinkIn (n u v w : ℕ) : Type 0 where
  u_in : Between 1 n u
  v_in : Between 1 n v
  w_in : Between 1 65535 w

link_none : (n : ℕ) (u v w : Field) → (link_fault n u v w).number ≡ 0 → LinkIn n u.value v.value w.value
unfolding link_fault
link_none n u v w h =
    let a = first_none _ _ h in
    let b = first_none _ _ a.1 in
    record {
      u_in = outside_none 1 n 4 u.value (λ z. omega arith) a.0;
      v_in = outside_none 1 n 4 v.value (λ z. omega arith) b.0;
      w_in = outside_none 1 65535 5 w.value (λ z. omega arith) b.1;
    }

none_link : (n : ℕ) (u v w : Field) → LinkIn n u.value v.value w.value → (link_fault n u v w).number ≡ 0
unfolding link_fault
none_link n u v w h =
    none_first _ _ (none_outside 1 n 4 u.value h.u_in)
    (none_first _ _ (none_outside 1 n 4 v.value h.v_in) (none_outside 1 65535 5 w.value h.w_in))

-- ---- from the reader to the relation

-- a step after which the rest is accepted went on
went_on : (fault : FaultAt) (next : State) (at : ℕ) (k : State → Said) (vs : List ℕ)
    → step_then (step_by fault next) k (λ f. refused f.number (at ∷ [])) ≡ told vs → (fault.number ≡ 0) × (k next ≡ told vs)
unfolding step_by
went_on fault next at k vs = go (eqb fault.number 0) refl
  where
    go : (t : Bool) → eqb fault.number 0 ≡ t → step_then (cond t (Ok next) (Err fault)) k (λ f. refused f.number (at ∷ [])) ≡ told vs → (fault.number ≡ 0) × (k next ≡ told vs)
    go true e h = (eqb-true _ _ e, h)
    go false e h = absurd (refused_told h)

-- a line that must be due or the only one was
was_so : (t : Bool) (step : Result State FaultAt) (fault : FaultAt) (at : ℕ) (k : State → Said) (vs : List ℕ)
    → step_then (cond t step (Err fault)) k (λ f. refused f.number (at ∷ [])) ≡ told vs → (t ≡ true) × (step_then step k (λ f. refused f.number (at ∷ [])) ≡ told vs)
was_so true step fault at k vs e = (refl, e)
was_so false step fault at k vs e = absurd (refused_told e)

told_two : {a b n m : ℕ} → told (a ∷ b ∷ []) ≡ told (n ∷ m ∷ []) → (a ≡ n) × (b ≡ m)
told_two e = (cc, cc)

words_of_lem : (l : List ℕ) (ls : List (List ℕ)) (x : Result Line NoLine) → line_of l ≡ x → words_of (l ∷ ls) ≡ line_words x ++ words_of ls
unfolding words_of
words_of_lem l ls x q = rw q

-- behind the `p` line
record Behind (st : State) (n m : ℕ) (ls : List (List ℕ)) : Type 0 where
  same_n : st.n ≡ n
  same_m : st.m ≡ m
  links : Links st.n (joined ls) (words_of ls)
  count : 3 * st.k + length (words_of ls) ≡ 3 * st.m

module _ (n m : ℕ) (st : State) (l : List ℕ) (ls : List (List ℕ)) (cut : Cut l) where
  behind_comment : line_of l ≡ as_comment → Behind st n m ls → Behind st n m (l ∷ ls)
  unfolding joined line_words
  behind_comment q r =
      let same : words_of (l ∷ ls) ≡ words_of ls = words_of_lem l ls as_comment q in
      record {
        same_n = r.same_n;
        same_m = r.same_m;
        links = skip l (joined ls) refl (read_comment l cut q) (subst (Links st.n (joined ls)) (sym same) r.links);
        count = omega (arith, ap length same, r.count);
      }

  behind_link : (u v w : Field) → line_of l ≡ as_link u v w → LinkIn st.n u.value v.value w.value
      → Behind (state_of st.n st.m (st.k + 1)) n m ls → Behind st n m (l ∷ ls)
  unfolding joined line_words
  behind_link u v w q i r =
      let three : words_of (l ∷ ls) ≡ u.value ∷ v.value ∷ w.value ∷ words_of ls = words_of_lem l ls (as_link u v w) q in
      record {
        same_n = r.same_n;
        same_m = r.same_m;
        links = link l (joined ls) u.value v.value w.value (words_of ls) refl three (read_link l cut q) i.u_in i.v_in i.w_in r.links;
        count = omega (arith, ap length three, r.count);
      }

module _ (room n m : ℕ) where
  -- one line behind the `p` line
  behind_line : (st : State) (at : ℕ) (l : List ℕ) (ls : List (List ℕ)) → Cut l → (st.n ≡ 0 → ⊥)
      → ((next : State) → (next.n ≡ 0 → ⊥) → read_lines room next (at + 1) ls ≡ told (n ∷ m ∷ []) → Behind next n m ls)
      → (x : Result Line NoLine) → line_of l ≡ x → step_then (taken room st x) (λ next. read_lines room next (at + 1) ls) (λ f. refused f.number (at ∷ [])) ≡ told (n ∷ m ∷ [])
      → Behind st n m (l ∷ ls)
  unfolding taken size_step link_step
  behind_line st at l ls cut some rest (Ok Comment) q e = behind_comment n m st l ls cut q (rest st some e)
  behind_line st at l ls cut some rest (Ok (Size a b)) q e =
      absurd (some (eqb-true _ _ (was_so (eqb st.n 0) _ (fault_at 1 0) at _ _ e).0))
  behind_line st at l ls cut some rest (Ok (Link u v w)) q e =
      let due = was_so (ltb st.k st.m) _ (fault_at 1 0) at _ _ e in
      let on = went_on (link_fault st.n u v w) (state_of st.n st.m (st.k + 1)) at _ _ due.1 in
      behind_link n m st l ls cut u v w q (link_none st.n u v w on.0) (rest (state_of st.n st.m (st.k + 1)) some on.1)
  behind_line st at l ls cut some rest (Err (Strange p)) q e = absurd (refused_told e)
  behind_line st at l ls cut some rest (Err (Wrong p)) q e = absurd (refused_told e)

  behind : (st : State) (at : ℕ) (ls : List (List ℕ)) → All Cut ls → (st.n ≡ 0 → ⊥) → read_lines room st at ls ≡ told (n ∷ m ∷ []) → Behind st n m ls
  unfolding read_lines finish joined words_of
  behind st at [] cuts some e =
      let a = cond_else (eqb st.n 0) e refused_told in
      let b = cond_then (eqb st.k st.m) a.1 refused_told in
      let same = told_two b.1 in
      record { same_n = same.0; same_m = same.1; links = done refl refl; count = omega (arith, eqb-true st.k st.m b.0) }
  behind st at (l ∷ ls) (more cut cuts) some e = behind_line st at l ls cut some (λ next. behind next (at + 1) ls cuts) (line_of l) refl e

-- from the beginning on
record Front (room n m : ℕ) (ls : List (List ℕ)) : Type 0 where
  layout : Layout n m (words_of ls) (joined ls)
  ranges : SizeIn room n m
  all : length (words_of ls) ≡ 3 * m

module _ (room n m : ℕ) (l : List ℕ) (ls : List (List ℕ)) (cut : Cut l) where
  front_comment : line_of l ≡ as_comment → Front room n m ls → Front room n m (l ∷ ls)
  unfolding joined line_words
  front_comment q r =
      let same : words_of (l ∷ ls) ≡ words_of ls = words_of_lem l ls as_comment q in
      record {
        layout = skipped l (joined ls) refl (read_comment l cut q) (subst (λ (ws : List ℕ). Layout n m ws (joined ls)) (sym same) r.layout);
        ranges = r.ranges;
        all = ap length same ∙ r.all;
      }

  front_size : (a b : Field) → line_of l ≡ as_size a b → SizeIn room a.value b.value → Behind (state_of a.value b.value 0) n m ls → Front room n m (l ∷ ls)
  unfolding joined line_words
  front_size a b q i r =
      let same : words_of (l ∷ ls) ≡ words_of ls = words_of_lem l ls (as_size a b) q in
      let line = read_size l cut q in
      record {
        layout = sized l (joined ls) refl (subst₂ (SizeLine l) r.same_n r.same_m line) (subst₂ (λ (k : ℕ) (ws : List ℕ). Links k (joined ls) ws) r.same_n (sym same) r.links);
        ranges = subst₂ (SizeIn room) r.same_n r.same_m i;
        all = omega (arith, ap length same, r.count, r.same_m);
      }

module _ (room n m : ℕ) where
  front_line : (at : ℕ) (l : List ℕ) (ls : List (List ℕ)) → Cut l → All Cut ls
      → (read_lines room (state_of 0 0 0) (at + 1) ls ≡ told (n ∷ m ∷ []) → Front room n m ls)
      → (x : Result Line NoLine) → line_of l ≡ x → step_then (taken room (state_of 0 0 0) x) (λ next. read_lines room next (at + 1) ls) (λ f. refused f.number (at ∷ [])) ≡ told (n ∷ m ∷ [])
      → Front room n m (l ∷ ls)
  unfolding taken size_step link_step
  front_line at l ls cut cuts rest (Ok Comment) q e = front_comment room n m l ls cut q (rest e)
  front_line at l ls cut cuts rest (Ok (Size a b)) q e =
      let on = went_on (size_fault room a b) (state_of a.value b.value 0) at _ _ e in
      let i = size_none room a b on.0 in
      front_size room n m l ls cut a b q i (behind room n m (state_of a.value b.value 0) (at + 1) ls cuts (λ z. omega (arith, i.n_in.least, z)) on.1)
  front_line at l ls cut cuts rest (Ok (Link u v w)) q e = absurd (refused_told e)
  front_line at l ls cut cuts rest (Err (Strange p)) q e = absurd (refused_told e)
  front_line at l ls cut cuts rest (Err (Wrong p)) q e = absurd (refused_told e)

  front : (at : ℕ) (ls : List (List ℕ)) → All Cut ls → read_lines room (state_of 0 0 0) at ls ≡ told (n ∷ m ∷ []) → Front room n m ls
  unfolding read_lines finish
  front at [] cuts e = absurd (refused_told e)
  front at (l ∷ ls) (more cut cuts) e = front_line at l ls cut cuts (front (at + 1) ls cuts) (line_of l) refl e

-- what the reader accepts is a good text, with the words that it writes
pub accepted_good : (room : ℕ) (s : List ℕ) {n m : ℕ} → read_text room s ≡ told (n ∷ m ∷ []) → Good room s n m (words_of (lines_of s))
unfolding read_text
accepted_good room s {n} {m} e =
    let a = cond_else (ltb 1048576 (length s)) e refused_told in
    let f = front room n m 1 (lines_of s) (lines_cut s) a.1 in
    record {
      short = ltb-false _ _ a.0;
      layout = subst (Layout n m (words_of (lines_of s))) (lines_joined s) f.layout;
      n_in = f.ranges.n_in;
      m_in = f.ranges.m_in;
      all = f.all;
      fits = f.ranges.fits;
    }

-- ---- from the relation to the reader

-- a line that goes on, and the words that it adds
module _ (room : ℕ) (st next : State) (at : ℕ) (s l rest : List ℕ) (e : s ≡ l ++ rest) (w : Whole l) (x : Result Line NoLine) (q : line_of l ≡ x) where
  goes_on : taken room st x ≡ Ok next → read_lines room st at (lines_of s) ≡ read_lines room next (at + 1) (lines_of rest)
  unfolding read_lines
  goes_on g = rw (e, lines_whole w rest, q, g)

  adds : words_of (lines_of s) ≡ line_words x ++ words_of (lines_of rest)
  adds = ap (λ (z : List ℕ). words_of (lines_of z)) e ∙ ap words_of (lines_whole w rest) ∙ words_of_lem l (lines_of rest) x q

step_goes : (fault : FaultAt) (next : State) → fault.number ≡ 0 → step_by fault next ≡ Ok next
unfolding step_by
step_goes fault next e = rw (eq-eqb fault.number 0 e)

module _ (room n m : ℕ) (some : 1 ≤ n) where
  links_accepted : (k at : ℕ) (s ws : List ℕ) → Links n s ws → 3 * k + length ws ≡ 3 * m
      → (read_lines room (state_of n m k) at (lines_of s) ≡ told (n ∷ m ∷ [])) × (words_of (lines_of s) ≡ ws)
  unfolding read_lines finish lines_of words_of taken link_step line_words
  links_accepted k at s ws (done e f) h =
      let all : k ≡ m = omega (arith, ap length f) in
      let n-some : n ≡ 0 → ⊥ = λ z. omega arith in
      (rw (e, ne_eqb n 0 n-some, eq-eqb k m all), rw (e, f))
  links_accepted k at s ws (skip l rest e c r) h =
      let i = links_accepted k (at + 1) rest ws r h in
      let st = state_of n m k in (
        goes_on room st st at s l rest e (comment_whole c) as_comment (comment_read c) refl ∙ i.0,
        adds room st st at s l rest e (comment_whole c) as_comment (comment_read c) ∙ i.1,
      )
  links_accepted k at s ws (link l rest u v w words e f c a b d r) h =
      let i = links_accepted (k + 1) (at + 1) rest words r (omega (arith, ap length f)) in
      let st = state_of n m k in
      let next = state_of n m (k + 1) in
      let x = as_link (field_of u 2) (field_of v (second_place c)) (field_of w (third_place c)) in
      let due : k < m = omega (arith, ap length f) in
      let fine = none_link n (field_of u 2) (field_of v (second_place c)) (field_of w (third_place c)) (record { u_in = a; v_in = b; w_in = d }) in
      let on : taken room st x ≡ Ok next = rw (lt-ltb k m due) (step_goes (link_fault n (field_of u 2) (field_of v (second_place c)) (field_of w (third_place c))) next fine) in (
        goes_on room st next at s l rest e (link_whole c) x (link_read c) on ∙ i.0,
        adds room st next at s l rest e (link_whole c) x (link_read c) ∙ ap (λ (z : List ℕ). u ∷ v ∷ w ∷ z) i.1 ∙ sym f,
      )

module _ (room n m : ℕ) (ws : List ℕ) (i : SizeIn room n m) (all : length ws ≡ 3 * m) where
  layout_accepted : (at : ℕ) (s : List ℕ) → Layout n m ws s
      → (read_lines room (state_of 0 0 0) at (lines_of s) ≡ told (n ∷ m ∷ [])) × (words_of (lines_of s) ≡ ws)
  unfolding taken size_step line_words
  layout_accepted at s (skipped l rest e c r) =
      let j = layout_accepted (at + 1) rest r in
      let st = state_of 0 0 0 in (
        goes_on room st st at s l rest e (comment_whole c) as_comment (comment_read c) refl ∙ j.0,
        adds room st st at s l rest e (comment_whole c) as_comment (comment_read c) ∙ j.1,
      )
  layout_accepted at s (sized l rest e c r) =
      let j = links_accepted room n m i.n_in.least 0 (at + 1) rest ws r (omega arith) in
      let x = as_size (field_of n 5) (field_of m (size_place c)) in
      let fine = none_size room (field_of n 5) (field_of m (size_place c)) i in
      let on : taken room (state_of 0 0 0) x ≡ Ok (state_of n m 0) = step_goes (size_fault room (field_of n 5) (field_of m (size_place c))) (state_of n m 0) fine in (
        goes_on room (state_of 0 0 0) (state_of n m 0) at s l rest e (size_whole c) x (size_read c) on ∙ j.0,
        adds room (state_of 0 0 0) (state_of n m 0) at s l rest e (size_whole c) x (size_read c) ∙ j.1,
      )

-- a good text is accepted, and what is written are its links' words
pub good_accepted : (room : ℕ) (s : List ℕ) {n m : ℕ} {ws : List ℕ} → Good room s n m ws → (read_text room s ≡ told (n ∷ m ∷ [])) × (words_of (lines_of s) ≡ ws)
unfolding read_text
good_accepted room s {n} {m} {ws} g =
    let j = layout_accepted room n m ws (record { n_in = g.n_in; m_in = g.m_in; fits = g.fits }) g.all 1 s g.layout in
    (rw (le-ltb 1048576 (length s) g.short) j.0, j.1)
