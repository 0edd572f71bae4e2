-- What an answer of the reader says of the text and the map: which line a refusal names, and what the map then holds. Assumes nothing.
use mathlib.Core.Path.{◌≡◌, refl, sym, ap, ap₂, ◌∙◌}
use mathlib.Core.Bool.{Bool, true, false, cond}
use mathlib.Core.Logic.{◌⊎◌, inl, inr}
use mathlib.Core.List.{List, [], ◌∷◌}
use Prim.Native.Nat.{ℕ, ◌+◌, ◌≤◌}
use native.Mathlib.Omega.{arith}
use borrow.Author.Tests.{ltb-true, eqb-true, eqb-false}
use lib.Dec.{ltb, eqb}
use lib.ListN.{length, length-append}
use lib.Seq.{sets, sets-eq}
use Rattle.std.specs.Prelude.{Result, Ok, Err}
use Rattle.limits.proofs.Said.{told_refused}
use Rattle.limits.specs.Said.{told, refused}
use Rattle.line.specs.Line.{line_of}
use Rattle.line.specs.Lines.{lines_of}
use Rattle.step.specs.Step.{FaultAt, state_of, taken, step_then}
use Rattle.text.specs.Text.{said, finish, read_lines, read_text, words_of, map_after}
use Rattle.text.specs.Refused.{all, next, Stops, faulty, unfinished, RefusedAt, long, stops}
use Rattle.text.proofs.Good.{accepted_good}
use Rattle.step.specs.declared.State.{State}
use Rattle.limits.specs.Refusals.{number_of}
use Rattle.limits.specs.declared.Refusal.{Refusal}
use Rattle.limits.specs.declared.Refusal.TheVariants.{Layout, Count, Room, Crossing, Amount, Shape, Trails, NotDone, NoRoute, Unmarked}
use Rattle.text.specs.declared.Size.{Size}
use Rattle.text.specs.declared.Refused.{Refused}

-- ---- the line that a refusal names

refused_one : {a b x y : ℕ} → refused a (x ∷ []) ≡ refused b (y ∷ []) → (a ≡ b) × (x ≡ y)
refused_one e = (cc, cc)

module _ (room number line : ℕ) where
  ends : (st : State) (at : ℕ) → finish st at ≡ refused number (line ∷ []) → Stops room st at [] number line
  unfolding finish
  ends st at = go (eqb st.n 0) (eqb st.k st.m) refl refl
    where
      missing : (st.n ≡ 0) ⊎ (st.k ≡ st.m → ⊥) → refused 1 (at ∷ []) ≡ refused number (line ∷ []) → Stops room st at [] number line
      missing why e = let g = refused_one e in unfinished st (all refl refl) why (sym g.0) (omega (arith, g.1))

      go : (a b : Bool) → eqb st.n 0 ≡ a → eqb st.k st.m ≡ b
          → cond a (refused 1 (at ∷ [])) (cond b (told (st.n ∷ st.m ∷ [])) (refused 1 (at ∷ []))) ≡ refused number (line ∷ []) → Stops room st at [] number line
      go true b p q e = missing (inl (eqb-true _ _ p)) e
      go false true p q e = absurd (told_refused e)
      go false false p q e = missing (inr (eqb-false _ _ q)) e

  -- a line that is fine, before lines that stop
  passes : (st then : State) (at : ℕ) (l : List ℕ) (ls : List (List ℕ)) → taken room st (line_of l) ≡ Ok then → Stops room then (at + 1) ls number line → Stops room st at (l ∷ ls) number line
  passes st then at l ls g (faulty before after x last fault e f stop is here) =
      faulty (l ∷ before) after x last fault (ap (λ (z : List (List ℕ)). l ∷ z) e) (next l before then refl g f) stop is (omega (arith, here))
  passes st then at l ls g (unfinished last f why is here) = unfinished last (next l ls then refl g f) why is (omega (arith, here))

  lines_stop : (st : State) (at : ℕ) (ls : List (List ℕ)) → read_lines room st at ls ≡ refused number (line ∷ []) → Stops room st at ls number line
  unfolding read_lines
  lines_stop st at [] e = ends st at e
  lines_stop st at (l ∷ ls) e = go (taken room st (line_of l)) refl e (λ then. lines_stop then (at + 1) ls)
    where
      go : (x : Result State FaultAt) → taken room st (line_of l) ≡ x → step_then x (λ then. read_lines room then (at + 1) ls) (λ f. refused f.number (at ∷ [])) ≡ refused number (line ∷ [])
          → ((then : State) → read_lines room then (at + 1) ls ≡ refused number (line ∷ []) → Stops room then (at + 1) ls number line) → Stops room st at (l ∷ ls) number line
      go (Ok then) q e rest = passes st then at l ls q (rest then e)
      go (Err fault) q e rest = let g = refused_one e in faulty [] ls l st fault refl (all refl refl) q g.0 (omega (arith, g.1))

pub refused_at : (room : ℕ) (s : List ℕ) (number line : ℕ) → read_text room s ≡ refused number (line ∷ []) → RefusedAt room s number line
unfolding read_text
refused_at room s number line = go (ltb 1048576 (length s)) refl
  where
    go : (t : Bool) → ltb 1048576 (length s) ≡ t → cond t (refused 2 (0 ∷ [])) (read_lines room (state_of 0 0 0) 1 (lines_of s)) ≡ refused number (line ∷ []) → RefusedAt room s number line
    go true q e = let g = refused_one e in long (ltb-true _ _ q) (sym g.0) (sym g.1)
    go false q e = stops (lines_stop room number line (state_of 0 0 0) 1 (lines_of s) e)

-- the line is at most the one after the last
pub refused_within : {room : ℕ} {s : List ℕ} {number line : ℕ} → RefusedAt room s number line → line ≤ length (lines_of s) + 1
refused_within (long h a b) = omega arith
refused_within (stops (faulty before after l then fault e f stop is here)) = omega (arith, here, ap length e, length-append before (l ∷ after))
refused_within (stops (unfinished then f why is here)) = omega (arith, here)

-- ---- the map afterward

pub refused_kept : (s map : List ℕ) {r : ℕ} {vs : List ℕ} → read_text (length map) s ≡ refused r vs → map_after s map ≡ map
unfolding map_after
refused_kept s map e = rw e

-- there is room for the words of what is accepted, and they are written over the first
module _ (s map : List ℕ) {n m : ℕ} (e : read_text (length map) s ≡ told (n ∷ m ∷ [])) where
  pub words_fit : length (words_of (lines_of s)) ≤ length map
  words_fit = let g = accepted_good (length map) s e in omega (arith, g.all, g.fits)

  pub words_written : sets map 0 (words_of (lines_of s)) ≡ map_after s map
  unfolding map_after
  words_written =
      let h : 0 + length (words_of (lines_of s)) ≤ length map = omega (arith, words_fit) in
      let q : 0 + length (words_of (lines_of s)) ≡ length (words_of (lines_of s)) = omega arith in
      rw e (sets-eq (words_of (lines_of s)) map 0 h ∙ rw q)

-- ---- two answers that say the same are the same

-- the refusal of a number
named : ℕ → Refusal
named k =
    cond (eqb k 1) Layout (cond (eqb k 2) Count (cond (eqb k 3) Room (cond (eqb k 4) Crossing (cond (eqb k 5) Amount
    (cond (eqb k 6) Shape (cond (eqb k 7) Trails (cond (eqb k 8) NotDone (cond (eqb k 9) NoRoute Unmarked))))))))

named_number : (r : Refusal) → named (number_of r) ≡ r
unfolding named
named_number Layout = refl
named_number Count = refl
named_number Room = refl
named_number Crossing = refl
named_number Amount = refl
named_number Shape = refl
named_number Trails = refl
named_number NotDone = refl
named_number NoRoute = refl
named_number Unmarked = refl

pub said_same : (a b : Result Size Refused) → said a ≡ said b → a ≡ b
said_same (Ok x) (Ok y) e =
    let n : x.n ≡ y.n = cc in
    let m : x.m ≡ y.m = cc in
    let read : ℕ → ℕ → Result Size Refused = λ a b. Ok (record { n = a; m = b }) in
    ap₂ read n m
said_same (Ok x) (Err r) e = absurd (told_refused e)
said_same (Err r) (Ok x) e = absurd (told_refused (sym e))
said_same (Err r) (Err q) e =
    let number : number_of r.refusal ≡ number_of q.refusal = cc in
    let line : r.line ≡ q.line = cc in
    let refusal : r.refusal ≡ q.refusal = sym (named_number r.refusal) ∙ ap named number ∙ named_number q.refusal in
    let refused : Refusal → ℕ → Result Size Refused = λ a b. Err (record { refusal = a; line = b }) in
    ap₂ refused refusal line
