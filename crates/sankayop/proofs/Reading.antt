-- What the reader answers fits: its numbers of refusal, its lines, n and m. Assumes nothing.
use mathlib.Core.Path.{◌≡◌, refl, ap, ◌∙◌}
use mathlib.Core.Bool.{Bool, true, false, cond}
use mathlib.Core.List.{List, [], ◌∷◌}
use Rattle.std.specs.Prelude.{Result, Ok, Err}
use Prim.Native.Nat.{ℕ, suc, ◌+◌, ◌≤◌}
use native.Mathlib.Omega.{arith}
use borrow.Author.Tests.{ltb-false}
use lib.Dec.{eqb, ltb}
use lib.ListN.{length}
use Rattle.limits.specs.Said.{Said, told, refused}
use Rattle.limits.proofs.Cases.{cond_both}
use Rattle.line.specs.Line.{line_of}
use Rattle.line.specs.Lines.{onto, lines_of}
use Rattle.step.specs.Step.{FaultAt, state_of, taken, step_then}
use Rattle.step.specs.declared.State.{State}
use Rattle.text.specs.Text.{finish, read_lines, read_text}
use Rattle.text.proofs.Good.{accepted_good}
use Rattle.text.proofs.Refusals.{refused_at, refused_within}
use Rattle.table.proofs.Reader.{read_numbered}
use Rattle.sankayop.specs.Packed.{Packs}

onto_length : (b : ℕ) (ls : List (List ℕ)) → length (onto b ls) ≤ suc (length ls)
unfolding onto
onto_length b [] = omega arith
onto_length b (l ∷ ls) = omega arith

lines_length : (s : List ℕ) → length (lines_of s) ≤ length s
unfolding lines_of
lines_length [] = omega arith
lines_length (b ∷ bs) =
    cond_both (λ (ls : List (List ℕ)). length ls ≤ suc (length bs)) (eqb b 10) (omega (arith, lines_length bs)) (omega (arith, onto_length b (lines_of bs), lines_length bs))

-- at most the line after the last of 1,048,576 lines
refused_line : (room : ℕ) (s : List ℕ) (number line : ℕ) → read_text room s ≡ refused number (line ∷ []) → line ≤ 1048577
unfolding read_text
refused_line room s number line e = go (ltb 1048576 (length s)) refl e (refused_within (refused_at room s number line e))
  where
    go : (t : Bool) → ltb 1048576 (length s) ≡ t → cond t (refused 2 (0 ∷ [])) (read_lines room (state_of 0 0 0) 1 (lines_of s)) ≡ refused number (line ∷ []) → line ≤ length (lines_of s) + 1 → line ≤ 1048577
    go true q e h = let z : line ≡ 0 = cc in omega arith
    go false q e h = omega (arith, ltb-false 1048576 (length s) q, lines_length s)

-- the reader tells two values, or refuses with one
abbrev Read : Said → Type 0
Read (told vs) = (n : ℕ) × (m : ℕ) × (vs ≡ n ∷ m ∷ [])
Read (refused number vs) = (line : ℕ) × (vs ≡ line ∷ [])

lines_read : (room : ℕ) (st : State) (at : ℕ) (ls : List (List ℕ)) → Read (read_lines room st at ls)
unfolding read_lines finish
lines_read room st at [] = cond_both Read (eqb st.n 0) (at, refl) (cond_both Read (eqb st.k st.m) (st.n, st.m, refl) (at, refl))
lines_read room st at (l ∷ ls) = go (taken room st (line_of l)) (λ next. lines_read room next (at + 1) ls)
  where
    go : (x : Result State FaultAt) → ((next : State) → Read (read_lines room next (at + 1) ls))
        → Read (step_then x (λ next. read_lines room next (at + 1) ls) (λ fault. refused fault.number (at ∷ [])))
    go (Ok next) rest = rest next
    go (Err fault) rest = (at, refl)

text_read : (room : ℕ) (s : List ℕ) → Read (read_text room s)
unfolding read_text
text_read room s = cond_both Read (ltb 1048576 (length s)) (0, refl) (lines_read room (state_of 0 0 0) 1 (lines_of s))

pub read_packs : (room : ℕ) (s : List ℕ) → Packs (read_text room s)
read_packs room s = go (read_text room s) refl (text_read room s)
  where
    go : (t : Said) → read_text room s ≡ t → Read t → Packs t
    go (told vs) e (n, m, f) =
        let g = accepted_good room s (e ∙ ap told f) in
        rw f (record { few = omega arith; first_in = omega (arith, g.n_in.most); second_in = omega (arith, g.m_in) })
    go (refused number vs) e (line, f) =
        let within = refused_line room s number line (e ∙ ap (refused number) f) in
        rw f (record { few = omega (arith, (read_numbered room s number vs e).most); first_in = omega (arith, within); second_in = omega arith })
