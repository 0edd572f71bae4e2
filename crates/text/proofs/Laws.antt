-- The ways that the reader goes: the line at a place, what a line does to the answer, and its words to the map. Assumes nothing.
use mathlib.Core.Path.{◌≡◌, refl, ◌∙◌}
use mathlib.Core.List.{List, [], ◌∷◌}
use Prim.Native.Nat.{ℕ, ◌+◌, ◌-◌, ◌≤◌, ◌<◌}
use native.Mathlib.Omega.{arith}
use lib.ListN.{length, take, drop, length-append}
use lib.Seq.{sets}
use Rattle.std.specs.Prelude.{Result, Ok, Err}
use Rattle.limits.proofs.Lists.{sets_append}
use Rattle.line.specs.Line.{line_of}
use Rattle.line.specs.Lines.{lines_of, first_line, line_end}
use Rattle.line.proofs.Lines.{first_of, line_ends}
use Rattle.line.specs.declared.Field.{Field}
use Rattle.line.specs.declared.Line.{Line}
use Rattle.line.specs.declared.Line.TheVariants.{Link}
use Rattle.line.specs.declared.NoLine.{NoLine}
use Rattle.step.specs.Step.{faulted, taken}
use Rattle.text.specs.Held.{line_at}
use Rattle.text.specs.Text.{said, at_line, finish, read_lines, line_words, words_of}
use Rattle.step.specs.declared.State.{State}
use Rattle.step.specs.declared.Fault.{Fault}
use Rattle.text.specs.declared.Refused.{Refused}

-- ---- the line at a place

-- its first line is the one at the place
module _ (l : List ℕ) {e : ℕ} (q : e ≡ line_end l 0) where
  size : e ≡ length (first_line l)
  unfolding line_end
  size = omega (arith, q)

  pub end_within : e ≤ length l
  end_within = omega (arith, size, (first_of l).within)

  pub line_first : (s : List ℕ) (at : ℕ) → l ≡ drop at s → line_of (take e l) ≡ line_at s at
  unfolding line_at
  line_first s at p = rw (size, (first_of l).begins, p)

-- past a line come the lines after it: a reader comes to every line, in order
pub lines_on : (s : List ℕ) (at : ℕ) → at < length s → lines_of (drop at s) ≡ first_line (drop at s) ∷ lines_of (drop (line_end s at) s)
unfolding line_end
lines_on s at h =
    let k : line_end s at - at ≡ length (first_line (drop at s)) = omega arith in
    (line_ends s at (line_end s at) h refl).first ∙ rw (k, (first_of (drop at s)).begins)

-- ---- the first pass

module _ (room : ℕ) (st : State) (at : ℕ) (l : List ℕ) (ls : List (List ℕ)) where
  pub read_stop : (x : Result State Fault) {r : Refused} → faulted x ≡ taken room st (line_of l) → Err r ≡ at_line at x → said (Err r) ≡ read_lines room st at (l ∷ ls)
  unfolding read_lines
  read_stop (Ok then) e f = absurd cc
  read_stop (Err fault) {r} e f =
      let same : ◌≡◌ {A = Refused} r (record { refusal = fault.refusal; line = at }) = cc in
      rw (← e, same)

  pub read_go : (x : Result State Fault) {next : State} → faulted x ≡ taken room st (line_of l) → Ok next ≡ at_line at x → read_lines room next (at + 1) ls ≡ read_lines room st at (l ∷ ls)
  unfolding read_lines
  read_go (Ok then) {next} e f = let same : next ≡ then = cc in rw (← e, same)
  read_go (Err fault) e f = absurd cc

pub read_end : (room : ℕ) (st : State) (at : ℕ) (s : List ℕ) → length s ≡ 0 → read_lines room st at (lines_of s) ≡ finish st at
unfolding read_lines lines_of
read_end room st at [] h = refl
read_end room st at (b ∷ bs) h = absurd (omega arith)

-- ---- the second pass

pub words_link : (x : Result Line NoLine) {u v w : Field} → x ≡ Ok (Link u v w) → line_words x ≡ u.value ∷ v.value ∷ w.value ∷ []
unfolding line_words
words_link x e = rw e

module _ (map : List ℕ) (to : ℕ) (ls rest : List (List ℕ)) (l : List ℕ) (e : ls ≡ l ∷ rest) where
  pub fill_room : to + length (words_of ls) ≡ to + length (line_words (line_of l)) + length (words_of rest)
  unfolding words_of
  fill_room = rw (e, length-append) (omega arith)

  pub fill_more : sets map to (words_of ls) ≡ sets (sets map to (line_words (line_of l))) (to + length (line_words (line_of l))) (words_of rest)
  unfolding words_of
  fill_more = rw e (sets_append (line_words (line_of l)) (words_of rest) map to)

pub fill_end : (s : List ℕ) → length s ≡ 0 → words_of (lines_of s) ≡ []
unfolding words_of lines_of
fill_end [] h = refl
fill_end (b ∷ bs) h = absurd (omega arith)
