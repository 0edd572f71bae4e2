-- The reader refuses with 1 to 5, by the table of a line. Assumes nothing.
use mathlib.Core.Logic.{◌≢◌}
use mathlib.Core.List.{List, [], ◌∷◌}
use Rattle.std.specs.Prelude.{Result, Ok, Err}
use Prim.Native.Nat.{ℕ, ◌+◌}
use native.Mathlib.Omega.{arith}
use borrow.Author.Tests.{eqb-false}
use lib.Dec.{eqb, ltb}
use lib.ListN.{length}
use Rattle.limits.specs.Said.{Said, refused}
use Rattle.limits.proofs.Cases.{cond_both, cond_cases}
use Rattle.line.specs.Line.{line_of}
use Rattle.line.specs.Lines.{lines_of}
use Rattle.line.specs.declared.Line.{Line}
use Rattle.line.specs.declared.Line.TheVariants.{Comment, Size, Link}
use Rattle.line.specs.declared.NoLine.{NoLine}
use Rattle.line.specs.declared.NoLine.TheVariants.{Strange, Wrong}
use Rattle.step.specs.Step.{FaultAt, state_of, step_by, size_step, link_step, taken, step_then}
use Rattle.step.specs.declared.State.{State}
use Rattle.text.specs.Text.{finish, read_lines, read_text}
use Rattle.table.specs.Table.{Judged, line_checks, stop_number}
use Rattle.table.proofs.Numbers.{Numbered, told_numbered, refused_numbered}
use Rattle.table.proofs.Judged.{Numbers, judged_in}
use Rattle.table.proofs.Table.{line_table}

abbrev Read : Said → Type 0
Read = Numbered 1 5

-- where a line stops, it is with a number
abbrev Stops : Result State FaultAt → Type 0
Stops (Ok st) = Unit {0}
Stops (Err fault) = fault.number ≢ 0

step_stops : (fault : FaultAt) (st : State) → Stops (step_by fault st)
unfolding step_by
step_stops fault st = cond_cases Stops (eqb fault.number 0) (λ _. tt) (λ e. eqb-false _ _ e)

line_stops : (room : ℕ) (st : State) (l : Result Line NoLine) → Stops (taken room st l)
unfolding taken size_step link_step
line_stops room st (Ok Comment) = tt
line_stops room st (Ok (Size n m)) = cond_both Stops (eqb st.n 0) (step_stops _ _) (λ e. omega arith)
line_stops room st (Ok (Link u v w)) = cond_both Stops (ltb st.k st.m) (step_stops _ _) (λ e. omega arith)
line_stops room st (Err (Strange p)) = λ e. omega arith
line_stops room st (Err (Wrong p)) = λ e. omega arith

line_numbers : (room : ℕ) (st : State) (l : Result Line NoLine) → Numbers 1 5 (line_checks room st l)
unfolding line_checks
line_numbers room st (Ok Comment) = tt
line_numbers room st (Ok (Size n m)) = (omega arith, (omega arith, (omega arith, (omega arith, tt))))
line_numbers room st (Ok (Link u v w)) = (omega arith, (omega arith, (omega arith, (omega arith, tt))))
line_numbers room st (Err none) = (omega arith, tt)

lines_numbered : (room : ℕ) (st : State) (at : ℕ) (ls : List (List ℕ)) → Read (read_lines room st at ls)
unfolding read_lines finish
lines_numbered room st at [] =
    let one = refused_numbered 1 5 1 (at ∷ []) (omega arith) in
    cond_both Read (eqb st.n 0) one (cond_both Read (eqb st.k st.m) (told_numbered 1 5 (st.n ∷ st.m ∷ [])) one)
lines_numbered room st at (l ∷ ls) =
    go (taken room st (line_of l)) (line_table room st (line_of l)) (line_stops room st (line_of l)) (λ next. lines_numbered room next (at + 1) ls)
  where
    go : (x : Result State FaultAt) → Judged (line_checks room st (line_of l)) (stop_number x) → Stops x → ((next : State) → Read (read_lines room next (at + 1) ls))
        → Read (step_then x (λ next. read_lines room next (at + 1) ls) (λ fault. refused fault.number (at ∷ [])))
    go (Ok next) j p rest = rest next
    go (Err fault) j p rest =
        refused_numbered 1 5 fault.number (at ∷ [])
        (judged_in 1 5 (line_checks room st (line_of l)) fault.number (line_numbers room st (line_of l)) j p)

pub read_numbered : (room : ℕ) (s : List ℕ) → Read (read_text room s)
unfolding read_text
read_numbered room s =
    cond_both Read (ltb 1048576 (length s)) (refused_numbered 1 5 2 (0 ∷ []) (omega arith)) (lines_numbered room (state_of 0 0 0) 1 (lines_of s))
