-- Which line the refusal of a text names: the first that is at fault behind lines that are fine, or the one after the last. Assumes nothing.
use Rattle.std.specs.Prelude.{◌≡◌, ◌⊎◌, List, [], ◌∷◌, ◌++◌, ℕ, ◌+◌, ◌<◌, length, Ok, Err}
use Rattle.line.specs.Line.{line_of}
use Rattle.line.specs.Lines.{lines_of}
use Rattle.step.specs.Step.{FaultAt, state_of, taken}
use Rattle.step.specs.declared.State.{State}

-- lines that are fine, from a state to the one that they leave
pub data Fine (room : ℕ) : State → List (List ℕ) → State → Type 0 where
  all : {st last : State} {ls : List (List ℕ)} → ls ≡ [] → st ≡ last → Fine room st ls last
  next : {st last : State} {ls : List (List ℕ)} (l : List ℕ) (rest : List (List ℕ)) (then : State)
      → ls ≡ l ∷ rest → taken room st (line_of l) ≡ Ok then → Fine room then rest last → Fine room st ls last

-- of lines that are numbered from `at` on, one is at fault behind others that are fine; or all are fine, and the `p` line or a link is missing
pub data Stops (room : ℕ) (st : State) (at : ℕ) (ls : List (List ℕ)) (number line : ℕ) : Type 0 where
  faulty : (before after : List (List ℕ)) (l : List ℕ) (then : State) (fault : FaultAt) → ls ≡ before ++ l ∷ after
      → Fine room st before then → taken room then (line_of l) ≡ Err fault → fault.number ≡ number → line ≡ at + length before
      → Stops room st at ls number line
  unfinished : (then : State) → Fine room st ls then → (then.n ≡ 0) ⊎ (then.k ≡ then.m → ⊥) → number ≡ 1 → line ≡ at + length ls
      → Stops room st at ls number line

-- the text is too long, or its lines stop
pub data RefusedAt (room : ℕ) (s : List ℕ) (number line : ℕ) : Type 0 where
  long : 1048576 < length s → number ≡ 2 → line ≡ 0 → RefusedAt room s number line
  stops : Stops room (state_of 0 0 0) 1 (lines_of s) number line → RefusedAt room s number line
