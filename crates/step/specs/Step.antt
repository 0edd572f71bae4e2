-- What one line of a text does to what has been read: the state after it, or its first fault with its place. Assumes nothing.
use Rattle.std.specs.Prelude.{cond, ℕ, ◌+◌, ◌*◌, ltb, eqb, Result, Ok, Err}
use Rattle.limits.specs.Refusals.{number_of}
use Rattle.limits.specs.Limits.{n_fault, m_fault, crossing_fault, cost_fault, room_fault}
use Rattle.limits.specs.declared.Refusal.{Refusal}
use Rattle.limits.specs.declared.Refusal.TheVariants.{Layout}
use Rattle.line.specs.declared.Field.{Field}
use Rattle.line.specs.declared.Line.{Line}
use Rattle.line.specs.declared.Line.TheVariants.{Comment, Size, Link}
use Rattle.line.specs.declared.NoLine.{NoLine}
use Rattle.line.specs.declared.NoLine.TheVariants.{Strange, Wrong}
use Rattle.step.specs.declared.State.{State}
use Rattle.step.specs.declared.Fault.{Fault}

-- ---- the faults of a line, each with its place

-- a number of refusal, 0 for none, and the place of what is at fault
pub record FaultAt : Type 0 where
  pub number : ℕ
  pub place : ℕ

abbrev pub fault_at : ℕ → ℕ → FaultAt
fault_at number place = record { number = number; place = place }

abbrev pub state_of : ℕ → ℕ → ℕ → State
state_of n m k = record { n = n; m = m; k = k }

unfoldable pub first_of : FaultAt → FaultAt → FaultAt
first_of a b = cond (eqb a.number 0) b a

-- N, then M, then the room for M links
unfoldable pub size_fault : ℕ → Field → Field → FaultAt
size_fault room n m =
    first_of (fault_at (n_fault n.value) n.place)
    (first_of (fault_at (m_fault m.value) m.place)
    (fault_at (room_fault (3 * m.value) room) m.place))

-- U, then V, then W
unfoldable pub link_fault : ℕ → Field → Field → Field → FaultAt
link_fault n u v w =
    first_of (fault_at (crossing_fault n u.value) u.place)
    (first_of (fault_at (crossing_fault n v.value) v.place)
    (fault_at (cost_fault w.value) w.place))

-- ---- what a line does

unfoldable pub step_by : FaultAt → State → Result State FaultAt
step_by fault next = cond (eqb fault.number 0) (Ok next) (Err fault)

-- a `p` line, which is the only one
unfoldable pub size_step : ℕ → State → Field → Field → Result State FaultAt
size_step room st n m =
    cond (eqb st.n 0)
    (step_by (size_fault room n m) (state_of n.value m.value 0))
    (Err (fault_at 1 0))

-- an `a` line, which is due: none is before the `p` line, nor beyond M
unfoldable pub link_step : State → Field → Field → Field → Result State FaultAt
link_step st u v w =
    cond (ltb st.k st.m)
    (step_by (link_fault st.n u v w) (state_of st.n st.m (st.k + 1)))
    (Err (fault_at 1 0))

unfoldable pub taken : ℕ → State → Result Line NoLine → Result State FaultAt
taken room st (Ok Comment) = Ok st
taken room st (Ok (Size n m)) = size_step room st n m
taken room st (Ok (Link u v w)) = link_step st u v w
taken room st (Err (Strange p)) = Err (fault_at 1 p)
taken room st (Err (Wrong p)) = Err (fault_at 1 p)

abbrev pub step_then : {A : Type 0} → Result State FaultAt → (State → A) → (FaultAt → A) → A
step_then (Ok st) k f = k st
step_then (Err fault) k f = f fault

-- ---- the code's answers

-- the answer to a line, its refusal by number
abbrev pub faulted : Result State Fault → Result State FaultAt
faulted (Ok st) = Ok st
faulted (Err f) = Err (fault_at (number_of f.refusal) f.place)

-- a check of what stands at a place
abbrev pub at_place : ℕ → Result (Unit {0}) Refusal → Result (Unit {0}) Fault
at_place place (Ok u) = Ok u
at_place place (Err r) = Err (record { refusal = r; place = place })

-- the fault of what is no line
abbrev pub layout_at : NoLine → Fault
layout_at (Strange p) = record { refusal = Layout; place = p }
layout_at (Wrong p) = record { refusal = Layout; place = p }
