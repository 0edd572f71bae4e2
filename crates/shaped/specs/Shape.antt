-- The check of a bench's shape for a map of n crossings and m links: 6 for whatever is not well shaped, 0 stands for no refusal. Assumes nothing.
use Rattle.std.specs.Prelude.{cond, List, ℕ, ◌-◌, eqb, get_or}
use Rattle.limits.specs.First.{or_else, all_fine}
use Rattle.limits.specs.Limits.{number_outside}
use Rattle.half.specs.Half.{unknown, ceiling, entry}
use Rattle.half.specs.declared.Entry.{Entry}
use Rattle.shape.specs.Bench.{Bench}

-- where two words differ
unfoldable pub unlike : ℕ → ℕ → ℕ
unlike a b = cond (eqb a b) 0 6

-- ---- the halves

-- an unseen crossing holds the two words of one
unfoldable pub unseen_fault : Entry → ℕ
unseen_fault e = or_else (unlike e.dist unknown) (unlike e.link 0)

-- others hold a distance up to the ceiling, a link number up to m and state 1 or 2
unfoldable pub seen_fault : ℕ → Entry → ℕ
seen_fault m e =
    or_else (number_outside 0 ceiling 6 e.dist) (or_else (number_outside 0 m 6 e.link) (number_outside 1 2 6 e.state))

unfoldable pub entry_fault : ℕ → Entry → ℕ
entry_fault m e = cond (eqb e.state 0) (unseen_fault e) (seen_fault m e)

unfoldable pub half_fault : ℕ → ℕ → List ℕ → ℕ
half_fault n m h = cond (all_fine (λ v. entry_fault m (entry n h v)) n) 0 6

-- ---- the marks are 0 or 1

unfoldable pub marks_fault : ℕ → List ℕ → ℕ
marks_fault n marks = cond (all_fine (λ v. number_outside 0 1 6 (get_or marks (v - 1) 0)) n) 0 6

-- ---- words 0 to 5

-- n and m agree with the map
unfoldable pub size_fault : ℕ → ℕ → Bench → ℕ
size_fault n m b = or_else (unlike b.n n) (unlike b.m m)

-- start and target are in 1 to n
unfoldable pub ends_fault : ℕ → Bench → ℕ
ends_fault n b = or_else (number_outside 1 n 6 b.start) (number_outside 1 n 6 b.target)

-- the optimum is unknown or at most the ceiling
unfoldable pub optimum_fault : ℕ → ℕ
optimum_fault o = cond (eqb o unknown) 0 (number_outside 0 ceiling 6 o)

unfoldable pub head_fault : ℕ → ℕ → Bench → ℕ
head_fault n m b =
    or_else (size_fault n m b)
    (or_else (ends_fault n b)
    (or_else (number_outside 1000 4000 6 b.stretch)
    (optimum_fault b.optimum)))

-- ---- the bench: its head, then the halves, then the marks

unfoldable pub shape_fault : ℕ → ℕ → Bench → ℕ
shape_fault n m b =
    or_else (head_fault n m b)
    (or_else (half_fault n m b.forward)
    (or_else (half_fault n m b.backward)
    (marks_fault n b.marks)))
