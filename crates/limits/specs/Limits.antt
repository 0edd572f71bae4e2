-- The ranges of the numbers of a road map and of an order, and the number of refusal of what lies outside; 0 stands for no refusal.
-- Assumes nothing.
use Rattle.std.specs.Prelude.{cond, ℕ, ◌≤◌, ltb}

pub record Between (low high x : ℕ) : Type 0 where
  pub least : low ≤ x
  pub most : x ≤ high

-- the number where x lies outside low to high
unfoldable pub number_outside : ℕ → ℕ → ℕ → ℕ → ℕ
number_outside low high number x = cond (ltb x low) number (cond (ltb high x) number 0)

-- the counts of crossings and of links
abbrev pub n_fault : ℕ → ℕ
n_fault n = number_outside 1 4096 2 n

abbrev pub m_fault : ℕ → ℕ
m_fault m = number_outside 0 16384 2 m

-- a link's end, a start, a target or an asked crossing
abbrev pub crossing_fault : ℕ → ℕ → ℕ
crossing_fault n v = number_outside 1 n 4 v

-- the cost of a link
abbrev pub cost_fault : ℕ → ℕ
cost_fault w = number_outside 1 65535 5 w

-- the stretch of an order, in thousandths
abbrev pub stretch_fault : ℕ → ℕ
stretch_fault stretch = number_outside 1000 4000 5 stretch

-- the locality of an area, in cost units
abbrev pub locality_fault : ℕ → ℕ
locality_fault locality = number_outside 0 268365825 5 locality

-- lent memory of this length, of which so much is needed
unfoldable pub room_fault : ℕ → ℕ → ℕ
room_fault needed lent = cond (ltb lent needed) 3 0
