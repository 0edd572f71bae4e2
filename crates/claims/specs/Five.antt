-- The starred rows of "Five crossings to check by", as one table about what the public calls promise: the words that opening and turns leave,
-- what a turn answers, the mask of the area call and the part that the route call hands back. Assumes nothing.
use Rattle.std.specs.Prelude.{cond, List, [], ◌∷◌, ◌++◌, ℕ, suc, leb, replicate}
use Rattle.limits.specs.Said.{Said, told, refused, unless_refused}
use Rattle.map.specs.declared.Side.{Side}
use Rattle.map.specs.declared.Side.TheVariants.{Forward, Backward}
use Rattle.half.specs.Half.{unknown}
use Rattle.shape.specs.Bench.{parse}
use Rattle.bench.specs.Calls.{open_words, turn_said}
use Rattle.bench.specs.Areas.{area_said, area_mask}
use Rattle.bench.specs.Routes.{route_said, route_part}
use Rattle.demands.specs.Calls.{turns_words}

-- the links 1 to 7
abbrev pub five : List ℕ
five = 1 ∷ 2 ∷ 4 ∷ 2 ∷ 5 ∷ 6 ∷ 1 ∷ 3 ∷ 5 ∷ 3 ∷ 5 ∷ 6 ∷ 2 ∷ 4 ∷ 1 ∷ 4 ∷ 2 ∷ 1 ∷ 5 ∷ 1 ∷ 9 ∷ []

-- the lent words after opening a bench of 41 of them on the first m links, then i turns forward and j backward
unfoldable pub five_after : ℕ → ℕ → ℕ → ℕ → ℕ → ℕ → List ℕ
five_after m start target stretch i j =
    turns_words five 5 m (replicate i 0 ++ replicate j 1) (open_words five 5 m start target stretch (replicate 41 0))

-- what a row looks at: the next turn of a side; the optimum; the marks; B; BL with a locality; the route through a crossing
pub data Look : Type 0 where
  turn : Side → Look
  optimum : Look
  marks : Look
  area : Look
  local : ℕ → Look
  route : ℕ → Look

-- the crossings whose byte or mark is at least low, the first of these being crossing v's
unfoldable pub crossings_from : ℕ → ℕ → List ℕ → List ℕ
crossings_from low v [] = []
crossings_from low v (x ∷ rest) = cond (leb low x) (v ∷ crossings_from low (suc v) rest) (crossings_from low (suc v) rest)

-- the crossings that the area call gives such a byte in a mask of 5, or its refusal
unfoldable pub area_shown : ℕ → ℕ → List ℕ → ℕ → Said
area_shown low m x locality =
    let said = area_said five 5 m x locality (replicate 5 0) in
    unless_refused said (told (crossings_from low 1 (area_mask five 5 m x locality (replicate 5 0)))) said

-- the part of a buffer of 5 words that the route call hands back, or its refusal
unfoldable pub route_shown : ℕ → List ℕ → ℕ → Said
route_shown m x crossing =
    let said = route_said five 5 m x crossing (replicate 5 0) in
    unless_refused said (told (route_part five 5 m x crossing (replicate 5 0))) said

unfoldable pub shown : Look → ℕ → List ℕ → Said
shown (turn s) m x = turn_said s five 5 m x
shown optimum m x = told ((parse 5 x).optimum ∷ [])
shown marks m x = told (crossings_from 1 1 (parse 5 x).marks)
shown area m x = area_shown 1 m x 0
shown (local locality) m x = area_shown 2 m x locality
shown (route crossing) m x = route_shown m x crossing

-- links, start, target, stretch; so many turns forward, so many backward; what is then looked at, and what it shows
pub data Row : Type 0 where
  row : ℕ → ℕ → ℕ → ℕ → ℕ → ℕ → Look → Said → Row

unfoldable pub row_shows : Row → Said
row_shows (row m start target stretch i j look said) = shown look m (five_after m start target stretch i j)

unfoldable pub row_says : Row → Said
row_says (row m start target stretch i j look said) = said

unfoldable pub each : (Row → Said) → List Row → List Said
each f [] = []
each f (r ∷ rest) = f r ∷ each f rest

unfoldable pub rows : List Row
rows =
    -- "Optimum 10. Stretch 1,099: B is 1 2 5. 1,100 and 1,199: 1 2 3 5. 1,200: all."
    row 7 1 5 1099 5 5 optimum (told (10 ∷ []))
    ∷ row 7 1 5 1099 5 5 area (told (1 ∷ 2 ∷ 5 ∷ []))
    ∷ row 7 1 5 1100 5 5 area (told (1 ∷ 2 ∷ 3 ∷ 5 ∷ []))
    ∷ row 7 1 5 1199 5 5 area (told (1 ∷ 2 ∷ 3 ∷ 5 ∷ []))
    ∷ row 7 1 5 1200 5 5 area (told (1 ∷ 2 ∷ 3 ∷ 4 ∷ 5 ∷ []))
    -- "forward turns settle 1 at 0, 2 at 4, 3 at 5, 4 at 5, 5 at 10, then Done"
    ∷ row 7 1 5 1200 0 0 (turn Forward) (told (1 ∷ 0 ∷ []))
    ∷ row 7 1 5 1200 1 0 (turn Forward) (told (2 ∷ 4 ∷ []))
    ∷ row 7 1 5 1200 2 0 (turn Forward) (told (3 ∷ 5 ∷ []))
    ∷ row 7 1 5 1200 3 0 (turn Forward) (told (4 ∷ 5 ∷ []))
    ∷ row 7 1 5 1200 4 0 (turn Forward) (told (5 ∷ 10 ∷ []))
    ∷ row 7 1 5 1200 5 0 (turn Forward) (told [])
    -- "backward 5 at 0, 2 at 6, 3 at 6, 4 at 7, 1 at 10"
    ∷ row 7 1 5 1200 0 0 (turn Backward) (told (5 ∷ 0 ∷ []))
    ∷ row 7 1 5 1200 0 1 (turn Backward) (told (2 ∷ 6 ∷ []))
    ∷ row 7 1 5 1200 0 2 (turn Backward) (told (3 ∷ 6 ∷ []))
    ∷ row 7 1 5 1200 0 3 (turn Backward) (told (4 ∷ 7 ∷ []))
    ∷ row 7 1 5 1200 0 4 (turn Backward) (told (1 ∷ 10 ∷ []))
    -- "Four turns each: optimum unknown, no mark. One more forward: marks 2 3 4 5."
    ∷ row 7 1 5 1200 4 4 optimum (told (unknown ∷ []))
    ∷ row 7 1 5 1200 4 4 marks (told [])
    ∷ row 7 1 5 1200 5 4 marks (told (2 ∷ 3 ∷ 4 ∷ 5 ∷ []))
    -- "locality 0, BL is all; 1: without 4; 4: the same; 5: 1 2 5"
    ∷ row 7 1 5 1200 5 5 (local 0) (told (1 ∷ 2 ∷ 3 ∷ 4 ∷ 5 ∷ []))
    ∷ row 7 1 5 1200 5 5 (local 1) (told (1 ∷ 2 ∷ 3 ∷ 5 ∷ []))
    ∷ row 7 1 5 1200 5 5 (local 4) (told (1 ∷ 2 ∷ 3 ∷ 5 ∷ []))
    ∷ row 7 1 5 1200 5 5 (local 5) (told (1 ∷ 2 ∷ 5 ∷ []))
    -- "route through 4 is 1 2 4 2 5"
    ∷ row 7 1 5 1200 5 5 (route 4) (told (1 ∷ 2 ∷ 4 ∷ 2 ∷ 5 ∷ []))
    -- "Start and target 3, stretch 4,000: optimum 0, B is 3."
    ∷ row 7 3 3 4000 5 5 optimum (told (0 ∷ []))
    ∷ row 7 3 3 4000 5 5 area (told (3 ∷ []))
    -- "Without the last link (m = 6), start 5, target 1: one turn each settles, both done, refusal 9."
    ∷ row 6 5 1 1000 0 0 (turn Forward) (told (5 ∷ 0 ∷ []))
    ∷ row 6 5 1 1000 1 0 (turn Backward) (told (1 ∷ 0 ∷ []))
    ∷ row 6 5 1 1000 1 1 (turn Forward) (told [])
    ∷ row 6 5 1 1000 1 1 (turn Backward) (told [])
    ∷ row 6 5 1 1000 1 1 area (refused 9 [])
    ∷ row 6 5 1 1000 1 1 (route 5) (refused 9 [])
    ∷ []
