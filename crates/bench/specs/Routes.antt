-- What the route calls answer, what they hand back and what the lent buffer holds afterward, for all inputs. Assumes nothing.
use Rattle.std.specs.Prelude.{List, [], ◌∷◌, ◌++◌, ℕ, length, drop, Result, Ok, Err}
use Rattle.limits.specs.declared.Refusal.{Refusal}
use Rattle.limits.specs.Said.{Said, told, unless_refused}
use Rattle.shape.specs.Bench.{parse}
use Rattle.route.specs.Area.{route_of}
use Rattle.area.specs.Finished.{route_fault}
use Rattle.bench.specs.Calls.{said_by, judged}

abbrev pub said_routing : Result ℕ Refusal → Said
said_routing = said_by (λ k. k ∷ [])

-- how many words of the buffer are filled
abbrev pub filled_words : Result ℕ Refusal → ℕ
filled_words (Ok k) = k
filled_words (Err r) = 0

-- the length of the route
unfoldable pub route_said : List ℕ → ℕ → ℕ → List ℕ → ℕ → List ℕ → Said
route_said map n m x crossing buffer = judged (route_fault map n m x crossing (length buffer)) (told (length (route_of map (parse n x) crossing) ∷ []))

-- the part handed back: no words on a refusal, else the route
unfoldable pub route_part : List ℕ → ℕ → ℕ → List ℕ → ℕ → List ℕ → List ℕ
route_part map n m x crossing buffer = unless_refused (route_said map n m x crossing buffer) (route_of map (parse n x) crossing) []

-- refused, the buffer stays; else it begins with the route, and its later words stay
unfoldable pub route_buffer : List ℕ → ℕ → ℕ → List ℕ → ℕ → List ℕ → List ℕ
route_buffer map n m x crossing buffer =
    unless_refused (route_said map n m x crossing buffer)
    (route_of map (parse n x) crossing ++ drop (length (route_of map (parse n x) crossing)) buffer)
    buffer
