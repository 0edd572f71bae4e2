-- What the area call answers, and what the lent mask holds afterward. Assumes nothing.
use Rattle.std.specs.Prelude.{List, [], ◌++◌, ℕ, length, drop, Result}
use Rattle.limits.specs.declared.Refusal.{Refusal}
use Rattle.limits.specs.Said.{Said, told, unless_refused}
use Rattle.shape.specs.Bench.{parse}
use Rattle.route.specs.Area.{mask_of}
use Rattle.area.specs.Finished.{area_fault}
use Rattle.bench.specs.Calls.{said_by, judged}

abbrev pub said_filling : Result (Unit {0}) Refusal → Said
said_filling = said_by (λ _. [])

unfoldable pub area_said : List ℕ → ℕ → ℕ → List ℕ → ℕ → List ℕ → Said
area_said map n m x locality mask = judged (area_fault map n m x locality (length mask)) (told [])

-- refused, the mask stays; else its first n bytes are filled, and later bytes stay
unfoldable pub area_mask : List ℕ → ℕ → ℕ → List ℕ → ℕ → List ℕ → List ℕ
area_mask map n m x locality mask =
    unless_refused (area_said map n m x locality mask) (mask_of map locality (parse n x) ++ drop n mask) mask
