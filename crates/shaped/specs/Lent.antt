-- What every call on a bench asks of what it is lent: the map, a number of the call's own, the room of the bench, and its shape. Assumes nothing.
use Rattle.std.specs.Prelude.{List, ℕ, length}
use Rattle.limits.specs.First.{or_else}
use Rattle.limits.specs.Limits.{room_fault}
use Rattle.map.specs.Map.{map_fault}
use Rattle.shape.specs.Bench.{bench_words, parse}
use Rattle.shaped.specs.Shape.{shape_fault}

-- those of the map, the number given, bench 3, then 6
unfoldable pub lent_fault : List ℕ → ℕ → ℕ → ℕ → List ℕ → ℕ
lent_fault map n m given x =
    or_else (map_fault n m map)
    (or_else given
    (or_else (room_fault (bench_words n) (length x))
    (shape_fault n m (parse n x))))
