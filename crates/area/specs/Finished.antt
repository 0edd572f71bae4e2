-- What the area call and the route call refuse, in the document's order; and when a bench is finished: both halves done, a route known,
-- the trails sound. Assumes nothing.
use Rattle.std.specs.Prelude.{cond, ◌&&◌, List, ℕ, ◌-◌, eqb, length, get_or}
use Rattle.limits.specs.First.{or_else}
use Rattle.limits.specs.Limits.{crossing_fault, locality_fault, room_fault}
use Rattle.map.specs.declared.Side.TheVariants.{Forward, Backward}
use Rattle.shape.specs.Bench.{Bench, parse}
use Rattle.shape.specs.Rules.{known, done}
use Rattle.shaped.specs.Lent.{lent_fault}
use Rattle.trail.specs.Sound.{sound_fault, marks_fault}
use Rattle.route.specs.Area.{route_of}

-- ---- a finished bench

-- a half isn't done
unfoldable pub done_fault : Bench → ℕ
done_fault b = cond (done Forward b && done Backward b) 0 8

-- both done, optimum unknown: no route
unfoldable pub unknown_fault : Bench → ℕ
unknown_fault b = cond (known b.optimum) 0 9

-- a mark is not what rule 4 of a turn gives
unfoldable pub rule_fault : ℕ → Bench → ℕ
rule_fault n b = marks_fault n b.stretch b.optimum b.forward b.backward b.marks

-- trails or marks not sound
unfoldable pub trails_fault : List ℕ → ℕ → ℕ → Bench → ℕ
trails_fault map n m b =
    or_else (sound_fault Forward map n m b.start b.forward)
    (or_else (sound_fault Backward map n m b.target b.backward)
    (rule_fault n b))

unfoldable pub finished_fault : List ℕ → ℕ → ℕ → Bench → ℕ
finished_fault map n m b = or_else (done_fault b) (or_else (unknown_fault b) (trails_fault map n m b))

-- ---- area: those of the map, locality 5, bench 3, 6, mask 3, 8, 9, 7

unfoldable pub area_fault : List ℕ → ℕ → ℕ → List ℕ → ℕ → ℕ → ℕ
area_fault map n m x locality room =
    or_else (lent_fault map n m (locality_fault locality) x)
    (or_else (room_fault n room)
    (finished_fault map n m (parse n x)))

-- ---- route: those of the map, crossing 4, bench 3, 6, 8, 9, 7, 10, buffer 3

-- the asked crossing has mark 0, then the room of the buffer
unfoldable pub asked_fault : List ℕ → Bench → ℕ → ℕ → ℕ
asked_fault map b crossing room =
    or_else (cond (eqb (get_or b.marks (crossing - 1) 0) 0) 10 0)
    (room_fault (length (route_of map b crossing)) room)

unfoldable pub route_fault : List ℕ → ℕ → ℕ → List ℕ → ℕ → ℕ → ℕ
route_fault map n m x crossing room =
    or_else (lent_fault map n m (crossing_fault n crossing) x)
    (or_else (finished_fault map n m (parse n x))
    (asked_fault map (parse n x) crossing room))
