-- From which number to which the calls refuse. Assumes nothing.
use mathlib.Core.Logic.{◌≢◌}
use mathlib.Core.List.{List, [], ◌∷◌, ◌++◌}
use Prim.Native.Nat.{ℕ, ◌≤◌}
use native.Mathlib.Omega.{arith}
use borrow.Author.Tests.{eqb-false}
use lib.Dec.{eqb}
use lib.ListN.{length}
use Rattle.limits.specs.Limits.{Between}
use Rattle.limits.specs.Said.{told}
use Rattle.limits.proofs.Cases.{cond_cases}
use Rattle.map.specs.Map.{map_fault}
use Rattle.map.specs.declared.Side.{Side}
use Rattle.half.specs.Half.{ceiling}
use Rattle.shape.specs.Rules.{turn_told}
use Rattle.area.specs.Finished.{area_fault, route_fault}
use Rattle.bench.specs.Calls.{judged, open_fault, open_said, turn_fault, turn_said}
use Rattle.bench.specs.Areas.{area_said}
use Rattle.bench.specs.Routes.{route_said}
use Rattle.table.specs.Table.{unless, map_checks, open_checks, bench_checks, turn_checks, area_checks, route_checks}
use Rattle.table.proofs.Numbers.{Numbered, told_numbered, refused_numbered}
use Rattle.table.proofs.Judged.{judged_in, numbers_append}
use Rattle.table.proofs.Table.{map_numbers, table}

module _ (map : List ℕ) (n m : ℕ) where
  pub map_in : map_fault n m map ≢ 0 → Between 2 5 (map_fault n m map)
  map_in = judged_in 2 5 (map_checks map n m) (map_fault n m map) (map_numbers map n m (omega arith) (omega arith)) (table map n m).fault

  open_in : (start target stretch : ℕ) (x : List ℕ) → open_fault map n m start target stretch x ≢ 0 → Between 2 5 (open_fault map n m start target stretch x)
  open_in start target stretch x =
      judged_in 2 5 (open_checks map n m start target stretch x) (open_fault map n m start target stretch x)
      (numbers_append 2 5 (map_checks map n m) _ (map_numbers map n m (omega arith) (omega arith)) (omega arith, (omega arith, (omega arith, (omega arith, tt)))))
      ((table map n m).opening start target stretch x)

  module _ (x : List ℕ) where
    turn_in : turn_fault map n m x ≢ 0 → Between 2 6 (turn_fault map n m x)
    turn_in =
        judged_in 2 6 (turn_checks map n m x) (turn_fault map n m x)
        (numbers_append 2 6 (map_checks map n m) _ (map_numbers map n m (omega arith) (omega arith)) (omega arith, (omega arith, tt)))
        ((table map n m).turn x)

    area_in : (locality room : ℕ) → area_fault map n m x locality room ≢ 0 → Between 2 9 (area_fault map n m x locality room)
    area_in locality room =
        judged_in 2 9 (area_checks map n m x locality room) (area_fault map n m x locality room)
        (numbers_append 2 9 (map_checks map n m ++ (unless 5 (locality ≤ ceiling) ∷ bench_checks map n m x)) _
        (numbers_append 2 9 (map_checks map n m) _ (map_numbers map n m (omega arith) (omega arith)) (omega arith, (omega arith, (omega arith, tt))))
        (omega arith, (omega arith, (omega arith, (omega arith, tt)))))
        ((table map n m).area x locality room)

    pub route_in_lem : (crossing room : ℕ) → route_fault map n m x crossing room ≢ 0 → Between 2 10 (route_fault map n m x crossing room)
    route_in_lem crossing room =
        judged_in 2 10 (route_checks map n m x crossing room) (route_fault map n m x crossing room)
        (numbers_append 2 10 (map_checks map n m ++ (unless 4 (Between 1 n crossing) ∷ bench_checks map n m x)) _
        (numbers_append 2 10 (map_checks map n m) _ (map_numbers map n m (omega arith) (omega arith)) (omega arith, (omega arith, (omega arith, tt))))
        (omega arith, (omega arith, (omega arith, (omega arith, (omega arith, tt))))))
        ((table map n m).route x crossing room)

-- ---- what the calls say

judged_numbered : (low high fault : ℕ) (vs : List ℕ) → (fault ≢ 0 → Between low high fault) → Numbered low high (judged fault (told vs))
unfolding judged
judged_numbered low high fault vs b =
    cond_cases (Numbered low high) (eqb fault 0) (λ _. told_numbered low high vs) (λ e. refused_numbered low high fault [] (b (eqb-false _ _ e)))

module _ (map : List ℕ) (n m : ℕ) (x : List ℕ) where
  pub open_numbered : (start target stretch : ℕ) → Numbered 2 5 (open_said map n m start target stretch x)
  unfolding open_said
  open_numbered start target stretch = judged_numbered 2 5 _ _ (open_in map n m start target stretch x)

  pub turn_numbered : (s : Side) → Numbered 2 6 (turn_said s map n m x)
  unfolding turn_said turn_told
  turn_numbered s = judged_numbered 2 6 _ _ (turn_in map n m x)

  pub area_numbered : (locality : ℕ) (mask : List ℕ) → Numbered 2 9 (area_said map n m x locality mask)
  unfolding area_said
  area_numbered locality mask = judged_numbered 2 9 _ _ (area_in map n m x locality (length mask))

  pub route_numbered : (crossing : ℕ) (buffer : List ℕ) → Numbered 2 10 (route_said map n m x crossing buffer)
  unfolding route_said
  route_numbered crossing buffer = judged_numbered 2 10 _ _ (route_in_lem map n m x crossing (length buffer))
