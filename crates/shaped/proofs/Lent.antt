-- What a call has that is not refused for what it is lent. Assumes nothing.
use mathlib.Core.Path.{◌≡◌}
use mathlib.Core.List.{List}
use Prim.Native.Nat.{ℕ, ◌≤◌}
use lib.ListN.{length}
use Rattle.limits.proofs.Laws.{or_else_none, room_none}
use Rattle.map.specs.Map.{Valid}
use Rattle.map.proofs.Laws.{fault_valid}
use Rattle.shape.specs.Bench.{bench_words, parse, WellShaped}
use Rattle.shape.proofs.Rounds.{parse_room}
use Rattle.shaped.specs.Lent.{lent_fault}
use Rattle.shaped.proofs.Shapes.{fault_shaped}

-- what a call has whose map and bench are not refused
pub record Ready (map : List ℕ) (n m : ℕ) (x : List ℕ) : Type 0 where
  pub valid : Valid n m map
  pub room : bench_words n ≤ length x
  pub shaped : WellShaped n m (parse n x)

pub lent_ready : (map : List ℕ) (n m given : ℕ) (x : List ℕ) → lent_fault map n m given x ≡ 0 → (given ≡ 0) × Ready map n m x
unfolding lent_fault
lent_ready map n m given x z =
    let a = or_else_none _ _ z in
    let b = or_else_none _ _ a.1 in
    let c = or_else_none _ _ b.1 in
    let room = room_none (bench_words n) (length x) c.0 in
    (b.0, record { valid = fault_valid n m map a.0; room = room; shaped = fault_shaped (parse_room n x room) c.1 })
