-- What an area call has that is not refused. Assumes nothing.
use Rattle.std.proofs.Common.{◌≡◌, ℕ, ◌≤◌, List}
use Rattle.limits.specs.Limits.{locality_fault}
use Rattle.limits.proofs.Laws.{or_else_none, room_none}
use Rattle.shaped.proofs.Lent.{Ready, lent_ready}
use Rattle.area.specs.Finished.{area_fault}

-- a call that is not refused
pub record Filled (map : List ℕ) (n m : ℕ) (x : List ℕ) (room : ℕ) : Type 0 where
  pub ready : Ready map n m x
  pub fits : n ≤ room

pub area_filled : (map : List ℕ) (n m : ℕ) (x : List ℕ) (locality room : ℕ) → area_fault map n m x locality room ≡ 0 → Filled map n m x room
unfolding area_fault
area_filled map n m x locality room z =
    let a = or_else_none _ _ z in
    let r = (lent_ready map n m (locality_fault locality) x a.0).1 in
    let b = or_else_none _ _ a.1 in
    record { ready = r; fits = room_none n room b.0 }
