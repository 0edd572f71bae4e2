-- What a route call has that is not refused, and how long its route is. Assumes nothing.
use Rattle.std.proofs.Common.{◌≡◌, ℕ, ◌*◌, ◌-◌, ◌≤◌, eqb, List, length, get_or, refl, sym, ap, ◌∙◌, arith}
use Rattle.limits.specs.Limits.{Between, crossing_fault}
use Rattle.limits.proofs.Laws.{or_else_first, or_else_none, outside_none, room_none}
use Rattle.limits.proofs.Cases.{cond_else}
use borrow.Author.Tests.{eq-eqb, eqb-false}
use Rattle.map.specs.declared.Side.TheVariants.{Forward, Backward}
use Rattle.shape.specs.Bench.{parse, Bench}
use Rattle.shaped.specs.Lent.{lent_fault}
use Rattle.shaped.proofs.Lent.{Ready, lent_ready}
use Rattle.route.specs.Area.{route_of}
use Rattle.trail.proofs.Walking.{trail_short, step_trail}
use Rattle.route.proofs.Routes.{route_size}
use Rattle.area.specs.Finished.{finished_fault, asked_fault, route_fault}
use Rattle.area.proofs.Laws.{finished_routed}

-- ---- the asked crossing

module _ (map : List ℕ) (b : Bench) (crossing room : ℕ) where
  pub unmarked : get_or b.marks (crossing - 1) 0 ≡ 0 → 10 ≡ asked_fault map b crossing room
  unfolding asked_fault
  unmarked z = rw (eq-eqb _ _ z) (sym (or_else_first 10 _ (λ e. omega arith)))

  pub asked_goes : asked_fault map b crossing room ≡ 0 → (get_or b.marks (crossing - 1) 0 ≡ 0 → ⊥) × (length (route_of map b crossing) ≤ room)
  unfolding asked_fault
  asked_goes z =
      let a = or_else_none _ _ z in
      (eqb-false _ _ (cond_else (eqb (get_or b.marks (crossing - 1) 0) 0) a.0 (λ e. omega arith)).0, room_none _ _ a.1)

-- ---- the route call

-- what a call has that is not refused
pub record Routed (map : List ℕ) (n m : ℕ) (x : List ℕ) (crossing room : ℕ) : Type 0 where
  pub ready : Ready map n m x
  pub finished : finished_fault map n m (parse n x) ≡ 0
  pub inside : Between 1 n crossing
  pub asked : asked_fault map (parse n x) crossing room ≡ 0

pub route_routed : (map : List ℕ) (n m : ℕ) (x : List ℕ) (crossing room : ℕ) → route_fault map n m x crossing room ≡ 0 → Routed map n m x crossing room
unfolding route_fault
route_routed map n m x crossing room z =
    let a = or_else_none _ _ z in
    let r = lent_ready map n m (crossing_fault n crossing) x a.0 in
    let b = or_else_none _ _ a.1 in
    record { ready = r.1; finished = b.0; inside = outside_none 1 n 4 crossing (λ w. omega arith) r.0; asked = b.1 }

-- the asked crossing of a call that is not refused for what it is lent
pub lent_inside : (map : List ℕ) (n m : ℕ) (x : List ℕ) (crossing : ℕ) {given : ℕ} → given ≡ crossing_fault n crossing → 0 ≡ lent_fault map n m given x → Between 1 n crossing
lent_inside map n m x crossing e f = outside_none 1 n 4 crossing (λ w. omega arith) (sym e ∙ (lent_ready map n m _ x (sym f)).0)

pub routed_long : {map : List ℕ} {n m : ℕ} {x : List ℕ} {crossing room : ℕ} → Routed map n m x crossing room → Between 1 (2 * n - 1) (length (route_of map (parse n x) crossing))
routed_long {map} {n} {m} {x} {crossing} {room} r =
    let b = parse n x in
    let p = finished_routed crossing r.ready.valid r.ready.shaped r.finished r.inside (asked_goes map b crossing room r.asked).0 in
    rw r.ready.shaped.same_n
    (omega (
      arith,
      route_size b.forward p.1 crossing p.3 refl,
      trail_short Forward map n b.forward crossing,
      trail_short Backward map n b.backward crossing,
      ap length (step_trail p.0 crossing p.2 refl),
      ap length (step_trail p.1 crossing p.3 refl),
    ))
