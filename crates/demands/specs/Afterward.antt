-- What the area call and the route call give on a bench that came from opening, as statements, the document's or the user's sentence above each.
-- They are over a bench b: they hold of the bench at any two counts, so of what any mixture of turns leaves. Assumes nothing.
use Rattle.std.specs.Prelude.{◌≡◌, ◌≢◌, ◌↔◌, List, ℕ, ◌+◌, ◌-◌, ◌≤◌, length, get_or}
use Rattle.limits.specs.Limits.{Between}
use Rattle.map.specs.declared.Side.TheVariants.{Forward}
use Rattle.half.specs.Half.{ceiling}
use Rattle.shape.specs.Bench.{Bench, words}
use Rattle.trail.specs.Trail.{Drive}
use Rattle.route.specs.Area.{route_of}
use Rattle.area.specs.Finished.{area_fault, route_fault}
use Rattle.bench.specs.Areas.{area_mask}
use Rattle.bench.specs.Calls.{turn_fault}
use Rattle.bench.specs.Routes.{route_part}
use Rattle.demands.specs.Demands.{InArea, Route, NoWalk, Finished}
use Rattle.demands.specs.Trails.{InLocal, RouteThrough}

module _ (map : List ℕ) (n m start target stretch : ℕ) where
  -- the numbers of refusal of a call with this bench lent, 0 for none
  module _ (b : Bench) where
    abbrev pub area_number : ℕ → ℕ → ℕ
    area_number locality room = area_fault map n m (words b) locality room

    abbrev pub route_number : ℕ → ℕ → ℕ
    route_number crossing room = route_fault map n m (words b) crossing room

    -- what the area call leaves in a lent mask at crossing v
    abbrev pub byte_of : ℕ → List ℕ → ℕ → ℕ
    byte_of locality mask v = get_or (area_mask map n m (words b) locality mask) (v - 1) 0

  pub record Afterward (b : Bench) : Type 0 where
    -- "Calls after opening with the same map and bench never meet 6 or 7."
    pub turn_goes : turn_fault map n m (words b) ≡ 0
    pub area_shaped : (locality room : ℕ) → area_number b locality room ≢ 6
    pub area_sound : (locality room : ℕ) → area_number b locality room ≢ 7
    pub route_shaped : (crossing room : ℕ) → route_number b crossing room ≢ 6
    pub route_sound : (crossing room : ℕ) → route_number b crossing room ≢ 7
    -- ""No route" is then, with nothing else amiss in the call, given exactly if no walk leads from start to target."
    pub area_none : Finished map n m start target stretch b → (locality room : ℕ) → locality ≤ ceiling → n ≤ room
        → (area_number b locality room ≡ 9) ↔ NoWalk map n m start target stretch
    pub route_none : Finished map n m start target stretch b → (crossing room : ℕ) → Between 1 n crossing
        → (route_number b crossing room ≡ 9) ↔ NoWalk map n m start target stretch
    -- "asked crossing has mark 0": with a route, exactly outside B
    pub route_unmarked : Finished map n m start target stretch b → (o : ℕ) → Route map n m start target stretch o → (crossing room : ℕ) → Between 1 n crossing
        → (route_number b crossing room ≡ 10) ↔ (InArea map m start target stretch crossing → ⊥)
    -- "a call that meets none of it isn't refused"
    pub area_goes : Finished map n m start target stretch b → (o : ℕ) → Route map n m start target stretch o
        → (locality room : ℕ) → locality ≤ ceiling → n ≤ room → area_number b locality room ≡ 0
    pub route_goes : Finished map n m start target stretch b → (crossing room : ℕ) → Between 1 n crossing → InArea map m start target stretch crossing
        → length (route_of map b crossing) ≤ room → route_number b crossing room ≡ 0
    -- "It fills the first n bytes of a lent mask: 0 unmarked, 1 in B only, 2 also in BL."
    pub mask_unmarked : (locality : ℕ) (mask : List ℕ) → area_number b locality (length mask) ≡ 0 → (v : ℕ) → Between 1 n v
        → (byte_of b locality mask v ≡ 0) ↔ (InArea map m start target stretch v → ⊥)
    pub mask_area : (locality : ℕ) (mask : List ℕ) → area_number b locality (length mask) ≡ 0 → (v : ℕ) → Between 1 n v
        → (byte_of b locality mask v ≡ 1) ↔ (InArea map m start target stretch v × (InLocal map m start target stretch locality v → ⊥))
    pub mask_local : (locality : ℕ) (mask : List ℕ) → area_number b locality (length mask) ≡ 0 → (v : ℕ) → Between 1 n v
        → (byte_of b locality mask v ≡ 2) ↔ InLocal map m start target stretch locality v
    -- "The route call, for a marked crossing, writes start, .., I, .., target along the two trails": so it goes over links of the map, at the two
    -- least costs of I
    pub route_trails : (v : ℕ) (buffer : List ℕ) → route_number b v (length buffer) ≡ 0 → RouteThrough map m start target v (route_part map n m (words b) v buffer)
    pub route_leads : (v : ℕ) (buffer : List ℕ) → route_number b v (length buffer) ≡ 0
        → (p : InArea map m start target stretch v) × Drive Forward map m start target (route_part map n m (words b) v buffer) (p.from + p.to)
    -- "The route through the target is the optimal route printed in a booklet."
    pub route_optimal : Finished map n m start target stretch b → (o : ℕ) → Route map n m start target stretch o
        → (buffer : List ℕ) → length (route_of map b target) ≤ length buffer
        → (route_number b target (length buffer) ≡ 0) × Drive Forward map m start target (route_part map n m (words b) target buffer) o
