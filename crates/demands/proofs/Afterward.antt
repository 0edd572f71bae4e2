-- What the calls give on a bench that came from opening, for every order on a valid map and any mixture of turns. Assumes nothing.
use mathlib.Core.Path.{◌≡◌, refl, sym, ap₂, ◌∙◌, subst, subst⁻¹}
use mathlib.Core.Bool.{Bool, true, false, ◌&&◌, true≢false}
use mathlib.Core.Logic.{◌↔◌, dite}
use mathlib.Core.List.{List}
use Prim.Native.Nat.{ℕ, ◌+◌, ◌-◌, ◌≤◌}
use native.Mathlib.Decide.{ℕ_discrete}
use native.Mathlib.Omega.{arith}
use borrow.Author.Tests.{eq-eqb}
use lib.ListN.{length, get_or, drop, get_or-append}
use Rattle.limits.specs.Limits.{Between}
use Rattle.map.specs.Walk.{stay, Least, by_side}
use Rattle.map.specs.declared.Side.{Side}
use Rattle.map.specs.declared.Side.TheVariants.{Forward, Backward}
use Rattle.map.proofs.Walks.{least_unique}
use Rattle.shape.specs.Bench.{Bench, root, words, WellShaped, opened}
use Rattle.shape.proofs.Rounds.{shaped_room, parse_words}
use Rattle.trail.specs.Trail.{trail, Drive}
use Rattle.route.specs.Area.{local_in, mask_at, mask_in, route_in, route_of}
use Rattle.route.proofs.Masks.{mask_unmarked, mask_first, mask_second, mask_both, mask_length, mask_of_lem}
use Rattle.route.proofs.Routes.{route_drive}
use Rattle.area.specs.Finished.{area_fault, route_fault}
use Rattle.bench.specs.Areas.{area_said, area_mask}
use Rattle.bench.specs.Calls.{judged}
use Rattle.bench.specs.Routes.{route_said, route_part}
use Rattle.demands.specs.Mixture.{Order, bench_at}
use Rattle.demands.specs.Demands.{InArea, Route, Finished, left}
use Rattle.demands.specs.Trails.{InLocal, RouteThrough}
use Rattle.demands.specs.Afterward.{Afterward, byte_of}
use Rattle.demands.proofs.Run.{bench, run_opened}
use Rattle.demands.proofs.Area.{ends_in}
use Rattle.demands.proofs.Demands.{demand_2_at, sound_at_lem}
use Rattle.demands.proofs.Calls.{turn_fine}
use Rattle.demands.proofs.Refusals.{sound_half, area_done, route_done, area_fine, route_fine, area_none, area_goes, route_none, route_unmarked, route_goes}
use Rattle.demands.proofs.Trails.{held, settled_both, local_both}

-- the three bytes of a mask, by a crossing's mark and its two tests
data Byte (x : ℕ) (A L : Type 0) : Type 0 where
  unmarked : x ≡ 0 → (A → ⊥) → (L → ⊥) → Byte x A L
  area_only : x ≡ 1 → A → (L → ⊥) → Byte x A L
  also_local : x ≡ 2 → A → L → Byte x A L

module _ {x : ℕ} {A L : Type 0} where
  byte_unmarked : Byte x A L → (x ≡ 0) ↔ (A → ⊥)
  byte_unmarked (unmarked e a l) = (λ _. a, λ _. e)
  byte_unmarked (area_only e a l) = (λ z. absurd (omega arith), λ f. absurd (f a))
  byte_unmarked (also_local e a l) = (λ z. absurd (omega arith), λ f. absurd (f a))

  byte_area : Byte x A L → (x ≡ 1) ↔ (A × (L → ⊥))
  byte_area (unmarked e a l) = (λ z. absurd (omega arith), λ f. absurd (a f.0))
  byte_area (area_only e a l) = (λ _. (a, l), λ _. e)
  byte_area (also_local e a l) = (λ z. absurd (omega arith), λ f. absurd (f.1 l))

  byte_local : Byte x A L → (x ≡ 2) ↔ L
  byte_local (unmarked e a l) = (λ z. absurd (omega arith), λ f. absurd (l f))
  byte_local (area_only e a l) = (λ z. absurd (omega arith), λ f. absurd (l f))
  byte_local (also_local e a l) = (λ _. l, λ _. e)

-- ---- what a call on a well-shaped bench gives that is not refused

module _ (map : List ℕ) {n m : ℕ} {b : Bench} (w : WellShaped n m b) where
  pub mask_byte : (locality : ℕ) (mask : List ℕ) → area_fault map n m (words b) locality (length mask) ≡ 0 → (v : ℕ) → Between 1 n v
      → get_or (area_mask map n m (words b) locality mask) (v - 1) 0 ≡ mask_at map n locality b.forward b.backward b.marks v
  unfolding area_mask area_said judged
  mask_byte locality mask z v cv =
      rw (eq-eqb _ 0 z, parse_words n b (shaped_room w), w.same_n)
      (get_or-append (mask_in map n locality b.forward b.backward b.marks) (drop n mask) 0 (v - 1)
      (omega (arith, mask_length map n locality b.forward b.backward b.marks))
      ∙ mask_of_lem map n locality b.forward b.backward b.marks v cv)

  pub part_route : (v : ℕ) (buffer : List ℕ) → route_fault map n m (words b) v (length buffer) ≡ 0 → route_part map n m (words b) v buffer ≡ route_of map b v
  unfolding route_part route_said judged
  part_route v buffer z = rw (eq-eqb _ 0 z, parse_words n b (shaped_room w))

-- ---- on a bench that came from opening

module _ {map : List ℕ} {n m start target stretch : ℕ} (order : Order map n m start target stretch) (past : List ℕ) (i j : ℕ) where
  abbrev b : Bench
  b = bench order past i j

  shaped : WellShaped n m b
  shaped = (sound_at_lem order past i j).well_shaped

  -- ---- the mask

  byte_at : Finished map n m start target stretch b → (locality v : ℕ) → Between 1 n v
      → Byte (mask_at map n locality b.forward b.backward b.marks v) (InArea map m start target stretch v) (InLocal map m start target stretch locality v)
  byte_at d locality v cv =
      dite (ℕ_discrete (get_or b.marks (v - 1) 0) 1)
      (λ one.
      let p = marked.0 one in
      go one p (local_in Forward map n locality b.forward b.backward v) (local_in Backward map n locality b.backward b.forward v) refl refl (local_both order past i j d v cv p locality))
      (λ ne. unmarked (sym (mask_unmarked map n locality b.forward b.backward b.marks v ne)) (λ p. ne (marked.1 p)) (λ l. ne (marked.1 l.area)))
    where
      marked : (get_or b.marks (v - 1) 0 ≡ 1) ↔ InArea map m start target stretch v
      marked = (demand_2_at order past i j).marked_area d v cv

      go : get_or b.marks (v - 1) 0 ≡ 1 → InArea map m start target stretch v → (s t : Bool)
          → s ≡ local_in Forward map n locality b.forward b.backward v → t ≡ local_in Backward map n locality b.backward b.forward v
          → ((s && t) ≡ true) ↔ InLocal map m start target stretch locality v
          → Byte (mask_at map n locality b.forward b.backward b.marks v) (InArea map m start target stretch v) (InLocal map m start target stretch locality v)
      go one p true true e f w = also_local (sym (mask_both map n locality b.forward b.backward b.marks v one e refl f refl)) p (w.0 refl)
      go one p true false e f w = area_only (sym (mask_second map n locality b.forward b.backward b.marks v one e refl f refl)) p (λ l. true≢false (sym (w.1 l)))
      go one p false t e f w = area_only (sym (mask_first map n locality b.forward b.backward b.marks v one e refl)) p (λ l. true≢false (sym (w.1 l)))

  byte : (locality : ℕ) (mask : List ℕ) → area_fault map n m (words b) locality (length mask) ≡ 0 → (v : ℕ) → Between 1 n v
      → Byte (byte_of map n m start target stretch b locality mask v) (InArea map m start target stretch v) (InLocal map m start target stretch locality v)
  byte locality mask z v cv = rw (mask_byte map shaped locality mask z v cv) (byte_at (area_done order past i j locality (length mask) z) locality v cv)

  -- ---- the route

  root_of : (s : Side) → root s b ≡ by_side s start target
  unfolding bench_at opened
  root_of Forward = refl
  root_of Backward = refl

  drive : Finished map n m start target stretch b → (v : ℕ) → Between 1 n v → (p : InArea map m start target stretch v)
      → Drive Forward map m start target (route_of map b v) (p.from + p.to)
  unfolding bench_at opened
  drive d v cv p =
      let there = settled_both order past i j d v cv p Forward in
      let on = settled_both order past i j d v cv p Backward in
      subst (Drive Forward map m start target (route_of map b v)) (ap₂ ◌+◌ there.1 on.1)
      (route_drive b order.valid shaped (λ s. rw (root_of s) (sound_half order past i j s (d s))) v there.0 on.0)

  -- a route is handed back for a crossing of the area only
  asked : (v room : ℕ) → route_fault map n m (words b) v room ≡ 0 → Finished map n m start target stretch b × Between 1 n v × InArea map m start target stretch v
  asked v room z =
      let (d, cv, ne) = route_done order past i j v room z in
      let one : get_or b.marks (v - 1) 0 ≡ 1 = omega (arith, shaped.marks_in v cv) in
      (d, cv, ((demand_2_at order past i j).marked_area d v cv).0 one)

  trails : (v : ℕ) (buffer : List ℕ) → route_fault map n m (words b) v (length buffer) ≡ 0 → RouteThrough map m start target v (route_part map n m (words b) v buffer)
  unfolding bench_at opened route_in
  trails v buffer z =
      let (d, cv, p) = asked v (length buffer) z in
      record {
        there = trail Forward map n b.forward v;
        on = trail Backward map n b.backward v;
        there_trail = held order past i j d Forward v (settled_both order past i j d v cv p Forward).0;
        on_trail = held order past i j d Backward v (settled_both order past i j d v cv p Backward).0;
        joined = part_route map shaped v buffer z;
      }

  leads : (v : ℕ) (buffer : List ℕ) → route_fault map n m (words b) v (length buffer) ≡ 0
      → (p : InArea map m start target stretch v) × Drive Forward map m start target (route_part map n m (words b) v buffer) (p.from + p.to)
  leads v buffer z =
      let (d, cv, p) = asked v (length buffer) z in
      (p, rw (part_route map shaped v buffer z) (drive d v cv p))

  optimal : Finished map n m start target stretch b → (o : ℕ) → Route map n m start target stretch o
      → (buffer : List ℕ) → length (route_of map b target) ≤ length buffer
      → (route_fault map n m (words b) target (length buffer) ≡ 0) × Drive Forward map m start target (route_part map n m (words b) target buffer) o
  optimal d o r buffer fits =
      let z = route_goes order past i j d target (length buffer) order.target_in (ends_in order o r Backward) fits in
      let (p, w) = leads target buffer z in
      let here : Least Forward map m target target 0 = record { walk = stay refl refl; least = λ c _. omega arith } in
      let e : p.from + p.to ≡ o = omega (arith, least_unique p.from_least r, least_unique p.to_least here) in
      (z, subst (Drive Forward map m start target (route_part map n m (words b) target buffer)) e w)

  -- ---- the statements

  pub afterward_at : Afterward map n m start target stretch b
  afterward_at =
      record {
        turn_goes = turn_fine order.valid shaped;
        area_shaped = λ locality room. (area_fine order past i j locality room).0;
        area_sound = λ locality room. (area_fine order past i j locality room).1;
        route_shaped = λ v room. (route_fine order past i j v room).0;
        route_sound = λ v room. (route_fine order past i j v room).1;
        area_none = area_none order past i j;
        route_none = route_none order past i j;
        route_unmarked = route_unmarked order past i j;
        area_goes = area_goes order past i j;
        route_goes = route_goes order past i j;
        mask_unmarked = λ locality mask z v cv. byte_unmarked (byte locality mask z v cv);
        mask_area = λ locality mask z v cv. byte_area (byte locality mask z v cv);
        mask_local = λ locality mask z v cv. byte_local (byte locality mask z v cv);
        route_trails = trails;
        route_leads = leads;
        route_optimal = optimal;
      }

pub afterward : {map : List ℕ} {n m start target stretch : ℕ} → Order map n m start target stretch → (past : List ℕ) (schedule : List Side)
    → Afterward map n m start target stretch (left map n m start target stretch past schedule)
afterward {map} {n} {m} {start} {target} {stretch} order past schedule =
    subst⁻¹ (Afterward map n m start target stretch) (run_opened order past schedule) (afterward_at order past _ _)
