-- The route through x: it leads from start to target along links of the map, passes x, and costs the two distances of x. Assumes nothing.
use mathlib.Core.Path.{◌≡◌, refl, sym, ◌∙◌, ap, subst₂}
use mathlib.Core.List.{List, ◌∷◌, ◌++◌, reverse, reverse_aux, reverse_aux-eq, reverse-cons}
use Prim.Native.Nat.{ℕ, ◌+◌, ◌*◌, ◌-◌}
use native.Mathlib.Omega.{arith}
use lib.ListN.{length, get_or, length-append, length-reverse}
use lib.Seq.{append_snoc, get_or_at, sets}
use Rattle.limits.specs.Limits.{Between}
use Rattle.map.specs.Map.{cost, Valid}
use Rattle.map.specs.Walk.{other}
use Rattle.map.specs.declared.Side.{Side}
use Rattle.map.specs.declared.Side.TheVariants.{Forward, Backward}
use Rattle.map.proofs.Walks.{near_other, far_other}
use Rattle.half.specs.Half.{dist}
use Rattle.shape.specs.Bench.{Bench, half, root, WellShaped}
use Rattle.trail.specs.Sound.{SoundHalf}
use Rattle.trail.specs.Trail.{after, trail, Settled, Trails, Drive, rests, goes}
use Rattle.trail.proofs.Walking.{trail_short, step_trail}
use Rattle.trail.proofs.Soundness.{sound_trails}
use Rattle.trail.proofs.Drives.{trail_drive}
use Rattle.route.specs.Area.{route_in}
use Rattle.limits.proofs.Lists.{sets_append}

-- ---- the route's two parts

module _ {map : List ℕ} {n : ℕ} (f : List ℕ) {g : List ℕ} (backward : Trails Backward map n g) (x : ℕ) (s : Settled n g x) {y : ℕ} (e : y ≡ after Backward map n g x) where
  pub route_parts : route_in map n f g x ≡ reverse (trail Forward map n f x) ++ trail Backward map n g y
  unfolding route_in
  route_parts = rw (step_trail backward x s e)

  pub route_size : length (route_in map n f g x) ≡ length (trail Forward map n f x) + length (trail Backward map n g y)
  route_size =
      ap length route_parts
      ∙ length-append (reverse (trail Forward map n f x)) (trail Backward map n g y)
      ∙ ap (λ (k : ℕ). k + length (trail Backward map n g y)) (length-reverse (trail Forward map n f x))

  pub route_written : (l : List ℕ) {k : ℕ} {there all : List ℕ} → k ≡ length (trail Forward map n f x) → there ≡ sets l 0 (reverse (trail Forward map n f x)) → all ≡ sets there k (trail Backward map n g y) → all ≡ sets l 0 (route_in map n f g x)
  route_written l {k} p q r =
      let z : 0 + length (reverse (trail Forward map n f x)) ≡ k = omega (arith, length-reverse (trail Forward map n f x)) in
      r
      ∙ ap (λ (w : List ℕ). sets w k (trail Backward map n g y)) q
      ∙ ap (λ (j : ℕ). sets (sets l 0 (reverse (trail Forward map n f x))) j (trail Backward map n g y)) (sym z)
      ∙ sym (ap (sets l 0) route_parts ∙ sets_append (reverse (trail Forward map n f x)) (trail Backward map n g y) l 0)

-- ---- a drive backward along the one list, and then on along the other

joined : {s : Side} {map : List ℕ} {m u v w c d e : ℕ} {qs acc : List ℕ} → Drive (other s) map m u w qs c → Drive s map m u v (u ∷ acc) d → e ≡ c + d → Drive s map m w v (reverse_aux qs acc) e
joined {s} {map} {m} {u} {v} {d = d} {e = e} {acc = acc} (rests a b z) q y =
    let f : d ≡ e = omega arith in rw b (subst₂ (λ (i j : ℕ). Drive s map m i v (u ∷ acc) j) a f q)
joined {s} {map} {m} {d = d} (goes k i a b f r z) q y =
    rw f (joined r (goes {c = cost map k + d} k i (sym (far_other s map k) ∙ b) (sym (near_other s map k) ∙ a) refl q refl) (omega arith))

-- ---- on a bench with sound trails

module _ {n m : ℕ} {map : List ℕ} (b : Bench) (valid : Valid n m map) (shaped : WellShaped n m b) (sound : (s : Side) → SoundHalf s map n m (root s b) (half s b)) (x : ℕ) (there : Settled n b.forward x) (on : Settled n b.backward x) where
  walk : (s : Side) → Trails s map n (half s b)
  walk s = sound_trails s map n m (root s b) (half s b) valid (shaped.halves s) (sound s)

  halves : (s : Side) → Settled n (half s b) x
  halves Forward = there
  halves Backward = on

  legs : (s : Side) → Drive (other s) map m x (root s b) (trail s map n (half s b) x) (dist (half s b) x)
  legs s = trail_drive s map n m (root s b) (half s b) valid (shaped.halves s) (sound s) x (halves s)

  rest : List ℕ
  rest = trail Backward map n b.backward (after Backward map n b.backward x)

  -- it leads from start to target along links of the map and costs the two distances of x
  pub route_drive : Drive Forward map m b.start b.target (route_in map n b.forward b.backward x) (dist b.forward x + dist b.backward x)
  unfolding rest other
  route_drive =
      rw (route_parts b.forward (walk Backward) x on refl)
      (rw (sym (reverse_aux-eq (trail Forward map n b.forward x) rest))
      (joined {s = Forward} (legs Forward) (rw (step_trail (walk Backward) x on refl) at (legs Backward)) refl))

  pub route_long : Between 1 (2 * n - 1) (length (route_in map n b.forward b.backward x))
  route_long =
      omega (
        arith,
        route_size b.forward (walk Backward) x on refl,
        trail_short Forward map n b.forward x,
        trail_short Backward map n b.backward x,
        ap length (step_trail (walk Forward) x there refl),
        ap length (step_trail (walk Backward) x on refl),
      )

  -- x stands behind the trail that led to it
  pub route_passes : get_or (route_in map n b.forward b.backward x) (length (trail Forward map n b.forward x) - 1) 0 ≡ x
  unfolding rest
  route_passes =
      let t = step_trail (walk Forward) x there refl in
      let first = trail Forward map n b.forward (after Forward map n b.forward x) in
      let k : length (reverse first) ≡ length (trail Forward map n b.forward x) - 1 = omega (arith, length-reverse first, ap length t) in
      ap (λ (l : List ℕ). get_or l (length (trail Forward map n b.forward x) - 1) 0)
      (route_parts b.forward (walk Backward) x on refl ∙ ap (λ (l : List ℕ). reverse l ++ rest) t ∙ ap (λ (l : List ℕ). l ++ rest) (reverse-cons x first) ∙ append_snoc (reverse first) x rest)
      ∙ get_or_at (reverse first) x rest 0 _ k
