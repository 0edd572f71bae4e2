-- A trail leads to the root along links of the map, at the cost of the distance; distances fall along it, so no crossing stands on it twice.
-- Assumes nothing.
use mathlib.Core.Path.{◌≡◌, refl, ◌∙◌, ap}
use mathlib.Core.Logic.{◌≢◌}
use mathlib.Core.List.{List, [], ◌∷◌}
use Prim.Native.Nat.{ℕ, zero, suc, ◌-◌, ◌≤◌, ◌<◌}
use native.Mathlib.Omega.{arith}
use lib.ListN.{length, get_or}
use Rattle.map.specs.Map.{Valid}
use Rattle.map.specs.Walk.{other, near}
use Rattle.map.specs.declared.Side.{Side}
use Rattle.map.proofs.Walks.{near_other, far_other}
use Rattle.half.specs.Half.{dist, link, ShapedHalf}
use Rattle.half.specs.declared.Entry.{Entry}
use Rattle.trail.specs.Sound.{SoundHalf}
use Rattle.trail.specs.Trail.{trail, Settled, Trails, Drive, rests, goes}
use Rattle.trail.proofs.Walking.{trail_induct}
use Rattle.trail.proofs.Soundness.{link_root, link_name, sound_trails}

-- ---- a drive begins at the one end and ends at the other

module _ {side : Side} {map : List ℕ} {m : ℕ} where
  pub drive_long : {u v c : ℕ} {qs : List ℕ} → Drive side map m u v qs c → 1 ≤ length qs
  drive_long (rests a e z) = rw e (omega arith)
  drive_long (goes k i a b e r z) = rw e (omega arith)

  pub drive_begins : {u v c : ℕ} {qs : List ℕ} → Drive side map m u v qs c → get_or qs 0 0 ≡ u
  drive_begins (rests a e z) = rw e refl
  drive_begins (goes k i a b e r z) = rw e refl

  pub drive_ends : {u v c : ℕ} {qs : List ℕ} → Drive side map m u v qs c → get_or qs (length qs - 1) 0 ≡ v
  drive_ends (rests a e z) = rw e a
  drive_ends (goes {rest = rest} k i a b e r z) =
      let p : suc (length rest) - 1 ≡ suc (length rest - 1) = omega (arith, drive_long r) in rw e (rw p (drive_ends r))

-- ---- along a trail

module _ {side : Side} {map : List ℕ} {n : ℕ} {h : List ℕ} (walk : Trails side map n h) where
  pub trail_no_farther : (v : ℕ) → Settled n h v → (i : ℕ) → i < length (trail side map n h v) → dist h (get_or (trail side map n h v) i 0) ≤ dist h v
  trail_no_farther = trail_induct walk P last more
    where
      P : ℕ → List ℕ → Type 0
      P v qs = (i : ℕ) → i < length qs → dist h (get_or qs i 0) ≤ dist h v

      last : (v : ℕ) → Settled n h v → link n h v ≡ 0 → P v (v ∷ [])
      last v s z zero lt = omega arith
      last v s z (suc i) lt = absurd (omega arith)

      more : (v : ℕ) → Settled n h v → link n h v ≢ 0 → P (near side map (link n h v)) (trail side map n h (near side map (link n h v))) → P v (v ∷ trail side map n h (near side map (link n h v)))
      more v s nz r zero lt = omega arith
      more v s nz r (suc i) lt = omega (arith, r i (omega arith), (walk.onward v s nz).nearer)

  pub trail_falls : (v : ℕ) → Settled n h v → (i j : ℕ) → i < j → j < length (trail side map n h v) → dist h (get_or (trail side map n h v) j 0) < dist h (get_or (trail side map n h v) i 0)
  trail_falls = trail_induct walk P last more
    where
      P : ℕ → List ℕ → Type 0
      P v qs = (i j : ℕ) → i < j → j < length qs → dist h (get_or qs j 0) < dist h (get_or qs i 0)

      last : (v : ℕ) → Settled n h v → link n h v ≡ 0 → P v (v ∷ [])
      last v s z i j lt le = absurd (omega arith)

      more : (v : ℕ) → Settled n h v → link n h v ≢ 0 → P (near side map (link n h v)) (trail side map n h (near side map (link n h v))) → P v (v ∷ trail side map n h (near side map (link n h v)))
      more v s nz r i zero lt le = absurd (omega arith)
      more v s nz r zero (suc j) lt le =
          let o = walk.onward v s nz in
          omega (arith, trail_no_farther (near side map (link n h v)) o.next j (omega arith), o.nearer)
      more v s nz r (suc i) (suc j) lt le = r i j (omega arith) (omega arith)

  pub trail_once : (v : ℕ) → Settled n h v → (i j : ℕ) → i < j → j < length (trail side map n h v) → get_or (trail side map n h v) i 0 ≢ get_or (trail side map n h v) j 0
  trail_once v s i j lt le e = omega (arith, ap (dist h) e, trail_falls v s i j lt le)

-- the trail of x leads from x to the root, its links driven against the half's direction, and costs the distance of x
pub trail_drive : (side : Side) (map : List ℕ) (n m root : ℕ) (h : List ℕ) → Valid n m map → ShapedHalf n m h → SoundHalf side map n m root h → (x : ℕ) → Settled n h x → Drive (other side) map m x root (trail side map n h x) (dist h x)
trail_drive side map n m root h valid shaped sound =
    trail_induct (sound_trails side map n m root h valid shaped sound) P last more
  where
    P : ℕ → List ℕ → Type 0
    P v qs = Drive (other side) map m v root qs (dist h v)

    last : (v : ℕ) → Settled n h v → link n h v ≡ 0 → P v (v ∷ [])
    last v s z =
        let e = link_root side map n m root h valid shaped sound v s z in
        rests e refl (ap (dist h) e ∙ ap (λ (f : Entry). f.dist) sound.root_is)

    more : (v : ℕ) → Settled n h v → link n h v ≢ 0 → P (near side map (link n h v)) (trail side map n h (near side map (link n h v))) → P v (v ∷ trail side map n h (near side map (link n h v)))
    more v s nz r =
        let k = link n h v in
        let w = link_name side map n m root h valid shaped sound v s nz in
        goes {c = dist h v} k w.inside (near_other side map k ∙ w.comes) (far_other side map k) refl r (omega (arith, w.exact))
