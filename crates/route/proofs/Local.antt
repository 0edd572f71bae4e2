-- Local optimality along a trail: distances fall, so the tested crossings come first. Assumes nothing.
use mathlib.Core.Path.{◌≡◌, refl, sym, ◌∙◌}
use mathlib.Core.Bool.{Bool, true, false, ◌&&◌}
use mathlib.Core.Logic.{dite}
use mathlib.Core.List.{List, [], ◌∷◌}
use Prim.Native.Nat.{ℕ, suc, ◌+◌, ◌-◌, ◌≤◌, ◌<◌}
use native.Mathlib.Omega.{arith}
use native.Mathlib.Decide.{ℕ_discrete}
use lib.ListN.{length, get_or}
use borrow.Author.Tests.{eq-eqb, le-leb, lt-leb}
use Rattle.std.proofs.Common.{Option, Some, None, IfSome}
use Rattle.map.specs.declared.Side.{Side}
use Rattle.half.specs.Half.{or_zero, dist}
use Rattle.trail.specs.Trail.{after, trail, Settled, Trails}
use Rattle.trail.proofs.Walking.{trail_none, step_settled, step_nearer, step_trail}
use Rattle.trail.proofs.Drives.{trail_no_farther}
use Rattle.route.specs.Area.{tested, agrees_at, agrees, every, local_in}

module _ (locality : ℕ) (h : List ℕ) (x : ℕ) where
  tested_in : (q : ℕ) (qs : List ℕ) → dist h x - dist h q ≤ locality → tested locality h x (q ∷ qs) ≡ q ∷ tested locality h x qs
  unfolding tested
  tested_in q qs le = simp (le-leb _ _ le)

  tested_none : (qs : List ℕ) → ((i : ℕ) → i < length qs → locality < dist h x - dist h (get_or qs i 0)) → tested locality h x qs ≡ []
  unfolding tested
  tested_none [] far = refl
  tested_none (q ∷ qs) far = rw (lt-leb _ _ (far 0 (omega arith))) (tested_none qs (λ i lt. far (suc i) (omega arith)))

module _ {side : Side} {map : List ℕ} {n : ℕ} {h : List ℕ} (walk : Trails side map n h) (locality : ℕ) (g : List ℕ) (x : ℕ) where
  -- none of the trail of y is tested where y is too far from x: a prefix of the trail of x is
  pub tested_end : (y : ℕ) → Settled n h y → locality < dist h x - dist h y → tested locality h x (trail side map n h y) ≡ []
  tested_end y s lt =
      tested_none locality h x (trail side map n h y) (λ i l. omega (arith, trail_no_farther walk y s i l))

  -- ---- the ways that the walk goes, at y

  pub local_far : (y : ℕ) → Settled n h y → locality < dist h x - dist h y → every (agrees n h g x) (tested locality h x (trail side map n h y)) ≡ true
  unfolding every
  local_far y s lt = rw (tested_end y s lt)

  pub local_end : (y : ℕ) → y ≡ 0 → every (agrees n h g x) (tested locality h x (trail side map n h y)) ≡ true
  unfolding every tested
  local_end y z = rw (trail_none side map n h y z)

  module _ (y : ℕ) (s : Settled n h y) (le : dist h x - dist h y ≤ locality) {z : ℕ} (e : z ≡ after side map n h y) where
    local_step : every (agrees n h g x) (tested locality h x (trail side map n h y)) ≡ (agrees n h g x y && every (agrees n h g x) (tested locality h x (trail side map n h z)))
    unfolding every
    local_step = rw (step_trail walk y s e) (rw (tested_in locality h x y (trail side map n h z) le))

    pub local_on : {t : Bool} → t ≡ agrees_at n g y (dist h x - dist h y + dist g x) → t ≡ true → every (agrees n h g x) (tested locality h x (trail side map n h y)) ≡ every (agrees n h g x) (tested locality h x (trail side map n h z))
    unfolding agrees
    local_on p q = local_step ∙ rw (sym p ∙ q)

  pub local_fails : (y : ℕ) → Settled n h y → dist h x - dist h y ≤ locality → {t : Bool} → t ≡ agrees_at n g y (dist h x - dist h y + dist g x) → t ≡ false → every (agrees n h g x) (tested locality h x (trail side map n h y)) ≡ false
  unfolding agrees
  local_fails y s le p q = local_step y s le refl ∙ rw (sym p ∙ q)

-- what a step from q comes to, if anything, is no farther than x
pub on_no_farther : {side : Side} {map : List ℕ} {n : ℕ} {h : List ℕ} → Trails side map n h → (x q : ℕ) → Settled n h q → dist h q ≤ dist h x → (at : Option ℕ) → or_zero at ≡ after side map n h q → IfSome at (Settled n h) → IfSome at (λ v. Settled n h v × (dist h v ≤ dist h x))
on_no_farther walk x q s le (Some v) e t = (t, omega (arith, t.inside, le, step_nearer walk q s e))
on_no_farther walk x q s le None e t = tt

-- locality 0 tests x alone, which agrees with itself
pub local_zero : {side : Side} {map : List ℕ} {n : ℕ} {h : List ℕ} → Trails side map n h → (g : List ℕ) (x : ℕ) → Settled n h x → Settled n g x → local_in side map n 0 h g x ≡ true
unfolding local_in agrees_at
local_zero {side} {map} {n} {h} walk g x s t =
    let y = after side map n h x in
    let e : dist h x - dist h x + dist g x ≡ dist g x = omega arith in
    local_on walk 0 g x x s (omega arith) refl refl (simp (eq-eqb _ _ t.settled, eq-eqb _ _ (sym e)))
    ∙ dite (ℕ_discrete y 0) (λ z. local_end walk 0 g x y z) (λ nz. local_far walk 0 g x y (step_settled walk x s refl nz) (omega (arith, step_nearer walk x s refl nz)))
