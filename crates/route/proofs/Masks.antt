-- The ways that the mask's values go, and its length; with locality 0 every marked crossing is in BL. Assumes nothing.
use mathlib.Core.Path.{◌≡◌, refl, sym, ◌∙◌, ap}
use mathlib.Core.Bool.{Bool, true, false}
use mathlib.Core.Logic.{◌≢◌}
use mathlib.Core.List.{List}
use Prim.Native.Nat.{ℕ, ◌+◌, ◌-◌}
use native.Mathlib.Omega.{arith}
use lib.ListN.{length, get_or}
use borrow.Author.Tests.{eq-eqb, ne_eqb}
use Rattle.limits.specs.Limits.{Between}
use Rattle.map.specs.declared.Side.TheVariants.{Forward, Backward}
use Rattle.trail.specs.Trail.{Walkable}
use Rattle.shape.proofs.Marks.{list_length, list_at}
use Rattle.route.specs.Area.{local_in, mask_at, mask_in}
use Rattle.route.proofs.Local.{local_zero}

module _ (map : List ℕ) (n locality : ℕ) (f g marks : List ℕ) (x : ℕ) where
  pub mask_unmarked : get_or marks (x - 1) 0 ≢ 1 → 0 ≡ mask_at map n locality f g marks x
  unfolding mask_at
  mask_unmarked ne = simp (ne_eqb _ _ ne)

  module _ (one : get_or marks (x - 1) 0 ≡ 1) {r : Bool} (p : r ≡ local_in Forward map n locality f g x) where
    pub mask_first : r ≡ false → 1 ≡ mask_at map n locality f g marks x
    unfolding mask_at
    mask_first e = simp (eq-eqb _ _ one, sym p ∙ e)

    module _ (y : r ≡ true) {t : Bool} (q : t ≡ local_in Backward map n locality g f x) where
      pub mask_second : t ≡ false → 1 ≡ mask_at map n locality f g marks x
      unfolding mask_at
      mask_second e = simp (eq-eqb _ _ one, sym p ∙ y, sym q ∙ e)

      pub mask_both : t ≡ true → 2 ≡ mask_at map n locality f g marks x
      unfolding mask_at
      mask_both e = simp (eq-eqb _ _ one, sym p ∙ y, sym q ∙ e)

module _ (map : List ℕ) (n locality : ℕ) (f g marks : List ℕ) where
  pub mask_length : length (mask_in map n locality f g marks) ≡ n
  unfolding mask_in
  mask_length = list_length _ 1 n

  pub mask_of_lem : (x : ℕ) → Between 1 n x → get_or (mask_in map n locality f g marks) (x - 1) 0 ≡ mask_at map n locality f g marks x
  unfolding mask_in
  mask_of_lem x i = list_at _ 1 n (x - 1) (omega arith) ∙ (let e : 1 + (x - 1) ≡ x = omega arith in ap (mask_at map n locality f g marks) e)

pub mask_zero : {map : List ℕ} {n : ℕ} {f g marks : List ℕ} → Walkable map n f g marks → (x : ℕ) → Between 1 n x → get_or marks (x - 1) 0 ≡ 1 → get_or (mask_in map n 0 f g marks) (x - 1) 0 ≡ 2
mask_zero {map} {n} {f} {g} {marks} walk x i one =
    let s = walk.marked_forward x i one in
    let t = walk.marked_backward x i one in
    mask_of_lem map n 0 f g marks x i
    ∙ sym (mask_both map n 0 f g marks x one refl (local_zero walk.forward g x s t) refl (local_zero walk.backward f x t s))
