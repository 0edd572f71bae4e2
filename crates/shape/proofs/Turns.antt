-- What a turn keeps and changes: the shape of a bench, a half that is done, one more settled. Assumes nothing.
use mathlib.Core.Path.{◌≡◌, refl, sym, ◌∙◌, subst⁻¹, subst₂}
use mathlib.Core.Bool.{Bool, true, false, cond, not, ◌&&◌, true≢false, and-eq-true_iff}
use mathlib.Core.Logic.{◌⊎◌, inr}
use mathlib.Core.List.{List}
use Prim.Native.Nat.{ℕ, suc, ◌≤◌}
use native.Mathlib.Omega.{arith}
use lib.Dec.{eqb}
use borrow.Author.Tests.{eqb-false}
use Rattle.limits.specs.Limits.{Between}
use Rattle.limits.proofs.Cases.{cond_both, cond_cases, cond_else}
use Rattle.map.specs.Map.{Valid}
use Rattle.map.specs.declared.Side.{Side}
use Rattle.map.specs.declared.Side.TheVariants.{Forward, Backward}
use Rattle.half.specs.Half.{unknown, ceiling, dist, settled_at, settled_count, Shaped, unseen, seen, ShapedHalf}
use Rattle.half.specs.declared.Entry.{Entry}
use Rattle.half.proofs.Rule1.{First, nearest_open_lem, nearest_first}
use Rattle.half.proofs.Shape.{settled_at_shaped}
use Rattle.half.proofs.Counts.{settled_at_settles, settles_count}
use Rattle.shape.specs.Bench.{Bench, half, WellShaped}
use Rattle.shape.specs.Rules.{known, next, beyond, done, found, marked, settled_by, turned}
use Rattle.shape.proofs.Marks.{marks_length, marks_le}

-- ---- a turn, where the half is done and where it is not

module _ (s : Side) (map : List ℕ) (b : Bench) where
  pub turned_done : done s b ≡ true → turned s map b ≡ b
  unfolding turned
  turned_done e = rw e

  pub turned_settles : done s b ≡ false → turned s map b ≡ settled_by s map (next s b) b
  unfolding turned
  turned_settles e = rw e

  turned_cases : (P : Bench → Type 0) → (done s b ≡ true → P b) → (done s b ≡ false → P (settled_by s map (next s b) b)) → P (turned s map b)
  unfolding turned
  turned_cases P p q = cond_cases P (done s b) p q

-- the crossing taken is the first open one
pub next_first : (s : Side) (b : Bench) → done s b ≡ false → First b.n (half s b) b.n (next s b)
unfolding done
next_first s b e =
    nearest_first (nearest_open_lem b.n (half s b)) (eqb-false _ _ (cond_else (eqb (next s b) 0) e (λ z. true≢false z)).0)

-- ---- the other half

settled_by_half : (s : Side) (map : List ℕ) (x : ℕ) (b : Bench) → half s (settled_by s map x b) ≡ settled_at s map b.n b.m x (half s b)
settled_by_half Forward map x b = refl
settled_by_half Backward map x b = refl

-- ---- done stays

-- a known optimum is never changed
found_known : (goal x d optimum : ℕ) → known optimum ≡ true → found goal x d optimum ≡ optimum
unfolding found
found_known goal x d optimum k = rw k (go (eqb x goal))
  where
    go : (t : Bool) → cond (t && false) d optimum ≡ optimum
    go true = refl
    go false = refl

-- an optimum that changes from unknown alone leaves done what is done
still_done : (stretch d : ℕ) {o p : ℕ} (t : Bool) → (known o ≡ true → p ≡ o) → cond t true (beyond stretch o d) ≡ true → cond t true (beyond stretch p d) ≡ true
unfolding beyond
still_done stretch d true same e = refl
still_done stretch d false same e = rw (same ((and-eq-true_iff _ _).0 e).0) e

settled_done : (s t : Side) (map : List ℕ) (x : ℕ) (b : Bench) → done s b ≡ true → done t b ≡ false → done s (settled_by t map x b) ≡ true
unfolding done
settled_done Forward Forward map x b e f = absurd (true≢false (sym e ∙ f))
settled_done Forward Backward map x b e f = still_done b.stretch _ (eqb (next Forward b) 0) (found_known b.start x (dist b.backward x) b.optimum) e
settled_done Backward Forward map x b e f = still_done b.stretch _ (eqb (next Backward b) 0) (found_known b.target x (dist b.forward x) b.optimum) e
settled_done Backward Backward map x b e f = absurd (true≢false (sym e ∙ f))

pub done_stays : (s t : Side) (map : List ℕ) (b : Bench) → done s b ≡ true → done s (turned t map b) ≡ true
done_stays s t map b e = turned_cases t map b (λ c. done s c ≡ true) (λ _. e) (λ f. settled_done s t map (next t b) b e f)

-- ---- over a valid map, on a well-shaped bench

-- an open crossing is no farther than the ceiling
open_near : {m : ℕ} {e : Entry} → Shaped m e → e.state ≡ 1 → e.dist ≤ ceiling
open_near (unseen s d k) o = absurd (omega arith)
open_near (seen s d k) o = d

found_in : (goal x d o : ℕ) → d ≤ ceiling → (o ≡ unknown) ⊎ (o ≤ ceiling) → (found goal x d o ≡ unknown) ⊎ (found goal x d o ≤ ceiling)
unfolding found
found_in goal x d o le p = cond_both (λ (z : ℕ). (z ≡ unknown) ⊎ (z ≤ ceiling)) (eqb x goal && not (known o)) (inr le) p

marked_shaped : {n m : ℕ} {b : Bench} {o : ℕ} {f g : List ℕ} → WellShaped n m b → (o ≡ unknown) ⊎ (o ≤ ceiling) → ShapedHalf n m f → ShapedHalf n m g → WellShaped n m (marked b o f g)
marked_shaped {n} {m} {b} {o} {f} {g} w known_in p q =
    record {
      same_n = w.same_n;
      same_m = w.same_m;
      start_in = w.start_in;
      target_in = w.target_in;
      stretch_in = w.stretch_in;
      optimum_in = known_in;
      halves = halves;
      marks_room = marks_length b.n _ _ _ _ ∙ w.same_n;
      marks_in = λ v i. marks_le b.n b.stretch o f g (subst⁻¹ (λ (k : ℕ). Between 1 k v) w.same_n i);
    }
  where
    halves : (s : Side) → ShapedHalf n m (half s (marked b o f g))
    halves Forward = p
    halves Backward = q

-- where the bench's own counts are those of the map
module _ {map : List ℕ} {b : Bench} (valid : Valid b.n b.m map) (w : WellShaped b.n b.m b) where
  module _ (s : Side) (goes : done s b ≡ false) where
    first : First b.n (half s b) b.n (next s b)
    first = next_first s b goes

    half_shaped : ShapedHalf b.n b.m (settled_at s map b.n b.m (next s b) (half s b))
    half_shaped = settled_at_shaped s map valid (next s b) first.inside (half s b) first.is_open (w.halves s)

    near : dist (half s b) (next s b) ≤ ceiling
    near = open_near ((w.halves s).entries (next s b) first.inside) first.is_open

    own_counts : settled_count b.n (half s (turned s map b)) ≡ suc (settled_count b.n (half s b))
    own_counts =
        rw (turned_settles s map b goes, settled_by_half s map (next s b) b)
        (settles_count first.inside (λ z. omega (arith, first.is_open))
        (settled_at_settles s map valid (next s b) first.inside (half s b) (w.halves s).room first.is_open))

  settled_shaped : (s : Side) → done s b ≡ false → WellShaped b.n b.m (settled_by s map (next s b) b)
  settled_shaped Forward e = marked_shaped w (found_in _ _ _ _ (near Forward e) w.optimum_in) (half_shaped Forward e) (w.halves Backward)
  settled_shaped Backward e = marked_shaped w (found_in _ _ _ _ (near Backward e) w.optimum_in) (w.halves Forward) (half_shaped Backward e)

  own_shaped : (s : Side) → WellShaped b.n b.m (turned s map b)
  own_shaped s = turned_cases s map b (WellShaped b.n b.m) (λ _. w) (settled_shaped s)

module _ {n m : ℕ} {map : List ℕ} {b : Bench} (valid : Valid n m map) (w : WellShaped n m b) (s : Side) where
  pub turned_shaped : WellShaped n m (turned s map b)
  turned_shaped =
      subst₂ (λ (i j : ℕ). Valid i j map → WellShaped i j b → WellShaped i j (turned s map b)) w.same_n w.same_m (λ v u. own_shaped v u s) valid w

  -- a turn of a half that is not done settles one crossing more in it
  pub turned_counts : done s b ≡ false → settled_count n (half s (turned s map b)) ≡ suc (settled_count n (half s b))
  turned_counts goes =
      subst₂ (λ (i j : ℕ). Valid i j map → WellShaped i j b → settled_count i (half s (turned s map b)) ≡ suc (settled_count i (half s b)))
      w.same_n w.same_m (λ v u. own_counts v u s goes) valid w
