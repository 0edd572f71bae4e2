-- None of the four worthless programs meets the promises. Assumes nothing.
use mathlib.Core.Path.{◌≡◌, refl, sym, ap, ◌∙◌}
use mathlib.Core.List.{List, [], ◌∷◌}
use Prim.Native.Nat.{ℕ}
use native.Mathlib.Omega.{arith}
use lib.ListN.{get_or, replicate}
use Rattle.map.specs.Walk.{by_side}
use Rattle.map.specs.declared.Side.{Side}
use Rattle.map.specs.declared.Side.TheVariants.{Forward, Backward}
use Rattle.half.specs.Half.{settled_count}
use Rattle.shape.specs.Bench.{half, parse}
use Rattle.limits.specs.Said.{told}
use Rattle.bench.specs.Calls.{turn_said, turn_words}
use Rattle.bench.specs.Areas.{area_mask}
use Rattle.claims.specs.Five.{five}
use Rattle.claims.specs.Worthless.{after, Worthless}
use Rattle.claims.proofs.Computed.{computed}

first_turn : (s : Side) → turn_said s five 5 7 (after 1200 0) ≡ told (by_side s 1 5 ∷ 0 ∷ [])
unfolding computed
first_turn Forward = refl
first_turn Backward = refl

one_settled : (s : Side) → settled_count 5 (half s (parse 5 (turn_words s five 5 7 (after 1200 0)))) ≡ 1
unfolding computed
one_settled Forward = refl
one_settled Backward = refl

none_settled : (s : Side) → settled_count 5 (half s (parse 5 (after 1200 0))) ≡ 0
unfolding computed
none_settled Forward = refl
none_settled Backward = refl

-- crossing 3 is in B from stretch 1,100 on
third : (stretch : ℕ) → ℕ
third stretch = get_or (area_mask five 5 7 (after stretch 5) 0 (replicate 5 0)) 2 0

third_differs : third 1099 ≡ third 1200 → ⊥
unfolding computed third
third_differs e = let z : ◌≡◌ {A = ℕ} 0 2 = e in omega arith

pub worthless : Worthless
unfolding computed third
worthless =
    record {
      opens = λ s x p. p.0;
      settles = λ side s x p. p.0 ∙ first_turn side;
      areas_differ = λ s t x y p q e. third_differs (ap (λ (l : List ℕ). get_or l 2 0) (sym p.1 ∙ e ∙ q.1));
      changes = λ side s x p e.
          let z : settled_count 5 (half side (parse 5 (turn_words side five 5 7 (after 1200 0)))) ≡ settled_count 5 (half side (parse 5 (after 1200 0))) =
          ap (λ (l : List ℕ). settled_count 5 (half side (parse 5 l))) (sym p.1 ∙ e) in
          omega (arith, one_settled side, none_settled side);
      settles_one = λ side s x p. rw p.1 (one_settled side);
    }
