-- What the words of a bench are after the steps of opening and of a settled turn, from what the functions below promise. Assumes nothing.
use mathlib.Core.Path.{◌≡◌, refl, sym, ◌∙◌, ap, ap₂}
use mathlib.Core.List.{List, ◌++◌}
use Prim.Native.Nat.{ℕ, ◌+◌, ◌*◌, ◌-◌, ◌≤◌}
use lib.ListN.{length, get_or, set, take, drop, replicate}
use Rattle.map.specs.Walk.{other}
use Rattle.map.specs.declared.Side.{Side}
use Rattle.map.specs.declared.Side.TheVariants.{Forward, Backward}
use Rattle.half.specs.Half.{unknown, dist, open_half, settled_at}
use Rattle.half.proofs.Opening.{open_length}
use Rattle.half.proofs.Rule2.{settled_at_length}
use Rattle.shape.specs.Bench.{Bench, half, root, half_at, bench_words, words, parse, opened, WellShaped}
use Rattle.shape.specs.Parts.{with_head, with_optimum, with_half, with_marks}
use Rattle.shape.specs.Rules.{found, remarked, settled_by}
use Rattle.shape.proofs.Rounds.{Room, parse_room, half_part}
use Rattle.shape.proofs.Parts.{room_by, half_room, half_back, parsed, optimum_written}
use Rattle.writing.specs.Writing.{unmarked}

-- ---- opening

-- head, forward half, backward half, marks
pub opened_by : (n m start target stretch : ℕ) (x : List ℕ) {x₁ x₂ x₃ x₄ : List ℕ} → bench_words n ≤ length x
    → x₁ ≡ words (with_head n m start target stretch unknown (parse n x))
    → x₂ ≡ words (with_half Forward (open_half n start) (parse n x₁))
    → x₃ ≡ words (with_half Backward (open_half n target) (parse n x₂))
    → x₄ ≡ words (with_marks (replicate n 0) (parse n x₃))
    → x₄ ≡ words (opened n m start target stretch (drop (bench_words n) x))
unfolding opened parse
opened_by n m start target stretch x room e₁ e₂ e₃ e₄ =
    let b₁ = with_head n m start target stretch unknown (parse n x) in
    let b₂ = with_half Forward (open_half n start) b₁ in
    let b₃ = with_half Backward (open_half n target) b₂ in
    let z = parse_room n x room in
    let z₁ : Room n b₁ = room_by (z.halves Forward) (z.halves Backward) z.marks in
    let z₂ : Room n b₂ = half_room z₁ Forward _ (open_length n start) in
    let z₃ : Room n b₃ = half_room z₂ Backward _ (open_length n target) in
    let p₁ = parsed z₁ e₁ in
    let p₂ = parsed z₂ (e₂ ∙ ap (λ (b : Bench). words (with_half Forward (open_half n start) b)) p₁) in
    let p₃ = parsed z₃ (e₃ ∙ ap (λ (b : Bench). words (with_half Backward (open_half n target) b)) p₂) in
    e₄ ∙ ap (λ (b : Bench). words (with_marks (replicate n 0) b)) p₃

-- ---- a turn

remarked_settled : (s : Side) (map : List ℕ) (x : ℕ) (b : Bench) → remarked (unmarked s map x b) ≡ settled_by s map x b
unfolding unmarked other
remarked_settled Forward map x b = refl
remarked_settled Backward map x b = refl

root_with : (t s : Side) (p : List ℕ) (b : Bench) → root t (with_half s p b) ≡ root t b
root_with Forward s p b = refl
root_with Backward s p b = refl

module _ (side : Side) (map : List ℕ) (n m x : ℕ) (y : List ℕ) (room : bench_words n ≤ length y) where
  abbrev settled : Bench
  settled = with_half side (settled_at side map n m x (half side (parse n y))) (parse n y)

  settled_room : Room n settled
  settled_room =
      let z = parse_room n y room in
      half_room z side _ (settled_at_length side map n m x _ ∙ z.halves side)

  -- rule 2 on the lent half
  pub settled_by_lem : {a : ℕ} → a ≡ half_at side n → {p : List ℕ} → p ≡ settled_at side map n m x (take (a + 3 * n - a) (drop a y))
      → take a y ++ (p ++ drop (a + 3 * n - a) (drop a y)) ≡ words settled
  settled_by_lem e f = half_back n y room side e (f ∙ ap (settled_at side map n m x) (half_part n y side e))

  -- rule 2, then rule 3
  pub unmarked_by : {d goal optimum : ℕ} {y₁ : List ℕ} → WellShaped n m (parse n y) → d ≡ dist (half side (parse n y)) x
      → y₁ ≡ words settled → bench_words n ≤ length y₁
      → goal ≡ root (other side) (parse n y₁) → optimum ≡ found goal x d (parse n y₁).optimum
      → set y₁ 5 optimum ≡ words (unmarked side map x (parse n y))
  unfolding unmarked
  unmarked_by {d} {goal} {optimum} {y₁} shaped e e₁ room₁ g f =
      let b = parse n y in
      let p : parse n y₁ ≡ settled = parsed settled_room e₁ in
      let q : (parse n y₁).optimum ≡ b.optimum = ap (λ (c : Bench). c.optimum) p in
      let r : goal ≡ root (other side) b = g ∙ ap (root (other side)) p ∙ root_with (other side) side _ b in
      let o : optimum ≡ found (root (other side) b) x (dist (half side b) x) b.optimum = cc in
      let h = ap₂ (λ (k l : ℕ). settled_at side map k l x (half side b)) (sym shaped.same_n) (sym shaped.same_m) in
      optimum_written n y₁ room₁ optimum
      ∙ ap (λ (c : Bench). words (with_optimum optimum c)) p
      ∙ ap₂ (λ (k : ℕ) (l : List ℕ). words (with_optimum k (with_half side l b))) o h

  -- then rule 4
  unmarked_room : Room n (unmarked side map x (parse n y))
  unfolding unmarked
  unmarked_room =
      let b = parse n y in
      let z = parse_room n y room in
      let r = half_room z side (settled_at side map b.n b.m x (half side b)) (settled_at_length side map b.n b.m x _ ∙ z.halves side) in
      room_by (r.halves Forward) (r.halves Backward) r.marks

  module _ {y₁ : List ℕ} (e₁ : y₁ ≡ words (unmarked side map x (parse n y))) where
    pub first_word : WellShaped n m (parse n y) → get_or y₁ 0 0 ≡ n
    unfolding words unmarked
    first_word shaped = ap (λ (l : List ℕ). get_or l 0 0) e₁ ∙ shaped.same_n

    pub settled_marked : {y₂ : List ℕ} → y₂ ≡ words (remarked (parse n y₁)) → y₂ ≡ words (settled_by side map x (parse n y))
    settled_marked e₂ =
        e₂ ∙ ap (λ (b : Bench). words (remarked b)) (parsed unmarked_room e₁) ∙ ap words (remarked_settled side map x (parse n y))
