-- Runs of words stored one by one: backward, onward, and one run behind another. Assumes nothing.
use mathlib.Core.Path.{◌≡◌, sym, ◌∙◌, ap}
use mathlib.Core.List.{List, [], ◌∷◌, ◌++◌, reverse, reverse-cons}
use Prim.Native.Nat.{ℕ, suc, ◌+◌, ◌-◌, ◌≤◌, ◌<◌}
use native.Mathlib.Omega.{arith}
use native.Mathlib.Numerals.{add-one}
use native.Mathlib.Nat.{add-zero}
use lib.ListN.{length, set, length-reverse}
use lib.Seq.{sets, set_comm}
use Rattle.limits.specs.Limits.{Between}
use Rattle.shape.specs.Rules.{list_from}

sets_last : (vs l : List ℕ) (i y : ℕ) → sets l i (vs ++ (y ∷ [])) ≡ sets (set l (i + length vs) y) i vs
sets_last [] l i y = rw add-zero
sets_last (v ∷ vs) l i y =
    let e : suc i + length vs ≡ i + suc (length vs) = omega arith in
    sets_last vs (set l i v) (suc i) y ∙ rw e (ap (λ (z : List ℕ). sets z (suc i) vs) (set_comm l i (i + suc (length vs)) v y (omega arith)))

-- y goes before the j - 1 words that are left to write backward
pub back_step : (l : List ℕ) {all rest : List ℕ} {j y : ℕ} → all ≡ y ∷ rest → j ≡ length all → sets l 0 (reverse all) ≡ sets (set l (j - 1) y) 0 (reverse rest)
back_step l {all} {rest} {j} {y} e p =
    let q : 0 + length (reverse rest) ≡ j - 1 = omega (arith, length-reverse rest, ap length e) in
    ap (λ (qs : List ℕ). sets l 0 (reverse qs)) e
    ∙ ap (sets l 0) (reverse-cons y rest)
    ∙ sets_last (reverse rest) l 0 y
    ∙ ap (λ (k : ℕ). sets (set l k y) 0 (reverse rest)) q

pub on_step : (l : List ℕ) (i : ℕ) {all rest : List ℕ} {y : ℕ} → all ≡ y ∷ rest → sets l i all ≡ sets (set l i y) (i + 1) rest
on_step l i e = rw (e, add-one)

-- the value for x goes to index x - 1
list_more : (f : ℕ → ℕ) (n x : ℕ) → x ≤ n → list_from f x (n + 1 - x) ≡ f x ∷ list_from f (x + 1) (n + 1 - (x + 1))
unfolding list_from
list_more f n x le = let e : n + 1 - x ≡ suc (n + 1 - (x + 1)) = omega arith in rw (e, add-one x)

pub fill_step : (f : ℕ → ℕ) (n x : ℕ) (l : List ℕ) {v : ℕ} → Between 1 n x → v ≡ f x → sets l (x - 1) (list_from f x (n + 1 - x)) ≡ sets (set l (x - 1) v) (x + 1 - 1) (list_from f (x + 1) (n + 1 - (x + 1)))
fill_step f n x l {v} i e =
    let next : x - 1 + 1 ≡ x + 1 - 1 = omega arith in
    on_step l (x - 1) (list_more f n x i.most ∙ ap (λ (w : ℕ). w ∷ list_from f (x + 1) (n + 1 - (x + 1))) (sym e))
    ∙ ap (λ (j : ℕ). sets (set l (x - 1) v) j (list_from f (x + 1) (n + 1 - (x + 1)))) next

pub fill_end : (f : ℕ → ℕ) (n x : ℕ) (l : List ℕ) → n < x → sets l (x - 1) (list_from f x (n + 1 - x)) ≡ l
unfolding list_from
fill_end f n x l lt = let e : n + 1 - x ≡ 0 = omega arith in rw e
