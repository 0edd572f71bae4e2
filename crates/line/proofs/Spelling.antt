-- A number is read at a place exactly where digits spell it, up to the byte behind it. Assumes nothing.
use mathlib.Core.Path.{◌≡◌, refl, sym, ap, ◌∙◌}
use mathlib.Core.Bool.{Bool, true, false, cond}
use mathlib.Core.List.{List, [], ◌∷◌, ◌++◌}
use Prim.Native.Nat.{ℕ, suc, ◌+◌, ◌*◌, ◌-◌, ◌^◌, ◌≤◌, ◌<◌}
use native.Mathlib.Decide.{dec_le}
use native.Mathlib.Nat.{pow-succ', pow-le-pow_right, mul_assoc, mul-le-mul_right, le_trans, one-mul}
use native.Mathlib.Numerals.{add-one}
use native.Mathlib.Omega.{arith}
use borrow.Author.Tests.{lt-ltb, le-ltb, eq-eqb, ne_eqb, ltb-true, ltb-false, eqb-true, eqb-false}
use lib.Dec.{ltb, eqb}
use lib.ListN.{length, get_or, drop, length-append, length-drop}
use lib.Seq.{drop-append_seam, drop-append-add, drop-drop, drop-cons, get_or-drop, get_or-append_seam}
use Rattle.std.specs.Prelude.{Result, Ok, Err}
use Rattle.limits.specs.Limits.{Between}
use Rattle.limits.proofs.Cases.{cond_then, cond_else}
use Rattle.number.specs.Number.{good, bad, digit_of, grow, begin, number_at}
use Rattle.line.specs.Line.{number_then, stop_at, field_at}
use Rattle.line.specs.Good.{All, none, more, worth_from, Spells}
use Rattle.number.specs.declared.Number.{Number}
use Rattle.number.specs.declared.Misplaced.{Misplaced}

-- ---- digits

digit_in : (b : ℕ) → digit_of b ≤ 9 → Between 48 57 b
unfolding digit_of
digit_in b = go (ltb b 48) (ltb 57 b) refl refl
  where
    go : (s t : Bool) → ltb b 48 ≡ s → ltb 57 b ≡ t → cond s 10 (cond t 10 (b - 48)) ≤ 9 → Between 48 57 b
    go true t e f h = absurd (omega arith)
    go false true e f h = absurd (omega arith)
    go false false e f h = record { least = ltb-false _ _ e; most = ltb-false _ _ f }

digit_worth : (b : ℕ) → Between 48 57 b → digit_of b ≡ b - 48
unfolding digit_of
digit_worth b h = rw (le-ltb b 48 h.least, le-ltb 57 b h.most)

-- ---- the worth of digits

-- v times a power of ten is in it
worth_large : (v : ℕ) (ds : List ℕ) → v * 10 ^ length ds ≤ worth_from v ds
unfolding worth_from
worth_large v [] = omega arith
worth_large v (d ∷ ds) =
    let a : v * 10 * 10 ^ length ds ≤ (v * 10 + (d - 48)) * 10 ^ length ds = mul-le-mul_right (10 ^ length ds) (omega arith) in
    rw (pow-succ' 10 (length ds), ← mul_assoc v 10 (10 ^ length ds)) (le_trans a (worth_large (v * 10 + (d - 48)) ds))

worth_least : (v : ℕ) (ds : List ℕ) → v ≤ worth_from v ds
unfolding worth_from
worth_least v [] = omega arith
worth_least v (d ∷ ds) = omega (arith, worth_least (v * 10 + (d - 48)) ds)

-- ten digits behind a number above 0 are too many
worth_few : (v : ℕ) (ds : List ℕ) → 1 ≤ v → worth_from v ds ≤ 4294967295 → length ds ≤ 9
worth_few v ds a h = go (dec_le (length ds) 9)
  where
    go : Dec (length ds ≤ 9) → length ds ≤ 9
    go (yes p) = p
    go (no p) =
        let large = pow-le-pow_right {n = 10} (omega arith) {i = 10} {j = length ds} (omega arith) in
        let times = mul-le-mul_right (10 ^ length ds) a in
        absurd (omega (arith, large, rw one-mul at times, worth_large v ds))

-- ---- from the reading to the spelling

good_value : {v w p q : ℕ} → good v p ≡ good w q → (v ≡ w) × (p ≡ q)
good_value {v} {w} {p} {q} e =
    let n : ◌≡◌ {A = Number} (record { value = v; next = p }) (record { value = w; next = q }) = cc in
    (ap (λ (x : Number). x.value) n, ap (λ (x : Number). x.next) n)

never_good : {p v q : ℕ} → bad p ≡ good v q → ⊥
never_good e = cc

record Grown (v at : ℕ) (bs : List ℕ) (w next : ℕ) : Type 0 where
  ds : List ℕ
  rest : List ℕ
  split : bs ≡ ds ++ rest
  place : next ≡ at + length ds
  digits : All (Between 48 57) ds
  worth : worth_from v ds ≡ w
  lone : v ≡ 0 → length ds ≡ 0
  most : v ≤ 4294967295 → w ≤ 4294967295

grown : (v at : ℕ) (bs : List ℕ) (w next : ℕ) → grow v at bs ≡ good w next → Grown v at bs w next
unfolding grow worth_from
grown v at [] w next e =
    let g = good_value e in
    record { ds = []; rest = []; split = refl; place = omega (arith, g.1); digits = none; worth = g.0; lone = λ _. refl; most = λ h. omega (arith, g.0) }
grown v at (b ∷ bs) w next e = go (ltb 9 (digit_of b)) refl e (grown (v * 10 + digit_of b) (at + 1) bs w next)
  where
    go : (t : Bool) → ltb 9 (digit_of b) ≡ t
        → cond t (good v at) (cond (eqb v 0) (bad at) (cond (ltb 4294967295 (v * 10 + digit_of b)) (bad at) (grow (v * 10 + digit_of b) (at + 1) bs))) ≡ good w next
        → (grow (v * 10 + digit_of b) (at + 1) bs ≡ good w next → Grown (v * 10 + digit_of b) (at + 1) bs w next)
        → Grown v at (b ∷ bs) w next
    go true t f rest =
        let g = good_value f in
        record { ds = []; rest = b ∷ bs; split = refl; place = omega (arith, g.1); digits = none; worth = g.0; lone = λ _. refl; most = λ h. omega (arith, g.0) }
    go false t f rest =
        let some = cond_else (eqb v 0) f never_good in
        let small = cond_else (ltb 4294967295 (v * 10 + digit_of b)) some.1 never_good in
        let r = rest small.1 in
        let d = digit_in b (ltb-false _ _ t) in
        let e = digit_worth b d in
        record {
          ds = b ∷ r.ds;
          rest = r.rest;
          split = ap (λ (l : List ℕ). b ∷ l) r.split;
          place = omega (arith, r.place);
          digits = more d r.digits;
          worth = ap (λ (x : ℕ). worth_from (v * 10 + x) r.ds) (sym e) ∙ r.worth;
          lone = λ z. absurd (eqb-false _ _ some.0 z);
          most = λ h. r.most (ltb-false _ _ small.0);
        }

-- behind a 0 nothing grows, and behind more at most nine digits
few : {v at : ℕ} {bs : List ℕ} {w next : ℕ} (g : Grown v at bs w next) → w ≤ 4294967295 → length g.ds ≤ 9
few {v} g h = go (dec_le 1 v)
  where
    go : Dec (1 ≤ v) → length g.ds ≤ 9
    go (yes p) = worth_few v g.ds p (omega (arith, g.worth))
    go (no p) = omega (arith, g.lone (omega arith))

record Read (s : List ℕ) (at v next : ℕ) : Type 0 where
  ds : List ℕ
  rest : List ℕ
  split : drop at s ≡ ds ++ rest
  place : next ≡ at + length ds
  spells : Spells ds v

begun : (at : ℕ) (bs : List ℕ) (v next : ℕ) → begin at bs ≡ good v next → (s : List ℕ) → drop at s ≡ bs → Read s at v next
unfolding begin worth_from
begun at [] v next e s q = absurd (never_good e)
begun at (b ∷ bs) v next e s q =
    let t = cond_else (ltb 9 (digit_of b)) e never_good in
    let d = digit_in b (ltb-false _ _ t.0) in
    let w = digit_worth b d in
    let g = grown (digit_of b) (at + 1) bs v next t.1 in
    let first : 0 * 10 + (b - 48) ≡ digit_of b = omega (arith, w) in
    let most = g.most (omega (arith, w, d.most)) in
    record {
      ds = b ∷ g.ds;
      rest = g.rest;
      split = q ∙ ap (λ (l : List ℕ). b ∷ l) g.split;
      place = omega (arith, g.place);
      spells = record {
        count = record { least = omega arith; most = omega (arith, few g most) };
        digits = more d g.digits;
        leading = λ z. omega (arith, g.lone (omega (arith, w, z)));
        worth = ap (λ (x : ℕ). worth_from x g.ds) first ∙ g.worth;
        most = most;
      };
    }

read_spelled : (s : List ℕ) (at v next : ℕ) → number_at s at ≡ good v next → Read s at v next
unfolding number_at
read_spelled s at v next e = begun at (drop at s) v next e s refl

-- ---- from the spelling to the reading

spelled_grow : (v at : ℕ) (ds : List ℕ) (stop : ℕ) (rest : List ℕ) → All (Between 48 57) ds → (v ≡ 0 → length ds ≡ 0) → worth_from v ds ≤ 4294967295 → 9 < digit_of stop
    → grow v at (ds ++ stop ∷ rest) ≡ good (worth_from v ds) (at + length ds)
unfolding grow worth_from
spelled_grow v at [] stop rest none z h n = rw (lt-ltb 9 (digit_of stop)) (ap (good v) (omega arith))
spelled_grow v at (d ∷ ds) stop rest (more i is) z h n =
    let e : digit_of d ≡ d - 48 = digit_worth d i in
    let small : digit_of d ≤ 9 = omega (arith, e, i.most) in
    let some : v ≡ 0 → ⊥ = λ q. omega (arith, z q) in
    let fits : v * 10 + digit_of d ≤ 4294967295 = omega (arith, e, worth_least (v * 10 + (d - 48)) ds) in
    let next : v * 10 + digit_of d ≡ v * 10 + (d - 48) = omega (arith, e) in
    let place : at + 1 + length ds ≡ at + suc (length ds) = omega arith in
    rw (le-ltb 9 (digit_of d) small, ne_eqb v 0 some, le-ltb 4294967295 (v * 10 + digit_of d) fits, next)
    (spelled_grow (v * 10 + (d - 48)) (at + 1) ds stop rest is (λ q. absurd (some (omega (arith, q)))) h n ∙ ap (good (worth_from (v * 10 + (d - 48)) ds)) place)

-- digits that begin, with a byte behind them that is none
spelled_begin : (at : ℕ) (ds : List ℕ) (v stop : ℕ) (rest : List ℕ) → Spells ds v → 9 < digit_of stop → begin at (ds ++ stop ∷ rest) ≡ good v (at + length ds)
unfolding begin worth_from
spelled_begin at [] v stop rest s n = absurd (omega (arith, s.count.least))
spelled_begin at (d ∷ ds) v stop rest s n = go s.digits
  where
    go : All (Between 48 57) (d ∷ ds) → begin at (d ∷ ds ++ stop ∷ rest) ≡ good v (at + length (d ∷ ds))
    go (more i is) =
        let e = digit_worth d i in
        let small : digit_of d ≤ 9 = omega (arith, e, i.most) in
        let same : digit_of d ≡ 0 * 10 + (d - 48) = omega (arith, e) in
        let worth : worth_from (digit_of d) ds ≡ v = ap (λ (x : ℕ). worth_from x ds) same ∙ s.worth in
        let lone : digit_of d ≡ 0 → length ds ≡ 0 = λ z. omega (arith, s.leading (omega (arith, e, z, i.least))) in
        let place : at + 1 + length ds ≡ at + suc (length ds) = omega arith in
        rw (le-ltb 9 (digit_of d) small)
        (spelled_grow (digit_of d) (at + 1) ds stop rest is lone (omega (arith, worth, s.most)) n ∙ rw (worth, place))

-- ---- a field: digits and the byte behind them

pub record FieldAt (l : List ℕ) (at stop v next : ℕ) : Type 0 where
  pub ds : List ℕ
  pub spells : Spells ds v
  pub split : drop at l ≡ ds ++ stop ∷ drop next l
  pub place : next ≡ at + length ds + 1
  pub byte : get_or l (at + length ds) 0 ≡ stop
  pub within : next ≤ length l

pub field_spelled : (l : List ℕ) (at stop v next : ℕ) → field_at l at stop ≡ good v next → FieldAt l at stop v next
unfolding field_at stop_at
field_spelled l at stop v next = go (number_at l at) refl
  where
    go : (x : Result Number Misplaced) → number_at l at ≡ x → number_then x (λ w p. cond (ltb p (length l)) (cond (eqb (get_or l p 0) stop) (good w (p + 1)) (bad p)) (bad p)) bad ≡ good v next
        → FieldAt l at stop v next
    go (Err m) q e = absurd (never_good e)
    go (Ok k) q e =
        let w = k.value in
        let p = k.next in
        let inside = cond_then (ltb p (length l)) e never_good in
        let is = cond_then (eqb (get_or l p 0) stop) inside.1 never_good in
        let g = good_value is.1 in
        let r = read_spelled l at w p q in
        let h : p < length l = ltb-true _ _ inside.0 in
        let byte : get_or l p 0 ≡ stop = eqb-true _ _ is.0 in
        let rest : r.rest ≡ drop p l = sym (drop-append_seam r.ds r.rest) ∙ ap (drop (length r.ds)) (sym r.split) ∙ drop-drop (length r.ds) at l ∙ ap (λ (i : ℕ). drop i l) (sym r.place) in
        let after : drop p l ≡ stop ∷ drop next l = drop-cons l p 0 h ∙ rw (byte, ← g.1, add-one p) in
        record {
          ds = r.ds;
          spells = rw (← g.0) r.spells;
          split = r.split ∙ ap (λ (x : List ℕ). r.ds ++ x) (rest ∙ after);
          place = omega (arith, g.1, r.place);
          byte = ap (λ (i : ℕ). get_or l i 0) (sym r.place) ∙ byte;
          within = omega (arith, g.1);
        }

module _ (l : List ℕ) (at stop v : ℕ) (ds rest : List ℕ) (e : drop at l ≡ ds ++ stop ∷ rest) (s : Spells ds v) (n : 9 < digit_of stop) where
  field_number : number_at l at ≡ good v (at + length ds)
  unfolding number_at
  field_number = rw e (spelled_begin at ds v stop rest s n)

  field_size : length l - at ≡ length ds + suc (length rest)
  field_size = sym (length-drop at l) ∙ ap length e ∙ length-append ds (stop ∷ rest)

  pub spelled_field : field_at l at stop ≡ good v (at + length ds + 1)
  unfolding field_at stop_at
  spelled_field =
      let h : at + length ds < length l = omega (arith, field_size) in
      let byte : get_or l (at + length ds) 0 ≡ stop = sym (get_or-drop at l (length ds) 0) ∙ ap (λ (x : List ℕ). get_or x (length ds) 0) e ∙ get_or-append_seam ds stop rest 0 in
      rw (field_number, lt-ltb (at + length ds) (length l) h, eq-eqb (get_or l (at + length ds) 0) stop byte)

  -- what stands behind it
  pub behind_field : drop (at + length ds + 1) l ≡ rest
  behind_field =
      let q : at + length ds + 1 ≡ at + (length ds + 1) = omega arith in
      rw (q, ← drop-drop (length ds + 1) at l, e) (drop-append-add ds (stop ∷ rest) 1)
