-- Every answer of a call fits its place in the packed number, and the three can be taken apart again. Assumes nothing.
use mathlib.Core.Path.{◌≡◌, refl, sym, subst}
use mathlib.Core.Bool.{Bool, true, false, cond}
use mathlib.Core.List.{List, [], ◌∷◌}
use Prim.Native.Nat.{ℕ, ◌≤◌, ◌<◌}
use native.Mathlib.Omega.{arith}
use borrow.Author.Tests.{eqb-true}
use lib.Dec.{eqb}
use Rattle.limits.specs.Said.{Said, told, refused}
use Rattle.limits.proofs.Cases.{cond_cases}
use Rattle.map.specs.declared.Side.{Side}
use Rattle.half.specs.Half.{ceiling, dist, Shaped, unseen, seen}
use Rattle.half.specs.declared.Entry.{Entry}
use Rattle.half.proofs.Rule1.{First}
use Rattle.shape.specs.Bench.{Bench, parse, half}
use Rattle.shape.specs.Rules.{next, done, turn_told}
use Rattle.shape.proofs.Turns.{next_first}
use Rattle.shaped.specs.Lent.{lent_fault}
use Rattle.shaped.proofs.Lent.{lent_ready}
use Rattle.bench.specs.Calls.{judged, open_said, turn_fault, turn_said}
use Rattle.bench.specs.Areas.{area_said}
use Rattle.bench.specs.Routes.{route_said}
use Rattle.bench.proofs.Routes.{fill_short}
use Rattle.table.proofs.Numbers.{Numbered}
use Rattle.table.proofs.Ranges.{open_numbered, turn_numbered, area_numbered, route_numbered}
use Rattle.sankayop.specs.Packed.{first, in_one, Fits, Packs}

-- ---- nothing is lost

pub parts_same : {a b c d e f : ℕ} → Fits a b c → Fits d e f → in_one a b c ≡ in_one d e f → (a ≡ d) × (b ≡ e) × (c ≡ f)
parts_same p q e = (omega (arith, e), omega (arith, e), omega (arith, e))

-- ---- the calls on a map and a bench

-- what is said with other words
pub packs_by : {s t : Said} → s ≡ t → Packs t → Packs s
packs_by e p = subst Packs (sym e) p

judged_packs : (high fault : ℕ) (answer : Said) → high < 256 → Numbered 2 high (judged fault answer) → (fault ≡ 0 → Packs answer) → Packs (judged fault answer)
unfolding judged
judged_packs high fault answer le numbers fits = go (eqb fault 0) refl numbers
  where
    go : (t : Bool) → eqb fault 0 ≡ t → Numbered 2 high (cond t answer (refused fault [])) → Packs (cond t answer (refused fault []))
    go true e p = fits (eqb-true _ _ e)
    go false e p = record { few = omega (arith, (p fault [] refl).most); first_in = omega arith; second_in = omega arith }

nothing_packs : Packs (told [])
nothing_packs = record { few = omega arith; first_in = omega arith; second_in = omega arith }

-- an open crossing's distance is at most the ceiling
open_near : {m : ℕ} {e : Entry} → Shaped m e → e.state ≡ 1 → e.dist ≤ ceiling
open_near (unseen s d k) o = absurd (omega (arith, s, o))
open_near (seen s d k) o = d

module _ (map : List ℕ) (n m : ℕ) (x : List ℕ) where
  pub open_packs : (start target stretch : ℕ) → Packs (open_said map n m start target stretch x)
  unfolding open_said
  open_packs start target stretch = judged_packs 5 _ (told []) (omega arith) (open_numbered map n m x start target stretch) (λ _. nothing_packs)

  pub area_packs : (locality : ℕ) (mask : List ℕ) → Packs (area_said map n m x locality mask)
  unfolding area_said
  area_packs locality mask = judged_packs 9 _ (told []) (omega arith) (area_numbered map n m x locality mask) (λ _. nothing_packs)

  pub route_packs : (crossing : ℕ) (buffer : List ℕ) → Packs (route_said map n m x crossing buffer)
  unfolding route_said
  route_packs crossing buffer =
      judged_packs 10 _ _ (omega arith) (route_numbered map n m x crossing buffer)
      (λ z. record { few = omega arith; first_in = omega (arith, fill_short map n m x crossing buffer (sym z)); second_in = omega arith })

  turn_lent : turn_fault map n m x ≡ 0 → lent_fault map n m 0 x ≡ 0
  unfolding turn_fault
  turn_lent z = z

  -- a crossing that a turn settles is at most n, and its distance at most the ceiling
  module _ (s : Side) (z : turn_fault map n m x ≡ 0) (goes : done s (parse n x) ≡ false) where
    settled_packs : Packs (told (next s (parse n x) ∷ dist (half s (parse n x)) (next s (parse n x)) ∷ []))
    settled_packs =
        let r = (lent_ready map n m 0 x (turn_lent z)).1 in
        let f : First n (half s (parse n x)) n (next s (parse n x)) = subst (λ (k : ℕ). First k (half s (parse n x)) k (next s (parse n x))) r.shaped.same_n (next_first s (parse n x) goes) in
        record {
          few = omega arith;
          first_in = omega (arith, r.valid.n_in.most, f.inside.most);
          second_in = omega (arith, open_near ((r.shaped.halves s).entries (next s (parse n x)) f.inside) f.is_open);
        }

  told_packs : (s : Side) → turn_fault map n m x ≡ 0 → Packs (turn_told s (parse n x))
  unfolding turn_told
  told_packs s z = cond_cases (λ (vs : List ℕ). Packs (told vs)) (done s (parse n x)) (λ _. nothing_packs) (settled_packs s z)

  pub turn_packs : (s : Side) → Packs (turn_said s map n m x)
  unfolding turn_said
  turn_packs s = judged_packs 6 _ _ (omega arith) (turn_numbered map n m x s) (told_packs s)

-- a turn that settles is not taken for one that is done, whose values are 0
pub settled_some : (s : Side) (b : Bench) → first (turn_told s b) ≡ 0 → done s b ≡ true
unfolding turn_told
settled_some s b = go (done s b) refl
  where
    go : (t : Bool) → done s b ≡ t → first (told (cond t [] (next s b ∷ dist (half s b) (next s b) ∷ []))) ≡ 0 → t ≡ true
    go true q e = refl
    go false q e = absurd (omega (arith, e, (next_first s b q).inside.least))
