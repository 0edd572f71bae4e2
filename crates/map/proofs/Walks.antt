-- Laws of walks: one after another, and backward as walks of the other side; least costs are unique. Assumes nothing.
use mathlib.Core.Path.{◌≡◌, refl, sym, ◌∙◌, subst, subst₂}
use mathlib.Core.List.{List}
use Prim.Native.Nat.{ℕ, ◌+◌}
use native.Mathlib.Omega.{arith}
use native.Mathlib.Nat.{le_antisymm, zero-add}
use Rattle.map.specs.Map.{cost, Valid}
use Rattle.map.specs.Walk.{other, near, far, Walk, stay, more, Least}
use Rattle.limits.specs.Limits.{Between}
use Rattle.map.specs.declared.Side.{Side}
use Rattle.map.specs.declared.Side.TheVariants.{Forward, Backward}

-- ---- sides

pub near_other : (s : Side) (map : List ℕ) (k : ℕ) → near (other s) map k ≡ far s map k
unfolding near far other
near_other Forward map k = refl
near_other Backward map k = refl

pub far_other : (s : Side) (map : List ℕ) (k : ℕ) → far (other s) map k ≡ near s map k
unfolding near far other
far_other Forward map k = refl
far_other Backward map k = refl

pub other_other : (s : Side) → other (other s) ≡ s
unfolding other
other_other Forward = refl
other_other Backward = refl

pub near_in : {n m : ℕ} {map : List ℕ} → Valid n m map → (s : Side) (k : ℕ) → Between 1 m k → Between 1 n (near s map k)
unfolding near
near_in valid Forward k h = (valid.links k h).tail_in
near_in valid Backward k h = (valid.links k h).head_in

pub far_in : {n m : ℕ} {map : List ℕ} → Valid n m map → (s : Side) (k : ℕ) → Between 1 m k → Between 1 n (far s map k)
unfolding far
far_in valid Forward k h = (valid.links k h).head_in
far_in valid Backward k h = (valid.links k h).tail_in

-- ---- walks

recast : {s : Side} {map : List ℕ} {m u v w c d : ℕ} → Walk s map m u v c → v ≡ w → c ≡ d → Walk s map m u w d
recast {s} {map} {m} {u} p a b = subst₂ (Walk s map m u) a b p

-- one walk after another
pub append : {s : Side} {map : List ℕ} {m u v w c d e : ℕ} → Walk s map m u v c → Walk s map m v w d → c + d ≡ e → Walk s map m u w e
append p (stay a b) f = recast p a (omega arith)
append {e = e} p (more q k h a b f) g = more {c = e} (append p q refl) k h a b (omega arith)

-- a walk of the one side is a walk of the other, backward
pub walk_back : {s : Side} {map : List ℕ} {m u v c : ℕ} → Walk s map m u v c → Walk (other s) map m v u c
walk_back (stay a b) = stay (sym a) b
walk_back {s} {map} {m} (more {w = w} {v = v} {c = c} q k h a b f) =
    let first : Walk (other s) map m v w (cost map k) = more (stay refl refl) k h (near_other s map k ∙ b) (far_other s map k ∙ a) (zero-add (cost map k)) in
    append {e = c} first (walk_back q) (omega arith)

-- ---- least costs

pub least_unique : {s : Side} {map : List ℕ} {m u v c d : ℕ} → Least s map m u v c → Least s map m u v d → c ≡ d
least_unique {c = c} {d = d} p q = le_antisymm (p.least d q.walk) (q.least c p.walk)

pub least_back : {s : Side} {map : List ℕ} {m u v c : ℕ} → Least s map m u v c → Least (other s) map m v u c
least_back {s} {map} {m} {u} {v} p =
    record {
      walk = walk_back p.walk;
      least = λ d q. p.least d (subst (λ (t : Side). Walk t map m u v d) (other_other s) (walk_back q));
    }
