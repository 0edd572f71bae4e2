-- Walks against a half that keeps what halves from an opening keep: a walk ends at a settled crossing no farther, or an open
-- crossing comes before its end. Assumes nothing.
use mathlib.Core.Path.{◌≡◌, refl, sym, ap, ◌∙◌, subst}
use mathlib.Core.Logic.{dite}
use mathlib.Core.List.{List}
use Prim.Native.Nat.{ℕ, zero, suc, ◌≤◌, ◌<◌}
use native.Mathlib.Nat.{le_refl}
use native.Mathlib.Decide.{ℕ_discrete}
use native.Mathlib.Omega.{arith}
use Rattle.limits.specs.Limits.{Between}
use Rattle.map.specs.Map.{Valid}
use Rattle.map.specs.Walk.{Walk, stay, more, Least}
use Rattle.map.specs.declared.Side.{Side}
use Rattle.map.proofs.Walks.{near_in, far_in}
use Rattle.half.specs.Half.{dist, state, entry, Before}
use Rattle.nearest.proofs.Offers.{Held}
use Rattle.nearest.proofs.Kept.{is_open, Source, at_root, by_link, Kept}

module _ (side : Side) (map : List ℕ) (n m root : ℕ) where
  pub data Frontier (h : List ℕ) (v c : ℕ) : Type 0 where
    behind : state n h v ≡ 2 → dist h v ≤ c → Frontier h v c
    ahead : (y : ℕ) → Between 1 n y → state n h y ≡ 1 → Before (dist h y) y c v → Frontier h v c

  module _ (valid : Valid n m map) (cr : Between 1 n root) where
    pub walk_in : {v c : ℕ} → Walk side map m root v c → Between 1 n v
    walk_in (stay a b) = subst (Between 1 n) a cr
    walk_in (more p k i a b e) = subst (Between 1 n) b (far_in valid side k i)

    module _ {h : List ℕ} (I : Kept side map n m root h) where
      -- one that holds at most c
      arrive : {v d l c : ℕ} → Between 1 n v → Held d l (entry n h v) → d ≤ c → Frontier h v c
      arrive {v} cv q le =
          let b = q.before.le in
          dite (ℕ_discrete (state n h v) 2)
          (λ s. behind s (omega arith))
          (λ ne. ahead v cv (is_open I.shaped cv q.seen ne) (record { le = omega arith; tie = λ _. le_refl v }))

      pub frontier : {v c : ℕ} → Walk side map m root v c → Frontier h v c
      frontier {c = c} (stay a b) = subst (λ (u : ℕ). Frontier h u c) a (arrive cr I.root_held (omega arith))
      frontier {v} {c} (more {w = w} {d = d} p k i a b e) = go (frontier p)
        where
          go : Frontier h w d → Frontier h v c
          go (behind s le) =
              subst (λ (u : ℕ). Frontier h u c) b
              (arrive (far_in valid side k i) (I.closed k i (ap (state n h) a ∙ s)) (omega (arith, ap (dist h) a)))
          go (ahead y cy o q) = ahead y cy o (let le = q.le in omega (arith, (valid.links k i).cost_in))

      -- what is held is the cost of a walk
      held_by : (f v : ℕ) → dist h v < f → Between 1 n v → 1 ≤ state n h v → Walk side map m root v (dist h v)
      held_by zero v lt cv s = absurd (omega arith)
      held_by (suc f) v lt cv s = go (held_by f) (I.source v cv s)
        where
          go : ((u : ℕ) → dist h u < f → Between 1 n u → 1 ≤ state n h u → Walk side map m root u (dist h u)) → Source side map n m root h v → Walk side map m root v (dist h v)
          go ih (at_root e d _) = stay (sym e) d
          go ih (by_link k _ t) =
              let i = t.inside in
              let x = t.exact in
              let o = t.from in
              more (ih _ (omega (arith, (valid.links k i).cost_in)) (near_in valid side k i) (omega arith)) k i refl t.comes x

      pub held_walk : (v : ℕ) → Between 1 n v → 1 ≤ state n h v → Walk side map m root v (dist h v)
      held_walk v = held_by (suc (dist h v)) v (omega arith)

      pub held_least : (v : ℕ) → Between 1 n v → state n h v ≡ 2 → Least side map m root v (dist h v)
      held_least v cv s = record { walk = held_walk v cv (omega arith); least = λ d p. go (frontier p) }
        where
          go : {d : ℕ} → Frontier h v d → dist h v ≤ d
          go (behind _ le) = le
          go (ahead y cy o q) = omega (arith, (I.order v y cv cy s o).le, q.le)
