-- What each half knows of the optimum after k turns: nothing, or the least cost from start to target. Assumes nothing.
use mathlib.Core.Path.{◌≡◌, sym, ap, ◌∙◌, subst}
use mathlib.Core.Bool.{true, false, cond, not, ◌&&◌}
use mathlib.Core.Logic.{◌≢◌, ◌⊎◌, inl, inr, ⊎_elim, dite}
use mathlib.Core.List.{List}
use Prim.Native.Nat.{ℕ, suc, ◌≤◌, ◌<◌, min}
use native.Mathlib.Decide.{ℕ_discrete}
use native.Mathlib.Omega.{arith}
use borrow.Author.Tests.{eq-eqb, ne_eqb}
use lib.Dec.{eqb}
use Rattle.limits.specs.Limits.{Between}
use Rattle.map.specs.Walk.{other, Walk, Least, by_side}
use Rattle.map.specs.declared.Side.{Side}
use Rattle.map.specs.declared.Side.TheVariants.{Forward, Backward}
use Rattle.map.proofs.Walks.{least_unique, least_back}
use Rattle.half.specs.Half.{unknown, ceiling, dist, state, nearest_open}
use Rattle.half.specs.declared.Entry.{Entry}
use Rattle.half.proofs.Counts.{Settles}
use Rattle.shape.specs.Rules.{known, found}
use Rattle.nearest.specs.After.{half_after}
use Rattle.nearest.proofs.Theorems.{settles, settled_least, settled_reached, settled_once, all_done, least_or_none, least_ceiling, next_open, next_least, next_first}
use Rattle.demands.specs.Mixture.{Order, settled_dist, optimum_of}

pub known_low : (o : ℕ) → o ≤ ceiling → known o ≡ true
unfolding known
known_low o le = ap not (ne_eqb o unknown (λ e. omega arith))

pub known_unknown : (o : ℕ) → o ≡ unknown → known o ≡ false
unfolding known
known_unknown o e = ap not (eq-eqb o unknown e)

module _ {map : List ℕ} {n m start target stretch : ℕ} (order : Order map n m start target stretch) where
  abbrev pub root : Side → ℕ
  root s = by_side s start target

  -- the other half's root
  abbrev pub goal : Side → ℕ
  goal s = by_side s target start

  -- a half after k turns, and the crossing that the next turn settles
  abbrev pub after : Side → ℕ → List ℕ
  after s k = half_after s map n m (root s) k

  abbrev pub next : Side → ℕ → ℕ
  next s k = nearest_open n (after s k)

  -- what it knows of the optimum, and the optimum
  abbrev pub own : Side → ℕ → ℕ
  own s k = settled_dist n (after s k) (goal s)

  abbrev pub best : ℕ
  best = own Forward n

  abbrev pub Route : ℕ → Type 0
  Route c = Least Forward map m start target c

  pub root_in : (s : Side) → Between 1 n (root s)
  root_in Forward = order.start_in
  root_in Backward = order.target_in

  pub goal_in : (s : Side) → Between 1 n (goal s)
  goal_in Forward = order.target_in
  goal_in Backward = order.start_in

  -- ---- the theory of one half, of either half of this order

  pub settled_cost : (s : Side) (k v : ℕ) → Between 1 n v → state n (after s k) v ≡ 2 → Least s map m (root s) v (dist (after s k) v)
  settled_cost s = settled_least s map n m (root s) order.valid (root_in s)

  pub walk_settled : (s : Side) (v c : ℕ) → Between 1 n v → Walk s map m (root s) v c → state n (after s n) v ≡ 2
  walk_settled s v c cv p =
      (settled_reached s map n m (root s) order.valid (root_in s) n v cv (all_done s map n m (root s) order.valid (root_in s))).1 (c, p)

  pub settled_turn : (s : Side) (k v : ℕ) → Between 1 n v → state n (after s k) v ≡ 2 → (j : ℕ) × (j < k) × (next s j ≡ v)
  settled_turn s = settled_once s map n m (root s) order.valid (root_in s)

  pub next_cost : (s : Side) (k : ℕ) → next s k ≢ 0 → Least s map m (root s) (next s k) (dist (after s k) (next s k))
  next_cost s = next_least s map n m (root s) order.valid (root_in s)

  pub next_in : (s : Side) (k : ℕ) → next s k ≢ 0 → Between 1 n (next s k) × (state n (after s k) (next s k) ≡ 1)
  next_in s = next_open s map n m (root s) order.valid (root_in s)

  pub next_near : (s : Side) (k v c : ℕ) → next s k ≢ 0 → state n (after s k) v ≢ 2 → Walk s map m (root s) v c → dist (after s k) (next s k) ≤ c
  next_near s k v c ne o p = (next_first s map n m (root s) order.valid (root_in s) k v c ne o p).le

  -- either half drives between start and target
  goal_route : (s : Side) {c : ℕ} → Least s map m (root s) (goal s) c → Route c
  unfolding other
  goal_route Forward p = p
  goal_route Backward p = least_back p

  pub route_goal : (s : Side) {c : ℕ} → Route c → Least s map m (root s) (goal s) c
  unfolding other
  route_goal Forward p = p
  route_goal Backward p = least_back p

  own_settled : (s : Side) (k : ℕ) → state n (after s k) (goal s) ≡ 2 → own s k ≡ dist (after s k) (goal s)
  unfolding settled_dist
  own_settled s k e = simp (eq-eqb _ _ e)

  own_unsettled : (s : Side) (k : ℕ) → state n (after s k) (goal s) ≢ 2 → own s k ≡ unknown
  unfolding settled_dist
  own_unsettled s k e = simp (ne_eqb _ _ e)

  -- ---- the optimum

  pub best_is : {c : ℕ} → Route c → best ≡ c
  best_is p =
      let e = walk_settled Forward target _ order.target_in p.walk in
      own_settled Forward n e ∙ least_unique (settled_cost Forward n target order.target_in e) p

  -- the least cost from start to target, or unknown where there is no route
  pub data Best : Type 0 where
    route : Route best → best ≤ ceiling → Best
    none : best ≡ unknown → ((c : ℕ) → Walk Forward map m start target c → ⊥) → Best

  pub best_cases : Best
  best_cases =
      ⊎_elim (λ p. let e = best_is p.1 in
      route (rw e p.1) (rw e (least_ceiling Forward map n m start order.valid order.start_in target _ p.1)))
      (λ f. none (own_unsettled Forward n (λ e. f _ (settled_cost Forward n target order.target_in e).walk)) f)
      (least_or_none Forward map n m start order.valid order.start_in target order.target_in)

  pub route_best : {c : ℕ} → Route c → Route best × (best ≤ ceiling)
  route_best p = go best_cases
    where
      go : Best → Route best × (best ≤ ceiling)
      go (route r l) = (r, l)
      go (none _ f) = absurd (f _ p.walk)

  -- ---- what a half knows of it

  data Known (s : Side) (k : ℕ) : Type 0 where
    yet : state n (after s k) (goal s) ≢ 2 → own s k ≡ unknown → Known s k
    got : state n (after s k) (goal s) ≡ 2 → own s k ≡ best → Route best → best ≤ ceiling → Known s k

  known_cases : (s : Side) (k : ℕ) → Known s k
  known_cases s k =
      dite (ℕ_discrete (state n (after s k) (goal s)) 2)
      (λ e.
      let p = goal_route s (settled_cost s k (goal s) (goal_in s) e) in
      let q = route_best p in
      got e (own_settled s k e ∙ sym (best_is p)) q.0 q.1)
      (λ ne. yet ne (own_unsettled s k ne))

  pub own_word : (s : Side) (k : ℕ) → (own s k ≡ best) ⊎ (own s k ≡ unknown)
  own_word s k = go (known_cases s k)
    where
      go : Known s k → (own s k ≡ best) ⊎ (own s k ≡ unknown)
      go (yet _ e) = inr e
      go (got _ e _ _) = inl e

  own_opened : (s : Side) → own s 0 ≡ unknown
  own_opened s = own_unsettled s 0 (λ e. omega (arith, (settled_turn s 0 (goal s) (goal_in s) e).1))

  -- ---- what both know, after i and j turns

  abbrev pub optimum : ℕ → ℕ → ℕ
  optimum i j = optimum_of n start target (after Forward i) (after Backward j)

  pub data Optimum (i j : ℕ) : Type 0 where
    missing : optimum i j ≡ unknown → ((s : Side) → state n (after s (by_side s i j)) (goal s) ≢ 2) → Optimum i j
    present : optimum i j ≡ best → Route best → best ≤ ceiling → Optimum i j

  pub optimum_cases : (i j : ℕ) → Optimum i j
  unfolding optimum_of
  optimum_cases i j = go (known_cases Forward i) (known_cases Backward j)
    where
      go : Known Forward i → Known Backward j → Optimum i j
      go (yet a p) (yet b q) = missing (omega arith) (λ s. elim s as (λ t. state n (after t (by_side t i j)) (goal t) ≢ 2) [ Forward ↦ a | Backward ↦ b ])
      go (yet a p) (got _ q r l) = present (omega arith) r l
      go (got _ p r l) (yet b q) = present (omega arith) r l
      go (got _ p r l) (got _ q _ _) = present (omega arith) r l

  pub optimum_opened : optimum 0 0 ≡ unknown
  unfolding optimum_of
  optimum_opened = omega (arith, own_opened Forward, own_opened Backward)

  -- ---- rule 3

  -- a turn that settles another crossing leaves what its half knows
  own_miss : (s : Side) (k : ℕ) → next s k ≢ 0 → next s k ≢ goal s → own s (suc k) ≡ own s k
  own_miss s k ne miss = go (known_cases s k) (known_cases s (suc k))
    where
      r : Settles n (after s k) (after s (suc k)) (next s k)
      r = settles s map n m (root s) order.valid (root_in s) k ne

      go : Known s k → Known s (suc k) → own s (suc k) ≡ own s k
      go (yet _ p) (yet _ q) = q ∙ sym p
      go (got _ p _ _) (got _ q _ _) = q ∙ sym p
      go (yet a _) (got b _ _ _) = absurd (a (r.was (goal s) (goal_in s) (λ e. miss (sym e)) b))
      go (got a _ _ _) (yet b _) = absurd (b (ap (λ (e : Entry). e.state) (r.stays (goal s) (goal_in s) a) ∙ a))

  -- b is what the other half knows
  pub found_more : (s : Side) (k b o : ℕ) → next s k ≢ 0 → (b ≡ best) ⊎ (b ≡ unknown) → o ≡ min (own s k) b
      → found (goal s) (next s k) (dist (after s k) (next s k)) o ≡ min (own s (suc k)) b
  unfolding found
  found_more s k b o ne word e =
      dite (ℕ_discrete (next s k) (goal s))
      (λ hit. hits hit (known_cases s k) (known_cases s (suc k)))
      (λ miss. simp (ne_eqb _ _ miss) (e ∙ ap (λ (a : ℕ). min a b) (sym (own_miss s k ne miss))))
    where
      hits : next s k ≡ goal s → Known s k → Known s (suc k) → cond (eqb (next s k) (goal s) && not (known o)) (dist (after s k) (next s k)) o ≡ min (own s (suc k)) b
      hits hit (got a _ _ _) _ = absurd (omega (arith, (next_in s k ne).1, ap (state n (after s k)) hit))
      hits hit (yet a p) (yet c _) =
          absurd (c (ap (state n (after s (suc k))) (sym hit) ∙ ap (λ (e : Entry). e.state) (settles s map n m (root s) order.valid (root_in s) k ne).at_x))
      hits hit (yet a p) (got c q r l) =
          let d : best ≡ dist (after s k) (next s k) = best_is (goal_route s (subst (λ (v : ℕ). Least s map m (root s) v (dist (after s k) (next s k))) hit (next_cost s k ne))) in
          simp (eq-eqb _ _ hit)
          (⊎_elim
          (λ u. let z : o ≡ best = omega arith in simp (known_low o (omega arith)) (omega arith))
          (λ u. simp (known_unknown o (omega arith)) (omega arith))
          word)
