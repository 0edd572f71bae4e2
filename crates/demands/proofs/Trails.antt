-- A crossing has one trail by lowest links; a half holds it; and on a finished bench the tests along it are the conditions of BL.
-- Assumes nothing.
use mathlib.Core.Path.{◌≡◌, refl, sym, ap, ◌∙◌, subst, subst⁻¹}
use mathlib.Core.Bool.{Bool, true, ◌&&◌, and-eq-true_iff}
use mathlib.Core.Logic.{◌≢◌, ◌↔◌, ⊎_elim}
use mathlib.Core.List.Memᴰ
use mathlib.Core.List.{List, [], ◌∷◌, Memᴰ}
use Prim.Native.Nat.{ℕ, ◌+◌, ◌*◌, ◌-◌, ◌≤◌}
use native.Mathlib.Omega.{arith}
use borrow.Author.Tests.{eq-eqb, eqb-true, leb-true, leb-false}
use lib.Dec.{leb}
use Rattle.limits.specs.Limits.{Between}
use Rattle.limits.proofs.Cases.{cond_cases}
use Rattle.map.specs.Walk.{other, near, by_side}
use Rattle.map.specs.declared.Side.{Side}
use Rattle.map.specs.declared.Side.TheVariants.{Forward, Backward}
use Rattle.map.proofs.Walks.{near_in, least_unique, least_back}
use Rattle.half.specs.Half.{dist, link, state}
use Rattle.half.specs.declared.Entry.{Entry}
use Rattle.shape.specs.Bench.{Bench, half, WellShaped}
use Rattle.trail.specs.Sound.{SoundHalf}
use Rattle.trail.specs.Trail.{trail, Settled, Trails}
use Rattle.trail.proofs.Walking.{trail_induct}
use Rattle.trail.proofs.Soundness.{link_root, sound_trails}
use Rattle.route.specs.Area.{tested, agrees_at, agrees, every, local_in}
use Rattle.demands.specs.Mixture.{Order}
use Rattle.demands.specs.Demands.{InArea, Route, Finished}
use Rattle.demands.specs.Trails.{Away, Lowest, Trail, at_root, by_link, Optimal, InLocal}
use Rattle.demands.proofs.Run.{bench}
use Rattle.demands.proofs.Area.{reached}
use Rattle.demands.proofs.Demands.{half_at_lem, stopped, demand_2_at, sound_at_lem}
use Rattle.demands.proofs.Refusals.{sound_half}

-- ---- the tests along a list are the test of each that is near enough

module _ (p : ℕ → Bool) (locality : ℕ) (h : List ℕ) (x : ℕ) where
  abbrev Each : List ℕ → Type 0
  Each qs = (q : ℕ) → Memᴰ q qs → dist h x - dist h q ≤ locality → p q ≡ true

  each_more : (v : ℕ) (qs : List ℕ) → (dist h x - dist h v ≤ locality → p v ≡ true) → Each qs → Each (v ∷ qs)
  each_more v qs a r q w = ⊎_elim (λ e. rw e a) (λ u. r q u) (Memᴰ.cases_cons w)

  tests_each : (qs : List ℕ) → (every p (tested locality h x qs) ≡ true) ↔ Each qs
  unfolding tested every
  tests_each [] = (λ _ q w. absurd (Memᴰ.not-nil w), λ _. refl)
  tests_each (v ∷ qs) =
      let r = tests_each qs in
      cond_cases (λ (l : List ℕ). (every p l ≡ true) ↔ Each (v ∷ qs)) (leb (dist h x - dist h v) locality)
      (λ t. (
        λ e. let w = (and-eq-true_iff _ _).0 e in each_more v qs (λ _. w.0) (r.0 w.1),
        λ f. (and-eq-true_iff _ _).1 (f v (Memᴰ.head refl) (leb-true _ _ t), r.1 (λ q w. f q (Memᴰ.tail w))),
      ))
      (λ t. (
        λ e. each_more v qs (λ le. absurd (omega (arith, leb-false (dist h x - dist h v) locality t))) (r.0 e),
        λ f. r.1 (λ q w. f q (Memᴰ.tail w)),
      ))

-- ---- a crossing has one trail

module _ {map : List ℕ} {m start target : ℕ} {s : Side} where
  lowest_same : {v k l : ℕ} → Lowest map m start target s v k → Lowest map m start target s v l → k ≡ l
  lowest_same p q = omega (arith, p.lowest _ q.ends, q.lowest _ p.ends)

  pub trail_same : {v : ℕ} {qs rs : List ℕ} → Trail map m start target s v qs → Trail map m start target s v rs → qs ≡ rs
  trail_same (at_root e f) (at_root _ g) = f ∙ sym g
  trail_same (at_root e f) (by_link _ ne _ _ _) = absurd (ne e)
  trail_same (by_link _ ne _ _ _) (at_root e _) = absurd (ne e)
  trail_same {v} (by_link k _ p t f) (by_link {rest = rest} l _ q u g) =
      f ∙ ap (λ (r : List ℕ). v ∷ r) (trail_same t (subst⁻¹ (λ (j : ℕ). Trail map m start target s (near s map j) rest) (lowest_same p q) u)) ∙ sym g

module _ {map : List ℕ} {n m start target stretch : ℕ} (order : Order map n m start target stretch) (past : List ℕ) (i j : ℕ) where
  abbrev b : Bench
  b = bench order past i j

  shaped : WellShaped n m b
  shaped = (sound_at_lem order past i j).well_shaped

  module _ (d : Finished map n m start target stretch b) where
    -- ---- a half holds it

    module _ (s : Side) where
      abbrev h : List ℕ
      h = half s b

      sound : SoundHalf s map n m (by_side s start target) h
      sound = sound_half order past i j s (d s)

      walk : Trails s map n h
      walk = sound_trails s map n m (by_side s start target) h order.valid (shaped.halves s) sound

      least : (v : ℕ) → Settled n h v → Away map m start target s v (dist h v)
      least v p = (demand_2_at order past i j).costs_least s v p.inside p.settled

      -- the link that a crossing names is the lowest
      names : (v : ℕ) → Settled n h v → v ≢ by_side s start target → Lowest map m start target s v (link n h v)
      names v p ne =
          let t = (sound_at_lem order past i j).linked s v p.inside ne p.settled in
          record {
            ends =
                record {
                  inside = t.inside;
                  into = t.comes;
                  before = dist h (near s map (link n h v));
                  walk = (least _ (record { inside = near_in order.valid s _ t.inside; settled = t.from })).walk;
                  cheapest = subst⁻¹ (Away map m start target s v) t.exact (least v p);
                };
            lowest = λ k e. (sound_at_lem order past i j).lowest s v k e.before p.inside p.settled e.inside e.into e.walk (least_unique e.cheapest (least v p));
          }

      pub held : (v : ℕ) → Settled n h v → Trail map m start target s v (trail s map n h v)
      held = trail_induct walk (Trail map m start target s) last more
        where
          last : (v : ℕ) → Settled n h v → link n h v ≡ 0 → Trail map m start target s v (v ∷ [])
          last v p z = at_root (link_root s map n m (by_side s start target) h order.valid (shaped.halves s) sound v p z) refl

          more : (v : ℕ) → Settled n h v → link n h v ≢ 0 → Trail map m start target s (near s map (link n h v)) (trail s map n h (near s map (link n h v)))
              → Trail map m start target s v (v ∷ trail s map n h (near s map (link n h v)))
          more v p nz t =
              let ne : v ≢ by_side s start target = λ e. nz (ap (link n h) e ∙ ap (λ (f : Entry). f.link) sound.root_is) in
              by_link (link n h v) ne (names v p ne) t refl

      -- what is on it is settled, and no farther
      on_trail : (v : ℕ) → Settled n h v → (q : ℕ) → Memᴰ q (trail s map n h v) → Settled n h q × (dist h q ≤ dist h v)
      on_trail = trail_induct walk P last more
        where
          P : ℕ → List ℕ → Type 0
          P v qs = (q : ℕ) → Memᴰ q qs → Settled n h q × (dist h q ≤ dist h v)

          last : (v : ℕ) → Settled n h v → link n h v ≡ 0 → P v (v ∷ [])
          last v p z q w = rw (Memᴰ.eq_of_singleton w) (p, omega arith)

          more : (v : ℕ) → Settled n h v → link n h v ≢ 0 → P (near s map (link n h v)) (trail s map n h (near s map (link n h v)))
              → P v (v ∷ trail s map n h (near s map (link n h v)))
          more v p nz r q w =
              ⊎_elim (λ e. rw e (p, omega arith)) (λ u. let x = r q u in (x.0, omega (arith, x.1, (walk.onward v p nz).nearer))) (Memᴰ.cases_cons w)

    -- ---- the conditions

    -- a finished half has settled all in reach
    settles : (s : Side) (v c o : ℕ) → Between 1 n v → Away map m start target s v c → Route map n m start target stretch o → 1000 * c ≤ stretch * o
        → (state n (half s b) v ≡ 2) × (dist (half s b) v ≡ c)
    settles s v c o cv l r le = rw (half_at_lem order past i j s) (reached order s (by_side s i j) v c o (stopped order past i j s (d s)) cv l r le)

    module _ (v : ℕ) (cv : Between 1 n v) (p : InArea map m start target stretch v) where
      away : (s : Side) → Away map m start target s v (by_side s p.from p.to) × (1000 * by_side s p.from p.to ≤ stretch * p.optimum)
      unfolding other
      away Forward = (p.from_least, omega (arith, p.within))
      away Backward = (least_back p.to_least, omega (arith, p.within))

      pub settled_both : (s : Side) → Settled n (half s b) v × (dist (half s b) v ≡ by_side s p.from p.to)
      settled_both s =
          let w = settles s v (by_side s p.from p.to) p.optimum cv (away s).0 p.optimum_least (away s).1 in
          (record { inside = cv; settled = w.0 }, w.1)

      limit : (s : Side) → 1000 * (dist (half s b) v + dist (half (other s) b) v) ≤ stretch * p.optimum
      unfolding other
      limit Forward = omega (arith, (settled_both Forward).1, (settled_both Backward).1, p.within)
      limit Backward = omega (arith, (settled_both Forward).1, (settled_both Backward).1, p.within)

      module _ (s : Side) where
        abbrev g : List ℕ
        g = half (other s) b

        abbrev way : List ℕ
        way = trail s map n (h s) v

        -- a crossing whose cost is d + to(v) is in reach, so the other half has settled it
        agree : (q : ℕ) → Memᴰ q way → (agrees n (h s) g v q ≡ true) ↔ Away map m start target (other s) q (dist (h s) v - dist (h s) q + dist g v)
        unfolding agrees agrees_at
        agree q w =
            let cq = (on_trail s v (settled_both s).0 q w).0.inside in (
              λ t. let u = (and-eq-true_iff _ _).0 t in
                  subst (Away map m start target (other s) q) (eqb-true _ _ u.1) (least (other s) q (record { inside = cq; settled = eqb-true _ _ u.0 })),
              λ l. let u = settles (other s) q _ p.optimum cq l p.optimum_least (omega (arith, limit s)) in
                  (and-eq-true_iff _ _).1 (eq-eqb _ _ u.0, eq-eqb _ _ u.1),
            )

        local_optimal : (locality : ℕ) → local_in s map n locality (h s) g v ≡ true → Optimal map m start target s locality v way
        unfolding local_in
        local_optimal locality t q a c e w lq lv le lo =
            let one = least_unique (least s q (on_trail s v (settled_both s).0 q w).0) lq in
            let two = least_unique (least s v (settled_both s).0) lv in
            let three = least_unique (least (other s) v (settled_both (other s)).0) lo in
            let z : dist (h s) v - dist (h s) q + dist g v ≡ e + c = omega arith in
            subst (Away map m start target (other s) q) z
            ((agree q w).0 ((tests_each (agrees n (h s) g v) locality (h s) v way).0 t q w (omega arith)))

        optimal_local : (locality : ℕ) → Optimal map m start target s locality v way → local_in s map n locality (h s) g v ≡ true
        unfolding local_in
        optimal_local locality f =
            (tests_each (agrees n (h s) g v) locality (h s) v way).1
            (λ q w le.
            let (sq, lower) = on_trail s v (settled_both s).0 q w in
            let z : dist (h s) q + (dist (h s) v - dist (h s) q) ≡ dist (h s) v = omega arith in
            (agree q w).1
            (f q _ _ _ w (least s q sq) (subst⁻¹ (Away map m start target s v) z (least s v (settled_both s).0)) le (least (other s) v (settled_both (other s)).0)))

      pub local_both : (locality : ℕ) → ((local_in Forward map n locality b.forward b.backward v && local_in Backward map n locality b.backward b.forward v) ≡ true)
          ↔ InLocal map m start target stretch locality v
      unfolding other
      local_both locality = (
        λ t. let u = (and-eq-true_iff _ _).0 t in
            record {
              area = p;
              trail = way;
              is_trail = λ s. held s v (settled_both s).0;
              optimal = λ s. elim s as (λ t. Optimal map m start target t locality v (way t)) [ Forward ↦ local_optimal Forward locality u.0 | Backward ↦ local_optimal Backward locality u.1 ];
            },
        λ l.
            let f : (s : Side) → Optimal map m start target s locality v (way s) = λ s. rw (trail_same (held s v (settled_both s).0) (l.is_trail s)) (l.optimal s) in
            (and-eq-true_iff _ _).1 (optimal_local Forward locality (f Forward), optimal_local Backward locality (f Backward)),
      )
