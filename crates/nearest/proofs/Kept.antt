-- What a half from its opening keeps, turn by turn: links of settled crossings are closed, what is held has a source, settled
-- ones come before open ones, and distances are bounded by how many are settled. Assumes nothing.
use mathlib.Core.Path.{◌≡◌, refl, ap, ◌∙◌, subst⁻¹}
use mathlib.Core.Logic.{◌≢◌, dite}
use mathlib.Core.List.{List}
use Prim.Native.Nat.{ℕ, ◌+◌, ◌*◌, ◌≤◌}
use native.Mathlib.Decide.{ℕ_discrete}
use native.Mathlib.Omega.{arith}
use Rattle.limits.specs.Limits.{Between}
use Rattle.map.specs.Map.{cost, Valid}
use Rattle.map.specs.Walk.{near, far}
use Rattle.map.specs.declared.Side.{Side}
use Rattle.map.proofs.Walks.{near_in, far_in}
use Rattle.half.specs.Half.{ceiling, unknown, dist, link, state, entry, open_half, settled_at, settled_count, Shaped, unseen, seen, ShapedHalf, Before, Tight}
use Rattle.half.specs.declared.Entry.{Entry}
use Rattle.half.proofs.Rule1.{First}
use Rattle.half.proofs.Opening.{open_root, open_other}
use Rattle.half.proofs.Counts.{Settles, settled_at_settles, settles_count}
use Rattle.half.proofs.Shape.{open_shaped, settled_at_shaped}
use Rattle.nearest.proofs.Offers.{before_trans, Held, From, old, new, Step, settled_at_step}
use Rattle.nearest.proofs.Counting.{two_unsettled}

-- one that is seen and not settled is open
pub is_open : {n m v : ℕ} {h : List ℕ} → ShapedHalf n m h → Between 1 n v → 1 ≤ state n h v → state n h v ≢ 2 → state n h v ≡ 1
is_open {n} {m} {v} {h} p cv s ne = go (p.entries v cv)
  where
    go : Shaped m (entry n h v) → state n h v ≡ 1
    go (unseen a _ _) = absurd (omega arith)
    go (seen a _ _) = omega arith

before_cong : {d u e v f g : ℕ} → Before d u e v → f ≡ d → g ≡ e → Before f u g v
before_cong p a b = record { le = omega arith; tie = λ t. p.tie (omega arith) }

module _ (side : Side) (map : List ℕ) (n m root : ℕ) where
  -- where what v holds comes from
  pub data Source (h : List ℕ) (v : ℕ) : Type 0 where
    at_root : v ≡ root → dist h v ≡ 0 → link n h v ≡ 0 → Source h v
    by_link : (k : ℕ) → link n h v ≡ k → Tight side map n m h v k → Source h v

  pub record Kept (h : List ℕ) : Type 0 where
    pub shaped : ShapedHalf n m h
    pub root_held : Held 0 0 (entry n h root)
    pub closed : (k : ℕ) → Between 1 m k → state n h (near side map k) ≡ 2 → Held (dist h (near side map k) + cost map k) k (entry n h (far side map k))
    pub source : (v : ℕ) → Between 1 n v → 1 ≤ state n h v → Source h v
    pub order : (u v : ℕ) → Between 1 n u → Between 1 n v → state n h u ≡ 2 → state n h v ≡ 1 → Before (dist h u) u (dist h v) v
    pub low : (v : ℕ) → Between 1 n v → state n h v ≡ 2 → dist h v + 65535 ≤ 65535 * settled_count n h

  module _ (valid : Valid n m map) (cr : Between 1 n root) where
    -- ---- the nearest open crossing is settled

    module _ {h : List ℕ} {x : ℕ} (I : Kept h) (r : First n h n x) where
      high : (v : ℕ) → Between 1 n v → 1 ≤ state n h v → dist h v ≤ 65535 * settled_count n h
      high v cv s = go (I.source v cv s)
        where
          go : Source h v → dist h v ≤ 65535 * settled_count n h
          go (at_root _ d _) = omega arith
          go (by_link k _ t) = omega (arith, I.low _ (near_in valid side k t.inside) t.from, (valid.links k t.inside).cost_in)

      -- a sum over a link to one that is not settled
      pub under : (k : ℕ) → Between 1 m k → state n h (far side map k) ≢ 2 → far side map k ≢ x → dist h x + cost map k ≤ ceiling
      under k i s ne =
          let o = r.is_open in
          let nx : state n h x ≢ 2 = λ t. omega arith in
          omega (arith, high x r.inside (omega arith), two_unsettled n h I.shaped.room x _ r.inside (far_in valid side k i) ne nx s, (valid.links k i).cost_in, valid.n_in)

      module _ {g : List ℕ} (p : Settles n h g x) (q : Step side map n m x h m g) (w : ShapedHalf n m g) where
        at_x : (dist g x ≡ dist h x) × (state n g x ≡ 2)
        at_x = (ap (λ (e : Entry). e.dist) p.at_x, ap (λ (e : Entry). e.state) p.at_x)

        stays : (u : ℕ) → Between 1 n u → state n h u ≡ 2 → (dist g u ≡ dist h u) × (state n g u ≡ 2)
        stays u cu s = (ap (λ (e : Entry). e.dist) (p.stays u cu s), ap (λ (e : Entry). e.state) (p.stays u cu s) ∙ s)

        -- x is the last of the settled ones
        last : (u : ℕ) → Between 1 n u → state n g u ≡ 2 → (dist g u ≡ dist h u) × Before (dist h u) u (dist h x) x
        last u cu s =
            dite (ℕ_discrete u x)
            (λ e. (rw e at_x.0, rw e (omega arith)))
            (λ ne. let t = p.was u cu ne s in ((stays u cu t).0, I.order u x cu r.inside t r.is_open))

        again_closed : (k : ℕ) → Between 1 m k → state n g (near side map k) ≡ 2 → Held (dist g (near side map k) + cost map k) k (entry n g (far side map k))
        again_closed k i s =
            rw (last _ cn s).0
            (dite (ℕ_discrete (near side map k) x)
            (λ e. rw e (dite (ℕ_discrete (state n g (far side map k)) 2) settled_far (λ t. q.offers k i e t)))
            (λ ne. q.improves _ cf _ _ (I.closed k i (p.was _ cn ne s))))
          where
            cn : Between 1 n (near side map k)
            cn = near_in valid side k i

            cf : Between 1 n (far side map k)
            cf = far_in valid side k i

            settled_far : state n g (far side map k) ≡ 2 → Held (dist h x + cost map k) k (entry n g (far side map k))
            settled_far t =
                let z = last _ cf t in
                let le = z.1.le in
                record { seen = omega arith; before = omega (arith, z.0, (valid.links k i).cost_in) }

        again_source : (v : ℕ) → Between 1 n v → 1 ≤ state n g v → Source g v
        again_source v cv s = go (q.from v cv s)
          where
            still : dist g v ≡ dist h v → link n g v ≡ link n h v → Source h v → Source g v
            still a b (at_root e d l) = at_root e (a ∙ d) (b ∙ l)
            still a b (by_link k l t) =
                let z = stays _ (near_in valid side k t.inside) t.from in
                by_link k (b ∙ l) (record { inside = t.inside; comes = t.comes; from = z.1; exact = omega (arith, z.0, t.exact) })

            go : From side map n m x h v (entry n g v) → Source g v
            go (old o a b) = still a b (I.source v cv o)
            go (new k i e f a b) = by_link k b (record { inside = i; comes = f; from = rw e at_x.1; exact = rw e (omega (arith, at_x.0)) })

        again_order : (u v : ℕ) → Between 1 n u → Between 1 n v → state n g u ≡ 2 → state n g v ≡ 1 → Before (dist g u) u (dist g v) v
        again_order u v cu cv s o = go (q.from v cv (omega arith))
          where
            z : (dist g u ≡ dist h u) × Before (dist h u) u (dist h x) x
            z = last u cu s

            go : From side map n m x h v (entry n g v) → Before (dist g u) u (dist g v) v
            go (old t a _) =
                let ot = is_open I.shaped cv t (q.left v cv (λ e. omega arith)).0 in
                before_cong (before_trans z.1 (r.before v cv ot)) z.0 a
            go (new k i e f a _) = let le = z.1.le in omega (arith, z.0, a, (valid.links k i).cost_in)

        again_low : (v : ℕ) → Between 1 n v → state n g v ≡ 2 → dist g v + 65535 ≤ 65535 * settled_count n g
        again_low v cv s =
            let o = r.is_open in
            let one = settles_count r.inside (λ t. omega arith) p in
            dite (ℕ_discrete v x)
            (λ e. rw e (omega (arith, one, at_x.0, high x r.inside (omega arith))))
            (λ ne. let t = p.was v cv ne s in omega (arith, one, (stays v cv t).0, I.low v cv t))

        again : Kept g
        again =
            record {
              shaped = w;
              root_held = q.improves root cr 0 0 I.root_held;
              closed = again_closed;
              source = again_source;
              order = again_order;
              low = again_low;
            }

      pub settled_at_kept : Kept (settled_at side map n m x h)
      settled_at_kept =
          again (settled_at_settles side map valid x r.inside h I.shaped.room r.is_open)
          (settled_at_step side map n m x h valid r.inside I.shaped.room r.is_open under)
          (settled_at_shaped side map valid x r.inside h r.is_open I.shaped)

    -- ---- an opened half

    open_cases : (P : ℕ → Entry → Type 0) → P root (record { dist = 0; link = 0; state = 1 })
        → ((v : ℕ) → P v (record { dist = unknown; link = 0; state = 0 })) → (v : ℕ) → Between 1 n v → P v (entry n (open_half n root) v)
    open_cases P a b v cv =
        dite (ℕ_discrete v root)
        (λ e. rw e (subst⁻¹ (P root) (open_root n root cr) a))
        (λ ne. subst⁻¹ (P v) (open_other n root cr v cv ne) (b v))

    pub open_unsettled : (v : ℕ) → Between 1 n v → state n (open_half n root) v ≢ 2
    open_unsettled = open_cases (λ _ e. e.state ≢ 2) (λ t. omega arith) (λ _ t. omega arith)

    pub open_kept : Kept (open_half n root)
    open_kept =
        record {
          shaped = open_shaped n m root cr;
          root_held = subst⁻¹ (Held 0 0) (open_root n root cr) (omega arith);
          closed = λ k i s. absurd (open_unsettled _ (near_in valid side k i) s);
          source = λ v cv s.
              let z = open_cases (λ u e. 1 ≤ e.state → (u ≡ root) × (e.dist ≡ 0) × (e.link ≡ 0)) (λ _. (refl, refl, refl)) (λ _ t. absurd (omega arith)) v cv s in
              at_root z.0 z.1 z.2;
          order = λ u v cu cv s. absurd (open_unsettled u cu s);
          low = λ v cv s. absurd (open_unsettled v cv s);
        }
