-- The theorems about one half, for either side and every valid map: after k is the half after k turns from its opening at root,
-- and next k is the crossing that the turn after them settles, 0 if there is none. Assumes nothing.
use mathlib.Core.Path.{◌≡◌, sym, ap, ◌∙◌, subst, subst⁻¹}
use mathlib.Core.Logic.{◌≢◌, ◌↔◌, ◌⊎◌, inl, inr, dite}
use mathlib.Core.List.{List}
use Prim.Native.Nat.{ℕ, zero, suc, ◌+◌, ◌≤◌, ◌<◌}
use native.Mathlib.Decide.{ℕ_discrete}
use native.Mathlib.Omega.{arith}
use borrow.Author.Tests.{eq-eqb, ne_eqb}
use Rattle.limits.specs.Limits.{Between}
use Rattle.map.specs.Map.{cost, Valid}
use Rattle.map.specs.Walk.{other, near, far, Walk, Least}
use Rattle.map.specs.declared.Side.{Side}
use Rattle.map.proofs.Walks.{near_in, least_unique, least_back}
use Rattle.half.specs.Half.{ceiling, dist, link, state, entry, open_half, nearest_open, settled_at, settled_count, ShapedHalf, Shaped, unseen, seen, Before, Tight}
use Rattle.half.specs.declared.Entry.{Entry}
use Rattle.half.proofs.Rule1.{First, nearest_open_lem, none_open, nearest_first}
use Rattle.half.proofs.Counts.{Settles, settled_at_settles, settles_count, settled_count_le}
use Rattle.half.proofs.Opening.{open_root}
use Rattle.nearest.specs.After.{settled_if, half_after}
use Rattle.nearest.proofs.Offers.{Held, before_trans}
use Rattle.nearest.proofs.Counting.{none_settled}
use Rattle.nearest.proofs.Kept.{Source, at_root, by_link, Kept, under, settled_at_kept, open_unsettled, open_kept}
use Rattle.nearest.proofs.Frontier.{Frontier, behind, ahead, walk_in, frontier, held_walk, held_least}

module _ (side : Side) (map : List ℕ) (n m root : ℕ) where
  abbrev after : ℕ → List ℕ
  after k = half_after side map n m root k

  abbrev next : ℕ → ℕ
  next k = nearest_open n (after k)

  -- ---- from one turn to the next

  -- where nothing is open, a turn changes nothing
  pub after_none : (k : ℕ) → next k ≡ 0 → after (suc k) ≡ after k
  unfolding half_after settled_if
  after_none k e = simp (eq-eqb _ _ e)

  -- where something is open, a turn settles the nearest
  pub after_some : (k : ℕ) → next k ≢ 0 → after (suc k) ≡ settled_at side map n m (next k) (after k)
  unfolding half_after settled_if
  after_some k ne = simp (ne_eqb _ _ ne)

  -- once nothing is open, the half stays
  pub after_all : (k j : ℕ) → k ≤ j → next k ≡ 0 → after j ≡ after k
  after_all k zero le e = ap after (omega arith)
  after_all k (suc j) le e =
      dite (ℕ_discrete k (suc j))
      (λ z. ap after (sym z))
      (λ ne. let p = after_all k j (omega arith) e in after_none j (ap (nearest_open n) p ∙ e) ∙ p)

  module _ (valid : Valid n m map) (cr : Between 1 n root) where
    first : (k : ℕ) → next k ≢ 0 → First n (after k) n (next k)
    first k ne = nearest_first (nearest_open_lem n (after k)) ne

    kept : (k : ℕ) → Kept side map n m root (after k)
    unfolding half_after
    kept zero = open_kept side map n m root valid cr
    kept (suc k) =
        dite (ℕ_discrete (next k) 0)
        (λ e. subst⁻¹ (Kept side map n m root) (after_none k e) (kept k))
        (λ ne. subst⁻¹ (Kept side map n m root) (after_some k ne) (settled_at_kept side map n m root valid cr (kept k) (first k ne)))

    -- every half from an opening is well shaped
    pub after_shaped : (k : ℕ) → ShapedHalf n m (after k)
    after_shaped k = (kept k).shaped

    -- a turn that finds an open crossing settles it, and it alone
    pub settles : (k : ℕ) → next k ≢ 0 → Settles n (after k) (after (suc k)) (next k)
    settles k ne =
        let r = first k ne in
        subst⁻¹ (λ (g : List ℕ). Settles n (after k) g (next k)) (after_some k ne)
        (settled_at_settles side map valid (next k) r.inside (after k) (kept k).shaped.room r.is_open)

    -- settled distances are least costs over all walks; so no crossing is settled that no walk leads to
    pub settled_least : (k v : ℕ) → Between 1 n v → state n (after k) v ≡ 2 → Least side map m root v (dist (after k) v)
    settled_least k = held_least side map n m root valid cr (kept k)

    -- ---- the settled ones are the k nearest

    -- a turn that finds an open crossing adds exactly one settled crossing
    pub one_more : (k : ℕ) → next k ≢ 0 → settled_count n (after (suc k)) ≡ suc (settled_count n (after k))
    one_more k ne = let r = first k ne in settles_count r.inside (λ s. omega (arith, r.is_open)) (settles k ne)

    -- while something is open, k turns settle k crossings
    pub settled_count_lem : (k : ℕ) → ((j : ℕ) → j < k → next j ≢ 0) → settled_count n (after k) ≡ k
    unfolding half_after
    settled_count_lem zero f = none_settled n (open_half n root) (open_unsettled side map n m root valid cr)
    settled_count_lem (suc k) f = one_more k (f k (omega arith)) ∙ ap suc (settled_count_lem k (λ j lt. f j (omega arith)))

    -- a settled crossing comes before every crossing that is not settled and that a walk leads to, by least cost and number
    pub settled_nearest : (k u v c : ℕ) → Between 1 n u → state n (after k) u ≡ 2 → state n (after k) v ≢ 2 → Walk side map m root v c → Before (dist (after k) u) u c v
    settled_nearest k u v c cu s o p = go (frontier side map n m root valid cr (kept k) p)
      where
        go : Frontier side map n m root (after k) v c → Before (dist (after k) u) u c v
        go (behind t _) = absurd (o t)
        go (ahead y cy oy q) = before_trans ((kept k).order u y cu cy s oy) q

    -- ---- what a turn settles

    -- it is an open crossing
    pub next_open : (k : ℕ) → next k ≢ 0 → Between 1 n (next k) × (state n (after k) (next k) ≡ 1)
    next_open k ne = let r = first k ne in (r.inside, r.is_open)

    -- it is settled at its least cost
    pub next_least : (k : ℕ) → next k ≢ 0 → Least side map m root (next k) (dist (after k) (next k))
    next_least k ne =
        let p = (settles k ne).at_x in
        subst (Least side map m root (next k)) (ap (λ (e : Entry). e.dist) p) (settled_least (suc k) (next k) (first k ne).inside (ap (λ (e : Entry). e.state) p))

    -- it is the first, by least cost and number, of those not settled that a walk leads to
    pub next_first : (k v c : ℕ) → next k ≢ 0 → state n (after k) v ≢ 2 → Walk side map m root v c → Before (dist (after k) (next k)) (next k) c v
    next_first k v c ne o p = go (frontier side map n m root valid cr (kept k) p)
      where
        go : Frontier side map n m root (after k) v c → Before (dist (after k) (next k)) (next k) c v
        go (behind t _) = absurd (o t)
        go (ahead y cy oy q) = before_trans ((first k ne).before y cy oy) q

    -- ---- what is settled stays, and was settled by one of the turns

    -- a settled crossing keeps its words
    pub settled_stays : (k j v : ℕ) → k ≤ j → Between 1 n v → state n (after k) v ≡ 2 → entry n (after j) v ≡ entry n (after k) v
    settled_stays k zero v le cv s = ap (λ (i : ℕ). entry n (after i) v) (omega arith)
    settled_stays k (suc j) v le cv s =
        dite (ℕ_discrete k (suc j))
        (λ z. ap (λ (i : ℕ). entry n (after i) v) (sym z))
        (λ ne.
        let p = settled_stays k j v (omega arith) cv s in
        dite (ℕ_discrete (next j) 0)
        (λ e. ap (λ (g : List ℕ). entry n g v) (after_none j e) ∙ p)
        (λ e. (settles j e).stays v cv (ap (λ (z : Entry). z.state) p ∙ s) ∙ p))

    -- what a turn settles has from then on the distance and the link number it had
    pub next_settled : (k j : ℕ) → k < j → next k ≢ 0 → entry n (after j) (next k) ≡ record { dist = dist (after k) (next k); link = link n (after k) (next k); state = 2 }
    next_settled k j lt ne =
        let p = (settles k ne).at_x in
        settled_stays (suc k) j (next k) lt (first k ne).inside (ap (λ (e : Entry). e.state) p) ∙ p

    -- a settled crossing was settled by a turn
    pub settled_once : (j v : ℕ) → Between 1 n v → state n (after j) v ≡ 2 → (k : ℕ) × (k < j) × (next k ≡ v)
    unfolding half_after
    settled_once zero v cv s = absurd (open_unsettled side map n m root valid cr v cv s)
    settled_once (suc j) v cv s =
        let later : state n (after j) v ≡ 2 → (k : ℕ) × (k < suc j) × (next k ≡ v) = λ t. let q = settled_once j v cv t in (q.0, omega (arith, q.1), q.2) in
        dite (ℕ_discrete (next j) 0)
        (λ e. later (ap (λ (g : List ℕ). state n g v) (sym (after_none j e)) ∙ s))
        (λ ne. dite (ℕ_discrete v (next j)) (λ e. (j, omega arith, sym e)) (λ e. later ((settles j ne).was v cv e s)))

    -- turns settle in the order of least cost and number
    pub in_order : (i j : ℕ) → i < j → next i ≢ 0 → next j ≢ 0 → Before (dist (after i) (next i)) (next i) (dist (after j) (next j)) (next j)
    in_order i j lt ni nj =
        let p = next_settled i j lt ni in
        let r = first j nj in
        rw (ap (λ (e : Entry). e.dist) p) at ((kept j).order (next i) (next j) (first i ni).inside r.inside (ap (λ (e : Entry). e.state) p) r.is_open)

    -- the first turn settles the root
    next_root : next 0 ≡ root
    unfolding half_after
    next_root = go ((kept 0).source (next 0) r.inside (omega (arith, r.is_open)))
      where
        some : next 0 ≢ 0
        some e = none_open (nearest_open_lem n (after 0)) e root cr (ap (λ (z : Entry). z.state) (open_root n root cr))

        r : First n (after 0) n (next 0)
        r = first 0 some

        go : Source side map n m root (after 0) (next 0) → next 0 ≡ root
        go (at_root e _ _) = e
        go (by_link k _ t) = absurd (open_unsettled side map n m root valid cr _ (near_in valid side k t.inside) t.from)

    -- from the first turn on the root is settled at distance 0 with link number 0
    pub root_settled : (k : ℕ) → entry n (after (suc k)) root ≡ record { dist = 0; link = 0; state = 2 }
    unfolding half_after
    root_settled k =
        let p = open_root n root cr in
        rw next_root at (next_settled 0 (suc k) (omega arith) (λ e. omega (arith, next_root))) ∙ (λ j. record { dist = (p j).dist; link = (p j).link; state = 2 })

    -- ---- the end

    -- nothing is open after n turns
    pub all_done : next n ≡ 0
    all_done =
        dite (ℕ_discrete (next n) 0) (λ e. e)
        (λ ne.
        let f : (j : ℕ) → j < suc n → next j ≢ 0 = λ j lt e. ne (ap (nearest_open n) (after_all j n (omega arith) e) ∙ e) in
        absurd (omega (arith, settled_count_lem (suc n) f, settled_count_le n (after (suc n)))))

    -- where nothing is open, a crossing is settled exactly if a walk leads to it
    pub settled_reached : (k v : ℕ) → Between 1 n v → next k ≡ 0 → (state n (after k) v ≡ 2) ↔ ((c : ℕ) × Walk side map m root v c)
    settled_reached k v cv e = (λ s. (dist (after k) v, (settled_least k v cv s).walk), λ w. go (frontier side map n m root valid cr (kept k) w.1))
      where
        go : {c : ℕ} → Frontier side map n m root (after k) v c → state n (after k) v ≡ 2
        go (behind s _) = s
        go (ahead y cy o _) = absurd (none_open (nearest_open_lem n (after k)) e y cy o)

    -- from the root to a crossing there is a least cost, or there is no walk
    pub least_or_none : (v : ℕ) → Between 1 n v → ((c : ℕ) × Least side map m root v c) ⊎ ((c : ℕ) → Walk side map m root v c → ⊥)
    least_or_none v cv =
        dite (ℕ_discrete (state n (after n) v) 2)
        (λ s. inl (dist (after n) v, settled_least n v cv s))
        (λ ne. inr (λ c p. ne ((settled_reached n v cv all_done).1 (c, p))))

    -- ---- the ceiling

    -- a sum to a crossing that is not settled is never over the ceiling
    pub sum_under : (k j : ℕ) → next k ≢ 0 → Between 1 m j → state n (after k) (far side map j) ≢ 2 → far side map j ≢ next k → dist (after k) (next k) + cost map j ≤ ceiling
    sum_under k j ne i = under side map n m root valid cr (kept k) (first k ne) j i

    -- a least cost never exceeds the ceiling
    pub least_ceiling : (v c : ℕ) → Least side map m root v c → c ≤ ceiling
    least_ceiling v c p = omega (arith, least_unique p (settled_least n v cv s), go ((after_shaped n).entries v cv))
      where
        cv : Between 1 n v
        cv = walk_in side map n m root valid cr p.walk

        s : state n (after n) v ≡ 2
        s = (settled_reached n v cv all_done).1 (c, p.walk)

        go : Shaped m (entry n (after n) v) → dist (after n) v ≤ ceiling
        go (unseen a _ _) = absurd (omega (arith, s))
        go (seen _ le _) = le

    -- ---- link numbers, and what an open crossing holds

    -- a link number is 0 at the root only
    pub link_root : (k v : ℕ) → Between 1 n v → 1 ≤ state n (after k) v → (link n (after k) v ≡ 0) ↔ (v ≡ root)
    link_root k v cv s = (λ z. go z ((kept k).source v cv s), λ e. rw e (let b = (kept k).root_held.before in let le = b.le in omega (arith, b.tie (omega arith))))
      where
        go : link n (after k) v ≡ 0 → Source side map n m root (after k) v → v ≡ root
        go z (at_root e _ _) = e
        go z (by_link j l t) = absurd (omega (arith, t.inside))

    -- any other names a link from a settled crossing that is nearer by exactly the cost
    pub link_tight : (k v : ℕ) → Between 1 n v → 1 ≤ state n (after k) v → v ≢ root → Tight side map n m (after k) v (link n (after k) v)
    link_tight k v cv s ne = go ((kept k).source v cv s)
      where
        go : Source side map n m root (after k) v → Tight side map n m (after k) v (link n (after k) v)
        go (at_root e _ _) = absurd (ne e)
        go (by_link j l t) = rw l t

    -- and no link from a settled crossing offers less, or as much over a lower number
    pub link_least : (k j : ℕ) → Between 1 m j → state n (after k) (near side map j) ≡ 2
        → Held (dist (after k) (near side map j) + cost map j) j (entry n (after k) (far side map j))
    link_least k = (kept k).closed

    -- so a settled crossing's link number is the lowest of those that end (backward: begin) a cheapest way
    pub link_lowest : (k v j c : ℕ) → Between 1 n v → state n (after k) v ≡ 2 → Between 1 m j → far side map j ≡ v → Walk side map m root (near side map j) c → c + cost map j ≡ dist (after k) v
        → link n (after k) v ≤ j
    link_lowest k v j c cv s i f p e =
        dite (ℕ_discrete (state n (after k) (near side map j)) 2)
        (λ o.
        let q = (rw f at (link_least k j i o)).before in
        let l = (settled_least k _ (near_in valid side j i) o).least c p in
        let le = q.le in
        q.tie (omega arith))
        (λ o. absurd (omega (arith, (settled_nearest k v _ c cv s o p).le, (valid.links j i).cost_in)))

    -- what an open crossing holds is the cost of a walk, so never under its least cost
    pub held_cost : (k v : ℕ) → Between 1 n v → 1 ≤ state n (after k) v → Walk side map m root v (dist (after k) v)
    held_cost k = held_walk side map n m root valid cr (kept k)

-- the distance of b in the half of one side from a is that of a in the half of the other side from b
pub halves_agree : (side : Side) (map : List ℕ) (n m a b : ℕ) → Valid n m map → Between 1 n a → Between 1 n b → (k j : ℕ)
    → state n (half_after side map n m a k) b ≡ 2 → state n (half_after (other side) map n m b j) a ≡ 2
    → dist (half_after side map n m a k) b ≡ dist (half_after (other side) map n m b j) a
halves_agree side map n m a b valid ca cb k j s t =
    least_unique (least_back (settled_least side map n m a valid ca k b cb s)) (settled_least (other side) map n m b valid cb j a ca t)
