-- Rule 2: what an offer leaves, what one link does, and an induction over the links of a settled crossing. Assumes nothing.
use mathlib.Core.Path.{◌≡◌, refl, ◌∙◌}
use mathlib.Core.Bool.{◌&&◌, ◌||◌}
use mathlib.Core.Logic.{◌≢◌}
use mathlib.Core.List.{List}
use Prim.Native.Nat.{ℕ, suc, ◌+◌, ◌*◌}
use native.Mathlib.Omega.{arith}
use lib.Dec.{eqb, ltb}
use lib.ListN.{length}
use borrow.Author.Tests.{eq-eqb, eqb-true, eqb-false}
use Rattle.limits.specs.Limits.{Between}
use Rattle.map.specs.Map.{cost, Valid}
use Rattle.map.specs.Walk.{near, far}
use Rattle.map.specs.declared.Side.{Side}
use Rattle.map.proofs.Walks.{far_in}
use Rattle.half.specs.Half.{ceiling, dist, link, entry, offered, relaxed, settled_at}
use Rattle.half.specs.declared.Entry.{Entry}
use Rattle.limits.proofs.Cases.{cond_cases}
use Rattle.half.proofs.Folds.{up_to_keeps}
use Rattle.half.proofs.Entries.{put_length, Change, put_change}

module _ (k sum : ℕ) (e : Entry) where
  pub offered_settled : e.state ≡ 2 → offered k sum e ≡ e
  unfolding offered
  offered_settled o = simp (eq-eqb _ _ o)

  pub offered_unsettled : e.state ≢ 2 → (offered k sum e).state ≢ 2
  unfolding offered
  offered_unsettled o =
      cond_cases (λ (f : Entry). f.state ≢ 2) (eqb e.state 2) (λ _. o) (λ _.
      cond_cases (λ (f : Entry). f.state ≢ 2) (ltb ceiling sum) (λ _. o) (λ _.
      cond_cases (λ (f : Entry). f.state ≢ 2) (eqb e.state 0 || ltb sum e.dist) (λ _ z. omega arith) (λ _.
      cond_cases (λ (f : Entry). f.state ≢ 2) (eqb sum e.dist && ltb k e.link) (λ _. o) (λ _. o))))

module _ (side : Side) (map : List ℕ) (n x d k : ℕ) (h : List ℕ) where
  pub relaxed_length : length (relaxed side map n x d k h) ≡ length h
  unfolding relaxed
  relaxed_length = cond_cases (λ (g : List ℕ). length g ≡ length h) (eqb (near side map k) x) (λ _. put_length n h _ _) (λ _. refl)

  pub relaxed_cases : length h ≡ 3 * n → Between 1 n (far side map k) → (P : List ℕ → Type 0) → (near side map k ≢ x → P h)
      → ((g : List ℕ) → near side map k ≡ x → Change n h g (far side map k) (offered k (d + cost map k) (entry n h (far side map k))) → P g)
      → P (relaxed side map n x d k h)
  unfolding relaxed
  relaxed_cases room i P off on =
      cond_cases P (eqb (near side map k) x) (λ t. on _ (eqb-true _ _ t) (put_change n h _ _ i room)) (λ t. off (eqb-false _ _ t))

pub settled_at_length : (side : Side) (map : List ℕ) (n m x : ℕ) (h : List ℕ) → length (settled_at side map n m x h) ≡ length h
unfolding settled_at
settled_at_length side map n m x h =
    up_to_keeps (relaxed side map n x (dist h x)) (λ (k : ℕ) (g : List ℕ). length g ≡ length h) m (put_length n h x _)
    (λ k g i p. relaxed_length side map n x (dist h x) (suc k) g ∙ p)

-- what holds once x is settled, and is kept by each link, holds after all links
module _ (side : Side) (map : List ℕ) {n m : ℕ} (valid : Valid n m map) (x : ℕ) (cx : Between 1 n x) (h : List ℕ) (room : length h ≡ 3 * n) where
  pub settled_at_keeps : (P : ℕ → List ℕ → Type 0)
      → ((g : List ℕ) → Change n h g x (record { dist = dist h x; link = link n h x; state = 2 }) → P 0 g)
      → ((k : ℕ) (g : List ℕ) → Between 1 m (suc k) → near side map (suc k) ≢ x → P k g → P (suc k) g)
      → ((k : ℕ) (g f : List ℕ) → Between 1 m (suc k) → near side map (suc k) ≡ x
      → Change n g f (far side map (suc k)) (offered (suc k) (dist h x + cost map (suc k)) (entry n g (far side map (suc k)))) → P k g → P (suc k) f)
      → P m (settled_at side map n m x h)
  unfolding settled_at
  settled_at_keeps P start off on =
      (up_to_keeps (relaxed side map n x (dist h x)) (λ (k : ℕ) (g : List ℕ). (length g ≡ 3 * n) × P k g) m
      (put_length n h x _ ∙ room, start _ (put_change n h x _ cx room))
      (λ k g i p. (
        relaxed_length side map n x (dist h x) (suc k) g ∙ p.0,
        relaxed_cases side map n x (dist h x) (suc k) g p.0 (far_in valid side (suc k) i) (P (suc k))
            (λ ne. off k g i ne p.1)
            (λ f e c. on k g f i e c p.1),
      ))
      ).1
