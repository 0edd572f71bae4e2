-- What the route calls write, and what is handed back: no words exactly on a refusal. Assumes nothing.
use Rattle.std.proofs.Common.{◌≡◌, ℕ, ◌+◌, ◌≤◌, Bool, true, false, cond, eqb, List, [], ◌∷◌, ◌++◌, length, take, drop, refl, sym, ap, ◌∙◌, arith, Result, Ok, Err}
use Rattle.std.specs.Result.{result_unwrap_or}
use native.Mathlib.Decide.{ℕ_discrete}
use lib.Seq.{sets, sets-eq, take-append_seam}
use borrow.Author.Tests.{eq-eqb, ne_eqb}
use Rattle.limits.specs.Said.{Said, told, refused, unless_refused}
use Rattle.limits.specs.declared.Refusal.{Refusal}
use Rattle.limits.proofs.Said.{told_refused}
use Rattle.shape.specs.Bench.{parse}
use Rattle.route.specs.Area.{route_of}
use Rattle.area.specs.Finished.{route_fault}
use Rattle.area.proofs.Routes.{Routed, asked_goes, route_routed, routed_long}
use Rattle.bench.specs.Calls.{judged}
use Rattle.bench.specs.Routes.{said_routing, filled_words, route_said, route_part, route_buffer}
use Rattle.bench.proofs.Laws.{passed_writes}

-- as many words as the part that the answer speaks of
words_by : (fault : ℕ) (t : Bool) (l : List ℕ) (r : Result ℕ Refusal) → said_routing r ≡ cond t (told (length l ∷ [])) (refused fault [])
    → filled_words r ≡ length (unless_refused (cond t (told (length l ∷ [])) (refused fault [])) l [])
words_by fault true l (Ok k) e = cc
words_by fault true l (Err q) e = absurd (told_refused (sym e))
words_by fault false l (Ok k) e = absurd (told_refused e)
words_by fault false l (Err q) e = refl

pub filled_or : (r : Result ℕ Refusal) → result_unwrap_or r 0 ≡ filled_words r
filled_or (Ok k) = refl
filled_or (Err q) = refl

module _ (map : List ℕ) (n m : ℕ) (x : List ℕ) (crossing : ℕ) (buffer : List ℕ) where
  abbrev way : List ℕ
  way = route_of map (parse n x) crossing

  -- ---- filling

  module _ (z : 0 ≡ route_fault map n m x crossing (length buffer)) where
    pub fill_ready : Routed map n m x crossing (length buffer)
    fill_ready = route_routed map n m x crossing (length buffer) (sym z)

    pub fill_room : length way ≤ length buffer
    fill_room = (asked_goes map (parse n x) crossing (length buffer) fill_ready.asked).1

    pub fill_goes : {y : List ℕ} → y ≡ sets buffer 0 way → y ≡ route_buffer map n m x crossing buffer
    unfolding route_buffer route_said
    fill_goes q =
        let k : 0 + length way ≡ length way = omega arith in
        passed_writes _ (length way ∷ []) buffer _ _ z (q ∙ sets-eq way buffer 0 (omega (arith, fill_room)) ∙ ap (λ (j : ℕ). way ++ drop j buffer) k)

    -- a route's length passes no 32 bits
    pub fill_short : length way ≤ 8191
    fill_short = omega (arith, fill_ready.ready.valid.n_in.most, routed_long fill_ready)

  -- ---- the part handed back

  pub part_refused : (route_fault map n m x crossing (length buffer) ≡ 0 → ⊥) → route_part map n m x crossing buffer ≡ []
  unfolding route_part route_said judged
  part_refused z = simp (ne_eqb _ _ z)

  part_routed : route_fault map n m x crossing (length buffer) ≡ 0 → route_part map n m x crossing buffer ≡ way
  unfolding route_part route_said judged
  part_routed z = simp (eq-eqb _ _ z)

  -- a route has words
  pub part_some : route_fault map n m x crossing (length buffer) ≡ 0 → 1 ≤ length (route_part map n m x crossing buffer)
  part_some z = rw (part_routed z) (routed_long (route_routed map n m x crossing (length buffer) z)).least

  part_room : length (route_part map n m x crossing buffer) ≤ length buffer
  part_room = go (ℕ_discrete (route_fault map n m x crossing (length buffer)) 0)
    where
      go : Dec (route_fault map n m x crossing (length buffer) ≡ 0) → length (route_part map n m x crossing buffer) ≤ length buffer
      go (yes z) = rw (part_routed z) (fill_room (sym z))
      go (no z) = rw (part_refused z) (omega arith)

  -- the buffer begins with the part, and its later words stay
  pub buffer_part : route_buffer map n m x crossing buffer ≡ route_part map n m x crossing buffer ++ drop (length (route_part map n m x crossing buffer)) buffer
  unfolding route_buffer route_part
  buffer_part = go (route_said map n m x crossing buffer)
    where
      go : (s : Said) → unless_refused s (way ++ drop (length way) buffer) buffer ≡ unless_refused s way [] ++ drop (length (unless_refused s way [])) buffer
      go (told values) = refl
      go (refused number values) = refl

  module _ (r : Result ℕ Refusal) (e : said_routing r ≡ route_said map n m x crossing buffer) {k : ℕ} (f : k ≡ filled_words r) where
    handed_words : k ≡ length (route_part map n m x crossing buffer)
    unfolding route_part route_said judged
    handed_words = f ∙ words_by (route_fault map n m x crossing (length buffer)) (eqb (route_fault map n m x crossing (length buffer)) 0) way r e

    pub handed_room : k ≤ length buffer
    handed_room = rw handed_words part_room

    pub handed_part : {y : List ℕ} → y ≡ route_buffer map n m x crossing buffer → take k y ≡ route_part map n m x crossing buffer
    handed_part p = rw (p, handed_words, buffer_part) (take-append_seam (route_part map n m x crossing buffer) _)
