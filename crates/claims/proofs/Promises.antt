-- The promises of the public calls: refused by number, nothing written on a refusal, and nothing left free. Assumes nothing.
use mathlib.Core.Path.{◌≡◌, refl, sym, ap, ◌∙◌}
use mathlib.Core.Logic.{◌≢◌}
use mathlib.Core.List.{List, []}
use Prim.Native.Nat.{ℕ, ◌≤◌}
use native.Mathlib.Omega.{arith}
use lib.ListN.{length, drop}
use Rattle.std.specs.Prelude.{Result, Ok, Err}
use Rattle.limits.specs.Limits.{Between}
use Rattle.limits.specs.Refusals.{fault_of}
use Rattle.limits.specs.declared.Refusal.{Refusal}
use Rattle.limits.proofs.Refused.{number_not_zero}
use Rattle.limits.specs.Said.{Said, told, refused, unless_refused}
use Rattle.text.specs.Text.{said, map_after}
use Rattle.text.proofs.Refusals.{said_same}
use Rattle.bench.specs.Calls.{said_opening, open_words, said_turn, turn_words}
use Rattle.bench.specs.Areas.{said_filling, area_mask}
use Rattle.bench.specs.Routes.{said_routing, route_buffer}
use Rattle.bench.proofs.Answers.{opening_same, turn_same, filling_same, routing_same}
use Rattle.bench.proofs.Routes.{part_refused, part_some}
use Rattle.table.proofs.Numbers.{Numbered}
use Rattle.table.proofs.Reader.{read_numbered}
use Rattle.table.proofs.Ranges.{map_in, route_in_lem, open_numbered, turn_numbered, area_numbered, route_numbered}
use Rattle.sankayop.specs.Packed.{number, first, second, in_one, packed, Fits, Packs}
use Rattle.sankayop.proofs.Packs.{parts_same, open_packs, turn_packs, area_packs, route_packs}
use Rattle.sankayop.proofs.Reading.{read_packs}
use Rattle.demands.specs.Calls.{mixture_words}
use Rattle.claims.specs.Promises.{Kept, Answered, KeptPacked, Told, Promises}

-- ---- the promises

-- an answer that says s, and memory that is filled unless s is a refusal
kept : {A : Type 0} (say : A → Said) → ((a b : A) → say a ≡ say b → a ≡ b) → (low high : ℕ) (s : Said) → Numbered low high s
    → (filled lent : List ℕ) → Kept say low high lent (λ t after. (t ≡ s) × (after ≡ unless_refused s filled lent))
kept say alike low high s numbers filled lent =
    record {
      numbered = λ after number rest p. numbers number rest (sym p.0);
      stays = λ after number rest p. p.1 ∙ ap (λ (t : Said). unless_refused t filled lent) (sym p.0);
      same = λ a b x y p q. (alike a b (p.0 ∙ sym q.0), p.1 ∙ sym q.1);
      one = λ s t x y p q. (p.0 ∙ sym q.0, p.1 ∙ sym q.1);
    }

-- two answers with the same number, 0 for none, are the same
fault_same : (a b : Result (Unit {0}) Refusal) → fault_of a ≡ fault_of b → a ≡ b
fault_same (Ok _) (Ok _) e = refl
fault_same (Ok _) (Err q) e = absurd (number_not_zero q (sym e))
fault_same (Err r) (Ok _) e = absurd (number_not_zero r e)
fault_same (Err r) (Err q) e = opening_same (Err r) (Err q) (ap (λ (k : ℕ). refused k []) e)

answered : (low high fault : ℕ) → (fault ≢ 0 → Between low high fault) → Answered low high (λ number. number ≡ fault)
answered low high fault b =
    record { numbered = λ number e ne. rw e (b (λ z. omega (arith, ne, e, z))); same = λ r q e f. fault_same r q (e ∙ sym f); one = λ k l e f. e ∙ sym f }

-- what they say holds of any number that is promised, also of one that no refusal has
pub answered_between : {low high fault : ℕ} → Answered low high (λ number. number ≡ fault) → fault ≢ 0 → Between low high fault
answered_between {fault = fault} a ne = a.numbered fault refl (omega (arith, ne))

pub kept_between : {A : Type 0} {say : A → Said} {low high fault : ℕ} {rest lent : List ℕ}
    → Kept say low high lent (λ s after. (s ≡ refused fault rest) × (after ≡ lent)) → Between low high fault
kept_between {fault = fault} {rest = rest} {lent = lent} a = a.numbered lent fault rest (refl, refl)

told_same : {A : Type 0} (answer : A) → Told (λ r. r ≡ answer)
told_same answer = record { same = λ a b e f. e ∙ sym f }

-- the same, where the answer is packed: what it can be taken apart into is what s says
kept_packed : (low high : ℕ) (s : Said) → Packs s → Numbered low high s → (filled lent : List ℕ)
    → KeptPacked low high lent (λ r after. (r ≡ packed s) × (after ≡ unless_refused s filled lent))
unfolding packed
kept_packed low high s fits numbers filled lent =
    record {
      numbered = λ r after p k a b f e ne. numbered s fits numbers k a b f (sym e ∙ p.0) ne;
      stays = λ r after p k a b f e ne. p.1 ∙ stays s fits k a b f (sym e ∙ p.0) ne;
      same = λ r q x y p e. (p.0 ∙ sym e.0, p.1 ∙ sym e.1);
    }
  where
    numbered : (t : Said) → Packs t → Numbered low high t → (k a b : ℕ) → Fits k a b → in_one k a b ≡ in_one (number t) (first t) (second t) → k ≢ 0 → Between low high k
    numbered (told vs) p ns k a b f e ne = absurd (ne (parts_same f p e).0)
    numbered (refused r vs) p ns k a b f e ne = rw (parts_same f p e).0 (ns r vs refl)

    stays : (t : Said) → Packs t → (k a b : ℕ) → Fits k a b → in_one k a b ≡ in_one (number t) (first t) (second t) → k ≢ 0 → unless_refused t filled lent ≡ lent
    stays (told vs) p k a b f e ne = absurd (ne (parts_same f p e).0)
    stays (refused r vs) p k a b f e ne = refl

-- a part with words is no empty one
some_words : {l : List ℕ} → 1 ≤ length l → l ≢ []
some_words le e = omega (arith, ap length e)

pub promises : {Place : Type 0} → Promises Place
unfolding map_after open_words turn_words area_mask route_buffer mixture_words
promises =
    record {
      read = λ text map. kept said said_same 1 5 _ (read_numbered (length map) text) _ map;
      begin = λ text. told_same _;
      line_here = λ reader. told_same _;
      past_line = λ reader. told_same _;
      read_on = λ reader map. kept said said_same 1 5 _ (read_numbered (length map) (drop reader.at reader.text.now)) _ map;
      check = λ map n m. answered 2 5 _ (map_in map n m);
      open_bench = λ map n m start target stretch x.
          kept said_opening opening_same 2 5 _ (open_numbered map n m x start target stretch) _ x;
      turn = λ s map n m x. kept said_turn turn_same 2 6 _ (turn_numbered map n m x s) _ x;
      area = λ map n m x locality mask. kept said_filling filling_same 2 9 _ (area_numbered map n m x locality mask) _ mask;
      fill_route = λ map n m x crossing buffer.
          kept said_routing routing_same 2 10 _ (route_numbered map n m x crossing buffer) _ buffer;
      route_refusal = λ map n m x crossing buffer. answered 2 10 _ (route_in_lem map n m x crossing (length buffer));
      route_same = λ map n m x crossing buffer lent p q i j a b. (a.0 ∙ sym b.0, a.1 ∙ sym b.1);
      route_empty = λ map n m x crossing buffer lent p i a. (
        λ e z. some_words (part_some map n m x crossing buffer z) (sym a.0 ∙ e),
        λ ne. a.0 ∙ part_refused map n m x crossing buffer ne,
      );
      mixture = λ map n m start target stretch schedule x.
          kept said_opening opening_same 2 5 _ (open_numbered map n m x start target stretch) _ x;
      c_read = λ text map. kept_packed 1 5 _ (read_packs (length map) text) (read_numbered (length map) text) _ map;
      c_open = λ map n m start target stretch x. kept_packed 2 5 _ (open_packs map n m x start target stretch) (open_numbered map n m x start target stretch) _ x;
      c_turn = λ s map n m x. kept_packed 2 6 _ (turn_packs map n m x s) (turn_numbered map n m x s) _ x;
      c_area = λ map n m x locality mask. kept_packed 2 9 _ (area_packs map n m x locality mask) (area_numbered map n m x locality mask) _ mask;
      c_route = λ map n m x crossing route. kept_packed 2 10 _ (route_packs map n m x crossing route) (route_numbered map n m x crossing route) _ route;
    }
