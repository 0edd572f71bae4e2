-- How many crossings are settled: none where none is, and two fewer than n where two are not. Assumes nothing.
use mathlib.Core.Path.{◌≡◌, refl, sym, ap, ◌∙◌}
use mathlib.Core.Bool.{cond}
use mathlib.Core.Logic.{◌≢◌}
use mathlib.Core.List.{List}
use Prim.Native.Nat.{ℕ, zero, suc, ◌+◌, ◌*◌, ◌≤◌}
use native.Mathlib.Omega.{arith}
use lib.Dec.{eqb}
use lib.ListN.{length}
use borrow.Author.Tests.{ne_eqb}
use Rattle.limits.specs.Limits.{Between}
use Rattle.half.specs.Fold.{up_to, tally}
use Rattle.half.specs.Half.{dist, link, state, put, settled_count}
use Rattle.half.specs.declared.Entry.{Entry}
use Rattle.half.proofs.Folds.{tally_same}
use Rattle.half.proofs.Entries.{put_length, Change, put_change}
use Rattle.half.proofs.Counts.{Settles, settles_count, settled_count_le}

tally_zero : (k : ℕ) → tally (λ _. 0) k ≡ 0
unfolding tally up_to
tally_zero zero = refl
tally_zero (suc k) = omega (arith, tally_zero k)

pub none_settled : (n : ℕ) (h : List ℕ) → ((v : ℕ) → Between 1 n v → state n h v ≢ 2) → settled_count n h ≡ 0
unfolding settled_count
none_settled n h f = tally_same (λ v. cond (eqb (state n h v) 2) 1 0) (λ _. 0) n (λ v i. simp (ne_eqb _ _ (f v i))) ∙ tally_zero n

-- h with x settled besides
abbrev marked : ℕ → List ℕ → ℕ → List ℕ
marked n h x = put n h x (record { dist = dist h x; link = link n h x; state = 2 })

marked_settles : (n : ℕ) (h : List ℕ) (x : ℕ) → length h ≡ 3 * n → Between 1 n x → state n h x ≢ 2 → Settles n h (marked n h x) x
marked_settles n h x room cx o =
    record {
      at_x = c.same;
      stays = λ v i s. c.other v i (λ e. o (ap (state n h) (sym e) ∙ s));
      was = λ v i ne s. sym (ap (λ (e : Entry). e.state) (c.other v i ne)) ∙ s;
    }
  where
    c : Change n h (marked n h x) x (record { dist = dist h x; link = link n h x; state = 2 })
    c = put_change n h x _ cx room

pub two_unsettled : (n : ℕ) (h : List ℕ) → length h ≡ 3 * n → (x w : ℕ) → Between 1 n x → Between 1 n w → w ≢ x → state n h x ≢ 2 → state n h w ≢ 2 → settled_count n h + 2 ≤ n
two_unsettled n h room x w cx cw ne ox ow =
    let p = marked_settles n h x room cx ox in
    let ot : state n (marked n h x) w ≢ 2 = λ s. ow (p.was w cw ne s) in
    let q = marked_settles n (marked n h x) w (put_length n h x _ ∙ room) cw ot in
    omega (arith, settles_count cx ox p, settles_count cw ot q, settled_count_le n (marked n (marked n h x) w))
