-- What is judged check by check: laws of it, parts of the table with the number that they give, and single checks. Assumes nothing.
use mathlib.Core.Path.{◌≡◌, refl, sym, ◌∙◌}
use mathlib.Core.Bool.{Bool, true, false, cond}
use mathlib.Core.Logic.{◌≢◌, inl, inr}
use mathlib.Core.List.{List, [], ◌∷◌, ◌++◌}
use Prim.Native.Nat.{ℕ, ◌≤◌}
use native.Mathlib.Decide.{ℕ_discrete}
use native.Mathlib.Omega.{arith}
use Rattle.limits.specs.First.{or_else}
use Rattle.limits.specs.Limits.{Between}
use Rattle.limits.proofs.Cases.{cond_then}
use Rattle.limits.proofs.Laws.{or_else_first, or_else_second, outside_none, none_outside, room_none, none_room}
use Rattle.table.specs.Table.{Check, unless, Judged}
use Rattle.table.proofs.Numbers.{Only, unless_only, outside_only, room_only}

-- the table leaves one number
pub judged_same : (cs : List Check) (a b : ℕ) → Judged cs a → Judged cs b → a ≡ b
judged_same [] a b p q = p ∙ sym q
judged_same (unless given asked ∷ rest) a b (inl (_, p)) (inl (_, q)) = judged_same rest a b p q
judged_same (unless given asked ∷ rest) a b (inl (y, _)) (inr (n, _)) = absurd (n y)
judged_same (unless given asked ∷ rest) a b (inr (n, _)) (inl (y, _)) = absurd (n y)
judged_same (unless given asked ∷ rest) a b (inr (_, p)) (inr (_, q)) = p ∙ sym q

-- every number lies in a range
abbrev pub Numbers : ℕ → ℕ → List Check → Type 0
Numbers low high [] = Unit {0}
Numbers low high (unless given asked ∷ rest) = Between low high given × Numbers low high rest

pub judged_in : (low high : ℕ) (cs : List Check) (number : ℕ) → Numbers low high cs → Judged cs number → number ≢ 0 → Between low high number
judged_in low high [] number b p ne = absurd (ne p)
judged_in low high (unless given asked ∷ rest) number b (inl (_, p)) ne = judged_in low high rest number b.1 p ne
judged_in low high (unless given asked ∷ rest) number b (inr (_, p)) ne = let z = b.0 in omega (arith, p)

pub numbers_append : (low high : ℕ) (cs ds : List Check) → Numbers low high cs → Numbers low high ds → Numbers low high (cs ++ ds)
numbers_append low high [] ds p q = q
numbers_append low high (unless given asked ∷ rest) ds p q = (p.0, numbers_append low high rest ds p.1 q)

-- checks, and the number that they give
pub record Part : Type 1 where
  pub checks : List Check
  pub number : ℕ
  pub numbers : Numbers 1 10 checks
  pub judged : Judged checks number

-- the checks of p, and where all are met others
pub next : (p : Part) (ds : List Check) (b : ℕ) → (p.number ≡ 0 → Judged ds b) → Judged (p.checks ++ ds) (or_else p.number b)
next p ds b q = go p.checks p.numbers p.judged
  where
    go : (cs : List Check) → Numbers 1 10 cs → Judged cs p.number → Judged (cs ++ ds) (or_else p.number b)
    go [] some z = rw (or_else_second p.number b z) (q z)
    go (unless given asked ∷ rest) some (inl (y, j)) = inl (y, go rest some.1 j)
    go (unless given asked ∷ rest) some (inr (n, e)) = let z = some.0 in inr (n, or_else_first p.number b (λ k. omega (arith, e)) ∙ e)

-- the checks of p, then those of q
unfoldable pub both : Part → Part → Part
both p q =
    record {
      checks = p.checks ++ q.checks;
      number = or_else p.number q.number;
      numbers = numbers_append 1 10 p.checks q.checks p.numbers q.numbers;
      judged = next p q.checks q.number (λ _. q.judged);
    }

-- ---- single checks

unfoldable pub one : {asked : Type 0} (given fault : ℕ) → Between 1 10 given → (fault ≡ 0 → asked) → (asked → fault ≡ 0) → Only given fault → Part
one {asked} given fault b p q only =
    record {
      checks = unless given asked ∷ [];
      number = fault;
      numbers = (b, tt);
      judged = go (ℕ_discrete fault 0);
    }
  where
    go : Dec (fault ≡ 0) → Judged (unless given asked ∷ []) fault
    go (yes z) = inl (p z, z)
    go (no ne) = inr (λ y. ne (q y), only ne)

unfoldable pub in_range : (low high given x : ℕ) → Between 1 10 given → Part
in_range low high given x b =
    one given _ b (outside_none low high given x (λ e. omega arith)) (none_outside low high given x) (outside_only given low high x)

unfoldable pub up_to : (high given x : ℕ) → Between 1 10 given → Part
up_to high given x b =
    one given _ b (λ z. (outside_none 0 high given x (λ e. omega arith) z).most) (λ (le : x ≤ high). none_outside 0 high given x (omega arith)) (outside_only given 0 high x)

unfoldable pub has_room : (needed lent : ℕ) → Part
has_room needed lent = one 3 _ (omega arith) (room_none needed lent) (none_room needed lent) (room_only needed lent)

-- a test that the check asks for
unfoldable pub so : {asked : Type 0} (given : ℕ) (t : Bool) → Between 1 10 given → (t ≡ true → asked) → (t ≡ false → asked → ⊥) → Part
so {asked} given t b p q = one given (cond t 0 given) b (λ z. p (cond_then t z (λ e. omega arith)).0) (λ y. go t refl y) (unless_only given t)
  where
    go : (u : Bool) → t ≡ u → asked → cond u 0 given ≡ 0
    go true e y = refl
    go false e y = absurd (q e y)
