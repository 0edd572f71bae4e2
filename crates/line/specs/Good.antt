-- Good lines as a relation, apart from how a line is read: what spells a number, and the bytes of each kind of line. Assumes nothing.
use Rattle.std.specs.Prelude.{◌≡◌, List, [], ◌∷◌, ◌++◌, ℕ, ◌+◌, ◌*◌, ◌-◌, ◌≤◌, length, get_or}
use Rattle.limits.specs.Limits.{Between}

pub data All {A : Type 0} (P : A → Type 0) : List A → Type 0 where
  none : All P []
  more : {x : A} {xs : List A} → P x → All P xs → All P (x ∷ xs)

abbrev pub NoLf : ℕ → Type 0
NoLf b = b ≡ 10 → ⊥

-- ---- a number

-- the worth of digits behind a number v
unfoldable pub worth_from : ℕ → List ℕ → ℕ
worth_from v [] = v
worth_from v (d ∷ ds) = worth_from (v * 10 + (d - 48)) ds

-- 1 to 10 digits, no leading zero except `0` itself, at most 4,294,967,295
pub record Spells (ds : List ℕ) (v : ℕ) : Type 0 where
  pub count : Between 1 10 (length ds)
  pub digits : All (Between 48 57) ds
  pub leading : get_or ds 0 0 ≡ 48 → length ds ≡ 1
  pub worth : worth_from 0 ds ≡ v
  pub most : v ≤ 4294967295

-- ---- the three kinds of line, each with its LF

-- `c` alone, or `c` and a space and anything
pub data CommentLine (l : List ℕ) : Type 0 where
  alone : l ≡ 99 ∷ 10 ∷ [] → CommentLine l
  spaced : (xs : List ℕ) → All NoLf xs → l ≡ 99 ∷ 32 ∷ (xs ++ 10 ∷ []) → CommentLine l

-- `p sp N M`
pub record SizeLine (l : List ℕ) (n m : ℕ) : Type 0 where
  pub ns : List ℕ
  pub ms : List ℕ
  pub spells_n : Spells ns n
  pub spells_m : Spells ms m
  pub bytes : l ≡ 112 ∷ 32 ∷ 115 ∷ 112 ∷ 32 ∷ (ns ++ 32 ∷ (ms ++ 10 ∷ []))

-- `a U V W`
pub record LinkLine (l : List ℕ) (u v w : ℕ) : Type 0 where
  pub us : List ℕ
  pub vs : List ℕ
  pub ws : List ℕ
  pub spells_u : Spells us u
  pub spells_v : Spells vs v
  pub spells_w : Spells ws w
  pub bytes : l ≡ 97 ∷ 32 ∷ (us ++ 32 ∷ (vs ++ 32 ∷ (ws ++ 10 ∷ [])))
