-- A half as entries: lengths, and what a half holds after one entry is put. Assumes nothing.
use mathlib.Core.Path.{◌≡◌, ◌∙◌, subst⁻¹}
use mathlib.Core.Logic.{◌≢◌, dite}
use mathlib.Core.List.{List}
use Prim.Native.Nat.{ℕ, ◌+◌, ◌-◌, ◌*◌, ◌<◌}
use native.Mathlib.Omega.{arith}
use native.Mathlib.Decide.{ℕ_discrete}
use lib.ListN.{length, get_or, set, length-set}
use lib.Seq.{get_or-set_same, get_or-set_other}
use Rattle.limits.specs.Limits.{Between}
use Rattle.half.specs.Half.{dist, link, state, entry, put}
use Rattle.half.specs.declared.Entry.{Entry}

pub put_length : (n : ℕ) (h : List ℕ) (v : ℕ) (e : Entry) → length (put n h v e) ≡ length h
unfolding put
put_length n h v e = simp length-set

-- a word after three are stored at a, b and c
module _ (h : List ℕ) (a b c x y z : ℕ) where
  past : (i : ℕ) → i ≢ a → i ≢ b → i ≢ c → get_or (set (set (set h a x) b y) c z) i 0 ≡ get_or h i 0
  past i p q r = get_or-set_other (set (set h a x) b y) c i z 0 r ∙ get_or-set_other (set h a x) b i y 0 q ∙ get_or-set_other h a i x 0 p

  first : a ≢ b → a ≢ c → a < length h → get_or (set (set (set h a x) b y) c z) a 0 ≡ x
  first q r g = get_or-set_other (set (set h a x) b y) c a z 0 r ∙ get_or-set_other (set h a x) b a y 0 q ∙ get_or-set_same h a x 0 g

  second : b ≢ c → b < length h → get_or (set (set (set h a x) b y) c z) b 0 ≡ y
  second r g = get_or-set_other (set (set h a x) b y) c b z 0 r ∙ get_or-set_same (set h a x) b y 0 (simp length-set g)

  third : c < length h → get_or (set (set (set h a x) b y) c z) c 0 ≡ z
  third g = get_or-set_same (set (set h a x) b y) c z 0 (simp length-set g)

module _ (n : ℕ) (h : List ℕ) (v : ℕ) (e : Entry) (i : Between 1 n v) (room : length h ≡ 3 * n) where
  pub put_same : entry n (put n h v e) v ≡ e
  unfolding put dist link state
  put_same = λ j. record {
    dist = first h (v - 1) (n + (v - 1)) (2 * n + (v - 1)) e.dist e.link e.state (omega arith) (omega arith) (omega arith) j;
    link = second h (v - 1) (n + (v - 1)) (2 * n + (v - 1)) e.dist e.link e.state (omega arith) (omega arith) j;
    state = third h (v - 1) (n + (v - 1)) (2 * n + (v - 1)) e.dist e.link e.state (omega arith) j;
  }

  pub put_other : (u : ℕ) → Between 1 n u → u ≢ v → entry n (put n h v e) u ≡ entry n h u
  unfolding put dist link state
  put_other u k ne = λ j. record {
    dist = past h (v - 1) (n + (v - 1)) (2 * n + (v - 1)) e.dist e.link e.state (u - 1) (omega arith) (omega arith) (omega arith) j;
    link = past h (v - 1) (n + (v - 1)) (2 * n + (v - 1)) e.dist e.link e.state (n + (u - 1)) (omega arith) (omega arith) (omega arith) j;
    state = past h (v - 1) (n + (v - 1)) (2 * n + (v - 1)) e.dist e.link e.state (2 * n + (u - 1)) (omega arith) (omega arith) (omega arith) j;
  }

-- ---- g is h with the entry e at crossing v

pub record Change (n : ℕ) (h g : List ℕ) (v : ℕ) (e : Entry) : Type 0 where
  pub long : length g ≡ length h
  pub same : entry n g v ≡ e
  pub other : (u : ℕ) → Between 1 n u → u ≢ v → entry n g u ≡ entry n h u

pub put_change : (n : ℕ) (h : List ℕ) (v : ℕ) (e : Entry) → Between 1 n v → length h ≡ 3 * n → Change n h (put n h v e) v e
put_change n h v e i room =
    record { long = put_length n h v e; same = put_same n h v e i room; other = put_other n h v e i room }

-- what holds of e at v, and elsewhere of what h has
pub change_cases : {n : ℕ} {h g : List ℕ} {v : ℕ} {e : Entry} → Change n h g v e → (P : ℕ → Entry → Type 0) → P v e → (u : ℕ) → Between 1 n u → (u ≢ v → P u (entry n h u)) → P u (entry n g u)
change_cases {n} {h} {g} {v} c P new u i old =
    dite (ℕ_discrete u v)
    (λ z. subst⁻¹ (λ (w : ℕ). P w (entry n g w)) z (subst⁻¹ (P v) c.same new))
    (λ ne. subst⁻¹ (P u) (c.other u i ne) (old ne))
