-- A good text as a relation, apart from how a text is read: comment lines anywhere, one line `p sp N M` before M lines `a U V W`,
-- each with its LF, all in range; and the words of its links. Assumes nothing.
use Rattle.std.specs.Prelude.{◌≡◌, List, [], ◌∷◌, ◌++◌, ℕ, ◌*◌, ◌≤◌, length}
use Rattle.limits.specs.Limits.{Between}
use Rattle.line.specs.Good.{CommentLine, SizeLine, LinkLine}

-- behind the `p` line: comments and links, with the links' words in order
pub data Links (n : ℕ) : List ℕ → List ℕ → Type 0 where
  done : {s ws : List ℕ} → s ≡ [] → ws ≡ [] → Links n s ws
  skip : {s ws : List ℕ} (l rest : List ℕ) → s ≡ l ++ rest → CommentLine l → Links n rest ws → Links n s ws
  link : {s ws : List ℕ} (l rest : List ℕ) (u v w : ℕ) (more : List ℕ) → s ≡ l ++ rest → ws ≡ u ∷ v ∷ w ∷ more
      → LinkLine l u v w → Between 1 n u → Between 1 n v → Between 1 65535 w → Links n rest more → Links n s ws

-- from the beginning on
pub data Layout (n m : ℕ) (ws : List ℕ) : List ℕ → Type 0 where
  skipped : {s : List ℕ} (l rest : List ℕ) → s ≡ l ++ rest → CommentLine l → Layout n m ws rest → Layout n m ws s
  sized : {s : List ℕ} (l rest : List ℕ) → s ≡ l ++ rest → SizeLine l n m → Links n rest ws → Layout n m ws s

-- a text of n crossings and m links with these words, for a map that has room for so many
pub record Good (room : ℕ) (s : List ℕ) (n m : ℕ) (ws : List ℕ) : Type 0 where
  pub short : length s ≤ 1048576
  pub layout : Layout n m ws s
  pub n_in : Between 1 4096 n
  pub m_in : m ≤ 16384
  pub all : length ws ≡ 3 * m
  pub fits : 3 * m ≤ room
