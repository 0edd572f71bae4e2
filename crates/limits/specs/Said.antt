-- What the answer of a call says, in the paper's numbers and values: its values, or a number of refusal with what goes with it.
-- Every answer of a public call is given in these words; they keep a refusal apart from all else, whatever its number. Assumes nothing.
use Rattle.std.specs.Prelude.{List, ℕ}

pub data Said : Type 0 where
  told : List ℕ → Said
  refused : ℕ → List ℕ → Said

-- the first where the answer is no refusal, else the second
abbrev pub unless_refused : {A : Type 0} → Said → A → A → A
unless_refused (told vs) a b = a
unless_refused (refused r vs) a b = b
