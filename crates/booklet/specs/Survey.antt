-- What the program finds, from the text to the area: the first refusal, or the bench on which both halves are done and the mask of its area.
-- Assumes nothing.
use Rattle.std.specs.Prelude.{cond, List, [], ◌∷◌, ℕ, zero, suc, ◌+◌, ◌*◌, ◌≤◌, eqb, length, get_or, drop, Result, Ok, Err}
use Rattle.limits.specs.First.{or_else}
use Rattle.limits.specs.Refusals.{number_of}
use Rattle.limits.specs.Said.{Said, told, refused, unless_refused}
use Rattle.map.specs.Walk.{other}
use Rattle.map.specs.declared.Side.{Side}
use Rattle.map.specs.declared.Side.TheVariants.{Forward, Backward}
use Rattle.text.specs.Text.{read_text, map_after}
use Rattle.text.specs.declared.Refused.{Refused}
use Rattle.shape.specs.Bench.{bench_words, words}
use Rattle.area.specs.Finished.{area_fault}
use Rattle.bench.specs.Calls.{open_fault, open_said, turn_words}
use Rattle.bench.specs.Areas.{area_mask}
use Rattle.demands.specs.Mixture.{turns_of, bench_at}
use Rattle.booklet.specs.declared.Order.{Order}

-- ---- turns

-- so many turns, alternately, from a side on
unfoldable pub alternate : List ℕ → ℕ → ℕ → Side → ℕ → List ℕ → List ℕ
alternate map n m s zero x = x
alternate map n m s (suc k) x = alternate map n m (other s) k (turn_words s map n m x)

-- n + 1 turns each, forward first
unfoldable pub alternated : List ℕ → ℕ → ℕ → List ℕ → List ℕ
alternated map n m x = alternate map n m Forward (2 * n + 2) x

-- ---- the area of an order on a map

module _ (map : List ℕ) (n m : ℕ) (order : Order) (x : List ℕ) where
  abbrev order_said : Said
  order_said = open_said map n m order.start order.target order.stretch x

  -- refused as opening is, the words stay; else they are those of the bench on which both halves are done
  unfoldable pub finished_words : List ℕ
  finished_words =
      let turns : Side → ℕ = λ s. turns_of s map n m order.start order.target order.stretch in
      unless_refused order_said (words (bench_at map n m order.start order.target order.stretch (drop (bench_words n) x) (turns Forward) (turns Backward))) x

  -- the first number of refusal: of opening, then of the area
  unfoldable pub area_number : List ℕ → ℕ
  area_number mask =
      or_else (open_fault map n m order.start order.target order.stretch x)
      (area_fault map n m finished_words order.locality (length mask))

  unfoldable pub finished_mask : List ℕ → List ℕ
  finished_mask mask = unless_refused order_said (area_mask map n m finished_words order.locality mask) mask

-- the area of a map of n crossings, or a refusal outside the text, at line 0
unfoldable pub area_told : ℕ → ℕ → Said
area_told n number = cond (eqb number 0) (told (n ∷ [])) (refused number (0 ∷ []))

-- ---- the whole survey

abbrev pub said : Result ℕ Refused → Said
said (Ok n) = told (n ∷ [])
said (Err r) = refused (number_of r.refusal) (r.line ∷ [])

-- a refused reading ends the survey; else it goes on with n and m
abbrev pub read_then : {A : Type 0} → Said → (ℕ → ℕ → A) → (ℕ → List ℕ → A) → A
read_then (told vs) k f = k (get_or vs 0 0) (get_or vs 1 0)
read_then (refused number vs) k f = f number vs

module _ (text map : List ℕ) (order : Order) (x mask : List ℕ) where
  unfoldable pub survey_said : Said
  survey_said = read_then (read_text (length map) text) (λ n m. area_told n (area_number (map_after text map) n m order x mask)) refused

  unfoldable pub survey_bench : List ℕ
  survey_bench = read_then (read_text (length map) text) (λ n m. finished_words (map_after text map) n m order x) (λ _ _. x)

  unfoldable pub survey_mask : List ℕ
  survey_mask = read_then (read_text (length map) text) (λ n m. finished_mask (map_after text map) n m order x mask) (λ _ _. mask)

-- ---- the list of the area

-- a bench and a mask have room for what is listed of n crossings
abbrev pub HasRoom : ℕ → List ℕ → List ℕ → Type 0
HasRoom n x mask = (n ≤ 4096) × (bench_words n ≤ length x) × (n ≤ length mask)
