-- What each step on the word tells its seat.
use Rattle.std.specs.Prelude.{ℕ, ◌≡◌, ◌+◌, ◌<◌, ◌≤◌, true, [], ◌∷◌, ◌++◌, length, min, All, IsPermutation}
use Rattle.std.specs.List.{range_with_len}
use Rattle.atomic_table.specs.Table.{Me, Step}
use Rattle.frame_claims.specs.Claims.{AreOnce}
use Rattle.frame_claims.specs.declared.view.Stage.TheVariants.{Idle, Marked}
use Rattle.frame_claims.specs.declared.view.View.{View}

-- what the rule says to a view that found the word: it drew of the numbers that the word has passed, each once; all of
-- them where it is alone; and it knows the end only where the word has passed it
pub record Told (first count word : ℕ) (view : View) : Type 0 where
  pub within : All (λ number. (first ≤ number) × (number < first + min word count)) view.draws
  pub once : AreOnce view.draws
  pub few : length view.draws ≤ min word count
  pub alone : view.opening ≡ true → view.made ≡ view.joined + 1 → IsPermutation (range_with_len first (min word count)) view.draws
  pub ended : view.ended ≡ true → count ≤ word

abbrev pub TellsOf : ℕ → View → Type 0
TellsOf word view = Told view.first view.count word view

abbrev pub marked : View → View
marked view = record view { stage = Marked }

abbrev pub at_end : View → View
at_end view = record view { stage = Idle; ended = true }

abbrev pub with_draw : ℕ → View → View
with_draw found view = record view { stage = Idle; draws = view.draws ++ (view.first + found) ∷ [] }

-- a look: it marks the view where a number is left
abbrev pub looked : Step Unit → Me Unit View → ℕ → Me Unit View → Type 0
looked step before found after =
    TellsOf found before.0 × (found < before.0.count → after ≡ (marked before.0, [])) × (before.0.count ≤ found → after ≡ (at_end before.0, []))

-- a draw: the number found is its own, where it is of the span
abbrev pub drew : Step Unit → Me Unit View → ℕ → Me Unit View → Type 0
drew step before found after =
    TellsOf found before.0 × (found < before.0.count → after ≡ (with_draw found before.0, [])) × (before.0.count ≤ found → after ≡ (at_end before.0, []))

-- a load that changes no view
abbrev pub asked : Step Unit → Me Unit View → ℕ → Me Unit View → Type 0
asked step before found after = (after ≡ before) × TellsOf found before.0
