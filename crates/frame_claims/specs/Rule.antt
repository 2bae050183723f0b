-- The rule of the claims, which holds between any two atomic steps: of the word, which counts the draws, and of what the
-- seats know.
use Rattle.std.specs.Prelude.{ℕ, ◌≡◌, ◌+◌, ◌≤◌, Bool, true, false, List, [], ◌∷◌, ◌++◌, count_by, flat_map, min, ◌||◌, if◌then◌else◌, IsPermutation}
use Rattle.std.specs.List.{range_with_len}
use mathlib.Core.Option.{some}
use lib.ListN.{get_elem?}
use Rattle.atomic_table.specs.Table.{State}
use Rattle.frame_claims.specs.declared.rule.Span.{Span}
use Rattle.frame_claims.specs.declared.view.Stage.{Stage}
use Rattle.frame_claims.specs.declared.view.Stage.TheVariants.{Spent, Idle, Marked}
use Rattle.frame_claims.specs.declared.view.View.{View}

-- a view is live until a join spends it
abbrev pub is_live_stage : Stage → Bool
is_live_stage Spent = false
is_live_stage Idle = true
is_live_stage Marked = true

abbrev pub is_live : View → Bool
is_live view = is_live_stage view.stage

-- a look that finds a number left marks its view, and the draw after it takes the mark off
abbrev pub is_marked_stage : Stage → Bool
is_marked_stage Spent = false
is_marked_stage Idle = false
is_marked_stage Marked = true

abbrev pub is_marked : View → Bool
is_marked view = is_marked_stage view.stage

-- what a live view drew
abbrev pub draws_in : View → List ℕ
draws_in view = if is_live view then view.draws else []

-- what a live view knows: the span; where it knows the end, all was drawn; and the opening view, which is the table's
-- first, counts the seats made and joined
pub record Knows (span : Span) (word made joined seat : ℕ) (view : View) : Type 0 where
  pub first : view.first ≡ span.first
  pub count : view.count ≡ span.count
  pub ended : view.ended ≡ true → span.count ≤ word
  pub opening : view.opening ≡ true → (seat ≡ 0) × (view.made ≡ made) × (view.joined ≡ joined)

-- The word counts the draws, also those that came too late. The numbers of the span that it has passed stand in the lists
-- of the live views, each once, and no other number does. Live views are as many as were made less those joined. The word
-- and the marked views together are at most the span's count and the seats made, so the word never wraps
pub record Kept (span : Span) (table : State Unit View) : Type 0 where
  pub word : ℕ
  pub made : ℕ
  pub joined : ℕ
  pub words : table.words ≡ word ∷ []
  pub drawn : IsPermutation (range_with_len span.first (min word span.count)) (flat_map draws_in table.views)
  pub each : (seat : ℕ) (view : View) → get_elem? table.views seat ≡ some view → is_live view ≡ true → Knows span word made joined seat view
  pub counted : count_by is_live table.views + joined ≡ made
  pub room : word + count_by is_marked table.views ≤ span.count + made
  pub few : made ≤ 4294967295

-- the opening view
abbrev pub first_view : Span → View
first_view span = record { stage = Idle; first = span.first; count = span.count; opening = true; draws = []; ended = false; made = 1; joined = 0 }

-- the views of a split, and of a join
abbrev pub split_left : View → View
split_left view = record view { made = view.made + 1 }

abbrev pub split_right : View → View
split_right view = record { stage = Idle; first = view.first; count = view.count; opening = false; draws = []; ended = view.ended; made = 0; joined = 0 }

abbrev pub join_both : View → View → View
join_both view other = record view { draws = view.draws ++ other.draws; ended = view.ended || other.ended; joined = view.joined + 1 }

abbrev pub spent_view : View
spent_view = record { stage = Spent; first = 0; count = 0; opening = false; draws = []; ended = false; made = 0; joined = 0 }
