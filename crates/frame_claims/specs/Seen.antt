-- How claims and a seat are kept.
use Rattle.std.specs.Prelude.{◌≡◌, ◌+◌, ◌≤◌, [], Option, Some, None, IfSome, true, false, Bool}
use Rattle.atomic_table.specs.Seated.{TableId}
use Rattle.atomic_table.specs.declared.shared.Seat.{Seat}
use Rattle.frame_claims.specs.Claims.{Seat as Plain}
use Rattle.frame_claims.specs.Rule.{first_view}
use Rattle.frame_claims.specs.declared.rule.Span.{Span}
use Rattle.frame_claims.specs.declared.view.Stage.TheVariants.{Idle}
use Rattle.frame_claims.specs.declared.view.View.{View}

-- what contracts see of a view at a table
abbrev pub shown : TableId → View → Plain
shown id view = record {
  id = id;
  first = view.first;
  count = view.count;
  opening = view.opening;
  draws = view.draws;
  ended = view.ended;
  made = view.made;
  joined = view.joined;
}

abbrev pub seat_of : Seat Unit View → Plain
seat_of seat = shown seat.table_id seat.me.0

-- a seat between two claims
pub record IsSeat (seat : Seat Unit View) : Type 0 where
  pub idle : seat.me.0.stage ≡ Idle
  pub hand : seat.me.1 ≡ []

-- whether the opening seat was given out
abbrev pub was_opened : Option (Seat Unit View) → Bool
was_opened None = true
was_opened (Some seat) = false

-- how claims are kept: one word and no slot, and the opening seat until it is given out
pub record AreClaims (id : TableId) (key span : Span) (opening : Option (Seat Unit View)) : Type 0 where
  pub words : id.words ≡ 1
  pub slots : id.slots ≡ 0
  pub key_is : key ≡ span
  pub fits : span.first + span.count ≤ 4294967295
  pub seat : IfSome opening (λ seat. (seat.table_id ≡ id) × (seat.me ≡ (first_view span, [])))
