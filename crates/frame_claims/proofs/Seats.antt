-- A seat and its claims, as their fields are.
use Rattle.std.proofs.Common.{◌≡◌, ℕ, ◌+◌, ◌^◌, ◌%◌, ◌≤◌, true, [], sym, ap, ◌∙◌, subst}
use mathlib.Core.Option.{none}
use Rattle.atomic_table.specs.Seated.{TableId}
use Rattle.atomic_table.specs.Table.{Me, Allows, step}
use Rattle.atomic_table.specs.declared.shared.Seat.{Seat as TableSeat}
use Rattle.frame_claims.specs.Claims.{Claims, Seat, IsOf}
use Rattle.frame_claims.specs.Seen.{seat_of}
use Rattle.frame_claims.specs.Rule.{is_live, Kept}
use Rattle.frame_claims.specs.Told.{looked, drew, asked}
use Rattle.frame_claims.specs.declared.rule.Span.{Span}
use Rattle.frame_claims.specs.declared.view.Stage.TheVariants.{Idle, Marked}
use Rattle.frame_claims.specs.declared.view.View.{View}
use Rattle.frame_claims.proofs.Drawing.{looks, draws, asks}

-- a seat's table is the one of its claims
pub own_table : (seat : TableSeat Unit View) (id : TableId) (shown : Seat) (self : Claims) → seat_of seat ≡ shown → id ≡ self.id → IsOf self shown → seat.table_id ≡ id
own_table seat id shown self view_seat same own = ap (λ (p : Seat). p.id) view_seat ∙ own.same ∙ sym same

-- a step of a seat with nothing in hand
module _ (span : Span) (slots id : ℕ) (me : Me Unit View) (empty : me.1 ≡ []) where
  pub may_look : me.0.stage ≡ Idle → Allows (Kept span) slots id me 0 (λ n. n) (looked (step slots 0 0 0 none) me)
  may_look idle = subst (λ hand. Allows (Kept span) slots id (me.0, hand) 0 (λ n. n) (looked (step slots 0 0 0 none) (me.0, hand))) (sym empty) (looks span slots id me.0 idle)

  pub may_draw : span.count ≤ 4294967295 → me.0.stage ≡ Marked → Allows (Kept span) slots id me 0 (λ n. (n + 1) % 2 ^ 64) (drew (step slots 0 1 0 none) me)
  may_draw small marks =
      subst (λ hand. Allows (Kept span) slots id (me.0, hand) 0 (λ n. (n + 1) % 2 ^ 64) (drew (step slots 0 1 0 none) (me.0, hand))) (sym empty) (draws span slots id me.0 small marks)

  pub may_ask : is_live me.0 ≡ true → Allows (Kept span) slots id me 0 (λ n. n) (asked (step slots 0 0 0 none) me)
  may_ask live = subst (λ hand. Allows (Kept span) slots id (me.0, hand) 0 (λ n. n) (asked (step slots 0 0 0 none) (me.0, hand))) (sym empty) (asks span slots id me.0 live)
