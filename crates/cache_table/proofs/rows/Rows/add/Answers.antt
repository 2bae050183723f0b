use Rattle.std.proofs.Common.{sym, ◌∙◌, ap, subst}
use Rattle.std.specs.Prelude.{position}
use Rattle.cache_table.specs.Kept.{is_kept, kept_running}
use Rattle.cache_table.specs.Slots.{named, IsIndexed}
use Rattle.cache_table.proofs.Finding.{added}
use Rattle.cache_table.proofs.rows.Rows.add.Goals as goal

pub invariant_of-self-2 : goal.invariant_of-self-2
invariant_of-self-2 g c =
    let s = c.self.inside in
    (added c.reserve.new.self.entries c.insert.new.self.entries s.chain c.push.new.self c.in_ok-slot.slot (kept_running c.args.turn.owner c.args.class c.args.key)
    (subst (λ entries. IsIndexed entries (named s.chain)) (sym c.reserve.ensures.entries) c.self.invariant)
    (ap (position (is_kept c.args.class c.args.key)) c.self.view_is ∙ c.requires) c.in-Ok.ensures.updates.0 c.in_ok-slot.ensures.ok).indexed
