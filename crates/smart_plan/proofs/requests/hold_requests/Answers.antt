use Rattle.std.proofs.Common.{◌∙◌, length, refl, arith}
use Rattle.std.proofs.lemmas.List.{length-set}
use Rattle.std.proofs.lemmas.Option.{slice_get_read}
use Rattle.smart_plan.proofs.Holding.{held_more, held_all}
use Rattle.smart_plan.proofs.requests.hold_requests.Goals as goal

pub loop-number-preserved : goal.loop-number-preserved
loop-number-preserved c =
    let h = c.loop-number.invariant in
    let items = c.loop-number.checkouts.items in
    record {
      long = length-set items c.loop-number.number c.held.result ∙ h.long;
      so_far =
          held_more c.args.at c.args.extents.now c.args.checkouts.now.items items c.loop-number.number _ c.held.result h.so_far
          (slice_get_read items (length items) c.loop-number.number c.index.result.now refl (omega (arith, h.long, c.requires.one_each, c.loop-number-test.true)) c.index.ensures) c.held.ensures;
    }

pub returns-clause-held : goal.returns-clause-held
returns-clause-held c =
    held_all c.args.at c.args.extents.now c.args.checkouts.now.items c.loop-number.checkouts.items c.loop-number.number c.loop-number.invariant.long
    (omega (arith, c.requires.one_each, c.loop-number-test.false)) c.loop-number.invariant.so_far
