use Rattle.project_write.specs.Parts.{IsComp}
use Rattle.project_write.proofs.ListLemmas.{zip_next}
use Rattle.project_write.proofs.comps.each_comp.Goals as goal

pub loop-comp-preserved : goal.loop-comp-preserved
loop-comp-preserved c =
    zip_next (IsComp c.args.schemas.now) c.args.comps.now c.loop-comp.comp-index c.comp-item.result c.loop-comp.values.items c.push.new.self.items _
    c.loop-comp-test.true c.loop-comp.invariant c.in_ok-push.ensures.items c.comp-item.is c.in_ok-comp_value.ensures
