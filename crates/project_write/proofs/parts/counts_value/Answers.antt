use Rattle.project_write.specs.Parts.{IsCount}
use Rattle.project_write.proofs.ListLemmas.{zip_more}
use Rattle.project_write.proofs.parts.counts_value.Goals as goal

pub loop-count-preserved : goal.loop-count-preserved
loop-count-preserved c =
    zip_more IsCount c.args.counts.now c.loop-count.count-index _ c.loop-count.values.items c.push.new.self.items _ c.loop-count-test.true c.loop-count.invariant
    c.in_ok-push.ensures.items c.count_value.ensures
