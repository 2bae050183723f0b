use Rattle.project_write.specs.Parts.{IsKey}
use Rattle.project_write.proofs.ListLemmas.{zip_more}
use Rattle.project_write.proofs.streams.each_key.Goals as goal

pub loop-key-preserved : goal.loop-key-preserved
loop-key-preserved c =
    zip_more IsKey c.args.keys.now c.loop-key.key-index _ c.loop-key.values.items c.push.new.self.items _ c.loop-key-test.true c.loop-key.invariant
    c.in_ok-push.ensures.items c.in_ok-key_value.ensures
