use Rattle.project_write.specs.Parts.{IsStream}
use Rattle.project_write.proofs.ListLemmas.{zip_next}
use Rattle.project_write.proofs.streams.each_stream.Goals as goal

pub loop-stream-preserved : goal.loop-stream-preserved
loop-stream-preserved c =
    zip_next (λ curve. IsStream curve.keys) c.args.streams.now c.loop-stream.stream-index c.stream-item.result c.loop-stream.values.items
    c.push.new.self.items _ c.loop-stream-test.true c.loop-stream.invariant c.in_ok-push.ensures.items c.stream-item.is c.in_ok-stream_value.ensures
