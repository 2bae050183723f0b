use Rattle.std.proofs.Common.{map, take}
use Rattle.std.specs.List.{AllZip}
use Rattle.serde_json.specs.View.{view}
use Rattle.project_write.specs.Parts.{IsStream}
use Rattle.project_write.proofs.streams.each_stream.Given as goal

abbrev pub invariant-loop-stream : goal.invariant-loop-stream
invariant-loop-stream l = AllZip (λ curve. IsStream curve.keys) (take l.stream-index l.streams) (map view l.values.items)
