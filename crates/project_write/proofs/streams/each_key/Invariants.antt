use Rattle.std.proofs.Common.{map, take}
use Rattle.std.specs.List.{AllZip}
use Rattle.serde_json.specs.View.{view}
use Rattle.project_write.specs.Parts.{IsKey}
use Rattle.project_write.proofs.streams.each_key.Given as goal

abbrev pub invariant-loop-key : goal.invariant-loop-key
invariant-loop-key l = AllZip IsKey (take l.key-index l.keys) (map view l.values.items)
