use Rattle.std.proofs.Common.{◌≡◌, ◌+◌, drop}
use Rattle.project_model.specs.Count.{layer_count}
use Rattle.host_run.proofs.check.layer_count.Given as goal

abbrev pub invariant-comps : goal.invariant-comps
invariant-comps l = l.count + layer_count (drop l.comp-index l.comps) ≡ layer_count l.comps
