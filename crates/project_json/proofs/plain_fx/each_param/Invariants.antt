use Rattle.std.proofs.Common.{◌≡◌, map, take}
use Rattle.serde_json.specs.View.{view}
use Rattle.project_json.specs.Reads.{keys_in}
use Rattle.project_json.proofs.plain_fx.each_param.Given as goal

abbrev pub invariant-loop-param : goal.invariant-loop-param
invariant-loop-param l = l.plain.items ≡ map (λ v. keys_in (view v)) (take l.param-index l.params)
