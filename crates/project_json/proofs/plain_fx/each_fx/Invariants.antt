use Rattle.std.proofs.Common.{◌≡◌, map, take}
use Rattle.serde_json.specs.View.{view}
use Rattle.project_json.specs.PlainData.{plain_fx_of}
use Rattle.project_json.proofs.plain_fx.each_fx.Given as goal

abbrev pub invariant-loop-fx : goal.invariant-loop-fx
invariant-loop-fx l = l.plain.items ≡ map (λ v. plain_fx_of l.schemas (view v)) (take l.fx-index l.effects)
