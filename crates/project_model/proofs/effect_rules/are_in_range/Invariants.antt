use Rattle.std.proofs.Common.{◌≡◌, drop}
use Rattle.project_model.specs.EffectRules.{are_in_range}
use Rattle.project_model.proofs.effect_rules.are_in_range.Given as goal

abbrev pub invariant-loop-index : goal.invariant-loop-index
invariant-loop-index l = are_in_range l.params l.streams ≡ are_in_range (drop l.index l.params) (drop l.index l.streams)
