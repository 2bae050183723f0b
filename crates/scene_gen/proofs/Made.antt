-- Streams of generated projects.
use Rattle.std.proofs.Common.{◌≤◌, List, length}
use Rattle.std.specs.List.{All}
use Rattle.project_model.specs.Bounds.{most_keys}
use Rattle.project_model.specs.declared.effect.FxUse.{FxUse}
use Rattle.scene_gen.specs.Streams.{IsMade}

-- those of effects have few keyframes
pub few_values : (effects : List FxUse) → All (λ fx. All IsMade fx.params) effects → All (λ fx. All (λ curve. length curve.keys ≤ most_keys) fx.params) effects
few_values effects made = λ k d within i e inside. (made k d within i e inside).few
