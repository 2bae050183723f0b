-- Streams with one value, and the values that a schema takes: whole numbers.
use Rattle.std.specs.Prelude.{◌≡◌, ℤ, pos, List, [], ◌∷◌}
use Rattle.param_stream.specs.Curve.{Curve, IsBetween}
use Rattle.param_stream.specs.declared.key.Ease.TheVariants.{Hold}
use Rattle.project_model.specs.declared.effect.ParamSchema.{ParamSchema}

-- the value is there at all times
pub record IsConstant (value : ℤ) (curve : Curve) : Type 0 where
  pub base : curve.base ≡ 24
  pub keys : curve.keys ≡ record { time = record { value = pos 0; scale = 1 }; value = value; kind = Hold } ∷ []

-- a stream for each value, in order
abbrev pub AreConstants : List ℤ → List Curve → Type 0
AreConstants [] [] = Unit {0}
AreConstants [] (curve ∷ curves) = ⊥
AreConstants (value ∷ values) [] = ⊥
AreConstants (value ∷ values) (curve ∷ curves) = IsConstant value curve × AreConstants values curves

-- a value for each parameter, in its range
abbrev pub AreWithin : List ParamSchema → List ℤ → Type 0
AreWithin [] [] = Unit {0}
AreWithin [] (value ∷ values) = ⊥
AreWithin (param ∷ params) [] = ⊥
AreWithin (param ∷ params) (value ∷ values) = IsBetween param.least param.most value × AreWithin params values
