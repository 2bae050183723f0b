-- The uses of effects in a project, where these are the schemas of the effect set.
use Rattle.std.specs.Prelude.{◌≡◌, ℕ, ◌<◌, IsTrue, List, length}
use Rattle.std.specs.List.{All}
use Rattle.project_model.specs.Effects.{use_of, schema_of, FitsKind}
use Rattle.project_model.specs.declared.effect.EffectSchema.{EffectSchema}
use Rattle.project_model.specs.declared.effect.FxUse.{FxUse}
use Rattle.project_model.specs.declared.project.Project.{Project}

-- a use fits the schema of its kind, its streams were made with the base, and the layers that it names are among so many
pub record IsUse (schemas : List EffectSchema) (base count : ℕ) (fx : FxUse) : Type 0 where
  pub fits : FitsKind schemas (use_of fx)
  pub threaded : IsTrue (schema_of schemas fx.kind).threaded
  pub based : All (λ curve. curve.base ≡ base) fx.params
  pub there : All (λ index. index < count) fx.layers

-- so does each use of each layer, with the project's base and the layers of its own composition
abbrev pub AreUses : List EffectSchema → Project → Type 0
AreUses schemas project =
    All (λ comp. All (λ layer. All (IsUse schemas project.base.ticks (length comp.layers)) layer.effects) comp.layers) project.comps
