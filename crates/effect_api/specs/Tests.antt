-- A test of schemas, so that an effect set's schemas are shown to be sound by computing.
use Rattle.std.specs.Prelude.{ℕ, ◌^◌, pos, neg_ℤ, int_le, nat_le, Bool, true, ◌&&◌, not, List, [], ◌∷◌, length, map}
use Rattle.std.specs.List.{list_any, list_all}
use Rattle.std.specs.Str.{bytes_eq}
use Rattle.project_model.specs.declared.effect.EffectSchema.{EffectSchema}
use Rattle.project_model.specs.declared.effect.ParamSchema.{ParamSchema}

-- whether no two texts are equal
abbrev pub are_different : List (List ℕ) → Bool
are_different [] = true
are_different (text ∷ texts) = not (list_any (bytes_eq text) texts) && are_different texts

-- whether the range of a parameter is one that a stream may have
abbrev pub is_param : ParamSchema → Bool
is_param param =
    int_le param.least param.most && (int_le (neg_ℤ (pos (2 ^ 40))) param.least && int_le param.most (pos (2 ^ 40)))

-- whether the schemas are those of an effect set
abbrev pub are_schemas : List EffectSchema → Bool
are_schemas schemas =
    nat_le (length schemas) 65536 && (are_different (map (λ (schema : EffectSchema). schema.name) schemas)
    && list_all (λ (schema : EffectSchema). list_all is_param schema.params) schemas)
