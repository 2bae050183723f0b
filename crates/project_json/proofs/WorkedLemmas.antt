-- The worked examples, computed.
use Rattle.std.proofs.Common.{◌≡◌, ℕ, zero, suc, ◌<◌, List, [], ◌∷◌, Bool, true, ◌&&◌, nat_lt, Some, None, refl, ◌∙◌, arith}
use Rattle.std.proofs.lemmas.Bool.Decides.{nat_tests}
use Rattle.std.proofs.lemmas.Str.{IsUtf8-from_ascii}
use Rattle.std.specs.Str.{IsUtf8, IsAscii}
use Rattle.serde_json.proofs.OnLiterals.{serde_json_on_literals}
use Rattle.hex.proofs.OnLiterals.{hex_on_literals}
use Rattle.serde_json.specs.Data.{Data}
use Rattle.project_model.specs.declared.effect.EffectSchema.{EffectSchema}
use Rattle.serde_json.specs.Read.{read}
use Rattle.project_json.specs.Reading.{data_breach}
use Rattle.project_json.specs.PlainData.{plain_of_data}
use Rattle.project_json.specs.Worked.{two_pixel_text, TwoPixelsAreRead, nested_clip_text, nested_clip_project, NestedClipIsRead, worked_schemas, effects_text, effects_project, EffectsAreRead}
use Rattle.project_model.specs.Worked.{two_pixel_project}
use Rattle.project_json.proofs.PlaceLemmas.{both}
use Rattle.project_json.proofs.ReadLemmas.{json_of-text, project_of-json}

abbrev all_ascii : List ℕ → Bool
all_ascii [] = true
all_ascii (b ∷ bs) = nat_lt b 128 && all_ascii bs

small : (b : ℕ) → nat_lt b 128 ≡ true → b < 128
small b e = grind (arith, nat_tests)

ascii : (bs : List ℕ) → all_ascii bs ≡ true → IsAscii bs
ascii [] e i = omega arith
ascii (b ∷ bs) e zero = small b (both (nat_lt b 128) (all_ascii bs) e).0
ascii (b ∷ bs) e (suc i) = ascii bs (both (nat_lt b 128) (all_ascii bs) e).1 i

is_text : (bytes : List ℕ) → all_ascii bytes ≡ true → IsUtf8 bytes
is_text bytes e = IsUtf8-from_ascii bytes (ascii bytes e)

computed : (schemas : List EffectSchema)
    → (d : Data) × (read two_pixel_text ≡ Some d) × (data_breach schemas d ≡ None) × (plain_of_data schemas d ≡ two_pixel_project)
unfolding serde_json_on_literals
computed schemas = (_, refl, refl, refl)

pub two_pixels : TwoPixelsAreRead
two_pixels schemas =
    let c = computed schemas in
    project_of-json schemas two_pixel_text c.0 two_pixel_project (json_of-text two_pixel_text (is_text two_pixel_text refl) ∙ c.1) c.2 c.3

nested_computed : (schemas : List EffectSchema)
    → (d : Data) × (read nested_clip_text ≡ Some d) × (data_breach schemas d ≡ None) × (plain_of_data schemas d ≡ nested_clip_project)
unfolding serde_json_on_literals
nested_computed schemas = (_, refl, refl, refl)

pub nested_clip : NestedClipIsRead
nested_clip schemas =
    let c = nested_computed schemas in
    project_of-json schemas nested_clip_text c.0 nested_clip_project
    (json_of-text nested_clip_text (is_text nested_clip_text refl) ∙ c.1) c.2 c.3

effects_computed : (d : Data) × (read effects_text ≡ Some d) × (data_breach worked_schemas d ≡ None) × (plain_of_data worked_schemas d ≡ effects_project)
unfolding serde_json_on_literals hex_on_literals
effects_computed = (_, refl, refl, refl)

pub effects : EffectsAreRead
effects =
    project_of-json worked_schemas effects_text effects_computed.0 effects_project
    (json_of-text effects_text (is_text effects_text refl) ∙ effects_computed.1) effects_computed.2 effects_computed.3
