-- A sound project in hand keeps rule 25 where its plain parts do.
use Rattle.std.proofs.Common.{◌≡◌, ℕ, Bool, true, List, length, refl, ap}
use Rattle.std.specs.Prelude.{Some, ◌==◌, if◌then◌else◌}
use Rattle.std.specs.List.{list_all}
use Rattle.std.proofs.lemmas.Bool.{eq-eqb, and_from}
use Rattle.std.proofs.lemmas.List.Elements.{All-weaker}
use Rattle.std.proofs.lemmas.List.Sums.{list_all-from_AllPass}
use Rattle.param_stream.specs.Curve.{Curve}
use Rattle.project_model.specs.Broken.{breach_of}
use Rattle.project_model.specs.Checked.{fx_is_based, layer_is_based, is_based, place_in, breach_in}
use Rattle.project_model.specs.Plain.{plain_of}
use Rattle.project_model.specs.Rules.{place_of}
use Rattle.project_model.specs.Sound.{IsSound, IsSoundComp, IsSoundLayer, IsMadeFx}
use Rattle.project_model.specs.declared.comp.Comp.{Comp}
use Rattle.project_model.specs.declared.effect.EffectSchema.{EffectSchema}
use Rattle.project_model.specs.declared.effect.FxUse.{FxUse}
use Rattle.project_model.specs.declared.layer.Layer.{Layer}
use Rattle.project_model.specs.declared.place.Place.TheVariants as place
use Rattle.project_model.specs.declared.project.Project.{Project}
use Rattle.project_model.specs.declared.rule.Rule.{Rule}
use Rattle.project_model.specs.declared.rule.Rule.TheVariants.{Root, ClipName, ClipNames, Size, ClipDepth, Frames, FrameValue, Near, Length, Base, ClipBytes, Solid, ClipSource, CompSource, Nesting, Mode, Matte, MatteLayer, Span, Rising, Range, Params, EffectLayers, Sequence, Rank}
use Rattle.project_model.proofs.Based.{same_first}

fx_based : (base : ℕ) (fx : FxUse) → IsMadeFx base fx → fx_is_based base fx ≡ true
fx_based base fx made =
    list_all-from_AllPass (λ (curve : Curve). curve.base == base) fx.params
    (All-weaker (λ (curve : Curve). curve.base ≡ base) (λ (curve : Curve). (curve.base == base) ≡ true) (λ curve e. eq-eqb curve.base base e) fx.params made.base_is)

layer_based : (depth base clips comps : ℕ) (layer : Layer) → IsSoundLayer depth base clips comps layer → layer_is_based base layer ≡ true
layer_based depth base clips comps layer sound =
    let made = sound.streams in
    and_from _ _
    (and_from _ _ (and_from _ _ (eq-eqb layer.opacity.base base made.opacity.base_is) (eq-eqb layer.x.base base made.x.base_is)) (eq-eqb layer.y.base base made.y.base_is))
    (list_all-from_AllPass (fx_is_based base) layer.effects
    (All-weaker (IsMadeFx base) (λ fx. fx_is_based base fx ≡ true) (fx_based base) layer.effects made.effects))

comp_based : (depth base clips comps : ℕ) (comp : Comp) → IsSoundComp depth base clips comps comp → list_all (layer_is_based base) comp.layers ≡ true
comp_based depth base clips comps comp sound =
    list_all-from_AllPass (layer_is_based base) comp.layers
    (All-weaker (IsSoundLayer depth base clips comps) (λ layer. layer_is_based base layer ≡ true) (layer_based depth base clips comps) comp.layers sound.layers)

based : (project : Project) → IsSound project → is_based project ≡ true
based project sound =
    let base : ℕ = project.base.ticks in
    and_from _ _ (eq-eqb base _ sound.base)
    (list_all-from_AllPass (λ (comp : Comp). list_all (layer_is_based base) comp.layers) project.comps
    (All-weaker (IsSoundComp project.depth base (length project.clips) (length project.comps)) (λ (comp : Comp). list_all (layer_is_based base) comp.layers ≡ true) (comp_based project.depth base (length project.clips) (length project.comps)) project.comps sound.comps))

same : (schemas : List EffectSchema) (project : Project) → IsSound project → (rule : Rule) → place_in schemas project rule ≡ place_of schemas (plain_of project) rule
same schemas project sound Root = refl
same schemas project sound ClipName = refl
same schemas project sound ClipNames = refl
same schemas project sound Size = refl
same schemas project sound ClipDepth = refl
same schemas project sound Frames = refl
same schemas project sound FrameValue = refl
same schemas project sound Near = refl
same schemas project sound Length = refl
same schemas project sound Base =
    ap (λ (b : Bool). if b then place_of schemas (plain_of project) Base else Some place.Project) (based project sound)
same schemas project sound ClipBytes = refl
same schemas project sound Solid = refl
same schemas project sound ClipSource = refl
same schemas project sound CompSource = refl
same schemas project sound Nesting = refl
same schemas project sound Mode = refl
same schemas project sound Matte = refl
same schemas project sound MatteLayer = refl
same schemas project sound Span = refl
same schemas project sound Rising = refl
same schemas project sound Range = refl
same schemas project sound Params = refl
same schemas project sound EffectLayers = refl
same schemas project sound Sequence = refl
same schemas project sound Rank = refl

pub sound_based : (schemas : List EffectSchema) (project : Project) → IsSound project → breach_in schemas project ≡ breach_of schemas (plain_of project)
sound_based schemas project sound = same_first (place_in schemas project) (place_of schemas (plain_of project)) (same schemas project sound)
