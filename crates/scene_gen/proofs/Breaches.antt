-- The first broken rule of a project in hand whose base and streams are right is that of its numbers.
use Rattle.std.proofs.Common.{◌≡◌, ℕ, Bool, true, List, eq-eqb, refl, ◌∙◌, ap}
use Rattle.std.specs.Prelude.{Option, Some, Result, Ok, Err, IfOk, ◌==◌, if◌then◌else◌}
use Rattle.std.specs.List.{All, list_all}
use Rattle.std.proofs.lemmas.Bool.{and_from}
use Rattle.std.proofs.lemmas.List.Elements.{All-weaker}
use Rattle.std.proofs.lemmas.List.Sums.{list_all-from_AllPass}
use Rattle.host_io.specs.declared.cause.Memory.{Memory}
use Rattle.rational_time.specs.Times.{common_base}
use Rattle.param_stream.specs.Curve.{Curve}
use Rattle.project_model.specs.Broken.{first_broken, breach_of}
use Rattle.project_model.specs.Checked.{fx_is_based, layer_is_based, is_based_on, is_based, place_in, breach_in}
use Rattle.project_model.specs.Plain.{plain_of}
use Rattle.project_model.specs.Ready.{IsBasedFx, IsBasedLayer, IsBasedComp}
use Rattle.project_model.specs.Rules.{number_of, rules, place_of}
use Rattle.project_model.specs.Times.{times_of}
use Rattle.project_model.specs.declared.comp.Comp.{Comp}
use Rattle.project_model.specs.declared.effect.EffectSchema.{EffectSchema}
use Rattle.project_model.specs.declared.effect.FxUse.{FxUse}
use Rattle.project_model.specs.declared.layer.Layer.{Layer}
use Rattle.project_model.specs.declared.place.Place.{Place}
use Rattle.project_model.specs.declared.place.Place.TheVariants as place
use Rattle.project_model.specs.declared.plain.PlainProject.{PlainProject}
use Rattle.project_model.specs.declared.project.Project.{Project}
use Rattle.project_model.specs.declared.rule.Rule.{Rule}
use Rattle.project_model.specs.declared.rule.Rule.TheVariants.{Root, ClipName, ClipNames, Size, ClipDepth, Frames, FrameValue, Near, Length, Base, ClipBytes, Solid, ClipSource, CompSource, Nesting, Mode, Matte, MatteLayer, Span, Rising, Range, Params, EffectLayers, Sequence, Rank}
use Rattle.scene_gen.specs.Generated.{generated}
use Rattle.scene_gen.proofs.Scales.{base_of_generated}

fx_passes : (base : ℕ) (fx : FxUse) → IsBasedFx base fx → fx_is_based base fx ≡ true
fx_passes base fx based =
    list_all-from_AllPass (λ (curve : Curve). curve.base == base) fx.params
    (All-weaker (λ (curve : Curve). curve.base ≡ base) (λ (curve : Curve). (curve.base == base) ≡ true) (λ curve h. eq-eqb _ _ h) fx.params based)

layer_passes : (base : ℕ) (layer : Layer) → IsBasedLayer base layer → layer_is_based base layer ≡ true
layer_passes base layer based =
    and_from _ _
    (and_from _ _ (and_from _ _ (eq-eqb _ _ based.opacity) (eq-eqb _ _ based.x)) (eq-eqb _ _ based.y))
    (list_all-from_AllPass (fx_is_based base) layer.effects
    (All-weaker (IsBasedFx base) (λ (fx : FxUse). fx_is_based base fx ≡ true) (fx_passes base) layer.effects based.effects))

comp_passes : (base : ℕ) (comp : Comp) → IsBasedComp base comp → list_all (layer_is_based base) comp.layers ≡ true
comp_passes base comp based =
    list_all-from_AllPass (layer_is_based base) comp.layers
    (All-weaker (IsBasedLayer base) (λ (layer : Layer). layer_is_based base layer ≡ true) (layer_passes base) comp.layers based)

comps_pass : (base : ℕ) (comps : List Comp) → All (IsBasedComp base) comps → list_all (λ (comp : Comp). list_all (layer_is_based base) comp.layers) comps ≡ true
comps_pass base comps based =
    list_all-from_AllPass (λ (comp : Comp). list_all (layer_is_based base) comp.layers) comps
    (All-weaker (IsBasedComp base) (λ (comp : Comp). list_all (layer_is_based base) comp.layers ≡ true) (comp_passes base) comps based)

-- the base is this one, and all streams were made with it
all_pass : (base : ℕ) (project : Project) → project.base.ticks ≡ base → All (IsBasedComp base) project.comps → is_based_on base project ≡ true
all_pass base project same based =
    and_from _ _ (eq-eqb _ _ same)
    (ap (λ (ticks : ℕ). list_all (λ (comp : Comp). list_all (layer_is_based ticks) comp.layers) project.comps) same ∙ comps_pass base project.comps based)

-- a rule is then broken in hand where it is broken on the numbers
same_places : (schemas : List EffectSchema) (project : Project) → is_based project ≡ true → (rule : Rule) → place_in schemas project rule ≡ place_of schemas (plain_of project) rule
same_places schemas project based Root = refl
same_places schemas project based ClipName = refl
same_places schemas project based ClipNames = refl
same_places schemas project based Size = refl
same_places schemas project based ClipDepth = refl
same_places schemas project based Frames = refl
same_places schemas project based FrameValue = refl
same_places schemas project based Near = refl
same_places schemas project based Length = refl
same_places schemas project based Base =
    ap (λ (b : Bool). if b then place_of schemas (plain_of project) Base else Some place.Project) based
same_places schemas project based ClipBytes = refl
same_places schemas project based Solid = refl
same_places schemas project based ClipSource = refl
same_places schemas project based CompSource = refl
same_places schemas project based Nesting = refl
same_places schemas project based Mode = refl
same_places schemas project based Matte = refl
same_places schemas project based MatteLayer = refl
same_places schemas project based Span = refl
same_places schemas project based Rising = refl
same_places schemas project based Range = refl
same_places schemas project based Params = refl
same_places schemas project based EffectLayers = refl
same_places schemas project based Sequence = refl
same_places schemas project based Rank = refl

same_breach : (schemas : List EffectSchema) (project : Project) → is_based project ≡ true → breach_in schemas project ≡ breach_of schemas (plain_of project)
same_breach schemas project based =
    ap (λ (f : Rule → Option Place). first_broken number_of f rules) (λ i rule. same_places schemas project based rule i)

-- of the project of a number
breach_of_generated : (number : ℕ) (project : Project) → plain_of project ≡ generated number → project.base.ticks ≡ 30000 → All (IsBasedComp 30000) project.comps → (schemas : List EffectSchema) → breach_in schemas project ≡ breach_of schemas (generated number)
breach_of_generated number project same ticks based schemas =
    let base : common_base (times_of (plain_of project)) ≡ 30000 =
    ap (λ (plain : PlainProject). common_base (times_of plain)) same ∙ base_of_generated number in
    let passes : is_based project ≡ true = ap (λ (b : ℕ). is_based_on b project) base ∙ all_pass 30000 project ticks based in
    same_breach schemas project passes ∙ ap (breach_of schemas) same

-- and where it was drawn at all
pub breach_where_drawn : (number : ℕ) (drawn : Result Project Memory) → IfOk drawn (λ p. plain_of p ≡ generated number) → IfOk drawn (λ p. p.base.ticks ≡ 30000) → IfOk drawn (λ p. All (IsBasedComp 30000) p.comps) → IfOk drawn (λ p. (schemas : List EffectSchema) → breach_in schemas p ≡ breach_of schemas (generated number))
breach_where_drawn number (Ok project) same ticks based = breach_of_generated number project same ticks based
breach_where_drawn number (Err refusal) same ticks based = tt
