-- A project in hand that passes is sound.
use Rattle.std.proofs.Common.{◌≡◌, ℕ, ◌≤◌, Bool, true, List, sym, ◌∙◌, subst, ap, arith}
use Rattle.std.specs.Prelude.{Option, None, not, nat_lt, nat_le, ◌&&◌, ◌==◌}
use Rattle.std.specs.List.{All, list_all}
use Rattle.std.proofs.lemmas.Bool.{and_parts, leb-true, le-ltb, not-false, eqb-true}
use Rattle.std.proofs.lemmas.List.Elements.{All-weaker}
use Rattle.std.proofs.lemmas.List.Sums.{AllPass-from_list_all}
use Rattle.rational_time.specs.Times.{common_base}
use Rattle.rational_time.specs.declared.time.Time.{Time}
use Rattle.param_stream.specs.Curve.{Curve}
use Rattle.project_model.specs.Bounds.{greatest_base}
use Rattle.project_model.specs.Broken.{breach_of}
use Rattle.project_model.specs.Checked.{fx_is_based, layer_is_based, is_based_on}
use Rattle.project_model.specs.Form.{IsFormed}
use Rattle.project_model.specs.Given.{place_given, breach_given}
use Rattle.project_model.specs.Plain.{plain_of}
use Rattle.project_model.specs.Ready.{IsBasedFx, IsBasedLayer, IsBasedComp}
use Rattle.project_model.specs.Rules.{number_of, rules, place_of}
use Rattle.project_model.specs.Sound.{IsSound}
use Rattle.project_model.specs.Times.{times_of}
use Rattle.project_model.specs.Uses.{AreUses}
use Rattle.project_model.specs.declared.comp.Comp.{Comp}
use Rattle.project_model.specs.declared.effect.EffectSchema.{EffectSchema}
use Rattle.project_model.specs.declared.effect.FxUse.{FxUse}
use Rattle.project_model.specs.declared.layer.Layer.{Layer}
use Rattle.project_model.specs.declared.place.Breach.{Breach}
use Rattle.project_model.specs.declared.place.Place.TheVariants as place
use Rattle.project_model.specs.declared.plain.PlainProject.{PlainProject}
use Rattle.project_model.specs.declared.project.Project.{Project}
use Rattle.project_model.specs.declared.rule.Rule.TheVariants.{Base}
use Rattle.project_model.proofs.Based.{same_first, same_place}
use Rattle.project_model.proofs.Keeps.{all_kept, each_kept, chosen_none}
use Rattle.project_model.proofs.Readied.{project_sound, uses_fit}

fx_based : (base : ℕ) (fx : FxUse) → fx_is_based base fx ≡ true → IsBasedFx base fx
fx_based base fx e =
    All-weaker (λ (curve : Curve). (curve.base == base) ≡ true) (λ (curve : Curve). curve.base ≡ base) (λ curve h. eqb-true _ _ h) fx.params
    (AllPass-from_list_all (λ (curve : Curve). curve.base == base) fx.params e)

effects_based : (base : ℕ) (effects : List FxUse) → list_all (fx_is_based base) effects ≡ true → All (IsBasedFx base) effects
effects_based base effects e =
    All-weaker (λ (fx : FxUse). fx_is_based base fx ≡ true) (IsBasedFx base) (fx_based base) effects
    (AllPass-from_list_all (fx_is_based base) effects e)

layer_based : (base : ℕ) (layer : Layer) → layer_is_based base layer ≡ true → IsBasedLayer base layer
layer_based base layer e =
    let parts = and_parts _ _ e in
    let streams = and_parts _ _ parts.0 in
    let front = and_parts _ _ streams.0 in
    record { opacity = eqb-true _ _ front.0; x = eqb-true _ _ front.1; y = eqb-true _ _ streams.1; effects = effects_based base layer.effects parts.1 }

comp_based : (base : ℕ) (comp : Comp) → list_all (layer_is_based base) comp.layers ≡ true → IsBasedComp base comp
comp_based base comp e =
    All-weaker (λ (layer : Layer). layer_is_based base layer ≡ true) (IsBasedLayer base) (layer_based base) comp.layers
    (AllPass-from_list_all (layer_is_based base) comp.layers e)

all_based : (base : ℕ) (comps : List Comp) → list_all (λ (comp : Comp). list_all (layer_is_based base) comp.layers) comps ≡ true → All (IsBasedComp base) comps
all_based base comps e =
    All-weaker (λ (comp : Comp). list_all (layer_is_based base) comp.layers ≡ true) (IsBasedComp base) (comp_based base) comps
    (AllPass-from_list_all (λ (comp : Comp). list_all (layer_is_based base) comp.layers) comps e)

-- where nothing was found, rule 25 was kept
pub base_kept : (schemas : List EffectSchema) (plain : PlainProject) (flag : Bool) (found : Option Breach) → found ≡ breach_given schemas plain flag → found ≡ None → flag ≡ true
base_kept schemas plain flag found search none =
    let given : breach_given schemas plain flag ≡ None = sym search ∙ none in
    let outside : place_given schemas plain flag Base ≡ None = each_kept (place_given schemas plain flag) (all_kept number_of (place_given schemas plain flag) rules given) Base in
    not-false flag (chosen_none (not flag) place.Project _ outside).0

-- what the test of the base says where nothing was found
record Passes (schemas : List EffectSchema) (project : Project) : Type 0 where
  pub formed : IsFormed (plain_of project)
  pub kept : breach_of schemas (plain_of project) ≡ None
  pub base : project.base.ticks ≡ common_base (times_of (plain_of project))
  pub small : project.base.ticks ≤ greatest_base
  pub based : All (IsBasedComp project.base.ticks) project.comps

passes : (schemas : List EffectSchema) (project : Project) (plain : PlainProject) (times : List Time) (flag : Bool) (found : Option Breach) → plain ≡ plain_of project → IsFormed plain → times ≡ times_of plain → flag ≡ (nat_le (common_base times) greatest_base && is_based_on (common_base times) project) → found ≡ breach_given schemas plain flag → found ≡ None → Passes schemas project
passes schemas project plain times flag found same formed are is search none =
    let given : breach_given schemas plain flag ≡ None = sym search ∙ none in
    let flagged : flag ≡ true = base_kept schemas plain flag found search none in
    let both = and_parts (nat_le (common_base times) greatest_base) (is_based_on (common_base times) project) (sym is ∙ flagged) in
    let based = and_parts _ _ both.1 in
    let small : common_base times ≤ greatest_base = leb-true _ _ both.0 in
    let ticks : project.base.ticks ≡ common_base times = eqb-true _ _ based.0 in
    let all : common_base times ≡ common_base (times_of plain) = ap common_base are in
    let test : not flag ≡ nat_lt greatest_base (common_base (times_of plain)) =
    ap not flagged ∙ sym (le-ltb greatest_base (common_base (times_of plain)) (omega (arith, all, small))) in
    let kept : breach_of schemas plain ≡ None = sym (same_first (place_given schemas plain flag) (place_of schemas plain) (same_place schemas plain flag test)) ∙ given in
    record {
      formed = subst IsFormed same formed;
      kept = subst (λ (p : PlainProject). breach_of schemas p ≡ None) same kept;
      base = ticks ∙ all ∙ ap (λ (p : PlainProject). common_base (times_of p)) same;
      small = omega (arith, ticks, small);
      based = all_based project.base.ticks project.comps based.1;
    }

pub checked_sound : (schemas : List EffectSchema) (project : Project) (plain : PlainProject) (times : List Time) (flag : Bool) (found : Option Breach) → plain ≡ plain_of project → IsFormed plain → times ≡ times_of plain → flag ≡ (nat_le (common_base times) greatest_base && is_based_on (common_base times) project) → found ≡ breach_given schemas plain flag → found ≡ None → IsSound project
checked_sound schemas project plain times flag found same formed are is search none =
    let h = passes schemas project plain times flag found same formed are is search none in
    project_sound schemas project h.formed h.kept h.base h.small h.based

-- and its uses of effects fit the schemas
pub checked_fits : (schemas : List EffectSchema) (project : Project) (plain : PlainProject) (times : List Time) (flag : Bool) (found : Option Breach) → plain ≡ plain_of project → IsFormed plain → times ≡ times_of plain → flag ≡ (nat_le (common_base times) greatest_base && is_based_on (common_base times) project) → found ≡ breach_given schemas plain flag → found ≡ None → AreUses schemas project
checked_fits schemas project plain times flag found same formed are is search none =
    let h = passes schemas project plain times flag found same formed are is search none in
    uses_fit schemas project h.formed h.kept h.based
