-- Uses of effects in a scene, and what they want.
use Rattle.std.proofs.Common.{◌≡◌, ℕ, suc, ◌*◌, ◌≤◌, ℤ, pos, ◌≤ℤ◌, List, length, sym, ap, subst, ◌∙◌}
use Rattle.std.specs.Prelude.{slice_get, slice_index_or, Option, Some}
use Rattle.std.specs.List.{All}
use Rattle.std.specs.Option.{option_map_or}
use Rattle.comp_stack.specs.Stack.{Plane}
use Rattle.rational_time.specs.declared.time.TheConstants.{MOST_SECONDS}
use Rattle.rational_time.specs.declared.time.TimeBase.{TimeBase}
use Rattle.project_model.specs.Plain.{plain_of}
use Rattle.project_model.specs.Effects.{Use, FitsKind, use_of}
use Rattle.project_model.specs.Uses.{IsUse, AreUses}
use Rattle.project_model.specs.declared.comp.Comp.{Comp}
use Rattle.project_model.specs.declared.effect.EffectSchema.{EffectSchema}
use Rattle.project_model.specs.declared.effect.FxUse.{FxUse}
use Rattle.project_model.specs.declared.layer.Layer.{Layer}
use Rattle.project_model.specs.declared.plain.PlainComp.{PlainComp}
use Rattle.project_model.specs.declared.plain.PlainLayer.{PlainLayer}
use Rattle.project_model.specs.declared.project.Project.{Project}
use Rattle.effect_api.specs.declared.moment.Moment.{Moment}
use Rattle.effect_api.specs.declared.moment.Want.{Want}
use Rattle.effect_api.specs.Fits.{IsBased, IsHeld, IsGiven}
use Rattle.effect_api.specs.Sets.{EffectSet, IsLawfulSet}
use Rattle.effect_api.specs.Wants.{IsWant}
use Rattle.scene_meaning.specs.Drawn.{nothing, moment_at, input_plane}
use Rattle.scene_meaning.specs.Parts.{IsLayerIn}
use Rattle.scene_meaning.specs.Shown.{Sources, base_in, named_plane, source_plane}
use Rattle.scene_meaning.proofs.Given.{use_at}

-- each use of an effect fits the set
pub use_is : (schemas : List EffectSchema) (project : Project) (of : ℕ) (comp : Comp) (layer : Layer) (number : ℕ) (fx : FxUse) → AreUses schemas project → IsLayerIn project of comp layer → slice_get layer.effects number ≡ Some fx
    → IsUse schemas project.base.ticks (length comp.layers) fx
use_is schemas project of comp layer number fx uses inside found = use_at schemas project of inside.index number comp layer fx uses inside.here inside.there found

-- and is given to it at a moment
pub given_is : (schemas : List EffectSchema) (fx : Use) (at : Moment) (base : ℕ) (frame t : ℤ) → FitsKind schemas fx → at ≡ moment_at base frame t → IsHeld base t → pos 1 ≤ℤ at.frame → at.frame ≤ℤ pos (MOST_SECONDS * base) → IsGiven schemas fx at
given_is schemas fx at base frame t fits is held low high = record {
  fits = fits;
  held = subst (λ (m : Moment). IsHeld m.base.ticks m.tick.0) (sym is) held;
  frame_low = low;
  frame_high = subst (λ (n : ℕ). at.frame ≤ℤ pos (MOST_SECONDS * n)) (sym (ap (λ (m : Moment). m.base.ticks) is)) high;
}

-- a layer that an effect names
pub named_wanted : (sources : Sources) (comp : PlainComp) (input : ℤ → Plane) (layers : List ℕ) (number i index : ℕ) (other : PlainLayer) (t : ℤ) → number ≡ suc i → slice_get layers i ≡ Some index → slice_get comp.layers index ≡ Some other
    → source_plane sources other t ≡ input_plane number input (named_plane sources comp) layers t
named_wanted sources comp input layers number i index other t is found there =
    sym (ap (λ (n : ℕ). input_plane n input (named_plane sources comp) layers t) is
    ∙ ap (λ (o : Option ℕ). option_map_or (λ layer. named_plane sources comp layer t) o nothing) found
    ∙ ap (λ (o : Option PlainLayer). option_map_or (λ layer. source_plane sources layer t) o nothing) there)

-- wants that a set lists
pub wants_are_wanted : (set : EffectSet) (fx : Use) (at : Moment) (wants : List Want) (base : ℕ) → IsLawfulSet set → IsGiven set.schemas fx at → wants ≡ set.wants fx at → at.base.ticks ≡ base → All (IsWant (length fx.layers) base) wants × (length wants ≤ 16)
wants_are_wanted set fx at wants base lawful given is same =
    let are = lawful.wants_are fx at given in (
      subst (λ (ws : List Want). All (IsWant (length fx.layers) base) ws) (sym is)
          (λ k d within.
          let want = are.each k d within in
          record {
            input_is = subst (λ (n : ℕ). (slice_index_or (set.wants fx at) k d).input ≤ n) (sym given.fits.layers_are) want.input_is;
            held = subst (λ (b : ℕ). IsHeld b (slice_index_or (set.wants fx at) k d).tick.0) same want.held;
          }),
      subst (λ (ws : List Want). length ws ≤ 16) (sym is) are.few,
    )

-- a use is given to the set at a tick of the scene, with the streams of that base
pub fx_given : (schemas : List EffectSchema) (project : Project) (of : ℕ) (comp : Comp) (layer : Layer) (number : ℕ) (fx : FxUse) (at : Moment) (base : TimeBase) (frame t : ℤ)
    → AreUses schemas project → IsLayerIn project of comp layer → slice_get layer.effects number ≡ Some fx
    → base ≡ project.base → base.ticks ≡ base_in (plain_of project) → at ≡ moment_at base.ticks frame t → IsHeld (base_in (plain_of project)) t
    → pos 1 ≤ℤ at.frame → at.frame ≤ℤ pos (MOST_SECONDS * base.ticks) → IsGiven schemas (use_of fx) at × IsBased fx at
fx_given schemas project of comp layer number fx at base frame t uses inside found same ticks moment held low high =
    let mine = use_is schemas project of comp layer number fx uses inside found in (
      given_is schemas (use_of fx) at base.ticks frame t mine.fits moment (subst (λ (b : ℕ). IsHeld b t) (sym ticks) held) low high,
      λ k d within. mine.based k d within ∙ ap (λ (b : TimeBase). b.ticks) (sym same) ∙ sym (ap (λ (m : Moment). m.base.ticks) moment),
    )
