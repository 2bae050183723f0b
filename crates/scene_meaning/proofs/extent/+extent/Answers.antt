use Rattle.std.proofs.Common.{◌≡◌, ℕ, suc, ◌+◌, ◌-◌, ◌<◌, length, Some, subst, sym, ap, ◌∙◌, arith, rules}
use Rattle.std.specs.Prelude.{slice_get, slice_index_or, take}
use Rattle.std.specs.List.{AllZip}
use Rattle.std.proofs.lemmas.Option.{slice_get-get_or, slice_get_within}
use Rattle.project_model.specs.Plain.{plain_comp, plain_layer, plain_of}
use Rattle.project_model.specs.Effects.{use_of}
use Rattle.project_model.specs.Sound.{IsWritten}
use Rattle.rational_time.specs.Times.{tick_of}
use Rattle.effect_api.specs.Sets.{EffectSet}
use Rattle.effect_api.specs.declared.moment.Moment.{Moment}
use Rattle.scene_meaning.specs.Drawn.{moment_at}
use Rattle.scene_meaning.specs.Extents.{IsExtentBehind, IsWantedExtent}
use Rattle.scene_meaning.specs.Shown.{base_in}
use Rattle.scene_meaning.proofs.Extents.{at_place, layer_here, zip_push, are_extents, effect_is, input_is, named_extent, source_behind}
use Rattle.scene_meaning.proofs.Inside.{read_at}
use Rattle.scene_meaning.proofs.KnownExtents.{known_is, known_more}
use Rattle.scene_meaning.proofs.Uses.{fx_given, use_is, wants_are_wanted}
use Rattle.scene_meaning.proofs.extent.+extent.Goals as goal

pub effect_extent-moment_of-at-requires-clause-frame : goal.effect_extent-moment_of-at-requires-clause-frame
effect_extent-moment_of-at-requires-clause-frame g t c = subst (λ (b : ℕ). IsWritten b c.args.comp.now.frame) (sym c.base_of.ensures.ticks) c.requires.sound.frame

pub effect_extent-list_wants-requires-clause-given : goal.effect_extent-list_wants-requires-clause-given
effect_extent-list_wants-requires-clause-given g t c =
    let layer = c.args.layer.now in
    let fx = c.index-as_slice-number.result in
    let here : c.args.number < length c.as_slice.result.now = omega (arith, c.requires.number, ap length c.as_slice.ensures) in
    let found : slice_get layer.effects c.args.number ≡ Some fx = read_at layer.effects c.as_slice.result.now c.args.number fx c.as_slice.ensures here c.index-as_slice-number.is in
    let given =
    fx_given g.E.Effect.schemas c.args.scene.now.project c.args.of c.args.comp.now layer c.args.number fx c.moment_of-at.result c.base_of.result (tick_of c.base_of.result.ticks c.args.comp.now.frame) c.args.tick.0 c.requires.uses c.requires.layer found
    c.base_of.ensures.base c.base_of.ensures.ticks c.moment_of-at.ensures.moment c.requires.held c.moment_of-at.ensures.low c.moment_of-at.ensures.high in
    given.0

pub effect_extent-list_wants-requires-clause-based : goal.effect_extent-list_wants-requires-clause-based
effect_extent-list_wants-requires-clause-based g t c =
    let layer = c.args.layer.now in
    let fx = c.index-as_slice-number.result in
    let here : c.args.number < length c.as_slice.result.now = omega (arith, c.requires.number, ap length c.as_slice.ensures) in
    let found : slice_get layer.effects c.args.number ≡ Some fx = read_at layer.effects c.as_slice.result.now c.args.number fx c.as_slice.ensures here c.index-as_slice-number.is in
    let given =
    fx_given g.E.Effect.schemas c.args.scene.now.project c.args.of c.args.comp.now layer c.args.number fx c.moment_of-at.result c.base_of.result (tick_of c.base_of.result.ticks c.args.comp.now.frame) c.args.tick.0 c.requires.uses c.requires.layer found
    c.base_of.ensures.base c.base_of.ensures.ticks c.moment_of-at.ensures.moment c.requires.held c.moment_of-at.ensures.low c.moment_of-at.ensures.high in
    given.1

pub effect_extent-bounds_of-requires-clause-given : goal.effect_extent-bounds_of-requires-clause-given
effect_extent-bounds_of-requires-clause-given g t c =
    let layer = c.args.layer.now in
    let fx = c.index-as_slice-number.result in
    let here : c.args.number < length c.as_slice.result.now = omega (arith, c.requires.number, ap length c.as_slice.ensures) in
    let found : slice_get layer.effects c.args.number ≡ Some fx = read_at layer.effects c.as_slice.result.now c.args.number fx c.as_slice.ensures here c.index-as_slice-number.is in
    let given =
    fx_given g.E.Effect.schemas c.args.scene.now.project c.args.of c.args.comp.now layer c.args.number fx c.moment_of-at.result c.base_of.result (tick_of c.base_of.result.ticks c.args.comp.now.frame) c.args.tick.0 c.requires.uses c.requires.layer found
    c.base_of.ensures.base c.base_of.ensures.ticks c.moment_of-at.ensures.moment c.requires.held c.moment_of-at.ensures.low c.moment_of-at.ensures.high in
    given.0

pub effect_extent-bounds_of-requires-clause-based : goal.effect_extent-bounds_of-requires-clause-based
effect_extent-bounds_of-requires-clause-based g t c =
    let layer = c.args.layer.now in
    let fx = c.index-as_slice-number.result in
    let here : c.args.number < length c.as_slice.result.now = omega (arith, c.requires.number, ap length c.as_slice.ensures) in
    let found : slice_get layer.effects c.args.number ≡ Some fx = read_at layer.effects c.as_slice.result.now c.args.number fx c.as_slice.ensures here c.index-as_slice-number.is in
    let given =
    fx_given g.E.Effect.schemas c.args.scene.now.project c.args.of c.args.comp.now layer c.args.number fx c.moment_of-at.result c.base_of.result (tick_of c.base_of.result.ticks c.args.comp.now.frame) c.args.tick.0 c.requires.uses c.requires.layer found
    c.base_of.ensures.base c.base_of.ensures.ticks c.moment_of-at.ensures.moment c.requires.held c.moment_of-at.ensures.low c.moment_of-at.ensures.high in
    given.1

pub effect_extent-extents_of_wants-requires : goal.effect_extent-extents_of_wants-requires
effect_extent-extents_of_wants-requires g t c κs within =
    let set : EffectSet = record {
      schemas = g.E.Effect.schemas;
      class_names = g.E.Effect.class_names;
      wants = g.E.Effect.wants;
      asks = g.E.Effect.asks;
      bounds = g.E.Effect.bounds;
      need = g.E.Effect.need;
    } in
    let layer = c.args.layer.now in
    let fx = c.index-as_slice-number.result in
    let here : c.args.number < length c.as_slice.result.now = omega (arith, c.requires.number, ap length c.as_slice.ensures) in
    let found : slice_get layer.effects c.args.number ≡ Some fx = read_at layer.effects c.as_slice.result.now c.args.number fx c.as_slice.ensures here c.index-as_slice-number.is in
    let given =
    fx_given g.E.Effect.schemas c.args.scene.now.project c.args.of c.args.comp.now layer c.args.number fx c.moment_of-at.result c.base_of.result (tick_of c.base_of.result.ticks c.args.comp.now.frame) c.args.tick.0 c.requires.uses c.requires.layer found
    c.base_of.ensures.base c.base_of.ensures.ticks c.moment_of-at.ensures.moment c.requires.held c.moment_of-at.ensures.low c.moment_of-at.ensures.high in
    let mine = use_is g.E.Effect.schemas c.args.scene.now.project c.args.of c.args.comp.now layer c.args.number fx c.requires.uses c.requires.layer found in
    let same : c.moment_of-at.result.base.ticks ≡ base_in (plain_of c.args.scene.now.project) = ap (λ (m : Moment). m.base.ticks) c.moment_of-at.ensures.moment ∙ c.base_of.ensures.ticks in
    let wanted = wants_are_wanted set (use_of fx) c.moment_of-at.result c.deref.result.now (base_in (plain_of c.args.scene.now.project)) c.set_is_lawful.ensures given.0 (c.deref.ensures.value ∙ c.in_ok-wants.ensures) same in
    search (rules, mine.there, wanted.0)

pub effect_extent-bounds_of-requires-clause-extents : goal.effect_extent-bounds_of-requires-clause-extents
effect_extent-bounds_of-requires-clause-extents g t c =
    let set : EffectSet = record {
      schemas = g.E.Effect.schemas;
      class_names = g.E.Effect.class_names;
      wants = g.E.Effect.wants;
      asks = g.E.Effect.asks;
      bounds = g.E.Effect.bounds;
      need = g.E.Effect.need;
    } in
    let fx = c.index-as_slice-number.result in
    let zip = subst (AllZip (IsWantedExtent set c.args.scene.now (plain_comp c.args.comp.now) (plain_layer c.args.layer.now) c.args.number fx.layers) c.deref.result.now) (sym c.deref-2.ensures.value) c.in_ok-extents.ensures.extents in
    are_extents set c.args.scene.now (plain_comp c.args.comp.now) (plain_layer c.args.layer.now) c.args.number fx.layers c.deref.result.now _ c.deref-2.result.now (c.deref.ensures.value ∙ c.in_ok-wants.ensures) zip

pub effect_extent-returns-clause-extent : goal.effect_extent-returns-clause-extent
effect_extent-returns-clause-extent g t c =
    let set : EffectSet = record {
      schemas = g.E.Effect.schemas;
      class_names = g.E.Effect.class_names;
      wants = g.E.Effect.wants;
      asks = g.E.Effect.asks;
      bounds = g.E.Effect.bounds;
      need = g.E.Effect.need;
    } in
    let layer = c.args.layer.now in
    let fx = c.index-as_slice-number.result in
    let here : c.args.number < length c.as_slice.result.now = omega (arith, c.requires.number, ap length c.as_slice.ensures) in
    let found : slice_get layer.effects c.args.number ≡ Some fx = read_at layer.effects c.as_slice.result.now c.args.number fx c.as_slice.ensures here c.index-as_slice-number.is in
    let given =
    fx_given g.E.Effect.schemas c.args.scene.now.project c.args.of c.args.comp.now layer c.args.number fx c.moment_of-at.result c.base_of.result (tick_of c.base_of.result.ticks c.args.comp.now.frame) c.args.tick.0 c.requires.uses c.requires.layer found
    c.base_of.ensures.base c.base_of.ensures.ticks c.moment_of-at.ensures.moment c.requires.held c.moment_of-at.ensures.low c.moment_of-at.ensures.high in
    let zip = subst (AllZip (IsWantedExtent set c.args.scene.now (plain_comp c.args.comp.now) (plain_layer layer) c.args.number fx.layers) c.deref.result.now) (sym c.deref-2.ensures.value) c.in_ok-extents.ensures.extents in
    let few : c.args.number < 8 = omega (arith, c.requires.number, layer.few_effects) in
    let moment = c.moment_of-at.ensures.moment ∙ ap (λ (b : ℕ). moment_at b (tick_of b c.args.comp.now.frame) c.args.tick.0) c.base_of.ensures.ticks in
    effect_is set c.args.scene.now c.args.comp.now layer c.args.number fx c.args.tick.0 c.moment_of-at.result c.deref.result.now c.deref-2.result.now c.bounds_of.result
    c.set_is_lawful.ensures given.0 few found moment (c.deref.ensures.value ∙ c.in_ok-wants.ensures) zip c.bounds_of.ensures

pub layer_extent-returns-then-count-eq0-clause-extent : goal.layer_extent-returns-then-count-eq0-clause-extent
layer_extent-returns-then-count-eq0-clause-extent g t c =
    let set : EffectSet = record {
      schemas = g.E.Effect.schemas;
      class_names = g.E.Effect.class_names;
      wants = g.E.Effect.wants;
      asks = g.E.Effect.asks;
      bounds = g.E.Effect.bounds;
      need = g.E.Effect.need;
    } in
    source_behind set c.args.scene.now (plain_comp c.args.comp.now) (plain_layer c.args.layer.now) c.args.count c.args.tick.0 c.source_extent.result c.if-count-eq0.true (c.source_extent.ensures.extent set c.args.tick.0) c.source_extent.ensures.boxed

pub layer_extent-returns-in-Some-clause-extent : goal.layer_extent-returns-in-Some-clause-extent
layer_extent-returns-in-Some-clause-extent g t c =
    let set : EffectSet = record {
      schemas = g.E.Effect.schemas;
      class_names = g.E.Effect.class_names;
      wants = g.E.Effect.wants;
      asks = g.E.Effect.asks;
      bounds = g.E.Effect.bounds;
      need = g.E.Effect.need;
    } in
    known_is set c.args.scene.now (plain_comp c.args.comp.now) (plain_layer c.args.layer.now) c.args.known.now c.args.count c.args.tick.0 c.in-Some.extent c.requires.known c.in-Some.ensures

pub layer_extent-returns-clause-known : goal.layer_extent-returns-clause-known
layer_extent-returns-clause-known g t c =
    let set : EffectSet = record {
      schemas = g.E.Effect.schemas;
      class_names = g.E.Effect.class_names;
      wants = g.E.Effect.wants;
      asks = g.E.Effect.asks;
      bounds = g.E.Effect.bounds;
      need = g.E.Effect.need;
    } in
    let comp = plain_comp c.args.comp.now in
    let layer = plain_layer c.args.layer.now in
    let one : c.args.count - 1 + 1 ≡ c.args.count = omega (arith, c.if-count-eq0.false) in
    let is = subst (λ (n : ℕ). IsExtentBehind set c.args.scene.now comp layer n c.args.tick.0 c.in_ok-extent.extent) one c.in_ok-extent.ensures.extent in
    known_more set c.args.scene.now comp layer c.effect_extent.new.known c.keep_known.new.known c.args.count c.args.tick.0 c.in_ok-extent.extent c.in_ok-extent.ensures.known is c.in_ok-keep_known.ensures

pub wanted_extent-returns-then-want-eq0-clause-extent : goal.wanted_extent-returns-then-want-eq0-clause-extent
wanted_extent-returns-then-want-eq0-clause-extent g t c =
    let set : EffectSet = record {
      schemas = g.E.Effect.schemas;
      class_names = g.E.Effect.class_names;
      wants = g.E.Effect.wants;
      asks = g.E.Effect.asks;
      bounds = g.E.Effect.bounds;
      need = g.E.Effect.need;
    } in
    input_is set c.args.scene.now (plain_comp c.args.comp.now) (plain_layer c.args.layer.now) c.args.number c.args.fx.now.layers c.args.want c.layer_extent.result c.if-want-eq0.true c.layer_extent.ensures.extent

pub wanted_extent-layer_at-requires-clause-comp : goal.wanted_extent-layer_at-requires-clause-comp
wanted_extent-layer_at-requires-clause-comp g t c = slice_get_within c.args.scene.now.project.comps c.args.of c.args.comp.now c.requires.layer.here

pub wanted_extent-returns-clause-extent : goal.wanted_extent-returns-clause-extent
wanted_extent-returns-clause-extent g t c =
    let set : EffectSet = record {
      schemas = g.E.Effect.schemas;
      class_names = g.E.Effect.class_names;
      wants = g.E.Effect.wants;
      asks = g.E.Effect.asks;
      bounds = g.E.Effect.bounds;
      need = g.E.Effect.need;
    } in
    let comp = c.args.comp.now in
    let i : ℕ = c.args.want.input - 1 in
    let one : c.args.want.input ≡ suc i = omega (arith, c.if-want-eq0.false) in
    let here : i < length c.as_slice.result.now = omega (arith, one, c.requires.want.input_is, ap length c.as_slice.ensures) in
    let named : ℕ = slice_index_or c.as_slice.result.now i 0 in
    let found : slice_get c.args.fx.now.layers i ≡ Some named = ap (λ l. slice_get l i) (sym c.as_slice.ensures) ∙ slice_get-get_or c.as_slice.result.now i 0 here in
    named_extent set c.args.scene.now (plain_comp comp) (plain_layer c.args.layer.now) (plain_layer c.layer_at.result.now) c.args.number i named c.args.fx.now.layers c.args.want c.source_extent.result one found
    (layer_here comp named c.layer_at.result.now (c.layer_at.ensures.here comp c.requires.layer.here)) (c.source_extent.ensures.extent set c.args.want.tick.0) c.source_extent.ensures.boxed

pub extents_of_wants-loop-place-preserved : goal.extents_of_wants-loop-place-preserved
extents_of_wants-loop-place-preserved g t c =
    let set : EffectSet = record {
      schemas = g.E.Effect.schemas;
      class_names = g.E.Effect.class_names;
      wants = g.E.Effect.wants;
      asks = g.E.Effect.asks;
      bounds = g.E.Effect.bounds;
      need = g.E.Effect.need;
    } in
    let wanted = IsWantedExtent set c.args.scene.now (plain_comp c.args.comp.now) (plain_layer c.args.layer.now) c.args.number c.args.fx.now.layers in
    let wants = c.args.wants.now in
    let within : c.loop-place.place < length wants = omega (arith, c.loop-place-test.true, c.loop-place.auto.place-end) in
    let one : suc c.loop-place.place ≡ c.loop-place.place + 1 = omega arith in
    let pushed = zip_push wanted wants c.loop-place.extents.items c.loop-place.place c.in_ok-extent.extent c.loop-place.invariant.extents within (at_place wanted wants c.loop-place.place _ c.in_ok-extent.extent c.in_ok-extent.ensures.extent) in
    record {
      extents = subst (λ (n : ℕ). AllZip wanted (take n wants) c.push.new.self.items) one
          (subst (AllZip wanted (take (suc c.loop-place.place) wants)) (sym c.in_ok-push.ensures.items) pushed);
      known = c.in_ok-extent.ensures.known;
    }
