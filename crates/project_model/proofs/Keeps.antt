-- What the rules say of a project that breaks none.
use Rattle.std.proofs.Common.{◌≡◌, ℕ, ◌+◌, ◌≤◌, Bool, true, false, List, [], ◌∷◌, length, ℤ, pos, ◌≤ℤ◌, refl, arith}
use Rattle.std.specs.Prelude.{Option, Some, None, option_map, is_none, IsSome, IsTrue, ◌&&◌, int_lt, int_le, slice_index_or, if◌then◌else◌}
use Rattle.std.specs.List.{All, list_all}
use Rattle.std.proofs.lemmas.Bool.{and_parts, leb-true, ltb-true, not-false}
use Rattle.std.proofs.lemmas.Int.{ints}
use Rattle.std.proofs.lemmas.List.Elements.{All-nil, All-cons, All-weaker}
use Rattle.std.proofs.lemmas.List.Sums.{AllPass-from_list_all}
use Rattle.rational_time.specs.Times.{IsNear, is_near}
use Rattle.rational_time.specs.declared.time.Time.{Time}
use Rattle.param_stream.specs.Curve.{IsBetween, rises}
use Rattle.param_stream.specs.declared.key.Keyframe.{Keyframe}
use Rattle.project_model.specs.Bounds.{most_of, most_frames, full_opacity, least_position, greatest_position, is_among, is_size, is_colour, is_between, all_between}
use Rattle.project_model.specs.Broken.{first_broken, breach_of}
use Rattle.project_model.specs.EffectRules.{has_params, has_layers, has_sequence}
use Rattle.project_model.specs.Places.{first_of_two, first_from, first_in_comps}
use Rattle.project_model.specs.Rules.{number_of, rules, place_of, breaks_project, breaks_comp, breaks_layer, is_solid, is_clip_of, is_comp_of, are_rising}
use Rattle.project_model.specs.Sound.{IsPictureSize, IsColour, IsSoundItem}
use Rattle.project_model.specs.Times.{layer_times}
use Rattle.project_model.specs.declared.effect.EffectSchema.{EffectSchema}
use Rattle.project_model.specs.declared.item.Item.{Item}
use Rattle.project_model.specs.declared.item.Item.TheVariants.{Solid as SolidItem, Clip as ClipItem, Comp as CompItem}
use Rattle.project_model.specs.declared.place.Place.{Place}
use Rattle.project_model.specs.declared.place.Place.TheVariants as place
use Rattle.project_model.specs.declared.plain.PlainFx.{PlainFx}
use Rattle.project_model.specs.declared.plain.PlainLayer.{PlainLayer}
use Rattle.project_model.specs.declared.plain.PlainComp.{PlainComp}
use Rattle.project_model.specs.declared.plain.PlainProject.{PlainProject}
use Rattle.project_model.specs.declared.rule.Rule.{Rule}
use Rattle.project_model.specs.declared.rule.Rule.TheVariants.{Root, ClipName, ClipNames, Size, ClipDepth, Frames, FrameValue, Near, Length, Base, ClipBytes, Solid, ClipSource, CompSource, Nesting, Mode, Matte, MatteLayer, Span, Rising, Range, Params, EffectLayers, Sequence, Rank}

-- ---- nothing is found

pub neither : {A : Type 0} (a b : Option A) → first_of_two a b ≡ None → (a ≡ None) × (b ≡ None)
neither None b e = (refl, e)
neither (Some a) b e = cc

unmapped : {A B : Type 0} (f : A → B) (o : Option A) → option_map f o ≡ None → o ≡ None
unmapped f None e = refl
unmapped f (Some a) e = cc

-- none of the rules is broken
abbrev pub AreKept : {R : Type 0} → (R → Option Place) → List R → Type 0
AreKept place_of [] = Unit {0}
AreKept place_of (rule ∷ rest) = (place_of rule ≡ None) × AreKept place_of rest

pub all_kept : {R : Type 0} (number_of : R → ℕ) (place_of : R → Option Place) (rules : List R) → first_broken number_of place_of rules ≡ None → AreKept place_of rules
all_kept number_of place_of [] e = tt
all_kept number_of place_of (rule ∷ rest) e =
    let both = neither _ _ e in
    (unmapped _ (place_of rule) both.0, all_kept number_of place_of rest both.1)

pub each_kept : (place_of : Rule → Option Place) → AreKept place_of rules → (rule : Rule) → place_of rule ≡ None
each_kept place_of h Root = h.0
each_kept place_of h ClipName = h.1.0
each_kept place_of h ClipNames = h.1.1.0
each_kept place_of h Size = h.1.1.1.0
each_kept place_of h ClipDepth = h.1.1.1.1.0
each_kept place_of h Frames = h.1.1.1.1.1.0
each_kept place_of h FrameValue = h.1.1.1.1.1.1.0
each_kept place_of h Near = h.1.1.1.1.1.1.1.0
each_kept place_of h Length = h.1.1.1.1.1.1.1.1.0
each_kept place_of h Base = h.1.1.1.1.1.1.1.1.1.0
each_kept place_of h ClipBytes = h.1.1.1.1.1.1.1.1.1.1.0
each_kept place_of h Solid = h.1.1.1.1.1.1.1.1.1.1.1.0
each_kept place_of h ClipSource = h.1.1.1.1.1.1.1.1.1.1.1.1.0
each_kept place_of h CompSource = h.1.1.1.1.1.1.1.1.1.1.1.1.1.0
each_kept place_of h Nesting = h.1.1.1.1.1.1.1.1.1.1.1.1.1.1.0
each_kept place_of h Mode = h.1.1.1.1.1.1.1.1.1.1.1.1.1.1.1.0
each_kept place_of h Matte = h.1.1.1.1.1.1.1.1.1.1.1.1.1.1.1.1.0
each_kept place_of h MatteLayer = h.1.1.1.1.1.1.1.1.1.1.1.1.1.1.1.1.1.0
each_kept place_of h Span = h.1.1.1.1.1.1.1.1.1.1.1.1.1.1.1.1.1.1.0
each_kept place_of h Rising = h.1.1.1.1.1.1.1.1.1.1.1.1.1.1.1.1.1.1.1.0
each_kept place_of h Range = h.1.1.1.1.1.1.1.1.1.1.1.1.1.1.1.1.1.1.1.1.0
each_kept place_of h Params = h.1.1.1.1.1.1.1.1.1.1.1.1.1.1.1.1.1.1.1.1.1.0
each_kept place_of h EffectLayers = h.1.1.1.1.1.1.1.1.1.1.1.1.1.1.1.1.1.1.1.1.1.1.0
each_kept place_of h Sequence = h.1.1.1.1.1.1.1.1.1.1.1.1.1.1.1.1.1.1.1.1.1.1.1.0
each_kept place_of h Rank = h.1.1.1.1.1.1.1.1.1.1.1.1.1.1.1.1.1.1.1.1.1.1.1.1.0

-- no test accepts, at whatever index it is asked
pub record IsPassed {C L : Type 0} (in_comp : ℕ → C → Bool) (in_layer : C → ℕ → L → Bool) (layers : List L) (comp : C) : Type 0 where
  pub index : ℕ
  pub comp_passed : in_comp index comp ≡ false
  pub layers_passed : All (λ layer. (m : ℕ) × (in_layer comp m layer ≡ false)) layers

-- the test of a choice
pub chosen_none : {A : Type 0} (b : Bool) (a : A) (other : Option A) → (if b then Some a else other) ≡ None → (b ≡ false) × (other ≡ None)
chosen_none true a other e = cc
chosen_none false a other e = (refl, e)

none_from : {A : Type 0} (test : ℕ → A → Bool) (i : ℕ) (list : List A) → first_from test i list ≡ None → All (λ a. (m : ℕ) × (test m a ≡ false)) list
none_from test i [] e = All-nil _
none_from test i (a ∷ rest) e =
    let both = chosen_none (test i a) i (first_from test (i + 1) rest) e in
    All-cons (λ x. (m : ℕ) × (test m x ≡ false)) a rest (i, both.0) (none_from test (i + 1) rest both.1)

none_in_comps : {C L : Type 0} (layers_of : C → List L) (in_comp : ℕ → C → Bool) (in_layer : C → ℕ → L → Bool) (i : ℕ) (comps : List C) → first_in_comps layers_of in_comp in_layer i comps ≡ None → All (λ comp. IsPassed in_comp in_layer (layers_of comp) comp) comps
none_in_comps layers_of in_comp in_layer i [] e = All-nil _
none_in_comps layers_of in_comp in_layer i (comp ∷ rest) e =
    let both = neither _ _ e in
    let here = chosen_none (in_comp i comp) (place.Comp i) _ both.0 in
    All-cons (λ c. IsPassed in_comp in_layer (layers_of c) c) comp rest
    (record { index = i; comp_passed = here.0; layers_passed = none_from (in_layer comp) 0 (layers_of comp) (unmapped _ _ here.1) })
    (none_in_comps layers_of in_comp in_layer (i + 1) rest both.1)

-- the compositions and layers in which the rule is tested
abbrev pub ArePassed : List EffectSchema → PlainProject → Rule → Type 0
ArePassed schemas project rule =
    All (λ comp. IsPassed (breaks_comp project rule) (breaks_layer schemas project rule) comp.layers comp) project.comps

passed : (schemas : List EffectSchema) (project : PlainProject) (rule : Rule) → place_of schemas project rule ≡ None → ArePassed schemas project rule
passed schemas project rule e =
    let outside = chosen_none (breaks_project project rule) place.Project _ e in
    none_in_comps (λ (comp : PlainComp). comp.layers) (breaks_comp project rule) (breaks_layer schemas project rule) 0 project.comps outside.1

pub each_passed : (schemas : List EffectSchema) (project : PlainProject) → breach_of schemas project ≡ None → (rule : Rule) → ArePassed schemas project rule
each_passed schemas project e rule = passed schemas project rule (each_kept (place_of schemas project) (all_kept number_of (place_of schemas project) rules e) rule)

pub outside_passed : (schemas : List EffectSchema) (project : PlainProject) → breach_of schemas project ≡ None → (rule : Rule) → breaks_project project rule ≡ false
outside_passed schemas project e rule =
    (chosen_none (breaks_project project rule) place.Project _ (each_kept (place_of schemas project) (all_kept number_of (place_of schemas project) rules e) rule)).0

-- ---- in numbers

pub among : (low high n : ℕ) → is_among low high n ≡ true → (low ≤ n) × (n ≤ high)
among low high n e =
    let both = and_parts _ _ e in
    (leb-true low n both.0, leb-true n high both.1)

pub picture_size : (width height : ℕ) → is_size width height ≡ true → IsPictureSize width height
picture_size width height e =
    let parts = and_parts _ _ e in
    let sides = and_parts _ _ parts.0 in
    let wide = among _ _ width sides.0 in
    let high = among _ _ height sides.1 in
    record { some_width = wide.0; some_height = high.0; width_bound = wide.1; height_bound = high.1; area_bound = leb-true _ _ parts.1 }

colour : (most a r g b : ℕ) → is_colour most a r g b ≡ true → IsColour most a r g b
colour most a r g b e =
    let blue = and_parts _ _ e in
    let green = and_parts _ _ blue.0 in
    let red = and_parts _ _ green.0 in
    record { alpha = leb-true _ _ red.0; red = leb-true _ _ red.1; green = leb-true _ _ green.1; blue = leb-true _ _ blue.1 }

sound_item : (most clips comps : ℕ) (item : Item) → is_solid most item ≡ true → is_clip_of clips item ≡ true → is_comp_of comps item ≡ true → IsSoundItem most clips comps item
sound_item most clips comps (SolidItem width height a r g b) solid clip comp =
    let parts = and_parts _ _ solid in
    (picture_size width height parts.0, colour most a r g b parts.1)
sound_item most clips comps (ClipItem index) solid clip comp = ltb-true index clips clip
sound_item most clips comps (CompItem index) solid clip comp = ltb-true index comps comp

pub near : (time : Time) → is_near time ≡ true → IsNear time
near time e = leb-true _ _ e

all_near : (times : List Time) → list_all is_near times ≡ true → All IsNear times
all_near times e = All-weaker (λ (t : Time). is_near t ≡ true) IsNear near times (AllPass-from_list_all is_near times e)

between : (least most value : ℤ) → is_between least most value ≡ true → IsBetween least most value
between least most value e =
    let both = and_parts (int_le least value) (int_le value most) e in
    (omega (arith, ints, both.0), omega (arith, ints, both.1))

pub all_within : (least most : ℤ) (keys : List Keyframe) → all_between least most keys ≡ true → All (λ (key : Keyframe). IsBetween least most key.value) keys
all_within least most keys e =
    All-weaker (λ (key : Keyframe). is_between least most key.value ≡ true) (λ (key : Keyframe). IsBetween least most key.value)
    (λ key h. between least most key.value h) keys
    (AllPass-from_list_all (λ (key : Keyframe). is_between least most key.value) keys e)

-- ---- what a composition keeps

pub record KeepsStreams (layer : PlainLayer) : Type 0 where
  pub opacity_rises : IsTrue (rises layer.opacity)
  pub x_rises : IsTrue (rises layer.x)
  pub y_rises : IsTrue (rises layer.y)
  pub effects_rise : All (λ fx. All (λ keys. IsTrue (rises keys)) fx.params) layer.effects

pub record KeepsRanges (layer : PlainLayer) : Type 0 where
  pub opacity : All (λ key. IsBetween (pos 0) full_opacity key.value) layer.opacity
  pub x : All (λ key. IsBetween least_position greatest_position key.value) layer.x
  pub y : All (λ key. IsBetween least_position greatest_position key.value) layer.y

-- what the rules on effects ask of each
pub record KeepsFx (schemas : List EffectSchema) (count : ℕ) (fx : PlainFx) : Type 0 where
  pub params : has_params schemas fx ≡ true
  pub layers : has_layers schemas count fx ≡ true
  pub sequence : has_sequence schemas fx ≡ true

pub record KeepsComp (schemas : List EffectSchema) (depth clips comps : ℕ) (comp : PlainComp) : Type 0 where
  pub size : IsPictureSize comp.width comp.height
  pub some_frame : 1 ≤ comp.frames
  pub few_frames : comp.frames ≤ most_frames
  pub some_time : pos 1 ≤ℤ comp.frame.value
  pub frame_near : IsNear comp.frame
  pub layers_near : All (λ layer. All IsNear (layer_times layer)) comp.layers
  pub sources : All (λ layer. IsSoundItem (most_of depth) clips comps layer.source) comp.layers
  pub modes : All (λ layer. IsSome layer.mode) comp.layers
  pub mattes : All (λ layer. IsSome layer.matte) comp.layers
  pub rising : All KeepsStreams comp.layers
  pub ranges : All KeepsRanges comp.layers
  pub effects : All (λ layer. All (KeepsFx schemas (length comp.layers)) layer.effects) comp.layers

rising_effects : (effects : List PlainFx) → list_all (λ (fx : PlainFx). list_all rises fx.params) effects ≡ true → All (λ (fx : PlainFx). All (λ keys. IsTrue (rises keys)) fx.params) effects
rising_effects effects e =
    All-weaker (λ (fx : PlainFx). list_all rises fx.params ≡ true) (λ (fx : PlainFx). All (λ keys. IsTrue (rises keys)) fx.params)
    (λ fx h. AllPass-from_list_all rises fx.params h)
    effects
    (AllPass-from_list_all (λ (fx : PlainFx). list_all rises fx.params) effects e)

rising_layer : (layer : PlainLayer) → are_rising layer ≡ true → KeepsStreams layer
rising_layer layer e =
    let all = and_parts _ _ e in
    let parts = and_parts _ _ all.0 in
    let front = and_parts _ _ parts.0 in
    record { opacity_rises = front.0; x_rises = front.1; y_rises = parts.1; effects_rise = rising_effects layer.effects all.1 }

ranged_layer : (layer : PlainLayer) → (all_between (pos 0) full_opacity layer.opacity && all_between least_position greatest_position layer.x && all_between least_position greatest_position layer.y) ≡ true → KeepsRanges layer
ranged_layer layer e =
    let parts = and_parts _ _ e in
    let front = and_parts _ _ parts.0 in
    record { opacity = all_within _ _ layer.opacity front.0; x = all_within _ _ layer.x front.1; y = all_within _ _ layer.y parts.1 }

effects_keep : (schemas : List EffectSchema) (count : ℕ) (effects : List PlainFx) → list_all (has_params schemas) effects ≡ true → list_all (has_layers schemas count) effects ≡ true → list_all (has_sequence schemas) effects ≡ true → All (KeepsFx schemas count) effects
effects_keep schemas count effects params layers sequence k d within = record {
  params = AllPass-from_list_all (has_params schemas) effects params k d within;
  layers = AllPass-from_list_all (has_layers schemas count) effects layers k d within;
  sequence = AllPass-from_list_all (has_sequence schemas) effects sequence k d within;
}

some_of : {A : Type 0} (o : Option A) → is_none o ≡ false → IsSome o
some_of None e = cc
some_of (Some a) e = refl

above : (value : ℤ) → int_lt value (pos 1) ≡ false → pos 1 ≤ℤ value
above value e = omega (arith, ints, e)

comp_keeps : (schemas : List EffectSchema) (project : PlainProject) (comp : PlainComp) → ((rule : Rule) → IsPassed (breaks_comp project rule) (breaks_layer schemas project rule) comp.layers comp) → KeepsComp schemas project.depth (length project.clips) (length project.comps) comp
comp_keeps schemas project comp h =
    let frames = among 1 most_frames comp.frames (not-false _ (h Frames).comp_passed) in
    record {
      size = picture_size comp.width comp.height (not-false _ (h Size).comp_passed);
      some_frame = frames.0;
      few_frames = frames.1;
      some_time = above comp.frame.value (h FrameValue).comp_passed;
      frame_near = near comp.frame (not-false _ (h Near).comp_passed);
      layers_near = All-weaker (λ layer. (m : ℕ) × (breaks_layer schemas project Near comp m layer ≡ false)) (λ layer. All IsNear (layer_times layer)) (λ layer k. all_near (layer_times layer) (not-false _ k.1)) comp.layers (h Near).layers_passed;
      sources = λ k d within.
          sound_item (most_of project.depth) (length project.clips) (length project.comps) (slice_index_or comp.layers k d).source
          (not-false _ ((h Solid).layers_passed k d within).1) (not-false _ ((h ClipSource).layers_passed k d within).1)
          (not-false _ ((h CompSource).layers_passed k d within).1);
      modes = All-weaker (λ layer. (m : ℕ) × (breaks_layer schemas project Mode comp m layer ≡ false)) (λ layer. IsSome layer.mode) (λ layer k. some_of layer.mode k.1) comp.layers (h Mode).layers_passed;
      mattes = All-weaker (λ layer. (m : ℕ) × (breaks_layer schemas project Matte comp m layer ≡ false)) (λ layer. IsSome layer.matte) (λ layer k. some_of layer.matte k.1) comp.layers (h Matte).layers_passed;
      rising = All-weaker (λ layer. (m : ℕ) × (breaks_layer schemas project Rising comp m layer ≡ false)) KeepsStreams (λ layer k. rising_layer layer (not-false _ k.1)) comp.layers (h Rising).layers_passed;
      ranges = All-weaker (λ layer. (m : ℕ) × (breaks_layer schemas project Range comp m layer ≡ false)) KeepsRanges (λ layer k. ranged_layer layer (not-false _ k.1)) comp.layers (h Range).layers_passed;
      effects = λ k d within.
          effects_keep schemas (length comp.layers) (slice_index_or comp.layers k d).effects
          (not-false _ ((h Params).layers_passed k d within).1) (not-false _ ((h EffectLayers).layers_passed k d within).1)
          (not-false _ ((h Sequence).layers_passed k d within).1);
    }

pub comps_keep : (schemas : List EffectSchema) (project : PlainProject) → breach_of schemas project ≡ None → All (KeepsComp schemas project.depth (length project.clips) (length project.comps)) project.comps
comps_keep schemas project e k d within = comp_keeps schemas project _ (λ rule. each_passed schemas project e rule k d within)
