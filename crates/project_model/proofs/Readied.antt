-- Parts that keep the rules can be made, and what is made of them is sound.
use Rattle.std.proofs.Common.{◌≡◌, ℕ, zero, suc, ◌<◌, ◌≤◌, Bool, true, false, List, [], ◌∷◌, ◌++◌, length, map, ℤ, pos, ◌≤ℤ◌, inl, inr, refl, sym, ◌∙◌, subst, ap, arith, eqb}
use Rattle.std.specs.Prelude.{◌⊎◌, Option, Some, None, IsSome, IsTrue, not, nat_lt, int_le, option_to_list, slice_get, slice_index_or}
use Rattle.std.specs.Int.{◌∣◌}
use Rattle.std.specs.List.{All, list_all, flat_map}
use Rattle.std.proofs.lemmas.List.{length-map}
use Rattle.std.proofs.lemmas.List.Elements.{All-nil, All-cons, All-head, All-tail, All-weaker}
use Rattle.std.proofs.lemmas.Bool.{and_parts, ltb-true, not-false, eqb-true, false_from_ne_true}
use Rattle.std.proofs.lemmas.Int.{ints}
use Rattle.std.proofs.lemmas.List.Sums.{AllPass-from_list_all}
use Rattle.rational_time.proofs.Multiples.{is_base}
use Rattle.rational_time.specs.Times.{IsNear, common_base, is_near}
use Rattle.rational_time.specs.declared.time.Time.{Time}
use Rattle.rational_time.specs.declared.time.TimeBase.{TimeBase}
use Rattle.param_stream.specs.Curve.{Curve, IsTimed, IsBetween, rises}
use Rattle.param_stream.specs.declared.key.Keyframe.{Keyframe}
use Rattle.param_stream.proofs.Rising.{both_rise}
use Rattle.project_model.specs.Bounds.{most_of, most_frames, is_among, is_bit_depth, is_size, all_between, greatest_base, full_opacity, least_position, greatest_position}
use Rattle.project_model.specs.Broken.{breach_of}
use Rattle.sequence_data.proofs.Units.{takes_is_fits}
use Rattle.sequence_data.specs.declared.sequence.SeqRule.{SeqRule}
use Rattle.project_model.specs.EffectRules.{are_in_range, is_sequence}
use Rattle.project_model.specs.Effects.{schema_of, AreInRange}
use Rattle.project_model.specs.Form.{IsFormed, IsFormedComp, IsFormedLayer, IsFormedFx, IsKeyCount}
use Rattle.project_model.specs.Laws.{IsBrokenAt}
use Rattle.project_model.specs.Nesting.{reaches, IsAcyclic}
use Rattle.project_model.specs.Plain.{plain_fx, plain_layer, plain_comp, plain_of}
use Rattle.project_model.specs.Ready.{AreReady, AreReadyParams, IsReadyFx, IsReadyLayer, IsReadyComp, IsBasedFx, IsBasedLayer, IsBasedComp}
use Rattle.project_model.specs.Sound.{IsPictureSize, IsWritten, MayBeWritten, IsMadeWith, IsMadeFx, IsSoundItem, IsSoundClip, IsSoundLayer, IsSoundComp, IsSound}
use Rattle.project_model.specs.Times.{key_times, fx_times, layer_times, comp_times, times_of}
use Rattle.project_model.specs.Uses.{IsUse, AreUses}
use Rattle.project_model.specs.declared.clip.ClipUse.{ClipUse}
use Rattle.project_model.specs.declared.effect.EffectSchema.{EffectSchema}
use Rattle.project_model.specs.declared.effect.FxUse.{FxUse}
use Rattle.project_model.specs.declared.effect.ParamSchema.{ParamSchema}
use Rattle.project_model.specs.declared.place.Place.{Place}
use Rattle.project_model.specs.declared.place.Place.TheVariants as place
use Rattle.project_model.specs.declared.layer.Layer.{Layer}
use Rattle.project_model.specs.declared.comp.Comp.{Comp}
use Rattle.project_model.specs.declared.project.Project.{Project}
use Rattle.project_model.specs.declared.plain.PlainFx.{PlainFx}
use Rattle.project_model.specs.declared.plain.PlainLayer.{PlainLayer}
use Rattle.project_model.specs.declared.plain.PlainComp.{PlainComp}
use Rattle.project_model.specs.declared.plain.PlainProject.{PlainProject}
use Rattle.project_model.specs.declared.rule.Rule.TheVariants.{Root, Size, ClipDepth, Frames, FrameValue, Near, Nesting}
use Rattle.project_model.proofs.First.{place_first}
use Rattle.project_model.proofs.Keeps.{KeepsFx, KeepsComp, KeepsStreams, KeepsRanges, comps_keep, outside_passed, among, picture_size, near, all_within}
use Rattle.project_model.proofs.Least.{rules_kept}
use Rattle.project_model.proofs.Nesting.{or_either}
use Rattle.project_model.proofs.Ranked.{reach_absent}

-- ---- parts of lists

left : {X : Type 0} (P : X → Type 0) (xs ys : List X) → All P (xs ++ ys) → All P xs
left P [] ys all = All-nil P
left P (x ∷ xs) ys all = All-cons P x xs (All-head P x (xs ++ ys) all) (left P xs ys (All-tail P x (xs ++ ys) all))

right : {X : Type 0} (P : X → Type 0) (xs ys : List X) → All P (xs ++ ys) → All P ys
right P [] ys all = all
right P (x ∷ xs) ys all = right P xs ys (All-tail P x (xs ++ ys) all)

pieces : {X Y : Type 0} (P : Y → Type 0) (f : X → List Y) (xs : List X) → All P (flat_map f xs) → All (λ x. All P (f x)) xs
pieces P f [] all = All-nil _
pieces P f (x ∷ xs) all =
    All-cons (λ y. All P (f y)) x xs (left P (f x) (flat_map f xs) all) (pieces P f xs (right P (f x) (flat_map f xs) all))

unmapped : {X Y : Type 0} (P : Y → Type 0) (f : X → Y) (xs : List X) → All P (map f xs) → All (λ x. P (f x)) xs
unmapped P f [] all = All-nil _
unmapped P f (x ∷ xs) all =
    All-cons (λ y. P (f y)) x xs (All-head P (f x) (map f xs) all) (unmapped P f xs (All-tail P (f x) (map f xs) all))

absent_past : {A : Type 0} (list : List A) (i : ℕ) → slice_get list i ≡ None → length list ≤ i
absent_past [] i e = omega arith
absent_past (a ∷ list) zero e = cc
absent_past (a ∷ list) (suc i) e = let behind = absent_past list i e in omega (arith, behind)

-- ---- times

-- those of the clips
abbrev clip_times : PlainProject → List Time
clip_times project = map (λ (clip : ClipUse). clip.frame) project.clips

-- a scale that may be written over the base
pub record IsScaled (base : ℕ) (time : Time) : Type 0 where
  pub scaled : 1 ≤ time.scale
  pub divides : time.scale ∣ base

written : (base : ℕ) (times : List Time) → All (IsScaled base) times → All IsNear times → All (IsWritten base) times
written base times scaled near k d within =
    record { scaled = (scaled k d within).scaled; divides = (scaled k d within).divides; near = near k d within }

timed : (base : ℕ) (keys : List Keyframe) → All (IsWritten base) (key_times keys) → All (IsTimed base) keys
timed base keys all =
    All-weaker (λ (key : Keyframe). IsWritten base key.time) (IsTimed base)
    (λ key h. record { scaled = h.scaled; divides = h.divides; near = h.near })
    keys
    (unmapped (IsWritten base) (λ (key : Keyframe). key.time) keys all)

keys_ready : (base : ℕ) (least most : ℤ) (keys : List Keyframe) → 1 ≤ base → IsKeyCount keys → All (IsWritten base) (key_times keys) → IsTrue (rises keys) → All (λ (key : Keyframe). IsBetween least most key.value) keys → AreReady base least most keys
keys_ready base least most keys some count times rising within =
    let all = timed base keys times in
    record { some = count.some; few = count.few; timed = all; rising = (both_rise base keys some all).0 rising; within = within }

out_written : (base : ℕ) (out : Option Time) → All (IsWritten base) (option_to_list out) → MayBeWritten base out
out_written base None all = tt
out_written base (Some time) all = All-head (IsWritten base) time [] all

-- streams that the parameters may have
params_ready : (base : ℕ) (params : List ParamSchema) (streams : List (List Keyframe)) → 1 ≤ base → are_in_range params streams ≡ true → All IsKeyCount streams → All (λ keys. All (IsWritten base) (key_times keys)) streams → All (λ keys. IsTrue (rises keys)) streams → AreReadyParams base params streams
params_ready base [] [] some within counts times rising = tt
params_ready base [] (keys ∷ rest) some within counts times rising = cc
params_ready base (param ∷ params) [] some within counts times rising = cc
params_ready base (param ∷ params) (keys ∷ rest) some within counts times rising =
    let both = and_parts (all_between param.least param.most keys) (are_in_range params rest) within in (
      keys_ready base param.least param.most keys some (All-head IsKeyCount keys rest counts) (All-head (λ ks. All (IsWritten base) (key_times ks)) keys rest times)
          (All-head (λ ks. IsTrue (rises ks)) keys rest rising) (all_within param.least param.most keys both.0),
      params_ready base params rest some both.1 (All-tail IsKeyCount keys rest counts) (All-tail (λ ks. All (IsWritten base) (key_times ks)) keys rest times)
          (All-tail (λ ks. IsTrue (rises ks)) keys rest rising),
    )

some_sequence : (rule : SeqRule) (bytes : Option (List ℕ)) → is_sequence rule bytes ≡ true → IsSome bytes
some_sequence rule None e = cc
some_sequence rule (Some bytes) e = refl

fx_ready : (schemas : List EffectSchema) (count base : ℕ) (fx : PlainFx) → 1 ≤ base → IsFormedFx fx → All (IsWritten base) (fx_times fx) → All (λ keys. IsTrue (rises keys)) fx.params → KeepsFx schemas count fx → IsReadyFx schemas base fx
fx_ready schemas count base fx some formed times rising keeps =
    let params = and_parts _ _ keeps.params in
    let known = and_parts _ _ params.0 in
    record {
      known = ltb-true fx.kind (length schemas) known.0;
      params = params_ready base (schema_of schemas fx.kind).params fx.params some params.1 formed.params (pieces (IsWritten base) key_times fx.params times) rising;
      sequence = some_sequence (schema_of schemas fx.kind).sequence fx.sequence keeps.sequence;
    }

layer_ready : (schemas : List EffectSchema) (count base : ℕ) (layer : PlainLayer) → 1 ≤ base → IsFormedLayer layer → IsSome layer.mode → IsSome layer.matte → All (IsScaled base) (layer_times layer) → All IsNear (layer_times layer) → KeepsStreams layer → KeepsRanges layer → All (KeepsFx schemas count) layer.effects → IsReadyLayer schemas base layer
layer_ready schemas count base layer some formed mode matte scaled near rising ranges effects =
    let P : Time → Type 0 = IsWritten base in
    let points : List Time = layer.start ∷ layer.in_point ∷ option_to_list layer.out_point in
    let o : List Time = key_times layer.opacity in
    let x : List Time = key_times layer.x in
    let y : List Time = key_times layer.y in
    let e : List Time = flat_map fx_times layer.effects in
    let each = written base (layer_times layer) scaled near in
    let all = left P (points ++ o ++ x ++ y) e each in
    let to_x = left P (points ++ o ++ x) y all in
    let to_o = left P (points ++ o) x to_x in
    let first = left P points o to_o in
    let second = All-tail P layer.start (layer.in_point ∷ option_to_list layer.out_point) first in
    record {
      start = All-head P layer.start (layer.in_point ∷ option_to_list layer.out_point) first;
      in_point = All-head P layer.in_point (option_to_list layer.out_point) second;
      out_point = out_written base layer.out_point (All-tail P layer.in_point (option_to_list layer.out_point) second);
      mode = mode;
      matte = matte;
      opacity = keys_ready base (pos 0) full_opacity layer.opacity some formed.opacity (right P points o to_o) rising.opacity_rises ranges.opacity;
      x = keys_ready base least_position greatest_position layer.x some formed.x (right P (points ++ o) x to_x) rising.x_rises ranges.x;
      y = keys_ready base least_position greatest_position layer.y some formed.y (right P (points ++ o ++ x) y all) rising.y_rises ranges.y;
      few_effects = formed.few_effects;
      effects = λ k d within.
          fx_ready schemas count base (slice_index_or layer.effects k d) some (formed.effects k d within)
          (pieces P fx_times layer.effects (right P (points ++ o ++ x ++ y) e each) k d within)
          (rising.effects_rise k d within) (effects k d within);
    }

comp_ready : (schemas : List EffectSchema) (base depth clips comps : ℕ) (comp : PlainComp) → 1 ≤ base → IsFormedComp comp → All (IsScaled base) (comp_times comp) → KeepsComp schemas depth clips comps comp → IsReadyComp schemas base comp
comp_ready schemas base depth clips comps comp some formed scaled keeps =
    let frame = All-head (IsScaled base) comp.frame (flat_map layer_times comp.layers) scaled in
    let rest = pieces (IsScaled base) layer_times comp.layers (All-tail (IsScaled base) comp.frame (flat_map layer_times comp.layers) scaled) in
    record {
      frame = record { scaled = frame.scaled; divides = frame.divides; near = keeps.frame_near };
      few_layers = formed.few_layers;
      layers = λ k d within.
          layer_ready schemas (length comp.layers) base (slice_index_or comp.layers k d) some (formed.layers k d within) (keeps.modes k d within) (keeps.mattes k d within) (rest k d within) (keeps.layers_near k d within) (keeps.rising k d within) (keeps.ranges k d within) (keeps.effects k d within);
    }

all_scaled : (project : PlainProject) (base : ℕ) → IsFormed project → base ≡ common_base (times_of project) → All (IsScaled base) (times_of project)
all_scaled project base formed is k d within = record {
  scaled = formed.scaled k d within;
  divides = rw is ((is_base (times_of project) formed.scaled).multiple.common k d within);
}

some_base : (project : PlainProject) (base : ℕ) → IsFormed project → base ≡ common_base (times_of project) → 1 ≤ base
some_base project base formed is = rw is ((is_base (times_of project) formed.scaled).positive)

pub comps_ready : (schemas : List EffectSchema) (project : PlainProject) (base : ℕ) → IsFormed project → breach_of schemas project ≡ None → base ≡ common_base (times_of project) → All (IsReadyComp schemas base) project.comps
comps_ready schemas project base formed kept is k d within =
    comp_ready schemas base project.depth (length project.clips) (length project.comps) (slice_index_or project.comps k d) (some_base project base formed is) (formed.comps k d within)
    (pieces (IsScaled base) comp_times project.comps (right (IsScaled base) (clip_times project) (flat_map comp_times project.comps) (all_scaled project base formed is)) k d within)
    (comps_keep schemas project kept k d within)

-- ---- clips

-- no scale of a clip's frame is 0
pub scales_of_clips : (project : PlainProject) → IsFormed project → All (λ (clip : ClipUse). 1 ≤ clip.frame.scale) project.clips
scales_of_clips project formed =
    unmapped (λ (time : Time). 1 ≤ time.scale) (λ (clip : ClipUse). clip.frame) project.clips
    (left (λ (time : Time). 1 ≤ time.scale) (clip_times project) (flat_map comp_times project.comps) formed.scaled)

-- each clip passes a test that breaks no rule
clips_pass : (project : PlainProject) (test : ClipUse → Bool) → not (list_all test project.clips) ≡ false → All (λ (clip : ClipUse). test clip ≡ true) project.clips
clips_pass project test e = AllPass-from_list_all test project.clips (not-false (list_all test project.clips) e)

some_depth : (depth : ℕ) → is_bit_depth depth ≡ true → (depth ≡ 8) ⊎ (depth ≡ 16)
some_depth depth e =
    elim (or_either (eqb depth 8) (eqb depth 16) e) [ inl eight ↦ inl (eqb-true depth 8 eight) | inr sixteen ↦ inr (eqb-true depth 16 sixteen) ]

some_value : (value : ℤ) → int_le (pos 1) value ≡ true → pos 1 ≤ℤ value
some_value value e = omega (arith, ints, e)

clip_sound : (base : ℕ) (clip : ClipUse) → IsScaled base clip.frame → IsPictureSize clip.width clip.height → is_bit_depth clip.depth ≡ true → is_among 1 most_frames clip.frames ≡ true → int_le (pos 1) clip.frame.value ≡ true → IsNear clip.frame → IsSoundClip base clip
clip_sound base clip scaled size depth frames value close =
    let some = among 1 most_frames clip.frames frames in
    record {
      readable = record {
        width = (size.some_width, size.width_bound);
        height = (size.some_height, size.height_bound);
        area = size.area_bound;
        depth = some_depth clip.depth depth;
        frames = some;
        value = some_value clip.frame.value value;
        scale = scaled.scaled;
      };
      frame = record { scaled = scaled.scaled; divides = scaled.divides; near = close };
    }

clips_sound : (schemas : List EffectSchema) (project : PlainProject) (base : ℕ) → IsFormed project → breach_of schemas project ≡ None → base ≡ common_base (times_of project) → All (IsSoundClip base) project.clips
clips_sound schemas project base formed kept is k d within =
    let scaled = unmapped (IsScaled base) (λ (clip : ClipUse). clip.frame) project.clips (left (IsScaled base) (clip_times project) (flat_map comp_times project.comps) (all_scaled project base formed is)) in
    let here : ClipUse = slice_index_or project.clips k d in
    clip_sound base here (scaled k d within)
    (picture_size here.width here.height (clips_pass project (λ clip. is_size clip.width clip.height) (outside_passed schemas project kept Size) k d within))
    (clips_pass project (λ clip. is_bit_depth clip.depth) (outside_passed schemas project kept ClipDepth) k d within)
    (clips_pass project (λ clip. is_among 1 most_frames clip.frames) (outside_passed schemas project kept Frames) k d within)
    (clips_pass project (λ clip. int_le (pos 1) clip.frame.value) (outside_passed schemas project kept FrameValue) k d within)
    (near here.frame (clips_pass project (λ clip. is_near clip.frame) (outside_passed schemas project kept Near) k d within))

-- ---- nesting

-- no composition reaches itself where rule 30 is kept
acyclic : (schemas : List EffectSchema) (project : PlainProject) → breach_of schemas project ≡ None → IsAcyclic project
acyclic schemas project kept i = by (slice_get project.comps i) refl
  where
    unbroken : (other : Place) → ¬ IsBrokenAt schemas project Nesting other
    unbroken = place_first.none schemas project Nesting ((rules_kept schemas project).0 kept Nesting)

    by : (o : Option PlainComp) → slice_get project.comps i ≡ o → reaches project i i ≡ false
    by None e = reach_absent (length project.comps) project i i (absent_past project.comps i e)
    by (Some comp) e = false_from_ne_true (reaches project i i) (λ loop. unbroken (place.Comp i) (comp, e, loop))

-- ---- what was made

stream_made : (base : ℕ) (least most : ℤ) (curve : Curve) → curve.base ≡ base → AreReady base least most curve.keys → IsMadeWith base least most curve
stream_made base least most curve is ready = record { base_is = is; some = ready.some; within = ready.within }

-- some keyframes for each parameter
some_keys : (base : ℕ) (params : List ParamSchema) (streams : List (List Keyframe)) → AreReadyParams base params streams → All (λ keys. 1 ≤ length keys) streams
some_keys base [] [] ready = All-nil _
some_keys base [] (keys ∷ rest) ready = absurd ready
some_keys base (param ∷ params) [] ready = absurd ready
some_keys base (param ∷ params) (keys ∷ rest) ready = All-cons (λ ks. 1 ≤ length ks) keys rest ready.0.some (some_keys base params rest ready.1)

fx_made : (schemas : List EffectSchema) (base : ℕ) (fx : FxUse) → IsReadyFx schemas base (plain_fx fx) → IsBasedFx base fx → IsMadeFx base fx
fx_made schemas base fx ready based = record {
  base_is = based;
  some = unmapped (λ (keys : List Keyframe). 1 ≤ length keys) (λ (curve : Curve). curve.keys) fx.params (some_keys base (schema_of schemas fx.kind).params (plain_fx fx).params ready.params);
}

layer_sound : (schemas : List EffectSchema) (depth base clips comps : ℕ) (layer : Layer) → IsSoundItem (most_of depth) clips comps layer.source → IsReadyLayer schemas base (plain_layer layer) → IsBasedLayer base layer → IsSoundLayer depth base clips comps layer
layer_sound schemas depth base clips comps layer source ready based = record {
  source = source;
  start = ready.start;
  in_point = ready.in_point;
  out_point = ready.out_point;
  streams = record {
    opacity = stream_made base (pos 0) full_opacity layer.opacity based.opacity ready.opacity;
    x = stream_made base least_position greatest_position layer.x based.x ready.x;
    y = stream_made base least_position greatest_position layer.y based.y ready.y;
    effects = λ k d within.
        fx_made schemas base (slice_index_or layer.effects k d) (unmapped (IsReadyFx schemas base) plain_fx layer.effects ready.effects k d within) (based.effects k d within);
  };
}

comp_sound : (schemas : List EffectSchema) (depth base clips comps : ℕ) (comp : Comp) → KeepsComp schemas depth clips comps (plain_comp comp) → IsReadyComp schemas base (plain_comp comp) → IsBasedComp base comp → IsSoundComp depth base clips comps comp
comp_sound schemas depth base clips comps comp keeps ready based =
    let sources = unmapped (λ (layer : PlainLayer). IsSoundItem (most_of depth) clips comps layer.source) plain_layer comp.layers keeps.sources in
    let layers = unmapped (IsReadyLayer schemas base) plain_layer comp.layers ready.layers in
    record {
      size = keeps.size;
      some_frame = keeps.some_frame;
      few_frames = keeps.few_frames;
      frame = ready.frame;
      some_time = keeps.some_time;
      layers = λ k d within. layer_sound schemas depth base clips comps (slice_index_or comp.layers k d) (sources k d within) (layers k d within) (based k d within);
    }

pub project_sound : (schemas : List EffectSchema) (project : Project) → IsFormed (plain_of project) → breach_of schemas (plain_of project) ≡ None → project.base.ticks ≡ common_base (times_of (plain_of project)) → project.base.ticks ≤ greatest_base → All (IsBasedComp project.base.ticks) project.comps → IsSound project
project_sound schemas project formed kept is small made =
    let plain : PlainProject = plain_of project in
    let base : ℕ = project.base.ticks in
    let clips : ℕ = length project.clips in
    let comps : ℕ = length project.comps in
    let keeps : All (λ (comp : Comp). KeepsComp schemas project.depth clips comps (plain_comp comp)) project.comps =
    subst (λ (n : ℕ). All (λ (comp : Comp). KeepsComp schemas project.depth clips n (plain_comp comp)) project.comps) (length-map project.comps plain_comp)
    (unmapped (KeepsComp schemas project.depth clips (length plain.comps)) plain_comp project.comps (comps_keep schemas plain kept)) in
    let ready = unmapped (IsReadyComp schemas base) plain_comp project.comps (comps_ready schemas plain base formed kept is) in
    let root = ltb-true project.root (length plain.comps) (not-false _ (outside_passed schemas plain kept Root)) in
    record {
      base = is;
      some_base = some_base plain base formed is;
      base_bound = small;
      root = omega (arith, root, length-map project.comps plain_comp);
      clips = clips_sound schemas plain base formed kept is;
      nesting = acyclic schemas plain kept;
      comps = λ k d within. comp_sound schemas project.depth base clips comps (slice_index_or project.comps k d) (keeps k d within) (ready k d within) (made k d within);
    }

-- ---- what the uses of effects are

all_below : (count : ℕ) (indices : List ℕ) → list_all (λ index. nat_lt index count) indices ≡ true → All (λ index. index < count) indices
all_below count indices e =
    All-weaker (λ index. nat_lt index count ≡ true) (λ index. index < count) (λ index h. ltb-true index count h) indices
    (AllPass-from_list_all (λ index. nat_lt index count) indices e)

in_range : (params : List ParamSchema) (streams : List (List Keyframe)) → are_in_range params streams ≡ true → All IsKeyCount streams → AreInRange params streams
in_range [] [] within counts = tt
in_range [] (keys ∷ rest) within counts = cc
in_range (param ∷ params) [] within counts = cc
in_range (param ∷ params) (keys ∷ rest) within counts =
    let both = and_parts (all_between param.least param.most keys) (are_in_range params rest) within in
    ((All-head IsKeyCount keys rest counts).some, all_within param.least param.most keys both.0, in_range params rest both.1 (All-tail IsKeyCount keys rest counts))

fx_use : (schemas : List EffectSchema) (base count : ℕ) (fx : FxUse) → IsFormedFx (plain_fx fx) → KeepsFx schemas count (plain_fx fx) → IsBasedFx base fx → IsUse schemas base count fx
fx_use schemas base count fx formed keeps based =
    let params = and_parts _ _ keeps.params in
    let known = and_parts _ _ params.0 in
    let layers = and_parts _ _ keeps.layers in
    record {
      fits = record {
        known = ltb-true fx.kind (length schemas) known.0;
        in_range = in_range (schema_of schemas fx.kind).params (plain_fx fx).params params.1 formed.params;
        layers_are = eqb-true _ _ layers.0;
        sequence_fits = (takes_is_fits (schema_of schemas fx.kind).sequence (length fx.sequence)).0 keeps.sequence;
      };
      threaded = known.1;
      based = based;
      there = all_below count fx.layers layers.1;
    }

layer_uses : (schemas : List EffectSchema) (base count : ℕ) (layer : Layer) → IsFormedLayer (plain_layer layer) → All (KeepsFx schemas count) (plain_layer layer).effects → IsBasedLayer base layer → All (IsUse schemas base count) layer.effects
layer_uses schemas base count layer formed keeps based k d within =
    fx_use schemas base count (slice_index_or layer.effects k d)
    (unmapped IsFormedFx plain_fx layer.effects formed.effects k d within)
    (unmapped (KeepsFx schemas count) plain_fx layer.effects keeps k d within)
    (based.effects k d within)

comp_uses : (schemas : List EffectSchema) (base depth clips comps : ℕ) (comp : Comp) → IsFormedComp (plain_comp comp) → KeepsComp schemas depth clips comps (plain_comp comp) → IsBasedComp base comp → All (λ (layer : Layer). All (IsUse schemas base (length comp.layers)) layer.effects) comp.layers
comp_uses schemas base depth clips comps comp formed keeps based k d within =
    layer_uses schemas base (length comp.layers) (slice_index_or comp.layers k d)
    (unmapped IsFormedLayer plain_layer comp.layers formed.layers k d within)
    (subst (λ (n : ℕ). All (KeepsFx schemas n) (plain_layer (slice_index_or comp.layers k d)).effects) (length-map comp.layers plain_layer)
    (unmapped (λ (layer : PlainLayer). All (KeepsFx schemas (length (plain_comp comp).layers)) layer.effects) plain_layer comp.layers keeps.effects k d within))
    (based k d within)

-- the uses of a project that keeps the rules fit the schemas
pub uses_fit : (schemas : List EffectSchema) (project : Project) → IsFormed (plain_of project) → breach_of schemas (plain_of project) ≡ None → All (IsBasedComp project.base.ticks) project.comps → AreUses schemas project
uses_fit schemas project formed kept based k d within =
    comp_uses schemas project.base.ticks project.depth (length project.clips) (length (plain_of project).comps) (slice_index_or project.comps k d)
    (unmapped IsFormedComp plain_comp project.comps formed.comps k d within)
    (unmapped (KeepsComp schemas project.depth (length project.clips) (length (plain_of project).comps)) plain_comp project.comps (comps_keep schemas (plain_of project) kept) k d within)
    (based k d within)

-- the same, of the parts that it was made of
pub fits_of : (schemas : List EffectSchema) (project : Project) (plain : PlainProject) (base : TimeBase) → IsFormed plain → breach_of schemas plain ≡ None → plain_of project ≡ plain → project.base ≡ base → All (IsBasedComp base.ticks) project.comps → AreUses schemas project
fits_of schemas project plain base formed kept same based made =
    let ticks : project.base.ticks ≡ base.ticks = ap (λ (b : TimeBase). b.ticks) based in
    uses_fit schemas project (subst IsFormed (sym same) formed) (subst (λ (p : PlainProject). breach_of schemas p ≡ None) (sym same) kept)
    (subst (λ (n : ℕ). All (IsBasedComp n) project.comps) (sym ticks) made)

-- a project that was made of parts that keep the rules is sound
pub sound_of : (schemas : List EffectSchema) (project : Project) (plain : PlainProject) (base : TimeBase) → IsFormed plain → breach_of schemas plain ≡ None → base.ticks ≡ common_base (times_of plain) → base.ticks ≤ greatest_base → plain_of project ≡ plain → project.base ≡ base → All (IsBasedComp base.ticks) project.comps → IsSound project
sound_of schemas project plain base formed kept is small same based made =
    let ticks : project.base.ticks ≡ base.ticks = ap (λ (b : TimeBase). b.ticks) based in
    project_sound schemas project
    (subst IsFormed (sym same) formed)
    (subst (λ (p : PlainProject). breach_of schemas p ≡ None) (sym same) kept)
    (ticks ∙ is ∙ ap (λ (p : PlainProject). common_base (times_of p)) (sym same))
    (omega (arith, ticks, small))
    (subst (λ (n : ℕ). All (IsBasedComp n) project.comps) (sym ticks) made)
