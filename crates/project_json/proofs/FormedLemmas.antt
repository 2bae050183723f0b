-- The plain parts of a value whose form breaks no rule have the counts that a project may have.
use Rattle.std.proofs.Common.{◌≡◌, ℕ, ◌+◌, ◌≤◌, ◌&&◌, ◌||◌, ◌==◌, ℤ, pos, negsuc, Bool, true, false, not, nat_lt, IsTrue, if◌then◌else◌, Option, Some, None, option_map, option_and_then, unwrap_or, option_to_list, List, [], ◌∷◌, ◌++◌, length, get_or, map, flat_map, sum_by, All, codes, lit≤, lit<, refl, sym, ap, subst, ◌∙◌, arith}
use Rattle.std.proofs.lemmas.Bool.Decides.{nat_tests}
use Rattle.std.proofs.lemmas.List.{length-map}
use Rattle.std.proofs.lemmas.List.Elements.{All-nil, All-cons, All-map, All-append}
use Rattle.std.proofs.lemmas.List.Sums.{sum_by-cons}
use Rattle.std.specs.List.{list_all, list_any}
use Rattle.serde_json.specs.Data.{Data}
use Rattle.serde_json.specs.Find.{get}
use Rattle.rational_time.specs.declared.time.Time.{Time}
use Rattle.project_model.specs.Bounds.{is_bit_depth, is_among, is_between, most_clips, most_layers_in_all, most_effects, most_keys, full_opacity}
use Rattle.project_model.specs.Form.{IsKeyCount, IsFormedFx, IsFormedLayer, IsFormedComp, IsFormed, plain_layer_count}
use Rattle.project_model.specs.Times.{key_times, fx_times, layer_times, comp_times}
use Rattle.project_model.specs.declared.effect.EffectSchema.{EffectSchema}
use Rattle.project_model.specs.declared.place.Place.{Place}
use Rattle.project_model.specs.Constant.{zero_time, constant_key}
use Rattle.project_json.specs.Parts.{items_in, is_number, is_this, small, is_there, where_there, is_list_of_objects, has_exactly, is_the_number, u64_in, whole_in, count_in}
use Rattle.project_json.specs.Reads.{time_from, time_from_items, time_in, key_from_items, key_in, keys_in}
use Rattle.project_json.specs.PlainData.{items_of, plain_clip_of, plain_fx_of, plain_layer_of, plain_comp_of, plain_of_data}
use Rattle.project_json.specs.FormRules.{breaks_layer, breaks_effect, clip_names, are_clips, place_of, form_rules, form_breach}
use Rattle.project_json.specs.Shapes.{is_stream, is_keyframe}
use Rattle.project_json.specs.EffectForm.{are_effects, is_effect, has_streams, effects_of}
use Rattle.project_json.specs.declared.form.FormRule.{FormRule}
use Rattle.project_json.specs.declared.form.FormRule.TheVariants.{Whole, Depth, Clips, Comps, Layers, LayerCount, Effects, Streams}
use Rattle.project_json.proofs.PlaceLemmas.{within, both, item_count, comp_count, layer_count, IsKept, kept_from}
use Rattle.project_json.proofs.OrderLemmas.{broken, first_none}

-- ---- each rule for itself

pub each_none : (p : FormRule → Option Place) (rs : List FormRule) → broken p rs ≡ None → All (λ r. p r ≡ None) rs
each_none p [] e = All-nil (λ r. p r ≡ None)
each_none p (r ∷ rs) e =
    let parts = first_none r p rs e in
    All-cons (λ r. p r ≡ None) r rs parts.0 (each_none p rs parts.1)

-- ---- times

abbrev Scaled : Time → Type 0
Scaled time = 1 ≤ time.scale

abbrev ScaledIf : Option Time → Type 0
ScaledIf None = Unit {0}
ScaledIf (Some time) = Scaled time

where_tested : (test : Bool) (time : Time) → (test ≡ true → Scaled time) → ScaledIf (if test then Some time else None)
where_tested true time h = h refl
where_tested false time h = tt

scaled-from : (value : Option ℤ) (scale : Option ℕ) → ScaledIf (time_from value scale)
scaled-from None scale = tt
scaled-from (Some value) None = tt
scaled-from (Some value) (Some scale) =
    where_tested (is_between (negsuc 2147483647) (pos 2147483647) value && is_among 1 4294967295 scale) (record { value = value; scale = scale })
    (λ h. (within 1 4294967295 scale (both (is_between (negsuc 2147483647) (pos 2147483647) value) (is_among 1 4294967295 scale) h).1).above)

scaled-items : (ds : List Data) → ScaledIf (time_from_items ds)
scaled-items [] = tt
scaled-items (a ∷ []) = tt
scaled-items (a ∷ b ∷ []) = scaled-from (whole_in a) (count_in b)
scaled-items (a ∷ b ∷ k ∷ ds) = tt

or_zero : (o : Option Time) → ScaledIf o → Scaled (unwrap_or o zero_time)
or_zero None h = lit≤ tt
or_zero (Some time) h = h

scaled-time_in : (d : Data) → ScaledIf (time_in d)
scaled-time_in d = scaled-items (items_in d)

scaled-time : (o : Option Data) → Scaled (unwrap_or (option_and_then time_in o) zero_time)
scaled-time None = lit≤ tt
scaled-time (Some d) = or_zero (time_in d) (scaled-time_in d)

scaled-end : (o : Option Data) → All Scaled (option_to_list (option_and_then time_in o))
scaled-end None = All-nil Scaled
scaled-end (Some d) = listed (time_in d) (scaled-time_in d)
  where
    listed : (o : Option Time) → ScaledIf o → All Scaled (option_to_list o)
    listed None h = All-nil Scaled
    listed (Some time) h = All-cons Scaled time [] h (All-nil Scaled)

scaled-key : (ds : List Data) → Scaled (key_from_items ds).time
scaled-key [] = lit≤ tt
scaled-key (a ∷ []) = lit≤ tt
scaled-key (a ∷ b ∷ []) = lit≤ tt
scaled-key (a ∷ b ∷ k ∷ []) = or_zero (time_in b) (scaled-time_in b)
scaled-key (a ∷ b ∷ k ∷ d ∷ ds) = lit≤ tt

scaled-keys : (ds : List Data) → All Scaled (key_times (map key_in ds))
scaled-keys [] = All-nil Scaled
scaled-keys (d ∷ ds) = All-cons Scaled (key_in d).time (key_times (map key_in ds)) (scaled-key (items_in d)) (scaled-keys ds)

scaled-one : (value : ℤ) → All Scaled (key_times (constant_key value ∷ []))
scaled-one value = All-cons Scaled zero_time [] (lit≤ tt) (All-nil Scaled)

scaled-keys_in : (d : Data) → All Scaled (key_times (keys_in d))
scaled-keys_in d = by_kind (is_number d) (unwrap_or (whole_in d) (pos 0)) (items_in d)
  where
    by_kind : (number : Bool) (value : ℤ) (ds : List Data) → All Scaled (key_times (if number then constant_key value ∷ [] else map key_in ds))
    by_kind true value ds = scaled-one value
    by_kind false value ds = scaled-keys ds

scaled-stream : (value : ℤ) (o : Option Data) → All Scaled (key_times (unwrap_or (option_map keys_in o) (constant_key value ∷ [])))
scaled-stream value None = scaled-one value
scaled-stream value (Some d) = scaled-keys_in d

scaled-params : (ds : List Data) → All Scaled (flat_map key_times (map keys_in ds))
scaled-params [] = All-nil Scaled
scaled-params (d ∷ ds) =
    All-append Scaled (key_times (keys_in d)) (flat_map key_times (map keys_in ds)) (scaled-keys_in d) (scaled-params ds)

scaled-effects : (schemas : List EffectSchema) (ds : List Data) → All Scaled (flat_map fx_times (map (plain_fx_of schemas) ds))
scaled-effects schemas [] = All-nil Scaled
scaled-effects schemas (d ∷ ds) =
    All-append Scaled (fx_times (plain_fx_of schemas d)) (flat_map fx_times (map (plain_fx_of schemas) ds))
    (scaled-params (items_of (codes "params") d)) (scaled-effects schemas ds)

scaled-layer : (schemas : List EffectSchema) (d : Data) → All Scaled (layer_times (plain_layer_of schemas d))
scaled-layer schemas d =
    let layer = plain_layer_of schemas d in
    let end = option_to_list layer.out_point in
    let opacity : All Scaled (end ++ key_times layer.opacity) =
    All-append Scaled end (key_times layer.opacity) (scaled-end (get (codes "out") d)) (scaled-stream full_opacity (get (codes "opacity") d)) in
    let x : All Scaled (end ++ key_times layer.opacity ++ key_times layer.x) =
    All-append Scaled (end ++ key_times layer.opacity) (key_times layer.x) opacity (scaled-stream (pos 0) (get (codes "x") d)) in
    let y : All Scaled (end ++ key_times layer.opacity ++ key_times layer.x ++ key_times layer.y) =
    All-append Scaled (end ++ key_times layer.opacity ++ key_times layer.x) (key_times layer.y) x (scaled-stream (pos 0) (get (codes "y") d)) in
    let own = end ++ key_times layer.opacity ++ key_times layer.x ++ key_times layer.y in
    let all : All Scaled (own ++ flat_map fx_times layer.effects) =
    All-append Scaled own (flat_map fx_times layer.effects) y (scaled-effects schemas (items_of (codes "effects") d)) in
    let streams = own ++ flat_map fx_times layer.effects in
    All-cons Scaled layer.start (layer.in_point ∷ streams) (scaled-time (get (codes "start") d))
    (All-cons Scaled layer.in_point streams (scaled-time (get (codes "in") d)) all)

scaled-layers : (schemas : List EffectSchema) (ds : List Data) → All Scaled (flat_map layer_times (map (plain_layer_of schemas) ds))
scaled-layers schemas [] = All-nil Scaled
scaled-layers schemas (d ∷ ds) =
    All-append Scaled (layer_times (plain_layer_of schemas d)) (flat_map layer_times (map (plain_layer_of schemas) ds))
    (scaled-layer schemas d) (scaled-layers schemas ds)

scaled-comp : (schemas : List EffectSchema) (d : Data) → All Scaled (comp_times (plain_comp_of schemas d))
scaled-comp schemas d =
    All-cons Scaled (plain_comp_of schemas d).frame _ (scaled-time (get (codes "frame") d)) (scaled-layers schemas (items_of (codes "layers") d))

scaled-comps : (schemas : List EffectSchema) (ds : List Data) → All Scaled (flat_map comp_times (map (plain_comp_of schemas) ds))
scaled-comps schemas [] = All-nil Scaled
scaled-comps schemas (d ∷ ds) =
    All-append Scaled (comp_times (plain_comp_of schemas d)) (flat_map comp_times (map (plain_comp_of schemas) ds))
    (scaled-comp schemas d) (scaled-comps schemas ds)

scaled-clips : (ds : List Data) → All Scaled (map (λ clip. clip.frame) (map plain_clip_of ds))
scaled-clips [] = All-nil Scaled
scaled-clips (d ∷ ds) =
    All-cons Scaled (plain_clip_of d).frame (map (λ clip. clip.frame) (map plain_clip_of ds)) (scaled-time (get (codes "frame") d)) (scaled-clips ds)

-- ---- streams

one_key : (value : ℤ) → IsKeyCount (constant_key value ∷ [])
one_key value = record { some = lit≤ tt; few = lit≤ tt }

key_count : (d : Data) → is_stream d ≡ true → IsKeyCount (keys_in d)
key_count d e = by_kind (is_number d) (unwrap_or (whole_in d) (pos 0)) (items_in d) e
  where
    by_kind : (number : Bool) (value : ℤ) (ds : List Data) → (number || (is_among 1 most_keys (length ds) && list_all is_keyframe ds)) ≡ true
        → IsKeyCount (if number then constant_key value ∷ [] else map key_in ds)
    by_kind true value ds e = one_key value
    by_kind false value ds e =
        let among = within 1 most_keys (length ds) (both (is_among 1 most_keys (length ds)) (list_all is_keyframe ds) e).0 in
        record { some = rw (length-map ds key_in) among.above; few = rw (length-map ds key_in) among.below }

stream_count : (value : ℤ) (o : Option Data) → where_there is_stream o ≡ true → IsKeyCount (unwrap_or (option_map keys_in o) (constant_key value ∷ []))
stream_count value None e = one_key value
stream_count value (Some d) e = key_count d e

not_false : (b : Bool) → not b ≡ false → b ≡ true
not_false true e = refl
not_false false e = absurd cc

-- ---- effects

neither : (a b : Bool) → (a || b) ≡ false → (a ≡ false) × (b ≡ false)
neither true b e = absurd cc
neither false b e = (refl, e)

none_of : (test : Data → Bool) (ds : List Data) → list_any test ds ≡ false → All (λ d. test d ≡ false) ds
none_of test [] e = All-nil (λ d. test d ≡ false)
none_of test (d ∷ ds) e =
    let parts = neither (test d) (list_any test ds) e in
    All-cons (λ d. test d ≡ false) d ds parts.0 (none_of test ds parts.1)

each_count : (ds : List Data) → list_all is_stream ds ≡ true → All IsKeyCount (map keys_in ds)
each_count [] e = All-nil IsKeyCount
each_count (d ∷ ds) e =
    let parts = both (is_stream d) (list_all is_stream ds) e in
    All-cons IsKeyCount (keys_in d) (map keys_in ds) (key_count d parts.0) (each_count ds parts.1)

formed_fx : (schemas : List EffectSchema) (d : Data) → breaks_effect schemas Streams d ≡ false → IsFormedFx (plain_fx_of schemas d)
formed_fx schemas d e = record { params = each_count (items_of (codes "params") d) (not_false (has_streams d) e) }

formed_effects : (schemas : List EffectSchema) (ds : List Data) → All (λ d. breaks_effect schemas Streams d ≡ false) ds
    → All IsFormedFx (map (plain_fx_of schemas) ds)
formed_effects schemas ds all =
    All-map IsFormedFx (plain_fx_of schemas) ds (λ k a lt. formed_fx schemas (get_or ds k a) (all k a lt))

effect_count : (o : Option Data) → where_there are_effects o ≡ true → length (unwrap_or (option_map items_in o) []) ≤ most_effects
effect_count None e = lit≤ tt
effect_count (Some d) e =
    (item_count 0 most_effects d (both (is_list_of_objects 0 most_effects d) (list_all is_effect (items_in d)) e).0).below

formed_layer : (schemas : List EffectSchema) (d : Data) → breaks_layer schemas Effects d ≡ false → breaks_layer schemas Streams d ≡ false
    → IsFormedLayer (plain_layer_of schemas d)
formed_layer schemas d effects streams =
    let test = λ (o : Option Data). where_there is_stream o in
    let opacity = get (codes "opacity") d in
    let x = get (codes "x") d in
    let y = get (codes "y") d in
    let listed = get (codes "effects") d in
    let fxs = effects_of d in
    let counted = neither (not (where_there are_effects listed)) (list_any (breaks_effect schemas Effects) fxs) effects in
    let parts = neither (not (test opacity && (test x && (test y && true)))) (list_any (breaks_effect schemas Streams) fxs) streams in
    let all = not_false (test opacity && (test x && (test y && true))) parts.0 in
    let first = both (test opacity) (test x && (test y && true)) all in
    let second = both (test x) (test y && true) first.1 in
    let third = both (test y) true second.1 in
    record {
      opacity = stream_count full_opacity opacity first.0;
      x = stream_count (pos 0) x second.0;
      y = stream_count (pos 0) y third.0;
      few_effects = rw (length-map fxs (plain_fx_of schemas)) (effect_count listed (not_false (where_there are_effects listed) counted.0));
      effects = formed_effects schemas fxs (none_of (breaks_effect schemas Streams) fxs parts.1);
    }

-- ---- clips

clip_count : (o : Option Data) → where_there are_clips o ≡ true → length (unwrap_or (option_map items_in o) []) ≤ most_clips
clip_count None e = lit≤ tt
clip_count (Some d) e =
    (item_count 0 most_clips d (both (is_list_of_objects 0 most_clips d) (list_all (has_exactly clip_names) (items_in d)) e).0).below

-- ---- compositions

-- what three rules let through in a composition
record IsKeptByAll (schemas : List EffectSchema) (comp : Data) : Type 0 where
  counted : IsKept schemas Layers comp
  effects : IsKept schemas Effects comp
  streams : IsKept schemas Streams comp

formed_comp : (schemas : List EffectSchema) (d : Data) → IsKeptByAll schemas d → IsFormedComp (plain_comp_of schemas d)
formed_comp schemas d kept =
    let layers = items_of (codes "layers") d in
    record {
      few_layers = rw (length-map layers (plain_layer_of schemas)) (layer_count d kept.counted.comp_is).below;
      layers = All-map IsFormedLayer (plain_layer_of schemas) layers (λ k a lt. formed_layer schemas (get_or layers k a) (kept.effects.layers k a lt) (kept.streams.layers k a lt));
    }

layers_in_all : (schemas : List EffectSchema) (ds : List Data)
    → plain_layer_count (map (plain_comp_of schemas) ds) ≡ sum_by (λ comp. length (items_of (codes "layers") comp)) ds
layers_in_all schemas [] = refl
layers_in_all schemas (d ∷ ds) =
    ap (λ n. n + plain_layer_count (map (plain_comp_of schemas) ds)) (length-map (items_of (codes "layers") d) (plain_layer_of schemas))
    ∙ ap (λ n. length (items_of (codes "layers") d) + n) (layers_in_all schemas ds)
    ∙ sym (sum_by-cons (λ comp. length (items_of (codes "layers") comp)) d ds)

not_more : (a b : ℕ) → nat_lt a b ≡ false → b ≤ a
not_more a b e = grind (arith, nat_tests)

-- ---- the depth

depth_is : (u : Option ℕ) → not (is_this 8 u || is_this 16 u) ≡ false → IsTrue (is_bit_depth (unwrap_or (option_and_then small u) 0))
depth_is None e = absurd cc
depth_is (Some m) e = by_tests (8 == m) (16 == m) refl refl (not_false ((8 == m) || (16 == m)) e)
  where
    by_tests : (a b : Bool) → (8 == m) ≡ a → (16 == m) ≡ b → (a || b) ≡ true → IsTrue (is_bit_depth (unwrap_or (small m) 0))
    by_tests true b ea eb e = let is : 8 ≡ m = grind (arith, nat_tests) in subst (λ n. IsTrue (is_bit_depth (unwrap_or (small n) 0))) is refl
    by_tests false true ea eb e = let is : 16 ≡ m = grind (arith, nat_tests) in subst (λ n. IsTrue (is_bit_depth (unwrap_or (small n) 0))) is refl
    by_tests false false ea eb e = absurd cc

bits : (o : Option Data) → not (is_there (λ d. is_the_number 8 d || is_the_number 16 d) o) ≡ false
    → IsTrue (is_bit_depth (unwrap_or (option_and_then count_in o) 0))
bits None e = absurd cc
bits (Some d) e = depth_is (u64_in d) e

pub formed : (schemas : List EffectSchema) (d : Data) → form_breach schemas d ≡ None → IsFormed (plain_of_data schemas d)
formed schemas d e =
    let none = each_none (place_of schemas d) form_rules e in
    let comps = items_of (codes "comps") d in
    let depth = kept_from schemas d Depth (none 3 Whole (lit< tt)) in
    let clips = items_of (codes "clips") d in
    let clip = kept_from schemas d Clips (none 4 Whole (lit< tt)) in
    let counted = kept_from schemas d Comps (none 5 Whole (lit< tt)) in
    let layers = kept_from schemas d Layers (none 6 Whole (lit< tt)) in
    let in_all = kept_from schemas d LayerCount (none 7 Whole (lit< tt)) in
    let effects = kept_from schemas d Effects (none 9 Whole (lit< tt)) in
    let streams = kept_from schemas d Streams (none 13 Whole (lit< tt)) in
    let kept : All (IsKeptByAll schemas) comps =
    λ k a lt. record { counted = layers.comps k a lt; effects = effects.comps k a lt; streams = streams.comps k a lt } in
    record {
      bits = bits (get (codes "depth") d) depth.project;
      few_clips = rw (length-map clips plain_clip_of) (clip_count (get (codes "clips") d) (not_false (where_there are_clips (get (codes "clips") d)) clip.project));
      some_comp = rw (length-map comps (plain_comp_of schemas)) (comp_count d counted.project).above;
      few_comps = rw (length-map comps (plain_comp_of schemas)) (comp_count d counted.project).below;
      few_layers = rw (layers_in_all schemas comps) (not_more most_layers_in_all (sum_by (λ comp. length (items_of (codes "layers") comp)) comps) in_all.project);
      comps = All-map IsFormedComp (plain_comp_of schemas) comps (λ k a lt. formed_comp schemas (get_or comps k a) (kept k a lt));
      scaled = All-append Scaled (map (λ clip. clip.frame) (map plain_clip_of clips)) (flat_map comp_times (map (plain_comp_of schemas) comps)) (scaled-clips clips) (scaled-comps schemas comps);
    }
