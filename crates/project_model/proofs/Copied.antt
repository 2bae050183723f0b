-- Plain parts that were copied from a project.
use Rattle.std.proofs.Common.{◌≡◌, ℕ, ◌+◌, ◌≤◌, ◌<◌, List, [], ◌∷◌, ◌++◌, length, map, take, ◌∙◌, ap, arith}
use Rattle.std.specs.Prelude.{Option, Some, None, option_to_list, slice_index_or}
use Rattle.std.specs.List.{All, flat_map}
use Rattle.std.proofs.lemmas.List.{length-map}
use Rattle.std.proofs.lemmas.List.Elements.{All-nil, All-cons, All-head, All-tail, All-append, All-map, All-push, All-same}
use Rattle.rational_time.specs.declared.time.Time.{Time}
use Rattle.param_stream.specs.declared.key.Keyframe.{Keyframe}
use Rattle.param_stream.specs.Curve.{Curve}
use Rattle.project_model.specs.Bounds.{scale_of, is_bit_depth, most_keys}
use Rattle.project_model.specs.Form.{IsKeyCount, IsFormed, IsFormedComp, plain_layer_count}
use Rattle.project_model.specs.Plain.{plain_comp}
use Rattle.project_model.specs.Times.{key_times, fx_times, layer_times, comp_times}
use Rattle.project_model.specs.declared.clip.ClipUse.{ClipUse}
use Rattle.project_model.specs.declared.project.Project.{Project}
use Rattle.project_model.specs.declared.plain.PlainLayer.{PlainLayer}
use Rattle.project_model.specs.declared.plain.PlainComp.{PlainComp}
use Rattle.project_model.proofs.Joined.{same_count}
use Rattle.project_model.proofs.Pushed.{mapped_more}

abbrev IsScaled : Time → Type 0
IsScaled time = 1 ≤ time.scale

joined : {X Y : Type 0} (P : Y → Type 0) (f : X → List Y) (xs : List X) → All (λ x. All P (f x)) xs → All P (flat_map f xs)
joined P f [] all = All-nil P
joined P f (x ∷ xs) all =
    All-append P (f x) (flat_map f xs) (All-head (λ y. All P (f y)) x xs all) (joined P f xs (All-tail (λ y. All P (f y)) x xs all))

out_scaled : (out : Option Time) → 1 ≤ scale_of out → All IsScaled (option_to_list out)
out_scaled None h = All-nil IsScaled
out_scaled (Some time) h = All-cons IsScaled time [] h (All-nil IsScaled)

pub keys_scaled : (keys : List Keyframe) → All (λ key. 1 ≤ key.time.scale) keys → All IsScaled (key_times keys)
keys_scaled keys all = All-map IsScaled (λ (key : Keyframe). key.time) keys all

pub layer_scaled : (layer : PlainLayer) → 1 ≤ layer.start.scale → 1 ≤ layer.in_point.scale → 1 ≤ scale_of layer.out_point → All (λ key. 1 ≤ key.time.scale) layer.opacity → All (λ key. 1 ≤ key.time.scale) layer.x → All (λ key. 1 ≤ key.time.scale) layer.y → All (λ fx. All (λ time. 1 ≤ time.scale) (fx_times fx)) layer.effects → All (λ time. 1 ≤ time.scale) (layer_times layer)
layer_scaled layer start in_point out o x y effects =
    let points : List Time = layer.start ∷ layer.in_point ∷ option_to_list layer.out_point in
    let first = All-cons IsScaled layer.start (layer.in_point ∷ option_to_list layer.out_point) start (All-cons IsScaled layer.in_point (option_to_list layer.out_point) in_point (out_scaled layer.out_point out)) in
    let with_o = All-append IsScaled points (key_times layer.opacity) first (keys_scaled layer.opacity o) in
    let with_x = All-append IsScaled (points ++ key_times layer.opacity) (key_times layer.x) with_o (keys_scaled layer.x x) in
    let with_y = All-append IsScaled (points ++ key_times layer.opacity ++ key_times layer.x) (key_times layer.y) with_x (keys_scaled layer.y y) in
    All-append IsScaled (points ++ key_times layer.opacity ++ key_times layer.x ++ key_times layer.y) (flat_map fx_times layer.effects) with_y
    (joined IsScaled fx_times layer.effects effects)

-- the keyframes of a stream that has few
pub few_at : (params : List Curve) (i : ℕ) (curve : Curve) (keys : List Keyframe) → All (λ c. length c.keys ≤ most_keys) params → i < length params → curve ≡ slice_index_or params i curve → keys ≡ curve.keys → 1 ≤ length keys → IsKeyCount keys
few_at params i curve keys few within is same some =
    let here : length (slice_index_or params i curve).keys ≤ most_keys = few i curve within in
    let long : length keys ≡ length (slice_index_or params i curve).keys = ap (length {A = Keyframe}) same ∙ ap (λ (c : Curve). length c.keys) is in
    record { some = some; few = omega (arith, here, long) }

-- those of an effect's parameters
pub fx_scaled : (params : List (List Keyframe)) → All (λ keys. All (λ time. 1 ≤ time.scale) (key_times keys)) params → All (λ time. 1 ≤ time.scale) (flat_map key_times params)
fx_scaled params all = joined IsScaled key_times params all

pub comp_scaled : (comp : PlainComp) → 1 ≤ comp.frame.scale → All (λ layer. All (λ time. 1 ≤ time.scale) (layer_times layer)) comp.layers → All (λ time. 1 ≤ time.scale) (comp_times comp)
comp_scaled comp frame layers =
    All-cons IsScaled comp.frame (flat_map layer_times comp.layers) frame (joined IsScaled layer_times comp.layers layers)

pub comps_scaled : (comps : List PlainComp) → All (λ comp. All (λ time. 1 ≤ time.scale) (comp_times comp)) comps → All (λ time. 1 ≤ time.scale) (flat_map comp_times comps)
comps_scaled comps all = joined IsScaled comp_times comps all

-- one more is copied
pub copied_more : {A B : Type 0} (f : A → B) (P Q : B → Type 0) (list : List A) (i : ℕ) (a : A) (items more : List B) (b : B) → items ≡ map f (take i list) → All P items → All Q items → i < length list → a ≡ slice_index_or list i a → more ≡ items ++ b ∷ [] → b ≡ f a → P b → Q b → (more ≡ map f (take (i + 1) list)) × All P more × All Q more
copied_more f P Q list i a items more b e all every within is grown same p q = (
  mapped_more f list i a items more b e within is grown same,
  All-same P more (items ++ b ∷ []) grown (All-push P items b all p),
  All-same Q more (items ++ b ∷ []) grown (All-push Q items b every q),
)

-- the times of clips, as they were declared
clips_scaled : (clips : List ClipUse) → All (λ (clip : ClipUse). 1 ≤ clip.frame.scale) clips → All IsScaled (map (λ (clip : ClipUse). clip.frame) clips)
clips_scaled clips all = All-map IsScaled (λ (clip : ClipUse). clip.frame) clips all

pub formed : (project : Project) (depth : ℕ) (clips : List ClipUse) (comps : List PlainComp) → depth ≡ project.depth → clips ≡ project.clips → comps ≡ map plain_comp project.comps → All IsFormedComp comps → All (λ comp. All (λ time. 1 ≤ time.scale) (comp_times comp)) comps → IsFormed (record { depth = depth; root = project.root; clips = clips; comps = comps })
formed project depth clips comps e same f all scaled =
    let count : length comps ≡ length project.comps = ap (length {A = PlainComp}) f ∙ length-map project.comps plain_comp in
    let few : length clips ≡ length project.clips = ap (length {A = ClipUse}) same in
    record {
      bits = ap is_bit_depth e ∙ project.bits;
      few_clips = omega (arith, few, project.few_clips);
      some_comp = omega (arith, count, project.some_comp);
      few_comps = omega (arith, count, project.few_comps);
      few_layers = omega (arith, ap plain_layer_count f, same_count project.comps, project.few_layers);
      comps = all;
      scaled = All-append IsScaled (map (λ (clip : ClipUse). clip.frame) clips) (flat_map comp_times comps)
          (clips_scaled clips (All-same (λ (clip : ClipUse). 1 ≤ clip.frame.scale) clips project.clips same project.clips_scaled))
          (comps_scaled comps scaled);
    }
