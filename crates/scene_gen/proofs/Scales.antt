-- The scales of the times of generated projects, and their least common multiple.
use Rattle.std.proofs.Common.{◌≡◌, ℕ, zero, suc, List, [], ◌∷◌, ◌++◌, pos, inl, inr, refl, ◌∙◌, ap, append-nil}
use Rattle.std.specs.Prelude.{◌⊎◌, flat_map}
use Rattle.std.specs.List.{All}
use Rattle.std.proofs.lemmas.List.Elements.{All-nil, All-head, All-tail, All-push}
use Rattle.rational_time.specs.Times.{common_base, common_multiple}
use Rattle.rational_time.specs.declared.time.Time.{Time}
use Rattle.project_model.specs.Bounds.{most_of}
use Rattle.project_model.specs.Times.{key_times, fx_times, layer_times, times_of}
use Rattle.project_model.specs.declared.plain.PlainFx.{PlainFx}
use Rattle.project_model.specs.declared.plain.PlainLayer.{PlainLayer}
use Rattle.scene_gen.specs.Draws.{Drawn, several}
use Rattle.scene_gen.specs.Generated.{drawn_depth, generated}
use Rattle.scene_gen.specs.Layers.{drawn_start, drawn_effect, drawn_effects, drawn_layer, drawn_layers, layer_count}
use Rattle.scene_gen.specs.Streams.{drawn_opacity, drawn_x, drawn_y, drawn_param, drawn_params}
use Rattle.scene_gen.specs.declared.kinds.ValueRange.{ValueRange}

-- a time in whole seconds, or in frames of 1/24
abbrev pub IsCoarse : Time → Type 0
IsCoarse time = (time.scale ≡ 1) ⊎ (time.scale ≡ 24)

abbrev pub AreCoarse : List Time → Type 0
AreCoarse [] = Unit {0}
AreCoarse (time ∷ times) = IsCoarse time × AreCoarse times

-- ---- the least common multiple

with_coarse : (scale base : ℕ) → (scale ≡ 1) ⊎ (scale ≡ 24) → base ≡ 30000 → common_multiple scale base ≡ 30000
with_coarse scale base (inl e) same = ap (λ (s : ℕ). common_multiple s base) e ∙ ap (common_multiple 1) same
with_coarse scale base (inr e) same = ap (λ (s : ℕ). common_multiple s base) e ∙ ap (common_multiple 24) same

-- coarse times before others change nothing
coarse_before : (times rest : List Time) → AreCoarse times → common_base rest ≡ 30000 → common_base (times ++ rest) ≡ 30000
coarse_before [] rest all same = same
coarse_before (time ∷ times) rest all same =
    with_coarse time.scale (common_base (times ++ rest)) all.0 (coarse_before times rest all.1 same)

both_coarse : (scale base : ℕ) → (scale ≡ 1) ⊎ (scale ≡ 24) → (base ≡ 1) ⊎ (base ≡ 24) → (common_multiple scale base ≡ 1) ⊎ (common_multiple scale base ≡ 24)
both_coarse scale base (inl e) (inl f) = inl (ap (λ (s : ℕ). common_multiple s base) e ∙ ap (common_multiple 1) f)
both_coarse scale base (inl e) (inr f) = inr (ap (λ (s : ℕ). common_multiple s base) e ∙ ap (common_multiple 1) f)
both_coarse scale base (inr e) (inl f) = inr (ap (λ (s : ℕ). common_multiple s base) e ∙ ap (common_multiple 24) f)
both_coarse scale base (inr e) (inr f) = inr (ap (λ (s : ℕ). common_multiple s base) e ∙ ap (common_multiple 24) f)

all_coarse : (times : List Time) → AreCoarse times → (common_base times ≡ 1) ⊎ (common_base times ≡ 24)
all_coarse [] all = inl refl
all_coarse (time ∷ times) all =
    both_coarse time.scale (common_base times) all.0 (all_coarse times all.1)

fine_first : (base : ℕ) → (base ≡ 1) ⊎ (base ≡ 24) → common_multiple 30000 base ≡ 30000
fine_first base (inl e) = ap (common_multiple 30000) e
fine_first base (inr e) = ap (common_multiple 30000) e

-- ---- what is drawn

all_joined : (first second : List Time) → AreCoarse first → AreCoarse second → AreCoarse (first ++ second)
all_joined [] second all others = others
all_joined (time ∷ first) second all others = (all.0, all_joined first second all.1 others)

all_of_each : {A : Type 0} (f : A → List Time) (list : List A) → All (λ a. AreCoarse (f a)) list → AreCoarse (flat_map f list)
all_of_each f [] all = tt
all_of_each f (a ∷ list) all =
    all_joined (f a) (flat_map f list) (All-head (λ x. AreCoarse (f x)) a list all)
    (all_of_each f list (All-tail (λ x. AreCoarse (f x)) a list all))

each_of_several : {A : Type 0} (P : A → Type 0) (item : ℕ → ℕ → Drawn A) → ((i s : ℕ) → P (item i s).value) → (count state : ℕ) → All P (several item count state).value
unfolding several
each_of_several P item each zero state = All-nil P
each_of_several P item each (suc count) state =
    All-push P (several item count state).value _ (each_of_several P item each count state) (each count (several item count state).state)

params_coarse : (ranges : List ValueRange) (state : ℕ) → AreCoarse (flat_map key_times (drawn_params ranges state).value)
unfolding drawn_params drawn_param
params_coarse [] state = tt
params_coarse (range ∷ ranges) state = (inl refl, params_coarse ranges (drawn_param range state).state)

effect_coarse : (count state : ℕ) → AreCoarse (fx_times (drawn_effect count state).value)
unfolding drawn_effect
effect_coarse count state = params_coarse _ _

effects_coarse : (count state : ℕ) → AreCoarse (flat_map fx_times (drawn_effects count state).value)
unfolding drawn_effects
effects_coarse count state =
    all_of_each fx_times _
    (each_of_several (λ (fx : PlainFx). AreCoarse (fx_times fx)) (λ _. drawn_effect count) (λ i s. effect_coarse count s) _ _)

layer_coarse : (most comp index state : ℕ) → AreCoarse (layer_times (drawn_layer most comp index state).value)
unfolding drawn_layer drawn_start drawn_opacity drawn_x drawn_y
layer_coarse most comp index state =
    (inr refl, (inl refl, (inl refl, (inr refl, (inl refl, (inr refl, (inl refl, effects_coarse (layer_count comp) _)))))))

layers_coarse : (most comp state : ℕ) → AreCoarse (flat_map layer_times (drawn_layers most comp state).value)
unfolding drawn_layers
layers_coarse most comp state =
    all_of_each layer_times _
    (each_of_several (λ (layer : PlainLayer). AreCoarse (layer_times layer)) (drawn_layer most comp) (λ i s. layer_coarse most comp i s) _ _)

-- the base of a generated project is the least common multiple of its scales
pub base_of_generated : (number : ℕ) → common_base (times_of (generated number)) ≡ 30000
unfolding generated
base_of_generated number =
    let depth = drawn_depth number in
    let most = most_of depth.value in
    let inner = drawn_layers most 0 depth.state in
    let outer = drawn_layers most 1 inner.state in
    let last : common_base (flat_map layer_times outer.value ++ []) ≡ common_base (flat_map layer_times outer.value) = ap common_base (append-nil (flat_map layer_times outer.value)) in
    coarse_before (record { value = pos 1; scale = 24 } ∷ flat_map layer_times inner.value) _
    (inr refl, layers_coarse most 0 depth.state)
    (ap (common_multiple 30000) last ∙ fine_first _ (all_coarse _ (layers_coarse most 1 inner.state)))
