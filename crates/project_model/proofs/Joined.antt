-- What was made of plain parts.
use Rattle.std.proofs.Common.{◌≡◌, ℕ, zero, suc, ◌<◌, ◌≤◌, List, [], ◌∷◌, ◌++◌, length, map, ℤ, refl, sym, ◌∙◌, subst, ap, arith}
use Rattle.std.specs.Prelude.{Some, slice_get, slice_index_or}
use Rattle.std.specs.List.{All}
use Rattle.std.proofs.lemmas.List.{append_assoc, map-append, length-map}
use Rattle.std.proofs.lemmas.List.Elements.{All-nil, All-cons, All-head, All-tail, All-push, All-same}
use Rattle.param_stream.specs.Curve.{Curve, IsBound}
use Rattle.param_stream.specs.Refusals.{Refuses}
use Rattle.param_stream.specs.declared.key.Keyframe.{Keyframe}
use Rattle.param_stream.specs.declared.stream.StreamError.{StreamError}
use Rattle.param_stream.specs.declared.stream.StreamError.TheVariants.{Memory}
use Rattle.param_stream.proofs.Causes.{one_cause}
use Rattle.project_model.specs.Bounds.{most_effects, most_keys}
use Rattle.project_model.specs.Count.{layer_count}
use Rattle.project_model.specs.Effects.{schema_of}
use Rattle.project_model.specs.Form.{plain_layer_count}
use Rattle.project_model.specs.Plain.{plain_fx, plain_layer, plain_comp}
use Rattle.project_model.specs.Ready.{AreReady, AreReadyParams, IsReadyFx}
use Rattle.project_model.specs.declared.comp.Comp.{Comp}
use Rattle.project_model.specs.declared.effect.EffectSchema.{EffectSchema}
use Rattle.project_model.specs.declared.effect.FxUse.{FxUse}
use Rattle.project_model.specs.declared.effect.ParamSchema.{ParamSchema}
use Rattle.project_model.specs.declared.plain.PlainFx.{PlainFx}

-- ready keyframes are refused for want of memory alone
pub only_memory : (base : ℕ) (keys items : List Keyframe) (least most low high : ℤ) (e : StreamError) → AreReady base least most keys → IsBound least → IsBound most → items ≡ keys → low ≡ least → high ≡ most → Refuses e (record { base = base; keys = items; least = low; most = high }) → e ≡ Memory
only_memory base keys items least most low high e ready from to same as_low as_high refused =
    let plain : Refuses e (record { base = base; keys = keys; least = least; most = most }) = rw (← same, ← as_low, ← as_high) refused in
    one_cause (record { base = base; keys = keys; least = least; most = most }) e Memory plain
    (record { some = ready.some; timed = ready.timed; rising = ready.rising; within = ready.within; least_bound = from; most_bound = to })

-- one more is made
pub made_more : {A B : Type 0} (f : A → B) (P : A → Type 0) (items more : List A) (done : List B) (a : A) (b : B) → map f items ≡ done → All P items → more ≡ items ++ a ∷ [] → f a ≡ b → P a → (map f more ≡ done ++ b ∷ []) × All P more
made_more f P items more done a b e all is e' p = (
  ap (map f) is ∙ map-append f items (a ∷ []) ∙ ap (λ (xs : _). xs ++ f a ∷ []) e ∙ ap (λ (x : _). done ++ x ∷ []) e',
  All-same P more (items ++ a ∷ []) is (All-push P items a all p),
)

pub same_count : (comps : List Comp) → plain_layer_count (map plain_comp comps) ≡ layer_count comps
same_count [] = refl
same_count (comp ∷ comps) = omega (arith, same_count comps, length-map comp.layers plain_layer)

-- ---- streams of parameters

-- the parameter of this index, and what its keyframes are
pub record IsParamAt (base : ℕ) (params : List ParamSchema) (i : ℕ) (keys : List Keyframe) : Type 0 where
  pub within : i < length params
  pub ready : (d : ParamSchema) → AreReady base (slice_index_or params i d).least (slice_index_or params i d).most keys

ready_at : (base : ℕ) (params : List ParamSchema) (streams : List (List Keyframe)) (i : ℕ) (keys : List Keyframe) → AreReadyParams base params streams → slice_get streams i ≡ Some keys → IsParamAt base params i keys
ready_at base [] [] i keys ready e = cc
ready_at base [] (first ∷ rest) i keys ready e = absurd ready
ready_at base (param ∷ params) [] i keys ready e = absurd ready
ready_at base (param ∷ params) (first ∷ rest) zero keys ready e =
    let same : first ≡ keys = cc in
    record { within = omega arith; ready = λ d. subst (AreReady base param.least param.most) same ready.0 }
ready_at base (param ∷ params) (first ∷ rest) (suc i) keys ready e =
    let behind = ready_at base params rest i keys ready.1 e in
    record { within = omega (arith, behind.within); ready = behind.ready }

-- what stands behind others
stands_behind : {A : Type 0} (before rest : List A) (a : A) → slice_get (before ++ a ∷ rest) (length before) ≡ Some a
stands_behind [] rest a = refl
stands_behind (b ∷ before) rest a = stands_behind before rest a

-- the keyframes that come next are those of the next parameter
pub next_param : (base : ℕ) (params : List ParamSchema) (plain : List (List Keyframe)) (made : List Curve) (before left rest : List (List Keyframe)) (at : ℕ) (keys : List Keyframe) → AreReadyParams base params plain → map (λ (curve : Curve). curve.keys) made ≡ before → before ++ left ≡ plain → left ≡ keys ∷ rest → at ≡ length made → IsParamAt base params at keys
next_param base params plain made before left rest at keys ready is split next count =
    let whole : plain ≡ before ++ keys ∷ rest = sym split ∙ ap (λ (xs : List (List Keyframe)). before ++ xs) next in
    let place : at ≡ length before = count ∙ sym (length-map made (λ (curve : Curve). curve.keys)) ∙ ap (length {A = List Keyframe}) is in
    ready_at base params plain at keys ready
    (ap (slice_get plain) place ∙ ap (λ (xs : List (List Keyframe)). slice_get xs (length before)) whole ∙ stands_behind before rest keys)

-- one more is gone over
pub split_more : {A : Type 0} (before left rest all : List A) (a : A) → before ++ left ≡ all → left ≡ a ∷ rest → (before ++ a ∷ []) ++ rest ≡ all
split_more before left rest all a split next =
    append_assoc before (a ∷ []) rest ∙ ap (λ (xs : _). before ++ xs) (sym next) ∙ split

-- ---- what was made of effects is short

few_keys : (base : ℕ) (params : List ParamSchema) (streams : List (List Keyframe)) → AreReadyParams base params streams → All (λ keys. length keys ≤ most_keys) streams
few_keys base [] [] ready = All-nil _
few_keys base [] (keys ∷ rest) ready = absurd ready
few_keys base (param ∷ params) [] ready = absurd ready
few_keys base (param ∷ params) (keys ∷ rest) ready = All-cons (λ ks. length ks ≤ most_keys) keys rest ready.0.few (few_keys base params rest ready.1)

of_mapped : {A B : Type 0} (P : B → Type 0) (f : A → B) (list : List A) → All P (map f list) → All (λ a. P (f a)) list
of_mapped P f [] all = All-nil _
of_mapped P f (a ∷ list) all =
    All-cons (λ x. P (f x)) a list (All-head P (f a) (map f list) all) (of_mapped P f list (All-tail P (f a) (map f list) all))

fx_values : (schemas : List EffectSchema) (base : ℕ) (fx : FxUse) → IsReadyFx schemas base (plain_fx fx) → All (λ curve. length curve.keys ≤ most_keys) fx.params
fx_values schemas base fx ready =
    of_mapped (λ (keys : List Keyframe). length keys ≤ most_keys) (λ (curve : Curve). curve.keys) fx.params
    (few_keys base (schema_of schemas fx.kind).params (plain_fx fx).params ready.params)

pub few_values : (schemas : List EffectSchema) (base : ℕ) (effects : List FxUse) (plain : List PlainFx) → map plain_fx effects ≡ plain → All (IsReadyFx schemas base) plain → All (λ fx. All (λ curve. length curve.keys ≤ most_keys) fx.params) effects
few_values schemas base effects plain made ready =
    let each = of_mapped (IsReadyFx schemas base) plain_fx effects (subst (All (IsReadyFx schemas base)) (sym made) ready) in
    λ k d within. fx_values schemas base (slice_index_or effects k d) (each k d within)

pub few_effects : (effects : List FxUse) (plain : List PlainFx) → map plain_fx effects ≡ plain → length plain ≤ most_effects → length effects ≤ most_effects
few_effects effects plain made few =
    let long : length effects ≡ length plain = sym (length-map effects plain_fx) ∙ ap (length {A = PlainFx}) made in
    omega (arith, few, long)
