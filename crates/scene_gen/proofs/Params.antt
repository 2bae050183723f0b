-- The parameters that are still to be drawn.
use Rattle.std.proofs.Common.{◌≡◌, ℕ, List, [], ◌∷◌, ◌++◌, map, sym, ◌∙◌, subst, ap}
use Rattle.std.proofs.lemmas.List.{map-append, append_assoc, append-nil}
use Rattle.param_stream.specs.Curve.{Curve}
use Rattle.param_stream.specs.declared.key.Keyframe.{Keyframe}
use Rattle.scene_gen.specs.Draws.{Drawn}
use Rattle.scene_gen.specs.Streams.{drawn_param, drawn_params}
use Rattle.scene_gen.specs.declared.kinds.ValueRange.{ValueRange}

abbrev pub keys_of : Curve → List Keyframe
keys_of curve = curve.keys

-- what was drawn, with what is drawn of the rest, is all
pub record IsRest {A : Type 0} (all : Drawn (List A)) (list : List A) (rest : Drawn (List A)) : Type 0 where
  pub lists : list ++ rest.value ≡ all.value
  pub states : rest.state ≡ all.state

-- one more is drawn
pub param_more : (ranges left rest : List ValueRange) (range : ValueRange) (first state after : ℕ) (streams more : List Curve) (last : Curve) → left ≡ range ∷ rest → IsRest (drawn_params ranges first) (map keys_of streams) (drawn_params left state) → last.keys ≡ (drawn_param range state).value → after ≡ (drawn_param range state).state → more ≡ streams ++ last ∷ [] → IsRest (drawn_params ranges first) (map keys_of more) (drawn_params rest after)
unfolding drawn_params
param_more ranges left rest range first state after streams more last next drawn value_is state_is grown =
    let here = subst (λ (xs : List ValueRange). IsRest (drawn_params ranges first) (map keys_of streams) (drawn_params xs state)) next drawn in
    let behind = (drawn_params rest (drawn_param range state).state).value in
    record {
      lists =
          ap (λ (s : ℕ). map keys_of more ++ (drawn_params rest s).value) state_is
          ∙ ap (λ (xs : _). xs ++ behind) (ap (map keys_of) grown ∙ map-append keys_of streams (last ∷ []))
          ∙ append_assoc (map keys_of streams) (last.keys ∷ []) behind
          ∙ ap (λ (keys : List Keyframe). map keys_of streams ++ keys ∷ behind) value_is
          ∙ here.lists;
      states = ap (λ (s : ℕ). (drawn_params rest s).state) state_is ∙ here.states;
    }

-- all are drawn
pub params_whole : (ranges left : List ValueRange) (first state : ℕ) (streams : List Curve) → left ≡ [] → IsRest (drawn_params ranges first) (map keys_of streams) (drawn_params left state) → (map keys_of streams ≡ (drawn_params ranges first).value) × (state ≡ (drawn_params ranges first).state)
unfolding drawn_params
params_whole ranges left first state streams none drawn =
    let here = subst (λ (xs : List ValueRange). IsRest (drawn_params ranges first) (map keys_of streams) (drawn_params xs state)) none drawn in
    (sym (append-nil (map keys_of streams)) ∙ here.lists, here.states)
