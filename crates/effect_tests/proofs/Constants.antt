-- Streams with one value.
use Rattle.std.proofs.Common.{◌≡◌, ℕ, zero, suc, ◌+◌, ◌≤◌, ℤ, pos, List, [], ◌∷◌, ◌++◌, length, map, take, drop, refl, ap, sym, subst, ◌∙◌, arith}
use Rattle.std.specs.List.{All}
use Rattle.std.specs.Int.{◌∣◌}
use Rattle.std.proofs.lemmas.Int.{ints}
use Rattle.std.proofs.Math.Nat.{one-dvd}
use Rattle.std.proofs.lemmas.List.Elements.{All-nil, All-cons}
use Rattle.sequence_data.specs.Sequence.{Fits}
use Rattle.param_stream.specs.Curve.{Curve, IsBetween, IsTimed}
use Rattle.param_stream.specs.declared.key.Ease.TheVariants.{Hold}
use Rattle.param_stream.specs.declared.key.Keyframe.{Keyframe}
use Rattle.project_model.specs.declared.effect.ParamSchema.{ParamSchema}
use Rattle.project_model.specs.Effects.{AreInRange}
use Rattle.effect_tests.specs.Uses.{IsConstant, AreConstants, AreWithin}

-- a keyframe at zero seconds stands at a tick
pub key_timed : (value : ℤ) (keys : List Keyframe) → keys ≡ record { time = record { value = pos 0; scale = 1 }; value = value; kind = Hold } ∷ [] → All (IsTimed 24) keys
key_timed value keys is = subst (All (IsTimed 24)) (sym is)
    (All-cons (IsTimed 24) record { time = record { value = pos 0; scale = 1 }; value = value; kind = Hold } [] record { scaled = omega arith; divides = one-dvd 24; near = omega arith } (All-nil _))

pub constants_push : (values : List ℤ) (curves : List Curve) (value : ℤ) (curve : Curve) → AreConstants values curves → IsConstant value curve
    → AreConstants (values ++ value ∷ []) (curves ++ curve ∷ [])
constants_push [] [] value curve all is = (is, tt)
constants_push [] (c ∷ cs) value curve all is = elim all [ ]
constants_push (v ∷ vs) [] value curve all is = elim all [ ]
constants_push (v ∷ vs) (c ∷ cs) value curve all is = (all.0, constants_push vs cs value curve all.1 is)

pub constants_in_range : (params : List ParamSchema) (values : List ℤ) (curves : List Curve) → AreWithin params values → AreConstants values curves
    → AreInRange params (map (λ (c : Curve). c.keys) curves)
constants_in_range [] [] [] within all = tt
constants_in_range [] [] (c ∷ cs) within all = elim all [ ]
constants_in_range [] (v ∷ vs) curves within all = elim within [ ]
constants_in_range (p ∷ ps) [] curves within all = elim within [ ]
constants_in_range (p ∷ ps) (v ∷ vs) [] within all = elim all [ ]
constants_in_range (p ∷ ps) (v ∷ vs) (c ∷ cs) within all = (some, keys, constants_in_range ps vs cs within.1 all.1)
  where
    some : 1 ≤ length c.keys
    some = subst (λ (keys : List Keyframe). 1 ≤ length keys) (sym all.0.keys) (omega arith)

    keys : All (λ (key : Keyframe). IsBetween p.least p.most key.value) c.keys
    keys = subst (All (λ (key : Keyframe). IsBetween p.least p.most key.value)) (sym all.0.keys)
        (All-cons (λ (key : Keyframe). IsBetween p.least p.most key.value) record { time = record { value = pos 0; scale = 1 }; value = v; kind = Hold } [] within.0 (All-nil _))

pub constants_based : (values : List ℤ) (curves : List Curve) → AreConstants values curves → All (λ (c : Curve). c.base ≡ 24) curves
constants_based [] [] all = All-nil _
constants_based [] (c ∷ cs) all = elim all [ ]
constants_based (v ∷ vs) [] all = elim all [ ]
constants_based (v ∷ vs) (c ∷ cs) all = All-cons (λ (curve : Curve). curve.base ≡ 24) c cs all.0.base (constants_based vs cs all.1)
