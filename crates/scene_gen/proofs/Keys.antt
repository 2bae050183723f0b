-- Keyframes of which a stream can be made.
use Rattle.std.proofs.Common.{◌≡◌, zero, suc, [], ◌∷◌, ℤ, ◌∙◌, ap, arith}
use Rattle.std.proofs.lemmas.Int.{ints}
use Rattle.std.proofs.lemmas.List.Elements.{All-nil, All-cons}
use Rattle.std.proofs.Math.Nat.{dvd-mul_right}
use Rattle.param_stream.specs.Curve.{IsTimed, IsBetween, IsRising}
use Rattle.param_stream.specs.declared.key.Ease.{Ease}
use Rattle.param_stream.specs.declared.key.Keyframe.{Keyframe}
use Rattle.project_model.specs.Constant.{zero_time, constant, constant_key}
use Rattle.project_model.specs.Ready.{AreReady}
use Rattle.scene_gen.specs.Streams.{last_time, pair}

at_zero : (value : ℤ) (kind : Ease) → IsTimed 30000 (record { time = zero_time; value = value; kind = kind })
at_zero value kind = record { scaled = omega arith; divides = dvd-mul_right 1 30000; near = omega arith }

at_last : (value : ℤ) (kind : Ease) → IsTimed 30000 (record { time = last_time; value = value; kind = kind })
at_last value kind = record { scaled = omega arith; divides = dvd-mul_right 24 1250; near = omega arith }

-- one value
pub constant_ready : (least most value : ℤ) → IsBetween least most value → AreReady 30000 least most (constant value)
constant_ready least most value within = record {
  some = omega arith;
  few = omega arith;
  timed = All-cons (IsTimed 30000) (constant_key value) [] (at_zero value _) (All-nil _);
  rising = λ i h. absurd (omega arith);
  within = All-cons (λ (key : Keyframe). IsBetween least most key.value) (constant_key value) [] within (All-nil _);
}

-- the second keyframe stands above the first
rises : (first last : ℤ) (kind kind' : Ease) → IsRising 30000 (pair first kind last kind')
rises first last kind kind' zero h = omega (arith, ints)
rises first last kind kind' (suc i) h = absurd (omega arith)

-- two values
pub pair_ready : (least most first last : ℤ) (kind kind' : Ease) → IsBetween least most first → IsBetween least most last → AreReady 30000 least most (pair first kind last kind')
pair_ready least most first last kind kind' from to = record {
  some = omega arith;
  few = omega arith;
  timed =
      All-cons (IsTimed 30000) (record { time = zero_time; value = first; kind = kind }) (record { time = last_time; value = last; kind = kind' } ∷ []) (at_zero first kind)
      (All-cons (IsTimed 30000) (record { time = last_time; value = last; kind = kind' }) [] (at_last last kind') (All-nil _));
  rising = rises first last kind kind';
  within =
      All-cons (λ (key : Keyframe). IsBetween least most key.value) (record { time = zero_time; value = first; kind = kind }) (record { time = last_time; value = last; kind = kind' } ∷ []) from
      (All-cons (λ (key : Keyframe). IsBetween least most key.value) (record { time = last_time; value = last; kind = kind' }) [] to (All-nil _));
}

-- two values that are the same
pub pair_same : (first first' last last' : ℤ) (kind kind' : Ease) → first' ≡ first → last' ≡ last → pair first' kind last' kind' ≡ pair first kind last kind'
pair_same first first' last last' kind kind' e f = ap (λ (v : ℤ). pair v kind last' kind') e ∙ ap (λ (v : ℤ). pair first kind v kind') f
