use Rattle.std.proofs.Common.{◌<◌, Err, List, length, map, arith, ap, ◌∙◌, subst, sym, to_z, of_z, w64}
use Rattle.std.specs.List.{All}
use Rattle.std.proofs.lemmas.Bool.Decides.{nat_tests}
use Rattle.std.proofs.lemmas.Int.{ints}
use Rattle.param_stream.specs.declared.key.Keyframe.{Keyframe}
use Rattle.param_stream.specs.declared.stream.StreamError.TheVariants.{OutOfRange}
use Rattle.param_stream.specs.Curve.{IsTimed, IsSound, key_tick}
use Rattle.param_stream.proofs.Causes.{one_cause, sound_of, outside_of}
use Rattle.param_stream.proofs.stream.Stream.new.Goals as goal

pub returns-in-Some-first_outside-clause-exactly : goal.returns-in-Some-first_outside-clause-exactly
returns-in-Some-first_outside-clause-exactly c e other r =
    let outside = outside_of c.args.base.ticks c.args.keys.items c.deref.result.now c.deref-2.result.now c.args.least c.args.most (to_z w64 (of_z w64 c.args.least)) (to_z w64 (of_z w64 c.args.most)) c.in-Some-first_outside.index c.deref.ensures.value c.deref-2.ensures.value (omega (arith, ints)) (omega (arith, ints)) c.in_default.ensures c.in-Some-first_outside.ensures in
    ap Err (one_cause _ (OutOfRange c.in-Some-first_outside.index) e outside r)

pub ticks_of-requires : goal.ticks_of-requires
ticks_of-requires c =
    subst (λ (list : List Keyframe). All (IsTimed c.args.base.ticks) list) (sym c.deref-3.ensures.value) c.requires.timed

sound : (c : goal.In-Ok) → IsSound (record { base = c.args.base.ticks; keys = c.args.keys.items; least = to_z w64 (of_z w64 c.args.least); most = to_z w64 (of_z w64 c.args.most) })
sound c =
    let some : 0 < length c.args.keys.items = grind (arith, nat_tests) in
    sound_of c.args.base.ticks c.args.keys.items c.deref.result.now c.deref-2.result.now _ _ c.deref.ensures.value c.deref-2.ensures.value some c.requires.timed c.in_default.ensures c.in_default-first_outside.ensures
    (omega (arith, ints, c.requires.least)) (omega (arith, ints, c.requires.most))

pub invariant_of-result : goal.invariant_of-result
invariant_of-result c = record {
  sound = sound c;
  ticks = c.in-Ok.ensures ∙ ap (map (key_tick c.args.base.ticks)) c.deref-3.ensures.value;
  small = omega arith;
}

pub returns-in-Ok-clause-sound : goal.returns-in-Ok-clause-sound
returns-in-Ok-clause-sound c = sound c
