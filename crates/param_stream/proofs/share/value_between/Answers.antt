use Rattle.std.proofs.Common.{◌≡◌, pos, ◌-ℤ◌, ◌+ℤ◌, ◌^◌, arith, ◌∙◌, to_z, of_z, w64}
use Rattle.std.specs.Prelude.{unsigned_abs}
use Rattle.std.proofs.lemmas.Int.{ints}
use Rattle.param_stream.proofs.Shares.{share_small, linear_is, smooth_is}
use Rattle.param_stream.proofs.share.value_between.Goals as goal

pub overflow_add-result : goal.overflow_add-result
overflow_add-result c = omega (arith, ints, share_small _ _ (2 ^ 41) c.share.ensures.share (omega (arith, ints)), c.requires.from)

pub overflow_add-result-in-Smooth : goal.overflow_add-result-in-Smooth
overflow_add-result-in-Smooth c = omega (arith, ints, share_small _ _ (2 ^ 41) c.share-in-Smooth.ensures.share (omega (arith, ints)), c.requires.from)

pub returns-in-Linear : goal.returns-in-Linear
returns-in-Linear c =
    let held : to_z w64 (of_z w64 (to_z w64 (of_z w64 c.args.key.now.value) +ℤ to_z w64 (of_z w64 c.share.result))) ≡ c.args.key.now.value +ℤ c.share.result =
    omega (arith, ints, share_small _ _ (2 ^ 41) c.share.ensures.share (omega (arith, ints)), c.requires.from) in
    held
    ∙ linear_is c.args.key.now.kind c.args.key.now.value c.args.next.now.value _ (c.args.tick -ℤ c.args.start) (c.args.end -ℤ c.args.start) c.share.result _ _
    c.in-Linear.is
    (let e : to_z w64 (of_z w64 (to_z w64 (of_z w64 c.args.next.now.value) -ℤ to_z w64 (of_z w64 c.args.key.now.value))) ≡ c.args.next.now.value -ℤ c.args.key.now.value = omega (arith, ints) in e)
    (let e : pos (unsigned_abs (to_z w64 (of_z w64 (to_z w64 (of_z w64 c.args.tick) -ℤ to_z w64 (of_z w64 c.args.start))))) ≡ c.args.tick -ℤ c.args.start = omega (arith, ints) in e)
    (let e : pos (unsigned_abs (to_z w64 (of_z w64 (to_z w64 (of_z w64 c.args.end) -ℤ to_z w64 (of_z w64 c.args.start))))) ≡ c.args.end -ℤ c.args.start = omega (arith, ints) in e)
    c.share.ensures.value

pub returns-in-Smooth : goal.returns-in-Smooth
returns-in-Smooth c =
    let held : to_z w64 (of_z w64 (to_z w64 (of_z w64 c.args.key.now.value) +ℤ to_z w64 (of_z w64 c.share-in-Smooth.result))) ≡ c.args.key.now.value +ℤ c.share-in-Smooth.result =
    omega (arith, ints, share_small _ _ (2 ^ 41) c.share-in-Smooth.ensures.share (omega (arith, ints)), c.requires.from) in
    held
    ∙ smooth_is c.args.key.now.kind c.args.key.now.value c.args.next.now.value _ (c.args.tick -ℤ c.args.start) (c.args.end -ℤ c.args.start) c.share-in-Smooth.result _ _ c.eased_part.result
    c.in-Smooth.is
    (let e : to_z w64 (of_z w64 (to_z w64 (of_z w64 c.args.next.now.value) -ℤ to_z w64 (of_z w64 c.args.key.now.value))) ≡ c.args.next.now.value -ℤ c.args.key.now.value = omega (arith, ints) in e)
    (let e : pos (unsigned_abs (to_z w64 (of_z w64 (to_z w64 (of_z w64 c.args.tick) -ℤ to_z w64 (of_z w64 c.args.start))))) ≡ c.args.tick -ℤ c.args.start = omega (arith, ints) in e)
    (let e : pos (unsigned_abs (to_z w64 (of_z w64 (to_z w64 (of_z w64 c.args.end) -ℤ to_z w64 (of_z w64 c.args.start))))) ≡ c.args.end -ℤ c.args.start = omega (arith, ints) in e)
    c.eased_part.ensures.value
    c.share-in-Smooth.ensures.value
