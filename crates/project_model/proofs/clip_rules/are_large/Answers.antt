use Rattle.std.proofs.Common.{ap, arith}
use Rattle.std.proofs.lemmas.List.Sums.{sum_by_more}
use Rattle.project_model.specs.Clip.{clip_length}
use Rattle.project_model.proofs.clip_rules.are_large.Goals as goal

pub loop-clip-preserved : goal.loop-clip-preserved
loop-clip-preserved c =
    let more = sum_by_more clip_length c.args.clips.now c.loop-clip.clip-index c.clip-item.result c.loop-clip-test.true in
    let one = ap clip_length c.clip-item.is in (
      omega (arith, more, one, c.declared_bytes-bytes.ensures.value, c.loop-clip.invariant.0),
      omega (arith, c.declared_bytes-bytes.ensures.bound, c.loop-clip.invariant.1),
    )
