use Rattle.std.proofs.Common.{◌∙◌, sym}
use Rattle.project_model.proofs.Named.{goes_on, ends}
use Rattle.project_model.proofs.clip_rules.are_different.Goals as goal

pub loop-index-preserved : goal.loop-index-preserved
loop-index-preserved c =
    c.loop-index.invariant
    ∙ goes_on c.args.clips.now c.loop-index.index c.index-clips-index.result c.as_str.result.now c.is_named.result c.loop-index-test.true
    c.index-clips-index.is c.as_str.ensures c.is_named.ensures c.if-is_named.false

pub returns-then-is_named : goal.returns-then-is_named
returns-then-is_named c =
    sym (c.loop-index.invariant
    ∙ ends c.args.clips.now c.loop-index.index c.index-clips-index.result c.as_str.result.now c.is_named.result c.loop-index-test.true
    c.index-clips-index.is c.as_str.ensures c.is_named.ensures c.if-is_named.true)
