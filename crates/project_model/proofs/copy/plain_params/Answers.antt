use Rattle.std.proofs.Common.{◌≤◌}
use Rattle.std.specs.List.{All}
use Rattle.param_stream.specs.Curve.{Curve}
use Rattle.project_model.specs.Form.{IsKeyCount}
use Rattle.project_model.specs.Times.{key_times}
use Rattle.project_model.proofs.Copied.{copied_more, keys_scaled, few_at}
use Rattle.project_model.proofs.copy.plain_params.Goals as goal

pub loop-stream-preserved : goal.loop-stream-preserved
loop-stream-preserved c =
    copied_more (λ (curve : Curve). curve.keys) IsKeyCount (λ keys. All (λ time. 1 ≤ time.scale) (key_times keys)) c.args.params.now c.loop-stream.stream-index c.stream-item.result
    c.loop-stream.plain.items _ c.in_ok-plain_keys.field-0
    c.loop-stream.invariant.0 c.loop-stream.invariant.1 c.loop-stream.invariant.2 c.loop-stream-test.true c.stream-item.is
    c.in_ok-push.ensures.items c.in_ok-plain_keys.ensures.plain
    (few_at c.args.params.now c.loop-stream.stream-index c.stream-item.result c.in_ok-plain_keys.field-0 c.requires c.loop-stream-test.true c.stream-item.is c.in_ok-plain_keys.ensures.plain c.in_ok-plain_keys.ensures.some)
    (keys_scaled c.in_ok-plain_keys.field-0 c.in_ok-plain_keys.ensures.scaled)
