use Rattle.std.proofs.Common.{subst}
use Rattle.std.proofs.lemmas.Result.{IfOk-weaker}
use Rattle.serde_json.specs.View.{view}
use Rattle.project_write.specs.Parts.{IsArrayOf, IsKey, IsStream}
use Rattle.project_write.proofs.PartLemmas.{stream_of}
use Rattle.project_write.proofs.streams.stream_value.Goals as goal

pub returns : goal.returns
returns c =
    let keys = c.args.stream.now.keys in
    IfOk-weaker c.each_key.result (λ v. IsArrayOf IsKey c.keys.result.now (view v)) (λ v. IsStream keys (view v))
    (λ v a. stream_of keys (view v) (subst (λ keys. IsArrayOf IsKey keys (view v)) c.keys.ensures.keys a) c.keys.ensures.sound.some c.requires)
    c.each_key.ensures
