use Rattle.std.proofs.Common.{◌≤◌, length, arith}
use Rattle.project_model.specs.Clip.{clip_length}
use Rattle.frame_file.proofs.Scan.{rest_is}
use Rattle.frame_file.proofs.Answers.{on_ok, if_err}
use Rattle.frame_file.proofs.Bodies.{body_passes, body_refuses}
use Rattle.frame_file.proofs.judge.judge_body.Goals as goal

pub returns-clause-passed : goal.returns-clause-passed
returns-clause-passed c =
    let all : clip_length c.args.declared.now ≤ length c.args.bytes.now = omega (arith, c.file_length-want.ensures.value, c.if-have-want.false) in
    let ended : c.args.there ≤ clip_length c.args.declared.now = omega (arith, c.file_length-want.ensures.value, c.if-want-there.false) in
    on_ok c.judge_pixels.result (body_passes c.args.there c.args.bytes.now c.args.declared.now all ended) (simp rest_is at c.judge_pixels.ensures.sound)

pub returns-clause-sound : goal.returns-clause-sound
returns-clause-sound c = simp rest_is at c.judge_pixels.ensures.sound

pub returns-clause-refused : goal.returns-clause-refused
returns-clause-refused c =
    let all : clip_length c.args.declared.now ≤ length c.args.bytes.now = omega (arith, c.file_length-want.ensures.value, c.if-have-want.false) in
    let ended : c.args.there ≤ clip_length c.args.declared.now = omega (arith, c.file_length-want.ensures.value, c.if-want-there.false) in
    if_err _ _ c.judge_pixels.result (λ why. body_refuses c.args.there c.args.bytes.now c.args.declared.now why all ended) (simp rest_is at c.judge_pixels.ensures.refused)
