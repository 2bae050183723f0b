use Rattle.std.proofs.Common.{◌≡◌, codes, ap, sym, subst, ◌∙◌}
use Rattle.serde_json.specs.Data.{object, string}
use Rattle.serde_json.specs.View.{view, members_view}
use Rattle.project_write.specs.Parts.{IsClip, object_of}
use Rattle.project_write.proofs.ObjectLemmas.{put_next, put_as}
use Rattle.project_write.proofs.CompLemmas.{clip_of, clip_members}
use Rattle.project_write.proofs.comps.clip_value.Goals as goal

pub returns : goal.returns
returns c =
    let clip = c.args.clip.now in
    let width = view c.count_value.result in
    let height = view c.count_value-2.result in
    let depth = view c.byte_value.result in
    let frame = view c.in_ok-frame.frame in
    let frames = view c.count_value-3.result in
    let built : view c.from.result ≡ object_of (clip_members depth frame frames height clip.name width) =
    c.from.ensures ∙ ap object (
    put_next (codes "frames") frames _ _ _ c.in_ok-put-6.ensures.ok
    (put_next (codes "frame") frame _ _ _ c.in_ok-put-5.ensures.ok
    (put_next (codes "depth") depth _ _ _ c.in_ok-put-4.ensures.ok
    (put_next (codes "height") height _ _ _ c.in_ok-put-3.ensures.ok
    (put_next (codes "width") width _ _ _ c.in_ok-put-2.ensures.ok
    (put_as (codes "name") _ (string clip.name) _ _ _ c.in_ok-put.ensures.ok (c.in_ok-name.ensures ∙ ap string c.as_str.ensures)
    (ap members_view c.new-members.ensures.empty))))))
    ) in
    subst (IsClip clip) (sym built)
    (clip_of clip depth frame frames height width c.byte_value.ensures.byte c.in_ok-frame.ensures c.count_value-3.ensures c.count_value-2.ensures c.count_value.ensures)
