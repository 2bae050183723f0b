use Rattle.std.proofs.Common.{◌≡◌, codes, ap, sym, subst, ◌∙◌}
use Rattle.serde_json.specs.Data.{object}
use Rattle.serde_json.specs.View.{view, members_view}
use Rattle.project_write.specs.Parts.{IsArrayOf, IsClip, IsComp, IsProject, object_of}
use Rattle.project_write.proofs.ObjectLemmas.{put_next}
use Rattle.project_write.proofs.ProjectLemmas.{project_is, project_members}
use Rattle.project_write.proofs.write.project_value.Goals as goal

pub returns : goal.returns
returns c =
    let schemas = c.args.schemas.now in
    let project = c.args.project.now in
    let version = view c.count_value.result in
    let depth = view c.byte_value.result in
    let root = view c.count_value-2.result in
    let clips = view c.in_ok-clips.clips in
    let comps = view c.in_ok-comps.comps in
    let built : view c.from.result ≡ object_of (project_members clips comps depth root version) =
    c.from.ensures ∙ ap object (
    put_next (codes "comps") comps _ _ _ c.in_ok-put-5.ensures.ok
    (put_next (codes "clips") clips _ _ _ c.in_ok-put-4.ensures.ok
    (put_next (codes "root") root _ _ _ c.in_ok-put-3.ensures.ok
    (put_next (codes "depth") depth _ _ _ c.in_ok-put-2.ensures.ok
    (put_next (codes "version") version _ _ _ c.in_ok-put.ensures.ok
    (ap members_view c.new-members.ensures.empty)))))
    ) in
    subst (IsProject schemas project) (sym built)
    (project_is schemas project clips comps depth root version (subst (λ xs. IsArrayOf IsClip xs clips) c.as_slice.ensures c.in_ok-clips.ensures)
    (subst (λ xs. IsArrayOf (IsComp schemas) xs comps) c.as_slice-2.ensures c.in_ok-comps.ensures)
    c.byte_value.ensures.count c.count_value-2.ensures c.count_value.ensures)
