use Rattle.std.proofs.Common.{◌≡◌, codes, ap, sym, subst, ◌∙◌}
use Rattle.serde_json.specs.Data.{object}
use Rattle.serde_json.specs.View.{view, members_view}
use Rattle.project_write.specs.Parts.{IsArrayOf, IsLayer, IsComp, object_of}
use Rattle.project_write.proofs.ObjectLemmas.{put_next}
use Rattle.project_write.proofs.CompLemmas.{comp_of, comp_members}
use Rattle.project_write.proofs.comps.comp_value.Goals as goal

pub returns : goal.returns
returns c =
    let schemas = c.args.schemas.now in
    let comp = c.args.comp.now in
    let width = view c.count_value.result in
    let height = view c.count_value-2.result in
    let frame = view c.in_ok-frame.frame in
    let frames = view c.count_value-3.result in
    let layers = view c.in_ok-layers.layers in
    let built : view c.from.result ≡ object_of (comp_members frame frames height layers width) =
    c.from.ensures ∙ ap object (
    put_next (codes "layers") layers _ _ _ c.in_ok-put-5.ensures.ok
    (put_next (codes "frames") frames _ _ _ c.in_ok-put-4.ensures.ok
    (put_next (codes "frame") frame _ _ _ c.in_ok-put-3.ensures.ok
    (put_next (codes "height") height _ _ _ c.in_ok-put-2.ensures.ok
    (put_next (codes "width") width _ _ _ c.in_ok-put.ensures.ok
    (ap members_view c.new-members.ensures.empty)))))
    ) in
    subst (IsComp schemas comp) (sym built)
    (comp_of schemas comp frame frames height layers width c.in_ok-frame.ensures c.count_value-3.ensures c.count_value-2.ensures
    (subst (λ ls. IsArrayOf (IsLayer schemas) ls layers) c.as_slice.ensures c.in_ok-layers.ensures) c.count_value.ensures)
