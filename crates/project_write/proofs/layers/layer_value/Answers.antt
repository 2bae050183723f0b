use Rattle.std.proofs.Common.{◌≡◌, codes, ap, sym, subst}
use Rattle.serde_json.specs.View.{view, members_view}
use Rattle.project_write.specs.Parts.{IsLayer, IsArrayOf, IsFx, WithEnd, members_of}
use Rattle.project_write.proofs.ObjectLemmas.{put_next}
use Rattle.project_write.proofs.LayerLemmas.{layer_of, open_members}
use Rattle.project_write.proofs.layers.layer_value.Goals as goal

pub returns : goal.returns
returns c =
    let schemas = c.args.schemas.now in
    let layer = c.args.layer.now in
    let source = view c.in_ok-source.source in
    let start = view c.in_ok-start.start in
    let begin = view c.in_ok-begin.begin in
    let mode = view c.in_ok-mode.mode in
    let matte = view c.in_ok-matte.matte in
    let opacity = view c.in_ok-opacity.opacity in
    let x = view c.in_ok-x.x in
    let y = view c.in_ok-y.y in
    let effects = view c.in_ok-effects.effects in
    let ms = members_view c.put-9.new.map.entries in
    let members : ms ≡ members_of (open_members effects begin matte mode opacity source start x y) =
    put_next (codes "effects") effects _ _ _ c.in_ok-put-9.ensures.ok
    (put_next (codes "y") y _ _ _ c.in_ok-put-8.ensures.ok
    (put_next (codes "x") x _ _ _ c.in_ok-put-7.ensures.ok
    (put_next (codes "opacity") opacity _ _ _ c.in_ok-put-6.ensures.ok
    (put_next (codes "matte") matte _ _ _ c.in_ok-put-5.ensures.ok
    (put_next (codes "mode") mode _ _ _ c.in_ok-put-4.ensures.ok
    (put_next (codes "in") begin _ _ _ c.in_ok-put-3.ensures.ok
    (put_next (codes "start") start _ _ _ c.in_ok-put-2.ensures.ok
    (put_next (codes "source") source _ _ _ c.in_ok-put.ensures.ok
    (ap members_view c.new-members.ensures.empty))))))))) in
    subst (IsLayer schemas layer) (sym c.from.ensures)
    (layer_of schemas layer effects begin matte mode opacity source start x y _ record {
      effects_are = subst (λ fxs. IsArrayOf (IsFx schemas) fxs effects) c.as_slice.ensures c.in_ok-effects.ensures;
      begin_is = c.in_ok-begin.ensures;
      matte_is = c.in_ok-matte.ensures;
      mode_is = c.in_ok-mode.ensures;
      opacity_is = c.in_ok-opacity.ensures;
      source_is = c.in_ok-source.ensures;
      start_is = c.in_ok-start.ensures;
      x_is = c.in_ok-x.ensures;
      y_is = c.in_ok-y.ensures;
    } (subst (λ ms. WithEnd layer.out_point ms (members_view c.put_end.new.members.entries)) members c.in_ok-put_end.ensures))
