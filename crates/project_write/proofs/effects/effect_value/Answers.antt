use Rattle.std.proofs.Common.{◌≡◌, codes, ap, sym, subst, ◌∙◌}
use Rattle.serde_json.specs.Data.{object, string}
use Rattle.serde_json.specs.View.{view, members_view}
use Rattle.project_write.specs.Parts.{IsFx, IsArrayOf, IsCount, IsHex}
use Rattle.project_write.proofs.ObjectLemmas.{put_next, put_as}
use Rattle.project_write.proofs.EffectLemmas.{fx_of, fx_data, IsCurve}
use Rattle.project_write.proofs.effects.effect_value.Goals as goal

pub returns : goal.returns
returns c =
    let schemas = c.args.schemas.now in
    let fx = c.args.fx.now in
    let name = c.effect_name.result.now in
    let params = view c.in_ok-params.params in
    let layers = view c.in_ok-layers.layers in
    let sequence = view c.in_ok-sequence.sequence in
    let built : view c.from.result ≡ fx_data name params layers sequence =
    c.from.ensures ∙ ap object (
    put_next (codes "sequence") sequence _ _ _ c.in_ok-put-4.ensures.ok
    (put_next (codes "layers") layers _ _ _ c.in_ok-put-3.ensures.ok
    (put_next (codes "params") params _ _ _ c.in_ok-put-2.ensures.ok
    (put_as (codes "effect") _ (string name) _ _ _ c.in_ok-put.ensures.ok c.in_ok-name.ensures
    (ap members_view c.new-members.ensures.empty))))
    ) in
    subst (IsFx schemas fx) (sym built)
    (fx_of schemas fx name params layers sequence c.requires.kind c.effect_name.ensures
    (subst (λ ps. IsArrayOf IsCurve ps params) c.as_slice.ensures c.in_ok-params.ensures)
    (subst (λ ls. IsArrayOf IsCount ls layers) c.as_slice-2.ensures c.in_ok-layers.ensures)
    (subst (λ bytes. IsHex bytes sequence) c.as_slice-3.ensures c.in_ok-sequence.ensures))
