use Rattle.std.specs.Prelude.{Some}
use Rattle.project_model.proofs.Copied.{layer_scaled}
use Rattle.project_model.proofs.copy.plain_layer.Goals as goal

pub returns-clause-scaled : goal.returns-clause-scaled
returns-clause-scaled c =
    let layer = c.args.layer.now in
    layer_scaled
    (record {
      source = layer.source;
      start = layer.start;
      in_point = layer.in_point;
      out_point = layer.out_point;
      mode = Some layer.mode;
      matte = Some layer.matte;
      opacity = c.in_ok-plain_keys.field-0;
      x = c.in_ok-plain_keys-2.field-0;
      y = c.in_ok-plain_keys-3.field-0;
      effects = c.in_ok-plain_effects.field-0;
    })
    layer.start_scaled layer.in_scaled layer.out_scaled
    c.in_ok-plain_keys.ensures.scaled c.in_ok-plain_keys-2.ensures.scaled c.in_ok-plain_keys-3.ensures.scaled
    c.in_ok-plain_effects.ensures.scaled
