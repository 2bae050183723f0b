use Rattle.std.proofs.Common.{ℕ, ◌≡◌, List, length, map, subst, sym, ap, ◌∙◌}
use Rattle.std.specs.List.{All}
use Rattle.sequence_data.specs.Sequence.{Fits}
use Rattle.param_stream.specs.Curve.{Curve}
use Rattle.project_model.specs.Effects.{AreInRange}
use Rattle.fx_time.specs.Time.{time_schema}
use Rattle.effect_tests.proofs.Constants.{constants_in_range, constants_based}
use Rattle.effect_tests.proofs.time.timed.Goals as goal

pub returns-clause-fits : goal.returns-clause-fits
returns-clause-fits c =
    let schema = time_schema c.args.kind in
    record {
      in_range = subst (λ (curves : List Curve). AreInRange schema.params (map (λ (curve : Curve). curve.keys) curves)) (sym c.from_vec-params.ensures)
          (constants_in_range schema.params c.args.values.now c.in_ok-constants.field-0.items c.requires.values c.in_ok-constants.ensures);
      layers_are = ap length (c.from_vec.ensures ∙ c.new.ensures.items) ∙ sym c.requires.layers;
      sequence_fits = subst (λ (n : ℕ). Fits schema.sequence n) (sym (ap length (c.from_vec-2.ensures ∙ c.new-2.ensures.items))) c.requires.sequence;
    }

pub returns-clause-based : goal.returns-clause-based
returns-clause-based c =
    subst (All (λ (curve : Curve). curve.base ≡ 24)) (sym c.from_vec-params.ensures) (constants_based c.args.values.now c.in_ok-constants.field-0.items c.in_ok-constants.ensures)
