-- A project that keeps the rules has, in plain parts, the counts and scales that it may have.
use Rattle.std.proofs.Common.{◌≡◌, ℕ, zero, suc, ◌*◌, ◌/◌, ◌≤◌, List, [], ◌∷◌, length, map, ap, arith}
use Rattle.std.specs.Prelude.{slice_index_or}
use Rattle.std.specs.List.{All}
use Rattle.std.proofs.Math.Nat.{zero-div}
use Rattle.std.proofs.lemmas.List.{length-map}
use Rattle.std.proofs.lemmas.List.Elements.{All-nil, All-cons, All-map}
use Rattle.rational_time.specs.Times.{common_base, common_divisor}
use Rattle.rational_time.specs.declared.time.Time.{Time}
use Rattle.param_stream.specs.Curve.{Curve}
use Rattle.project_model.specs.Bounds.{most_keys}
use Rattle.project_model.specs.Form.{IsKeyCount, IsFormedFx, IsFormedLayer, IsFormedComp, IsFormed}
use Rattle.project_model.specs.Plain.{plain_fx, plain_layer, plain_comp, plain_of}
use Rattle.project_model.specs.Sound.{IsSoundLayer, IsSoundComp, IsSound}
use Rattle.project_model.specs.Times.{times_of}
use Rattle.project_model.specs.declared.comp.Comp.{Comp}
use Rattle.project_model.specs.declared.effect.FxUse.{FxUse}
use Rattle.project_model.specs.declared.layer.Layer.{Layer}
use Rattle.project_model.specs.declared.project.Project.{Project}
use Rattle.project_model.proofs.Joined.{same_count}

-- ---- scales

-- a number that 0 has no part in
scale_some : (scale rest : ℕ) → 1 ≤ scale / common_divisor scale rest * rest → 1 ≤ scale
scale_some zero rest some = absurd (omega (arith, some, ap (λ n. n * rest) (zero-div (common_divisor 0 rest))))
scale_some (suc n) rest some = omega arith

rest_some : (q rest : ℕ) → 1 ≤ q * rest → 1 ≤ rest
rest_some q zero some = absurd (omega (arith, some))
rest_some q (suc n) some = omega arith

-- times that have a base have scales
scaled_by : (times : List Time) → 1 ≤ common_base times → All (λ time. 1 ≤ time.scale) times
scaled_by [] some = All-nil (λ time. 1 ≤ time.scale)
scaled_by (time ∷ times) some =
    All-cons (λ time. 1 ≤ time.scale) time times
    (scale_some time.scale (common_base times) some)
    (scaled_by times (rest_some (time.scale / common_divisor time.scale (common_base times)) (common_base times) some))

-- ---- counts

formed_fx : (fx : FxUse) → All (λ curve. length curve.keys ≤ most_keys) fx.params → All (λ curve. 1 ≤ length curve.keys) fx.params → IsFormedFx (plain_fx fx)
formed_fx fx few some = record {
  params = All-map IsKeyCount (λ (curve : Curve). curve.keys) fx.params (λ i d l. record { some = some i d l; few = few i d l });
}

formed_layer : (depth base clips comps : ℕ) (layer : Layer) → IsSoundLayer depth base clips comps layer → IsFormedLayer (plain_layer layer)
formed_layer depth base clips comps layer is = record {
  opacity = record { some = is.streams.opacity.some; few = layer.few_opacities };
  x = record { some = is.streams.x.some; few = layer.few_xs };
  y = record { some = is.streams.y.some; few = layer.few_ys };
  few_effects = omega (arith, length-map layer.effects plain_fx, layer.few_effects);
  effects = All-map IsFormedFx plain_fx layer.effects (λ i d l. formed_fx (slice_index_or layer.effects i d) (layer.few_values i d l) (is.streams.effects i d l).some);
}

formed_comp : (depth base clips comps : ℕ) (comp : Comp) → IsSoundComp depth base clips comps comp → IsFormedComp (plain_comp comp)
formed_comp depth base clips comps comp is = record {
  few_layers = omega (arith, length-map comp.layers plain_layer, comp.few_layers);
  layers = All-map IsFormedLayer plain_layer comp.layers (λ i d l. formed_layer depth base clips comps (slice_index_or comp.layers i d) (is.layers i d l));
}

pub sound_formed : (project : Project) → IsSound project → IsFormed (plain_of project)
sound_formed project is =
    let count : length (map plain_comp project.comps) ≡ length project.comps = length-map project.comps plain_comp in
    record {
      bits = project.bits;
      few_clips = project.few_clips;
      some_comp = omega (arith, count, project.some_comp);
      few_comps = omega (arith, count, project.few_comps);
      few_layers = omega (arith, same_count project.comps, project.few_layers);
      comps = All-map IsFormedComp plain_comp project.comps
          (λ i d l. formed_comp project.depth project.base.ticks (length project.clips) (length project.comps) (slice_index_or project.comps i d) (is.comps i d l));
      scaled = scaled_by (times_of (plain_of project)) (omega (arith, is.base, is.some_base));
    }
