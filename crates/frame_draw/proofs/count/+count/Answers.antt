use Rattle.std.proofs.Common.{ℕ, subst, sym, arith}
use Rattle.project_model.specs.Sound.{IsWritten}
use Rattle.frame_draw.proofs.count.+count.Goals as goal

pub count_source-since_start-since-requires : goal.count_source-since_start-since-requires
count_source-since_start-since-requires t c = subst (λ (b : ℕ). IsWritten b c.args.layer.now.start) (sym c.base_of.ensures.ticks) c.requires.start

pub count_uses-is_in_time-requires : goal.count_uses-is_in_time-requires
count_uses-is_in_time-requires t c = subst (λ (b : ℕ). IsWritten b c.comp_at-comp.result.now.frame) (sym c.base_of-base.ensures.ticks) c.comp_at-comp.ensures.sound.frame

pub count_layer-count_source-requires-then-named-as_slice : goal.count_layer-count_source-requires-then-named-as_slice
count_layer-count_source-requires-then-named-as_slice t c =
    let inside = c.layer_at.ensures.inside c.args.comp.now c.requires.layer.here in (omega (arith, inside.below, c.decreases), inside.sound)

pub count_uses-is_seen-requires-clause-begin : goal.count_uses-is_seen-requires-clause-begin
count_uses-is_seen-requires-clause-begin t c = subst (λ (b : ℕ). IsWritten b c.layer_at-layer.result.now.in_point) (sym c.base_of-base.ensures.ticks) c.layer_at-layer.ensures.sound.in_point

pub count_uses-is_seen-requires-then-has_matte-clause-begin : goal.count_uses-is_seen-requires-then-has_matte-clause-begin
count_uses-is_seen-requires-then-has_matte-clause-begin t c = subst (λ (b : ℕ). IsWritten b c.layer_at-above.result.now.in_point) (sym c.base_of-base.ensures.ticks) c.layer_at-above.ensures.sound.in_point

pub count_uses-count_layer-requires-then-is_seen-2 : goal.count_uses-count_layer-requires-then-is_seen-2
count_uses-count_layer-requires-then-is_seen-2 t c = (omega (arith, c.decreases), c.layer_at-above.ensures.inside c.comp_at-comp.result.now c.comp_at-comp.ensures.here)
