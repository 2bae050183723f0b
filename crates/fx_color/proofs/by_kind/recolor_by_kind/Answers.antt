use Rattle.std.proofs.Common.{ℕ, sym, ap, ◌∙◌}
use Rattle.std.proofs.lemmas.Result.{on_ok_weaker}
use Rattle.argb_pixel.specs.Pixel.{Argb}
use Rattle.argb_world.specs.Picture.{at}
use Rattle.project_model.specs.Effects.{use_of}
use Rattle.fx_color.specs.Formulas.{mapped}
use Rattle.fx_color.specs.Color.{recoloured}
use Rattle.fx_color.proofs.by_kind.recolor_by_kind.Goals as goal

pub returns-in-4-clause-drawn : goal.returns-in-4-clause-drawn
returns-in-4-clause-drawn g c =
    let same = c.tint_of.ensures ∙ ap (λ (k : ℕ). recoloured k (use_of c.args.fx.now) c.args.at) (sym c.in-4.is) in
    on_ok_weaker c.recolor_world-in-4.result
    (λ shows x y h. shows x y h ∙ ap (λ (f : Argb → Argb). f (at c.args.from.now x y)) same) c.recolor_world-in-4.ensures.drawn

pub returns-in-5-clause-drawn : goal.returns-in-5-clause-drawn
returns-in-5-clause-drawn g c =
    let same = ap mapped c.palette_of.ensures ∙ ap (λ (k : ℕ). recoloured k (use_of c.args.fx.now) c.args.at) (sym c.in-5.is) in
    on_ok_weaker c.recolor_world-in-5.result
    (λ shows x y h. shows x y h ∙ ap (λ (f : Argb → Argb). f (at c.args.from.now x y)) same) c.recolor_world-in-5.ensures.drawn
