use Rattle.std.proofs.Common.{[], ◌∷◌, ap, subst, sym, ◌∙◌, arith}
use Rattle.std.proofs.lemmas.Result.{on_ok_weaker}
use Rattle.comp_stack.specs.Stack.{Plane}
use Rattle.project_model.specs.Effects.{use_of}
use Rattle.effect_api.specs.Fits.{FitsSchema}
use Rattle.effect_api.specs.Checked.{planes_of, sums_in, AreChecked, AreSums}
use Rattle.fx_color.specs.Color.{color_draws}
use Rattle.fx_stock.specs.declared.part.Part.{Part}
use Rattle.fx_stock.specs.Stock.{IsPart, part_schema, part_wants, part_asks, part_draws, stock_sums}
use Rattle.fx_stock.specs.Laws.{fits_part}
use Rattle.fx_stock.proofs.stock.StockDraw.smart_render.Goals as goal

pub recolor_use-requires : goal.recolor_use-requires
recolor_use-requires g c =
    let fx = use_of c.args.fx.now in
    let is = sym c.part_of.ensures ∙ c.in-Color.is in
    let part = fits_part fx c.requires.given.fits in
    (omega arith, (c.requires.depth, (subst IsPart is part.known, (subst (λ (p : Part). FitsSchema (part_schema p) fx) is part.fits, c.requires.based))))

pub draw_spatial-requires : goal.draw_spatial-requires
draw_spatial-requires g c =
    let fx = use_of c.args.fx.now in
    let is = sym c.part_of.ensures ∙ c.in-Spatial.is in
    let part = fits_part fx c.requires.given.fits in (
      omega arith,
      (
        omega arith,
        (
          c.requires.depth,
          (
            subst (λ (p : Part). FitsSchema (part_schema p) fx) is part.fits,
            (
              c.requires.based,
              (subst (λ (p : Part). AreChecked (part_wants p fx c.args.at) c.args.at c.args.pixels.now.pairs) is c.requires.pixels, c.requires.part),
            ),
          ),
        ),
      ),
    )

pub draw_time-requires : goal.draw_time-requires
draw_time-requires g c =
    let fx = use_of c.args.fx.now in
    let is = sym c.part_of.ensures ∙ c.in-Time.is in
    let part = fits_part fx c.requires.given.fits in (
      omega arith,
      (
        omega arith,
        (
          c.requires.depth,
          (
            subst (λ (p : Part). FitsSchema (part_schema p) fx) is part.fits,
            (c.requires.based, subst (λ (p : Part). AreChecked (part_wants p fx c.args.at) c.args.at c.args.pixels.now.pairs) is c.requires.pixels),
          ),
        ),
      ),
    )

pub draw_analysis-requires : goal.draw_analysis-requires
draw_analysis-requires g c =
    let fx = use_of c.args.fx.now in
    let is = sym c.part_of.ensures ∙ c.in-Analysis.is in
    let part = fits_part fx c.requires.given.fits in (
      omega arith,
      (
        omega arith,
        (
          c.requires.depth,
          (
            subst (λ (p : Part). FitsSchema (part_schema p) fx) is part.fits,
            (
              c.requires.based,
              (
                subst (λ (p : Part). AreChecked (part_wants p fx c.args.at) c.args.at c.args.pixels.now.pairs) is c.requires.pixels,
                (c.requires.receipts, subst (λ (p : Part). AreSums g.row.MAX stock_sums (part_asks p fx c.args.at) (sums_in c.args.sums.now)) is c.requires.sums),
              ),
            ),
          ),
        ),
      ),
    )

pub returns-in-Color-clause-drawn : goal.returns-in-Color-clause-drawn
returns-in-Color-clause-drawn g c =
    let fx = use_of c.args.fx.now in
    let planes = planes_of c.args.pixels.now.pairs in
    on_ok_weaker c.recolor_use.result
    (λ shows x y h. shows x y h ∙ ap (λ (p : Plane). color_draws c.in-Color.kind fx c.args.at (p ∷ []) x y) c.checkout_want.ensures.plane
    ∙ ap (λ (p : Part). part_draws g.row.MAX p fx c.args.at planes (sums_in c.args.sums.now) x y) (sym (sym c.part_of.ensures ∙ c.in-Color.is)))
    c.recolor_use.ensures.drawn
