use Rattle.std.proofs.Common.{subst, sym, ◌∙◌}
use Rattle.project_model.specs.Effects.{use_of}
use Rattle.effect_api.specs.Fits.{FitsSchema}
use Rattle.fx_stock.specs.declared.part.Part.{Part}
use Rattle.fx_stock.specs.Stock.{part_schema}
use Rattle.fx_stock.specs.Laws.{fits_part}
use Rattle.fx_stock.proofs.stock.StockEffect.list_wants.Goals as goal

pub time_wants-requires-clause-fits : goal.time_wants-requires-clause-fits
time_wants-requires-clause-fits c =
    let fx = use_of c.args.fx.now in
    subst (λ (p : Part). FitsSchema (part_schema p) fx) (sym c.part_of.ensures ∙ c.in-Time.is) (fits_part fx c.requires.given.fits).fits
