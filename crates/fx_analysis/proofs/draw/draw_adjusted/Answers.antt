use Rattle.std.proofs.Common.{sym, subst, arith}
use Rattle.std.proofs.lemmas.List.{length-map}
use Rattle.project_model.specs.Effects.{use_of}
use Rattle.effect_api.specs.Checked.{value_sums, sums_in, AreSums}
use Rattle.fx_color.specs.Color.{amount_of}
use Rattle.fx_analysis.specs.declared.kind.AnalysisKind.{AnalysisKind}
use Rattle.fx_analysis.specs.Sums.{analysis_sums}
use Rattle.fx_analysis.specs.Analysis.{analysis_asks}
use Rattle.fx_analysis.specs.Counts.{AreCounts}
use Rattle.fx_analysis.proofs.Given.{given_counts, given_lights}
use Rattle.fx_analysis.proofs.draw.draw_adjusted.Goals as goal

pub level_world-requires : goal.level_world-requires
level_world-requires g c =
    let sums = sums_in c.args.sums.now in
    let given = subst (λ (k : AnalysisKind). AreSums g.row.MAX analysis_sums (analysis_asks k (use_of c.args.fx.now) c.args.at) sums) c.in-AutoLevels.is c.requires.sums in
    (omega arith, (c.requires.depth, (omega (arith, c.clip_at.ensures.within), subst AreCounts (sym c.sums_at.ensures) (given_counts g.row.MAX c.args.at sums given).1)))

pub equalize_world-requires : goal.equalize_world-requires
equalize_world-requires g c =
    let sums = sums_in c.args.sums.now in
    let given = subst (λ (k : AnalysisKind). AreSums g.row.MAX analysis_sums (analysis_asks k (use_of c.args.fx.now) c.args.at) sums) c.in-Equalize.is c.requires.sums in
    (omega arith, (c.requires.depth, subst AreCounts (sym c.sums_at-in-Equalize.ensures) (given_counts g.row.MAX c.args.at sums given).1))

pub light_at-middle-requires : goal.light_at-middle-requires
light_at-middle-requires g c =
    let sums = sums_in c.args.sums.now in
    let given = subst (λ (k : AnalysisKind). AreSums g.row.MAX analysis_sums (analysis_asks k (use_of c.args.fx.now) c.args.at) sums) c.in-Deflicker.is c.requires.sums in
    let lights = given_lights g.row.MAX (amount_of (use_of c.args.fx.now) 0 c.args.at) c.args.at sums c.requires.depth given in
    let count = length-map c.args.sums.now (λ receipt. value_sums receipt.value) in
    (omega arith, (omega (arith, lights.0, count, c.radius_at.ensures.value), (c.requires.receipts, lights.1)))

pub all_light-all-requires : goal.all_light-all-requires
all_light-all-requires g c =
    let sums = sums_in c.args.sums.now in
    let given = subst (λ (k : AnalysisKind). AreSums g.row.MAX analysis_sums (analysis_asks k (use_of c.args.fx.now) c.args.at) sums) c.in-Deflicker.is c.requires.sums in
    let lights = given_lights g.row.MAX (amount_of (use_of c.args.fx.now) 0 c.args.at) c.args.at sums c.requires.depth given in
    let count = length-map c.args.sums.now (λ receipt. value_sums receipt.value) in
    (omega arith, (omega (arith, lights.0, count, c.radius_at.ensures.value, c.radius_at.ensures.within), (c.requires.receipts, lights.1)))
