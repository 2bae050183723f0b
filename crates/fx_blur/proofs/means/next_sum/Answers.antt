use Rattle.std.proofs.Common.{◌∙◌, arith}
use Rattle.fx_blur.proofs.Adding.{adding_fits, moved_on, leaving_holds, left_is}
use Rattle.fx_blur.proofs.means.next_sum.Goals as goal

pub plus-requires : goal.plus-requires
plus-requires c =
    adding_fits c.args.columns.now c.args.place c.args.across c.args.sum c.index-columns-place.result c.requires.within c.requires.there
    (omega (arith, c.requires.few)) c.requires.sum c.index-columns-place.is

pub minus-requires : goal.minus-requires
minus-requires c =
    leaving_holds c.args.columns.now c.args.place c.args.across c.args.sum c.index-columns-place-2.result c.index-columns-place.result c.plus.result
    (moved_on c.args.columns.now c.args.place c.args.across c.args.sum c.index-columns-place-2.result c.index-columns-place.result c.plus.result
    c.requires.there c.requires.sum c.index-columns-place.is c.index-columns-place-2.is c.plus.ensures)

pub returns : goal.returns
returns c =
    c.minus.ensures ∙ left_is c.args.columns.now c.args.place c.args.across c.args.sum c.index-columns-place-2.result c.index-columns-place.result c.plus.result
    (moved_on c.args.columns.now c.args.place c.args.across c.args.sum c.index-columns-place-2.result c.index-columns-place.result c.plus.result
    c.requires.there c.requires.sum c.index-columns-place.is c.index-columns-place-2.is c.plus.ensures)
