use Rattle.std.proofs.Common.{◌∙◌, ap, sym}
use lib.Lanes.{zip2}
use Rattle.argb_pixel.specs.Packed.{pixels_of}
use Rattle.argb_pixel.proofs.Places.{same_count}
use Rattle.track_matte.specs.declared.matte.Matte.{Matte}
use Rattle.track_matte.specs.Mattes.{matted}
use Rattle.track_matte.proofs.Unchanged.{zip2_leaves, none_leaves}
use Rattle.track_matte.proofs.matte.apply_packed.Goals as goal

pub returns-in-None-clause-value : goal.returns-in-None-clause-value
returns-in-None-clause-value g c =
    zip2_leaves (matted g.row.MAX c.args.kind) (pixels_of g.row.MAX c.args.q.now) (pixels_of g.row.MAX c.args.p.now) (λ q p. ap (λ (kind : Matte). matted g.row.MAX kind q p) c.in-None.is ∙ none_leaves g.row.MAX q p c.requires.depth)
    (same_count g.row.MAX c.args.p.now c.args.q.now c.requires.depth c.requires.long c.requires.layer)

pub returns-in-Alpha-clause-value : goal.returns-in-Alpha-clause-value
returns-in-Alpha-clause-value g c =
    c.blend_packed.ensures.value ∙ ap (λ (kind : Matte). zip2 (matted g.row.MAX kind) (pixels_of g.row.MAX c.args.q.now) (pixels_of g.row.MAX c.args.p.now)) (sym c.in-Alpha.is)

pub returns-in-AlphaInverted-clause-value : goal.returns-in-AlphaInverted-clause-value
returns-in-AlphaInverted-clause-value g c =
    c.blend_packed-in-AlphaInverted.ensures.value ∙ ap (λ (kind : Matte). zip2 (matted g.row.MAX kind) (pixels_of g.row.MAX c.args.q.now) (pixels_of g.row.MAX c.args.p.now)) (sym c.in-AlphaInverted.is)

pub returns-in-Luma-clause-value : goal.returns-in-Luma-clause-value
returns-in-Luma-clause-value g c =
    c.blend_packed-in-Luma.ensures.value ∙ ap (λ (kind : Matte). zip2 (matted g.row.MAX kind) (pixels_of g.row.MAX c.args.q.now) (pixels_of g.row.MAX c.args.p.now)) (sym c.in-Luma.is)

pub returns-in-LumaInverted-clause-value : goal.returns-in-LumaInverted-clause-value
returns-in-LumaInverted-clause-value g c =
    c.blend_packed-in-LumaInverted.ensures.value ∙ ap (λ (kind : Matte). zip2 (matted g.row.MAX kind) (pixels_of g.row.MAX c.args.q.now) (pixels_of g.row.MAX c.args.p.now)) (sym c.in-LumaInverted.is)
