use Rattle.std.proofs.Common.{◌≡◌, ◌+◌, ◌-◌, Bor, length, map, get_or, ap, sym, arith, refl, ◌∙◌, w32, ℕ}
use lib.Lanes.{zip2}
use Rattle.std.specs.Int.RustNames.{FitsSigned}
use Rattle.std.proofs.lemmas.Int.{to_z-of_z}
use Rattle.argb_pixel.specs.Pixel.{Argb, scale_of}
use Rattle.argb_pixel.specs.Packed.{pixels_of}
use Rattle.argb_world.specs.Picture.{Picture, span_of}
use Rattle.transfer_mode.specs.declared.mode.Mode.TheVariants.{Normal}
use Rattle.transfer_mode.specs.Transfer.{blend_of}
use Rattle.fx_time.proofs.Spans.{clear_row, echo_row, echo_more}
use Rattle.fx_time.proofs.echo.lay_echoes.Goals as goal

pub echoes-init : goal.echoes-init
echoes-init g c = record {
  packed = c.clear_packed.ensures.packed;
  pixels = clear_row c.args.count (pixels_of g.row.MAX c.clear_packed.new.into) c.clear_packed.ensures.pixels;
}

pub echoes-preserved : goal.echoes-preserved
echoes-preserved g c =
    let s = c.args.rule.now in
    let x_fits : FitsSigned w32 c.args.x = c.ranges.x in
    let y_fits : FitsSigned w32 c.args.y = c.ranges.y in
    let old : pixels_of g.row.MAX c.echoes.into ≡ echo_row g.row.MAX s.worlds.now s.strengths.now c.args.x c.args.y c.args.count c.echoes.n = simp to_z-of_z at c.echoes.invariant.pixels in
    let place = length s.strengths.now - 1 - c.echoes.n in
    let strength : ℕ = get_or s.strengths.now place 0 in
    let world = c.index-rule-place.result in
    let onto = λ (w : Bor Picture). zip2 (blend_of g.row.MAX Normal) (map (λ (p : Argb). scale_of p strength) (span_of w.now c.args.x c.args.y c.args.count)) (pixels_of g.row.MAX c.echoes.into) in
    let there : pixels_of g.row.MAX c.lay_echo.new.into ≡ onto (get_or s.worlds.now (place + 1) world) = simp to_z-of_z at c.lay_echo.ensures.pixels in
    let laid : pixels_of g.row.MAX c.lay_echo.new.into ≡ onto world = there ∙ ap onto (sym c.index-rule-place.is) in
    record {
      packed = c.lay_echo.ensures.packed;
      pixels = simp to_z-of_z (echo_more g.row.MAX s.worlds.now s.strengths.now c.args.x c.args.y c.args.count c.echoes.n place world strength
          (pixels_of g.row.MAX c.echoes.into) (pixels_of g.row.MAX c.lay_echo.new.into) c.echoes-test.true refl s.one_each c.index-rule-place.is refl old laid);
    }

pub returns-clause-pixels : goal.returns-clause-pixels
returns-clause-pixels g c =
    let s = c.args.rule.now in
    let x_fits : FitsSigned w32 c.args.x = c.ranges.x in
    let y_fits : FitsSigned w32 c.args.y = c.ranges.y in
    let all : c.echoes.n ≡ length s.strengths.now = omega (arith, c.echoes.auto.n-end, c.echoes-test.false) in
    let drawn : pixels_of g.row.MAX c.echoes.into ≡ echo_row g.row.MAX s.worlds.now s.strengths.now c.args.x c.args.y c.args.count c.echoes.n = simp to_z-of_z at c.echoes.invariant.pixels in
    drawn ∙ ap (echo_row g.row.MAX s.worlds.now s.strengths.now c.args.x c.args.y c.args.count) all
