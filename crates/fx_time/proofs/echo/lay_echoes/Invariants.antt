use Rattle.std.proofs.Common.{◌≡◌}
use Rattle.argb_pixel.specs.Packed.{pixels_of, IsPacked}
use Rattle.fx_time.proofs.Spans.{echo_row}
use Rattle.fx_time.proofs.echo.lay_echoes.Given as goal

abbrev pub invariant-echoes : goal.invariant-echoes
invariant-echoes g l = record {
  packed : IsPacked g.row.MAX l.into;
  pixels : pixels_of g.row.MAX l.into ≡ echo_row g.row.MAX l.rule.worlds.now l.rule.strengths.now l.x l.y l.count l.n;
}
