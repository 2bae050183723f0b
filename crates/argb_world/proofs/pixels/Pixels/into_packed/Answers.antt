use Rattle.std.proofs.Common.{rules, ◌<◌, All, vec_capacity, ap, sym, ◌∙◌}
use Rattle.std.specs.Prelude.{flat_map}
use Rattle.argb_pixel.specs.Packed.{packed}
use Rattle.argb_pixel.proofs.Bytes.{read_and_packed}
use Rattle.argb_world.specs.Kept.{Rows}
use Rattle.argb_world.proofs.KeptLemmas.{kept_all}
use Rattle.argb_world.proofs.pixels.Pixels.into_packed.Goals as goal

pub returns : goal.returns
returns g c =
    let most = g.row.MAX in
    let p = c.self.inside in
    let all = c.write_out.new.written in
    let small : All (λ byte. byte < 256) all.items = search rules in
    let k = c.write_out.ensures.kept in
    let shown = sym (kept_all most all.items p.ground.row.items (vec_capacity all) p.ground.count p.ground.width p.ground.colour k c.write_out.ensures.enough)
    ∙ c.write_out.ensures.same ∙ ap (λ (r : Rows). r.pixels) c.self.view_is in
    sym (read_and_packed most all.items k.depth k.written small) ∙ ap (flat_map (packed most)) shown
