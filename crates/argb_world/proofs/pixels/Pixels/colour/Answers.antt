use Rattle.std.proofs.Common.{rules, ◌≡◌, length, replicate, vec_capacity, ap, sym, ◌∙◌}
use Rattle.argb_world.specs.Kept.{Rows}
use Rattle.argb_world.proofs.KeptLemmas.{seen_length, kept_none}
use Rattle.argb_world.proofs.pixels.Pixels.colour.Goals as goal

pub returns-then-is_empty : goal.returns-then-is_empty
returns-then-is_empty g c =
    let p = c.self.inside in
    let k = c.self.invariant in
    let none : length p.written.items ≡ 0 = search rules in
    let many = seen_length g.row.MAX p.written.items p.ground.row.items (vec_capacity p.written) p.ground.count p.ground.width p.ground.colour c.args.self.now k c.self.view_is in
    sym (ap (λ (r : Rows). r.pixels) c.self.view_is) ∙ kept_none g.row.MAX p.written.items p.ground.count p.ground.colour k.depth none
    ∙ ap (λ n. replicate n p.ground.colour) (sym many)
