use Rattle.std.proofs.Common.{rules, ◌≡◌, ◌≤◌, All, take, min, subst, arith}
use Rattle.std.proofs.lemmas.List.{take_all}
use Rattle.argb_pixel.specs.Pixel.{Argb}
use Rattle.argb_pixel.specs.Packed.{pixels_of}
use Rattle.argb_pixel.proofs.Parts.{pixels_length}
use Rattle.argb_pixel.proofs.Places.{all_more}
use Rattle.comp_stack.proofs.over.least_alpha.Goals as goal

pub loop-i-preserved : goal.loop-i-preserved
loop-i-preserved g c =
    let pixels = pixels_of g.row.MAX c.args.row.now in
    let many = pixels_length g.row.MAX c.args.count c.args.row.now c.requires.depth c.requires.long in
    let least : c.min-least.result ≡ min c.loop-i.least c.a.result = search rules in
    let so_far : All (λ (p : Argb). c.min-least.result ≤ p.a) (take c.loop-i.i pixels) = λ k d l. omega (arith, c.loop-i.invariant k d l, least) in
    all_more (λ p. c.min-least.result ≤ p.a) pixels c.loop-i.i c.pixel_in.result so_far (omega (arith, least, c.a.ensures.value)) (omega (arith, many, c.loop-i-test.true)) c.pixel_in.ensures

pub returns : goal.returns
returns g c =
    let pixels = pixels_of g.row.MAX c.args.row.now in
    let many = pixels_length g.row.MAX c.args.count c.args.row.now c.requires.depth c.requires.long in
    subst (All (λ (p : Argb). c.loop-i.least ≤ p.a)) (take_all c.loop-i.i pixels (omega (arith, many, c.loop-i-test.false))) c.loop-i.invariant
