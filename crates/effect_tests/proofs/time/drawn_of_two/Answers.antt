use Rattle.std.proofs.Common.{length, ap, inl, refl, arith}
use Rattle.project_model.specs.Effects.{use_of}
use Rattle.effect_api.specs.declared.checkouts.PixelsOf.TheVariants.{Drawn}
use Rattle.effect_tests.proofs.AtFirst.{two_put, two_checked, not_shared, none_left}
use Rattle.effect_tests.proofs.time.drawn_of_two.Goals as goal

pub draw_time-done-requires : goal.draw_time-done-requires
draw_time-done-requires c =
    let first = c.args.worlds.0 in
    let second = c.args.worlds.1 in
    let pairs = two_put c.in_ok-pixels.pixels.pairs c.put.new.self.pairs c.put-2.new.self.pairs (0, Drawn first) (1, Drawn second) c.in_ok-pixels.ensures.0 c.put.ensures.pairs c.put-2.ensures.pairs in (
      omega arith,
      (
        omega arith,
        (
          inl refl,
          (
            c.requires.fits,
            (
              c.requires.based,
              two_checked c.args.kind (use_of c.args.fx.now) c.args.at first second c.put-2.new.self.pairs pairs c.requires.lowest c.requires.frame c.requires.two c.requires.near c.requires.also,
            ),
          ),
        ),
      ),
    )

pub let_go-requires : goal.let_go-requires
let_go-requires c =
    not_shared c.args.worlds.0 c.args.worlds.1 c.put-2.new.self.pairs
    (two_put c.in_ok-pixels.pixels.pairs c.put.new.self.pairs c.put-2.new.self.pairs (0, Drawn c.args.worlds.0) (1, Drawn c.args.worlds.1) c.in_ok-pixels.ensures.0 c.put.ensures.pairs c.put-2.ensures.pairs)

pub end-requires : goal.end-requires
end-requires c =
    let pairs = two_put c.in_ok-pixels.pixels.pairs c.put.new.self.pairs c.put-2.new.self.pairs (0, Drawn c.args.worlds.0) (1, Drawn c.args.worlds.1) c.in_ok-pixels.ensures.0 c.put.ensures.pairs c.put-2.ensures.pairs in
    (omega arith, (omega arith, none_left c.let_go-2.new.pixels.pairs (omega (arith, c.let_go-2.ensures.fewer, c.let_go.ensures.fewer, ap length pairs))))
