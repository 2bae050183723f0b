use Rattle.std.proofs.Common.{◌≡◌, take}
use Rattle.effect_api.specs.Checked.{planes_of}
use Rattle.fx_time.specs.Worlds.{planes_in}
use Rattle.fx_time.proofs.draw.worlds_of.Given as goal

abbrev pub invariant-loop-k : goal.invariant-loop-k
invariant-loop-k g l = planes_in l.worlds.items ≡ take l.k (planes_of l.pixels.pairs)
