-- What a stream keeps, and the curve that it stands for.
use Rattle.std.specs.Prelude.{◌≡◌, ◌^◌, ◌<◌, map}
use Rattle.param_stream.specs.Curve.{Curve, key_tick, IsSound}
use Rattle.param_stream.specs.declared.stream.Stream.TheInside.{Inside}

abbrev pub curve_of : Inside → Curve
curve_of s = record { base = s.base.ticks; keys = s.keys.items; least = s.least; most = s.most }

pub record IsKept (s : Inside) : Type 0 where
  pub sound : IsSound (curve_of s)
  pub ticks : s.ticks.items ≡ map (key_tick s.base.ticks) s.keys.items
  pub small : s.base.ticks < 2 ^ 32
