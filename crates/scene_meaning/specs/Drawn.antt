-- What an effect draws, from the planes that it wants.
use Rattle.std.specs.Prelude.{ℕ, zero, suc, ℤ, List, [], map, slice_get, unwrap_or}
use Rattle.std.specs.Option.{option_map_or}
use Rattle.geom_rect.specs.Rect.{frame_rect}
use Rattle.argb_pixel.specs.Pixel.{clear}
use Rattle.comp_stack.specs.Stack.{Plane}
use Rattle.project_model.specs.Effects.{Use}
use Rattle.project_model.specs.declared.plain.PlainFx.{PlainFx}
use Rattle.effect_api.specs.declared.moment.Moment.{Moment}
use Rattle.effect_api.specs.declared.moment.Want.{Want}
use Rattle.effect_api.specs.declared.moment.Ask.{Ask}
use Rattle.effect_api.specs.Planes.{extents_of}
use Rattle.effect_api.specs.Sets.{EffectSet, Drawing}

-- nowhere
abbrev pub nothing : Plane
nothing = record { extent = frame_rect 0 0; at = λ x y. clear }

-- The use of an effect as it is written. Where what is written is no hex text, which no rule accepts, there is no sequence data.
abbrev pub use_in : PlainFx → Use
use_in fx = record { kind = fx.kind; params = fx.params; layers = fx.layers; sequence = unwrap_or fx.sequence [] }

-- when an effect is drawn: so many ticks a second, how many a frame of its composition lasts, and the tick
abbrev pub moment_at : ℕ → ℤ → ℤ → Moment
moment_at base frame t = record { base = record { ticks = base }; tick = record { 0 = t }; frame = frame }

-- what an effect is drawn from: where input 0 is this, and each further one is the layer that the effect's list names there
abbrev pub input_plane : ℕ → (ℤ → Plane) → (ℕ → ℤ → Plane) → List ℕ → ℤ → Plane
input_plane zero input named layers t = input t
input_plane (suc index) input named layers t = option_map_or (λ layer. named layer t) (slice_get layers index) nothing

-- The plane of an effect at a moment, where these are the planes that it may want: drawn over its bounds, from its wants and from
-- the sums of what it asks for, each over the whole plane.
abbrev pub drawn_plane : EffectSet → Drawing → Use → Moment → (Want → Plane) → Plane
drawn_plane set drawing fx at wanted = record {
  extent = set.bounds fx at (extents_of (map wanted (set.wants fx at)));
  at = drawing.draws fx at (map wanted (set.wants fx at))
      (map (λ (ask : Ask). drawing.sums_of ask.class ask.ask (wanted ask.want)) (set.asks fx at));
}
