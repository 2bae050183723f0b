-- The layers that are drawn, in the order of the draws.
use Rattle.std.specs.Prelude.{ℕ, ◌+◌, ◌-◌, ◌*◌, ◌/◌, ◌%◌, ◌==◌, ◌&&◌, ◌||◌, Bool, List, [], pos, Some, Option, slice_get, if◌then◌else◌}
use Rattle.std.specs.declared.option.Option.TheVariants as option
use Rattle.rational_time.specs.declared.time.Time.{Time}
use Rattle.transfer_mode.specs.Names.{modes}
use Rattle.transfer_mode.specs.declared.mode.Mode.{Mode}
use Rattle.track_matte.specs.Names.{mattes}
use Rattle.track_matte.specs.declared.matte.Matte.{Matte as MatteKind}
use Rattle.track_matte.specs.declared.matte.Matte.TheVariants as matte
use Rattle.project_model.specs.Constant.{zero_time}
use Rattle.project_model.specs.declared.item.Item.{Item}
use Rattle.project_model.specs.declared.item.Item.TheVariants.{Solid, Comp}
use Rattle.project_model.specs.declared.plain.PlainFx.{PlainFx}
use Rattle.project_model.specs.declared.plain.PlainLayer.{PlainLayer}
use Rattle.scene_gen.specs.Draws.{Drawn, draw, several}
use Rattle.scene_gen.specs.Kinds.{ranges_of, layers_of, unit_of}
use Rattle.scene_gen.specs.Streams.{drawn_opacity, drawn_x, drawn_y, drawn_params}

-- a solid, where a channel is at most `most`: its size, and a colour that is at least half covering
unfoldable pub drawn_solid : ℕ → ℕ → Drawn Item
drawn_solid most state =
    let width = draw 64 state in
    let height = draw 48 width.state in
    let clear = draw (most / 2) height.state in
    let alpha = most - clear.value in
    let red = draw (alpha + 1) clear.state in
    let green = draw (alpha + 1) red.state in
    let blue = draw (alpha + 1) green.state in
    record { value = Solid (8 + width.value) (8 + height.value) alpha red.value green.value blue.value; state = blue.state }

-- layers 3 and 6 of composition 1 show composition 0
abbrev pub is_nested : ℕ → ℕ → Bool
is_nested comp index = (comp == 1) && ((index == 3) || (index == 6))

unfoldable pub drawn_source : ℕ → ℕ → ℕ → ℕ → Drawn Item
drawn_source most comp index state =
    if is_nested comp index then record { value = Comp 0; state = state } else drawn_solid most state

-- up to 3 frames of 1/24
unfoldable pub drawn_start : ℕ → Drawn Time
drawn_start state = let frames = draw 4 state in record { value = record { value = pos frames.value; scale = 24 }; state = frames.state }

-- one of the 17 modes that lay a source over a destination, by its number
unfoldable pub drawn_mode : ℕ → Drawn (Option Mode)
drawn_mode state = let number = draw 17 state in record { value = slice_get modes number.value; state = number.state }

-- every second layer may have a matte
unfoldable pub drawn_matte : ℕ → ℕ → Drawn (Option MatteKind)
drawn_matte index state =
    if index % 2 == 0 then record { value = Some matte.None; state = state }
    else (let number = draw 5 state in record { value = slice_get mattes number.value; state = number.state })

-- from 2 to 8 entries, where an entry has bytes
unfoldable pub drawn_sequence : ℕ → ℕ → Drawn (List ℕ)
drawn_sequence unit state =
    if unit == 0 then record { value = []; state = state }
    else (let more = draw 7 state in several (λ _. draw 256) (unit * (2 + more.value)) more.state)

-- a use of an effect, in a composition of so many layers
unfoldable pub drawn_effect : ℕ → ℕ → Drawn PlainFx
drawn_effect count state =
    let kind = draw 18 state in
    let params = drawn_params (ranges_of kind.value) kind.state in
    let layers = several (λ _. draw count) (layers_of kind.value) params.state in
    let bytes = drawn_sequence (unit_of kind.value) layers.state in
    record {
      value = record { kind = kind.value; params = params.value; layers = layers.value; sequence = Some bytes.value };
      state = bytes.state;
    }

-- one effect, or none
unfoldable pub drawn_effects : ℕ → ℕ → Drawn (List PlainFx)
drawn_effects count state = let some = draw 2 state in several (λ _. drawn_effect count) some.value some.state

-- how many layers a composition has
abbrev pub layer_count : ℕ → ℕ
layer_count comp = if comp == 0 then 4 else 8

unfoldable pub drawn_layer : ℕ → ℕ → ℕ → ℕ → Drawn PlainLayer
drawn_layer most comp index state =
    let source = drawn_source most comp index state in
    let start = drawn_start source.state in
    let mode = drawn_mode start.state in
    let matte = drawn_matte index mode.state in
    let opacity = drawn_opacity matte.state in
    let x = drawn_x opacity.state in
    let y = drawn_y x.state in
    let effects = drawn_effects (layer_count comp) y.state in
    record {
      value = record {
        source = source.value;
        start = start.value;
        in_point = zero_time;
        out_point = option.None;
        mode = mode.value;
        matte = matte.value;
        opacity = opacity.value;
        x = x.value;
        y = y.value;
        effects = effects.value;
      };
      state = effects.state;
    }

-- the layers of a composition, from the topmost on
unfoldable pub drawn_layers : ℕ → ℕ → ℕ → Drawn (List PlainLayer)
drawn_layers most comp state = several (drawn_layer most comp) (layer_count comp) state
