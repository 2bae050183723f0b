-- The project of a number.
use Rattle.std.specs.Prelude.{ℕ, ◌==◌, [], ◌∷◌, pos, if◌then◌else◌}
use Rattle.project_model.specs.Bounds.{most_of}
use Rattle.project_model.specs.declared.plain.PlainProject.{PlainProject}
use Rattle.scene_gen.specs.Draws.{Drawn, draw}
use Rattle.scene_gen.specs.Layers.{drawn_layers}

-- the bits of a channel
unfoldable pub drawn_depth : ℕ → Drawn ℕ
drawn_depth state = let choice = draw 2 state in record { value = if choice.value == 0 then 8 else 16; state = choice.state }

-- composition 1 is rendered, and shows composition 0; the number is the first state
unfoldable pub generated : ℕ → PlainProject
generated number =
    let depth = drawn_depth number in
    let inner = drawn_layers (most_of depth.value) 0 depth.state in
    let outer = drawn_layers (most_of depth.value) 1 inner.state in
    record {
      depth = depth.value;
      root = 1;
      clips = [];
      comps =
          record { width = 96; height = 64; frame = record { value = pos 1; scale = 24 }; frames = 12; layers = inner.value }
          ∷ record { width = 160; height = 96; frame = record { value = pos 1001; scale = 30000 }; frames = 12; layers = outer.value }
          ∷ [];
    }
