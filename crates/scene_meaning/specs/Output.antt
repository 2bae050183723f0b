-- The file that a project means, with its clips.
use Rattle.std.specs.Prelude.{ℕ, ◌+◌, ◌-◌, ℤ, pos, List, [], ◌++◌, flat_map, slice_get, unsigned_abs, Option, Some, None}
use Rattle.std.specs.List.{range_with_len}
use Rattle.rational_time.specs.Times.{tick_of, tick_of_frame}
use Rattle.project_model.specs.declared.plain.PlainComp.{PlainComp}
use Rattle.project_model.specs.declared.plain.PlainProject.{PlainProject}
use Rattle.scene_meaning.specs.Shown.{PlainScene, base_in, shown}
use Rattle.frame_file.specs.Afr.{header_bytes, picture_bytes}
use Rattle.frame_file.specs.declared.header.Header.{Header}

-- the header of the frames from first on, so many of them
abbrev pub header_of : ℕ → PlainComp → ℕ → ℕ → Header
header_of depth comp first count = record {
  width = comp.width;
  height = comp.height;
  depth = depth;
  value = unsigned_abs comp.frame.value;
  scale = comp.frame.scale;
  first = first;
  count = count;
}

-- the tick at which frame n of a composition begins
abbrev pub frame_tick : PlainProject → PlainComp → ℕ → ℤ
frame_tick project comp n = tick_of_frame (pos n) (tick_of (base_in project) comp.frame)

-- the pixels of frame n of the root, which is this composition
abbrev pub frame_bytes : PlainScene → PlainComp → ℕ → List ℕ
frame_bytes scene comp n =
    picture_bytes scene.project.depth comp.width comp.height (shown scene scene.project.root (frame_tick scene.project comp n))

-- the header, and the frames in order
abbrev pub root_file : PlainScene → PlainComp → ℕ → ℕ → List ℕ
root_file scene comp first count =
    header_bytes (header_of scene.project.depth comp first count) ++ flat_map (frame_bytes scene comp) (range_with_len first count)

-- the composition that is rendered
abbrev pub root_of : PlainProject → Option PlainComp
root_of project = slice_get project.comps project.root

abbrev file_of : PlainScene → Option PlainComp → ℕ → ℕ → List ℕ
file_of scene None from to = []
file_of scene (Some comp) from to = root_file scene comp from (to + 1 - from)

-- the file of the frames from the one to the other, both included
abbrev pub file : PlainScene → ℕ → ℕ → List ℕ
file scene from to = file_of scene (root_of scene.project) from to

-- no composition has no frames
abbrev pub count_of : Option PlainComp → ℕ
count_of None = 0
count_of (Some comp) = comp.frames

-- how many frames the root has
abbrev pub frame_count : PlainProject → ℕ
frame_count project = count_of (root_of project)
