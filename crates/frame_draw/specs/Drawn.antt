-- The picture of a frame.
use Rattle.std.specs.Prelude.{◌≡◌, ℤ, ℕ, Some}
use Rattle.geom_rect.specs.Rect.{frame_rect}
use Rattle.argb_world.specs.Picture.{Picture, at}
use Rattle.project_model.specs.declared.plain.PlainComp.{PlainComp}
use Rattle.scene_meaning.specs.Shown.{PlainScene, shown}
use Rattle.scene_meaning.specs.Output.{frame_tick, root_of}

-- a plane over the frame of the root, which shows at each point what the root shows at that frame
pub record IsFrame (scene : PlainScene) (frame : ℕ) (world : Picture) : Type 0 where
  pub comp : PlainComp
  pub root : root_of scene.project ≡ Some comp
  pub extent : world.extent ≡ frame_rect comp.width comp.height
  pub part : world.part ≡ frame_rect comp.width comp.height
  pub points : (x y : ℤ) → at world x y ≡ shown scene scene.project.root (frame_tick scene.project comp frame) x y
