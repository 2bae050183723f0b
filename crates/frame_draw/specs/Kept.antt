-- Planes that are kept, and pictures of clips that are drawn.
use Rattle.std.specs.Prelude.{◌≡◌, ◌<ℤ◌, ℤ, pos, int_le, int_lt, unsigned_abs, ◌&&◌, if◌then◌else◌, ℕ, List, slice_get, Option, Some, None}
use Rattle.std.specs.List.{AllByRecursion}
use Rattle.geom_rect.specs.Rect.{Has}
use Rattle.argb_world.specs.Picture.{Picture, at}
use Rattle.comp_stack.specs.Layers.{plane_of}
use Rattle.frame_file.specs.Clip.{Pictures, pixel_in}
use Rattle.project_model.specs.Bounds.{most_of}
use Rattle.project_model.specs.declared.node.NodeId.TheVariants.{Stack}
use Rattle.scene_meaning.specs.Shown.{PlainScene, plane}
use Rattle.frame_draw.specs.declared.planes.Kept.{Kept}

-- the plane of this composition at this tick stands at this place
abbrev pub StandsAt : {most : ℕ} → List (Kept most) → ℕ → ℤ → ℕ → Type 0
StandsAt {most} kept comp tick place =
    (entry : Kept most) × (slice_get kept place ≡ Some entry) × (entry.comp ≡ comp) × (entry.tick.0 ≡ tick)

-- it is what the composition shows, over its frame
abbrev pub IsRight : {most : ℕ} → PlainScene → Kept most → Type 0
IsRight scene entry = (plane_of entry.world ≡ plane scene (Stack entry.comp) entry.tick.0) × (entry.world.part ≡ entry.world.extent)

abbrev pub AreRight : {most : ℕ} → PlainScene → List (Kept most) → Type 0
AreRight {most} scene kept = AllByRecursion (IsRight {most = most} scene) kept

-- the part of the picture is drawn down to this height
abbrev pub HasRows : ℕ → Pictures → ℕ → ℕ → Picture → Type 0
HasRows most clip picture height world =
    (x y : ℤ) → Has world.part x y → y <ℤ pos height → at world x y ≡ pixel_in most clip picture (unsigned_abs x) (unsigned_abs y)

-- room for so many pixels, where a clip of this depth keeps them in another
abbrev pub HasRoom : ℕ → ℕ → ℕ → ℕ → Type 0
HasRoom most depth width room = ¬ (most_of depth ≡ most) → room ≡ width

-- the number of a picture, where it is one of so many
abbrev pub picture_among : ℤ → ℕ → Option ℕ
picture_among picture frames = if int_le (pos 0) picture && int_lt picture (pos frames) then Some (unsigned_abs picture) else None
