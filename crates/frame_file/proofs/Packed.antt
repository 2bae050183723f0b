-- The bytes of a row of a picture are its packed pixels.
use Rattle.std.proofs.Common.{◌≡◌, ℕ, ◌<◌, ℤ, pos, ◌+ℤ◌, List, All, inl, inr, refl, ap, sym, subst, ◌∙◌}
use Rattle.std.specs.Prelude.{flat_map}
use Rattle.std.specs.List.{range_with_len}
use Rattle.std.proofs.lemmas.List.Folds.{flat_map-map}
use Rattle.argb_pixel.specs.Depth.{IsDepth}
use Rattle.argb_pixel.specs.Pixel.{Argb}
use Rattle.argb_pixel.specs.Packed.{packed, pixels_of, IsPacked}
use Rattle.argb_pixel.proofs.Bytes.{read_and_packed}
use Rattle.argb_world.specs.Picture.{Picture, IsPicture, at, row_of}
use Rattle.argb_world.proofs.Together.{picture_rows, packed_rows}
use Rattle.geom_rect.specs.Rect.{width_of}
use Rattle.frame_file.specs.Afr.{pixel_bytes, depth_of, world_row_bytes, world_bytes}
use Rattle.frame_file.specs.Laws.{WritesPackedRows}

pub pixels_are_packed : (most : ℕ) → IsDepth most → packed most ≡ pixel_bytes (depth_of most)
pixels_are_packed most (inl e) = subst (λ m. packed m ≡ pixel_bytes (depth_of m)) (sym e) refl
pixels_are_packed most (inr e) = subst (λ m. packed m ≡ pixel_bytes (depth_of m)) (sym e) refl

-- the bytes of the pixels of a row
pub row_bytes_are : (most : ℕ) (world : Picture) (y : ℤ) → IsDepth most → flat_map (packed most) (row_of world y) ≡ world_row_bytes most world y
row_bytes_are most world y depth =
    ap (λ (f : Argb → List ℕ). flat_map f (row_of world y)) (pixels_are_packed most depth)
    ∙ flat_map-map (pixel_bytes (depth_of most)) (λ k. at world (world.part.left +ℤ pos k) y) (range_with_len 0 (width_of world.part))

pub row_is_bytes : (most : ℕ) (bytes : List ℕ) (world : Picture) (y : ℤ) → IsDepth most → IsPacked most bytes → All (λ byte. byte < 256) bytes
    → pixels_of most bytes ≡ row_of world y → bytes ≡ world_row_bytes most world y
row_is_bytes most bytes world y depth is small pixels =
    sym (read_and_packed most bytes depth is small) ∙ ap (flat_map (packed most)) pixels ∙ row_bytes_are most world y depth

-- the bytes of all pixels
pub writes_packed_rows : WritesPackedRows
writes_packed_rows = record {
  pixels = written;
  rows = λ most p row depth is each. written most p depth is ∙ sym (packed_rows most p row depth is each);
}
  where
    written : (most : ℕ) (p : Picture) → IsDepth most → IsPicture p → world_bytes most p ≡ flat_map (packed most) p.pixels
    written most p depth is = picture_rows (packed most) p (world_row_bytes most p) is λ y there. sym (row_bytes_are most p y depth)
