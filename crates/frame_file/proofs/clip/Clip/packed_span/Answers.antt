use Rattle.std.proofs.Common.{◌≡◌, ◌+◌, ◌<◌, ◌≤◌, ◌∙◌, ℕ, drop, get_or, ap, subst, refl, arith}
use Rattle.argb_pixel.specs.Pixel.{clear}
use Rattle.argb_pixel.specs.Packed.{pixels_of as packed_pixels}
use Rattle.project_model.specs.Bounds.{most_of, header_length}
use Rattle.frame_file.specs.Clip.{Pictures, pixel_in, pixels_of}
use Rattle.frame_file.proofs.Spans.{span_depth, span_there, span_packed, span_shown}
use Rattle.frame_file.proofs.clip.Clip.packed_span.Goals as goal

pub packed_part-requires : goal.packed_part-requires
packed_part-requires g c =
    let inside = c.self.inside in
    let clip : Pictures = record {
      width = inside.width;
      height = inside.height;
      depth = inside.depth;
      frames = inside.frames;
      pixels = pixels_of inside.depth (drop header_length inside.bytes.items);
    } in
    let depth : most_of inside.depth ≡ g.row.MAX = ap (λ (v : Pictures). most_of v.depth) c.self.view_is ∙ c.requires.depth in
    let picture : c.args.picture < inside.frames = omega (arith, c.requires.picture, ap (λ (v : Pictures). v.frames) c.self.view_is) in
    let row : c.args.y < inside.height = omega (arith, c.requires.row, ap (λ (v : Pictures). v.height) c.self.view_is) in
    let columns : c.args.x + c.args.count ≤ inside.width = omega (arith, c.requires.columns, ap (λ (v : Pictures). v.width) c.self.view_is) in record {
      depth = span_depth inside.depth g.row.MAX c.self.invariant.depth depth;
      there = span_there clip g.row.MAX inside.bytes.items c.deref.result.now c.args.picture c.args.x c.args.y c.args.count c.place_in-start.result c.self.invariant depth c.deref.ensures.value picture row columns c.place_in-start.ensures;
      packed = span_packed clip g.row.MAX inside.bytes.items c.deref.result.now c.self.invariant refl depth c.deref.ensures.value;
    }

pub returns-clause-pixels : goal.returns-clause-pixels
returns-clause-pixels g c =
    let inside = c.self.inside in
    let clip : Pictures = record {
      width = inside.width;
      height = inside.height;
      depth = inside.depth;
      frames = inside.frames;
      pixels = pixels_of inside.depth (drop header_length inside.bytes.items);
    } in
    let depth : most_of inside.depth ≡ g.row.MAX = ap (λ (v : Pictures). most_of v.depth) c.self.view_is ∙ c.requires.depth in
    let P : Pictures → Type 0 = λ v. (k : ℕ) → k < c.args.count → get_or (packed_pixels g.row.MAX c.packed_part.result.now) k clear ≡ pixel_in g.row.MAX v c.args.picture (c.args.x + k) c.args.y in
    subst P c.self.view_is
    (λ k h. span_shown clip g.row.MAX inside.bytes.items c.deref.result.now c.packed_part.result.now c.args.picture c.args.x c.args.y c.args.count c.place_in-start.result k c.self.invariant refl depth
    c.deref.ensures.value c.place_in-start.ensures c.packed_part.ensures.pixels h)
