use Rattle.std.proofs.Common.{◌≡◌, ◌*◌, ◌<◌, ap, arith}
use Rattle.frame_file.specs.Clip.{Pictures}
use Rattle.frame_file.proofs.Places.{HasPixel, place_within, premultiplied_8, premultiplied_16, shown_8, shown_16, else_16}
use Rattle.frame_file.proofs.clip.Clip.pixel.Goals as goal

pub pixel_of_8-requires-clause-sound : goal.pixel_of_8-requires-clause-sound
pixel_of_8-requires-clause-sound g c =
    let inside = c.self.inside in
    let picture : c.args.picture < inside.frames = omega (arith, c.requires.picture, ap (λ (v : Pictures). v.frames) c.self.view_is) in
    let column : c.args.x < inside.width = omega (arith, c.requires.column, ap (λ (v : Pictures). v.width) c.self.view_is) in
    let row : c.args.y < inside.height = omega (arith, c.requires.row, ap (λ (v : Pictures). v.height) c.self.view_is) in
    let within : c.place_in-place.result < inside.frames * (inside.width * inside.height) = omega (arith, c.place_in-place.ensures, place_within c.args.picture inside.frames inside.width inside.height c.args.x c.args.y picture column row) in
    let has : HasPixel inside.bytes.items inside.depth c.place_in-place.result = record {
      sound = c.self.invariant.sound;
      count = inside.frames * (inside.width * inside.height);
      within = within;
      long = c.self.invariant.long;
    } in
    premultiplied_8 inside.bytes.items c.deref.result.now inside.depth c.place_in-place.result c.if-self-eq8.true c.deref.ensures.value has

pub pixel_of_16-requires-clause-sound : goal.pixel_of_16-requires-clause-sound
pixel_of_16-requires-clause-sound g c =
    let inside = c.self.inside in
    let picture : c.args.picture < inside.frames = omega (arith, c.requires.picture, ap (λ (v : Pictures). v.frames) c.self.view_is) in
    let column : c.args.x < inside.width = omega (arith, c.requires.column, ap (λ (v : Pictures). v.width) c.self.view_is) in
    let row : c.args.y < inside.height = omega (arith, c.requires.row, ap (λ (v : Pictures). v.height) c.self.view_is) in
    let within : c.place_in-place.result < inside.frames * (inside.width * inside.height) = omega (arith, c.place_in-place.ensures, place_within c.args.picture inside.frames inside.width inside.height c.args.x c.args.y picture column row) in
    let has : HasPixel inside.bytes.items inside.depth c.place_in-place.result = record {
      sound = c.self.invariant.sound;
      count = inside.frames * (inside.width * inside.height);
      within = within;
      long = c.self.invariant.long;
    } in
    let sixteen : inside.depth ≡ 16 = else_16 inside.depth c.self.invariant.depth c.if-self-eq8.false in
    premultiplied_16 inside.bytes.items c.deref.result.now inside.depth c.place_in-place.result sixteen c.deref.ensures.value has

pub returns-then-self-eq8 : goal.returns-then-self-eq8
returns-then-self-eq8 g c =
    let inside = c.self.inside in
    let picture : c.args.picture < inside.frames = omega (arith, c.requires.picture, ap (λ (v : Pictures). v.frames) c.self.view_is) in
    let column : c.args.x < inside.width = omega (arith, c.requires.column, ap (λ (v : Pictures). v.width) c.self.view_is) in
    let row : c.args.y < inside.height = omega (arith, c.requires.row, ap (λ (v : Pictures). v.height) c.self.view_is) in
    let within : c.place_in-place.result < inside.frames * (inside.width * inside.height) = omega (arith, c.place_in-place.ensures, place_within c.args.picture inside.frames inside.width inside.height c.args.x c.args.y picture column row) in
    let has : HasPixel inside.bytes.items inside.depth c.place_in-place.result = record {
      sound = c.self.invariant.sound;
      count = inside.frames * (inside.width * inside.height);
      within = within;
      long = c.self.invariant.long;
    } in
    rw (← c.self.view_is)
    (shown_8 g.row.MAX inside.bytes.items c.deref.result.now inside.depth c.place_in-place.result _ c.pixel_of_8.result c.in_depth.result c.if-self-eq8.true c.deref.ensures.value c.place_in-place.ensures has c.pixel_of_8.ensures c.in_depth.ensures)

pub returns-else-self-eq8 : goal.returns-else-self-eq8
returns-else-self-eq8 g c =
    let inside = c.self.inside in
    let picture : c.args.picture < inside.frames = omega (arith, c.requires.picture, ap (λ (v : Pictures). v.frames) c.self.view_is) in
    let column : c.args.x < inside.width = omega (arith, c.requires.column, ap (λ (v : Pictures). v.width) c.self.view_is) in
    let row : c.args.y < inside.height = omega (arith, c.requires.row, ap (λ (v : Pictures). v.height) c.self.view_is) in
    let within : c.place_in-place.result < inside.frames * (inside.width * inside.height) = omega (arith, c.place_in-place.ensures, place_within c.args.picture inside.frames inside.width inside.height c.args.x c.args.y picture column row) in
    let has : HasPixel inside.bytes.items inside.depth c.place_in-place.result = record {
      sound = c.self.invariant.sound;
      count = inside.frames * (inside.width * inside.height);
      within = within;
      long = c.self.invariant.long;
    } in
    let sixteen : inside.depth ≡ 16 = else_16 inside.depth c.self.invariant.depth c.if-self-eq8.false in
    rw (← c.self.view_is)
    (shown_16 g.row.MAX inside.bytes.items c.deref.result.now inside.depth c.place_in-place.result _ c.pixel_of_16.result c.in_depth-else-self-eq8.result sixteen c.deref.ensures.value c.place_in-place.ensures has c.pixel_of_16.ensures c.in_depth-else-self-eq8.ensures)
