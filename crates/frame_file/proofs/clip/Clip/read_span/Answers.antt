use Rattle.std.proofs.Common.{ℕ, ◌≡◌, ◌+◌, ◌*◌, ◌<◌, ◌≤◌, get_or, length, subst, ap, arith}
use Rattle.argb_pixel.specs.Pixel.{clear}
use Rattle.frame_file.specs.Clip.{Pictures, pixel_in}
use Rattle.frame_file.proofs.Places.{row_room_8, row_room_16, row_sound_8, row_sound_16, row_read_8, row_read_16, else_16}
use Rattle.frame_file.proofs.clip.Clip.read_span.Goals as goal

pub read_8-requires : goal.read_8-requires
read_8-requires g c =
    let inside = c.self.inside in
    let picture : c.args.picture < inside.frames = omega (arith, c.requires.picture, ap (λ (v : Pictures). v.frames) c.self.view_is) in
    let row : c.args.y < inside.height = omega (arith, c.requires.row, ap (λ (v : Pictures). v.height) c.self.view_is) in
    let columns : c.args.x + length c.args.into.now ≤ inside.width = omega (arith, c.requires.columns, ap (λ (v : Pictures). v.width) c.self.view_is) in
    let depth : inside.depth ≡ 8 = c.if-self-eq8.true in (
      omega arith,
      (
        c.requires.depth,
        (
          row_room_8 inside.bytes.items c.deref.result.now inside.depth c.args.picture inside.frames inside.width inside.height c.args.x c.args.y c.place_in-start.result (length c.args.into.now) depth c.deref.ensures.value picture row columns c.place_in-start.ensures c.self.invariant.long,
          row_sound_8 inside.bytes.items c.deref.result.now inside.depth depth c.deref.ensures.value c.self.invariant.sound,
        ),
      ),
    )

pub returns-then-self-eq8 : goal.returns-then-self-eq8
returns-then-self-eq8 g c =
    let inside = c.self.inside in
    let depth : inside.depth ≡ 8 = c.if-self-eq8.true in
    let P : Pictures → Type 0 = λ v. (k : ℕ) → k < length c.args.into.now → get_or c.read_8.new.into k clear ≡ pixel_in g.row.MAX v c.args.picture (c.args.x + k) c.args.y in
    subst P c.self.view_is
    (λ k h. row_read_8 g.row.MAX inside.bytes.items c.deref.result.now inside.depth (c.place_in-start.result + k) ((c.args.picture * inside.height + c.args.y) * inside.width + (c.args.x + k)) (get_or c.read_8.new.into k clear) depth c.deref.ensures.value
    (omega (arith, c.place_in-start.ensures)) (c.read_8.ensures k h))

pub read_16-requires : goal.read_16-requires
read_16-requires g c =
    let inside = c.self.inside in
    let picture : c.args.picture < inside.frames = omega (arith, c.requires.picture, ap (λ (v : Pictures). v.frames) c.self.view_is) in
    let row : c.args.y < inside.height = omega (arith, c.requires.row, ap (λ (v : Pictures). v.height) c.self.view_is) in
    let columns : c.args.x + length c.args.into.now ≤ inside.width = omega (arith, c.requires.columns, ap (λ (v : Pictures). v.width) c.self.view_is) in
    let depth : inside.depth ≡ 16 = else_16 inside.depth c.self.invariant.depth c.if-self-eq8.false in (
      omega arith,
      (
        c.requires.depth,
        (
          row_room_16 inside.bytes.items c.deref.result.now inside.depth c.args.picture inside.frames inside.width inside.height c.args.x c.args.y c.place_in-start.result (length c.args.into.now) depth c.deref.ensures.value picture row columns c.place_in-start.ensures c.self.invariant.long,
          row_sound_16 inside.bytes.items c.deref.result.now inside.depth depth c.deref.ensures.value c.self.invariant.sound,
        ),
      ),
    )

pub returns-else-self-eq8 : goal.returns-else-self-eq8
returns-else-self-eq8 g c =
    let inside = c.self.inside in
    let depth : inside.depth ≡ 16 = else_16 inside.depth c.self.invariant.depth c.if-self-eq8.false in
    let P : Pictures → Type 0 = λ v. (k : ℕ) → k < length c.args.into.now → get_or c.read_16.new.into k clear ≡ pixel_in g.row.MAX v c.args.picture (c.args.x + k) c.args.y in
    subst P c.self.view_is
    (λ k h. row_read_16 g.row.MAX inside.bytes.items c.deref.result.now inside.depth (c.place_in-start.result + k) ((c.args.picture * inside.height + c.args.y) * inside.width + (c.args.x + k)) (get_or c.read_16.new.into k clear) depth c.deref.ensures.value
    (omega (arith, c.place_in-start.ensures)) (c.read_16.ensures k h))
