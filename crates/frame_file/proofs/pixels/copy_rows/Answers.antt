use Rattle.std.proofs.Common.{◌≡◌, ℕ, zero, suc, ◌*◌, ◌/◌, ◌%◌, ◌==◌, ◌<◌, ℤ, ◌+ℤ◌, pos, Bool, true, false, if◌then◌else◌, List, length, arith, sym, ap, subst, ◌∙◌}
use Rattle.std.proofs.Math.Nat.{zero-mul, mul-pos, mul-div_cancel, mul-mod_right, mul-lt-mul_of_pos_right, div-lt_iff_lt-mul}
use Rattle.std.specs.Fork.{slice_chunk}
use Rattle.argb_pixel.specs.Packed.{pixel_size}
use Rattle.geom_rect.specs.Rect.{count_between, width_of}
use Rattle.frame_file.specs.Afr.{world_row_bytes}
use Rattle.frame_file.proofs.Rows.{chunks_are_rows}
use Rattle.frame_file.proofs.pixels.copy_rows.Goals as goal

-- a pixel has bytes
has_bytes : (most : ℕ) → 0 < pixel_size most
has_bytes most = by (most == 255)
  where
    by : (b : Bool) → 0 < (if b then 4 else 8)
    by true = omega arith
    by false = omega arith

-- rows of pixels have bytes
some : (width rows most size : ℕ) → 0 < width * rows → size ≡ pixel_size most * width → 0 < size
some zero rows most size h e = absurd (omega (arith, zero-mul rows))
some (suc width) rows most size h e = subst (λ n. 0 < n) (sym e) (mul-pos (has_bytes most) (omega arith))

-- the bytes of all rows, by those of one
long : (width rows bytes size n : ℕ) → n ≡ width * rows * bytes → size ≡ bytes * width → n ≡ size * rows
long width rows bytes size n e s = e ∙ omega arith ∙ ap (λ k. k * rows) (sym s)

-- what a call left is the row whose bytes begin there
written : (bytes after : List ℕ) (row : ℤ → List ℕ) (top : ℤ) (k size : ℕ) → 0 < size → after ≡ bytes → after ≡ row (top +ℤ pos (k * size / size)) → bytes ≡ row (top +ℤ pos k)
written bytes after row top k size some left call =
    sym left ∙ call ∙ ap (λ n. row (top +ℤ pos n)) (mul-div_cancel k some)

pub par_chunks_mut_for_each-requires-clause-size : goal.par_chunks_mut_for_each-requires-clause-size
par_chunks_mut_for_each-requires-clause-size g c κs within =
    let part = c.args.world.now.part in
    some (width_of part) (count_between part.top part.bottom) g.row.MAX c.row_size-size.result c.requires.some c.row_size-size.ensures

pub par_chunks_mut_for_each-requires-clause-accepts : goal.par_chunks_mut_for_each-requires-clause-accepts
par_chunks_mut_for_each-requires-clause-accepts g c κs within =
    let part = c.args.world.now.part in
    let rows = count_between part.top part.bottom in
    let size = c.row_size-size.result in
    let some_bytes = some (width_of part) rows g.row.MAX size c.requires.some c.row_size-size.ensures in
    let all = long (width_of part) rows (pixel_size g.row.MAX) size (length c.args.into.now) c.requires.long c.row_size-size.ensures in
    let whole = ap (λ n. n % size) all ∙ mul-mod_right size rows in
    λ start p chunk.
    let before : start < rows * size = omega (arith, chunk.nonempty, chunk.in_bounds, all) in
    (omega arith, (some_bytes, ((div-lt_iff_lt-mul some_bytes).1 before, chunk.full_size whole ∙ c.row_size-size.ensures)))

pub returns : goal.returns
returns g c =
    let world = c.args.world.now in
    let rows = count_between world.part.top world.part.bottom in
    let size = c.row_size-size.result in
    let row = world_row_bytes g.row.MAX world in
    let into = c.par_chunks_mut_for_each.new.s in
    let some_bytes = some (width_of world.part) rows g.row.MAX size c.requires.some c.row_size-size.ensures in
    let before = long (width_of world.part) rows (pixel_size g.row.MAX) size (length c.args.into.now) c.requires.long c.row_size-size.ensures in
    let after : length into ≡ size * rows = omega (arith, c.par_chunks_mut_for_each.auto.s, before) in
    chunks_are_rows row world.part.top size rows into after (λ k l.
    let place : k * size < length c.args.into.now = omega (arith, before, mul-lt-mul_of_pos_right l some_bytes) in
    let chunk = c.par_chunks_mut_for_each.ensures.chunks k place in
    written (slice_chunk into size k) chunk.after_call.now row world.part.top k size some_bytes chunk.left chunk.call)
