use Rattle.std.proofs.Common.{rules, ◌≡◌, ◌+◌, ◌<◌, ◌*◌, ◌++◌, Bool, if◌then◌else◌, length, vec_len, vec_capacity, ap, sym, subst, ◌∙◌, arith}
use Rattle.argb_pixel.specs.Packed.{pixel_size, IsPacked}
use Rattle.argb_world.specs.Kept.{kept}
use Rattle.argb_world.proofs.KeptLemmas.{more_kept, more_same, some_row, over_kept}
use Rattle.argb_world.proofs.pixels.write_out.Goals as goal

pub loop-written-smaller : goal.loop-written-smaller
loop-written-smaller g c =
    let v = c.loop-written.written in
    let ground = c.args.ground.now in
    let long : vec_len v ≡ length v.items = search rules in
    let low : length v.items < pixel_size g.row.MAX * c.args.end = omega (arith, c.loop-written-test.true, c.len.ensures, long, ap (λ s. s * c.args.end) c.pixel_size.ensures) in
    let more = some_row g.row.MAX v.items ground.row.items (vec_capacity v) ground.count ground.width c.args.end ground.colour c.loop-written.invariant.rows c.requires.there low in
    let same : length c.deref.result.now ≡ length ground.row.items = ap length c.deref.ensures.value in
    let ok = c.extend_from_slice.ensures.succeeds (omega (arith, more.0, same, long)) in
    let len = c.extend_from_slice.ensures.len ∙ ap (λ (t : Bool). if t then vec_len v + length c.deref.result.now else vec_len v) ok in
    omega (arith, len, same, more.1, c.loop-written-test.true, c.len.ensures)

pub loop-written-preserved : goal.loop-written-preserved
loop-written-preserved g c =
    let v = c.loop-written.written in
    let w = c.extend_from_slice.new.self in
    let ground = c.args.ground.now in
    let long : vec_len v ≡ length v.items = search rules in
    let low : length v.items < pixel_size g.row.MAX * c.args.end = omega (arith, c.loop-written-test.true, c.len.ensures, long, ap (λ s. s * c.args.end) c.pixel_size.ensures) in
    let k = c.loop-written.invariant.rows in
    let more = some_row g.row.MAX v.items ground.row.items (vec_capacity v) ground.count ground.width c.args.end ground.colour k c.requires.there low in
    let same : length c.deref.result.now ≡ length ground.row.items = ap length c.deref.ensures.value in
    let ok = c.extend_from_slice.ensures.succeeds (omega (arith, more.0, same, long)) in
    let items : w.items ≡ v.items ++ ground.row.items = c.extend_from_slice.ensures.items ∙ ap (λ (t : Bool). if t then v.items ++ c.deref.result.now else v.items) ok ∙ ap (λ r. v.items ++ r) c.deref.ensures.value in
    let next = more_kept g.row.MAX v.items ground.row.items (vec_capacity v) ground.count ground.width c.args.end ground.colour k c.requires.there low in
    record {
      rows = over_kept g.row.MAX (v.items ++ ground.row.items) w.items ground.row.items (vec_capacity v) (vec_capacity w) ground.count ground.width ground.colour next (ap length items) c.extend_from_slice.ensures.capacity
          (subst (IsPacked g.row.MAX) (sym items) next.written);
      same =
          ap (λ l. kept g.row.MAX l ground.count ground.colour) items
          ∙ more_same g.row.MAX v.items ground.row.items (vec_capacity v) ground.count ground.width c.args.end ground.colour k c.requires.there low
          ∙ c.loop-written.invariant.same;
    }
