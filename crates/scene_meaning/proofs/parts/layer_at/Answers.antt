use Rattle.std.proofs.Common.{◌≡◌, ◌<◌, length, Some, subst, ap, arith}
use Rattle.std.specs.Prelude.{slice_get}
use Rattle.project_model.specs.declared.comp.Comp.{Comp}
use Rattle.scene_meaning.specs.Parts.{IsLayerOf, IsLayerIn}
use Rattle.scene_meaning.proofs.Inside.{read_at, layer_below}
use Rattle.scene_meaning.proofs.Inside.{holds_at}
use Rattle.scene_meaning.proofs.parts.layer_at.Goals as goal

pub returns-clause-here : goal.returns-clause-here
returns-clause-here c =
    let mine = c.comp_at-comp.result.now in
    let there = c.requires.layer mine c.comp_at-comp.ensures.here in
    let here : c.args.index < length c.as_slice.result.now = omega (arith, there, ap length c.as_slice.ensures) in
    let found = read_at mine.layers c.as_slice.result.now c.args.index c.index-as_slice-index.result c.as_slice.ensures here c.index-as_slice-index.is in
    λ comp e.
    let one = c.comp_at-comp.ensures.here in
    let same : mine ≡ comp = cc in
    subst (λ (k : Comp). slice_get k.layers c.args.index ≡ Some c.index-as_slice-index.result) same found

pub returns-clause-sound : goal.returns-clause-sound
returns-clause-sound c =
    let mine = c.comp_at-comp.result.now in
    let there = c.requires.layer mine c.comp_at-comp.ensures.here in
    let here : c.args.index < length c.as_slice.result.now = omega (arith, there, ap length c.as_slice.ensures) in
    holds_at (IsLayerOf c.args.scene.now.project) mine.layers c.as_slice.result.now c.args.index c.index-as_slice-index.result c.comp_at-comp.ensures.sound.layers c.as_slice.ensures here c.index-as_slice-index.is

pub returns-clause-inside : goal.returns-clause-inside
returns-clause-inside c =
    let mine = c.comp_at-comp.result.now in
    let layer = c.index-as_slice-index.result in
    let project = c.args.scene.now.project in
    let there = c.requires.layer mine c.comp_at-comp.ensures.here in
    let here : c.args.index < length c.as_slice.result.now = omega (arith, there, ap length c.as_slice.ensures) in
    let found : slice_get mine.layers c.args.index ≡ Some layer = read_at mine.layers c.as_slice.result.now c.args.index layer c.as_slice.ensures here c.index-as_slice-index.is in
    let inside : IsLayerIn project c.args.of mine layer = record {
      here = c.comp_at-comp.ensures.here;
      index = c.args.index;
      there = found;
      sound = holds_at (IsLayerOf project) mine.layers c.as_slice.result.now c.args.index layer c.comp_at-comp.ensures.sound.layers c.as_slice.ensures here c.index-as_slice-index.is;
      below = layer_below project c.args.of mine c.args.index layer c.comp_at-comp.ensures.nesting c.comp_at-comp.ensures.here found;
    } in
    λ comp e.
    let one = c.comp_at-comp.ensures.here in
    let same : mine ≡ comp = cc in
    subst (λ (k : Comp). IsLayerIn project c.args.of k layer) same inside
