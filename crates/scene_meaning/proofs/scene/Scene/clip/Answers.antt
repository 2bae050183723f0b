use Rattle.std.proofs.Common.{length, slice_get, Some, ◌≡◌, ◌<◌, subst, ap, sym, ◌∙◌, arith}
use Rattle.std.proofs.lemmas.Option.{slice_get-get_or}
use Rattle.std.proofs.lemmas.Slice.Zip.{AllZip-long}
use Rattle.scene_meaning.specs.Scene.{SceneParts, IsClipOf}
use Rattle.scene_meaning.proofs.Clips.{zip_at}
use Rattle.scene_meaning.proofs.scene.Scene.clip.Goals as goal

pub index-requires : goal.index-requires
index-requires c =
    let inside = c.self.inside in
    let long : length inside.clips.items ≡ length inside.project.clips = AllZip-long IsClipOf inside.project.clips inside.clips.items c.self.invariant.clips in
    let asked : c.args.index < length inside.project.clips = subst (λ (s : SceneParts). c.args.index < length s.project.clips) (sym c.self.view_is) c.requires in
    search (arith, long, asked)

pub returns-clause-clip : goal.returns-clause-clip
returns-clause-clip c =
    let inside = c.self.inside in
    let long : length inside.clips.items ≡ length inside.project.clips = AllZip-long IsClipOf inside.project.clips inside.clips.items c.self.invariant.clips in
    let asked : c.args.index < length inside.project.clips = subst (λ (s : SceneParts). c.args.index < length s.project.clips) (sym c.self.view_is) c.requires in
    ap (λ (s : SceneParts). slice_get s.clips c.args.index) (sym c.self.view_is)
    ∙ slice_get-get_or inside.clips.items c.args.index c.index.result.now (omega (arith, long, asked))
    ∙ ap Some (sym c.index.ensures)

pub returns-clause-declared : goal.returns-clause-declared
returns-clause-declared c =
    let inside = c.self.inside in
    let long : length inside.clips.items ≡ length inside.project.clips = AllZip-long IsClipOf inside.project.clips inside.clips.items c.self.invariant.clips in
    let asked : c.args.index < length inside.project.clips = subst (λ (s : SceneParts). c.args.index < length s.project.clips) (sym c.self.view_is) c.requires in
    let there : slice_get inside.clips.items c.args.index ≡ Some c.index.result.now =
    slice_get-get_or inside.clips.items c.args.index c.index.result.now (omega (arith, long, asked)) ∙ ap Some (sym c.index.ensures) in
    λ declared here.
    zip_at inside.project.clips inside.clips.items c.args.index declared c.index.result.now c.self.invariant.clips
    (ap (λ (s : SceneParts). slice_get s.project.clips c.args.index) c.self.view_is ∙ here) there
