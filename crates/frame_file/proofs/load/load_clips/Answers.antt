use Rattle.std.proofs.Common.{◌≡◌, ◌++◌, ◌∷◌, [], List, take, Option, Err, refl, subst, ◌∙◌, arith}
use Rattle.std.proofs.lemmas.List.{take_all}
use Rattle.std.specs.List.{AllZip}
use Rattle.std.proofs.lemmas.Option.{slice_get_read}
use Rattle.std.proofs.lemmas.Grind.{common_steps}
use Rattle.host_io.specs.Clips.{ClipMap}
use Rattle.project_model.specs.declared.clip.ClipUse.{ClipUse}
use Rattle.frame_file.specs.Clip.{Pictures, pictures_of}
use Rattle.frame_file.specs.Load.{LoadsOne}
use Rattle.frame_file.proofs.Loads.{loads_err, read_next, all_shaped}
use Rattle.frame_file.proofs.load.load_clips.Goals as goal

pub returns-in-Err-clause-loads : goal.returns-in-Err-clause-loads
returns-in-Err-clause-loads g c =
    let L : Option ClipMap → Type 0 = λ s. LoadsOne s c.index-uses-index.result c.loop-index.index (Err c.in-Err.why) in
    loads_err _ c.args.uses.now c.loop-index.loaded.items c.loop-index.index c.index-uses-index.result c.in-Err.why
    (slice_get_read c.args.uses.now _ c.loop-index.index c.index-uses-index.result refl c.loop-index-test.true c.index-uses-index.is)
    c.loop-index.invariant.read
    (subst L c.loop-index.invariant.kept c.in-Err.ensures.loads)

pub loop-index-preserved : goal.loop-index-preserved
loop-index-preserved g c =
    let pushed : c.push.new.self.items ≡ c.loop-index.loaded.items ++ c.in-Ok.clip ∷ [] = grind (arith, common_steps) in
    record {
      read =
          read_next _ _ c.args.uses.now c.loop-index.loaded.items c.push.new.self.items c.loop-index.index c.index-uses-index.result c.in-Ok.clip
          c.loop-index-test.true c.index-uses-index.is c.loop-index.invariant.read c.loop-index.invariant.kept c.in-Ok.ensures.loads pushed;
      kept = c.in-Ok.ensures.kept ∙ c.loop-index.invariant.kept;
      faults = c.in-Ok.ensures.cause ∙ c.loop-index.invariant.faults;
    }

pub returns-clause-declared : goal.returns-clause-declared
returns-clause-declared g c =
    let uses = c.args.uses.now in
    let n = c.loop-index.index in
    let U : List ClipUse → Type 0 = λ us. AllZip (λ (declared : ClipUse) (clip : Pictures). clip ≡ pictures_of declared clip.pixels) us c.loop-index.loaded.items in
    subst U (take_all n uses (omega arith)) (all_shaped _ (take n uses) c.loop-index.loaded.items c.loop-index.invariant.read)
