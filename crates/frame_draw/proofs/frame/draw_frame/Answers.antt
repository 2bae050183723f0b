use Rattle.std.proofs.Common.{◌<◌, length, subst, ap}
use Rattle.project_model.specs.declared.project.Project.{Project}
use Rattle.frame_draw.proofs.Rooted.{frame_ok}
use Rattle.frame_draw.proofs.frame.draw_frame.Goals as goal

pub returns-clause-frame : goal.returns-clause-frame
returns-clause-frame g c =
    let project = c.project.result.now in
    frame_ok _ _ c.args.scene.now c.args.frame project.root c.root_tick-tick.result.0 c.whole_comp.result (ap (λ (p : Project). p.root) c.project.ensures.project)
    (subst (λ (p : Project). project.root < length p.comps) c.project.ensures.project c.project.ensures.sound.root) c.root_tick-tick.ensures.tick c.whole_comp.ensures.plane c.whole_comp.ensures.part
