use Rattle.std.proofs.Common.{◌≡◌, IfOk, ap, sym, subst, ◌∙◌, string_bytes}
use Rattle.project_model.specs.Count.{layer_count}
use Rattle.project_model.specs.Form.{plain_layer_count}
use Rattle.project_model.specs.Plain.{plain_of}
use Rattle.project_model.proofs.Joined.{same_count}
use Rattle.host_run.specs.CheckLine.{check_line, measures_line, line_of}
use Rattle.host_run.proofs.check.check_line.Goals as goal

pub returns : goal.returns
returns c =
    let project = c.args.scene.now.project in
    let root = c.root_of-root.result.now in
    let depth_is : c.project-project.result.now.depth ≡ project.depth = ap (λ p. p.depth) c.project-project.ensures.project in
    let layers_are : c.layer_count-layers.result ≡ plain_layer_count (plain_of project).comps =
    c.layer_count-layers.ensures ∙ ap layer_count (c.as_slice.ensures ∙ ap (λ p. p.comps) c.project-project.ensures.project) ∙ sym (same_count project.comps) in
    let line : check_line (plain_of project) ≡ measures_line root.width root.height project.depth root.frames (plain_layer_count (plain_of project).comps) =
    ap (line_of (plain_of project)) c.root_of-root.ensures.root in
    subst (λ l. IfOk c.measures_line.result (λ text. string_bytes text ≡ l))
    (ap (λ depth. measures_line root.width root.height depth root.frames c.layer_count-layers.result) depth_is
    ∙ ap (measures_line root.width root.height project.depth root.frames) layers_are ∙ sym line) c.measures_line.ensures
