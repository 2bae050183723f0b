use Rattle.std.proofs.Common.{◌+◌, take, sym, ap, ◌∙◌, arith}
use Rattle.project_model.specs.Count.{layer_count}
use Rattle.scene_meaning.proofs.Numbers.{layer_within, counted_before}
use Rattle.scene_meaning.proofs.number.number_of_layer.Goals as goal

pub count_layers-requires : goal.count_layers-requires
count_layers-requires c =
    let comps = c.args.project.now.comps in
    let all = c.args.project.now.few_layers in
    omega (arith, layer_within comps c.args.comp c.args.layer c.requires, ap (λ xs. layer_count (take c.args.comp xs)) c.as_slice.ensures, all)

pub overflow_add-result : goal.overflow_add-result
overflow_add-result c =
    let comps = c.args.project.now.comps in
    let all = c.args.project.now.few_layers in
    omega (arith, layer_within comps c.args.comp c.args.layer c.requires, ap (λ xs. layer_count (take c.args.comp xs)) c.as_slice.ensures, all, c.count_layers.ensures)

pub returns-clause-few : goal.returns-clause-few
returns-clause-few c =
    let comps = c.args.project.now.comps in
    let all = c.args.project.now.few_layers in
    omega (arith, layer_within comps c.args.comp c.args.layer c.requires, ap (λ xs. layer_count (take c.args.comp xs)) c.as_slice.ensures, all, c.count_layers.ensures)

pub returns-clause-number : goal.returns-clause-number
returns-clause-number c =
    ap (λ n. n + c.args.layer)
    (c.count_layers.ensures ∙ ap (λ xs. layer_count (take c.args.comp xs)) c.as_slice.ensures ∙ sym (counted_before c.args.project.now.comps c.args.comp))
