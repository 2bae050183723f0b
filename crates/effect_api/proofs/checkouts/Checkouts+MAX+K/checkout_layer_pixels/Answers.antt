use Rattle.std.proofs.Common.{rules, MatchOption, subst, ◌∙◌}
use Rattle.argb_world.specs.Picture.{Picture}
use Rattle.effect_api.specs.declared.checkouts.Value.{Value}
use Rattle.effect_api.specs.Checked.{Pairs, IsNew}
use Rattle.effect_api.proofs.Checking.{found_or_new}
use Rattle.effect_api.proofs.checkouts.Checkouts+MAX+K.checkout_layer_pixels.Goals as goal

pub returns-clause-none : goal.returns-clause-none
returns-clause-none g c =
    let inside = found_or_new c.args.id c.self.inside.pairs.items c.find_world.result c.self.invariant.worlds
    (c.find_world.ensures ∙ search rules) in
    subst (λ (all : Pairs Picture g.row.K.Denot (Value g.row.MAX)). MatchOption c.find_world.result (IsNew c.args.id all.pairs) (λ _. ¬ IsNew c.args.id all.pairs)) c.self.view_is inside
