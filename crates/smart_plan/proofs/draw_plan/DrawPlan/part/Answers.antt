use Rattle.std.proofs.Common.{◌↔◌, sym, subst}
use Rattle.geom_rect.specs.declared.rect.Rect.{Rect}
use Rattle.geom_rect.specs.Rect.{Has}
use Rattle.smart_plan.proofs.Trimming.{Has-trimmed}
use Rattle.smart_plan.proofs.draw_plan.DrawPlan.part.Goals as goal

pub returns-clause-points : goal.returns-clause-points
returns-clause-points c = λ x y.
    let rect = c.args.self.now.pre.result_rect in
    subst (λ (r : Rect). Has r x y ↔ Has rect x y) (sym c.trimmed.ensures) (Has-trimmed rect x y)
