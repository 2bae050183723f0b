use Rattle.std.proofs.Common.{◌↔◌, Bool, subst, sym}
use Rattle.std.specs.Prelude.{IsTrue}
use Rattle.project_model.specs.Form.{IsFormed}
use Rattle.project_model.proofs.Formed.{tests_form}
use Rattle.project_model.proofs.plain.PlainProject.is_formed.Goals as goal

pub returns : goal.returns
returns c = subst (λ (b : Bool). IsTrue b ↔ IsFormed c.args.self.now) (sym c.has_form.ensures) (tests_form c.args.self.now)
