use Rattle.scene_gen.proofs.Breaches.{breach_where_drawn}
use Rattle.scene_gen.proofs.project.project_of_number.Goals as goal

pub returns-clause-breach : goal.returns-clause-breach
returns-clause-breach c =
    breach_where_drawn c.args.number c.drawn_project.result c.drawn_project.ensures.project c.drawn_project.ensures.base c.drawn_project.ensures.based
