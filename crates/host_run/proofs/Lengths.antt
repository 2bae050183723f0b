-- The compositions of a project that keeps the rules end within 36,000 seconds.
use Rattle.std.proofs.Common.{◌≡◌, ◌<◌, false, List, length, map, None, subst, arith}
use Rattle.std.specs.List.{All}
use Rattle.std.proofs.lemmas.List.{length-map}
use Rattle.std.proofs.Math.ListN.{get_or-map}
use Rattle.project_model.specs.Broken.{breach_of}
use Rattle.project_model.specs.Plain.{plain_comp, plain_of}
use Rattle.project_model.specs.Rules.{is_too_long}
use Rattle.project_model.specs.declared.effect.EffectSchema.{EffectSchema}
use Rattle.project_model.specs.declared.project.Project.{Project}
use Rattle.project_model.specs.declared.rule.Rule.TheVariants.{Length}
use Rattle.project_model.proofs.Keeps.{each_passed}
use Rattle.scene_meaning.specs.Scene.{EndsInTime}

pub lengths_kept : (schemas : List EffectSchema) (project : Project) → breach_of schemas (plain_of project) ≡ None → All EndsInTime project.comps
lengths_kept schemas project kept = λ k d within.
    let there : k < length (map plain_comp project.comps) = omega (arith, within, length-map project.comps plain_comp) in
    subst (λ comp. is_too_long comp ≡ false) (get_or-map plain_comp project.comps k d) (each_passed schemas (plain_of project) kept Length k (plain_comp d) there).comp_passed
