-- Tests of the rules on effects.
use Rattle.std.proofs.Common.{◌≡◌, ◌≢◌, ◌↔◌, ℕ, suc, Bool, true, false, List, [], ◌∷◌, length, IsTrue, refl, sym, ◌∙◌, ap}
use Rattle.std.specs.Prelude.{◌&&◌, nat_lt, slice_index_or}
use Rattle.param_stream.specs.declared.key.Keyframe.{Keyframe}
use Rattle.project_model.specs.Bounds.{all_between, greatest_rank}
use Rattle.project_model.specs.EffectRules.{are_in_range}
use Rattle.project_model.specs.Nesting.{source_rank, last_rank, stack_rank}
use Rattle.project_model.specs.Rules.{breaks_layer}
use Rattle.project_model.specs.declared.effect.EffectSchema.{EffectSchema}
use Rattle.project_model.specs.declared.effect.ParamSchema.{ParamSchema}
use Rattle.project_model.specs.declared.plain.PlainLayer.{PlainLayer}
use Rattle.project_model.specs.declared.plain.PlainComp.{PlainComp}
use Rattle.project_model.specs.declared.plain.PlainProject.{PlainProject}
use Rattle.project_model.specs.declared.rule.Rule.{Rule}
use Rattle.project_model.specs.declared.rule.Rule.TheVariants.{Rank}
use Rattle.project_model.proofs.Ranked.{any_above}

-- two tests of the same fact
pub same_tests : (a b : Bool) (F : Type 0) → IsTrue a ↔ F → IsTrue b ↔ F → a ≡ b
same_tests true b F e f = sym (f.1 (e.0 refl))
same_tests false true F e f = e.1 (f.0 refl)
same_tests false false F e f = refl

-- as many streams as parameters are asked for
pub other_count : (params : List ParamSchema) (streams : List (List Keyframe)) → length params ≢ length streams → are_in_range params streams ≡ false
other_count [] [] other = absurd (other refl)
other_count [] (keys ∷ rest) other = refl
other_count (param ∷ params) [] other = refl
other_count (param ∷ params) (keys ∷ rest) other = by (all_between param.least param.most keys) (other_count params rest (λ e. other (ap (λ n. suc n) e)))
  where
    by : (b : Bool) → are_in_range params rest ≡ false → (b && are_in_range params rest) ≡ false
    by true e = e
    by false e = refl

-- rule 40 asks for the last node's rank
pub rank_broken : (schemas : List EffectSchema) (project : PlainProject) (rule : Rule) (comp : PlainComp) (index : ℕ) (layer : PlainLayer) (ranks : List ℕ) (layers : List PlainLayer) (last : ℕ) → rule ≡ Rank → layers ≡ comp.layers → ((k : ℕ) → slice_index_or ranks k 1 ≡ stack_rank project k) → last ≡ last_rank (λ k. slice_index_or ranks k 1) layers layer → nat_lt greatest_rank last ≡ breaks_layer schemas project rule comp index layer
rank_broken schemas project rule comp index layer ranks layers last is same told made =
    let known : last ≡ last_rank (stack_rank project) comp.layers layer =
    made
    ∙ ap (λ (ls : List PlainLayer). last_rank (λ k. slice_index_or ranks k 1) ls layer) same
    ∙ ap (λ (f : ℕ → ℕ). last_rank f comp.layers layer) (λ j k. told k j) in
    ap (nat_lt greatest_rank) known
    ∙ sym (any_above greatest_rank (stack_rank project) comp.layers (source_rank (stack_rank project) layer.source) layer.effects)
    ∙ ap (λ (r : Rule). breaks_layer schemas project r comp index layer) (sym is)
