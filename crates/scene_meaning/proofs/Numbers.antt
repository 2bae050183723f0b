-- The numbers of a scene's nodes.
use Rattle.std.proofs.Common.{◌≡◌, ℕ, zero, suc, ◌+◌, ◌<◌, ◌≤◌, List, [], ◌∷◌, length, map, take, refl, ap, ◌∙◌, arith}
use Rattle.std.specs.Prelude.{slice_get}
use Rattle.std.specs.List.{All}
use Rattle.std.specs.Option.{option_map_or}
use Rattle.std.proofs.lemmas.List.{length-map}
use Rattle.std.proofs.lemmas.List.Elements.{All-head, All-tail}
use Rattle.project_model.specs.Count.{layer_count}
use Rattle.project_model.specs.Form.{IsFormedComp, IsFormedLayer, plain_layer_count}
use Rattle.project_model.specs.Nesting.{layers_in}
use Rattle.project_model.specs.Plain.{plain_comp, plain_fx, plain_layer}
use Rattle.project_model.specs.declared.comp.Comp.{Comp}
use Rattle.project_model.specs.declared.layer.Layer.{Layer}
use Rattle.project_model.specs.declared.node.NodeId.TheVariants.{Source, Fx, Stack}
use Rattle.project_model.specs.declared.plain.PlainFx.{PlainFx}
use Rattle.project_model.specs.declared.plain.PlainComp.{PlainComp}
use Rattle.project_model.specs.declared.plain.PlainLayer.{PlainLayer}
use Rattle.project_model.specs.declared.plain.PlainProject.{PlainProject}
use Rattle.scene_meaning.specs.Keys.{NodeNumbersDiffer, layer_number}
use Rattle.scene_meaning.specs.Nodes.{effects_in}

-- ---- the count of layers

-- the layers of a composition
abbrev pub layers_of : List PlainComp → ℕ → List PlainLayer
layers_of comps comp = option_map_or (λ (c : PlainComp). c.layers) (slice_get comps comp) []

pub comp_within : (comps : List Comp) (comp layer : ℕ) → layer < length (layers_of (map plain_comp comps) comp) → comp < length comps
comp_within [] comp layer h = absurd (omega (arith, h))
comp_within (c ∷ cs) zero layer h = omega arith
comp_within (c ∷ cs) (suc comp) layer h = omega (arith, comp_within cs comp layer h)

-- the number of a layer is one of those of all
pub layer_within : (comps : List Comp) (comp layer : ℕ) → layer < length (layers_of (map plain_comp comps) comp) → layer_count (take comp comps) + layer < layer_count comps
layer_within [] comp layer h = absurd (omega (arith, h))
layer_within (c ∷ cs) zero layer h = omega (arith, h, length-map c.layers plain_layer)
layer_within (c ∷ cs) (suc comp) layer h = omega (arith, layer_within cs comp layer h)

pub counted_before : (comps : List Comp) (comp : ℕ) → plain_layer_count (take comp (map plain_comp comps)) ≡ layer_count (take comp comps)
counted_before [] zero = refl
counted_before [] (suc comp) = refl
counted_before (c ∷ cs) zero = refl
counted_before (c ∷ cs) (suc comp) = omega (arith, counted_before cs comp, length-map c.layers plain_layer)

-- ---- effects

-- the effects of a layer
abbrev pub effects_of : List PlainLayer → ℕ → List PlainFx
effects_of layers layer = option_map_or (λ (l : PlainLayer). l.effects) (slice_get layers layer) []

-- a layer that has an effect is there
there_by : (layers : List PlainLayer) (layer index : ℕ) → index < length (effects_of layers layer) → layer < length layers
there_by [] layer index h = absurd (omega (arith, h))
there_by (l ∷ ls) zero index h = omega arith
there_by (l ∷ ls) (suc layer) index h = omega (arith, there_by ls layer index h)

pub layer_there : (project : PlainProject) (comp layer index : ℕ) → index < length (effects_in project comp layer) → layer < length (layers_in project comp)
layer_there project comp layer index h = there_by (layers_in project comp) layer index h

few_of_layers : (layers : List Layer) (layer : ℕ) → length (effects_of (map plain_layer layers) layer) ≤ 8
few_of_layers [] layer = omega arith
few_of_layers (l ∷ ls) zero = omega (arith, length-map l.effects plain_fx, l.few_effects)
few_of_layers (l ∷ ls) (suc layer) = few_of_layers ls layer

-- there are at most eight
pub few_effects : (comps : List Comp) (comp layer : ℕ) → length (effects_of (layers_of (map plain_comp comps) comp) layer) ≤ 8
few_effects [] comp layer = omega arith
few_effects (c ∷ cs) zero layer = few_of_layers c.layers layer
few_effects (c ∷ cs) (suc comp) layer = few_effects cs comp layer

-- ---- different nodes

few_plain : (layers : List PlainLayer) (layer : ℕ) → All IsFormedLayer layers → length (effects_of layers layer) ≤ 8
few_plain [] layer all = omega arith
few_plain (l ∷ ls) zero all = (All-head IsFormedLayer l ls all).few_effects
few_plain (l ∷ ls) (suc layer) all = few_plain ls layer (All-tail IsFormedLayer l ls all)

pub few_in : (comps : List PlainComp) (comp layer : ℕ) → All IsFormedComp comps → length (effects_of (layers_of comps comp) layer) ≤ 8
few_in [] comp layer all = omega arith
few_in (c ∷ cs) zero layer all = few_plain c.layers layer (All-head IsFormedComp c cs all).layers
few_in (c ∷ cs) (suc comp) layer all = few_in cs comp layer (All-tail IsFormedComp c cs all)

-- the number of a layer among these compositions
abbrev number_in : List PlainComp → ℕ → ℕ → ℕ
number_in comps comp layer = plain_layer_count (take comp comps) + layer

same_layer : (comps : List PlainComp) (comp layer other other_layer : ℕ) → layer < length (layers_of comps comp) → other_layer < length (layers_of comps other)
    → number_in comps comp layer ≡ number_in comps other other_layer → (comp ≡ other) × (layer ≡ other_layer)
same_layer [] comp layer other other_layer h k e = absurd (omega (arith, h))
same_layer (c ∷ cs) zero layer zero other_layer h k e = (refl, omega (arith, e))
same_layer (c ∷ cs) zero layer (suc other) other_layer h k e = absurd (omega (arith, h, e))
same_layer (c ∷ cs) (suc comp) layer zero other_layer h k e = absurd (omega (arith, k, e))
same_layer (c ∷ cs) (suc comp) layer (suc other) other_layer h k e =
    let same = same_layer cs comp layer other other_layer h k (omega (arith, e)) in
    (ap suc same.0, same.1)

source_by : (c l d k : ℕ) → (c ≡ d) × (l ≡ k) → Source c l ≡ Source d k
source_by c l d k same = ap (λ x. Source x l) same.0 ∙ ap (Source d) same.1

fx_by : (c l i d k j : ℕ) → (c ≡ d) × (l ≡ k) → i ≡ j → Fx c l i ≡ Fx d k j
fx_by c l i d k j same e = ap (λ x. Fx x l i) same.0 ∙ ap (λ x. Fx d x i) same.1 ∙ ap (Fx d k) e

pub numbers_differ : NodeNumbersDiffer
numbers_differ project (Source c l) (Source d k) formed has of other_has other_of e =
    source_by c l d k (same_layer project.comps c l d k has other_has (omega (arith, e)))
numbers_differ project (Source c l) (Fx d k j) formed has of other_has other_of e =
    absurd (omega (arith, e, other_has, few_in project.comps d k formed.comps))
numbers_differ project (Fx c l i) (Source d k) formed has of other_has other_of e =
    absurd (omega (arith, e, has, few_in project.comps c l formed.comps))
numbers_differ project (Fx c l i) (Fx d k j) formed has of other_has other_of e =
    let one : i ≤ 7 = omega (arith, has, few_in project.comps c l formed.comps) in
    let two : j ≤ 7 = omega (arith, other_has, few_in project.comps d k formed.comps) in
    let same : layer_number project c l ≡ layer_number project d k = omega (arith, e, one, two) in
    fx_by c l i d k j
    (same_layer project.comps c l d k (layer_there project c l i has) (layer_there project d k j other_has) same)
    (omega (arith, e, one, two, same))
numbers_differ project (Stack c) other formed has of other_has other_of e = absurd of
numbers_differ project (Source c l) (Stack d) formed has of other_has other_of e = absurd other_of
numbers_differ project (Fx c l i) (Stack d) formed has of other_has other_of e = absurd other_of
