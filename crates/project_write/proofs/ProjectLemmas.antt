-- The law of the value of a project, and what its text is read as.
use Rattle.std.proofs.Common.{◌≡◌, ℕ, ◌+◌, ◌≤◌, ◌==◌, List, [], ◌∷◌, length, codes, All, Bool, true, false, IsTrue, ◌||◌, nat_lt, if◌then◌else◌, Option, Some, None, Ok, unwrap_or, refl, sym, ap, ◌∙◌, arith}
use Rattle.std.proofs.lemmas.Bool.Decides.{nat_tests}
use Rattle.std.proofs.lemmas.List.{map-id, length-map}
use Rattle.std.proofs.lemmas.List.Elements.{All-weaker}
use Rattle.std.proofs.lemmas.Str.{is_utf8-from_IsUtf8}
use Rattle.std.specs.List.{AllZip, list_all, list_any, fold, sum_by}
use Rattle.std.specs.Str.{IsUtf8}
use Rattle.serde_json.specs.Data.{Data, depth}
use Rattle.serde_json.specs.Read.{read, max_depth}
use Rattle.param_stream.specs.Curve.{Curve}
use Rattle.param_stream.specs.declared.key.Keyframe.{Keyframe}
use Rattle.project_model.specs.Bounds.{is_among, is_bit_depth, most_clips, most_comps, most_layers_in_all}
use Rattle.project_model.specs.Broken.{breach_of, first_broken}
use Rattle.project_model.specs.Count.{layer_count}
use Rattle.project_model.specs.Effects.{AreInRange}
use Rattle.project_model.specs.Places.{first_of_two, first_from, first_in_comps, first_place}
use Rattle.project_model.specs.Plain.{plain_comp, plain_of}
use Rattle.project_model.specs.Uses.{IsUse, AreUses}
use Rattle.project_model.specs.declared.clip.ClipUse.{ClipUse}
use Rattle.project_model.specs.declared.comp.Comp.{Comp}
use Rattle.project_model.specs.declared.effect.EffectSchema.{EffectSchema}
use Rattle.project_model.specs.declared.effect.ParamSchema.{ParamSchema}
use Rattle.project_model.specs.declared.effect.FxUse.{FxUse}
use Rattle.project_model.specs.declared.layer.Layer.{Layer}
use Rattle.project_model.specs.declared.place.Breach.{Breach}
use Rattle.project_model.specs.declared.plain.PlainComp.{PlainComp}
use Rattle.project_model.specs.declared.plain.PlainProject.{PlainProject}
use Rattle.project_model.specs.declared.project.Project.{Project}
use Rattle.project_json.specs.Json.{json_of}
use Rattle.project_json.specs.FormRules.{number_of, breaks_project, breaks_comp, breaks_layer, form_rules, are_clips, clip_names}
use Rattle.project_json.specs.Parts.{items_in, is_object, has_exactly, has_only, has_each, is_the_number}
use Rattle.project_json.specs.PlainData.{items_of, plain_clip_of, plain_comp_of, plain_of_data}
use Rattle.project_json.specs.Reading.{project_of, checked, judged}
use Rattle.project_json.specs.Reads.{no_index}
use Rattle.project_json.specs.Shapes.{has_frame}
use Rattle.project_write.specs.Kinds.{HasKind, HaveKinds}
use Rattle.project_write.specs.Parts.{IsWhole, IsArrayOf, IsCount, IsClip, IsComp, IsProject, object_of}
use Rattle.project_write.proofs.ListLemmas.{array_items, array_map, array_all, array_none, array_whole, or_false}
use Rattle.project_write.proofs.ObjectLemmas.{deeper, object_whole, kept, both_true, objects_of, only_is_object}

-- ---- no place where nothing is broken

no_layer : {L : Type 0} (test : L → Bool) (i : ℕ) (layers : List L) → list_any test layers ≡ false → first_from (λ _ layer. test layer) i layers ≡ None
no_layer test i [] e = refl
no_layer test i (layer ∷ layers) e =
    let parts = or_false (test layer) (list_any test layers) e in
    rw parts.0 (no_layer test (i + 1) layers parts.1)

no_comp : {C L : Type 0} (layers_of : C → List L) (in_comp : C → Bool) (in_layer : L → Bool) (i : ℕ) (comps : List C)
    → list_any in_comp comps ≡ false → list_any (λ comp. list_any in_layer (layers_of comp)) comps ≡ false
    → first_in_comps layers_of (λ _ comp. in_comp comp) (λ _ _ layer. in_layer layer) i comps ≡ None
no_comp layers_of in_comp in_layer i [] a b = refl
no_comp layers_of in_comp in_layer i (comp ∷ comps) a b =
    let x = or_false (in_comp comp) (list_any in_comp comps) a in
    let y = or_false (list_any in_layer (layers_of comp)) (list_any (λ comp. list_any in_layer (layers_of comp)) comps) b in
    rw (x.0, no_layer in_layer 0 (layers_of comp) y.0) (no_comp layers_of in_comp in_layer (i + 1) comps x.1 y.1)

unbroken : {K C L : Type 0} (number : K → ℕ) (layers_of : C → List L) (in_top : K → Bool) (in_comp : K → C → Bool) (in_layer : K → L → Bool)
    (comps : List C) (rules : List K) → list_any in_top rules ≡ false → list_any (λ rule. list_any (in_comp rule) comps) rules ≡ false
    → list_any (λ rule. list_any (λ comp. list_any (in_layer rule) (layers_of comp)) comps) rules ≡ false
    → first_broken number (λ rule. first_place layers_of (in_top rule) (λ _ comp. in_comp rule comp) (λ _ _ layer. in_layer rule layer) comps) rules ≡ None
unbroken number layers_of in_top in_comp in_layer comps [] a b d = refl
unbroken number layers_of in_top in_comp in_layer comps (rule ∷ rules) a b d =
    let x = or_false (in_top rule) (list_any in_top rules) a in
    let y = or_false (list_any (in_comp rule) comps) (list_any (λ rule. list_any (in_comp rule) comps) rules) b in
    let z = or_false (list_any (λ comp. list_any (in_layer rule) (layers_of comp)) comps)
    (list_any (λ rule. list_any (λ comp. list_any (in_layer rule) (layers_of comp)) comps) rules) d in
    rw (x.0, no_comp layers_of (in_comp rule) (in_layer rule) 0 comps y.0 z.0) (unbroken number layers_of in_top in_comp in_layer comps rules x.1 y.1 z.1)

-- ---- the members of a project

abbrev pub project_members : Data → Data → Data → Data → Data → List (List ℕ × Data)
project_members clips comps depth root version =
    (codes "clips", clips) ∷ (codes "comps", comps) ∷ (codes "depth", depth) ∷ (codes "root", root) ∷ (codes "version", version) ∷ []

abbrev project_from : ℕ → ℕ → List ClipUse → List PlainComp → PlainProject
project_from depth root clips comps = record { depth = depth; root = root; clips = clips; comps = comps }

same_project : (depth depth' root root' : ℕ) (clips clips' : List ClipUse) (comps comps' : List PlainComp)
    → depth ≡ depth' → root ≡ root' → clips ≡ clips' → comps ≡ comps' → project_from depth root clips comps ≡ project_from depth' root' clips' comps'
same_project depth depth' root root' clips clips' comps comps' a b c d = rw (a, b, c, d)

bits : (n : ℕ) → IsTrue (is_bit_depth n) → (8 == n) || (16 == n) ≡ true
bits n h = grind (arith, nat_tests)

is_depth : (n : ℕ) (d : Data) → IsCount n d → IsTrue (is_bit_depth n) → is_the_number 8 d || is_the_number 16 d ≡ true
is_depth n d count h = ap (λ d. is_the_number 8 d || is_the_number 16 d) count.is ∙ bits n h

few : (low high n : ℕ) → low ≤ n → n ≤ high → is_among low high n ≡ true
few low high n a b = grind (arith, nat_tests)

clip_is_object : (clip : ClipUse) (d : Data) → IsClip clip d → is_object d ≡ true
clip_is_object clip d r = only_is_object _ _ (only_is_object (has_only clip_names d) (has_each clip_names d) r.form)

sum_at : (schemas : List EffectSchema) (a : ℕ) (comps : List Comp) (ds : List Data) → AllZip (IsComp schemas) comps ds
    → fold (λ (a : ℕ) (d : Data). a + length (items_of (codes "layers") d)) a ds ≡ a + layer_count comps
sum_at schemas a [] [] z = omega arith
sum_at schemas a [] (d ∷ ds) z = absurd z
sum_at schemas a (comp ∷ comps) [] z = absurd z
sum_at schemas a (comp ∷ comps) (d ∷ ds) z =
    let count = z.0.count in
    sum_at schemas (a + length (items_of (codes "layers") d)) comps ds z.1
    ∙ plus a (length (items_of (codes "layers") d)) (length comp.layers) (layer_count comps) count
  where
    plus : (a n m s : ℕ) → n ≡ m → a + n + s ≡ a + (m + s)
    plus a n m s e = omega (arith, e)

few_layers : (schemas : List EffectSchema) (comps : List Comp) (d : Data) → IsArrayOf (IsComp schemas) comps d → layer_count comps ≤ most_layers_in_all
    → nat_lt most_layers_in_all (sum_by (λ comp. length (items_of (codes "layers") comp)) (items_in d)) ≡ false
few_layers schemas comps d a less =
    ap (λ ds. nat_lt most_layers_in_all (sum_by (λ comp. length (items_of (codes "layers") comp)) ds)) (array_items (IsComp schemas) comps d a)
    ∙ ap (nat_lt most_layers_in_all) (sum_at schemas 0 comps a.values a.each) ∙ not_more (layer_count comps) less
  where
    not_more : (n : ℕ) → n ≤ most_layers_in_all → nat_lt most_layers_in_all (0 + n) ≡ false
    not_more n h = grind (arith, nat_tests)

kept_false : (test rest : Bool) → test ≡ false → rest ≡ false → test || rest ≡ false
kept_false test rest a b = rw (a, b)

pub project_is : (schemas : List EffectSchema) (project : Project) (clips comps depth root version : Data)
    → IsArrayOf IsClip project.clips clips → IsArrayOf (IsComp schemas) project.comps comps → IsCount project.depth depth → IsCount project.root root
    → IsCount 1 version → IsProject schemas project (object_of (project_members clips comps depth root version))
project_is schemas project clips comps depth root version cs ds bits_are root_is one =
    let d = object_of (project_members clips comps depth root version) in
    let whole : IsWhole 11 d = object_whole 10 (project_members clips comps depth root version) (
      deeper 3 10 clips (omega arith) (array_whole IsClip 2 (λ x e r. r.whole) project.clips clips cs),
      (
        array_whole (IsComp schemas) 9 (λ x e r. r.whole) project.comps comps ds,
        (
          deeper 0 10 depth (omega arith) bits_are.whole,
          (deeper 0 10 root (omega arith) root_is.whole, (deeper 0 10 version (omega arith) one.whole, tt)),
        ),
      ),
    ) in
    let clips_are : are_clips clips ≡ true =
    both_true _ _ (objects_of IsClip 0 most_clips project.clips clips cs clip_is_object (few 0 most_clips (length project.clips) (omega arith) project.few_clips))
    (array_all IsClip (has_exactly clip_names) (λ x e r. r.form) project.clips clips cs) in
    let comps_are = objects_of (IsComp schemas) 1 most_comps project.comps comps ds (λ x e r. r.is)
    (few 1 most_comps (length project.comps) project.some_comp project.few_comps) in
    let times : list_all has_frame (items_in clips) ≡ true = array_all IsClip has_frame (λ x e r. r.timed) project.clips clips cs in
    let top : list_any (breaks_project d) form_rules ≡ false =
    kept_false _ _ whole.whole (kept _ _ (ap (is_the_number 1) one.is) (kept _ _ (is_depth project.depth depth bits_are project.bits)
    (kept _ _ clips_are (kept _ _ comps_are (kept_false _ _ (few_layers schemas project.comps comps ds project.few_layers) (kept _ _ times refl)))))) in
    let in_comps = array_none (IsComp schemas) breaks_comp form_rules (λ x e r. r.form) project.comps comps ds in
    let in_layers = array_none (IsComp schemas) (λ rule comp. list_any (breaks_layer schemas rule) (items_of (codes "layers") comp)) form_rules (λ x e r. r.layers) project.comps comps ds in
    record {
      form = unbroken number_of (items_of (codes "layers")) (breaks_project d) breaks_comp (breaks_layer schemas) (items_in comps) form_rules top in_comps in_layers;
      read = same_project _ _ _ _ _ _ _ _ (ap (λ (o : Option ℕ). unwrap_or o 0) bits_are.read) (ap (λ (o : Option ℕ). unwrap_or o no_index) root_is.read)
          (array_map IsClip (λ clip. clip) plain_clip_of (λ x e r. r.read) project.clips clips cs ∙ map-id project.clips)
          (array_map (IsComp schemas) plain_comp (plain_comp_of schemas) (λ x e r. r.read) project.comps comps ds);
      whole = whole;
    }

-- ---- its text

json_of-text : (bytes : List ℕ) → IsUtf8 bytes → json_of bytes ≡ read bytes
unfolding json_of
json_of-text bytes text = ap (λ b. if b then read bytes else None) (is_utf8-from_IsUtf8 bytes text)

pub read_again : (schemas : List EffectSchema) (project : Project) (d : Data) (bytes : List ℕ) → IsProject schemas project d → IsUtf8 bytes
    → (depth d ≤ max_depth → read bytes ≡ Some d) → breach_of schemas (plain_of project) ≡ None → project_of schemas bytes ≡ Ok (plain_of project)
read_again schemas project d bytes is text back none =
    let shallow : depth d ≤ max_depth = let n = is.whole.nests in omega (arith, n) in
    ap (checked schemas) (json_of-text bytes text ∙ back shallow)
    ∙ ap (λ (o : Option Breach). judged (first_of_two o (breach_of schemas (plain_of_data schemas d))) (plain_of_data schemas d)) is.form
    ∙ ap (λ (p : PlainProject). judged (breach_of schemas p) p) is.read
    ∙ ap (λ (o : Option Breach). judged o (plain_of project)) none

-- ---- the kinds of the effects

range_length : (params : List ParamSchema) (streams : List (List Keyframe)) → AreInRange params streams → length streams ≡ length params
range_length [] [] h = refl
range_length [] (keys ∷ streams) h = absurd h
range_length (param ∷ params) [] h = absurd h
range_length (param ∷ params) (keys ∷ streams) h = let e = range_length params streams h.2 in omega (arith, e)

use_kind : (schemas : List EffectSchema) (base count : ℕ) (fx : FxUse) → IsUse schemas base count fx → HasKind schemas fx
use_kind schemas base count fx u = record {
  known = u.fits.known;
  threaded = u.threaded;
  params = sym (length-map fx.params (λ (curve : Curve). curve.keys)) ∙ range_length _ _ u.fits.in_range;
  layers = u.fits.layers_are;
}

layer_kinds : (schemas : List EffectSchema) (base count : ℕ) (layer : Layer) → All (IsUse schemas base count) layer.effects → All (HasKind schemas) layer.effects
layer_kinds schemas base count layer uses = All-weaker (IsUse schemas base count) (HasKind schemas) (use_kind schemas base count) layer.effects uses

comp_kinds : (schemas : List EffectSchema) (base : ℕ) (comp : Comp)
    → All (λ (layer : Layer). All (IsUse schemas base (length comp.layers)) layer.effects) comp.layers → HaveKinds schemas comp.layers
comp_kinds schemas base comp uses =
    All-weaker (λ (layer : Layer). All (IsUse schemas base (length comp.layers)) layer.effects) (λ (layer : Layer). All (HasKind schemas) layer.effects)
    (layer_kinds schemas base (length comp.layers)) comp.layers uses

pub project_kinds : (schemas : List EffectSchema) (project : Project) → AreUses schemas project → All (λ (comp : Comp). HaveKinds schemas comp.layers) project.comps
project_kinds schemas project uses =
    All-weaker (λ (comp : Comp). All (λ (layer : Layer). All (IsUse schemas project.base.ticks (length comp.layers)) layer.effects) comp.layers)
    (λ (comp : Comp). HaveKinds schemas comp.layers) (comp_kinds schemas project.base.ticks) project.comps uses
