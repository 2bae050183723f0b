-- The first broken rule, where rule 25 was tested before.
use Rattle.std.proofs.Common.{◌≡◌, ℕ, ◌≤◌, ◌<◌, Bool, true, false, List, inl, inr, refl, sym, ◌∙◌, subst, ap, arith}
use Rattle.std.specs.Prelude.{Option, Some, None, is_some, not, nat_lt, nat_le, ◌&&◌, MatchOption, if◌then◌else◌}
use Rattle.std.proofs.lemmas.Bool.{le-ltb, lt-ltb, le-leb, lt-leb, cases_lt}
use Rattle.rational_time.specs.Times.{common_base}
use Rattle.rational_time.specs.declared.time.Time.{Time}
use Rattle.rational_time.specs.declared.time.TimeBase.{TimeBase}
use Rattle.project_model.specs.Bounds.{greatest_base}
use Rattle.project_model.specs.Broken.{first_broken, breach_of}
use Rattle.project_model.specs.Checked.{is_based, is_based_on, place_in, breach_in, error_of, Refuses}
use Rattle.project_model.specs.Plain.{plain_of}
use Rattle.project_model.specs.declared.passing.CheckError.{CheckError}
use Rattle.project_model.specs.declared.place.Place.TheVariants as place
use Rattle.project_model.specs.declared.plain.PlainComp.{PlainComp}
use Rattle.project_model.specs.declared.project.Project.{Project}
use Rattle.project_model.specs.Given.{place_given, breach_given}
use Rattle.project_model.specs.Places.{first_place}
use Rattle.project_model.specs.Rules.{number_of, rules, place_of, breaks_comp, breaks_layer}
use Rattle.project_model.specs.Times.{times_of}
use Rattle.project_model.specs.declared.effect.EffectSchema.{EffectSchema}
use Rattle.project_model.specs.declared.place.Breach.{Breach}
use Rattle.project_model.specs.declared.place.Place.{Place}
use Rattle.project_model.specs.declared.plain.PlainProject.{PlainProject}
use Rattle.project_model.specs.declared.rule.Rule.{Rule}
use Rattle.project_model.specs.declared.rule.Rule.TheVariants.{Root, ClipName, ClipNames, Size, ClipDepth, Frames, FrameValue, Near, Length, Base, ClipBytes, Solid, ClipSource, CompSource, Nesting, Mode, Matte, MatteLayer, Span, Rising, Range, Params, EffectLayers, Sequence, Rank}

-- the place is that of another search where the tests are
pub same_first : (places others : Rule → Option Place) → ((rule : Rule) → places rule ≡ others rule) → first_broken number_of places rules ≡ first_broken number_of others rules
same_first places others same = ap (λ (f : Rule → Option Place). first_broken number_of f rules) (λ i rule. same rule i)

pub same_place : (schemas : List EffectSchema) (project : PlainProject) (is_based : Bool) → not is_based ≡ nat_lt greatest_base (common_base (times_of project)) → (rule : Rule) → place_given schemas project is_based rule ≡ place_of schemas project rule
same_place schemas project is_based e Root = refl
same_place schemas project is_based e ClipName = refl
same_place schemas project is_based e ClipNames = refl
same_place schemas project is_based e Size = refl
same_place schemas project is_based e ClipDepth = refl
same_place schemas project is_based e Frames = refl
same_place schemas project is_based e FrameValue = refl
same_place schemas project is_based e Near = refl
same_place schemas project is_based e Length = refl
same_place schemas project is_based e Base =
    ap (λ (b : Bool). first_place (λ comp. comp.layers) b (breaks_comp project Base) (breaks_layer schemas project Base) project.comps) e
same_place schemas project is_based e ClipBytes = refl
same_place schemas project is_based e Solid = refl
same_place schemas project is_based e ClipSource = refl
same_place schemas project is_based e CompSource = refl
same_place schemas project is_based e Nesting = refl
same_place schemas project is_based e Mode = refl
same_place schemas project is_based e Matte = refl
same_place schemas project is_based e MatteLayer = refl
same_place schemas project is_based e Span = refl
same_place schemas project is_based e Rising = refl
same_place schemas project is_based e Range = refl
same_place schemas project is_based e Params = refl
same_place schemas project is_based e EffectLayers = refl
same_place schemas project is_based e Sequence = refl
same_place schemas project is_based e Rank = refl

pub record IsKept (schemas : List EffectSchema) (project : PlainProject) (found : TimeBase) : Type 0 where
  pub none : breach_of schemas project ≡ None
  pub base : found.ticks ≡ common_base (times_of project)
  pub small : found.ticks ≤ greatest_base

-- nothing is found where there is a base
pub none_found : (schemas : List EffectSchema) (project : PlainProject) (times : List Time) (found : Option TimeBase) (base : TimeBase) (is_based : Bool) (breach : Option Breach) → times ≡ times_of project → found ≡ Some base → MatchOption found (greatest_base < common_base times) (λ b. b.ticks ≡ common_base times) → MatchOption found (greatest_base < common_base times) (λ b. b.ticks ≤ greatest_base) → is_based ≡ is_some found → breach ≡ breach_given schemas project is_based → breach ≡ None → IsKept schemas project base
none_found schemas project times found base is_based breach are is value small flag search none =
    let ticks : base.ticks ≡ common_base times = subst (λ (o : Option TimeBase). MatchOption o (greatest_base < common_base times) (λ b. b.ticks ≡ common_base times)) is value in
    let few : base.ticks ≤ greatest_base = subst (λ (o : Option TimeBase). MatchOption o (greatest_base < common_base times) (λ b. b.ticks ≤ greatest_base)) is small in
    let all : base.ticks ≡ common_base (times_of project) = ticks ∙ ap common_base are in
    let based : is_based ≡ true = flag ∙ ap (is_some {T = TimeBase}) is in
    let test : not is_based ≡ nat_lt greatest_base (common_base (times_of project)) =
    ap not based ∙ sym (le-ltb greatest_base (common_base (times_of project)) (omega (arith, all, few))) in
    record {
      none = sym (same_first (place_given schemas project is_based) (place_of schemas project) (same_place schemas project is_based test)) ∙ sym search ∙ none;
      base = all;
      small = few;
    }

-- ---- a project in hand

choice : {C L : Type 0} (layers_of : C → List L) (in_comp : ℕ → C → Bool) (in_layer : C → ℕ → L → Bool) (comps : List C) (small is_based large : Bool) → not small ≡ large → first_place layers_of (not (small && is_based)) in_comp in_layer comps ≡ (if is_based then first_place layers_of large in_comp in_layer comps else Some place.Project)
choice layers_of in_comp in_layer comps true true large e = ap (λ (b : Bool). first_place layers_of b in_comp in_layer comps) e
choice layers_of in_comp in_layer comps true false large e = refl
choice layers_of in_comp in_layer comps false true large e = ap (λ (b : Bool). first_place layers_of b in_comp in_layer comps) e
choice layers_of in_comp in_layer comps false false large e = refl

not_within : (a b : ℕ) → not (nat_le a b) ≡ nat_lt b a
not_within a b = elim (cases_lt b a) [ inl h ↦ rw (lt-leb a b h, lt-ltb b a h) refl | inr h ↦ rw (le-leb a b h, le-ltb b a h) refl ]

in_hand : (schemas : List EffectSchema) (project : Project) (rule : Rule) → place_given schemas (plain_of project) (nat_le (common_base (times_of (plain_of project))) greatest_base && is_based project) rule ≡ place_in schemas project rule
in_hand schemas project Root = refl
in_hand schemas project ClipName = refl
in_hand schemas project ClipNames = refl
in_hand schemas project Size = refl
in_hand schemas project ClipDepth = refl
in_hand schemas project Frames = refl
in_hand schemas project FrameValue = refl
in_hand schemas project Near = refl
in_hand schemas project Length = refl
in_hand schemas project Base =
    let plain : PlainProject = plain_of project in
    choice (λ (comp : PlainComp). comp.layers) (breaks_comp plain Base) (breaks_layer schemas plain Base) plain.comps
    (nat_le (common_base (times_of plain)) greatest_base) (is_based project) _
    (not_within (common_base (times_of plain)) greatest_base)
in_hand schemas project ClipBytes = refl
in_hand schemas project Solid = refl
in_hand schemas project ClipSource = refl
in_hand schemas project CompSource = refl
in_hand schemas project Nesting = refl
in_hand schemas project Mode = refl
in_hand schemas project Matte = refl
in_hand schemas project MatteLayer = refl
in_hand schemas project Span = refl
in_hand schemas project Rising = refl
in_hand schemas project Range = refl
in_hand schemas project Params = refl
in_hand schemas project EffectLayers = refl
in_hand schemas project Sequence = refl
in_hand schemas project Rank = refl

-- the breach that is found
pub found_in : (schemas : List EffectSchema) (project : Project) (plain : PlainProject) (times : List Time) (flag : Bool) (found : Option Breach) → plain ≡ plain_of project → times ≡ times_of plain → flag ≡ (nat_le (common_base times) greatest_base && is_based_on (common_base times) project) → found ≡ breach_given schemas plain flag → found ≡ breach_in schemas project
found_in schemas project plain times flag found same are is search =
    let all : times ≡ times_of (plain_of project) = are ∙ ap times_of same in
    let flagged : flag ≡ (nat_le (common_base (times_of (plain_of project))) greatest_base && is_based project) =
    is ∙ ap (λ (ts : List Time). nat_le (common_base ts) greatest_base && is_based_on (common_base ts) project) all in
    search
    ∙ ap (λ (p : PlainProject). breach_given schemas p flag) same
    ∙ ap (breach_given schemas (plain_of project)) flagged
    ∙ same_first _ (place_in schemas project) (in_hand schemas project)

pub refuses : (breach : Breach) (error : CheckError) (found : Option Breach) → Some breach ≡ found → error ≡ error_of breach → Refuses error found
refuses breach error found is e =
    subst (λ (o : Option Breach). Refuses error o) is (subst (λ (x : CheckError). Refuses x (Some breach)) (sym e) refl)
