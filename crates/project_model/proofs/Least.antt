-- The first broken rule has the least number.
use Rattle.std.proofs.Common.{◌≡◌, ◌↔◌, ℕ, ◌+◌, ◌<◌, List, [], ◌∷◌, refl, ◌∙◌, ap, arith, lit<}
use Rattle.std.specs.Prelude.{Option, Some, None, option_map}
use Rattle.project_model.specs.Broken.{first_broken, breach_of}
use Rattle.project_model.specs.Laws.{IsLeastBreach}
use Rattle.project_model.specs.Places.{first_of_two}
use Rattle.project_model.specs.Rules.{number_of, rules, place_of}
use Rattle.project_model.specs.declared.effect.EffectSchema.{EffectSchema}
use Rattle.project_model.specs.declared.place.Breach.{Breach}
use Rattle.project_model.specs.declared.place.Place.{Place}
use Rattle.project_model.specs.declared.plain.PlainProject.{PlainProject}
use Rattle.project_model.specs.declared.rule.Rule.{Rule}
use Rattle.project_model.specs.declared.rule.Rule.TheVariants.{Root, ClipName, ClipNames, Size, ClipDepth, Frames, FrameValue, Near, Length, Base, ClipBytes, Solid, ClipSource, CompSource, Nesting, Mode, Matte, MatteLayer, Span, Rising, Range, Params, EffectLayers, Sequence, Rank}
use Rattle.project_model.proofs.Keeps.{all_kept, each_kept}

-- ---- none is broken

none_of_kept : {R : Type 0} (number_of : R → ℕ) (place_of : R → Option Place) (list : List R) → ((rule : R) → place_of rule ≡ None) → first_broken number_of place_of list ≡ None
none_of_kept number_of place_of [] kept = refl
none_of_kept number_of place_of (rule ∷ rest) kept = rw (kept rule) (none_of_kept number_of place_of rest kept)

pub rules_kept : (schemas : List EffectSchema) (project : PlainProject) → (breach_of schemas project ≡ None) ↔ ((rule : Rule) → place_of schemas project rule ≡ None)
rules_kept schemas project = (
  λ e rule. each_kept (place_of schemas project) (all_kept number_of (place_of schemas project) rules e) rule,
  λ kept. none_of_kept number_of (place_of schemas project) rules kept,
)

-- ---- the least number

-- the numbers rise from this one on
abbrev pub Rise : {R : Type 0} → (R → ℕ) → ℕ → List R → Type 0
Rise number_of n [] = Unit {0}
Rise number_of n (rule ∷ rest) = (n < number_of rule) × Rise number_of (number_of rule) rest

-- each rule with a number below this one is kept
abbrev pub KeptBelow : {R : Type 0} → (R → ℕ) → (R → Option Place) → ℕ → List R → Type 0
KeptBelow number_of place_of n [] = Unit {0}
KeptBelow number_of place_of n (rule ∷ rest) =
    (number_of rule < n → place_of rule ≡ None) × KeptBelow number_of place_of n rest

pub record IsFound {R : Type 0} (number_of : R → ℕ) (place_of : R → Option Place) (list : List R) (breach : Breach) : Type 0 where
  pub rule : R
  pub number : number_of rule ≡ breach.number
  pub place : place_of rule ≡ Some breach.place
  pub least : KeptBelow number_of place_of breach.number list

none_below : {R : Type 0} (number_of : R → ℕ) (place_of : R → Option Place) (n m : ℕ) (list : List R) → n < m + 1 → Rise number_of m list → KeptBelow number_of place_of n list
none_below number_of place_of n m [] h rise = tt
none_below number_of place_of n m (rule ∷ rest) h rise =
    (λ less. absurd (omega (arith, less, rise.0)), none_below number_of place_of n (number_of rule) rest (omega (arith, rise.0)) rise.1)

pub found_here : {R : Type 0} (number_of : R → ℕ) (place_of : R → Option Place) (rule : R) (rest : List R) (at : Place) (breach : Breach) → Rise number_of (number_of rule) rest → place_of rule ≡ Some at → ◌≡◌ {A = Option Breach} (Some (record { number = number_of rule; place = at })) (Some breach) → IsFound number_of place_of (rule ∷ rest) breach
found_here number_of place_of rule rest at breach rise is e =
    let same : ◌≡◌ {A = Breach} (record { number = number_of rule; place = at }) breach = cc in
    let number : number_of rule ≡ breach.number = ap (λ (b : Breach). b.number) same in
    record {
      rule = rule;
      number = number;
      place = is ∙ ap (λ (b : Breach). Some b.place) same;
      least = (λ less. absurd (omega (arith, less, number)), none_below number_of place_of breach.number (number_of rule) rest (omega (arith, number)) rise);
    }

pub found : {R : Type 0} (number_of : R → ℕ) (place_of : R → Option Place) (n : ℕ) (list : List R) (breach : Breach) → Rise number_of n list → first_broken number_of place_of list ≡ Some breach → IsFound number_of place_of list breach
found number_of place_of n [] breach rise e = cc
found number_of place_of n (rule ∷ rest) breach rise e =
    by (place_of rule) refl e (λ later. found number_of place_of (number_of rule) rest breach rise.1 later)
  where
    by : (o : Option Place) → place_of rule ≡ o → first_of_two (option_map (λ (at : Place). record { number = number_of rule; place = at }) o) (first_broken number_of place_of rest) ≡ Some breach → (first_broken number_of place_of rest ≡ Some breach → IsFound number_of place_of rest breach) → IsFound number_of place_of (rule ∷ rest) breach
    by None is later more =
        let behind = more later in
        record { rule = behind.rule; number = behind.number; place = behind.place; least = (λ less. is, behind.least) }
    by (Some at) is here more = found_here number_of place_of rule rest at breach rise.1 is here

each_below : (place_of : Rule → Option Place) (n : ℕ) → KeptBelow number_of place_of n rules → (rule : Rule) → number_of rule < n → place_of rule ≡ None
each_below place_of n h Root = h.0
each_below place_of n h ClipName = h.1.0
each_below place_of n h ClipNames = h.1.1.0
each_below place_of n h Size = h.1.1.1.0
each_below place_of n h ClipDepth = h.1.1.1.1.0
each_below place_of n h Frames = h.1.1.1.1.1.0
each_below place_of n h FrameValue = h.1.1.1.1.1.1.0
each_below place_of n h Near = h.1.1.1.1.1.1.1.0
each_below place_of n h Length = h.1.1.1.1.1.1.1.1.0
each_below place_of n h Base = h.1.1.1.1.1.1.1.1.1.0
each_below place_of n h ClipBytes = h.1.1.1.1.1.1.1.1.1.1.0
each_below place_of n h Solid = h.1.1.1.1.1.1.1.1.1.1.1.0
each_below place_of n h ClipSource = h.1.1.1.1.1.1.1.1.1.1.1.1.0
each_below place_of n h CompSource = h.1.1.1.1.1.1.1.1.1.1.1.1.1.0
each_below place_of n h Nesting = h.1.1.1.1.1.1.1.1.1.1.1.1.1.1.0
each_below place_of n h Mode = h.1.1.1.1.1.1.1.1.1.1.1.1.1.1.1.0
each_below place_of n h Matte = h.1.1.1.1.1.1.1.1.1.1.1.1.1.1.1.1.0
each_below place_of n h MatteLayer = h.1.1.1.1.1.1.1.1.1.1.1.1.1.1.1.1.1.0
each_below place_of n h Span = h.1.1.1.1.1.1.1.1.1.1.1.1.1.1.1.1.1.1.0
each_below place_of n h Rising = h.1.1.1.1.1.1.1.1.1.1.1.1.1.1.1.1.1.1.1.0
each_below place_of n h Range = h.1.1.1.1.1.1.1.1.1.1.1.1.1.1.1.1.1.1.1.1.0
each_below place_of n h Params = h.1.1.1.1.1.1.1.1.1.1.1.1.1.1.1.1.1.1.1.1.1.0
each_below place_of n h EffectLayers = h.1.1.1.1.1.1.1.1.1.1.1.1.1.1.1.1.1.1.1.1.1.1.0
each_below place_of n h Sequence = h.1.1.1.1.1.1.1.1.1.1.1.1.1.1.1.1.1.1.1.1.1.1.1.0
each_below place_of n h Rank = h.1.1.1.1.1.1.1.1.1.1.1.1.1.1.1.1.1.1.1.1.1.1.1.1.0

rules_rise : Rise number_of 0 rules
rules_rise = (lit< tt, (lit< tt, (lit< tt, (lit< tt, (lit< tt, (lit< tt, (lit< tt, (lit< tt, (lit< tt, (lit< tt, (lit< tt, (lit< tt, (lit< tt, (lit< tt, (lit< tt, (lit< tt, (lit< tt, (lit< tt, (lit< tt, (lit< tt, (lit< tt, (lit< tt, (lit< tt, (lit< tt, (lit< tt, tt)))))))))))))))))))))))))

pub least_breach : (schemas : List EffectSchema) (project : PlainProject) (breach : Breach) → breach_of schemas project ≡ Some breach → IsLeastBreach schemas project breach
least_breach schemas project breach e =
    let first = found number_of (place_of schemas project) 0 rules breach rules_rise e in
    record { rule = first.rule; number = first.number; place = first.place; least = each_below (place_of schemas project) breach.number first.least }
