-- The test of a project's form.
use Rattle.std.proofs.Common.{◌≡◌, ◌↔◌, ◌≤◌, Bool, true, List, [], ◌∷◌, refl, sym, ◌∙◌, ap}
use Rattle.std.specs.Prelude.{◌&&◌, IsTrue}
use Rattle.std.specs.List.{All, list_all, flat_map}
use Rattle.std.proofs.lemmas.Bool.{and_parts, and_from, leb-true, le-leb}
use Rattle.std.proofs.lemmas.List.Elements.{All-weaker}
use Rattle.std.proofs.lemmas.List.Folds.{list_all-append}
use Rattle.std.proofs.lemmas.List.Sums.{AllPass-from_list_all, list_all-from_AllPass}
use Rattle.rational_time.specs.declared.time.Time.{Time}
use Rattle.project_model.specs.Form.{IsKeyCount, IsFormedFx, IsFormedLayer, IsFormedComp, IsFormed, is_key_count, is_formed_fx, is_formed_layer, is_formed_comp, is_scaled, is_formed}
use Rattle.project_model.specs.Times.{times_of}

-- a test of all pieces
pub all_pieces : {X Y : Type 0} (test : Y → Bool) (f : X → List Y) (xs : List X) → list_all (λ x. list_all test (f x)) xs ≡ list_all test (flat_map f xs)
all_pieces test f [] = refl
all_pieces test f (x ∷ xs) =
    ap (λ (b : Bool). list_all test (f x) && b) (all_pieces test f xs) ∙ sym (list_all-append test (f x) (flat_map f xs))

-- ---- each test is that of its fact

abbrev Tests : {X : Type 0} → (X → Bool) → (X → Type 0) → Type 0
Tests {X} test P = (x : X) → IsTrue (test x) ↔ P x

all_tests : {X : Type 0} (test : X → Bool) (P : X → Type 0) → Tests test P → (xs : List X) → IsTrue (list_all test xs) ↔ All P xs
all_tests test P each xs = (
  λ e. All-weaker (λ x. test x ≡ true) P (λ x h. (each x).0 h) xs (AllPass-from_list_all test xs e),
  λ all. list_all-from_AllPass test xs (All-weaker P (λ x. test x ≡ true) (λ x h. (each x).1 h) xs all),
)

tests_count : Tests is_key_count IsKeyCount
tests_count keys = (
  λ e. let both = and_parts _ _ e in record { some = leb-true _ _ both.0; few = leb-true _ _ both.1 },
  λ h. and_from _ _ (le-leb _ _ h.some) (le-leb _ _ h.few),
)

tests_fx : Tests is_formed_fx IsFormedFx
tests_fx fx = (
  λ e. record { params = (all_tests is_key_count IsKeyCount tests_count fx.params).0 e },
  λ h. (all_tests is_key_count IsKeyCount tests_count fx.params).1 h.params,
)

tests_layer : Tests is_formed_layer IsFormedLayer
tests_layer layer = (
  λ e.
      let all = and_parts _ _ e in
      let few = and_parts _ _ all.0 in
      let both = and_parts _ _ few.0 in
      let front = and_parts _ _ both.0 in
      record {
        opacity = (tests_count layer.opacity).0 front.0;
        x = (tests_count layer.x).0 front.1;
        y = (tests_count layer.y).0 both.1;
        few_effects = leb-true _ _ few.1;
        effects = (all_tests is_formed_fx IsFormedFx tests_fx layer.effects).0 all.1;
      },
  λ h.
      and_from _ _
      (and_from _ _
      (and_from _ _ (and_from _ _ ((tests_count layer.opacity).1 h.opacity) ((tests_count layer.x).1 h.x)) ((tests_count layer.y).1 h.y))
      (le-leb _ _ h.few_effects))
      ((all_tests is_formed_fx IsFormedFx tests_fx layer.effects).1 h.effects),
)

tests_comp : Tests is_formed_comp IsFormedComp
tests_comp comp = (
  λ e.
      let both = and_parts _ _ e in
      record { few_layers = leb-true _ _ both.0; layers = (all_tests is_formed_layer IsFormedLayer tests_layer comp.layers).0 both.1 },
  λ h. and_from _ _ (le-leb _ _ h.few_layers) ((all_tests is_formed_layer IsFormedLayer tests_layer comp.layers).1 h.layers),
)

tests_scale : Tests is_scaled (λ (time : Time). 1 ≤ time.scale)
tests_scale time = (λ e. leb-true _ _ e, λ h. le-leb _ _ h)

pub tests_form : Tests is_formed IsFormed
tests_form project = (
  λ e.
      let scaled = and_parts _ _ e in
      let comps = and_parts _ _ scaled.0 in
      let layers = and_parts _ _ comps.0 in
      let counts = and_parts _ _ layers.0 in
      let among = and_parts _ _ counts.1 in
      let front = and_parts _ _ counts.0 in
      record {
        bits = front.0;
        few_clips = leb-true _ _ front.1;
        some_comp = leb-true _ _ among.0;
        few_comps = leb-true _ _ among.1;
        few_layers = leb-true _ _ layers.1;
        comps = (all_tests is_formed_comp IsFormedComp tests_comp project.comps).0 comps.1;
        scaled = (all_tests is_scaled (λ time. 1 ≤ time.scale) tests_scale (times_of project)).0 scaled.1;
      },
  λ h.
      and_from _ _
      (and_from _ _
      (and_from _ _
      (and_from _ _ (and_from _ _ h.bits (le-leb _ _ h.few_clips)) (and_from _ _ (le-leb _ _ h.some_comp) (le-leb _ _ h.few_comps)))
      (le-leb _ _ h.few_layers))
      ((all_tests is_formed_comp IsFormedComp tests_comp project.comps).1 h.comps))
      ((all_tests is_scaled (λ time. 1 ≤ time.scale) tests_scale (times_of project)).1 h.scaled),
)
