-- Small effect sets.
use Rattle.std.proofs.Common.{◌≡◌, ◌≢◌, ℕ, List, [], ◌∷◌, sym, ◌∙◌, ap, arith}
use Rattle.std.specs.Prelude.{slice_index_or}
use Rattle.std.specs.List.{All}
use Rattle.std.proofs.lemmas.List.Elements.{All-nil, All-cons}
use Rattle.project_model.specs.Effects.{IsParam, AreSchemas}
use Rattle.project_model.specs.declared.effect.EffectSchema.{EffectSchema}

pub no_effects : AreSchemas []
no_effects = record { few = omega arith; names = tt; params_are = All-nil _ }

-- two names of one letter each
apart : (x y : List ℕ) (m n : ℕ) → x ≡ m ∷ [] → y ≡ n ∷ [] → m ≢ n → x ≢ y
apart x y m n first second other e =
    other (ap (λ (xs : List ℕ). slice_index_or xs 0 0) (sym first ∙ e ∙ second))

pub three_effects : (a b c : EffectSchema) → a.name ≡ 82 ∷ [] → b.name ≡ 83 ∷ [] → c.name ≡ 77 ∷ [] → All IsParam a.params → All IsParam b.params → All IsParam c.params → AreSchemas (a ∷ b ∷ c ∷ [])
three_effects a b c first second third of_a of_b of_c = record {
  few = omega arith;
  names = (
    All-cons (λ other. other ≢ a.name) b.name (c.name ∷ []) (apart b.name a.name 83 82 second first (λ e. omega (arith, e)))
        (All-cons (λ other. other ≢ a.name) c.name [] (apart c.name a.name 77 82 third first (λ e. omega (arith, e))) (All-nil _)),
    (All-cons (λ other. other ≢ b.name) c.name [] (apart c.name b.name 77 83 third second (λ e. omega (arith, e))) (All-nil _), (All-nil _, tt)),
  );
  params_are =
      All-cons (λ (s : EffectSchema). All IsParam s.params) a (b ∷ c ∷ []) of_a
      (All-cons (λ (s : EffectSchema). All IsParam s.params) b (c ∷ []) of_b
      (All-cons (λ (s : EffectSchema). All IsParam s.params) c [] of_c (All-nil _)));
}
