-- The set has schemas as an effect set has them.
use Rattle.std.proofs.Common.{◌≡◌, ◌≢◌, ℕ, pos, negsuc, false, true≢false, sym, ◌∙◌, List, [], ◌∷◌, All, lit≤, refl, arith}
use Rattle.std.proofs.lemmas.Int.{ints}
use Rattle.std.proofs.lemmas.List.Elements.{All-from_recursion}
use Rattle.std.proofs.lemmas.Slice.Eq.{bytes_eq-Decides}
use Rattle.std.specs.Str.{bytes_eq}
use Rattle.project_model.specs.Effects.{AreSchemas, IsParam, DistinctTexts}
use Rattle.project_model.specs.declared.effect.EffectSchema.{EffectSchema}
use Rattle.reading_tests.specs.Set.{param, offset, displace, palette, alone, same, effect_set}

apart : (a b : List ℕ) → bytes_eq a b ≡ false → a ≢ b
apart a b e is = true≢false (sym ((bytes_eq-Decides a b).1 is) ∙ e)

-- each is apart from the one text
all_apart : (text : List ℕ) (others : List (List ℕ)) → All (λ other. bytes_eq other text ≡ false) others → All (λ other. other ≢ text) others
all_apart text others tests k d lt = apart _ text (tests k d lt)

wide : (name : List ℕ) → IsParam (param name (negsuc 32767) (pos 32767))
wide name = record { range = omega (arith, ints); low = (omega (arith, ints), omega (arith, ints)); high = (omega (arith, ints), omega (arith, ints)) }

narrow : (name : List ℕ) → IsParam (param name (negsuc 1023) (pos 1024))
narrow name = record { range = omega (arith, ints); low = (omega (arith, ints), omega (arith, ints)); high = (omega (arith, ints), omega (arith, ints)) }

names : DistinctTexts (offset.name ∷ displace.name ∷ palette.name ∷ alone.name ∷ same.name ∷ [])
names =
    let test = λ (text other : List ℕ). bytes_eq other text ≡ false in (
      all_apart offset.name (displace.name ∷ palette.name ∷ alone.name ∷ same.name ∷ []) (All-from_recursion (test offset.name) (displace.name ∷ palette.name ∷ alone.name ∷ same.name ∷ []) (refl, (refl, (refl, (refl, tt))))),
      (
        all_apart displace.name (palette.name ∷ alone.name ∷ same.name ∷ []) (All-from_recursion (test displace.name) (palette.name ∷ alone.name ∷ same.name ∷ []) (refl, (refl, (refl, tt)))),
        (
          all_apart palette.name (alone.name ∷ same.name ∷ []) (All-from_recursion (test palette.name) (alone.name ∷ same.name ∷ []) (refl, (refl, tt))),
          (
            all_apart alone.name (same.name ∷ []) (All-from_recursion (test alone.name) (same.name ∷ []) (refl, tt)),
            (all_apart same.name [] (All-from_recursion (test same.name) [] tt), tt),
          ),
        ),
      ),
    )

no_params : All IsParam []
no_params = All-from_recursion IsParam [] tt

pub are_schemas : AreSchemas effect_set
are_schemas = record {
  few = lit≤ tt;
  names = names;
  params_are = All-from_recursion (λ (schema : EffectSchema). All IsParam schema.params) effect_set (
    All-from_recursion IsParam offset.params (wide _, (wide _, tt)),
    (
      All-from_recursion IsParam displace.params (narrow _, (narrow _, tt)),
      (no_params, (no_params, (no_params, tt))),
    ),
  );
}
