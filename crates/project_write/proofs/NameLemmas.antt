-- An effect of the set is found by its name.
use Rattle.std.proofs.Common.{◌≡◌, ◌≢◌, ℕ, zero, suc, ◌+◌, ◌<◌, List, [], ◌∷◌, length, get_or, map, Bool, true, false, true≢false, Option, Some, All, refl, sym, ap, ◌∙◌, arith, cond}
use Rattle.std.proofs.lemmas.List.Elements.{All-head, All-tail}
use Rattle.std.proofs.lemmas.Slice.Eq.{bytes_eq-Decides}
use Rattle.std.specs.List.{position_from}
use Rattle.std.specs.Str.{bytes_eq}
use Rattle.project_model.specs.Effects.{AreSchemas, DistinctTexts, schema_of}
use Rattle.project_model.specs.declared.effect.EffectSchema.{EffectSchema}
use Rattle.project_json.specs.Reads.{fx_named}

same : (name : List ℕ) → bytes_eq name name ≡ true
same name = (bytes_eq-Decides name name).1 refl

other : (a b : List ℕ) → (a ≡ b → ⊥) → bytes_eq a b ≡ false
other a b h = by (bytes_eq a b) refl
  where
    by : (test : Bool) → bytes_eq a b ≡ test → test ≡ false
    by true e = absurd (h ((bytes_eq-Decides a b).0 e))
    by false e = refl

-- the name of a later one is not that of the first
later_name : (schemas : List EffectSchema) (kind : ℕ) (first : List ℕ) → kind < length schemas
    → All (λ (text : List ℕ). text ≢ first) (map (λ (s : EffectSchema). s.name) schemas) → (schema_of schemas kind).name ≢ first
later_name [] kind first less h = absurd (omega arith)
later_name (s ∷ schemas) zero first less h = All-head (λ (text : List ℕ). text ≢ first) s.name _ h
later_name (s ∷ schemas) (suc kind) first less h =
    later_name schemas kind first (omega (arith, less)) (All-tail (λ (text : List ℕ). text ≢ first) s.name _ h)

here : (b : Bool) (x rest : Option ℕ) → b ≡ true → cond b x rest ≡ x
here true x rest e = refl
here false x rest e = absurd (true≢false (sym e))

there : (b : Bool) (x rest : Option ℕ) → b ≡ false → cond b x rest ≡ rest
there true x rest e = absurd (true≢false e)
there false x rest e = refl

found_from : (schemas : List EffectSchema) (start kind : ℕ) → kind < length schemas → DistinctTexts (map (λ (s : EffectSchema). s.name) schemas)
    → position_from (λ (s : EffectSchema). bytes_eq (schema_of schemas kind).name s.name) start schemas ≡ Some (start + kind)
found_from [] start kind less h = absurd (omega arith)
found_from (s ∷ schemas) start zero less h = here _ _ _ (same s.name) ∙ ap Some (omega arith)
found_from (s ∷ schemas) start (suc kind) less h =
    there _ _ _ (other (schema_of schemas kind).name s.name (later_name schemas kind s.name (omega (arith, less)) h.0))
    ∙ found_from schemas (start + 1) kind (omega (arith, less)) h.1 ∙ ap Some (omega arith)

pub effect_found : (schemas : List EffectSchema) (kind : ℕ) → AreSchemas schemas → kind < length schemas
    → fx_named schemas (schema_of schemas kind).name ≡ Some kind
effect_found schemas kind are known = found_from schemas 0 kind known are.names ∙ ap Some (omega arith)

-- the schema at the index that a kind is as a `usize`
pub same_schema : (schemas : List EffectSchema) (d : EffectSchema) (index kind : ℕ) → index ≡ kind → kind < length schemas
    → (get_or schemas index d).name ≡ (schema_of schemas kind).name
same_schema [] d index kind is less = absurd (omega arith)
same_schema (s ∷ schemas) d zero zero is less = refl
same_schema (s ∷ schemas) d zero (suc kind) is less = absurd (omega (arith, is))
same_schema (s ∷ schemas) d (suc index) zero is less = absurd (omega (arith, is))
same_schema (s ∷ schemas) d (suc index) (suc kind) is less = same_schema schemas d index kind (omega (arith, is)) (omega (arith, less))
