-- The law of the value of an effect.
use Rattle.std.proofs.Common.{◌≡◌, ℕ, ◌==◌, List, [], ◌∷◌, codes, true, Option, Some, is_some, unwrap_or, refl, ap, ◌∙◌, arith}
use Rattle.std.proofs.lemmas.Bool.Decides.{nat_tests}
use Rattle.std.proofs.lemmas.List.{map-id}
use Rattle.std.specs.List.{list_all}
use Rattle.std.specs.Option.{option_map_or}
use Rattle.serde_json.specs.Data.{Data, string}
use Rattle.param_stream.specs.Curve.{Curve}
use Rattle.param_stream.specs.declared.key.Keyframe.{Keyframe}
use Rattle.project_model.specs.Effects.{schema_of}
use Rattle.project_model.specs.declared.effect.EffectSchema.{EffectSchema}
use Rattle.project_model.specs.declared.effect.FxUse.{FxUse}
use Rattle.project_model.specs.declared.plain.PlainFx.{PlainFx}
use Rattle.project_json.specs.EffectForm.{counts_as, has_counts, has_known_kind, is_threaded, has_streams, has_key_times}
use Rattle.project_json.specs.Parts.{items_in, is_number}
use Rattle.project_json.specs.PlainData.{fx_kind_of}
use Rattle.project_json.specs.Reads.{fx_named, keys_in, index_in, no_index, no_kind}
use Rattle.project_json.specs.Shapes.{is_stream, key_has_time}
use Rattle.project_write.specs.Kinds.{HasKind}
use Rattle.project_write.specs.Parts.{IsArrayOf, IsCount, IsStream, IsHex, IsFx, object_of}
use Rattle.project_write.proofs.ListLemmas.{array_is, array_length, array_map, array_all, array_whole}
use Rattle.project_write.proofs.ObjectLemmas.{deeper, object_whole, kept, both_true}

abbrev fx_members : List ℕ → Data → Data → Data → List (List ℕ × Data)
fx_members name params layers sequence =
    (codes "effect", string name) ∷ (codes "layers", layers) ∷ (codes "params", params) ∷ (codes "sequence", sequence) ∷ []

abbrev pub fx_data : List ℕ → Data → Data → Data → Data
fx_data name params layers sequence = object_of (fx_members name params layers sequence)

abbrev pub IsCurve : Curve → Data → Type 0
IsCurve curve d = IsStream curve.keys d

abbrev fx_from : ℕ → List (List Keyframe) → List ℕ → Option (List ℕ) → PlainFx
fx_from kind params layers sequence = record { kind = kind; params = params; layers = layers; sequence = sequence }

same_fx : (kind k : ℕ) (params ps : List (List Keyframe)) (layers ls : List ℕ) (sequence s : Option (List ℕ))
    → kind ≡ k → params ≡ ps → layers ≡ ls → sequence ≡ s → fx_from kind params layers sequence ≡ fx_from k ps ls s
same_fx kind k params ps layers ls sequence s a b c d = rw (a, b, c, d)

same_count : (n m : ℕ) → n ≡ m → (n == m) ≡ true
same_count n m e = grind (arith, nat_tests)

pub fx_of : (schemas : List EffectSchema) (fx : FxUse) (name : List ℕ) (params layers sequence : Data) → HasKind schemas fx
    → fx_named schemas name ≡ Some fx.kind → IsArrayOf IsCurve fx.params params → IsArrayOf IsCount fx.layers layers → IsHex fx.sequence sequence
    → IsFx schemas fx (fx_data name params layers sequence)
fx_of schemas fx name params layers sequence kind named ps ls hex =
    let d = fx_data name params layers sequence in
    let is_kind : fx_kind_of schemas d ≡ Some fx.kind = named in
    let known : has_known_kind schemas d ≡ true = ap is_some is_kind in
    let threaded : is_threaded schemas d ≡ true = ap (λ (o : Option ℕ). option_map_or (λ k. (schema_of schemas k).threaded) o true) is_kind ∙ kind.threaded in
    let schema = schema_of schemas fx.kind in
    let counted : counts_as schema d ≡ true =
    both_true _ _ (both_true _ _ (both_true _ _ (array_is IsCurve fx.params params ps) (same_count _ _ (array_length IsCurve fx.params params ps ∙ kind.params)))
    (both_true _ _ (array_is IsCount fx.layers layers ls) (array_all IsCount is_number (λ x e r. ap is_number r.is) fx.layers layers ls)))
    (same_count _ _ (array_length IsCount fx.layers layers ls ∙ kind.layers)) in
    let has : has_counts schemas d ≡ true = ap (λ (o : Option ℕ). option_map_or (λ k. counts_as (schema_of schemas k) d) o true) is_kind ∙ counted in
    let streams : has_streams d ≡ true = array_all IsCurve is_stream (λ x e r. r.form) fx.params params ps in
    let times : has_key_times d ≡ true = array_all IsCurve (λ e. list_all key_has_time (items_in e)) (λ x e r. r.timed) fx.params params ps in
    record {
      effect = refl;
      form = kept _ _ known (kept _ _ threaded (kept _ _ has (kept _ _ streams (kept _ _ times refl))));
      read = same_fx _ _ _ _ _ _ _ _ (ap (λ (o : Option ℕ). unwrap_or o no_kind) is_kind) (array_map IsCurve (λ curve. curve.keys) keys_in (λ x e r. r.read) fx.params params ps)
          (array_map IsCount (λ n. n) index_in (λ n e r. ap (λ (o : Option ℕ). unwrap_or o no_index) r.read) fx.layers layers ls ∙ map-id fx.layers) hex.read;
      whole = object_whole 4 (fx_members name params layers sequence) (
        record { whole = refl; nests = omega arith },
        (
          deeper 1 4 layers (omega arith) (array_whole IsCount 0 (λ n e r. r.whole) fx.layers layers ls),
          (array_whole IsCurve 3 (λ x e r. r.whole) fx.params params ps, (deeper 0 4 sequence (omega arith) hex.whole, tt)),
        ),
      );
    }
