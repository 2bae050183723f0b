-- The names of clips, one after the other.
use Rattle.std.proofs.Common.{◌≡◌, ℕ, suc, ◌+◌, ◌-◌, ◌<◌, Bool, true, false, List, [], ◌∷◌, length, map, take, drop, refl, sym, ◌∙◌, ap, arith}
use Rattle.std.specs.Prelude.{not, ◌&&◌, ◌||◌, bytes_eq, slice_index_or}
use Rattle.std.specs.List.{list_any}
use Rattle.std.proofs.Math.Seq.{drop-cons}
use Rattle.std.proofs.lemmas.List.{take_all, length-drop}
use Rattle.project_model.specs.Clip.{are_different}
use Rattle.project_model.specs.declared.clip.ClipUse.{ClipUse}

abbrev names : List ClipUse → List (List ℕ)
names clips = map (λ (clip : ClipUse). clip.name) clips

any_named : (name : List ℕ) (clips : List ClipUse) → list_any (bytes_eq name) (names clips) ≡ list_any (λ (clip : ClipUse). bytes_eq name clip.name) clips
any_named name [] = refl
any_named name (clip ∷ clips) = ap (λ (b : Bool). bytes_eq name clip.name || b) (any_named name clips)

abbrev named_in : ClipUse → List ClipUse → Bool
named_in clip clips = list_any (λ (other : ClipUse). bytes_eq clip.name other.name) clips

first_name : (clip : ClipUse) (rest : List ClipUse) (b : Bool) → named_in clip rest ≡ b → are_different (names (clip ∷ rest)) ≡ (not b && are_different (names rest))
first_name clip rest b e = ap (λ (x : Bool). not x && are_different (names rest)) (any_named clip.name rest ∙ e)

split_at : (clips : List ClipUse) (i : ℕ) (clip : ClipUse) → i < length clips → clip ≡ slice_index_or clips i clip → drop i clips ≡ clip ∷ drop (suc i) clips
split_at clips i clip within is = drop-cons clips i clip within ∙ ap (λ (x : ClipUse). x ∷ drop (suc i) clips) (sym is)

-- what is said of the clips behind this one, as a slice
of_rest : (clips : List ClipUse) (i : ℕ) (clip : ClipUse) (name : List ℕ) (b result : Bool) → name ≡ clip.name → result ≡ list_any (λ (other : ClipUse). bytes_eq name other.name) (take (length clips - (i + 1)) (drop (i + 1) clips)) → result ≡ b → named_in clip (drop (suc i) clips) ≡ b
of_rest clips i clip name b result same said e =
    let next : i + 1 ≡ suc i = omega arith in
    sym (ap (λ (xs : List ClipUse). named_in clip xs) (take_all (length clips - (i + 1)) (drop (i + 1) clips) (omega (arith, length-drop (i + 1) clips)) ∙ ap (λ (n : ℕ). drop n clips) next))
    ∙ sym (said ∙ ap (λ (n : List ℕ). list_any (λ (other : ClipUse). bytes_eq n other.name) (take (length clips - (i + 1)) (drop (i + 1) clips))) same)
    ∙ e

-- a clip whose name none of the others has
pub goes_on : (clips : List ClipUse) (i : ℕ) (clip : ClipUse) (name : List ℕ) (result : Bool) → i < length clips → clip ≡ slice_index_or clips i clip → name ≡ clip.name → result ≡ list_any (λ (other : ClipUse). bytes_eq name other.name) (take (length clips - (i + 1)) (drop (i + 1) clips)) → result ≡ false → are_different (names (drop i clips)) ≡ are_different (names (drop (i + 1) clips))
goes_on clips i clip name result within is same said e =
    let next : suc i ≡ i + 1 = omega arith in
    ap (λ (xs : List ClipUse). are_different (names xs)) (split_at clips i clip within is)
    ∙ first_name clip (drop (suc i) clips) false (of_rest clips i clip name false result same said e)
    ∙ ap (λ (n : ℕ). are_different (names (drop n clips))) next

-- a clip whose name another one has
pub ends : (clips : List ClipUse) (i : ℕ) (clip : ClipUse) (name : List ℕ) (result : Bool) → i < length clips → clip ≡ slice_index_or clips i clip → name ≡ clip.name → result ≡ list_any (λ (other : ClipUse). bytes_eq name other.name) (take (length clips - (i + 1)) (drop (i + 1) clips)) → result ≡ true → are_different (names (drop i clips)) ≡ false
ends clips i clip name result within is same said e =
    ap (λ (xs : List ClipUse). are_different (names xs)) (split_at clips i clip within is)
    ∙ first_name clip (drop (suc i) clips) true (of_rest clips i clip name true result same said e)
