-- Clips beside their declarations.
use Rattle.std.proofs.Common.{◌≡◌, ℕ, zero, suc, List, [], ◌∷◌, subst}
use Rattle.std.specs.Prelude.{Some, slice_get}
use Rattle.std.specs.List.{AllZip}
use Rattle.project_model.specs.declared.clip.ClipUse.{ClipUse}
use Rattle.frame_file.specs.Clip.{Pictures}
use Rattle.scene_meaning.specs.Scene.{IsClipOf}

-- the clip of an index is of the declaration of that index
pub zip_at : (uses : List ClipUse) (clips : List Pictures) (i : ℕ) (declared : ClipUse) (clip : Pictures) → AllZip IsClipOf uses clips → slice_get uses i ≡ Some declared → slice_get clips i ≡ Some clip → IsClipOf declared clip
zip_at [] clips i declared clip h e f = let wrong : ⊥ = cc in absurd wrong
zip_at (u ∷ us) [] i declared clip h e f = absurd h
zip_at (u ∷ us) (k ∷ ks) zero declared clip h e f =
    let one : u ≡ declared = cc in
    let two : k ≡ clip = cc in
    subst (λ (d : ClipUse). IsClipOf d clip) one (subst (IsClipOf u) two h.0)
zip_at (u ∷ us) (k ∷ ks) (suc i) declared clip h e f = zip_at us ks i declared clip h.1 e f
