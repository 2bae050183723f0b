-- Clips by name: what a map finds under a text, and what its entries have under those bytes.
use Rattle.std.proofs.Common.{◌≡◌, ℕ, Bool, true, false, cond, List, [], ◌∷◌, map, refl, ◌∙◌, string_bytes, bytes_eq, Option, Some, String, Vec, Global}
use Rattle.std.specs.Option.{option_map}
use Rattle.std.specs.Map.{lookup}
use Rattle.std.specs.BTreeMap.{is_at}
use Rattle.std.specs.Ordering.{nat_cmp}
use Rattle.std.specs.Cmp.Lexicographic.{slice_cmp}
use Rattle.std.proofs.lemmas.Map.Text.{is_eq-slice_cmp}

-- by one entry more
pick : (b c : Bool) → b ≡ c → (v : Vec ℕ Global) (x y : Option (List ℕ)) (o : Option (Vec ℕ Global)) → y ≡ option_map (λ v. v.items) o → x ≡ y → cond c (Some v.items) x ≡ option_map (λ v. v.items) (cond b (Some v) o)
pick true true e v x y o m s = refl
pick true false e v x y o m s = cc
pick false true e v x y o m s = cc
pick false false e v x y o m s = s ∙ m

pub found_map : (name : List ℕ) (es : List (String Global × Vec ℕ Global)) → lookup (λ key. bytes_eq name key) (map (λ e. (string_bytes e.0, e.1.items)) es) ≡ option_map (λ v. v.items) (lookup (is_at (λ k. slice_cmp nat_cmp name (string_bytes k))) es)
found_map name [] = refl
found_map name (e ∷ es) = pick (is_at (λ k. slice_cmp nat_cmp name (string_bytes k)) e.0) (bytes_eq name (string_bytes e.0)) (is_eq-slice_cmp name (string_bytes e.0)) e.1 _ _ (lookup (is_at (λ k. slice_cmp nat_cmp name (string_bytes k))) es) refl (found_map name es)
