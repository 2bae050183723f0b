-- What bytes that were read as pictures are.
use Rattle.std.proofs.Common.{◌≡◌, ℕ, ◌≤◌, Bool, true, false, cond, List, length, drop, Option, Some, None, Result, Ok, Err, refl, arith, codes, nat_lt}
use Rattle.std.proofs.lemmas.Bool.Decides.{nat_tests}
use Rattle.project_model.specs.declared.clip.ClipUse.{ClipUse}
use Rattle.project_model.specs.Bounds.{most_of, header_length}
use Rattle.argb_pixel.specs.Pixel.{Argb}
use Rattle.project_model.specs.Clip.{clip_length}
use Rattle.frame_file.specs.Clip.{Pictures, judged, judged_body, judged_pixels, differs, header_fault, is_short, pictures_of, pixels_of, first_bad}
use Rattle.frame_file.specs.declared.error.ClipError.{ClipError}

-- no test refused
passed : {R : Type 0} (b : Bool) (why : ClipError) (rest : Result R ClipError) (r : R) → cond b (Err why) rest ≡ Ok r → (b ≡ false) × (rest ≡ Ok r)
passed true why rest r e = (cc, cc)
passed false why rest r e = (refl, e)

-- what holds of bytes that are read
pub record IsRead (there : ℕ) (bytes : List ℕ) (declared : ClipUse) (clip : Pictures) : Type 0 where
  pub header : header_length ≤ length bytes
  pub magic : differs 0 (codes "AFR1") bytes ≡ false
  pub fields : header_fault declared bytes ≡ None
  pub whole : is_short there (length bytes) (clip_length declared) ≡ false
  pub ended : nat_lt (clip_length declared) there ≡ false
  pub sound : first_bad (most_of declared.depth) (pixels_of declared.depth (drop header_length bytes)) ≡ None
  pub pictures : clip ≡ pictures_of declared (pixels_of declared.depth (drop header_length bytes))

pixels_read : (declared : ClipUse) (pixels : List Argb) (bad : Option ℕ) (clip : Pictures) → judged_pixels declared pixels bad ≡ Ok clip → (bad ≡ None) × (clip ≡ pictures_of declared pixels)
pixels_read declared pixels None clip e = (refl, cc)
pixels_read declared pixels (Some i) clip e = let wrong : ⊥ = cc in absurd wrong

fields_read : (there : ℕ) (bytes : List ℕ) (declared : ClipUse) (fault : Option ℕ) (clip : Pictures) → judged_body there bytes declared fault ≡ Ok clip → (fault ≡ None) × (judged_body there bytes declared None ≡ Ok clip)
fields_read there bytes declared None clip e = (refl, e)
fields_read there bytes declared (Some field) clip e = let wrong : ⊥ = cc in absurd wrong

at_least : (n k : ℕ) → nat_lt n k ≡ false → k ≤ n
at_least n k e = grind (arith, nat_tests)

pub is_read : (there : ℕ) (bytes : List ℕ) (declared : ClipUse) (clip : Pictures) → judged there bytes declared ≡ Ok clip → IsRead there bytes declared clip
is_read there bytes declared clip e =
    let a = passed (nat_lt (length bytes) header_length) _ _ clip e in
    let b = passed (differs 0 (codes "AFR1") bytes) _ _ clip a.1 in
    let f = fields_read there bytes declared (header_fault declared bytes) clip b.1 in
    let s = passed (is_short there (length bytes) (clip_length declared)) _ _ clip f.1 in
    let t = passed (nat_lt (clip_length declared) there) _ _ clip s.1 in
    let p = pixels_read declared (pixels_of declared.depth (drop header_length bytes)) (first_bad (most_of declared.depth) (pixels_of declared.depth (drop header_length bytes))) clip t.1 in
    record {
      header = at_least (length bytes) header_length a.0;
      magic = b.0;
      fields = f.0;
      whole = s.0;
      ended = t.0;
      sound = p.0;
      pictures = p.1;
    }
