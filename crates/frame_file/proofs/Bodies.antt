-- What the bytes behind a right header are judged as.
use Rattle.std.proofs.Common.{◌≡◌, ℕ, ◌≤◌, false, List, length, drop, None, Ok, Err, ap, ◌∙◌, arith, nat_lt}
use Rattle.std.proofs.lemmas.Bool.Decides.{nat_tests}
use Rattle.project_model.specs.declared.clip.ClipUse.{ClipUse}
use Rattle.project_model.specs.Bounds.{most_of, header_length}
use Rattle.project_model.specs.Clip.{clip_length}
use Rattle.frame_file.specs.Clip.{judged_body, judged_pixels, is_short, pictures_of, pixels_of, first_bad}
use Rattle.frame_file.specs.declared.error.ClipError.{ClipError}

is_whole : (there n want : ℕ) → want ≤ n → there ≤ want → is_short there n want ≡ false
is_whole there n want h l = grind (arith, nat_tests)

is_ended : (there want : ℕ) → there ≤ want → nat_lt want there ≡ false
is_ended there want l = grind (arith, nat_tests)

-- bytes of the declared length are judged by their pixels
body_is : (there : ℕ) (bytes : List ℕ) (declared : ClipUse) → clip_length declared ≤ length bytes → there ≤ clip_length declared → judged_body there bytes declared None ≡ (let pixels = pixels_of declared.depth (drop header_length bytes) in judged_pixels declared pixels (first_bad (most_of declared.depth) pixels))
body_is there bytes declared h l =
    let whole : is_short there (length bytes) (clip_length declared) ≡ false = is_whole there (length bytes) (clip_length declared) h l in
    let ended : nat_lt (clip_length declared) there ≡ false = is_ended there (clip_length declared) l in
    rw (whole, ended)

pub body_passes : (there : ℕ) (bytes : List ℕ) (declared : ClipUse) → clip_length declared ≤ length bytes → there ≤ clip_length declared → first_bad (most_of declared.depth) (pixels_of declared.depth (drop header_length bytes)) ≡ None → judged_body there bytes declared None ≡ Ok (pictures_of declared (pixels_of declared.depth (drop header_length bytes)))
body_passes there bytes declared h l s =
    body_is there bytes declared h l ∙ ap (judged_pixels declared (pixels_of declared.depth (drop header_length bytes))) s

pub body_refuses : (there : ℕ) (bytes : List ℕ) (declared : ClipUse) (why : ClipError) → clip_length declared ≤ length bytes → there ≤ clip_length declared → judged_pixels declared (pixels_of declared.depth (drop header_length bytes)) (first_bad (most_of declared.depth) (pixels_of declared.depth (drop header_length bytes))) ≡ Err why → judged_body there bytes declared None ≡ Err why
body_refuses there bytes declared why h l s = body_is there bytes declared h l ∙ s
