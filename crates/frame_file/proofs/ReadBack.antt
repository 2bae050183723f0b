-- The file of a clip is read as its pixels.
use Rattle.std.proofs.Common.{◌≡◌, ℕ, ◌+◌, ◌*◌, ◌≤◌, Bool, true, false, cond, List, [], ◌∷◌, ◌++◌, length, take, drop, Option, Some, None, Result, Ok, Err, refl, ap, ◌∙◌, arith, not, codes, unsigned_abs, nat_lt}
use Rattle.std.specs.Prelude.{flat_map}
use Rattle.std.specs.Int.{w32, to_be_bytes}
use Rattle.std.proofs.lemmas.Bool.Decides.{nat_tests}
use Rattle.std.proofs.lemmas.Slice.Eq.{bytes_eq-Decides}
use Rattle.argb_pixel.specs.Pixel.{Argb}
use Rattle.project_model.specs.declared.clip.ClipUse.{ClipUse}
use Rattle.project_model.specs.Bounds.{most_of, header_length}
use Rattle.frame_file.specs.Afr.{header_bytes, pixel_bytes}
use Rattle.project_model.specs.Clip.{IsReadable, clip_length, pixel_size}
use Rattle.frame_file.specs.Clip.{Pictures, header_of, differs, header_fault, clip_of, judged_body, pictures_of, pixels_of, first_bad}
use Rattle.frame_file.specs.Laws.{file_of, AreDeclared}
use Rattle.frame_file.specs.declared.error.ClipError.{ClipError}
use Rattle.frame_file.proofs.Bodies.{body_passes}
use Rattle.frame_file.proofs.Written.{length_of, unpixel, none_bad}

-- a field that is as it should be
same_field : (place : ℕ) (field bytes : List ℕ) → take (length field) (drop place bytes) ≡ field → differs place field bytes ≡ false
same_field place field bytes e = ap not ((bytes_eq-Decides (take (length field) (drop place bytes)) field).1 e)

-- the header as it should be, before any bytes
record HasHeader (declared : ClipUse) (bytes : List ℕ) : Type 0 where
  magic : take 4 (drop 0 bytes) ≡ codes "AFR1"
  width : take 4 (drop 4 bytes) ≡ to_be_bytes w32 declared.width
  height : take 4 (drop 8 bytes) ≡ to_be_bytes w32 declared.height
  depth : take 1 (drop 12 bytes) ≡ declared.depth ∷ []
  value : take 4 (drop 13 bytes) ≡ to_be_bytes w32 (unsigned_abs declared.frame.value)
  scale : take 4 (drop 17 bytes) ≡ to_be_bytes w32 declared.frame.scale
  frames : take 4 (drop 25 bytes) ≡ to_be_bytes w32 declared.frames

header_is : (declared : ClipUse) (first : ℕ) (rest : List ℕ) → HasHeader declared (header_bytes (header_of declared first) ++ rest)
unfolding header_bytes
header_is declared first rest = record {
  magic = refl;
  width = refl;
  height = refl;
  depth = refl;
  value = refl;
  scale = refl;
  frames = refl;
}

behind_header : (declared : ClipUse) (first : ℕ) (rest : List ℕ) → drop header_length (header_bytes (header_of declared first) ++ rest) ≡ rest
unfolding header_bytes
behind_header declared first rest = refl

header_long : (declared : ClipUse) (first : ℕ) (rest : List ℕ) → length (header_bytes (header_of declared first) ++ rest) ≡ header_length + length rest
unfolding header_bytes
header_long declared first rest = omega arith

no_fault : (declared : ClipUse) (bytes : List ℕ) → HasHeader declared bytes → header_fault declared bytes ≡ None
no_fault declared bytes h =
    let width : differs 4 (to_be_bytes w32 declared.width) bytes ≡ false = same_field 4 (to_be_bytes w32 declared.width) bytes h.width in
    let height : differs 8 (to_be_bytes w32 declared.height) bytes ≡ false = same_field 8 (to_be_bytes w32 declared.height) bytes h.height in
    let depth : differs 12 (declared.depth ∷ []) bytes ≡ false = same_field 12 (declared.depth ∷ []) bytes h.depth in
    let value : differs 13 (to_be_bytes w32 (unsigned_abs declared.frame.value)) bytes ≡ false = same_field 13 (to_be_bytes w32 (unsigned_abs declared.frame.value)) bytes h.value in
    let scale : differs 17 (to_be_bytes w32 declared.frame.scale) bytes ≡ false = same_field 17 (to_be_bytes w32 declared.frame.scale) bytes h.scale in
    let frames : differs 25 (to_be_bytes w32 declared.frames) bytes ≡ false = same_field 25 (to_be_bytes w32 declared.frames) bytes h.frames in
    chain _ _ _ _ _ _ width height depth value scale frames
  where
    chain : (a b c d e f : Bool) → a ≡ false → b ≡ false → c ≡ false → d ≡ false → e ≡ false → f ≡ false → cond {A = Option ℕ} a (Some 0) (cond {A = Option ℕ} b (Some 1) (cond {A = Option ℕ} c (Some 2) (cond {A = Option ℕ} d (Some 3) (cond {A = Option ℕ} e (Some 4) (cond {A = Option ℕ} f (Some 5) None))))) ≡ None
    chain a b c d e f ea eb ec ed ee ef = simp (ea, eb, ec, ed, ee, ef)

enough : (n : ℕ) → header_length ≤ n → nat_lt n header_length ≡ false
enough n h = grind (arith, nat_tests)

-- a test that does not refuse
skip : (b : Bool) (why : ClipError) (rest : Result Pictures ClipError) → b ≡ false → cond b (Err why) rest ≡ rest
skip true why rest e = let wrong : ⊥ = cc in absurd wrong
skip false why rest e = refl

-- bytes with such a header, of the declared length, without a bad pixel
reads_by : (bytes : List ℕ) (declared : ClipUse) → length bytes ≡ clip_length declared → HasHeader declared bytes → first_bad (most_of declared.depth) (pixels_of declared.depth (drop header_length bytes)) ≡ None → clip_of bytes declared ≡ Ok (pictures_of declared (pixels_of declared.depth (drop header_length bytes)))
reads_by bytes declared l h s =
    let some : nat_lt (length bytes) header_length ≡ false = enough (length bytes) (omega arith) in
    let magic : differs 0 (codes "AFR1") bytes ≡ false = same_field 0 (codes "AFR1") bytes h.magic in
    skip (nat_lt (length bytes) header_length) _ _ some
    ∙ skip (differs 0 (codes "AFR1") bytes) _ _ magic
    ∙ ap (judged_body (length bytes) bytes declared) (no_fault declared bytes h)
    ∙ body_passes (length bytes) bytes declared (omega arith) (omega arith) s

pub reads : (declared : ClipUse) (first : ℕ) (pixels : List Argb) → IsReadable declared → AreDeclared declared pixels → clip_of (file_of declared first pixels) declared ≡ Ok (pictures_of declared pixels)
reads declared first pixels r d =
    reads_by bytes declared long (header_is declared first body) sound ∙ ap (λ ps. Ok (pictures_of declared ps)) read
  where
    body : List ℕ
    body = flat_map (pixel_bytes declared.depth) pixels

    bytes : List ℕ
    bytes = file_of declared first pixels

    read : pixels_of declared.depth (drop header_length (file_of declared first pixels)) ≡ pixels
    read =
        ap (pixels_of declared.depth) (behind_header declared first (flat_map (pixel_bytes declared.depth) pixels))
        ∙ unpixel declared.depth pixels r.depth d.premultiplied

    sound : first_bad (most_of declared.depth) (pixels_of declared.depth (drop header_length (file_of declared first pixels))) ≡ None
    sound = ap (first_bad (most_of declared.depth)) read ∙ none_bad (most_of declared.depth) pixels d.premultiplied

    long : length (file_of declared first pixels) ≡ clip_length declared
    long =
        header_long declared first (flat_map (pixel_bytes declared.depth) pixels)
        ∙ ap (λ n. header_length + n) (length_of declared.depth pixels r.depth ∙ ap (λ n. n * pixel_size declared.depth) d.count)
