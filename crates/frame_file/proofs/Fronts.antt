-- The front of a file that was handed out, and what it is judged as.
use Rattle.std.proofs.Common.{◌≡◌, ℕ, ◌+◌, ◌-◌, ◌<◌, ◌≤◌, ◌⊎◌, inl, inr, min, Bool, true, false, cond, List, [], ◌∷◌, ◌++◌, length, take, drop, Option, Some, None, Result, Err, refl, sym, ap, subst, ◌∙◌, arith, not, codes, bytes_eq, unsigned_abs, nat_lt}
use Rattle.std.specs.Int.{w32, to_be_bytes}
use Rattle.std.proofs.lemmas.Bool.Decides.{nat_tests}
use Rattle.std.proofs.lemmas.Bool.{cases_order}
use Rattle.std.proofs.lemmas.List.{length-take-le, drop-take, take-take, take_all, take-append-drop}
use Rattle.host_io.specs.Clips.{ClipMap, bytes_at, EndsThere}
use Rattle.project_model.specs.declared.clip.ClipUse.{ClipUse}
use Rattle.project_model.specs.Bounds.{header_length}
use Rattle.project_model.specs.Clip.{clip_length}
use Rattle.frame_file.specs.Clip.{Pictures, judged, judged_body, clip_of, differs, header_fault, is_short}
use Rattle.frame_file.specs.Load.{IsFront, AddsFrom}
use Rattle.frame_file.specs.declared.error.ClipError.{ClipError}
use Rattle.frame_file.specs.declared.error.ClipError.TheVariants.{BadMagic, BadHeader, Trailing}

take_both : (m n : ℕ) (xs : List ℕ) → take (m + n) xs ≡ take m xs ++ take n (drop m xs)
take_both m n xs =
    sym (take-append-drop m (take (m + n) xs))
    ∙ ap (λ ys. ys ++ drop m (take (m + n) xs)) (take-take m (m + n) xs (omega arith))
    ∙ ap (λ ys. take m xs ++ ys) (drop-take m n xs)

-- one piece more
pub front_more : (store : Option ClipMap) (name : List ℕ) (count : ℕ) (before now : List ℕ) → IsFront store name (length before) before → AddsFrom store name count before now → length now ≡ length before + count → IsFront store name (length now) now
front_more None name count before now f a l = omega arith
front_more (Some clips) name count before now f a l =
    a
    ∙ ap (λ ys. ys ++ take count (drop (length before) (bytes_at clips name))) f
    ∙ sym (take_both (length before) count (bytes_at clips name))
    ∙ ap (λ n. take n (bytes_at clips name)) (sym l)

-- as many as were asked for
pub front_full : (store : Option ClipMap) (name : List ℕ) (most : ℕ) (bytes : List ℕ) → IsFront store name (length bytes) bytes → length bytes ≡ most → IsFront store name most bytes
front_full store name most bytes f e = let P : ℕ → Type 0 = λ n. IsFront store name n bytes in subst P e f

-- all that there are
pub front_end : (store : Option ClipMap) (name : List ℕ) (most : ℕ) (bytes : List ℕ) → IsFront store name (length bytes) bytes → length bytes ≤ most → EndsThere store name (length bytes) 0 → IsFront store name most bytes
front_end None name most bytes f l e = l
front_end (Some clips) name most bytes f l e =
    let ended : length (bytes_at clips name) ≤ length bytes = e.0 refl in
    f
    ∙ take_all (length bytes) (bytes_at clips name) ended
    ∙ sym (take_all most (bytes_at clips name) (omega arith))

-- a field of a front is the whole's
differs_front : (place n : ℕ) (field bytes : List ℕ) → place + length field ≤ n → differs place field (take n bytes) ≡ differs place field bytes
differs_front place n field bytes h = ap (λ xs. not (bytes_eq xs field)) part
  where
    rest : ℕ
    rest = n - place

    whole : n ≡ place + rest
    whole = omega arith

    part : take (length field) (drop place (take n bytes)) ≡ take (length field) (drop place bytes)
    part =
        ap (λ k. take (length field) (drop place (take k bytes))) whole
        ∙ ap (take (length field)) (drop-take place rest bytes)
        ∙ take-take (length field) rest (drop place bytes) (omega arith)

fault_front : (declared : ClipUse) (n : ℕ) (bytes : List ℕ) → 29 ≤ n → header_fault declared (take n bytes) ≡ header_fault declared bytes
fault_front declared n bytes h =
    simp (
      differs_front 4 n (to_be_bytes w32 declared.width) bytes (omega arith),
      differs_front 8 n (to_be_bytes w32 declared.height) bytes (omega arith),
      differs_front 12 n (declared.depth ∷ []) bytes (omega arith),
      differs_front 13 n (to_be_bytes w32 (unsigned_abs declared.frame.value)) bytes (omega arith),
      differs_front 17 n (to_be_bytes w32 declared.frame.scale) bytes (omega arith),
      differs_front 25 n (to_be_bytes w32 declared.frames) bytes (omega arith),
    )

not_short : (there n want : ℕ) → want < n → is_short there n want ≡ false
not_short there n want h = grind (arith, nat_tests)

is_less : (a b : ℕ) → a < b → nat_lt a b ≡ true
is_less a b h = grind (arith, nat_tests)

-- what more bytes than declared are judged as, by the first four and the header
long_of : ℕ → ClipUse → Bool → Option ℕ → Result Pictures ClipError
long_of there declared true fault = Err BadMagic
long_of there declared false (Some field) = Err (BadHeader field)
long_of there declared false None = Err (Trailing (there - clip_length declared))

judged_long : (there : ℕ) (bytes : List ℕ) (declared : ClipUse) → clip_length declared < length bytes → clip_length declared < there → judged there bytes declared ≡ long_of there declared (differs 0 (codes "AFR1") bytes) (header_fault declared bytes)
unfolding long_of
judged_long there bytes declared l m =
    let some : nat_lt (length bytes) header_length ≡ false = grind (arith, nat_tests) in
    rw some (by_cases (differs 0 (codes "AFR1") bytes) (header_fault declared bytes))
  where
    whole : is_short there (length bytes) (clip_length declared) ≡ false
    whole = not_short there (length bytes) (clip_length declared) l

    more : nat_lt (clip_length declared) there ≡ true
    more = is_less (clip_length declared) there m

    by_cases : (b : Bool) (fault : Option ℕ) → cond b (Err BadMagic) (judged_body there bytes declared fault) ≡ long_of there declared b fault
    by_cases true fault = refl
    by_cases false (Some field) = refl
    by_cases false None = rw (whole, more)

min_of : (a b : ℕ) → b < a → min a b ≡ b
min_of a b h = omega arith

-- so many bytes of a file are judged as the whole
pub judged_front : (declared : ClipUse) (file : List ℕ) → judged (length file) (take (min (length file) (clip_length declared + 1)) file) declared ≡ clip_of file declared
judged_front declared file = by_order (cases_order (length file) (clip_length declared + 1))
  where
    all : length file ≤ clip_length declared + 1 → judged (length file) (take (min (length file) (clip_length declared + 1)) file) declared ≡ clip_of file declared
    all h = ap (λ xs. judged (length file) xs declared) (take_all (min (length file) (clip_length declared + 1)) file (omega arith))

    cut : clip_length declared + 1 < length file → judged (length file) (take (clip_length declared + 1) file) declared ≡ clip_of file declared
    cut h =
        judged_long (length file) (take (clip_length declared + 1) file) declared (omega (arith, length-take-le (clip_length declared + 1) file (omega arith))) (omega arith)
        ∙ ap (λ b. long_of (length file) declared b (header_fault declared (take (clip_length declared + 1) file))) (differs_front 0 (clip_length declared + 1) (codes "AFR1") file (omega arith))
        ∙ ap (long_of (length file) declared (differs 0 (codes "AFR1") file)) (fault_front declared (clip_length declared + 1) file (omega arith))
        ∙ sym (judged_long (length file) file declared (omega arith) (omega arith))

    by_order : (length file ≡ clip_length declared + 1) ⊎ ((length file < clip_length declared + 1) ⊎ (clip_length declared + 1 < length file)) → judged (length file) (take (min (length file) (clip_length declared + 1)) file) declared ≡ clip_of file declared
    by_order (inl e) = all (omega arith)
    by_order (inr (inl h)) = all (omega arith)
    by_order (inr (inr h)) =
        ap (λ k. judged (length file) (take k file) declared) (min_of (length file) (clip_length declared + 1) h) ∙ cut h
