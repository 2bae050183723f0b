-- Clips in order, one by one.
use Rattle.std.proofs.Common.{◌≡◌, ℕ, ◌+◌, ◌<◌, get_or, min, List, [], ◌∷◌, ◌++◌, length, take, slice_get, Option, Some, None, Result, Ok, Err, refl, sym, ap, subst, ◌∙◌, arith}
use Rattle.std.proofs.lemmas.List.{take_more}
use Rattle.std.specs.List.{AllZip}
use Rattle.std.specs.Option.{option_map, unwrap_or}
use Rattle.host_io.specs.Clips.{ClipMap, AnswersLength}
use Rattle.project_model.specs.declared.clip.ClipUse.{ClipUse}
use Rattle.project_model.specs.Clip.{clip_length}
use Rattle.frame_file.specs.Clip.{Pictures, judged, pictures_of}
use Rattle.frame_file.specs.Load.{Judges, IsFront, IsMissing, AreRead, Loads, LoadsOne}
use Rattle.frame_file.specs.declared.error.ClipError.{ClipError}
use Rattle.frame_file.specs.declared.error.LoadError.{LoadError}
use Rattle.frame_file.specs.declared.error.LoadError.TheVariants.{Fault, Missing, Refused, Memory}
use Rattle.frame_file.proofs.Fronts.{judged_front}
use Rattle.frame_file.proofs.Inversion.{is_read}

-- one more clip
pub read_more : (store : Option ClipMap) (uses : List ClipUse) (clips : List Pictures) (declared : ClipUse) (clip : Pictures) → AreRead store uses clips → Judges store declared (Ok clip) → AreRead store (uses ++ declared ∷ []) (clips ++ clip ∷ [])
read_more store [] [] declared clip h j = (j, tt)
read_more store [] (c ∷ clips) declared clip h j = absurd h
read_more store (u ∷ uses) [] declared clip h j = absurd h
read_more store (u ∷ uses) (c ∷ clips) declared clip h j = (h.0, read_more store uses clips declared clip h.1 j)

-- what the bytes of one clip are judged as
told : (clips : ClipMap) (declared : ClipUse) (there : ℕ) (bytes : List ℕ) (answer : Result Pictures ClipError) (file : Option (List ℕ)) → clips declared.name ≡ file → Some there ≡ option_map length file → bytes ≡ take (min there (clip_length declared + 1)) (unwrap_or file []) → judged there bytes declared ≡ answer → Judges (Some clips) declared answer
told clips declared there bytes answer None e l b j = let wrong : ⊥ = cc in absurd wrong
told clips declared there bytes answer (Some file) e l b j =
    let same : there ≡ length file = cc in (
      file,
      e,
      sym (judged_front declared file)
          ∙ ap (λ n. judged n (take (min n (clip_length declared + 1)) file) declared) (sym same)
          ∙ ap (λ xs. judged there xs declared) (sym b)
          ∙ j,
    )

pub judges_of : (store : Option ClipMap) (declared : ClipUse) (there : ℕ) (bytes : List ℕ) (answer : Result Pictures ClipError) → AnswersLength store declared.name (Some there) → IsFront store declared.name (min there (clip_length declared + 1)) bytes → judged there bytes declared ≡ answer → Judges store declared answer
judges_of None declared there bytes answer l f j = (there, bytes, record { few = omega arith; within = omega arith }, j)
judges_of (Some clips) declared there bytes answer l f j = told clips declared there bytes answer (clips declared.name) refl l f j

missing_told : (clips : ClipMap) (declared : ClipUse) (file : Option (List ℕ)) → clips declared.name ≡ file → None ≡ option_map length file → clips declared.name ≡ None
missing_told clips declared None e l = e
missing_told clips declared (Some file) e l = let wrong : ⊥ = cc in absurd wrong

pub missing_of : (store : Option ClipMap) (declared : ClipUse) → AnswersLength store declared.name None → IsMissing store declared
missing_of None declared l = tt
missing_of (Some clips) declared l = missing_told clips declared (clips declared.name) refl l

-- the first clip that was not loaded
pub loads_err : (store : Option ClipMap) (uses : List ClipUse) (clips : List Pictures) (index : ℕ) (declared : ClipUse) (why : LoadError) → slice_get uses index ≡ Some declared → AreRead store (take index uses) clips → LoadsOne store declared index (Err why) → Loads store uses (Err why)
loads_err store uses clips index declared (Fault i) here before h =
    (declared, record { here = ap (slice_get uses) h ∙ here; before = (clips, let P : ℕ → Type 0 = λ n. AreRead store (take n uses) clips in subst P (sym h) before) })
loads_err store uses clips index declared (Missing i) here before h =
    (declared, record { here = ap (slice_get uses) h.0 ∙ here; before = (clips, let P : ℕ → Type 0 = λ n. AreRead store (take n uses) clips in subst P (sym h.0) before) }, h.1)
loads_err store uses clips index declared (Refused i why) here before h =
    (declared, record { here = ap (slice_get uses) h.0 ∙ here; before = (clips, let P : ℕ → Type 0 = λ n. AreRead store (take n uses) clips in subst P (sym h.0) before) }, h.1)
loads_err store uses clips index declared Memory here before h = tt

-- what was read of a clip, by what each call of the store answered
pub judges_read : (store later : Option ClipMap) (declared : ClipUse) (name name' : List ℕ) (there most want : ℕ) (bytes given : List ℕ) (answer : Result Pictures ClipError) → AnswersLength store name (Some there) → later ≡ store → IsFront later name' most bytes → name ≡ declared.name → name' ≡ declared.name → most ≡ min there (want + 1) → want ≡ clip_length declared → given ≡ bytes → judged there given declared ≡ answer → Judges store declared answer
judges_read store later declared name name' there most want bytes given answer l k f n n' m w b j =
    let N : List ℕ → Type 0 = λ t. AnswersLength store t (Some there) in
    let S : Option ClipMap → Type 0 = λ s. IsFront s name' most bytes in
    let T : List ℕ → Type 0 = λ t. IsFront store t most bytes in
    let M : ℕ → Type 0 = λ k. IsFront store declared.name k bytes in
    let G : List ℕ → Type 0 = λ xs. IsFront store declared.name (min there (clip_length declared + 1)) xs in
    judges_of store declared there given answer (subst N n l)
    (subst G (sym b) (subst M (m ∙ ap (λ k. min there (k + 1)) w) (subst T n' (subst S k f))))
    j

-- one more clip of the list
pub read_next : (store later : Option ClipMap) (uses : List ClipUse) (clips now : List Pictures) (index : ℕ) (declared : ClipUse) (clip : Pictures) → index < length uses → declared ≡ get_or uses index declared → AreRead store (take index uses) clips → later ≡ store → Judges later declared (Ok clip) → now ≡ clips ++ clip ∷ [] → AreRead store (take (index + 1) uses) now
read_next store later uses clips now index declared clip h e a k j n =
    let J : Option ClipMap → Type 0 = λ s. Judges s declared (Ok clip) in
    let U : List ClipUse → Type 0 = λ us. AreRead store us (clips ++ clip ∷ []) in
    let C : List Pictures → Type 0 = λ cs. AreRead store (take (index + 1) uses) cs in
    let whole : take index uses ++ declared ∷ [] ≡ take (index + 1) uses = ap (λ d. take index uses ++ d ∷ []) e ∙ sym (take_more uses index declared h) in
    subst C (sym n) (subst U whole (read_more store (take index uses) clips declared clip a (subst J k j)))

-- a clip that was read has the sides, the depth and the count that are declared
shape : (there : ℕ) (bytes : List ℕ) (declared : ClipUse) (clip : Pictures) → judged there bytes declared ≡ Ok clip → clip ≡ pictures_of declared clip.pixels
shape there bytes declared clip j =
    let h = (is_read there bytes declared clip j).pictures in
    h ∙ ap (pictures_of declared) (sym (ap (λ (c : Pictures). c.pixels) h))

shaped : (store : Option ClipMap) (declared : ClipUse) (clip : Pictures) → Judges store declared (Ok clip) → clip ≡ pictures_of declared clip.pixels
shaped (Some clips) declared clip j = shape (length j.0) j.0 declared clip j.2
shaped None declared clip j = shape j.0 j.1 declared clip j.3

pub all_shaped : (store : Option ClipMap) (uses : List ClipUse) (clips : List Pictures) → AreRead store uses clips → AllZip (λ declared clip. clip ≡ pictures_of declared clip.pixels) uses clips
all_shaped store [] [] h = tt
all_shaped store [] (c ∷ clips) h = absurd h
all_shaped store (u ∷ uses) [] h = absurd h
all_shaped store (u ∷ uses) (c ∷ clips) h = (shaped store u c h.0, all_shaped store uses clips h.1)
