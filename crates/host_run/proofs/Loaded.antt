-- What a store of clips was found to hold, from what loading them says.
use Rattle.std.proofs.Common.{◌≡◌, ℕ, zero, suc, ◌+◌, ◌<◌, List, [], ◌∷◌, ◌++◌, length, take, slice_get, Bool, true, false, Option, Some, None, IfSome, Result, Ok, Err, refl, sym, ap, ◌∙◌, add-zero, arith}
use Rattle.std.specs.Prelude.{◌&&◌, nat_le}
use Rattle.std.specs.Option.{option_map, option_map_or}
use Rattle.std.proofs.lemmas.Bool.Decides.{nat_tests}
use Rattle.host_io.specs.Clips.{ClipMap}
use Rattle.project_model.specs.Clip.{clip_length}
use Rattle.project_model.specs.declared.clip.ClipUse.{ClipUse}
use Rattle.project_model.specs.declared.project.Project.{Project}
use Rattle.scene_meaning.specs.Scene.{SceneParts}
use Rattle.frame_file.specs.Clip.{Pictures}
use Rattle.frame_file.specs.Load as load
use Rattle.frame_file.specs.Load.{IsHandedOut, Judges, AreRead, IsMissing, CountsLoad}
use Rattle.frame_file.specs.declared.error.ClipError.{ClipError}
use Rattle.frame_file.specs.declared.error.ClipError.TheVariants as clip_error
use Rattle.frame_file.specs.declared.error.LoadError.{LoadError}
use Rattle.frame_file.specs.declared.error.LoadError.TheVariants as load_error
use Rattle.host_run.specs.Ending.{IsOneOf, name_at, ending_of_clip, ending_of_loading}
use Rattle.host_run.specs.Found.{Handed, Found, whole, found_in, IsFoundIn, Refusal, missing, refused, or_refused, clip_from, before_others, clips_from, IsReached}
use Rattle.host_run.specs.Run.{SeenStore, WorksWell, calls_of}
use Rattle.host_run.specs.Stages.{HasLoaded}
use Rattle.host_run.specs.declared.notes.Ending.TheVariants as ending

-- ---- lists of clips

more : (clip : Pictures) (clips : List Pictures) (r : Result Pictures Refusal) (rs : Result (List Pictures) Refusal)
    → r ≡ Ok clip → rs ≡ Ok clips → before_others r rs ≡ Ok (clip ∷ clips)
more clip clips r rs e f = ap (λ x. before_others x rs) e ∙ ap (before_others (Ok clip)) f

-- the first of several is there, and so are the others
first_there : (r : Result Pictures Refusal) (rs : Result (List Pictures) Refusal) (clips : List Pictures) → before_others r rs ≡ Ok clips
    → (clip : Pictures) × (others : List Pictures) × (r ≡ Ok clip) × (rs ≡ Ok others)
first_there (Ok clip) (Ok others) clips h = (clip, others, refl, refl)
first_there (Ok clip) (Err why) clips h = absurd (cc)
first_there (Err why) rs clips h = absurd (cc)

-- where those before one are there and that one is not, it is the first that there is not
stops : (found : Found) (k at : ℕ) (uses : List ClipUse) (declared : ClipUse) (clips : List Pictures) (why : Refusal)
    → slice_get uses at ≡ Some declared → clips_from found k (take at uses) ≡ Ok clips
    → clip_from declared (found (k + at) declared) ≡ Err why → clips_from found k uses ≡ Err why
stops found k at [] declared clips why here before h = absurd (cc)
stops found k zero (d ∷ rest) declared clips why here before h =
    let same : d ≡ declared = cc in
    let now : clip_from d (found k d) ≡ Err why =
    ap (λ n. clip_from d (found n d)) (sym (add-zero k)) ∙ ap (λ e. clip_from e (found (k + 0) e)) same ∙ h in
    ap (λ r. before_others r (clips_from found (k + 1) rest)) now
stops found k (suc at) (d ∷ rest) declared clips why here before h =
    let parts = first_there (clip_from d (found k d)) (clips_from found (k + 1) (take at rest)) clips before in
    let there : k + suc at ≡ (k + 1) + at = omega arith in
    let later : clips_from found (k + 1) rest ≡ Err why =
    stops found (k + 1) at rest declared parts.1 why here parts.3 (ap (λ n. clip_from declared (found n declared)) (sym there) ∙ h) in
    ap (λ r. before_others r (clips_from found (k + 1) rest)) parts.2 ∙ ap (before_others (Ok parts.0)) later

-- ---- a store that tells its bytes

told_clip : (clips : ClipMap) (k : ℕ) (declared : ClipUse) (answer : Result Pictures ClipError) → Judges (Some clips) declared answer
    → clip_from declared (found_in clips k declared) ≡ or_refused declared.name answer
told_clip clips k declared answer h =
    ap (λ o. clip_from declared (option_map whole o)) h.1 ∙ ap (or_refused declared.name) h.2

told_missing : (clips : ClipMap) (k : ℕ) (declared : ClipUse) → clips declared.name ≡ None
    → clip_from declared (found_in clips k declared) ≡ Err (missing declared.name)
told_missing clips k declared h = ap (λ o. clip_from declared (option_map whole o)) h

told_all : (clips : ClipMap) (k : ℕ) (uses : List ClipUse) (pictures : List Pictures) → AreRead (Some clips) uses pictures
    → clips_from (found_in clips) k uses ≡ Ok pictures
told_all clips k [] [] h = refl
told_all clips k [] (p ∷ ps) h = absurd h
told_all clips k (d ∷ ds) [] h = absurd h
told_all clips k (d ∷ ds) (p ∷ ps) h =
    more p ps (clip_from d (found_in clips k d)) (clips_from (found_in clips) (k + 1) ds)
    (told_clip clips k d (Ok p) h.0) (told_all clips (k + 1) ds ps h.1)

-- ---- a store that does not

fits : Handed → ClipUse → Bool
fits handed declared = nat_le (length handed.bytes) (clip_length declared + 1) && nat_le (length handed.bytes) handed.there

only_if : Bool → Handed → Option Handed
only_if true handed = Some handed
only_if false handed = None

-- for a declaration that it fits
handed_for : Option Handed → ClipUse → Option Handed
handed_for None declared = None
handed_for (Some handed) declared = only_if (fits handed declared) handed

-- for the clip of each index what stands there in the list
found_of : List Handed → Found
found_of all index declared = handed_for (slice_get all index) declared

is_handed : (b : Bool) (handed : Handed) (declared : ClipUse) → fits handed declared ≡ b
    → IfSome (only_if b handed) (λ h. IsHandedOut h.there h.bytes declared)
unfolding fits only_if
is_handed true handed declared e = record { few = grind (arith, nat_tests); within = grind (arith, nat_tests) }
is_handed false handed declared e = tt

each_is_handed : (o : Option Handed) (declared : ClipUse) → IfSome (handed_for o declared) (λ h. IsHandedOut h.there h.bytes declared)
unfolding handed_for
each_is_handed None declared = tt
each_is_handed (Some handed) declared = is_handed (fits handed declared) handed declared refl

are_handed : (all : List Handed) → IsFoundIn None (found_of all)
unfolding found_of
are_handed all = λ index declared. each_is_handed (slice_get all index) declared

fits_there : (handed : Handed) (declared : ClipUse) → IsHandedOut handed.there handed.bytes declared → handed_for (Some handed) declared ≡ Some handed
unfolding fits only_if handed_for
fits_there handed declared h =
    let test : (nat_le (length handed.bytes) (clip_length declared + 1) && nat_le (length handed.bytes) handed.there) ≡ true =
    grind (arith, nat_tests, h.few, h.within) in
    ap (λ b. only_if b handed) test

-- what was handed out of one clip
one_handed : (declared : ClipUse) (answer : Result Pictures ClipError) → Judges None declared answer → Handed
one_handed declared answer h = record { there = h.0; bytes = h.1 }

-- of clips that were read
all_handed : (uses : List ClipUse) (pictures : List Pictures) → AreRead None uses pictures → List Handed
all_handed [] ps h = []
all_handed (d ∷ ds) [] h = []
all_handed (d ∷ ds) (p ∷ ps) h = one_handed d (Ok p) h.0 ∷ all_handed ds ps h.1

length-all_handed : (uses : List ClipUse) (pictures : List Pictures) (h : AreRead None uses pictures) → length (all_handed uses pictures h) ≡ length uses
unfolding all_handed
length-all_handed [] ps h = refl
length-all_handed (d ∷ ds) [] h = absurd h
length-all_handed (d ∷ ds) (p ∷ ps) h = ap (λ n. suc n) (length-all_handed ds ps h.1)

untold_clip : (found : Found) (k : ℕ) (declared : ClipUse) (answer : Result Pictures ClipError) (h : Judges None declared answer)
    → found k declared ≡ handed_for (Some (one_handed declared answer h)) declared
    → clip_from declared (found k declared) ≡ or_refused declared.name answer
unfolding one_handed
untold_clip found k declared answer h e =
    ap (clip_from declared) (e ∙ fits_there (one_handed declared answer h) declared h.2) ∙ ap (or_refused declared.name) h.3

-- from the clip of this index on, what was found is what stands in the list
abbrev Agrees : Found → ℕ → List Handed → Type 0
Agrees found k all = (i : ℕ) (handed : Handed) (declared : ClipUse) → slice_get all i ≡ Some handed → found (k + i) declared ≡ handed_for (Some handed) declared

untold_all : (found : Found) (k : ℕ) (uses : List ClipUse) (pictures : List Pictures) (h : AreRead None uses pictures)
    → Agrees found k (all_handed uses pictures h) → clips_from found k uses ≡ Ok pictures
unfolding all_handed
untold_all found k [] [] h agrees = refl
untold_all found k [] (p ∷ ps) h agrees = absurd h
untold_all found k (d ∷ ds) [] h agrees = absurd h
untold_all found k (d ∷ ds) (p ∷ ps) h agrees =
    more p ps (clip_from d (found k d)) (clips_from found (k + 1) ds)
    (untold_clip found k d (Ok p) h.0 (ap (λ n. found n d) (sym (add-zero k)) ∙ agrees 0 (one_handed d (Ok p) h.0) d refl))
    (untold_all found (k + 1) ds ps h.1
    (λ i handed declared e. ap (λ n. found n declared) (omega arith) ∙ agrees (suc i) handed declared e))

-- more behind the list changes nothing
get_before : (all rest : List Handed) (i : ℕ) (handed : Handed) → slice_get all i ≡ Some handed → slice_get (all ++ rest) i ≡ Some handed
get_before [] rest i handed e = absurd (cc)
get_before (x ∷ xs) rest zero handed e = e
get_before (x ∷ xs) rest (suc i) handed e = get_before xs rest i handed e

agrees_with : (all rest : List Handed) → Agrees (found_of (all ++ rest)) 0 all
unfolding found_of
agrees_with all rest = λ i handed declared e.
    let there : 0 + i ≡ i = omega arith in
    ap (λ n. handed_for (slice_get (all ++ rest) n) declared) there ∙ ap (λ o. handed_for o declared) (get_before all rest i handed e)

get_behind : (all : List Handed) (last : Handed) (n : ℕ) → length all ≡ n → slice_get (all ++ last ∷ []) n ≡ Some last
get_behind [] last zero e = refl
get_behind [] last (suc n) e = absurd (cc)
get_behind (x ∷ xs) last zero e = absurd (cc)
get_behind (x ∷ xs) last (suc n) e = get_behind xs last n (omega arith)

get_none : (all : List Handed) (n : ℕ) → length all ≡ n → slice_get (all ++ []) n ≡ None
get_none [] zero e = refl
get_none [] (suc n) e = absurd (cc)
get_none (x ∷ xs) zero e = absurd (cc)
get_none (x ∷ xs) (suc n) e = get_none xs n (omega arith)

-- ---- a clip that is there

length-before : (uses : List ClipUse) (at : ℕ) (declared : ClipUse) → slice_get uses at ≡ Some declared → length (take at uses) ≡ at
length-before [] at declared e = absurd (cc)
length-before (d ∷ ds) zero declared e = refl
length-before (d ∷ ds) (suc at) declared e = ap (λ n. suc n) (length-before ds at declared e)

pub is_there : (uses : List ClipUse) (at : ℕ) (declared : ClipUse) → slice_get uses at ≡ Some declared → at < length uses
is_there [] at declared e = absurd (cc)
is_there (d ∷ ds) zero declared e = omega arith
is_there (d ∷ ds) (suc at) declared e = let h : at < length ds = is_there ds at declared e in omega arith

name_is : (uses : List ClipUse) (at : ℕ) (declared : ClipUse) → slice_get uses at ≡ Some declared → declared.name ≡ name_at uses at
name_is uses at declared here = sym (ap (λ o. option_map_or (λ d. d.name) o []) here)

-- ---- what was found

pub any_found : (store : Option ClipMap) → (found : Found) × IsFoundIn store found
any_found (Some clips) = (found_in clips, refl)
any_found None = ((λ index declared. None), (λ index declared. tt))

pub found_all : (store : Option ClipMap) (uses : List ClipUse) (pictures : List Pictures) → AreRead store uses pictures
    → (found : Found) × IsFoundIn store found × (clips_from found 0 uses ≡ Ok pictures)
found_all (Some clips) uses pictures h = (found_in clips, refl, told_all clips 0 uses pictures h)
found_all None uses pictures h =
    let all = all_handed uses pictures h in
    (found_of (all ++ []), are_handed (all ++ []), untold_all (found_of (all ++ [])) 0 uses pictures h (agrees_with all []))

reached_by : (found : Found) (uses : List ClipUse) (at : ℕ) (declared : ClipUse) (pictures : List Pictures) → slice_get uses at ≡ Some declared
    → clips_from found 0 (take at uses) ≡ Ok pictures → IsReached found uses (name_at uses at)
reached_by found uses at declared pictures here before = record {
  index = at;
  declared = declared;
  here = here;
  name_is = name_is uses at declared here;
  clips = pictures;
  before = before;
}

found_before : (store : Option ClipMap) (uses : List ClipUse) (at : ℕ) (declared : ClipUse) → load.IsReached store uses at declared
    → (found : Found) × IsFoundIn store found × IsReached found uses (name_at uses at)
found_before store uses at declared h =
    let f = found_all store (take at uses) h.before.0 h.before.1 in
    (f.0, f.1, reached_by f.0 uses at declared h.before.0 h.here f.2)

renamed : (found : Found) (uses : List ClipUse) (at : ℕ) (declared : ClipUse) (why : List ℕ → Refusal) → slice_get uses at ≡ Some declared
    → clips_from found 0 uses ≡ Err (why declared.name) → clips_from found 0 uses ≡ Err (why (name_at uses at))
renamed found uses at declared why here e = e ∙ ap (λ name. Err (why name)) (name_is uses at declared here)

found_missing : (store : Option ClipMap) (uses : List ClipUse) (at : ℕ) (declared : ClipUse) → load.IsReached store uses at declared
    → IsMissing store declared → (found : Found) × IsFoundIn store found × (clips_from found 0 uses ≡ Err (missing (name_at uses at)))
unfolding found_of handed_for
found_missing (Some clips) uses at declared h gone =
    let pictures = h.before.0 in (
      found_in clips,
      refl,
      renamed (found_in clips) uses at declared missing h.here
          (stops (found_in clips) 0 at uses declared pictures (missing declared.name) h.here (told_all clips 0 (take at uses) pictures h.before.1)
          (told_missing clips (0 + at) declared gone)),
    )
found_missing None uses at declared h gone =
    let pictures = h.before.0 in
    let all = all_handed (take at uses) pictures h.before.1 in
    let found = found_of (all ++ []) in
    let none : slice_get (all ++ []) at ≡ None = get_none all at (length-all_handed (take at uses) pictures h.before.1 ∙ length-before uses at declared h.here) in
    let there : 0 + at ≡ at = omega arith in (
      found,
      are_handed (all ++ []),
      renamed found uses at declared missing h.here
          (stops found 0 at uses declared pictures (missing declared.name) h.here
          (untold_all found 0 (take at uses) pictures h.before.1 (agrees_with all []))
          (ap (λ n. clip_from declared (found n declared)) there ∙ ap (λ o. clip_from declared (handed_for o declared)) none)),
    )

found_refused : (store : Option ClipMap) (uses : List ClipUse) (at : ℕ) (declared : ClipUse) (why : ClipError) → load.IsReached store uses at declared
    → Judges store declared (Err why)
    → (found : Found) × IsFoundIn store found × (clips_from found 0 uses ≡ Err (refused (name_at uses at) why))
unfolding found_of
found_refused (Some clips) uses at declared why h judged =
    let pictures = h.before.0 in (
      found_in clips,
      refl,
      renamed (found_in clips) uses at declared (λ name. refused name why) h.here
          (stops (found_in clips) 0 at uses declared pictures (refused declared.name why) h.here (told_all clips 0 (take at uses) pictures h.before.1)
          (told_clip clips (0 + at) declared (Err why) judged)),
    )
found_refused None uses at declared why h judged =
    let pictures = h.before.0 in
    let all = all_handed (take at uses) pictures h.before.1 in
    let last = one_handed declared (Err why) judged in
    let found = found_of (all ++ last ∷ []) in
    let here : slice_get (all ++ last ∷ []) at ≡ Some last =
    get_behind all last at (length-all_handed (take at uses) pictures h.before.1 ∙ length-before uses at declared h.here) in
    let there : 0 + at ≡ at = omega arith in (
      found,
      are_handed (all ++ last ∷ []),
      renamed found uses at declared (λ name. refused name why) h.here
          (stops found 0 at uses declared pictures (refused declared.name why) h.here
          (untold_all found 0 (take at uses) pictures h.before.1 (agrees_with all (last ∷ [])))
          (untold_clip found (0 + at) declared (Err why) judged
          (ap (λ n. found n declared) there ∙ ap (λ o. handed_for o declared) here))),
    )

-- ---- the ends of loading

pub loaded_well : (project : Project) (pictures : List Pictures) (scene : SceneParts) (store : SeenStore) → AreRead store.clips project.clips pictures
    → WorksWell (calls_of store) → scene.project ≡ project → scene.clips ≡ pictures → HasLoaded project (Ok scene) store
loaded_well project pictures scene store h works same these =
    let f = found_all store.clips project.clips pictures h in
    record { found = f.0; handed = f.1; loads = (works, same, f.2 ∙ ap (λ cs. Ok cs) (sym these)) }

pub loaded_without_memory : (project : Project) (store : SeenStore) → WorksWell (calls_of store) → HasLoaded project (Err ending.Memory) store
loaded_without_memory project store works =
    let f = any_found store.clips in
    record { found = f.0; handed = f.1; loads = works }

loaded_not_clip : (project : Project) (name : List ℕ) (why : ClipError) (found : Found) (store : SeenStore) → IsFoundIn store.clips found
    → clips_from found 0 project.clips ≡ Err (refused name why) → WorksWell (calls_of store) → HasLoaded project (Err (ending_of_clip name why)) store
loaded_not_clip project name clip_error.BadMagic found store handed e works = record { found = found; handed = handed; loads = (works, e) }
loaded_not_clip project name (clip_error.BadHeader field) found store handed e works = record { found = found; handed = handed; loads = (works, e) }
loaded_not_clip project name (clip_error.Short have want) found store handed e works = record { found = found; handed = handed; loads = (works, e) }
loaded_not_clip project name (clip_error.BadPixel frame index) found store handed e works = record { found = found; handed = handed; loads = (works, e) }
loaded_not_clip project name (clip_error.Trailing extra) found store handed e works = record { found = found; handed = handed; loads = (works, e) }
loaded_not_clip project name clip_error.Memory found store handed e works = record { found = found; handed = handed; loads = works }

pub loaded_not : (project : Project) (e : LoadError) (store : SeenStore) → load.Loads store.clips project.clips (Err e)
    → CountsLoad {T = List Pictures} (Err e) store.faults_before store.faults_now → HasLoaded project (Err (ending_of_loading project.clips e)) store
loaded_not project (load_error.Fault index) store h cause =
    let f = found_before store.clips project.clips index h.0 h.1 in
    record { found = f.0; handed = f.1; loads = (cause, f.2) }
loaded_not project (load_error.Missing index) store h cause =
    let f = found_missing store.clips project.clips index h.0 h.1 h.2 in
    record { found = f.0; handed = f.1; loads = (cause, f.2) }
loaded_not project (load_error.Refused index why) store h cause =
    let f = found_refused store.clips project.clips index h.0 why h.1 h.2 in
    loaded_not_clip project (name_at project.clips index) why f.0 store f.1 f.2 cause
loaded_not project load_error.Memory store h cause = loaded_without_memory project store cause

-- the clip that was not loaded is one of those that were asked for
pub is_one_of : (store : Option ClipMap) (uses : List ClipUse) (e : LoadError) → load.Loads store uses (Err e) → IsOneOf uses e
is_one_of store uses (load_error.Fault index) h = is_there uses index h.0 h.1.here
is_one_of store uses (load_error.Missing index) h = is_there uses index h.0 h.1.here
is_one_of store uses (load_error.Refused index why) h = is_there uses index h.0 h.1.here
is_one_of store uses load_error.Memory h = tt
