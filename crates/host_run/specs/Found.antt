-- What a store of clips answered for the clips that a project declares, and what that comes to.
use Rattle.std.specs.Prelude.{◌≡◌, ℕ, ◌+◌, List, [], ◌∷◌, length, take, slice_get, IfSome, Option, Some, None, Result, Ok, Err}
use Rattle.std.specs.Option.{option_map}
use Rattle.host_io.specs.Clips.{ClipMap}
use Rattle.project_model.specs.declared.clip.ClipUse.{ClipUse}
use Rattle.frame_file.specs.Clip.{Pictures, judged}
use Rattle.frame_file.specs.Load.{IsHandedOut}
use Rattle.frame_file.specs.declared.error.ClipError.{ClipError}

-- a length that was answered, and the bytes that were handed out
pub record Handed : Type 0 where
  pub there : ℕ
  pub bytes : List ℕ

-- for the clip of each index and its declaration: none where it has no length
abbrev pub Found : Type 0
Found = ℕ → ClipUse → Option Handed

-- all bytes of a file
abbrev pub whole : List ℕ → Handed
whole bytes = record { there = length bytes; bytes = bytes }

-- each clip is looked up by its name
abbrev pub found_in : ClipMap → Found
found_in clips index declared = option_map whole (clips declared.name)

-- What a store that tells its bytes holds; one that does not answered some lengths, and handed some bytes out, at most one more
-- than declared and no more than the length.
abbrev pub IsFoundIn : Option ClipMap → Found → Type 0
IsFoundIn (Some clips) found = found ≡ found_in clips
IsFoundIn None found =
    (index : ℕ) (declared : ClipUse) → IfSome (found index declared) (λ handed. IsHandedOut handed.there handed.bytes declared)

-- a clip that there is not, by its name: it is missing, or this refuses its bytes
pub data Refusal : Type 0 where
  missing : List ℕ → Refusal
  refused : List ℕ → ClipError → Refusal

abbrev pub or_refused : List ℕ → Result Pictures ClipError → Result Pictures Refusal
or_refused name (Ok clip) = Ok clip
or_refused name (Err why) = Err (refused name why)

-- a clip's pictures, or why there are none
abbrev pub clip_from : ClipUse → Option Handed → Result Pictures Refusal
clip_from declared None = Err (missing declared.name)
clip_from declared (Some handed) = or_refused declared.name (judged handed.there handed.bytes declared)

-- the clip before others, or the first that there is not
abbrev pub before_others : Result Pictures Refusal → Result (List Pictures) Refusal → Result (List Pictures) Refusal
before_others (Ok clip) (Ok clips) = Ok (clip ∷ clips)
before_others (Ok clip) (Err refusal) = Err refusal
before_others (Err refusal) rest = Err refusal

-- the clips of these declarations, of which the first has this index, or the first that there is not
abbrev pub clips_from : Found → ℕ → List ClipUse → Result (List Pictures) Refusal
clips_from found index [] = Ok []
clips_from found index (declared ∷ rest) =
    before_others (clip_from declared (found index declared)) (clips_from found (index + 1) rest)

-- there is a clip of this name, and none before it is missing or refused
pub record IsReached (found : Found) (uses : List ClipUse) (name : List ℕ) : Type 0 where
  pub index : ℕ
  pub declared : ClipUse
  pub here : slice_get uses index ≡ Some declared
  pub name_is : declared.name ≡ name
  pub clips : List Pictures
  pub before : clips_from found 0 (take index uses) ≡ Ok clips
