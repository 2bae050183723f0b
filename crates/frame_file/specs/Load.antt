-- Loading clips from a store, in order.
use Rattle.std.specs.Prelude.{◌≡◌, ℕ, ◌+◌, ◌≤◌, List, ◌++◌, length, take, drop, slice_get, Option, Some, None, Result, Ok, Err}
use Rattle.std.proofs.Common.{Vec, Global}
use Rattle.std.specs.List.{AllZip}
use Rattle.host_io.specs.Clips.{ClipMap, bytes_at}
use Rattle.host_io.specs.Cause.{Rose}
use Rattle.project_model.specs.declared.clip.ClipUse.{ClipUse}
use Rattle.project_model.specs.Clip.{clip_length}
use Rattle.frame_file.specs.Clip.{Pictures, judged, clip_of}
use Rattle.frame_file.specs.declared.error.ClipError.{ClipError}
use Rattle.frame_file.specs.declared.error.LoadError.{LoadError}
use Rattle.frame_file.specs.declared.error.LoadError.TheVariants.{Fault, Missing, Refused, Memory}

-- at most one byte more than declared was handed out, and no more than the length that was said
pub record IsHandedOut (there : ℕ) (bytes : List ℕ) (declared : ClipUse) : Type 0 where
  pub few : length bytes ≤ clip_length declared + 1
  pub within : length bytes ≤ there

-- The answer is what the file of that name is. A store that does not tell said some length, and handed some bytes out.
abbrev pub Judges : Option ClipMap → ClipUse → Result Pictures ClipError → Type 0
Judges (Some clips) declared answer = (bytes : List ℕ) × (clips declared.name ≡ Some bytes) × (clip_of bytes declared ≡ answer)
Judges None declared answer =
    (there : ℕ) × (bytes : List ℕ) × IsHandedOut there bytes declared × (judged there bytes declared ≡ answer)

-- where the store tells, the name is not there
abbrev pub IsMissing : Option ClipMap → ClipUse → Type 0
IsMissing (Some clips) declared = clips declared.name ≡ None
IsMissing None declared = Unit {0}

-- each clip is what its file is
abbrev pub AreRead : Option ClipMap → List ClipUse → List Pictures → Type 0
AreRead store uses clips = AllZip (λ declared clip. Judges store declared (Ok clip)) uses clips

-- there is such a clip, and none before it is missing or refused
pub record IsReached (store : Option ClipMap) (uses : List ClipUse) (index : ℕ) (declared : ClipUse) : Type 0 where
  pub here : slice_get uses index ≡ Some declared
  pub before : (clips : List Pictures) × AreRead store (take index uses) clips

-- what the answer says of the store, by its kind
abbrev pub Loads : Option ClipMap → List ClipUse → Result (List Pictures) LoadError → Type 0
Loads store uses (Ok clips) = AreRead store uses clips
Loads store uses (Err (Fault index)) = (declared : ClipUse) × IsReached store uses index declared
Loads store uses (Err (Missing index)) = (declared : ClipUse) × IsReached store uses index declared × IsMissing store declared
Loads store uses (Err (Refused index why)) =
    (declared : ClipUse) × IsReached store uses index declared × Judges store declared (Err why)
Loads store uses (Err Memory) = Unit {0}

-- a fault was counted, and nothing else was
abbrev pub CountsLoad : {T : Type 0} → Result T LoadError → ℕ → ℕ → Type 0
CountsLoad (Err (Fault index)) before now = Rose before now
CountsLoad (Err Memory) before now = now ≡ before
CountsLoad (Err (Missing index)) before now = now ≡ before
CountsLoad (Err (Refused index why)) before now = now ≡ before
CountsLoad (Ok clips) before now = now ≡ before

-- the answer for one clip, which has this index
abbrev pub LoadsOne : Option ClipMap → ClipUse → ℕ → Result Pictures LoadError → Type 0
LoadsOne store declared index (Ok clip) = Judges store declared (Ok clip)
LoadsOne store declared index (Err (Fault i)) = i ≡ index
LoadsOne store declared index (Err (Missing i)) = (i ≡ index) × IsMissing store declared
LoadsOne store declared index (Err (Refused i why)) = (i ≡ index) × Judges store declared (Err why)
LoadsOne store declared index (Err Memory) = Unit {0}

-- the bytes under a name, at most so many, where the store tells; else any, at most so many
abbrev pub IsFront : Option ClipMap → List ℕ → ℕ → List ℕ → Type 0
IsFront (Some clips) name most bytes = bytes ≡ take most (bytes_at clips name)
IsFront None name most bytes = length bytes ≤ most

-- where the store tells, so many more of the bytes under the name were added to those of its front
abbrev pub AddsFrom : Option ClipMap → List ℕ → ℕ → List ℕ → List ℕ → Type 0
AddsFrom (Some clips) name count before now = now ≡ before ++ take count (drop (length before) (bytes_at clips name))
AddsFrom None name count before now = Unit {0}

-- an answer with the list of a `Vec` in place of it
abbrev pub with_list : Result (Vec Pictures Global) LoadError → Result (List Pictures) LoadError
with_list (Ok clips) = Ok clips.items
with_list (Err why) = Err why
