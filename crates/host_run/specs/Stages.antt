-- What the steps of a run say of themselves: reading the project, reading its clips, finding the span, and writing.
use Rattle.std.specs.Prelude.{◌≡◌, ℕ, ◌<◌, ◌≤◌, List, length, Option, Some, Result, Ok, Err}
use Rattle.std.specs.Io.KnownBytes.{Consumes, IsAtEnd, Appends}
use Rattle.project_model.specs.declared.project.Project.{Project}
use Rattle.project_model.specs.Plain.{plain_of}
use Rattle.project_model.specs.Sound.{IsSound}
use Rattle.project_model.specs.Uses.{AreUses}
use Rattle.project_model.specs.declared.effect.EffectSchema.{EffectSchema}
use Rattle.project_json.specs.Reading.{project_of}
use Rattle.project_json.specs.declared.error.ProjectError.TheVariants as project
use Rattle.host_run.specs.Outcome.{outcome, accepted, span_refused, outcome_of_span, last_asked, reads_source}
use Rattle.scene_meaning.specs.Scene.{SceneParts}
use Rattle.scene_meaning.specs.Shown.{PlainScene}
use Rattle.host_run.specs.Found.{Found, IsFoundIn, IsReached, missing, refused, clips_from}
use Rattle.frame_span.specs.Effects.{Effects, scene_of}
use Rattle.frame_span.specs.Written.{AppendsFront}
use Rattle.host_run.specs.Run.{Seen, SeenStore, WorksWell, Fails, IsUntouched, Leaves, HasEnded, calls_of}
use Rattle.host_run.specs.declared.ready.Ready.{Ready}
use Rattle.host_run.specs.declared.input.TheConstants.{LONGEST_TEXT}
use Rattle.run_words.specs.declared.settings.Settings.{Settings}
use Rattle.frame_span.specs.declared.span.Span.{Span}
use Rattle.host_run.specs.declared.notes.Ending.{Ending}
use Rattle.host_run.specs.declared.notes.Ending.TheVariants as ending

-- the source was read to its end, and the bytes are no more than a text may have
pub record IsWhole (bytes : List ℕ) (source : Seen) : Type 0 where
  pub ended : IsAtEnd source.now
  pub works : WorksWell source
  pub bound : length bytes ≤ LONGEST_TEXT

-- what the bytes that were taken are read as, with these schemas, or why not all were taken
abbrev pub Reads : List EffectSchema → Result Project Ending → List ℕ → Seen → Type 0
Reads schemas (Ok p) bytes source = IsWhole bytes source × (project_of schemas bytes ≡ Ok (plain_of p)) × IsSound p × AreUses schemas p
Reads schemas (Err ending.NotJson) bytes source = IsWhole bytes source × (project_of schemas bytes ≡ Err project.NotJson)
Reads schemas (Err (ending.Rule number)) bytes source =
    IsWhole bytes source × ((comp : Option ℕ) × (layer : Option ℕ) × (project_of schemas bytes ≡ Err (project.Rule number comp layer)))
Reads schemas (Err ending.ReadFault) bytes source = Fails source × (length bytes ≤ LONGEST_TEXT)
Reads schemas (Err ending.ProjectTooLong) bytes source = WorksWell source × (LONGEST_TEXT < length bytes)
Reads schemas (Err ending.Memory) bytes source = WorksWell source
Reads schemas (Err ending.Words) bytes source = ⊥
Reads schemas (Err ending.WriteFault) bytes source = ⊥
Reads schemas (Err (ending.ClipMissing name)) bytes source = ⊥
Reads schemas (Err (ending.ClipRefused name why)) bytes source = ⊥
Reads schemas (Err (ending.ClipFault name)) bytes source = ⊥
Reads schemas (Err (ending.Span from to count)) bytes source = ⊥

pub record HasRead (schemas : List EffectSchema) (result : Result Project Ending) (source : Seen) : Type 0 where
  pub bytes : List ℕ
  pub taken : Consumes source.before source.now bytes
  pub reads : Reads schemas result bytes source

-- what the clips of the project come to, or why not all were asked for
abbrev pub Loads : Project → Found → Result SceneParts Ending → Seen → Type 0
Loads project found (Ok scene) calls =
    WorksWell calls × (scene.project ≡ project) × (clips_from found 0 project.clips ≡ Ok scene.clips)
Loads project found (Err (ending.ClipMissing name)) calls =
    WorksWell calls × (clips_from found 0 project.clips ≡ Err (missing name))
Loads project found (Err (ending.ClipRefused name why)) calls =
    WorksWell calls × (clips_from found 0 project.clips ≡ Err (refused name why))
Loads project found (Err (ending.ClipFault name)) calls = Fails calls × IsReached found project.clips name
Loads project found (Err ending.Memory) calls = WorksWell calls
Loads project found (Err ending.Words) calls = ⊥
Loads project found (Err ending.NotJson) calls = ⊥
Loads project found (Err (ending.Rule number)) calls = ⊥
Loads project found (Err ending.ReadFault) calls = ⊥
Loads project found (Err ending.WriteFault) calls = ⊥
Loads project found (Err (ending.Span from to count)) calls = ⊥
Loads project found (Err ending.ProjectTooLong) calls = ⊥

pub record HasLoaded (project : Project) (result : Result SceneParts Ending) (store : SeenStore) : Type 0 where
  pub found : Found
  pub handed : IsFoundIn store.clips found
  pub loads : Loads project found result (calls_of store)

-- the span that the settings ask for, or its refusal
abbrev pub HasSpan : Settings → PlainScene → Result Span Ending → Type 0
HasSpan settings scene (Ok span) =
    outcome_of_span scene settings.from (last_asked settings scene.project) ≡ accepted scene span.from span.to
HasSpan settings scene (Err (ending.Span from to count)) =
    outcome_of_span scene settings.from (last_asked settings scene.project) ≡ span_refused from to count
HasSpan settings scene (Err other) = ⊥

-- The settings, the bytes that the source handed out and the clips come to a scene and a span of it.
pub record IsReady (effects : Effects) (settings : Settings) (ready : Ready) (source : Seen) (store : SeenStore) : Type 0 where
  pub bytes : List ℕ
  pub taken : Consumes source.before source.now bytes
  pub left : Leaves (reads_source settings.mode) (Ok tt) source
  pub works : WorksWell source
  pub found : Found
  pub handed : IsFoundIn store.clips found
  pub kept : store.clips_now ≡ store.clips
  pub store_works : WorksWell (calls_of store)
  pub read : outcome effects (Some settings) bytes found ≡ accepted (scene_of effects ready.scene) ready.span.from ready.span.to

-- they do, or the run has ended, whatever sink there is to which nothing was written
abbrev pub IsPrepared : Effects → Settings → Result Ready Ending → Seen → SeenStore → Type 0
IsPrepared effects settings (Ok ready) source store = IsReady effects settings ready source store
IsPrepared effects settings (Err e) source store = (sink : Seen) → IsUntouched sink → HasEnded effects (Some settings) (Err e) source store sink

-- these bytes were written, or a front of them where the sink or memory failed
abbrev pub HasOutput : List ℕ → Result (Unit {0}) Ending → Seen → Type 0
HasOutput whole (Ok done) sink = Appends sink.before sink.now whole × WorksWell sink
HasOutput whole (Err ending.WriteFault) sink = AppendsFront sink.before sink.now whole × Fails sink
HasOutput whole (Err ending.Memory) sink = AppendsFront sink.before sink.now whole × WorksWell sink
HasOutput whole (Err other) sink = ⊥
