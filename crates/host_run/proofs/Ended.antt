-- How a run ends, from what its steps say.
use Rattle.std.proofs.Common.{◌≡◌, ℕ, ◌≤◌, ◌<◌, List, [], length, Bool, true, false, IsTrue, Option, Some, None, Result, Ok, Err, inl, inr, cond, refl, sym, ap, ◌∙◌, subst, arith}
use Rattle.std.specs.Prelude.{◌&&◌, nat_lt, nat_le}
use Rattle.std.specs.Io.KnownBytes.{Consumes, Appends, Keeps}
use Rattle.std.proofs.lemmas.Bool.Decides.{nat_tests}
use Rattle.project_model.specs.declared.effect.EffectSchema.{EffectSchema}
use Rattle.project_model.specs.declared.passing.CheckError.{CheckError}
use Rattle.project_model.specs.declared.passing.CheckError.TheVariants.{RuleBroken}
use Rattle.project_model.specs.declared.passing.CheckError.TheVariants as check_error
use Rattle.scene_gen.specs.Generated.{generated}
use Rattle.project_model.specs.declared.plain.PlainProject.{PlainProject}
use Rattle.project_model.specs.declared.project.Project.{Project}
use Rattle.project_model.specs.Checked.{breach_in, Refuses}
use Rattle.project_model.specs.Plain.{plain_of}
use Rattle.project_model.specs.Sound.{IsSound}
use Rattle.project_model.specs.Broken.{breach_of}
use Rattle.project_model.specs.Places.{first_of_two}
use Rattle.project_model.specs.declared.place.Breach.{Breach}
use Rattle.project_model.proofs.Hand.{sound_based}
use Rattle.project_json.specs.FormRules.{form_breach}
use Rattle.project_json.specs.Json.{json_of}
use Rattle.project_json.specs.PlainData.{plain_of_data}
use Rattle.project_json.specs.Reading.{project_of, data_breach, judged, checked, IsRefusal}
use Rattle.project_json.specs.declared.error.ProjectError.{ProjectError}
use Rattle.project_json.specs.declared.error.ProjectError.TheVariants as project_error
use Rattle.frame_file.specs.Clip.{Pictures}
use Rattle.scene_meaning.specs.Output.{frame_count}
use Rattle.scene_meaning.specs.Scene.{SceneParts}
use Rattle.scene_meaning.specs.Shown.{PlainScene}
use Rattle.frame_span.specs.Effects.{Effects, scene_with, scene_of}
use Rattle.host_run.specs.Found.{Found, IsFoundIn, Refusal, missing, refused, clips_from}
use Rattle.host_run.specs.Outcome.{project_too_long, span_refused, accepted, outcome, outcome_of_text, outcome_of_number, outcome_of_reading, outcome_of_clips, outcome_of_span, last_asked, end_of, output, written_in, reads_source, no_clips, is_read_on}
use Rattle.host_run.specs.Run.{Seen, SeenStore, IsUntouched, IsUntouchedStore, HasEnded, Leaves, LeavesRead, IsReadOut, calls_of, is_reading}
use Rattle.host_run.specs.Stages.{IsWhole, HasRead, Reads, HasLoaded, Loads, HasSpan, IsReady, IsPrepared, HasOutput}
use Rattle.host_run.specs.Ending.{ending_of_words, ending_of_project, ending_of_check}
use Rattle.frame_span.specs.Written.{AppendsFront}
use Rattle.host_run.specs.declared.input.TheConstants.{LONGEST_TEXT}
use Rattle.run_words.specs.declared.settings.Settings.{Settings}
use Rattle.run_words.specs.declared.settings.RunMode.{RunMode}
use Rattle.run_words.specs.declared.settings.RunMode.TheVariants as mode
use Rattle.host_run.specs.declared.ready.Ready.{Ready}
use Rattle.run_words.specs.declared.words.WordsError.{WordsError}
use Rattle.run_words.specs.declared.words.WordsError.TheVariants as words_error
use Rattle.host_run.specs.declared.notes.Ending.{Ending}
use Rattle.host_run.specs.declared.notes.Ending.TheVariants as ending
use Rattle.host_run.proofs.Loaded.{any_found}

-- nothing was taken
pub consumes_nothing : (a b : Option (List ℕ)) → Keeps a b → Consumes a b []
consumes_nothing None b p = tt
consumes_nothing (Some xs) None p = absurd p
consumes_nothing (Some xs) (Some ys) p = sym p

module _ (schemas : List EffectSchema) where
  -- where none of the two is broken, the second is not
  second_kept : (a b : Option Breach) → first_of_two a b ≡ None → b ≡ None
  second_kept None b h = h
  second_kept (Some x) b h = absurd (cc)

  judged_kept : (breach : Option Breach) (plain project : PlainProject) → judged breach plain ≡ Ok project → (breach ≡ None) × (plain ≡ project)
  judged_kept None plain project h = (refl, cc)
  judged_kept (Some b) plain project h = absurd (cc)

  no_json : {T : Type 0} (project : PlainProject) → Err project_error.NotJson ≡ Ok project → T
  no_json project h = absurd (cc)

  -- what was read as a project breaks no rule
  pub plain_is_kept : (bytes : List ℕ) (project : PlainProject) → project_of schemas bytes ≡ Ok project → breach_of schemas project ≡ None
  plain_is_kept bytes project read =
      let kept =
      elim (json_of bytes) as (λ o. checked schemas o ≡ Ok project → breach_of schemas project ≡ None) [
        | None ↦ λ h. no_json project h
        | Some d ↦ λ h.
            let k = judged_kept (data_breach schemas d) (plain_of_data schemas d) project h in
            subst (λ p. breach_of schemas p ≡ None) k.1 (second_kept (form_breach schemas d) (breach_of schemas (plain_of_data schemas d)) k.0)
      ] in
      kept read

  pub read_is_kept : (bytes : List ℕ) (p : Project) → project_of schemas bytes ≡ Ok (plain_of p) → IsSound p → breach_in schemas p ≡ None
  read_is_kept bytes p read sound = sound_based schemas p sound ∙ plain_is_kept bytes (plain_of p) read

  -- a project that breaks no rule is not refused by a check
  pub not_refused : (project : Project) (rule : ℕ) (comp layer : Option ℕ) → breach_in schemas project ≡ None → Refuses (RuleBroken rule comp layer) (breach_in schemas project) → ⊥
  not_refused project rule comp layer passed refuses = subst (Refuses (RuleBroken rule comp layer)) passed refuses

  pub read_refused : (e : ProjectError) (bytes : List ℕ) (source : Seen) → Consumes source.before source.now bytes → IsWhole bytes source
      → IsRefusal e (project_of schemas bytes) → HasRead schemas (Err (ending_of_project e)) source
  read_refused project_error.NotJson bytes source taken whole refusal = record { bytes = bytes; taken = taken; reads = (whole, refusal) }
  read_refused (project_error.Rule number comp layer) bytes source taken whole refusal =
      record { bytes = bytes; taken = taken; reads = (whole, (comp, layer, refusal)) }
  read_refused project_error.Memory bytes source taken whole refusal = record { bytes = bytes; taken = taken; reads = whole.works }

-- a generated project declares no clips
pub generated_clips : (number : ℕ) → (generated number).clips ≡ []
unfolding generated
generated_clips number = refl

module _ (effects : Effects) where
  -- ---- the outcome of a run that reads its source

  span_read_on : (b : Bool) (scene : PlainScene) (from to count : ℕ) → IsTrue (is_read_on (cond b (accepted scene from to) (span_refused from to count)))
  span_read_on true scene from to count = refl
  span_read_on false scene from to count = refl

  clips_read_on : (settings : Settings) (p : PlainProject) (r : Result (List Pictures) Refusal) → IsTrue (is_read_on (outcome_of_clips effects settings p r))
  clips_read_on settings p (Err e) = refl
  clips_read_on settings p (Ok clips) =
      let last = last_asked settings p in
      span_read_on (nat_le settings.from last && nat_lt last (frame_count p)) (scene_with effects p clips) settings.from last (frame_count p)

  reading_read_on : (settings : Settings) (found : Found) (r : Result PlainProject ProjectError) → IsTrue (is_read_on (outcome_of_reading effects settings found r))
  reading_read_on settings found (Err e) = refl
  reading_read_on settings found (Ok p) = clips_read_on settings p (clips_from found 0 p.clips)

  pub by_mode : (settings : Settings) (bytes : List ℕ) (found : Found) (reads : Bool) → reads_source settings.mode ≡ reads
      → outcome effects (Some settings) bytes found ≡ cond reads (outcome_of_text effects settings bytes found) (outcome_of_number effects settings)
  by_mode settings bytes found reads e = ap (λ b. cond b (outcome_of_text effects settings bytes found) (outcome_of_number effects settings)) e

  pub long_text : (settings : Settings) (bytes : List ℕ) (found : Found) → reads_source settings.mode ≡ true → LONGEST_TEXT < length bytes
      → outcome effects (Some settings) bytes found ≡ project_too_long
  long_text settings bytes found reads h =
      let long : nat_lt LONGEST_TEXT (length bytes) ≡ true = grind (arith, nat_tests) in
      by_mode settings bytes found true reads
      ∙ ap (λ b. cond b project_too_long (outcome_of_reading effects settings found (project_of effects.set.schemas bytes))) long

module _ (effects : Effects) (settings : Settings) (reads : reads_source settings.mode ≡ true) where
  short_text : (bytes : List ℕ) (found : Found) → length bytes ≤ LONGEST_TEXT
      → outcome effects (Some settings) bytes found ≡ outcome_of_reading effects settings found (project_of effects.set.schemas bytes)
  short_text bytes found h =
      let short : nat_lt LONGEST_TEXT (length bytes) ≡ false = grind (arith, nat_tests) in
      by_mode effects settings bytes found true reads
      ∙ ap (λ b. cond b project_too_long (outcome_of_reading effects settings found (project_of effects.set.schemas bytes))) short

  short_read_on : (bytes : List ℕ) (found : Found) → length bytes ≤ LONGEST_TEXT → IsTrue (is_read_on (outcome effects (Some settings) bytes found))
  short_read_on bytes found h =
      subst (λ o. IsTrue (is_read_on o)) (sym (short_text bytes found h)) (reading_read_on effects settings found (project_of effects.set.schemas bytes))

  -- what a text that was read to its end comes to
  outcome_read : (bytes : List ℕ) (found : Found) (r : Result PlainProject ProjectError) → length bytes ≤ LONGEST_TEXT → project_of effects.set.schemas bytes ≡ r
      → outcome effects (Some settings) bytes found ≡ outcome_of_reading effects settings found r
  outcome_read bytes found r h e = short_text bytes found h ∙ ap (outcome_of_reading effects settings found) e

  -- and with the clips of its project
  outcome_loaded : (bytes : List ℕ) (found : Found) (p : Project) (r : Result (List Pictures) Refusal) → length bytes ≤ LONGEST_TEXT
      → project_of effects.set.schemas bytes ≡ Ok (plain_of p) → clips_from found 0 p.clips ≡ r → outcome effects (Some settings) bytes found ≡ outcome_of_clips effects settings (plain_of p) r
  outcome_loaded bytes found p r h e f = outcome_read bytes found (Ok (plain_of p)) h e ∙ ap (outcome_of_clips effects settings (plain_of p)) f

  -- and with its scene
  outcome_of_scene : (bytes : List ℕ) (found : Found) (p : Project) (scene : SceneParts) → length bytes ≤ LONGEST_TEXT
      → project_of effects.set.schemas bytes ≡ Ok (plain_of p) → scene.project ≡ p → clips_from found 0 p.clips ≡ Ok scene.clips
      → outcome effects (Some settings) bytes found ≡ outcome_of_span (scene_of effects scene) settings.from (last_asked settings (plain_of scene.project))
  outcome_of_scene bytes found p scene h e same f =
      outcome_loaded bytes found p (Ok scene.clips) h e f
      ∙ ap (λ (q : Project). outcome_of_span (scene_with effects (plain_of q) scene.clips) settings.from (last_asked settings (plain_of q))) (sym same)

  -- ---- the ends of its steps

  left_of : (end : Result (Unit {0}) Ending) (source : Seen) → LeavesRead end source → Leaves (reads_source settings.mode) end source
  left_of end source left = subst (λ b. Leaves b end source) (sym reads) left

  pub ended_at_project : (e : Ending) (source : Seen) (store : SeenStore) → HasRead effects.set.schemas (Err e) source
      → IsUntouchedStore store → IsPrepared effects settings (Err e) source store
  ended_at_project e source store h held = λ sink nothing. by_end sink nothing (any_found store.clips) e h.reads
    where
      by_end : (sink : Seen) → IsUntouched sink → ((found : Found) × IsFoundIn store.clips found) → (e : Ending) → Reads effects.set.schemas (Err e) h.bytes source
          → HasEnded effects (Some settings) (Err e) source store sink
      by_end sink nothing f ending.NotJson r = record {
        bytes = h.bytes;
        taken = h.taken;
        found = f.0;
        handed = f.1;
        kept = held.kept;
        caused = (sym (ap end_of (outcome_read h.bytes f.0 (Err project_error.NotJson) r.0.bound r.1)), r.0.works, held.works, nothing.works);
        left = left_of (Err ending.NotJson) source r.0.ended;
        written = nothing.kept;
      }
      by_end sink nothing f (ending.Rule number) r = record {
        bytes = h.bytes;
        taken = h.taken;
        found = f.0;
        handed = f.1;
        kept = held.kept;
        caused = (sym (ap end_of (outcome_read h.bytes f.0 (Err (project_error.Rule number r.1.0 r.1.1)) r.0.bound r.1.2)), r.0.works, held.works, nothing.works);
        left = left_of (Err (ending.Rule number)) source r.0.ended;
        written = nothing.kept;
      }
      by_end sink nothing f ending.ReadFault r = record {
        bytes = h.bytes;
        taken = h.taken;
        found = f.0;
        handed = f.1;
        kept = held.kept;
        caused = (reads, short_read_on h.bytes f.0 r.1, r.0, held.works, nothing.works);
        left = left_of (Err ending.ReadFault) source tt;
        written = nothing.kept;
      }
      by_end sink nothing f ending.ProjectTooLong r = record {
        bytes = h.bytes;
        taken = h.taken;
        found = f.0;
        handed = f.1;
        kept = held.kept;
        caused = (sym (ap end_of (long_text effects settings h.bytes f.0 reads r.1)), r.0, held.works, nothing.works);
        left = left_of (Err ending.ProjectTooLong) source tt;
        written = nothing.kept;
      }
      by_end sink nothing f ending.Memory r = record {
        bytes = h.bytes;
        taken = h.taken;
        found = f.0;
        handed = f.1;
        kept = held.kept;
        caused = (r, held.works, nothing.works);
        left = left_of (Err ending.Memory) source tt;
        written = inl nothing.kept;
      }
      by_end sink nothing f ending.Words r = absurd r
      by_end sink nothing f ending.WriteFault r = absurd r
      by_end sink nothing f (ending.ClipMissing name) r = absurd r
      by_end sink nothing f (ending.ClipRefused name why) r = absurd r
      by_end sink nothing f (ending.ClipFault name) r = absurd r
      by_end sink nothing f (ending.Span from to count) r = absurd r

  pub ended_at_clips : (p : Project) (e : Ending) (source : Seen) (store : SeenStore) → HasRead effects.set.schemas (Ok p) source
      → HasLoaded p (Err e) store → store.clips_now ≡ store.clips → IsPrepared effects settings (Err e) source store
  ended_at_clips p e source store h k kept = λ sink nothing. by_end sink nothing e k.loads
    where
      by_end : (sink : Seen) → IsUntouched sink → (e : Ending) → Loads p k.found (Err e) (calls_of store) → HasEnded effects (Some settings) (Err e) source store sink
      by_end sink nothing (ending.ClipMissing name) l = record {
        bytes = h.bytes;
        taken = h.taken;
        found = k.found;
        handed = k.handed;
        kept = kept;
        caused = (sym (ap end_of (outcome_loaded h.bytes k.found p (Err (missing name)) h.reads.0.bound h.reads.1 l.1)), h.reads.0.works, l.0, nothing.works);
        left = left_of (Err (ending.ClipMissing name)) source h.reads.0.ended;
        written = nothing.kept;
      }
      by_end sink nothing (ending.ClipRefused name why) l = record {
        bytes = h.bytes;
        taken = h.taken;
        found = k.found;
        handed = k.handed;
        kept = kept;
        caused = (sym (ap end_of (outcome_loaded h.bytes k.found p (Err (refused name why)) h.reads.0.bound h.reads.1 l.1)), h.reads.0.works, l.0, nothing.works);
        left = left_of (Err (ending.ClipRefused name why)) source h.reads.0.ended;
        written = nothing.kept;
      }
      by_end sink nothing (ending.ClipFault name) l = record {
        bytes = h.bytes;
        taken = h.taken;
        found = k.found;
        handed = k.handed;
        kept = kept;
        caused = (
          record { settings = settings; words = refl; reads = reads; short = h.reads.0.bound; project = plain_of p; read = h.reads.1; reached = l.1 },
          h.reads.0.works,
          l.0,
          nothing.works,
        );
        left = left_of (Err (ending.ClipFault name)) source h.reads.0.ended;
        written = nothing.kept;
      }
      by_end sink nothing ending.Memory l = record {
        bytes = h.bytes;
        taken = h.taken;
        found = k.found;
        handed = k.handed;
        kept = kept;
        caused = (h.reads.0.works, l, nothing.works);
        left = left_of (Err ending.Memory) source tt;
        written = inl nothing.kept;
      }
      by_end sink nothing ending.Words l = absurd l
      by_end sink nothing ending.NotJson l = absurd l
      by_end sink nothing (ending.Rule number) l = absurd l
      by_end sink nothing ending.ReadFault l = absurd l
      by_end sink nothing ending.WriteFault l = absurd l
      by_end sink nothing (ending.Span from to count) l = absurd l
      by_end sink nothing ending.ProjectTooLong l = absurd l

  -- the outcome with the scene that was read
  scene_here : (p : Project) (scene : SceneParts) (source : Seen) (store : SeenStore) (h : HasRead effects.set.schemas (Ok p) source) (k : HasLoaded p (Ok scene) store)
      → outcome effects (Some settings) h.bytes k.found ≡ outcome_of_span (scene_of effects scene) settings.from (last_asked settings (plain_of scene.project))
  scene_here p scene source store h k = outcome_of_scene h.bytes k.found p scene h.reads.0.bound h.reads.1 k.loads.1 k.loads.2

  pub ended_at_span : (p : Project) (scene : SceneParts) (e : Ending) (source : Seen) (store : SeenStore) → HasRead effects.set.schemas (Ok p) source
      → HasLoaded p (Ok scene) store → HasSpan settings (scene_of effects scene) (Err e) → store.clips_now ≡ store.clips → IsPrepared effects settings (Err e) source store
  ended_at_span p scene e source store h k asked kept = λ sink nothing. by_end sink nothing e asked
    where
      by_end : (sink : Seen) → IsUntouched sink → (e : Ending) → HasSpan settings (scene_of effects scene) (Err e) → HasEnded effects (Some settings) (Err e) source store sink
      by_end sink nothing (ending.Span from to count) s = record {
        bytes = h.bytes;
        taken = h.taken;
        found = k.found;
        handed = k.handed;
        kept = kept;
        caused = (sym (ap end_of (scene_here p scene source store h k ∙ s)), h.reads.0.works, k.loads.0, nothing.works);
        left = left_of (Err (ending.Span from to count)) source h.reads.0.ended;
        written = nothing.kept;
      }
      by_end sink nothing ending.Words s = absurd s
      by_end sink nothing ending.NotJson s = absurd s
      by_end sink nothing (ending.Rule number) s = absurd s
      by_end sink nothing (ending.ClipMissing name) s = absurd s
      by_end sink nothing (ending.ClipRefused name why) s = absurd s
      by_end sink nothing (ending.ClipFault name) s = absurd s
      by_end sink nothing ending.ReadFault s = absurd s
      by_end sink nothing ending.WriteFault s = absurd s
      by_end sink nothing ending.Memory s = absurd s
      by_end sink nothing ending.ProjectTooLong s = absurd s

  pub ready_read : (p : Project) (ready : Ready) (source : Seen) (store : SeenStore) → HasRead effects.set.schemas (Ok p) source → HasLoaded p (Ok ready.scene) store
      → HasSpan settings (scene_of effects ready.scene) (Ok ready.span) → store.clips_now ≡ store.clips → IsReady effects settings ready source store
  ready_read p ready source store h k asked kept = record {
    bytes = h.bytes;
    taken = h.taken;
    left = left_of (Ok tt) source h.reads.0.ended;
    works = h.reads.0.works;
    found = k.found;
    handed = k.handed;
    kept = kept;
    store_works = k.loads.0;
    read = scene_here p ready.scene source store h k ∙ asked;
  }

-- ---- the ends of the steps of every run

-- where memory runs out, nothing is claimed of a source that is read, and another is as before
pub memory_leaves : (reads : Bool) (source : Seen) → Keeps source.before source.now → Leaves reads (Err ending.Memory) source
memory_leaves true source keeps = tt
memory_leaves false source keeps = keeps

-- a source that is read was read to its end where a run ends well
pub read_out : (reads : Bool) (done : Unit {0}) (source : Seen) → Leaves reads (Ok done) source → IsReadOut reads source
read_out true done source left = left
read_out false done source left = tt

module _ (effects : Effects) where
  -- memory ran out before anything was done
  pub ended_at_memory : (asked : Option Settings) (source : Seen) (store : SeenStore) (sink : Seen) → IsUntouched source → IsUntouchedStore store → IsUntouched sink
      → HasEnded effects asked (Err ending.Memory) source store sink
  ended_at_memory asked source store sink nothing held unwritten =
      let f = any_found store.clips in
      record {
        bytes = [];
        taken = consumes_nothing source.before source.now nothing.kept;
        found = f.0;
        handed = f.1;
        kept = held.kept;
        caused = (nothing.works, held.works, unwritten.works);
        left = memory_leaves (is_reading asked) source nothing.kept;
        written = inl unwritten.kept;
      }

  pub ended_at_words : (asked : Option Settings) (e : WordsError) (source : Seen) (store : SeenStore) (sink : Seen) → (e ≡ words_error.Refused → asked ≡ None)
      → IsUntouched source → IsUntouchedStore store → IsUntouched sink → HasEnded effects asked (Err (ending_of_words e)) source store sink
  ended_at_words asked words_error.Refused source store sink refusal nothing held unwritten =
      let f = any_found store.clips in
      let none : asked ≡ None = refusal refl in
      record {
        bytes = [];
        taken = consumes_nothing source.before source.now nothing.kept;
        found = f.0;
        handed = f.1;
        kept = held.kept;
        caused = (ap (λ a. end_of (outcome effects a [] f.0)) (sym none), nothing.works, held.works, unwritten.works);
        left = subst (λ a. Leaves (is_reading a) (Err ending.Words) source) (sym none) nothing.kept;
        written = unwritten.kept;
      }
  ended_at_words asked words_error.Memory source store sink refusal nothing held unwritten = ended_at_memory asked source store sink nothing held unwritten

  -- ---- a run that generates its project

  number_outcome : (settings : Settings) (bytes : List ℕ) (found : Found) → settings.mode ≡ mode.Demo → outcome effects (Some settings) bytes found ≡ outcome_of_number effects settings
  number_outcome settings bytes found demo = by_mode effects settings bytes found false (ap reads_source demo)

  number_left : (settings : Settings) (end : Result (Unit {0}) Ending) (source : Seen) → settings.mode ≡ mode.Demo → Keeps source.before source.now → Leaves (reads_source settings.mode) end source
  number_left settings end source demo keeps = subst (λ b. Leaves b end source) (sym (ap reads_source demo)) keeps

  -- a generated project breaks a rule
  refused_outcome : (settings : Settings) (rule : ℕ) (comp layer : Option ℕ) (breach : Option Breach) → breach_of effects.set.schemas (generated settings.number) ≡ breach
      → Refuses (RuleBroken rule comp layer) breach → end_of (outcome_of_number effects settings) ≡ Err (ending.Rule rule)
  refused_outcome settings rule comp layer None found refuses = absurd refuses
  refused_outcome settings rule comp layer (Some breach) found refuses =
      let number_is : rule ≡ breach.number = cc (refuses) in
      ap (λ b. end_of (outcome_of_reading effects settings no_clips (judged b (generated settings.number)))) found ∙ ap (λ n. Err (ending.Rule n)) (sym number_is)

  pub ended_at_check : (settings : Settings) (e : CheckError) (p : Project) (source : Seen) (store : SeenStore) → settings.mode ≡ mode.Demo
      → breach_in effects.set.schemas p ≡ breach_of effects.set.schemas (generated settings.number) → Refuses e (breach_in effects.set.schemas p)
      → IsUntouched source → IsUntouchedStore store → IsPrepared effects settings (Err (ending_of_check e)) source store
  ended_at_check settings check_error.Memory p source store demo same refuses nothing held = λ sink unwritten. ended_at_memory (Some settings) source store sink nothing held unwritten
  ended_at_check settings (RuleBroken rule comp layer) p source store demo same refuses nothing held = λ sink unwritten.
      let f = any_found store.clips in
      let refused_here : end_of (outcome_of_number effects settings) ≡ Err (ending.Rule rule) =
      refused_outcome settings rule comp layer (breach_of effects.set.schemas (generated settings.number)) refl (subst (Refuses (RuleBroken rule comp layer)) same refuses) in
      record {
        bytes = [];
        taken = consumes_nothing source.before source.now nothing.kept;
        found = f.0;
        handed = f.1;
        kept = held.kept;
        caused = (sym (ap end_of (number_outcome settings [] f.0 demo) ∙ refused_here), nothing.works, held.works, unwritten.works);
        left = number_left settings (Err (ending.Rule rule)) source demo nothing.kept;
        written = unwritten.kept;
      }

  -- a generated project that breaks no rule comes to the span of its scene
  generated_outcome : (settings : Settings) (scene : SceneParts) → breach_of effects.set.schemas (generated settings.number) ≡ None
      → plain_of scene.project ≡ generated settings.number → scene.clips ≡ []
      → outcome_of_number effects settings ≡ outcome_of_span (scene_of effects scene) settings.from (last_asked settings (plain_of scene.project))
  generated_outcome settings scene kept same none =
      ap (λ b. outcome_of_reading effects settings no_clips (judged b (generated settings.number))) kept
      ∙ ap (λ clips. outcome_of_clips effects settings (generated settings.number) (clips_from no_clips 0 clips)) (generated_clips settings.number)
      ∙ ap (λ p. outcome_of_span (scene_with effects p []) settings.from (last_asked settings p)) (sym same)
      ∙ ap (λ clips. outcome_of_span (scene_with effects (plain_of scene.project) clips) settings.from (last_asked settings (plain_of scene.project))) (sym none)

  pub ended_at_span_of : (settings : Settings) (scene : SceneParts) (e : Ending) (source : Seen) (store : SeenStore) → settings.mode ≡ mode.Demo
      → breach_of effects.set.schemas (generated settings.number) ≡ None → plain_of scene.project ≡ generated settings.number → scene.clips ≡ []
      → HasSpan settings (scene_of effects scene) (Err e) → IsUntouched source → IsUntouchedStore store → IsPrepared effects settings (Err e) source store
  ended_at_span_of settings scene e source store demo kept same none asked nothing held = λ sink unwritten. by_end sink unwritten e asked
    where
      by_end : (sink : Seen) → IsUntouched sink → (e : Ending) → HasSpan settings (scene_of effects scene) (Err e) → HasEnded effects (Some settings) (Err e) source store sink
      by_end sink unwritten (ending.Span from to count) s =
          let f = any_found store.clips in
          record {
            bytes = [];
            taken = consumes_nothing source.before source.now nothing.kept;
            found = f.0;
            handed = f.1;
            kept = held.kept;
            caused = (
              sym (ap end_of (number_outcome settings [] f.0 demo ∙ generated_outcome settings scene kept same none ∙ s)),
              nothing.works,
              held.works,
              unwritten.works,
            );
            left = number_left settings (Err (ending.Span from to count)) source demo nothing.kept;
            written = unwritten.kept;
          }
      by_end sink unwritten ending.Words s = absurd s
      by_end sink unwritten ending.NotJson s = absurd s
      by_end sink unwritten (ending.Rule number) s = absurd s
      by_end sink unwritten (ending.ClipMissing name) s = absurd s
      by_end sink unwritten (ending.ClipRefused name why) s = absurd s
      by_end sink unwritten (ending.ClipFault name) s = absurd s
      by_end sink unwritten ending.ReadFault s = absurd s
      by_end sink unwritten ending.WriteFault s = absurd s
      by_end sink unwritten ending.Memory s = absurd s
      by_end sink unwritten ending.ProjectTooLong s = absurd s

  pub ready_generated : (settings : Settings) (ready : Ready) (source : Seen) (store : SeenStore) → settings.mode ≡ mode.Demo
      → breach_of effects.set.schemas (generated settings.number) ≡ None → plain_of ready.scene.project ≡ generated settings.number → ready.scene.clips ≡ []
      → HasSpan settings (scene_of effects ready.scene) (Ok ready.span) → IsUntouched source → IsUntouchedStore store → IsReady effects settings ready source store
  ready_generated settings ready source store demo kept same none asked nothing held =
      let f = any_found store.clips in
      record {
        bytes = [];
        taken = consumes_nothing source.before source.now nothing.kept;
        left = number_left settings (Ok tt) source demo nothing.kept;
        works = nothing.works;
        found = f.0;
        handed = f.1;
        kept = held.kept;
        store_works = held.works;
        read = number_outcome settings [] f.0 demo ∙ generated_outcome settings ready.scene kept same none ∙ asked;
      }

  -- ---- the end of writing

  still_left : (reads : Bool) (source : Seen) → Leaves reads (Ok tt) source → Leaves reads (Err ending.WriteFault) source
  still_left true source left = left
  still_left false source left = left

  memory_left : (reads : Bool) (source : Seen) → Leaves reads (Ok tt) source → Leaves reads (Err ending.Memory) source
  memory_left true source left = tt
  memory_left false source left = left

  -- what is written of an accepted outcome
  whole_output : (settings : Settings) (ready : Ready) (source : Seen) (store : SeenStore) (h : IsReady effects settings ready source store)
      → output settings.mode (outcome effects (Some settings) h.bytes h.found) ≡ written_in settings.mode (scene_of effects ready.scene) ready.span.from ready.span.to
  whole_output settings ready source store h = ap (output settings.mode) h.read

  pub ended_at_writing : (settings : Settings) (ready : Ready) (end : Result (Unit {0}) Ending) (source : Seen) (store : SeenStore) (sink : Seen)
      → IsReady effects settings ready source store → HasOutput (written_in settings.mode (scene_of effects ready.scene) ready.span.from ready.span.to) end sink
      → HasEnded effects (Some settings) end source store sink
  ended_at_writing settings ready (Ok done) source store sink h wrote = record {
    bytes = h.bytes;
    taken = h.taken;
    found = h.found;
    handed = h.handed;
    kept = h.kept;
    caused = (sym (ap end_of h.read), h.works, h.store_works, wrote.1);
    left = ok_left settings.mode done h.left;
    written = subst (Appends sink.before sink.now) (sym (whole_output settings ready source store h)) wrote.0;
  }
    where
      ok_left : (m : RunMode) (done : Unit {0}) → Leaves (reads_source m) (Ok tt) source → Leaves (reads_source m) (Ok done) source
      ok_left m tt left = left
  ended_at_writing settings ready (Err ending.WriteFault) source store sink h wrote = record {
    bytes = h.bytes;
    taken = h.taken;
    found = h.found;
    handed = h.handed;
    kept = h.kept;
    caused = (ap end_of h.read, h.works, h.store_works, wrote.1);
    left = still_left (reads_source settings.mode) source h.left;
    written = record {
      read_out = read_out (reads_source settings.mode) tt source h.left;
      front = subst (AppendsFront sink.before sink.now) (sym (whole_output settings ready source store h)) wrote.0;
    };
  }
  ended_at_writing settings ready (Err ending.Memory) source store sink h wrote = record {
    bytes = h.bytes;
    taken = h.taken;
    found = h.found;
    handed = h.handed;
    kept = h.kept;
    caused = (h.works, h.store_works, wrote.1);
    left = memory_left (reads_source settings.mode) source h.left;
    written = inr (record {
      read_out = read_out (reads_source settings.mode) tt source h.left;
      front = subst (AppendsFront sink.before sink.now) (sym (whole_output settings ready source store h)) wrote.0;
    });
  }
  ended_at_writing settings ready (Err ending.Words) source store sink h wrote = absurd wrote
  ended_at_writing settings ready (Err ending.NotJson) source store sink h wrote = absurd wrote
  ended_at_writing settings ready (Err (ending.Rule number)) source store sink h wrote = absurd wrote
  ended_at_writing settings ready (Err (ending.ClipMissing name)) source store sink h wrote = absurd wrote
  ended_at_writing settings ready (Err (ending.ClipRefused name why)) source store sink h wrote = absurd wrote
  ended_at_writing settings ready (Err (ending.ClipFault name)) source store sink h wrote = absurd wrote
  ended_at_writing settings ready (Err ending.ReadFault) source store sink h wrote = absurd wrote
  ended_at_writing settings ready (Err (ending.Span from to count)) source store sink h wrote = absurd wrote
  ended_at_writing settings ready (Err ending.ProjectTooLong) source store sink h wrote = absurd wrote
