-- What a run says, from its end and its note.
use Rattle.std.proofs.Common.{◌≡◌, ℕ, ◌<◌, List, [], ◌++◌, length, Bool, true, false, Option, Some, None, IfSome, Result, Ok, Err, inl, inr, cond, refl, sym, ap, ◌∙◌, subst, arith}
use Rattle.std.specs.Prelude.{◌⊎◌}
use Rattle.std.specs.Io.KnownBytes.{Consumes, Appends, Keeps, IsAtEnd}
use borrow.Author.Tests.{ltb-true}
use Rattle.std.proofs.lemmas.List.{append-nil}
use Rattle.host_io.specs.declared.status.Status.{Status}
use Rattle.host_io.specs.declared.status.Status.TheVariants as status
use Rattle.project_model.specs.declared.plain.PlainProject.{PlainProject}
use Rattle.project_json.specs.Reading.{project_of}
use Rattle.project_json.specs.declared.error.ProjectError.{ProjectError}
use Rattle.project_json.specs.declared.error.ProjectError.TheVariants as project_error
use Rattle.frame_file.specs.Clip.{Pictures}
use Rattle.scene_meaning.specs.Shown.{PlainScene}
use Rattle.frame_span.specs.Effects.{Effects}
use Rattle.host_run.specs.Found.{Found, Refusal, missing, refused, clips_from}
use Rattle.host_run.specs.Outcome.{Outcome, words_refused, project_too_long, project_refused, clip_refused, span_refused, accepted, outcome, outcome_of_reading, outcome_of_clips, end_of, output, mode_of, written_in, reads_source, IsAccepted}
use Rattle.host_run.specs.Run.{Seen, SeenStore, WorksWell, Fails, IsUntouched, IsUntouchedStore, IsQuiet, IsNoted, IsReadOut, Leaves, HasEnded, HasRun, calls_of, is_reading}
use Rattle.host_run.specs.Headline.{IsRendered, HasWritten, Answers, IsAnswer, IsAnswered}
use Rattle.host_run.specs.Ending.{status_of, status_of_end}
use Rattle.host_run.specs.declared.input.TheConstants.{LONGEST_TEXT}
use Rattle.run_words.specs.declared.settings.Settings.{Settings}
use Rattle.run_words.specs.declared.settings.RunMode.TheVariants as mode
use Rattle.host_run.specs.declared.notes.Ending.{Ending}
use Rattle.host_run.specs.declared.notes.Ending.TheVariants as ending
use Rattle.frame_span.proofs.Known.{appends_none}
use Rattle.host_run.proofs.Known.{longer}
use Rattle.host_run.proofs.Ended.{by_mode, long_text, read_out}

pub noted_well : (done : Unit {0}) (notes : Seen) → notes.now ≡ notes.before → IsNoted (Ok done) status.Ok notes
noted_well done notes same =
    let none : Appends notes.before notes.now [] = subst (λ now. Appends notes.before now []) (sym same) (appends_none notes.before) in
    record {
      well = λ _. refl;
      told = inl refl;
      front = ([], none, ([], refl));
      whole = λ quiet. inr none;
    }

if_some_all : (a : Option (List ℕ)) (P : List ℕ → Type 0) → ((all : List ℕ) → P all) → IfSome a P
if_some_all None P h = tt
if_some_all (Some all) P h = h all

if_some_map : (a : Option (List ℕ)) (P Q : List ℕ → Type 0) → ((all : List ℕ) → P all → Q all) → IfSome a P → IfSome a Q
if_some_map None P Q f h = tt
if_some_map (Some all) P Q f h = f all h

-- a source that was read to its end gave all that it had
consumes_whole : (a b : Option (List ℕ)) (bytes : List ℕ) (P : List ℕ → Type 0) → Consumes a b bytes → IsAtEnd b → P bytes → IfSome a P
consumes_whole None b bytes P p e h = tt
consumes_whole (Some all) None bytes P p e h = absurd p
consumes_whole (Some all) (Some rest) bytes P p e h = subst P (sym (p ∙ ap (λ xs. bytes ++ xs) e ∙ append-nil bytes)) h

quiet_never_fails : (seen : Seen) → IsQuiet seen → Fails seen → ⊥
quiet_never_fails seen quiet fails = omega (arith, quiet.same, quiet.below_end, fails)

not_ok : (e : Ending) → status.Ok ≡ status_of e → ⊥
not_ok ending.Words h = cc
not_ok ending.NotJson h = cc
not_ok (ending.Rule number) h = cc
not_ok (ending.ClipMissing name) h = cc
not_ok (ending.ClipRefused name why) h = cc
not_ok (ending.ClipFault name) h = cc
not_ok ending.ReadFault h = cc
not_ok ending.WriteFault h = cc
not_ok ending.Memory h = cc
not_ok (ending.Span from to count) h = cc
not_ok ending.ProjectTooLong h = cc

ok_not_memory : status.Ok ≡ status.Memory → ⊥
ok_not_memory h = cc

accepted_is : (o : Outcome) → end_of o ≡ Ok tt → (scene : PlainScene) × (from : ℕ) × (to : ℕ) × (o ≡ accepted scene from to)
accepted_is words_refused h = absurd (cc)
accepted_is project_too_long h = absurd (cc)
accepted_is (project_refused project_error.NotJson) h = absurd (cc)
accepted_is (project_refused (project_error.Rule number comp layer)) h = absurd (cc)
accepted_is (project_refused project_error.Memory) h = absurd (cc)
accepted_is (clip_refused (missing name)) h = absurd (cc)
accepted_is (clip_refused (refused name why)) h = absurd (cc)
accepted_is (span_refused from to count) h = absurd (cc)
accepted_is (accepted scene from to) h = (scene, from, to, refl)

module _ (effects : Effects) where
  pub written_of : (asked : Option Settings) (s : Status) (source : Seen) (store : SeenStore) (sink notes : Seen) → HasRun effects asked s source store sink notes
      → s ≡ status.Ok → HasWritten effects asked source store sink
  written_of asked s source store sink notes run ok = by_end run.end run.ended run.noted.told
    where
      by_end : (end : Result (Unit {0}) Ending) → HasEnded effects asked end source store sink → (s ≡ status_of_end end) ⊎ (s ≡ status.Memory) → HasWritten effects asked source store sink
      by_end (Ok done) h told =
          let o = accepted_is (outcome effects asked h.bytes h.found) (sym h.caused.0) in
          record {
            bytes = h.bytes;
            found = h.found;
            scene = o.0;
            from = o.1;
            to = o.2;
            taken = h.taken;
            ended = read_out (is_reading asked) done source h.left;
            handed = h.handed;
            read = o.3;
            appended = subst (Appends sink.before sink.now) (ap (output (mode_of asked)) o.3) h.written;
          }
      by_end (Err e) h (inl is) = absurd (not_ok e (sym ok ∙ is))
      by_end (Err e) h (inr is) = absurd (ok_not_memory (sym ok ∙ is))

  -- a run that renders reads its source
  rendering_reads : (asked : Option Settings) (bytes : List ℕ) (found : Found) (scene : PlainScene) (from to : ℕ) → mode_of asked ≡ mode.Render
      → outcome effects asked bytes found ≡ accepted scene from to → is_reading asked ≡ true
  rendering_reads None bytes found scene from to is read = let wrong : ⊥ = cc in absurd wrong
  rendering_reads (Some settings) bytes found scene from to is read = ap reads_source is

  pub headline_of : (asked : Option Settings) (s : Status) (source : Seen) (store : SeenStore) (sink notes : Seen) → HasRun effects asked s source store sink notes
      → mode_of asked ≡ mode.Render → s ≡ status.Ok → IsRendered effects asked source store sink
  headline_of asked s source store sink notes run is ok =
      let w = written_of asked s source store sink notes run ok in
      record {
        bytes = w.bytes;
        found = w.found;
        scene = w.scene;
        from = w.from;
        to = w.to;
        taken = w.taken;
        ended = subst (λ b. IsReadOut b source) (rendering_reads asked w.bytes w.found w.scene w.from w.to is w.read) w.ended;
        handed = w.handed;
        read = w.read;
        appended = subst (λ m. Appends sink.before sink.now (written_in m w.scene w.from w.to)) is w.appended;
      }

  -- ---- a run that reads nothing

  none_of : (b : Bool) {T : Type 0} → b ≡ true → b ≡ false → T
  none_of b p q = let wrong : ⊥ = cc in absurd wrong

  -- a clip that was asked for is one of a project that was read
  asked_reads : (asked : Option Settings) (settings : Settings) → asked ≡ Some settings → reads_source settings.mode ≡ true → is_reading asked ≡ true
  asked_reads asked settings is reads = ap is_reading is ∙ reads

  -- nothing was done to the source and the store
  untouched_end : (asked : Option Settings) (source : Seen) (store : SeenStore) (sink : Seen) → is_reading asked ≡ false → (end : Result (Unit {0}) Ending)
      → HasEnded effects asked end source store sink → IsUntouched source × IsUntouchedStore store
  untouched_end asked source store sink aside end h = by_end end h
    where
      both : Keeps source.before source.now → WorksWell source → WorksWell (calls_of store) → store.clips_now ≡ store.clips → IsUntouched source × IsUntouchedStore store
      both left works held kept = (record { kept = left; works = works }, record { kept = kept; works = held })

      by_end : (e : Result (Unit {0}) Ending) → HasEnded effects asked e source store sink → IsUntouched source × IsUntouchedStore store
      by_end (Ok done) h = both (subst (λ b. Leaves b (Ok done) source) aside h.left) h.caused.1 h.caused.2 h.kept
      by_end (Err ending.Words) h = both (subst (λ b. Leaves b (Err ending.Words) source) aside h.left) h.caused.1 h.caused.2 h.kept
      by_end (Err ending.NotJson) h = both (subst (λ b. Leaves b (Err ending.NotJson) source) aside h.left) h.caused.1 h.caused.2 h.kept
      by_end (Err (ending.Rule number)) h = both (subst (λ b. Leaves b (Err (ending.Rule number)) source) aside h.left) h.caused.1 h.caused.2 h.kept
      by_end (Err (ending.ClipMissing name)) h = both (subst (λ b. Leaves b (Err (ending.ClipMissing name)) source) aside h.left) h.caused.1 h.caused.2 h.kept
      by_end (Err (ending.ClipRefused name why)) h = both (subst (λ b. Leaves b (Err (ending.ClipRefused name why)) source) aside h.left) h.caused.1 h.caused.2 h.kept
      by_end (Err (ending.Span from to count)) h = both (subst (λ b. Leaves b (Err (ending.Span from to count)) source) aside h.left) h.caused.1 h.caused.2 h.kept
      by_end (Err ending.ProjectTooLong) h = both (subst (λ b. Leaves b (Err ending.ProjectTooLong) source) aside h.left) h.caused.1 h.caused.2 h.kept
      by_end (Err ending.WriteFault) h = both (subst (λ b. Leaves b (Err ending.WriteFault) source) aside h.left) h.caused.1 h.caused.2 h.kept
      by_end (Err ending.Memory) h = both (subst (λ b. Leaves b (Err ending.Memory) source) aside h.left) h.caused.0 h.caused.1 h.kept
      by_end (Err ending.ReadFault) h = none_of (is_reading asked) h.caused.0 aside
      by_end (Err (ending.ClipFault name)) h = none_of (is_reading asked) (asked_reads asked h.caused.0.settings h.caused.0.words h.caused.0.reads) aside

  demo_is_aside : (asked : Option Settings) → mode_of asked ≡ mode.Demo → is_reading asked ≡ false
  demo_is_aside None is = let wrong : ⊥ = cc in absurd wrong
  demo_is_aside (Some settings) is = ap reads_source is

  pub untouched_of : (asked : Option Settings) (s : Status) (source : Seen) (store : SeenStore) (sink notes : Seen) → HasRun effects asked s source store sink notes
      → mode_of asked ≡ mode.Demo → IsUntouched source × IsUntouchedStore store
  untouched_of asked s source store sink notes run is = untouched_end asked source store sink (demo_is_aside asked is) run.end run.ended

  -- what it comes to does not hang on any bytes
  aside_whatever : (asked : Option Settings) (bytes all : List ℕ) (found : Found) → is_reading asked ≡ false → outcome effects asked bytes found ≡ outcome effects asked all found
  aside_whatever None bytes all found aside = refl
  aside_whatever (Some settings) bytes all found aside = by_mode effects settings bytes found false aside ∙ sym (by_mode effects settings all found false aside)

  -- accepted words are not refused
  span_not_words : (b : Bool) (scene : PlainScene) (from to count : ℕ) → Err ending.Words ≡ end_of (cond b (accepted scene from to) (span_refused from to count)) → ⊥
  span_not_words true scene from to count h = cc
  span_not_words false scene from to count h = cc

  clips_not_words : (settings : Settings) (p : PlainProject) (r : Result (List Pictures) Refusal) → Err ending.Words ≡ end_of (outcome_of_clips effects settings p r) → ⊥
  clips_not_words settings p (Err (missing name)) h = cc
  clips_not_words settings p (Err (refused name why)) h = cc
  clips_not_words settings p (Ok clips) h = span_not_words _ _ _ _ _ h

  text_not_words : (b : Bool) (settings : Settings) (found : Found) (r : Result PlainProject ProjectError)
      → Err ending.Words ≡ end_of (cond b project_too_long (outcome_of_reading effects settings found r)) → ⊥
  text_not_words true settings found r h = cc
  text_not_words false settings found (Err project_error.NotJson) h = cc
  text_not_words false settings found (Err (project_error.Rule number comp layer)) h = cc
  text_not_words false settings found (Err project_error.Memory) h = cc
  text_not_words false settings found (Ok p) h = clips_not_words settings p (clips_from found 0 p.clips) h

  never_words : (asked : Option Settings) (bytes : List ℕ) (found : Found) → is_reading asked ≡ true → Err ending.Words ≡ end_of (outcome effects asked bytes found) → ⊥
  never_words None bytes found reads h = none_of false reads refl
  never_words (Some settings) bytes found reads h =
      text_not_words _ settings found (project_of effects.set.schemas bytes) (h ∙ ap end_of (by_mode effects settings bytes found true reads))

  -- a text is too long whatever follows
  span_not_long : (b : Bool) (scene : PlainScene) (from to count : ℕ) → Err ending.ProjectTooLong ≡ end_of (cond b (accepted scene from to) (span_refused from to count)) → ⊥
  span_not_long true scene from to count h = cc
  span_not_long false scene from to count h = cc

  clips_not_long : (settings : Settings) (p : PlainProject) (r : Result (List Pictures) Refusal) → Err ending.ProjectTooLong ≡ end_of (outcome_of_clips effects settings p r) → ⊥
  clips_not_long settings p (Err (missing name)) h = cc
  clips_not_long settings p (Err (refused name why)) h = cc
  clips_not_long settings p (Ok clips) h = span_not_long _ _ _ _ _ h

  text_long : (b : Bool) (settings : Settings) (found : Found) (r : Result PlainProject ProjectError)
      → Err ending.ProjectTooLong ≡ end_of (cond b project_too_long (outcome_of_reading effects settings found r)) → b ≡ true
  text_long true settings found r h = refl
  text_long false settings found (Err project_error.NotJson) h = absurd (cc)
  text_long false settings found (Err (project_error.Rule number comp layer)) h = absurd (cc)
  text_long false settings found (Err project_error.Memory) h = absurd (cc)
  text_long false settings found (Ok p) h = absurd (clips_not_long settings p (clips_from found 0 p.clips) h)

  long_whatever : (asked : Option Settings) (bytes : List ℕ) (found : Found) → is_reading asked ≡ true → Err ending.ProjectTooLong ≡ end_of (outcome effects asked bytes found)
      → (LONGEST_TEXT < length bytes) × ((all : List ℕ) → LONGEST_TEXT < length all → Err ending.ProjectTooLong ≡ end_of (outcome effects asked all found))
  long_whatever None bytes found reads h = none_of false reads refl
  long_whatever (Some settings) bytes found reads h = (
    ltb-true LONGEST_TEXT (length bytes)
        (text_long _ settings found (project_of effects.set.schemas bytes) (h ∙ ap end_of (by_mode effects settings bytes found true reads))),
    λ all more. sym (ap end_of (long_text effects settings all found reads more)),
  )

  answers_told : (o : Outcome) (end : Result (Unit {0}) Ending) (s : Status) → (s ≡ status_of_end end) ⊎ (s ≡ status.Memory) → end ≡ end_of o → Answers o s
  answers_told o end s (inl is) e = inl (is ∙ ap status_of_end e)
  answers_told o end s (inr is) e = inr (inl is)

  -- a write fault has its cause
  write_fault_fails : (asked : Option Settings) (s : Status) (source : Seen) (store : SeenStore) (sink notes : Seen) → HasRun effects asked s source store sink notes
      → s ≡ status.WriteFault → Fails sink
  write_fault_fails asked s source store sink notes run fault = by_end run.end run.ended run.noted.told
    where
      by_end : (end : Result (Unit {0}) Ending) → HasEnded effects asked end source store sink → (s ≡ status_of_end end) ⊎ (s ≡ status.Memory) → Fails sink
      by_end end h (inr is) = absurd (cc (fault, is))
      by_end (Err ending.WriteFault) h (inl is) = h.caused.3
      by_end (Ok done) h (inl is) = absurd (cc (fault, is))
      by_end (Err ending.Words) h (inl is) = absurd (cc (fault, is))
      by_end (Err ending.NotJson) h (inl is) = absurd (cc (fault, is))
      by_end (Err (ending.Rule number)) h (inl is) = absurd (cc (fault, is))
      by_end (Err (ending.ClipMissing name)) h (inl is) = absurd (cc (fault, is))
      by_end (Err (ending.ClipRefused name why)) h (inl is) = absurd (cc (fault, is))
      by_end (Err (ending.ClipFault name)) h (inl is) = absurd (cc (fault, is))
      by_end (Err ending.ReadFault) h (inl is) = absurd (cc (fault, is))
      by_end (Err ending.Memory) h (inl is) = absurd (cc (fault, is))
      by_end (Err (ending.Span from to count)) h (inl is) = absurd (cc (fault, is))
      by_end (Err ending.ProjectTooLong) h (inl is) = absurd (cc (fault, is))

  abbrev Told : Option Settings → Status → Seen → SeenStore → Seen → List ℕ → Type 0
  Told asked s source store sink all = IsQuiet source → IsQuiet (calls_of store) → IsAnswer effects asked all s store sink

  pub answered_of : (asked : Option Settings) (s : Status) (source : Seen) (store : SeenStore) (sink notes : Seen) → HasRun effects asked s source store sink notes
      → IsAnswered effects asked s source store sink
  answered_of asked s source store sink notes run = by_reading (is_reading asked) refl
    where
      complete : (o : Outcome) → Answers o s → IsAccepted o → IsQuiet sink → (s ≡ status.Ok) ⊎ (s ≡ status.Memory)
      complete o (inl is) acc quiet = inl (is ∙ ap status_of_end acc)
      complete o (inr (inl is)) acc quiet = inr is
      complete o (inr (inr w)) acc quiet = absurd (quiet_never_fails sink quiet (write_fault_fails asked s source store sink notes run w.1))

      answer : (end : Result (Unit {0}) Ending) (h : HasEnded effects asked end source store sink) (all : List ℕ) → Answers (outcome effects asked all h.found) s
          → IsAnswer effects asked all s store sink
      answer end h all answers = record {
        found = h.found;
        handed = h.handed;
        answers = answers;
        complete = complete (outcome effects asked all h.found) answers;
      }

      -- where nothing is read, what the words come to is the answer, whatever the bytes
      of_words : (end : Result (Unit {0}) Ending) (h : HasEnded effects asked end source store sink) → is_reading asked ≡ false → end ≡ end_of (outcome effects asked h.bytes h.found)
          → (s ≡ status_of_end end) ⊎ (s ≡ status.Memory) → IsAnswered effects asked s source store sink
      of_words end h aside is told =
          if_some_all source.before (Told asked s source store sink)
          (λ all _ _. answer end h all
          (answers_told (outcome effects asked all h.found) end s told (is ∙ ap end_of (aside_whatever asked h.bytes all h.found aside))))

      -- all that was taken came to this end
      by_cause : (end : Result (Unit {0}) Ending) (h : HasEnded effects asked end source store sink) → IsAtEnd source.now → end ≡ end_of (outcome effects asked h.bytes h.found)
          → (s ≡ status_of_end end) ⊎ (s ≡ status.Memory) → IsAnswered effects asked s source store sink
      by_cause end h at_end is told =
          consumes_whole source.before source.now h.bytes (Told asked s source store sink) h.taken at_end
          (λ _ _. answer end h h.bytes (answers_told (outcome effects asked h.bytes h.found) end s told is))

      -- memory ran out
      by_memory : (end : Result (Unit {0}) Ending) → HasEnded effects asked end source store sink → s ≡ status.Memory → IsAnswered effects asked s source store sink
      by_memory end h is = if_some_all source.before (Told asked s source store sink) (λ all _ _. answer end h all (inr (inl is)))

      aside_end : is_reading asked ≡ false → (end : Result (Unit {0}) Ending) → HasEnded effects asked end source store sink → (s ≡ status_of_end end) ⊎ (s ≡ status.Memory)
          → IsAnswered effects asked s source store sink
      aside_end aside (Ok done) h told = of_words (Ok done) h aside h.caused.0 told
      aside_end aside (Err ending.Words) h told = of_words (Err ending.Words) h aside h.caused.0 told
      aside_end aside (Err ending.NotJson) h told = of_words (Err ending.NotJson) h aside h.caused.0 told
      aside_end aside (Err (ending.Rule number)) h told = of_words (Err (ending.Rule number)) h aside h.caused.0 told
      aside_end aside (Err (ending.ClipMissing name)) h told = of_words (Err (ending.ClipMissing name)) h aside h.caused.0 told
      aside_end aside (Err (ending.ClipRefused name why)) h told = of_words (Err (ending.ClipRefused name why)) h aside h.caused.0 told
      aside_end aside (Err (ending.Span from to count)) h told = of_words (Err (ending.Span from to count)) h aside h.caused.0 told
      aside_end aside (Err ending.ProjectTooLong) h told = of_words (Err ending.ProjectTooLong) h aside h.caused.0 told
      aside_end aside (Err ending.WriteFault) h (inl is) =
          if_some_all source.before (Told asked s source store sink)
          (λ all _ _. answer (Err ending.WriteFault) h all (inr (inr (sym (ap end_of (aside_whatever asked h.bytes all h.found aside)) ∙ h.caused.0, is))))
      aside_end aside (Err ending.WriteFault) h (inr is) = by_memory (Err ending.WriteFault) h is
      aside_end aside (Err ending.Memory) h (inl is) = by_memory (Err ending.Memory) h is
      aside_end aside (Err ending.Memory) h (inr is) = by_memory (Err ending.Memory) h is
      aside_end aside (Err ending.ReadFault) h told = none_of (is_reading asked) h.caused.0 aside
      aside_end aside (Err (ending.ClipFault name)) h told = none_of (is_reading asked) (asked_reads asked h.caused.0.settings h.caused.0.words h.caused.0.reads) aside

      read_end : is_reading asked ≡ true → (end : Result (Unit {0}) Ending) → HasEnded effects asked end source store sink → (s ≡ status_of_end end) ⊎ (s ≡ status.Memory)
          → IsAnswered effects asked s source store sink
      read_end reads (Ok done) h told = by_cause (Ok done) h (subst (λ b. Leaves b (Ok done) source) reads h.left) h.caused.0 told
      read_end reads (Err ending.Words) h told = absurd (never_words asked h.bytes h.found reads h.caused.0)
      read_end reads (Err ending.NotJson) h told = by_cause (Err ending.NotJson) h (subst (λ b. Leaves b (Err ending.NotJson) source) reads h.left) h.caused.0 told
      read_end reads (Err (ending.Rule number)) h told = by_cause (Err (ending.Rule number)) h (subst (λ b. Leaves b (Err (ending.Rule number)) source) reads h.left) h.caused.0 told
      read_end reads (Err (ending.ClipMissing name)) h told = by_cause (Err (ending.ClipMissing name)) h (subst (λ b. Leaves b (Err (ending.ClipMissing name)) source) reads h.left) h.caused.0 told
      read_end reads (Err (ending.ClipRefused name why)) h told = by_cause (Err (ending.ClipRefused name why)) h (subst (λ b. Leaves b (Err (ending.ClipRefused name why)) source) reads h.left) h.caused.0 told
      read_end reads (Err (ending.Span from to count)) h told = by_cause (Err (ending.Span from to count)) h (subst (λ b. Leaves b (Err (ending.Span from to count)) source) reads h.left) h.caused.0 told
      read_end reads (Err ending.ProjectTooLong) h told =
          let long = long_whatever asked h.bytes h.found reads h.caused.0 in
          if_some_map source.before (λ all. LONGEST_TEXT < length all) (Told asked s source store sink)
          (λ all more _ _. answer (Err ending.ProjectTooLong) h all
          (answers_told (outcome effects asked all h.found) (Err ending.ProjectTooLong) s told (long.1 all more)))
          (longer source.before source.now h.bytes LONGEST_TEXT h.taken long.0)
      read_end reads (Err ending.WriteFault) h (inl is) =
          consumes_whole source.before source.now h.bytes (Told asked s source store sink) h.taken (subst (λ b. Leaves b (Err ending.WriteFault) source) reads h.left)
          (λ _ _. answer (Err ending.WriteFault) h h.bytes (inr (inr (h.caused.0, is))))
      read_end reads (Err ending.WriteFault) h (inr is) = by_memory (Err ending.WriteFault) h is
      read_end reads (Err ending.Memory) h (inl is) = by_memory (Err ending.Memory) h is
      read_end reads (Err ending.Memory) h (inr is) = by_memory (Err ending.Memory) h is
      read_end reads (Err (ending.ClipFault name)) h told =
          if_some_all source.before (Told asked s source store sink) (λ all _ quiet. absurd (quiet_never_fails (calls_of store) quiet h.caused.2))
      read_end reads (Err ending.ReadFault) h told =
          if_some_all source.before (Told asked s source store sink) (λ all quiet _. absurd (quiet_never_fails source quiet h.caused.2))

      by_reading : (reads : Bool) → is_reading asked ≡ reads → IsAnswered effects asked s source store sink
      by_reading false aside = aside_end aside run.end run.ended run.noted.told
      by_reading true reads = read_end reads run.end run.ended run.noted.told
