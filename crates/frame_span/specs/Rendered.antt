-- What a span that is rendered says of its sink, of its workers' passes and of its cache.
use Rattle.std.specs.Prelude.{◌≡◌, ℕ, ◌+◌, ◌<◌, ◌≤◌, true, List, Result, Ok, Err}
use Rattle.std.specs.List.{AllByRecursion}
use Rattle.host_io.specs.Cause.{Rose}
use Rattle.host_io.specs.declared.cause.SinkError.{SinkError}
use Rattle.host_io.specs.declared.cause.SinkError.TheVariants as sink
use Rattle.project_model.specs.declared.plain.PlainProject.{PlainProject}
use Rattle.scene_meaning.specs.Output.{frame_count}
use Rattle.cache_core.specs.Core.{Core}
use Rattle.cache_core.specs.Rows.{is_idle}
use Rattle.cache_core.specs.Laws.{Leaves}
use Rattle.cache_core.specs.declared.entry.Entry.{Entry}
use Rattle.compute_cache.specs.State.{Plain}
use Rattle.compute_cache.specs.Passes.{CachePass}
use Rattle.compute_cache.specs.Suite.{Suite, IsOf, IsClearPass}
use Rattle.frame_span.specs.declared.error.RenderError.{RenderError}
use Rattle.frame_span.specs.declared.error.RenderError.TheVariants.{WriteFault, Memory}

-- the span lies in the root
pub record InRoot (p : PlainProject) (from to : ℕ) : Type 0 where
  pub order : from ≤ to
  pub end : to < frame_count p

-- why a span is not written where a piece of it is not
abbrev pub error_of : SinkError → RenderError
error_of sink.Failed = WriteFault
error_of sink.Memory = Memory

-- what a render makes of the sink's count: it rose where a write failed, and else it is as before
abbrev pub CountsFault : {T : Type 0} → Result T RenderError → ℕ → ℕ → Type 0
CountsFault (Ok closed) before now = now ≡ before
CountsFault (Err WriteFault) before now = Rose before now
CountsFault (Err Memory) before now = now ≡ before

pub record HasRenderCause {T : Type 0} (before now : ℕ) (result : Result T RenderError) : Type 0 where
  pub later : before ≤ now
  pub counted : CountsFault result before now

-- a legal history for this budget, which leaves no row that is computed or held
abbrev pub IsEnded : ℕ → List Entry → Type 0
IsEnded budget history = (core : Core) × Leaves budget history core × AllByRecursion (λ row. is_idle row.state ≡ true) core.rows

module _ {V K : Type 0} where
  -- a worker's pass: one of this cache, other than the opening one, that computes nothing and holds nothing
  pub record IsSeat (cache : Suite (Plain V K)) (pass : CachePass (Plain V K)) : Type 0 where
    pub own : IsOf cache pass
    pub clear : IsClearPass pass
    pub further : 0 < pass.number

  -- the opening pass of this cache, which computes nothing and holds nothing, while so many others are not joined
  pub record IsOpening (cache : Suite (Plain V K)) (others : ℕ) (pass : CachePass (Plain V K)) : Type 0 where
    pub own : IsOf cache pass
    pub clear : IsClearPass pass
    pub number : pass.number ≡ 0
    pub counts : pass.made ≡ pass.joined + 1 + others
