-- The numbers that a run is held to.
use Rattle.std.specs.Prelude.{◌≡◌}
use Rattle.frame_span.specs.declared.span.TheConstants as span
use Rattle.run_words.specs.declared.settings.TheConstants as settings
use Rattle.host_run.specs.declared.input.TheConstants.{LONGEST_TEXT}

-- the longest text of a project in bytes, and that words may ask for as many workers as draw a span
abbrev pub NumbersOfARun : Type 0
NumbersOfARun = (LONGEST_TEXT ≡ 67108864) × (settings.MOST_WORKERS ≡ span.MOST_WORKERS)
