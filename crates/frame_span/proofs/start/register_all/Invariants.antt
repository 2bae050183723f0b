use Rattle.std.proofs.Common.{◌≡◌, ◌++◌}
use Rattle.std.specs.Prelude.{map, string_bytes, take}
use Rattle.frame_span.proofs.start.register_all.Given as goal

-- the names so far are registered
abbrev pub invariant-loop-place : goal.invariant-loop-place
invariant-loop-place l = record { so_far : l.classes ≡ l.fn.classes ++ take l.place (map string_bytes l.names) }
