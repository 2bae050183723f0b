use Rattle.std.proofs.Common.{◌≡◌, ◌+◌, All, vec_len, vec_capacity}
use Rattle.frame_span.specs.Rendered.{IsOpening, IsSeat}
use Rattle.frame_span.proofs.passes.split_all.Given as goal

-- so many are out, and there is room for the rest
abbrev pub invariant-passes : goal.invariant-passes
invariant-passes g l = record {
  opening : IsOpening l.cache (vec_len l.passes) l.opening;
  seats : All (IsSeat l.cache) l.passes.items;
  count : vec_len l.passes ≡ l._done;
  made : l.opening.made ≡ l.fn.opening.made + l._done;
  room : vec_capacity l.passes ≡ vec_capacity l.fn.passes;
}
