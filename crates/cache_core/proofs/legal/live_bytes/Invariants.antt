use Rattle.std.proofs.Common.{◌≡◌, ◌*◌, ◌≤◌, ◌^◌, take}
use Rattle.cache_core.specs.Rows.{live_bytes}
use Rattle.cache_core.proofs.legal.live_bytes.Given as goal

-- the sum so far, which is less than 2^32 a row
abbrev pub invariant-loop-row : goal.invariant-loop-row
invariant-loop-row l = record {
  so_far : l.bytes ≡ live_bytes (take l.row-index l.rows);
  small : l.bytes ≤ l.row-index * 2 ^ 32;
}
