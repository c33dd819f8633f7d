use Rattle.std.proofs.Common.{◌≡◌, ℕ, [], length}
use Rattle.std.specs.Prelude.{slice_get, unwrap_or}
use Rattle.report_mappings.proofs.seen.grow_seen.Given as goal

abbrev pub invariant-loop-buffer : goal.invariant-loop-buffer
invariant-loop-buffer l = record {
  len : length l.seen ≡ l._buffer;
  same : (c : ℕ) → unwrap_or (slice_get l.seen c) [] ≡ unwrap_or (slice_get l.fn.seen c) [];
}
