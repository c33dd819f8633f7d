use Rattle.std.proofs.Common.{◌≡◌, length}
use Rattle.ttm_base.specs.declared.BufId.{BufId}
use Rattle.map_access.specs.Passing.{start_of}
use Rattle.map_access.proofs.standing.grow.Given as goal

abbrev pub invariant-loop-buffer : goal.invariant-loop-buffer
invariant-loop-buffer l = record {
  len : length l.starts ≡ l._buffer;
  same : (c : BufId) → start_of l.starts c ≡ start_of l.fn.starts c;
}
