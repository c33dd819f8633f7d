use Rattle.std.proofs.Common.{◌≡◌, length, min, take}
use Rattle.std.specs.Prelude.{flat_map, sum_by}
use Rattle.journal_model.specs.statements.Scheduled.{packets_in}
use Rattle.sim_drive.proofs.limit.turn_limit.Given as goal

abbrev pub invariant-loop-line : goal.invariant-loop-line
invariant-loop-line l = l.scheduled ≡ min (length (flat_map (λ x. x) (take l.line-index l.script.turns))) 18446744073709551615

abbrev pub invariant-loop-thread : goal.invariant-loop-thread
invariant-loop-thread l =
    (l.commands ≡ min (sum_by length (take l.thread-index l.script.threads)) 18446744073709551615)
    × (l.packets ≡ min (sum_by (sum_by packets_in) (take l.thread-index l.script.threads)) 18446744073709551615)

abbrev pub invariant-loop-buffer : goal.invariant-loop-buffer
invariant-loop-buffer l = l.pages ≡ min (sum_by (λ d. d.pages) (take l.buffer-index l.script.buffers)) 18446744073709551615
