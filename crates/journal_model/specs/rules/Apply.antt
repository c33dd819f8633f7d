-- The state after an entry. All that the row of its kind doesn't name stays as it was.
use Rattle.std.specs.Prelude.{ℕ}
use Rattle.journal_model.specs.Types.{Actor, Entry, Kind, Script, State}
use Rattle.ttm_base.specs.declared.Actor.TheVariants as actor
use Rattle.journal_model.specs.declared.entry.Kind.TheVariants as kind
use Rattle.journal_model.specs.rules.ApplyCommands.{after_ticket, after_reserve, after_backoff, after_new, after_free, after_bulk, after_result, after_refusal}
use Rattle.journal_model.specs.rules.ApplyPages.{after_take, after_untake, after_populate, after_swap_in, after_swap_out, after_depopulate, after_bind, after_unbind}
use Rattle.journal_model.specs.rules.ApplyMoves.{after_move}
use Rattle.journal_model.specs.rules.ApplyVictims.{after_catch, after_loose, after_skip, after_dry, after_no_pages}
use Rattle.journal_model.specs.rules.ApplyJobs.{after_arm, after_packet_run, after_done, after_reap}

-- the thread of an actor, or 0
abbrev pub thread_of : Actor → ℕ
thread_of (actor.Thread t) = t
thread_of (actor.Engine e) = 0
thread_of actor.Reaper = 0

-- the context of an actor, or 0
abbrev pub engine_of : Actor → ℕ
engine_of (actor.Engine e) = e
engine_of (actor.Thread t) = 0
engine_of actor.Reaper = 0

-- one row for each kind
abbrev pub applied : Script → State → Actor → Kind → State
applied script s who (kind.Ticket stamp) = after_ticket s (thread_of who) stamp
applied script s who (kind.Reserve b) = after_reserve s (thread_of who) b
applied script s who (kind.Backoff b stamp) = after_backoff s (thread_of who) b
applied script s who (kind.New b) = after_new script s (thread_of who) b
applied script s who (kind.Free b g) = after_free s (thread_of who) b g
applied script s who (kind.Take b mem spans) = after_take s (thread_of who) b mem spans
applied script s who (kind.Untake b mem) = after_untake s b mem
applied script s who (kind.Populate b page frame) = after_populate s b page frame
applied script s who (kind.SwapIn b page slot frame) = after_swap_in s b page frame
applied script s who (kind.Depopulate b) = after_depopulate s b
applied script s who (kind.Bind b) = after_bind script s b
applied script s who (kind.Unbind b) = after_unbind script s b
applied script s who (kind.Move b mem n l) = after_move script s b mem n l
applied script s who (kind.Catch b w) = after_catch s (thread_of who) b w
applied script s who (kind.Loose b) = after_loose script s (thread_of who) b
applied script s who (kind.Skip b) = after_skip s (thread_of who) b
applied script s who (kind.Dry b k w) = after_dry script s (thread_of who) b k
applied script s who (kind.SwapOut b page slot) = after_swap_out s b page slot
applied script s who (kind.NoPages b) = after_no_pages s (thread_of who) b
applied script s who (kind.Arm engine n) = after_arm script s (thread_of who) engine n
applied script s who (kind.Packet n k piece) = after_packet_run s (record { ctx = engine_of who; num = n })
applied script s who (kind.Done n) = after_done s (record { ctx = engine_of who; num = n })
applied script s who (kind.Reap g) = after_reap s g
applied script s who (kind.Bulk group) = after_bulk script s (thread_of who) group
applied script s who (kind.Result r) = after_result script s (thread_of who)
applied script s who (kind.Refused d) = after_refusal s (thread_of who)

-- after an entry
abbrev pub apply : Script → State → Entry → State
apply script s e = applied script s e.who e.kind
