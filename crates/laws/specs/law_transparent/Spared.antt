-- The aperture pages that an entry takes away or gives, against the packets that are left (a driver's unbind, after ttm_bo_wait_ctx).
use Rattle.std.specs.Prelude.{◌≡◌, ℕ, ◌++◌, false, true, Some, slice_get}
use Rattle.ttm_base.specs.declared.Packet.{Packet}
use Rattle.ttm_base.specs.Packets.{packet_names}
use Rattle.journal_model.specs.declared.entry.Kind.{Kind}
use Rattle.journal_model.specs.declared.state.Core.{Core}
use Rattle.journal_model.specs.declared.state.Job.{Job}
use Rattle.journal_model.specs.rules.Holds.{has_number}
use Rattle.journal_model.specs.statements.Spares.{remaining, pages_taken, pages_given}

-- no packet that hasn't run names a page that the entry takes away or gives
abbrev pub SparesPackets : Core → Kind → Type 0
SparesPackets c k =
    (page i n : ℕ) (j : Job) (p : Packet) → has_number (pages_taken c k ++ pages_given c k) page ≡ true →
    slice_get c.jobs i ≡ Some j → slice_get (remaining j) n ≡ Some p → packet_names page p ≡ false
