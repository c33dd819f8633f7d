-- How the parts of a memory manager tell the state and the bytes that its journal leads to.
use Rattle.std.specs.Prelude.{◌≡◌}
use Rattle.ttm_base.specs.Pages.{PageBytes}
use Rattle.journal_model.specs.declared.script.Script.{Script}
use Rattle.journal_model.specs.declared.state.State.{State}
use Rattle.journal_model.specs.rules.Holds.{held_frames, held_slots}
use Rattle.journal_model.specs.rules.Places.{aperture}
use Rattle.room_representation.specs.lemma_lists.Listed.{AreListed}
use Rattle.room_representation.specs.declared.parts.Parts.{Parts}
use Rattle.room_representation.specs.Bos.{AreBos}
use Rattle.room_representation.specs.Lines.{IsTimeline}
use Rattle.room_representation.specs.RingJobs.{AreRings}
use Rattle.room_representation.specs.Ghosts.{AreGhosts}
use Rattle.room_representation.specs.Managers.{IsVram, IsTt}
use Rattle.room_representation.specs.Pages.{ArePooled, AreSlots, AreStores, HasNoMore}

-- one relation for each part; each takes what it needs of the state
pub record Represents (script : Script) (s : State) (bytes : PageBytes) (p : Parts) : Type 0 where
  pub bos : AreBos script s.core.buffers s.reservations s.last_jobs p.bos
  pub timeline : IsTimeline s.core.jobs s.last_jobs p.timeline
  pub rings : AreRings s.core.jobs s.last_jobs p.rings
  pub ghosts : AreGhosts s.core.jobs s.last_jobs s.core.ghosts p.ghosts
  pub vram : IsVram script.sizes s.last_jobs s.core.buffers s.core.ghosts s.core.move_fence p.vram
  pub tt : IsTt script.sizes s.core.buffers s.core.ghosts p.tt
  pub pool : ArePooled script.sizes.frames (held_frames s.core) p.pool
  pub swap : AreSlots script.sizes.swap (held_slots s.core) bytes p.swap
  pub stores : AreStores script.sizes (aperture s.core) bytes p.stores
  pub lists : AreListed script s.core.buffers s.reservations s.lists p.lru
  pub courses : p.courses ≡ s.courses
  pub stamp : p.tickets ≡ s.last_stamp
  pub ghost : p.last_ghost ≡ s.last_ghost
  pub no_more : HasNoMore script.sizes bytes
