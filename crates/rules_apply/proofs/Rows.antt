-- The lists after a row, in the words of the code.
use Rattle.std.proofs.Common.{◌≡◌, refl}
use Rattle.std.specs.Prelude.{slice_set}
use Rattle.ttm_base.specs.declared.Mem.{Mem}
use Rattle.ttm_base.specs.declared.JobId.{JobId}
use Rattle.journal_model.specs.declared.entry.Left.{Left}
use Rattle.journal_model.specs.rules.ApplyMoves.{after_move_job, core_after_move, last_ghost_left, moved}
use Rattle.ttm_base.specs.declared.Mem.TheVariants.{System, Tt}
use Rattle.ttm_base.specs.declared.BufId.{BufId}
use Rattle.journal_model.specs.declared.script.Script.{Script}
use Rattle.journal_model.specs.declared.state.State.{State}
use Rattle.journal_model.specs.rules.State.{changed, with_buffers}
use Rattle.journal_model.specs.rules.ApplyPages.{after_bind, after_unbind, bound, unbound}
use Rattle.rules_state.specs.parts.Listing.{relisted}
use Rattle.rules_state.proofs.parts.ListingLaws.{touched-moved}

-- a buffer that went to TT
pub after_bind_is : (script : Script) (s : State) (b : BufId) → after_bind script s b ≡ record s { core = with_buffers (changed bound s.core.buffers b) s.core; lists = relisted script s.core.buffers s.reservations s.lists b Tt }
after_bind_is script s b = rw (touched-moved bound Tt (λ x. refl) script s.core.buffers s.reservations s.lists b)

-- a buffer that went to SYSTEM
pub after_unbind_is : (script : Script) (s : State) (b : BufId) → after_unbind script s b ≡ record s { core = with_buffers (changed unbound s.core.buffers b) s.core; lists = relisted script s.core.buffers s.reservations s.lists b System }
after_unbind_is script s b = rw (touched-moved unbound System (λ x. refl) script s.core.buffers s.reservations s.lists b)

-- a buffer that was moved
pub after_move_job_is : (script : Script) (s : State) (b : BufId) (mem : Mem) (job : JobId) (l : Left) → after_move_job script s b mem job l ≡ record s { core = core_after_move s.core b mem job l; lists = relisted script s.core.buffers s.reservations s.lists b mem; last_ghost = last_ghost_left l s.last_ghost; last_jobs = slice_set s.last_jobs job.ctx job.num }
after_move_job_is script s b mem job l = rw (touched-moved (moved mem job) mem (λ x. refl) script s.core.buffers s.reservations s.lists b)
