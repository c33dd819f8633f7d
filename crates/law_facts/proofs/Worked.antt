-- Worked journals, by computation, in whose states the premises of the laws hold: two buffers of two pages want the two pages of VRAM, or two
-- jobs use one buffer, and no packet runs.
use Rattle.std.proofs.Common.{◌≡◌, ℕ, Bool, true, false, List, [], ◌∷◌, refl, Some, map}
use Rattle.std.specs.Prelude.{not, is_none, ◌&&◌}
use Rattle.std.specs.List.{list_any}
use Rattle.ttm_base.specs.declared.Mem.TheVariants.{System, Vram}
use Rattle.ttm_base.specs.declared.Actor.TheVariants as actor
use Rattle.ttm_base.specs.declared.Usage.TheVariants as usage
use Rattle.ttm_base.specs.declared.Op.TheVariants as op
use Rattle.ttm_base.specs.Pages.{Page, vram, frame}
use Rattle.ttm_base.specs.Packets.{packet_names}
use Rattle.journal_model.specs.declared.script.Script.{Script}
use Rattle.journal_model.specs.declared.script.Command.TheVariants as command
use Rattle.journal_model.specs.declared.state.Core.{Core}
use Rattle.journal_model.specs.rules.State.{buffer_in, target_spans}
use Rattle.journal_model.specs.rules.Commands.{whole}
use Rattle.journal_model.specs.rules.Places.{place_of, aperture}
use Rattle.journal_model.specs.rules.Holds.{is_free_page}
use Rattle.journal_model.specs.rules.Waits.{waited_for}
use Rattle.journal_model.specs.statements.Scheduled.{run_of, run_along}
use Rattle.law_facts.specs.Facts.{touches, writes_to, conflict, is_job_of, kernel_jobs}
use Rattle.journal_model.proofs.Rows.{sizes, buf, buf_id, span, script_of, alone}

-- with `tt` pages of TT
abbrev script_with : ℕ → Script
script_with tt =
    script_of (sizes false 2 tt 8 0 0) (buf 2 (whole Vram) ∷ buf 2 (whole Vram) ∷ [])
    ((command.New (buf_id 0) ∷ command.Find (buf_id 0) ∷ command.New (buf_id 1) ∷ command.Find (buf_id 1) ∷ []) ∷ [])

abbrev evict_script : Script
evict_script = script_with 4

-- the state after `n` entries
abbrev after_of : Script → ℕ → Core
after_of script n = (alone script (run_of script 0) 1 n).world.state.core

abbrev after : ℕ → Core
after n = after_of evict_script n

-- which jobs touch a page, and which write it
abbrev jobs_touch : Core → Page → List Bool
jobs_touch c page = map (λ j. not j.finished && touches c page j) c.jobs

abbrev jobs_write : Core → Page → List Bool
jobs_write c page = map (λ j. writes_to c page j) c.jobs

abbrev touching : ℕ → Page → List Bool
touching n page = jobs_touch (after n) page

abbrev writing : ℕ → Page → List Bool
writing n page = jobs_write (after n) page

-- each job with each: whether they are in conflict
abbrev conflicts : Core → Page → List (List Bool)
conflicts c page = map (λ i. map (λ j. conflict c page i j) c.jobs) c.jobs

-- ---- after the move of the first buffer into VRAM

-- its job writes the buffer's place
place_is_touched : touching 10 (place_of (after 10) (buf_id 0) 0) ≡ true ∷ []
place_is_touched = refl

place_is_written : writing 10 (place_of (after 10) (buf_id 0) 0) ≡ true ∷ []
place_is_written = refl

-- and touches a frame of the ghost that the move left
ghost_is_touched : touching 10 (frame 0) ≡ true ∷ []
ghost_is_touched = refl

ghost_has_frames : map (λ g. g.frames) (after 10).ghosts ≡ (0 ∷ 1 ∷ []) ∷ []
ghost_has_frames = refl

-- which it names by a page of the aperture
aperture_is_named : map (λ j. list_any (packet_names 0) j.packets) (after 10).jobs ≡ true ∷ []
aperture_is_named = refl

aperture_is_mapped : aperture (after 10) 0 ≡ Some 0
aperture_is_mapped = refl

-- ---- after its eviction

-- two jobs touch a free page of VRAM, of which one writes it and the other waits for that one
free_page : is_free_page Vram (after 20) 0 ≡ true
free_page = refl

free_page_is_touched : touching 20 (vram 0) ≡ true ∷ true ∷ []
free_page_is_touched = refl

free_page_is_written : writing 20 (vram 0) ≡ true ∷ false ∷ []
free_page_is_written = refl

free_page_conflict : conflicts (after 20) (vram 0) ≡ (true ∷ true ∷ []) ∷ (true ∷ false ∷ []) ∷ []
free_page_conflict = refl

second_waits : map (λ j. j.waits) (after 20).jobs ≡ [] ∷ (record { ctx = 0; num = 1 } ∷ []) ∷ []
second_waits = refl

-- once both have run the later is done, and so is the earlier
both_done : map (λ j. j.finished) (run_along evict_script (alone evict_script (run_of evict_script 0) 1 20) (actor.Engine 0 ∷ actor.Engine 0 ∷ actor.Engine 0 ∷ actor.Engine 0 ∷ actor.Engine 0 ∷ actor.Engine 0 ∷ [])).world.state.core.jobs ≡ true ∷ true ∷ []
both_done = refl

-- ---- after the take of the second buffer

target_is_taken : target_spans Vram (buffer_in (after 22) (buf_id 1)) ≡ span 0 2
target_is_taken = refl

target_is_touched : touching 22 (vram 0) ≡ true ∷ true ∷ []
target_is_touched = refl

-- neither is a job of the second buffer but by that take, which brought the move job as KERNEL
target_is_fenced : (buffer_in (after 22) (buf_id 1)).fences ≡ record { job = record { ctx = 0; num = 2 }; usage = usage.Kernel } ∷ []
target_is_fenced = refl

-- ---- after the move of the second buffer to these pages, where TT has room for all

abbrev late : Core
late = after_of (script_with 8) 27

late_place : place_of late (buf_id 1) 0 ≡ vram 0
late_place = refl

-- three jobs touch its place, of which the first isn't a job of the buffer
late_is_touched : jobs_touch late (place_of late (buf_id 1) 0) ≡ true ∷ true ∷ true ∷ []
late_is_touched = refl

late_is_written : jobs_write late (place_of late (buf_id 1) 0) ≡ true ∷ false ∷ true ∷ []
late_is_written = refl

late_jobs : map (λ j. is_job_of (buffer_in late (buf_id 1)) true j) late.jobs ≡ false ∷ true ∷ true ∷ []
late_jobs = refl

late_kernel_jobs : kernel_jobs (buffer_in late (buf_id 1)) ≡ record { ctx = 0; num = 2 } ∷ record { ctx = 0; num = 3 } ∷ []
late_kernel_jobs = refl

-- the third is in conflict with the first, and waits for the second alone, which waits for the first
late_conflicts : conflicts late (vram 0) ≡ (true ∷ true ∷ true ∷ []) ∷ (true ∷ false ∷ true ∷ []) ∷ (true ∷ true ∷ true ∷ []) ∷ []
late_conflicts = refl

late_waits : map (λ j. j.waits) late.jobs ≡ [] ∷ (record { ctx = 0; num = 1 } ∷ []) ∷ (record { ctx = 0; num = 2 } ∷ []) ∷ []
late_waits = refl

-- ---- after two jobs of one engine, of which the first writes the buffer and the second reads it

abbrev use_script : Script
use_script =
    script_of (sizes false 0 0 2 0 1) (buf 1 (whole System) ∷ [])
    ((command.New (buf_id 0) ∷ command.Submit 1 (op.Fill (buf_id 0) 0 16 122 ∷ []) ∷ command.Submit 1 (op.Probe (buf_id 0) 0 16 ∷ []) ∷ []) ∷ [])

abbrev used : Core
used = after_of use_script 10

used_is_touched : jobs_touch used (place_of used (buf_id 0) 0) ≡ true ∷ true ∷ []
used_is_touched = refl

used_is_written : jobs_write used (place_of used (buf_id 0) 0) ≡ true ∷ false ∷ []
used_is_written = refl

-- both are jobs of the buffer, and neither is a KERNEL one
used_jobs : map (λ j. is_job_of (buffer_in used (buf_id 0)) (writes_to used (place_of used (buf_id 0) 0) j) j) used.jobs ≡ true ∷ true ∷ []
used_jobs = refl

used_kernel_jobs : kernel_jobs (buffer_in used (buf_id 0)) ≡ []
used_kernel_jobs = refl

-- the second doesn't only come after the first in their context, but waits for it
used_conflicts : conflicts used (frame 0) ≡ (true ∷ true ∷ []) ∷ (true ∷ false ∷ []) ∷ []
used_conflicts = refl

used_waits : map (λ j. j.waits) used.jobs ≡ [] ∷ (record { ctx = 1; num = 1 } ∷ []) ∷ []
used_waits = refl

-- ---- after jobs of two engines on two buffers: neither waits, so the second may run first

abbrev apart_script : Script
apart_script =
    script_of (sizes false 0 0 2 0 2) (buf 1 (whole System) ∷ buf 1 (whole System) ∷ [])
    ((command.New (buf_id 0) ∷ command.New (buf_id 1) ∷ command.Submit 1 (op.Fill (buf_id 0) 0 16 122 ∷ []) ∷ command.Submit 2 (op.Fill (buf_id 1) 0 16 122 ∷ []) ∷ []) ∷ [])

abbrev apart : Core
apart = after_of apart_script 13

apart_waits : map (λ j. is_none (waited_for apart j.waits)) apart.jobs ≡ true ∷ true ∷ []
apart_waits = refl

apart_is_touched : jobs_touch apart (frame 0) ≡ true ∷ false ∷ []
apart_is_touched = refl

apart_too : jobs_touch apart (frame 1) ≡ false ∷ true ∷ []
apart_too = refl

apart_conflicts : conflicts apart (frame 0) ≡ (true ∷ false ∷ []) ∷ (false ∷ false ∷ []) ∷ []
apart_conflicts = refl
