-- The state after entries that give a buffer targets, frames and slots, and that carry it between SYSTEM and TT.
use Rattle.std.specs.Prelude.{ℕ, false, List, [], ◌∷◌, ◌++◌, Option, Some, None, map, fold, slice_set, if◌then◌else◌}
use Rattle.journal_model.specs.Types.{BufId, Buffer, Course, JobId, Loc, Mem, Script, Span, State, Usage}
use Rattle.ttm_base.specs.declared.Mem.TheVariants.{System, Tt}
use Rattle.ttm_base.specs.declared.Usage.TheVariants as usage
use Rattle.ttm_base.specs.declared.Loc.TheVariants as loc
use Rattle.journal_model.specs.rules.State.{changed, course, with_course, with_buffers, with_target, target_spans}
use Rattle.journal_model.specs.rules.Waits.{jobs_before_target}
use Rattle.journal_model.specs.rules.Lists.{touched}
use Rattle.journal_model.specs.rules.Search.{is_caught}

-- the buffers after one was changed; nothing else of the core changes
abbrev pub with_changed : (Buffer → Buffer) → BufId → State → State
with_changed f b s = record s { core = with_buffers (changed f s.core.buffers b) s.core }

-- one more fence
abbrev pub with_fence : JobId → Usage → Buffer → Buffer
with_fence job how x = record x { fences = x.fences ++ record { job = job; usage = how } ∷ [] }

-- ---- targets

-- another target, or none, in a memory type
abbrev pub with_spans : Mem → Option (List Span) → Buffer → Buffer
with_spans mem spans x = record x { targets = with_target mem spans x.targets }

-- the jobs as fences that everyone waits for
abbrev pub with_kernel_fences : List JobId → Buffer → Buffer
with_kernel_fences jobs x = fold (λ y job. with_fence job usage.Kernel y) x jobs

-- a named buffer's search starts again
abbrev pub search_over : BufId → Course → Course
search_over b c = if is_caught c b then c else record c { forced = false; dry = 0 }

-- a target in VRAM brings the move job as a fence
abbrev pub after_take : State → ℕ → BufId → Mem → List Span → State
after_take s t b mem spans =
    record s {
      core = with_buffers (changed (λ x. with_kernel_fences (jobs_before_target s.core mem) (with_spans mem (Some spans) x)) s.core.buffers b) s.core;
      courses = with_course s.courses t (search_over b (course s t));
    }

-- the target is gone
abbrev pub after_untake : State → BufId → Mem → State
after_untake s b mem = with_changed (with_spans mem None) b s

-- ---- frames and slots

-- another place in the page table
abbrev pub with_loc : ℕ → Loc → Buffer → Buffer
with_loc page l x = record x { table = slice_set x.table page l }

-- the page has a frame
abbrev pub after_populate : State → BufId → ℕ → ℕ → State
after_populate s b page frame = with_changed (with_loc page (loc.Frame frame)) b s

-- the page has a frame in the place of its slot
abbrev pub after_swap_in : State → BufId → ℕ → ℕ → State
after_swap_in s b page frame = with_changed (with_loc page (loc.Frame frame)) b s

-- the page has a slot in the place of its frame
abbrev pub after_swap_out : State → BufId → ℕ → ℕ → State
after_swap_out s b page slot = with_changed (with_loc page (loc.Slot slot)) b s

-- a frame is given back
abbrev pub without_frame : Loc → Loc
without_frame (loc.Frame f) = loc.Zero
without_frame (loc.Slot k) = loc.Slot k
without_frame loc.Zero = loc.Zero

-- all frames are given back
abbrev pub without_frames : Buffer → Buffer
without_frames x = record x { table = map without_frame x.table }

-- the buffer has no frame
abbrev pub after_depopulate : State → BufId → State
after_depopulate s b = with_changed without_frames b s

-- ---- between SYSTEM and TT

-- the state after a buffer was changed and placed on its new list
abbrev pub relisted : Script → State → BufId → (Buffer → Buffer) → State
relisted script s b f =
    record (with_changed f b s) { lists = touched script (changed f s.core.buffers b) s.reservations s.lists b }

-- in TT, with the spans of its target
abbrev pub bound : Buffer → Buffer
bound x = record x { mem = Tt; spans = target_spans Tt x; targets = with_target Tt None x.targets }

-- the buffer goes from SYSTEM to TT
abbrev pub after_bind : Script → State → BufId → State
after_bind script s b = relisted script s b bound

-- in SYSTEM, with no spans
abbrev pub unbound : Buffer → Buffer
unbound x = record x { mem = System; spans = []; targets = with_target System None x.targets }

-- the buffer goes from TT to SYSTEM
abbrev pub after_unbind : Script → State → BufId → State
after_unbind script s b = relisted script s b unbound
