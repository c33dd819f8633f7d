-- Entries that keep page tables and ghosts keep what is free.
use Rattle.std.proofs.Common.{false, Bool, ◌≡◌, ℕ, zero, suc, true, List, [], ◌∷◌, ◌++◌, Option, Some, None, refl, sym, ◌∙◌, ap, subst}
use Rattle.std.specs.Prelude.{filter_map, flat_map, fold, map, slice_get, slice_set, option_and_then, option_map}
use Rattle.ttm_base.specs.declared.Actor.{Actor}
use Rattle.ttm_base.specs.declared.BufId.{BufId}
use Rattle.ttm_base.specs.declared.JobId.{JobId}
use Rattle.ttm_base.specs.declared.Loc.{Loc}
use Rattle.ttm_base.specs.declared.Mem.{Mem}
use Rattle.ttm_base.specs.declared.Mem.TheVariants.{System, Tt, Vram}
use Rattle.ttm_base.specs.declared.Op.{Op}
use Rattle.ttm_base.specs.declared.Usage.TheVariants as usage
use Rattle.journal_model.specs.declared.script.Script.{Script}
use Rattle.journal_model.specs.declared.entry.Kind.{Kind}
use Rattle.journal_model.specs.declared.entry.Left.{Left}
use Rattle.journal_model.specs.declared.entry.Kind.TheVariants as kind
use Rattle.journal_model.specs.declared.state.Core.{Core}
use Rattle.journal_model.specs.declared.state.State.{State}
use Rattle.journal_model.specs.declared.state.Buffer.{Buffer}
use Rattle.journal_model.specs.rules.State.{changed}
use Rattle.journal_model.specs.rules.Places.{frame_of, slot_of}
use Rattle.journal_model.specs.rules.Holds.{held_frames, held_slots, ghost_frames, live_buffers}
use Rattle.journal_model.specs.rules.Commands.{command_at_work}
use Rattle.journal_model.specs.rules.Waits.{jobs_before_target}
use Rattle.journal_model.specs.rules.Apply.{applied, thread_of}
use Rattle.journal_model.specs.rules.ApplyCommands.{named_in}
use Rattle.journal_model.specs.rules.ApplyPages.{with_spans, with_kernel_fences, with_fence, bound, unbound}
use Rattle.journal_model.specs.rules.ApplyVictims.{leaves_tt}
use Rattle.journal_model.specs.rules.ApplyJobs.{with_use, ops_of}
use Rattle.rules_holds.specs.declared.free_sets.FreeSets.{FreeSets}
use Rattle.rules_holds.specs.Held.{frames_of_slot, slots_of_slot}
use Rattle.rules_holds.specs.Free.{AreUnheld, AreFree}
use Rattle.rules_holds.proofs.HeldLaws.{live_frames_of, held_slots_of}

-- no page table changes, no buffer comes or goes, and no ghost
abbrev pub keeps_tables : Kind → Bool
keeps_tables (kind.New b) = false
keeps_tables (kind.Free b g) = false
keeps_tables (kind.Populate b page frame) = false
keeps_tables (kind.SwapIn b page slot frame) = false
keeps_tables (kind.SwapOut b page slot) = false
keeps_tables (kind.Depopulate b) = false
keeps_tables (kind.Move b mem n l) = false
keeps_tables (kind.Reap g) = false
keeps_tables _ = true

-- so does each kind that is none of these
pub keeps_else : (k : Kind)
    → ((b : BufId) → k ≡ kind.New b → ⊥)
    → ((b : BufId) (g : ℕ) → k ≡ kind.Free b g → ⊥)
    → ((b : BufId) (page frame : ℕ) → k ≡ kind.Populate b page frame → ⊥)
    → ((b : BufId) (page slot frame : ℕ) → k ≡ kind.SwapIn b page slot frame → ⊥)
    → ((b : BufId) → k ≡ kind.Depopulate b → ⊥)
    → ((b : BufId) (mem : Mem) (n : ℕ) (l : Left) → k ≡ kind.Move b mem n l → ⊥)
    → ((b : BufId) (page slot : ℕ) → k ≡ kind.SwapOut b page slot → ⊥)
    → ((g : ℕ) → k ≡ kind.Reap g → ⊥) → keeps_tables k ≡ true
keeps_else (kind.New b) new free populate swap_in depopulate move swap_out reap = absurd (new b refl)
keeps_else (kind.Free b g) new free populate swap_in depopulate move swap_out reap = absurd (free b g refl)
keeps_else (kind.Populate b page frame) new free populate swap_in depopulate move swap_out reap = absurd (populate b page frame refl)
keeps_else (kind.SwapIn b page slot frame) new free populate swap_in depopulate move swap_out reap = absurd (swap_in b page slot frame refl)
keeps_else (kind.Depopulate b) new free populate swap_in depopulate move swap_out reap = absurd (depopulate b refl)
keeps_else (kind.Move b mem n l) new free populate swap_in depopulate move swap_out reap = absurd (move b mem n l refl)
keeps_else (kind.SwapOut b page slot) new free populate swap_in depopulate move swap_out reap = absurd (swap_out b page slot refl)
keeps_else (kind.Reap g) new free populate swap_in depopulate move swap_out reap = absurd (reap g refl)
keeps_else k new free populate swap_in depopulate move swap_out reap = refl

-- the page tables of declared buffers
abbrev pub tables : List (Option Buffer) → List (Option (List Loc))
tables buffers = map (option_map (λ x. x.table)) buffers

-- the page tables and the ghosts are the same
pub record SameTables (c d : Core) : Type 0 where
  pub tables_are : tables d.buffers ≡ tables c.buffers
  pub ghosts_are : d.ghosts ≡ c.ghosts

-- ---- one buffer changed

set_tables : (f : Buffer → Buffer) → ((x : Buffer) → (f x).table ≡ x.table) → (buffers : List (Option Buffer)) (i : ℕ) →
    tables (slice_set buffers i (option_map f (option_and_then (λ x. x) (slice_get buffers i)))) ≡ tables buffers
set_tables f h [] i = refl
set_tables f h (None ∷ buffers) zero = refl
set_tables f h (Some x ∷ buffers) zero = ap (λ t. Some t ∷ tables buffers) (h x)
set_tables f h (slot ∷ buffers) (suc i) = ap (λ ts. option_map (λ x. x.table) slot ∷ ts) (set_tables f h buffers i)

changed_tables : (f : Buffer → Buffer) → ((x : Buffer) → (f x).table ≡ x.table) → (buffers : List (Option Buffer)) (b : BufId) → tables (changed f buffers b) ≡ tables buffers
changed_tables f h buffers b = set_tables f h buffers b.0

fences_keep : (jobs : List JobId) (x : Buffer) → (with_kernel_fences jobs x).table ≡ x.table
fences_keep [] x = refl
fences_keep (j ∷ jobs) x = fences_keep jobs (with_fence j usage.Kernel x)

leaves_keeps : (mem : Mem) (x : Buffer) → (leaves_tt mem x).table ≡ x.table
leaves_keeps Tt x = refl
leaves_keeps Vram x = refl
leaves_keeps System x = refl

uses_keep : (job : JobId) (ops : List Op) (buffers : List (Option Buffer)) (bs : List BufId) → tables (fold (with_use job ops) buffers bs) ≡ tables buffers
uses_keep job ops buffers [] = refl
uses_keep job ops buffers (b ∷ bs) = uses_keep job ops (with_use job ops buffers b) bs ∙ changed_tables _ (λ x. refl) buffers b

-- ---- one row for each kind that changes the buffers otherwise

tables_keep : (script : Script) (s : State) (who : Actor) (k : Kind) → keeps_tables k ≡ true → SameTables s.core (applied script s who k).core
tables_keep script s who (kind.New b) h = cc
tables_keep script s who (kind.Free b g) h = cc
tables_keep script s who (kind.Populate b page frame) h = cc
tables_keep script s who (kind.SwapIn b page slot frame) h = cc
tables_keep script s who (kind.SwapOut b page slot) h = cc
tables_keep script s who (kind.Depopulate b) h = cc
tables_keep script s who (kind.Move b mem n l) h = cc
tables_keep script s who (kind.Reap g) h = cc
tables_keep script s who (kind.Take b mem spans) h = record {
  tables_are = changed_tables _ (λ x. fences_keep (jobs_before_target s.core mem) (with_spans mem (Some spans) x)) s.core.buffers b;
  ghosts_are = refl;
}
tables_keep script s who (kind.Untake b mem) h = record { tables_are = changed_tables (with_spans mem None) (λ x. refl) s.core.buffers b; ghosts_are = refl }
tables_keep script s who (kind.Bind b) h = record { tables_are = changed_tables bound (λ x. refl) s.core.buffers b; ghosts_are = refl }
tables_keep script s who (kind.Unbind b) h = record { tables_are = changed_tables unbound (λ x. refl) s.core.buffers b; ghosts_are = refl }
tables_keep script s who (kind.Catch b w) h = record { tables_are = changed_tables _ (λ x. leaves_keeps x.mem x) s.core.buffers b; ghosts_are = refl }
tables_keep script s who (kind.Arm engine n) h = record {
  tables_are =
      uses_keep (record { ctx = engine; num = n }) (ops_of (command_at_work script s (thread_of who))) s.core.buffers (named_in (command_at_work script s (thread_of who)));
  ghosts_are = refl;
}
tables_keep script s who k h = record { tables_are = refl; ghosts_are = refl }

-- ---- what is held

-- the numbers of a page table, if there is one
abbrev numbers : (Loc → Option ℕ) → Option (List Loc) → List ℕ
numbers f None = []
numbers f (Some table) = filter_map f table

frames_in : (buffers : List (Option Buffer)) → flat_map frames_of_slot buffers ≡ flat_map (numbers frame_of) (tables buffers)
frames_in [] = refl
frames_in (None ∷ buffers) = frames_in buffers
frames_in (Some x ∷ buffers) = ap (λ ns. filter_map frame_of x.table ++ ns) (frames_in buffers)

slots_in : (buffers : List (Option Buffer)) → flat_map slots_of_slot buffers ≡ flat_map (numbers slot_of) (tables buffers)
slots_in [] = refl
slots_in (None ∷ buffers) = slots_in buffers
slots_in (Some x ∷ buffers) = ap (λ ns. filter_map slot_of x.table ++ ns) (slots_in buffers)

frames_keep : (c d : Core) → SameTables c d → held_frames c ≡ held_frames d
frames_keep c d same =
    let live = λ (e : Core). live_frames_of e ∙ frames_in e.buffers in
    ap (λ ns. ns ++ ghost_frames c) (live c ∙ ap (flat_map (numbers frame_of)) (sym same.tables_are) ∙ sym (live d))
    ∙ ap (λ gs. flat_map (λ e. filter_map frame_of e.1.table) (live_buffers d) ++ flat_map (λ g. g.frames) gs) (sym same.ghosts_are)

slots_keep : (c d : Core) → SameTables c d → held_slots c ≡ held_slots d
slots_keep c d same =
    let live = λ (e : Core). held_slots_of e ∙ slots_in e.buffers in
    live c ∙ ap (flat_map (numbers slot_of)) (sym same.tables_are) ∙ sym (live d)

pub free_kept : (script : Script) (s : State) (who : Actor) (k : Kind) (free : FreeSets) → keeps_tables k ≡ true → AreFree script s.core free → AreFree script (applied script s who k).core free
free_kept script s who k free h are =
    let new = applied script s who k in
    let same = tables_keep script s who k h in
    record {
      frames = subst (λ ns. AreUnheld script.sizes.frames ns free.frames) (frames_keep s.core new.core same) are.frames;
      slots = subst (λ ns. AreUnheld script.sizes.swap ns free.slots) (slots_keep s.core new.core same) are.slots;
    }
