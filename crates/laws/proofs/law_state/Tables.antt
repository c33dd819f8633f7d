-- The page table of a live buffer has its declared pages.
use Rattle.std.proofs.Common.{◌≡◌, ℕ, zero, suc, List, [], ◌∷◌, length, Option, Some, None, refl, sym, subst, ◌∙◌, ap, ⊎_elim}
use Rattle.std.specs.Prelude.{slice_set, map, option_map, option_and_then, fold, replicate}
use Rattle.std.proofs.Math.ListN.{length-set}
use Rattle.ttm_base.specs.declared.Mem.{Mem}
use Rattle.ttm_base.specs.declared.Mem.TheVariants.{System, Tt, Vram}
use Rattle.ttm_base.specs.declared.BufId.{BufId}
use Rattle.ttm_base.specs.declared.JobId.{JobId}
use Rattle.ttm_base.specs.declared.Loc.{Loc}
use Rattle.ttm_base.specs.declared.Loc.TheVariants as loc
use Rattle.ttm_base.specs.declared.Op.{Op}
use Rattle.ttm_base.specs.declared.Actor.{Actor}
use Rattle.ttm_base.specs.declared.Usage.TheVariants as usage
use Rattle.journal_model.specs.declared.script.Script.{Script}
use Rattle.journal_model.specs.declared.state.State.{State}
use Rattle.journal_model.specs.declared.state.Buffer.{Buffer}
use Rattle.journal_model.specs.declared.entry.Kind.{Kind}
use Rattle.journal_model.specs.declared.entry.Kind.TheVariants as kind
use Rattle.journal_model.specs.rules.State.{live_in, changed, new_buffer}
use Rattle.journal_model.specs.rules.Commands.{decl, command_at_work}
use Rattle.journal_model.specs.rules.Waits.{jobs_before_target}
use Rattle.journal_model.specs.rules.Apply.{applied, thread_of}
use Rattle.journal_model.specs.rules.ApplyPages.{with_spans, with_kernel_fences, with_fence, without_frame, bound, unbound}
use Rattle.journal_model.specs.rules.ApplyMoves.{moved, table_left}
use Rattle.journal_model.specs.rules.ApplyVictims.{leaves_tt}
use Rattle.journal_model.specs.rules.ApplyJobs.{with_use, ops_of}
use Rattle.journal_model.specs.rules.ApplyCommands.{named_in}
use Rattle.laws.specs.law_state.GoodState.{HasPages, HaveTables}
use Rattle.laws.proofs.law_state.Lists.{set_at, live_changed}

-- a change that keeps the length of tables
keeps_one : (script : Script) (f : Buffer → Buffer) → ((x : Buffer) → length (f x).table ≡ length x.table) → (b : BufId) (o : Option Buffer) → HasPages script b o → HasPages script b (option_map f o)
keeps_one script f k b None h = tt
keeps_one script f k b (Some x) h = k x ∙ h

pub changed_tables : (script : Script) (f : Buffer → Buffer) (buffers : List (Option Buffer)) (b : BufId) → ((x : Buffer) → length (f x).table ≡ length x.table) →
    HaveTables script buffers → HaveTables script (changed f buffers b)
changed_tables script f buffers b k h d =
    ⊎_elim
    (λ e. subst (HasPages script d) (sym e) (h d))
    (λ e. subst (HasPages script d) (sym e) (keeps_one script f k d (live_in buffers d) (h d)))
    (live_changed f buffers b d)

-- one buffer set
set_tables : (script : Script) (buffers : List (Option Buffer)) (b : BufId) (o : Option Buffer) → HasPages script b o → HaveTables script buffers → HaveTables script (slice_set buffers b.0 o)
set_tables script buffers b o new h d =
    ⊎_elim
    (λ e. subst (HasPages script d) (sym (ap (option_and_then (λ x. x)) e)) (h d))
    (λ e.
    let same : b ≡ d = ap (λ i. record { 0 = i }) e.0 in
    subst (HasPages script d) (sym (ap (option_and_then (λ x. x)) e.1)) (subst (λ c. HasPages script c o) same new))
    (set_at buffers b.0 d.0 o)

length-map : {X Y : Type 0} (f : X → Y) (xs : List X) → length (map f xs) ≡ length xs
length-map f [] = refl
length-map f (x ∷ xs) = ap suc (length-map f xs)

length-left : (mem : Mem) (table : List Loc) → length (table_left mem table) ≡ length table
length-left Tt table = length-map (λ l. loc.Zero) table
length-left Vram table = refl
length-left System table = refl

length-kernel : (jobs : List JobId) (x : Buffer) → length (with_kernel_fences jobs x).table ≡ length x.table
length-kernel [] x = refl
length-kernel (j ∷ jobs) x = length-kernel jobs (with_fence j usage.Kernel x)

leaves_keeps : (mem : Mem) (x : Buffer) → length (leaves_tt mem x).table ≡ length x.table
leaves_keeps Tt x = refl
leaves_keeps Vram x = refl
leaves_keeps System x = refl

uses_keep : (script : Script) (job : JobId) (ops : List Op) (buffers : List (Option Buffer)) (bs : List BufId) → HaveTables script buffers → HaveTables script (fold (with_use job ops) buffers bs)
uses_keep script job ops buffers [] h = h
uses_keep script job ops buffers (b ∷ bs) h = uses_keep script job ops (with_use job ops buffers b) bs (changed_tables script _ buffers b (λ x. refl) h)

length-replicate : {X : Type 0} (n : ℕ) (x : X) → length (replicate n x) ≡ n
length-replicate zero x = refl
length-replicate (suc n) x = ap suc (length-replicate n x)

-- each entry keeps them
pub tables_keep : (script : Script) (s : State) (who : Actor) (k : Kind) → HaveTables script s.core.buffers → HaveTables script (applied script s who k).core.buffers
tables_keep script s who (kind.New b) h = set_tables script s.core.buffers b (Some (new_buffer (decl script b).pages)) (length-replicate (decl script b).pages loc.Zero) h
tables_keep script s who (kind.Free b g) h = set_tables script s.core.buffers b None tt h
tables_keep script s who (kind.Take b mem spans) h =
    changed_tables script _ s.core.buffers b (λ x. length-kernel (jobs_before_target s.core mem) (with_spans mem (Some spans) x)) h
tables_keep script s who (kind.Untake b mem) h = changed_tables script _ s.core.buffers b (λ x. refl) h
tables_keep script s who (kind.Populate b page f) h = changed_tables script _ s.core.buffers b (λ x. length-set x.table page (loc.Frame f)) h
tables_keep script s who (kind.SwapIn b page slot f) h = changed_tables script _ s.core.buffers b (λ x. length-set x.table page (loc.Frame f)) h
tables_keep script s who (kind.Depopulate b) h = changed_tables script _ s.core.buffers b (λ x. length-map without_frame x.table) h
tables_keep script s who (kind.Bind b) h = changed_tables script bound s.core.buffers b (λ x. refl) h
tables_keep script s who (kind.Unbind b) h = changed_tables script unbound s.core.buffers b (λ x. refl) h
tables_keep script s who (kind.Move b mem n l) h =
    changed_tables script (moved mem (record { ctx = 0; num = n })) s.core.buffers b (λ x. length-left x.mem x.table) h
tables_keep script s who (kind.Catch b w) h = changed_tables script _ s.core.buffers b (λ x. leaves_keeps x.mem x) h
tables_keep script s who (kind.SwapOut b page slot) h = changed_tables script _ s.core.buffers b (λ x. length-set x.table page (loc.Slot slot)) h
tables_keep script s who (kind.Arm engine n) h =
    uses_keep script (record { ctx = engine; num = n }) (ops_of (command_at_work script s (thread_of who))) s.core.buffers (named_in (command_at_work script s (thread_of who))) h
tables_keep script s who k h = h
