-- Buffers in TT have all frames, those in VRAM no slot, and resources and targets as many pages as the table.
use Rattle.std.proofs.Common.{◌≡◌, ℕ, zero, suc, true, List, [], ◌∷◌, length, Option, Some, None, refl, sym, subst, ◌∙◌, ap, ⊎_elim}
use Rattle.std.specs.Prelude.{slice_get, slice_set, map, fold, option_map, option_and_then, unwrap_or, is_some}
use Rattle.std.proofs.Math.ListN.{length-set}
use Rattle.ttm_base.specs.declared.Mem.{Mem}
use Rattle.ttm_base.specs.declared.Mem.TheVariants.{System, Tt, Vram}
use Rattle.ttm_base.specs.declared.BufId.{BufId}
use Rattle.ttm_base.specs.declared.JobId.{JobId}
use Rattle.ttm_base.specs.declared.Span.{Span}
use Rattle.ttm_base.specs.declared.Op.{Op}
use Rattle.ttm_base.specs.declared.Usage.{Usage}
use Rattle.ttm_base.specs.declared.Usage.TheVariants as usage
use Rattle.ttm_base.specs.declared.Loc.{Loc}
use Rattle.ttm_base.specs.declared.Loc.TheVariants as loc
use Rattle.ttm_base.specs.declared.Actor.TheVariants as actor
use Rattle.journal_model.specs.declared.script.Script.{Script}
use Rattle.journal_model.specs.declared.state.State.{State}
use Rattle.journal_model.specs.declared.state.Core.{Core}
use Rattle.journal_model.specs.declared.state.Buffer.{Buffer}
use Rattle.journal_model.specs.declared.entry.Kind.{Kind}
use Rattle.journal_model.specs.declared.entry.Kind.TheVariants as kind
use Rattle.journal_model.specs.rules.State.{buffer, live_in, changed, new_buffer, has_target, target_spans}
use Rattle.journal_model.specs.rules.Commands.{decl, command_at_work}
use Rattle.journal_model.specs.rules.Places.{pages_of}
use Rattle.journal_model.specs.rules.Ready.{has_all_frames}
use Rattle.journal_model.specs.rules.Waits.{jobs_before_target}
use Rattle.journal_model.specs.rules.Apply.{applied}
use Rattle.journal_model.specs.rules.ApplyCommands.{named_in}
use Rattle.journal_model.specs.rules.ApplyPages.{with_fence, with_kernel_fences, with_spans, with_loc, without_frame, without_frames, bound, unbound}
use Rattle.journal_model.specs.rules.ApplyMoves.{moved, table_left}
use Rattle.journal_model.specs.rules.ApplyVictims.{leaves_tt}
use Rattle.journal_model.specs.rules.ApplyJobs.{with_use, ops_of}
use Rattle.laws.specs.law_state.GoodState.{HasPages, HaveTables}
use Rattle.laws.proofs.law_state.Lists.{set_at, get_mapped}
use Rattle.laws.proofs.lemma_bytes_view.Tables.{AllFrames, full_is, zero_loc}
use Rattle.laws.specs.lemma_bytes_told.Told.{is_still, Told, still, makes, frees, leaves, takes, untakes, populates, swaps_in, depopulates, binds, unbinds, moves_up, moves_across, moves_down, evicts, catches, swaps_out, arms, reads, writes, results}
use Rattle.laws.proofs.lemma_bytes_told.ChoicePages.{choice_pages}

pub record Shapely (x : Buffer) : Type 0 where
  pub full : x.mem ≡ Tt → AllFrames x.table
  pub unswapped : x.mem ≡ Vram → (k j : ℕ) → slice_get x.table k ≡ Some (loc.Slot j) → ⊥
  pub long : (x.mem ≡ System → ⊥) → length (pages_of x.spans) ≡ length x.table
  pub targets : (l : Mem) → (l ≡ System → ⊥) → has_target l x ≡ true → length (pages_of (target_spans l x)) ≡ length x.table

abbrev pub HaveShapes : List (Option Buffer) → Type 0
HaveShapes buffers = (b : BufId) (x : Buffer) → live_in buffers b ≡ Some x → Shapely x

-- ---- lists of buffers

pub changed_shapes : (f : Buffer → Buffer) (buffers : List (Option Buffer)) (b : BufId) → ((x : Buffer) → live_in buffers b ≡ Some x → Shapely x → Shapely (f x)) → HaveShapes buffers → HaveShapes (changed f buffers b)
changed_shapes f buffers b keep h d y e =
    ⊎_elim
    (λ q. h d y (sym (ap (option_and_then (λ x. x)) q) ∙ e))
    (λ q. by (live_in buffers b) refl (sym (ap (option_and_then (λ x. x)) q.1) ∙ e))
    (set_at buffers b.0 d.0 (option_map f (live_in buffers b)))
  where
    by : (o : Option Buffer) → live_in buffers b ≡ o → option_map f o ≡ Some y → Shapely y
    by None q g = cc
    by (Some x) q g = let same : f x ≡ y = cc in subst Shapely same (keep x q (h b x q))

set_shapes : (buffers : List (Option Buffer)) (b : BufId) (o : Option Buffer) → ((x : Buffer) → o ≡ Some x → Shapely x) → HaveShapes buffers → HaveShapes (slice_set buffers b.0 o)
set_shapes buffers b o new h d y e =
    ⊎_elim
    (λ q. h d y (sym (ap (option_and_then (λ x. x)) q) ∙ e))
    (λ q. new y (sym (ap (option_and_then (λ x. x)) q.1) ∙ e))
    (set_at buffers b.0 d.0 o)

-- ---- changes of a buffer

system_tt : System ≡ Tt → ⊥
system_tt e = cc

system_vram : System ≡ Vram → ⊥
system_vram e = cc

tt_vram : Tt ≡ Vram → ⊥
tt_vram e = cc

vram_tt : Vram ≡ Tt → ⊥
vram_tt e = cc

fresh_shape : (n : ℕ) → Shapely (new_buffer n)
fresh_shape n = record {
  full = λ e. absurd (system_tt e);
  unswapped = λ e. absurd (system_vram e);
  long = λ ne. absurd (ne refl);
  targets = λ l ne h. none l h;
}
  where
    none : (l : Mem) → has_target l (new_buffer n) ≡ true → length (pages_of (target_spans l (new_buffer n))) ≡ length (new_buffer n).table
    none System h = cc
    none Tt h = cc
    none Vram h = cc

fenced : (job : JobId) (how : Usage) (x : Buffer) → Shapely x → Shapely (with_fence job how x)
fenced job how x h = record { full = h.full; unswapped = h.unswapped; long = h.long; targets = λ l ne k. on l ne k }
  where
    on : (l : Mem) → (l ≡ System → ⊥) → has_target l (with_fence job how x) ≡ true → length (pages_of (target_spans l (with_fence job how x))) ≡ length x.table
    on System ne k = absurd (ne refl)
    on Tt ne k = h.targets Tt ne k
    on Vram ne k = h.targets Vram ne k

kernel_fenced : (jobs : List JobId) (x : Buffer) → Shapely x → Shapely (with_kernel_fences jobs x)
kernel_fenced [] x h = h
kernel_fenced (j ∷ jobs) x h = kernel_fenced jobs (with_fence j usage.Kernel x) (fenced j usage.Kernel x h)

-- a target in some memory type, or none
retargeted : (m : Mem) (o : Option (List Span)) (x : Buffer) → Shapely x → ((m ≡ System → ⊥) → (ss : List Span) → o ≡ Some ss → length (pages_of ss) ≡ length x.table) → Shapely (with_spans m o x)
retargeted System o x h new = record { full = h.full; unswapped = h.unswapped; long = h.long; targets = λ l ne k. on l ne k }
  where
    on : (l : Mem) → (l ≡ System → ⊥) → has_target l (with_spans System o x) ≡ true → length (pages_of (target_spans l (with_spans System o x))) ≡ length x.table
    on System ne k = absurd (ne refl)
    on Tt ne k = h.targets Tt ne k
    on Vram ne k = h.targets Vram ne k
retargeted Tt o x h new = record { full = h.full; unswapped = h.unswapped; long = h.long; targets = λ l ne k. on l ne k }
  where
    mine : (p : Option (List Span)) → o ≡ p → is_some p ≡ true → length (pages_of (unwrap_or p [])) ≡ length x.table
    mine None e k = cc
    mine (Some ss) e k = new (λ q. cc) ss e

    on : (l : Mem) → (l ≡ System → ⊥) → has_target l (with_spans Tt o x) ≡ true → length (pages_of (target_spans l (with_spans Tt o x))) ≡ length x.table
    on System ne k = absurd (ne refl)
    on Tt ne k = mine o refl k
    on Vram ne k = h.targets Vram ne k
retargeted Vram o x h new = record { full = h.full; unswapped = h.unswapped; long = h.long; targets = λ l ne k. on l ne k }
  where
    mine : (p : Option (List Span)) → o ≡ p → is_some p ≡ true → length (pages_of (unwrap_or p [])) ≡ length x.table
    mine None e k = cc
    mine (Some ss) e k = new (λ q. cc) ss e

    on : (l : Mem) → (l ≡ System → ⊥) → has_target l (with_spans Vram o x) ≡ true → length (pages_of (target_spans l (with_spans Vram o x))) ≡ length x.table
    on System ne k = absurd (ne refl)
    on Tt ne k = h.targets Tt ne k
    on Vram ne k = mine o refl k

-- a target that is gone
untargeted : (m : Mem) (x : Buffer) → Shapely x → Shapely (with_spans m None x)
untargeted m x h = retargeted m None x h (λ ne ss e. cc)

caught_shape : (l : Mem) (x : Buffer) → Shapely x → Shapely (leaves_tt l x)
caught_shape Tt x h = retargeted System (Some []) x h (λ ne ss e. absurd (ne refl))
caught_shape Vram x h = h
caught_shape System x h = h

-- another location in the table of a buffer that isn't in TT
paged_shape : (page : ℕ) (l : Loc) (x : Buffer) → (x.mem ≡ Tt → ⊥) → (x.mem ≡ Vram → (j : ℕ) → l ≡ loc.Slot j → ⊥) → Shapely x → Shapely (with_loc page l x)
paged_shape page l x ne swap h = record {
  full = λ e. absurd (ne e);
  unswapped = λ e k j q.
      ⊎_elim
      (λ r. h.unswapped e k j (sym r ∙ q))
      (λ r. let z : l ≡ loc.Slot j = (let w : Some l ≡ Some (loc.Slot j) = sym r.1 ∙ q in cc) in swap e j z)
      (set_at x.table page k l);
  long = λ n. h.long n ∙ sym (length-set x.table page l);
  targets = λ m n k. on m n k;
}
  where
    on : (m : Mem) → (m ≡ System → ⊥) → has_target m (with_loc page l x) ≡ true → length (pages_of (target_spans m (with_loc page l x))) ≡ length (slice_set x.table page l)
    on System n k = absurd (n refl)
    on Tt n k = h.targets Tt n k ∙ sym (length-set x.table page l)
    on Vram n k = h.targets Vram n k ∙ sym (length-set x.table page l)

length-map : {X Y : Type 0} (f : X → Y) (xs : List X) → length (map f xs) ≡ length xs
length-map f [] = refl
length-map f (x ∷ xs) = ap suc (length-map f xs)

emptied_shape : (x : Buffer) → x.mem ≡ Vram → Shapely x → Shapely (without_frames x)
emptied_shape x m h = record {
  full = λ e. absurd (vram_tt (sym m ∙ e));
  unswapped = λ e k j q. let r = get_mapped without_frame x.table (loc.Slot j) k q in h.unswapped m k j (r.1 ∙ ap Some (slot r.0 j r.2));
  long = λ n. h.long n ∙ sym (length-map without_frame x.table);
  targets = λ l n k. on l n k;
}
  where
    slot : (l : Loc) (j : ℕ) → loc.Slot j ≡ without_frame l → l ≡ loc.Slot j
    slot (loc.Slot i) j e = sym e
    slot (loc.Frame f) j e = cc
    slot loc.Zero j e = cc

    on : (l : Mem) → (l ≡ System → ⊥) → has_target l (without_frames x) ≡ true → length (pages_of (target_spans l (without_frames x))) ≡ length (map without_frame x.table)
    on System n k = absurd (n refl)
    on Tt n k = h.targets Tt n k ∙ sym (length-map without_frame x.table)
    on Vram n k = h.targets Vram n k ∙ sym (length-map without_frame x.table)

bound_shape : (x : Buffer) → has_target Tt x ≡ true → has_all_frames x ≡ true → Shapely x → Shapely (bound x)
bound_shape x t f h = record {
  full = λ e. full_is x.table f;
  unswapped = λ e. absurd (tt_vram e);
  long = λ n. h.targets Tt (λ e. cc) t;
  targets = λ l n k. on l n k;
}
  where
    on : (l : Mem) → (l ≡ System → ⊥) → has_target l (bound x) ≡ true → length (pages_of (target_spans l (bound x))) ≡ length x.table
    on System n k = absurd (n refl)
    on Tt n k = cc
    on Vram n k = h.targets Vram n k

unbound_shape : (x : Buffer) → Shapely x → Shapely (unbound x)
unbound_shape x h = record {
  full = λ e. absurd (system_tt e);
  unswapped = λ e. absurd (system_vram e);
  long = λ n. absurd (n refl);
  targets = λ l n k. on l n k;
}
  where
    on : (l : Mem) → (l ≡ System → ⊥) → has_target l (unbound x) ≡ true → length (pages_of (target_spans l (unbound x))) ≡ length x.table
    on System n k = absurd (n refl)
    on Tt n k = h.targets Tt n k
    on Vram n k = h.targets Vram n k

length-left : (l : Mem) (table : List Loc) → length (table_left l table) ≡ length table
length-left Tt table = length-map (λ l. loc.Zero) table
length-left Vram table = refl
length-left System table = refl

-- a buffer that moved into VRAM
moved_shape : (job : JobId) (x : Buffer) → has_target Vram x ≡ true → ((k j : ℕ) → slice_get (table_left x.mem x.table) k ≡ Some (loc.Slot j) → ⊥) → Shapely x → Shapely (moved Vram job x)
moved_shape job x t un h = record {
  full = λ e. absurd (vram_tt e);
  unswapped = λ e k j q. un k j q;
  long = λ n. h.targets Vram (λ e. cc) t ∙ sym (length-left x.mem x.table);
  targets = λ l n k. on l n k;
}
  where
    on : (l : Mem) → (l ≡ System → ⊥) → has_target l (moved Vram job x) ≡ true → length (pages_of (target_spans l (moved Vram job x))) ≡ length (table_left x.mem x.table)
    on System n k = absurd (n refl)
    on Tt n k = h.targets Tt n k ∙ sym (length-left x.mem x.table)
    on Vram n k = cc

-- one that moved from VRAM into TT
down_shape : (job : JobId) (x : Buffer) → x.mem ≡ Vram → has_target Tt x ≡ true → has_all_frames x ≡ true → Shapely x → Shapely (moved Tt job x)
down_shape job x m t f h = record {
  full = λ e. subst (λ l. AllFrames (table_left l x.table)) (sym m) (full_is x.table f);
  unswapped = λ e. absurd (tt_vram e);
  long = λ n. h.targets Tt (λ e. cc) t ∙ sym (length-left x.mem x.table);
  targets = λ l n k. on l n k;
}
  where
    on : (l : Mem) → (l ≡ System → ⊥) → has_target l (moved Tt job x) ≡ true → length (pages_of (target_spans l (moved Tt job x))) ≡ length (table_left x.mem x.table)
    on System n k = absurd (n refl)
    on Tt n k = cc
    on Vram n k = h.targets Vram n k ∙ sym (length-left x.mem x.table)

zeros_unswapped : (l : Mem) (table : List Loc) → l ≡ Tt → (k j : ℕ) → slice_get (table_left l table) k ≡ Some (loc.Slot j) → ⊥
zeros_unswapped Tt table e k j q = let z : loc.Slot j ≡ loc.Zero = sym (ap (λ o. unwrap_or o loc.Zero) q) ∙ zero_loc table k in cc
zeros_unswapped Vram table e k j q = cc
zeros_unswapped System table e k j q = cc

uses_shape : (job : JobId) (ops : List Op) (bs : List BufId) (buffers : List (Option Buffer)) → HaveShapes buffers → HaveShapes (fold (with_use job ops) buffers bs)
uses_shape job ops [] buffers h = h
uses_shape job ops (b ∷ bs) buffers h = uses_shape job ops bs (with_use job ops buffers b) (changed_shapes _ buffers b (λ x e k. fenced job _ x k) h)

-- ---- each entry of a thread

pub still_core : (script : Script) (s : State) (t : ℕ) (k : Kind) → is_still k ≡ true → (applied script s (actor.Thread t) k).core ≡ s.core
still_core script s t (kind.Ticket stamp) e = cc
still_core script s t k e = cc

pub still_ghosts : (script : Script) (s : State) (t : ℕ) (k : Kind) → is_still k ≡ true → (applied script s (actor.Thread t) k).last_ghost ≡ s.last_ghost
still_ghosts script s t (kind.Ticket stamp) e = cc
still_ghosts script s t k e = cc

-- where the buffer is known
at_buffer : (P : Buffer → Type 0) (s : State) (b : BufId) (x : Buffer) → live_in s.core.buffers b ≡ Some (buffer s b) → live_in s.core.buffers b ≡ Some x → P (buffer s b) → P x
at_buffer P s b x there e h = let same : buffer s b ≡ x = (let two : Some (buffer s b) ≡ Some x = sym there ∙ e in cc) in subst P same h

pub shapes_keep : (script : Script) (s : State) (t : ℕ) (k : Kind) → HaveTables script s.core.buffers → HaveShapes s.core.buffers → Told script s t k → HaveShapes (applied script s (actor.Thread t) k).core.buffers
shapes_keep script s t k tables h (still q) = subst (λ (c : Core). HaveShapes c.buffers) (sym (still_core script s t k q)) h
shapes_keep script s t k tables h (makes {b} dead) = set_shapes s.core.buffers b (Some (new_buffer (decl script b).pages)) (λ x e. let same : new_buffer (decl script b).pages ≡ x = cc in subst Shapely same (fresh_shape (decl script b).pages)) h
shapes_keep script s t k tables h (frees {b} there quiet) = set_shapes s.core.buffers b None (λ x e. cc) h
shapes_keep script s t k tables h (leaves {b} there) = set_shapes s.core.buffers b None (λ x e. cc) h
shapes_keep script s t k tables h (takes {b} {mem} {spans} place there m c free) =
    changed_shapes _ s.core.buffers b
    (λ x e sh.
    kernel_fenced (jobs_before_target s.core mem) (with_spans mem (Some spans) x)
    (retargeted mem (Some spans) x sh
    (λ ne ss q.
    let same : spans ≡ ss = cc in
    let pages = choice_pages script s.core b place spans (λ r. ne (sym m ∙ r)) c in
    let size : HasPages script b (Some x) = subst (HasPages script b) e (tables b) in
    ap (λ zs. length (pages_of zs)) (sym same) ∙ pages ∙ sym size)))
    h
shapes_keep script s t k tables h (untakes {b} {mem} there) = changed_shapes _ s.core.buffers b (λ x e sh. untargeted mem x sh) h
shapes_keep script s t k tables h (populates {b} {f} there free l some tt_not) =
    changed_shapes _ s.core.buffers b (λ x e sh. paged_shape _ (loc.Frame f) x (at_buffer (λ y. y.mem ≡ Tt → ⊥) s b x there e tt_not) (λ m j q. cc) sh) h
shapes_keep script s t k tables h (swaps_in {b} {k = slot} {f} there free l some tt_not) =
    changed_shapes _ s.core.buffers b (λ x e sh. paged_shape _ (loc.Frame f) x (at_buffer (λ y. y.mem ≡ Tt → ⊥) s b x there e tt_not) (λ m j q. cc) sh) h
shapes_keep script s t k tables h (depopulates {b} there m) = changed_shapes _ s.core.buffers b (λ x e sh. emptied_shape x (at_buffer (λ y. y.mem ≡ Vram) s b x there e m) sh) h
shapes_keep script s t k tables h (binds {b} there m t' f) =
    changed_shapes _ s.core.buffers b (λ x e sh. bound_shape x (at_buffer (λ y. has_target Tt y ≡ true) s b x there e t') (at_buffer (λ y. has_all_frames y ≡ true) s b x there e f) sh) h
shapes_keep script s t k tables h (unbinds {b} there quiet n) = changed_shapes _ s.core.buffers b (λ x e sh. unbound_shape x sh) h
shapes_keep script s t k tables h (moves_up {b} there m t') =
    changed_shapes _ s.core.buffers b
    (λ x e sh. moved_shape _ x (at_buffer (λ y. has_target Vram y ≡ true) s b x there e t') (zeros_unswapped x.mem x.table (at_buffer (λ y. y.mem ≡ Tt) s b x there e m)) sh) h
shapes_keep script s t k tables h (moves_across {b} there m t') =
    changed_shapes _ s.core.buffers b
    (λ x e sh.
    let v : x.mem ≡ Vram = at_buffer (λ y. y.mem ≡ Vram) s b x there e m in
    moved_shape _ x (at_buffer (λ y. has_target Vram y ≡ true) s b x there e t') (λ i j q. sh.unswapped v i j (ap (λ l. slice_get (table_left l x.table) i) (sym v) ∙ q)) sh) h
shapes_keep script s t k tables h (moves_down {b} there m t' f) =
    changed_shapes _ s.core.buffers b
    (λ x e sh. down_shape _ x (at_buffer (λ y. y.mem ≡ Vram) s b x there e m) (at_buffer (λ y. has_target Tt y ≡ true) s b x there e t') (at_buffer (λ y. has_all_frames y ≡ true) s b x there e f) sh) h
shapes_keep script s t k tables h (evicts {b} there m t' f) =
    changed_shapes _ s.core.buffers b
    (λ x e sh. down_shape _ x (at_buffer (λ y. y.mem ≡ Vram) s b x there e m) (at_buffer (λ y. has_target Tt y ≡ true) s b x there e t') (at_buffer (λ y. has_all_frames y ≡ true) s b x there e f) sh) h
shapes_keep script s t k tables h (catches {b} {w}) = changed_shapes _ s.core.buffers b (λ x e sh. caught_shape x.mem x sh) h
shapes_keep script s t k tables h (swaps_out {b} {k = slot} there m quiet f free) =
    changed_shapes _ s.core.buffers b
    (λ x e sh.
    let y : x.mem ≡ System = at_buffer (λ y. y.mem ≡ System) s b x there e m in
    paged_shape _ (loc.Slot slot) x (λ q. let z : System ≡ Tt = sym y ∙ q in cc) (λ q j r. let z : System ≡ Vram = sym y ∙ q in cc) sh) h
shapes_keep script s t k tables h (arms {engine} ops at live ready) =
    uses_shape _ (ops_of (command_at_work script s t)) (named_in (command_at_work script s t)) s.core.buffers h
shapes_keep script s t k tables h (reads b off len at none) = h
shapes_keep script s t k tables h (writes b off bytes at there ready quiet) = h
shapes_keep script s t k tables h (results cmd at w r n) = h

-- none is live at first
pub first_shapes : {X : Type 0} (xs : List X) → HaveShapes (map (λ x. None) xs)
first_shapes xs b y e = absurd (none xs b.0 e)
  where
    none : {X : Type 0} (xs : List X) (i : ℕ) → ◌≡◌ {A = Option Buffer} (option_and_then (λ x. x) (slice_get (map (λ x. None) xs) i)) (Some y) → ⊥
    none [] i e = cc
    none (x ∷ xs) zero e = cc
    none (x ∷ xs) (suc i) e = none xs i e
