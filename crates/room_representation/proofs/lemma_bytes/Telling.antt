-- What an actor's entry tells of the state before it, as far as frames and slots depend on it.
use Rattle.std.proofs.Common.{◌≡◌, ℕ, Bool, true, false, List, [], length, Option, Some, None, Ok, Err, refl, sym, subst, ◌∙◌, ap}
use Rattle.std.specs.Prelude.{◌||◌, not, nat_lt, slice_get, unwrap_or}
use Rattle.std.proofs.lemmas.Bool.{and_parts, true≢false, false≢true}
use Rattle.ttm_base.specs.declared.Actor.{Actor}
use Rattle.ttm_base.specs.declared.Actor.TheVariants as actor
use Rattle.ttm_base.specs.declared.BufId.{BufId}
use Rattle.ttm_base.specs.declared.JobId.{JobId}
use Rattle.ttm_base.specs.declared.Loc.{Loc}
use Rattle.ttm_base.specs.declared.Loc.TheVariants as loc
use Rattle.ttm_base.specs.declared.Mem.{Mem}
use Rattle.ttm_base.specs.declared.Mem.TheVariants.{System, Tt, Vram}
use Rattle.ttm_base.specs.declared.Need.{Need}
use Rattle.ttm_base.specs.declared.Need.TheVariants as need
use Rattle.ttm_base.specs.Pages.{slot}
use Rattle.ttm_base.specs.Reach.{same_mem}
use Rattle.journal_model.specs.declared.entry.Kind.{Kind}
use Rattle.journal_model.specs.declared.entry.Kind.TheVariants as kind
use Rattle.journal_model.specs.declared.entry.Left.TheVariants as left
use Rattle.journal_model.specs.declared.script.Command.{Command}
use Rattle.journal_model.specs.declared.script.Command.TheVariants as command
use Rattle.journal_model.specs.declared.script.Script.{Script}
use Rattle.journal_model.specs.declared.state.Buffer.{Buffer}
use Rattle.journal_model.specs.declared.state.Ghost.{Ghost}
use Rattle.journal_model.specs.declared.state.Job.{Job}
use Rattle.journal_model.specs.declared.state.State.{State}
use Rattle.journal_model.specs.rules.State.{buffer}
use Rattle.journal_model.specs.rules.Dry.{has_frame}
use Rattle.journal_model.specs.rules.Next.{next, head_of, step_of_job}
use Rattle.journal_model.specs.rules.PageSteps.{page_to_fill, first_frame_page, unless_waiting}
use Rattle.journal_model.specs.rules.Places.{frame_of, is_frame, loc_of, page_in, page_in_table, page_in_vram, pages_of}
use Rattle.journal_model.specs.rules.Ready.{has_all_frames, is_in_place, is_filled, is_ready}
use Rattle.journal_model.specs.rules.Search.{Step}
use Rattle.journal_model.specs.rules.Waits.{waited_for}
use Rattle.laws.specs.lemma_bytes_told.Told.{is_still, is_write, IsThere, Told, still, makes, frees, leaves, takes, untakes, populates, swaps_in, depopulates, binds, unbinds, moves_up, moves_across, moves_down, evicts, catches, swaps_out, arms, reads, writes, results}
use Rattle.laws.proofs.lemma_bytes_told.Spots.{fill_spot, frame_spot}
use Rattle.room_representation.specs.lemma_bytes.Tables.{IsOffSlots}
use Rattle.room_representation.specs.lemma_bytes.After.{frame_at, HaveNoSlotsInTt, Tells}
use Rattle.room_representation.proofs.lemma_bytes.Others.{filled_off_slots}

-- ---- what is told apart, and what is one alone

vram_not_tt : Vram ≡ Tt → ⊥
vram_not_tt e = cc

ghost_not_now : (n : ℕ) → left.Ghost n ≡ left.Now → ⊥
ghost_not_now n e = cc

read_not_write : (b c : BufId) (from len off : ℕ) (values : List ℕ) → Some (command.Read b from len) ≡ Some (command.Write c off values) → ⊥
read_not_write b c from len off values e = cc

one_written : (b c : BufId) (from off : ℕ) (bytes values : List ℕ) → Some (command.Write b from bytes) ≡ Some (command.Write c off values) → b ≡ c
one_written b c from off bytes values e = cc

one_command : (x y : Command) → Some x ≡ Some y → x ≡ y
one_command x y e = cc

one_kind : (e k : Kind) → ◌≡◌ {A = Step} (Ok e) (Ok k) → e ≡ k
one_kind e k h = cc

need_not_kind : (n : Need) (k : Kind) → ◌≡◌ {A = Step} (Err n) (Ok k) → ⊥
need_not_kind n k h = cc

no_slot_in_vram : (k : ℕ) (o : Option ℕ) → page_in_vram o ≡ slot k → ⊥
no_slot_in_vram k None e = cc
no_slot_in_vram k (Some p) e = cc

no_slot_in_table : (o : Option Loc) (k : ℕ) → ((j : ℕ) → o ≡ Some (loc.Slot j) → ⊥) → page_in_table (unwrap_or o loc.Zero) ≡ slot k → ⊥
no_slot_in_table None k none e = cc
no_slot_in_table (Some (loc.Frame f)) k none e = cc
no_slot_in_table (Some (loc.Slot j)) k none e = none j refl
no_slot_in_table (Some loc.Zero) k none e = cc

-- ---- the page that is filled, and the one that is emptied

-- what the table has at the first page without a frame
pub to_fill : (x : Buffer) (l : Loc) → has_all_frames x ≡ false → loc_of x (page_to_fill x) ≡ l → slice_get x.table (page_to_fill x) ≡ Some l
to_fill x l some e = let r = fill_spot x some in r.at ∙ ap (λ y. Some y) (sym (ap (λ o. unwrap_or o loc.Zero) r.at) ∙ e)

-- at the first page with a frame it has the frame
pub to_empty : (x : Buffer) → has_frame x ≡ true → slice_get x.table (first_frame_page x) ≡ Some (loc.Frame (frame_at x (first_frame_page x)))
to_empty x some = let r = frame_spot x some in by r.item r.at r.so
  where
    by : (l : Loc) → slice_get x.table (first_frame_page x) ≡ Some l → is_frame l ≡ true → slice_get x.table (first_frame_page x) ≡ Some (loc.Frame (frame_at x (first_frame_page x)))
    by (loc.Frame f) at so = at ∙ ap (λ n. Some (loc.Frame n)) (sym (ap (λ o. unwrap_or (frame_of (unwrap_or o loc.Zero)) 0) at))
    by (loc.Slot k) at so = absurd (false≢true so)
    by loc.Zero at so = absurd (false≢true so)

-- ---- a buffer that is written

either_way : (a b : Bool) → (not a || b) ≡ true → a ≡ true → b ≡ true
either_way true b h e = h
either_way false b h e = absurd (false≢true e)

-- where it is ready, none of its pages stands in a slot
ready_off_slots : (script : Script) (s : State) (b : BufId) (off : ℕ) (bytes : List ℕ) → HaveNoSlotsInTt s.core → IsThere s b → is_ready script s (command.Write b off bytes) b ≡ true → IsOffSlots (buffer s b)
ready_off_slots script s b off bytes full live ready = by (buffer s b).mem refl
  where
    x : Buffer
    x = buffer s b

    filled : (not (same_mem x.mem System) || has_all_frames x) ≡ true
    filled = (and_parts (is_in_place script (command.Write b off bytes) b x) (is_filled (command.Write b off bytes) x) ready).1

    by : (m : Mem) → x.mem ≡ m → IsOffSlots x
    by Vram q = λ i k e. no_slot_in_vram k (slice_get (pages_of x.spans) i) (sym (ap (λ l. page_in l x i) q) ∙ e)
    by Tt q = λ i k e. no_slot_in_table (slice_get x.table i) k (λ j g. full b x live q i j g) (sym (ap (λ l. page_in l x i) q) ∙ e)
    by System q = filled_off_slots x (λ n. either_way (same_mem x.mem System) (has_all_frames x) filled (ap (λ l. same_mem l System) q))

-- ---- what it tells

still_tells : (script : Script) (s : State) (t : ℕ) (k : Kind) → is_still k ≡ true → Tells script s (actor.Thread t) k
still_tells script s t (kind.New b) h = absurd (false≢true h)
still_tells script s t (kind.Free b g) h = absurd (false≢true h)
still_tells script s t (kind.Populate b page f) h = absurd (false≢true h)
still_tells script s t (kind.SwapIn b page k f) h = absurd (false≢true h)
still_tells script s t (kind.SwapOut b page k) h = absurd (false≢true h)
still_tells script s t (kind.Depopulate b) h = absurd (false≢true h)
still_tells script s t (kind.Move b mem n l) h = absurd (false≢true h)
still_tells script s t (kind.Reap g) h = absurd (false≢true h)
still_tells script s t (kind.Result r) h = absurd (false≢true h)
still_tells script s t k h = tt

-- a thread's entry tells so
pub thread_tells : (script : Script) (s : State) (t : ℕ) (k : Kind) → HaveNoSlotsInTt s.core → Told script s t k → Tells script s (actor.Thread t) k
thread_tells script s t k full (still e) = still_tells script s t _ e
thread_tells script s t k full (makes dead) = dead
thread_tells script s t k full (frees there quiet) = there
thread_tells script s t k full (leaves there) = there
thread_tells script s t k full (takes place there m c none) = tt
thread_tells script s t k full (untakes there) = tt
thread_tells script s t k full (populates {b} {f} there free l some tt_not) = (record { live = there; at = to_fill (buffer s b) loc.Zero some l }, free)
thread_tells script s t k full (swaps_in {b} {k = j} {f} there free l some tt_not) = (record { live = there; at = to_fill (buffer s b) (loc.Slot j) some l }, free)
thread_tells script s t k full (depopulates there m) = there
thread_tells script s t k full (binds there m t' f) = tt
thread_tells script s t k full (unbinds there quiet n) = tt
thread_tells script s t k full (moves_up there m t') = (there, λ e. absurd (ghost_not_now _ e))
thread_tells script s t k full (moves_across there m t') = (there, λ e. absurd (ghost_not_now _ e))
thread_tells script s t k full (moves_down there m t' f) = (there, λ e. absurd (ghost_not_now _ e))
thread_tells script s t k full (evicts there m t' f) = (there, λ e q. vram_not_tt (sym m ∙ q))
thread_tells script s t k full catches = tt
thread_tells script s t k full (swaps_out {b} {k = j} there m quiet f free) = (record { live = there; at = to_empty (buffer s b) f }, free, m)
thread_tells script s t k full (arms ops at live ready) = tt
thread_tells script s t k full (reads b off len at none) = λ c o values e. absurd (read_not_write b c off len o values (sym at ∙ e))
thread_tells script s t k full (writes b off bytes at there ready quiet) = λ c o values e.
    let same : b ≡ c = one_written b c off o bytes values (sym at ∙ e) in
    subst (λ d. IsOffSlots (buffer s d)) same (ready_off_slots script s b off bytes full there ready)
thread_tells script s t k full (results cmd at w q r) = λ c o values e.
    let same : cmd ≡ command.Write c o values = one_command cmd (command.Write c o values) (sym at ∙ e) in
    absurd (true≢false (sym (ap is_write same) ∙ w))

-- ---- the other actors

waited_tells : (script : Script) (s : State) (who : Actor) (o : Option JobId) (e k : Kind) → Tells script s who e → unless_waiting o e ≡ Ok k → Tells script s who k
waited_tells script s who None e k told h = subst (Tells script s who) (one_kind e k h) told
waited_tells script s who (Some job) e k told h = absurd (need_not_kind (need.Fence job) k h)

-- an engine's entry tells nothing of frames and slots
pub engine_tells : (script : Script) (s : State) (ctx : ℕ) (k : Kind) → next script s (actor.Engine ctx) ≡ Ok k → Tells script s (actor.Engine ctx) k
engine_tells script s ctx k h = by (head_of s ctx) h
  where
    run : (j : Job) (q : Bool) → (elim q as (λ q. Step) [ true ↦ unless_waiting (waited_for s.core j.waits) (kind.Packet j.id.num j.ran []) | false ↦ Ok (kind.Done j.id.num) ]) ≡ Ok k → Tells script s (actor.Engine ctx) k
    run j true e = waited_tells script s (actor.Engine ctx) (waited_for s.core j.waits) (kind.Packet j.id.num j.ran []) k tt e
    run j false e = waited_tells script s (actor.Engine ctx) None (kind.Done j.id.num) k tt e

    by : (o : Option Job) → (elim o as (λ o. Step) [ None ↦ Err need.NoJob | Some j ↦ step_of_job s j ]) ≡ Ok k → Tells script s (actor.Engine ctx) k
    by None e = absurd (need_not_kind need.NoJob k e)
    by (Some j) e = run j (nat_lt j.ran (length j.packets)) e

-- where ghosts have distinct numbers, the one that is reaped is the first
pub reaper_tells : (script : Script) (s : State) (k : Kind) → ((i j : ℕ) (g h : Ghost) → slice_get s.core.ghosts i ≡ Some g → slice_get s.core.ghosts j ≡ Some h → g.num ≡ h.num → i ≡ j) →
    next script s actor.Reaper ≡ Ok k → Tells script s actor.Reaper k
reaper_tells script s k distinct h = by (slice_get s.core.ghosts 0) refl h
  where
    by : (o : Option Ghost) → slice_get s.core.ghosts 0 ≡ o → (elim o as (λ o. Step) [ None ↦ Err need.NoGhost | Some g ↦ unless_waiting (waited_for s.core g.jobs) (kind.Reap g.num) ]) ≡ Ok k → Tells script s actor.Reaper k
    by None at e = absurd (need_not_kind need.NoGhost k e)
    by (Some g) at e =
        waited_tells script s actor.Reaper (waited_for s.core g.jobs) (kind.Reap g.num) k
        (record { place = 0; ghost = g; at = at; number = refl; only = λ i f here q. distinct i 0 f g here at q }) e
