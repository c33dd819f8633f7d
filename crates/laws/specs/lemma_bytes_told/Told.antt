-- What a thread's entry tells of the state before it, kind by kind, as far as bytes depend on it.
use Rattle.std.specs.Prelude.{◌≡◌, ℕ, Bool, true, false, List, [], Some, None}
use Rattle.ttm_base.specs.declared.Mem.{Mem}
use Rattle.ttm_base.specs.declared.Mem.TheVariants.{System, Tt, Vram}
use Rattle.ttm_base.specs.declared.BufId.{BufId}
use Rattle.ttm_base.specs.declared.Span.{Span}
use Rattle.ttm_base.specs.declared.Op.{Op}
use Rattle.ttm_base.specs.declared.Place.{Place}
use Rattle.ttm_base.specs.declared.Loc.TheVariants as loc
use Rattle.journal_model.specs.declared.script.Script.{Script}
use Rattle.journal_model.specs.declared.script.Command.{Command}
use Rattle.journal_model.specs.declared.script.Command.TheVariants as command
use Rattle.journal_model.specs.declared.state.State.{State}
use Rattle.journal_model.specs.declared.state.Buffer.{Buffer}
use Rattle.journal_model.specs.declared.entry.Kind.{Kind}
use Rattle.journal_model.specs.declared.entry.Kind.TheVariants as kind
use Rattle.journal_model.specs.declared.entry.Left.TheVariants as left
use Rattle.journal_model.specs.declared.entry.Why.{Why}
use Rattle.journal_model.specs.declared.entry.Why.TheVariants as why
use Rattle.journal_model.specs.declared.entry.Shown.{Shown}
use Rattle.journal_model.specs.declared.entry.Shown.TheVariants as shown
use Rattle.journal_model.specs.rules.State.{buffer, live_in, has_buffer, has_target}
use Rattle.journal_model.specs.rules.Commands.{named, command_at_work}
use Rattle.journal_model.specs.rules.Choice.{choice}
use Rattle.journal_model.specs.rules.Dry.{has_frame}
use Rattle.journal_model.specs.rules.Holds.{free_frame, free_slot}
use Rattle.journal_model.specs.rules.Places.{loc_of}
use Rattle.journal_model.specs.rules.Ready.{has_all_frames, has_some_target, is_ready}
use Rattle.journal_model.specs.rules.Waits.{waited_for, jobs_before_read, jobs_before_write}
use Rattle.journal_model.specs.rules.PageSteps.{page_to_fill, first_frame_page, next_job, next_ghost}

-- the kind leaves core and bytes alone
abbrev pub is_still : Kind → Bool
is_still (kind.Ticket stamp) = true
is_still (kind.Reserve b) = true
is_still (kind.Backoff b stamp) = true
is_still (kind.Loose b) = true
is_still (kind.Skip b) = true
is_still (kind.Dry b k w) = true
is_still (kind.NoPages b) = true
is_still (kind.Bulk group) = true
is_still (kind.Refused d) = true
is_still _ = false

abbrev pub is_write : Command → Bool
is_write (command.Write b off bytes) = true
is_write _ = false

abbrev pub is_read : Command → Bool
is_read (command.Read b off len) = true
is_read _ = false

-- the result shows bytes
abbrev pub shows_bytes : Shown → Bool
shows_bytes (shown.Read bytes) = true
shows_bytes shown.Plain = false
shows_bytes (shown.Find mem spans) = false

-- a victim with a target in SYSTEM has left VRAM, and one that was caught for swap gives frames in SYSTEM alone
pub record OnWay (x : Buffer) (w : Why) : Type 0 where
  pub back : has_target System x ≡ true → x.mem ≡ Vram → ⊥
  pub swap : w ≡ why.Swap → has_target System x ≡ false → x.mem ≡ System

-- the buffer is live
abbrev pub IsThere : State → BufId → Type 0
IsThere s b = live_in s.core.buffers b ≡ Some (buffer s b)

-- no job of the buffer is waited for
abbrev pub IsQuiet : State → BufId → Type 0
IsQuiet s b = waited_for s.core (jobs_before_write (buffer s b)) ≡ None

pub data Told (script : Script) (s : State) (t : ℕ) : Kind → Type 0 where
  still : {k : Kind} → is_still k ≡ true → Told script s t k
  makes : {b : BufId} → live_in s.core.buffers b ≡ None → Told script s t (kind.New b)
  frees : {b : BufId} → IsThere s b → IsQuiet s b → Told script s t (kind.Free b 0)
  leaves : {b : BufId} → IsThere s b → Told script s t (kind.Free b (next_ghost s))
  takes : {b : BufId} {mem : Mem} {spans : List Span} (place : Place) → IsThere s b → place.mem ≡ mem → choice script s.core b place ≡ Some spans → (mem ≡ Vram → has_some_target (buffer s b) ≡ false) → Told script s t (kind.Take b mem spans)
  untakes : {b : BufId} {mem : Mem} → IsThere s b → Told script s t (kind.Untake b mem)
  populates : {b : BufId} {f : ℕ} → IsThere s b → free_frame script s.core ≡ Some f → loc_of (buffer s b) (page_to_fill (buffer s b)) ≡ loc.Zero → has_all_frames (buffer s b) ≡ false → ((buffer s b).mem ≡ Tt → ⊥) →
      Told script s t (kind.Populate b (page_to_fill (buffer s b)) f)
  swaps_in : {b : BufId} {k f : ℕ} → IsThere s b → free_frame script s.core ≡ Some f → loc_of (buffer s b) (page_to_fill (buffer s b)) ≡ loc.Slot k → has_all_frames (buffer s b) ≡ false → ((buffer s b).mem ≡ Tt → ⊥) →
      Told script s t (kind.SwapIn b (page_to_fill (buffer s b)) k f)
  depopulates : {b : BufId} → IsThere s b → (buffer s b).mem ≡ Vram → Told script s t (kind.Depopulate b)
  binds : {b : BufId} → IsThere s b → (buffer s b).mem ≡ System → has_target Tt (buffer s b) ≡ true → has_all_frames (buffer s b) ≡ true → Told script s t (kind.Bind b)
  unbinds : {b : BufId} → IsThere s b → IsQuiet s b → ((buffer s b).mem ≡ Vram → ⊥) → Told script s t (kind.Unbind b)
  moves_up : {b : BufId} → IsThere s b → (buffer s b).mem ≡ Tt → has_target Vram (buffer s b) ≡ true → Told script s t (kind.Move b Vram (next_job s 0) (left.Ghost (next_ghost s)))
  moves_across : {b : BufId} → IsThere s b → (buffer s b).mem ≡ Vram → has_target Vram (buffer s b) ≡ true → Told script s t (kind.Move b Vram (next_job s 0) (left.Ghost (next_ghost s)))
  moves_down : {b : BufId} → IsThere s b → (buffer s b).mem ≡ Vram → has_target Tt (buffer s b) ≡ true → has_all_frames (buffer s b) ≡ true → Told script s t (kind.Move b Tt (next_job s 0) (left.Ghost (next_ghost s)))
  evicts : {b : BufId} → IsThere s b → (buffer s b).mem ≡ Vram → has_target Tt (buffer s b) ≡ true → has_all_frames (buffer s b) ≡ true → Told script s t (kind.Move b Tt (next_job s 0) left.Now)
  catches : {b : BufId} {w : Why} → Told script s t (kind.Catch b w)
  swaps_out : {b : BufId} {k : ℕ} → IsThere s b → (buffer s b).mem ≡ System → IsQuiet s b → has_frame (buffer s b) ≡ true → free_slot script s.core ≡ Some k → Told script s t (kind.SwapOut b (first_frame_page (buffer s b)) k)
  arms : {engine : ℕ} (ops : List Op) → command_at_work script s t ≡ Some (command.Submit engine ops) → ((b : BufId) → has_buffer (named (command.Submit engine ops)) b ≡ true → IsThere s b) →
      ((b : BufId) → has_buffer (named (command.Submit engine ops)) b ≡ true → is_ready script s (command.Submit engine ops) b ≡ true) → Told script s t (kind.Arm engine (next_job s engine))
  reads : (b : BufId) (off len : ℕ) → command_at_work script s t ≡ Some (command.Read b off len) → waited_for s.core (jobs_before_read (buffer s b)) ≡ None → Told script s t (kind.Result (shown.Read []))
  writes : (b : BufId) (off : ℕ) (bytes : List ℕ) → command_at_work script s t ≡ Some (command.Write b off bytes) → IsThere s b → is_ready script s (command.Write b off bytes) b ≡ true → IsQuiet s b → Told script s t (kind.Result shown.Plain)
  results : {r : Shown} (cmd : Command) → command_at_work script s t ≡ Some cmd → is_write cmd ≡ false → is_read cmd ≡ false → shows_bytes r ≡ false → Told script s t (kind.Result r)
