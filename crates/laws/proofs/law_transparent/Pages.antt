-- Entries that give a page of a buffer a frame or a slot.
use mathlib.Core.Path.{fun_ext}
use Rattle.std.proofs.Common.{◌≡◌, ℕ, ◌<◌, true, false, length, Some, None, refl, sym, subst, ◌∙◌, ap, ⊎_elim}
use Rattle.ttm_base.specs.declared.Mem.{Mem}
use Rattle.ttm_base.specs.declared.Mem.TheVariants as mem
use Rattle.ttm_base.specs.declared.BufId.{BufId}
use Rattle.ttm_base.specs.declared.Loc.{Loc}
use Rattle.ttm_base.specs.declared.Loc.TheVariants as loc
use Rattle.ttm_base.specs.Pages as pages
use Rattle.journal_model.specs.declared.script.Script.{Script}
use Rattle.journal_model.specs.declared.state.Core.{Core}
use Rattle.journal_model.specs.declared.state.Buffer.{Buffer}
use Rattle.journal_model.specs.rules.State.{changed}
use Rattle.journal_model.specs.rules.Holds.{free_frame, free_slot}
use Rattle.journal_model.specs.rules.Places.{page_at, page_in_table, loc_of}
use Rattle.journal_model.specs.rules.Waits.{waited_for, jobs_before_write}
use Rattle.journal_model.specs.rules.Stores.{is_there, within}
use Rattle.journal_model.specs.rules.Stores as stores
use Rattle.journal_model.specs.rules.PlainMemory.{Memory, OwedProbes}
use Rattle.journal_model.specs.rules.ApplyPages.{with_loc}
use Rattle.laws.proofs.law_owners.Law.{AreHeldOnce}
use Rattle.laws.specs.lemma_bytes_model.Memory.{Nowhere, Frame, Slot, touched}
use Rattle.laws.specs.lemma_bytes_model.View.{Idle}
use Rattle.laws.specs.lemma_bytes_model.Entries.{relocated}
use Rattle.laws.proofs.lemma_bytes_model.Cpu.{idle_untouched, done_untouched}
use Rattle.laws.specs.law_holders.Holding.{seen, live_at, buffer_at, HeldOnce}
use Rattle.laws.proofs.law_holders.HeldOnce.{held_once}
use Rattle.laws.proofs.lemma_bytes_view.World.{bare}
use Rattle.laws.proofs.lemma_bytes_view.PacketStep.{no_bytes}
use Rattle.laws.proofs.lemma_bytes_view.Binds.{IsAt, at_is, idle_done, stands_by_table}
use Rattle.laws.proofs.lemma_bytes_view.Refills.{refill_good, refill_seen}
use Rattle.laws.proofs.lemma_bytes_view.Fills.{fill_viewed}
use Rattle.laws.proofs.lemma_bytes_view.Viewed.{Viewed}
use Rattle.laws.proofs.law_transparent.Idles.{frame_idle, frame_there, slot_idle, slot_there}

module _ (script : Script) (c : Core) (owed_probes : OwedProbes) (m : Memory) (bytes : pages.PageBytes) (u : Viewed script c owed_probes m bytes) (held : AreHeldOnce script c) (b : BufId) (x : Buffer) (is : IsAt c b x) where
  before : HeldOnce (bare c)
  before = held_once script (bare c) held

  place_is : (i : ℕ) → (x.mem ≡ mem.Vram → ⊥) → u.view.place b.0 i ≡ seen (page_in_table (loc_of x i))
  place_is i ne = u.seen.place b.0 i ∙ ap (λ y. live_at y i) (at_is c b x is) ∙ ap seen (stands_by_table x i ne)

  system_not_vram : x.mem ≡ mem.System → x.mem ≡ mem.Vram → ⊥
  system_not_vram e h = let z : mem.System ≡ mem.Vram = sym e ∙ h in cc

  -- a page in SYSTEM goes to another place
  refilled : (i : ℕ) (l : Loc) (system : x.mem ≡ mem.System) (inside : i < length x.table) → AreHeldOnce script (record c { buffers = changed (with_loc i l) c.buffers b }) →
      u.view.owner (seen (page_in_table l)) ≡ Idle → (Nowhere ≡ seen (page_in_table l) → ⊥) → is_there script.sizes (page_in_table l) ≡ true → ((j : ℕ) → touched (u.view.left j) (u.view.place b.0 i) ≡ false) →
      Viewed script (record c { buffers = changed (with_loc i l) c.buffers b }) owed_probes m (within script.sizes (stores.with_page_bytes (page_in_table l) (bytes (page_at x i)) bytes))
  refilled i l system inside once idle some there untouched = record {
    view = relocated b.0 i (seen (page_in_table l)) u.view;
    good = refill_good script c owed_probes m bytes u.view u.seen u.good b x is i l system inside before once idle some there untouched;
    seen = refill_seen script c owed_probes m bytes u.view u.seen u.good b x is i l system inside before once idle some there untouched;
  }

  zeros_nowhere : bytes pages.nowhere ≡ λ o. 0
  zeros_nowhere = fun_ext (λ o. u.seen.cut pages.nowhere o refl)

  as_vram : x.mem ≡ mem.Vram → x ≡ record { mem = mem.Vram; spans = x.spans; table = x.table; targets = x.targets; fences = x.fences }
  as_vram e = ap (λ (l : Mem). record { mem = l; spans = x.spans; table = x.table; targets = x.targets; fences = x.fences }) e

  -- a fresh frame, in SYSTEM or for a buffer in VRAM
  pub populate_viewed : (i f : ℕ) → i < length x.table → loc_of x i ≡ loc.Zero → (x.mem ≡ mem.Tt → ⊥) → free_frame script c ≡ Some f → AreHeldOnce script (record c { buffers = changed (with_loc i (loc.Frame f)) c.buffers b }) →
      Viewed script (record c { buffers = changed (with_loc i (loc.Frame f)) c.buffers b }) owed_probes m (within script.sizes (stores.with_page_bytes (pages.frame f) (λ o. 0) bytes))
  populate_viewed i f inside zero ne free once = by x.mem refl
    where
      idle : u.view.owner (Frame f) ≡ Idle
      idle = u.seen.owner (Frame f) ∙ frame_idle script c held f free

      in_system : x.mem ≡ mem.System → Viewed script (record c { buffers = changed (with_loc i (loc.Frame f)) c.buffers b }) owed_probes m (within script.sizes (stores.with_page_bytes (pages.frame f) (λ o. 0) bytes))
      in_system e =
          let n = system_not_vram e in
          let nowhere : u.view.place b.0 i ≡ Nowhere = place_is i n ∙ ap (λ l. seen (page_in_table l)) zero in
          let old : bytes (page_at x i) ≡ λ o. 0 = ap bytes (stands_by_table x i n ∙ ap page_in_table zero) ∙ zeros_nowhere in
          subst (λ value. Viewed script (record c { buffers = changed (with_loc i (loc.Frame f)) c.buffers b }) owed_probes m (within script.sizes (stores.with_page_bytes (pages.frame f) value bytes))) old
          (refilled i (loc.Frame f) e inside once idle (λ q. cc) (frame_there script c held f free) (λ j. ap (touched (u.view.left j)) nowhere ∙ idle_untouched no_bytes u.view u.good Nowhere u.good.nowhere j))

      in_vram : x.mem ≡ mem.Vram → Viewed script (record c { buffers = changed (with_loc i (loc.Frame f)) c.buffers b }) owed_probes m (within script.sizes (stores.with_page_bytes (pages.frame f) (λ o. 0) bytes))
      in_vram e = fill_viewed script c owed_probes m bytes u b x.spans x.table x.targets x.fences (record { live = is.live ∙ ap Some (as_vram e) }) i f zero once idle

      by : (l : Mem) → x.mem ≡ l → Viewed script (record c { buffers = changed (with_loc i (loc.Frame f)) c.buffers b }) owed_probes m (within script.sizes (stores.with_page_bytes (pages.frame f) (λ o. 0) bytes))
      by mem.System e = in_system e
      by mem.Vram e = in_vram e
      by mem.Tt e = absurd (ne e)

  -- back from swap
  pub swap_in_viewed : (i k f : ℕ) → x.mem ≡ mem.System → i < length x.table → loc_of x i ≡ loc.Slot k → free_frame script c ≡ Some f → AreHeldOnce script (record c { buffers = changed (with_loc i (loc.Frame f)) c.buffers b }) →
      Viewed script (record c { buffers = changed (with_loc i (loc.Frame f)) c.buffers b }) owed_probes m (within script.sizes (stores.with_page_bytes (pages.frame f) (bytes (pages.slot k)) bytes))
  swap_in_viewed i k f e inside there free once =
      let n = system_not_vram e in
      let at : u.view.place b.0 i ≡ Slot k = place_is i n ∙ ap (λ l. seen (page_in_table l)) there in
      let old : page_at x i ≡ pages.slot k = stands_by_table x i n ∙ ap page_in_table there in
      subst (λ q. Viewed script (record c { buffers = changed (with_loc i (loc.Frame f)) c.buffers b }) owed_probes m (within script.sizes (stores.with_page_bytes (pages.frame f) (bytes q) bytes))) old
      (refilled i (loc.Frame f) e inside once (u.seen.owner (Frame f) ∙ frame_idle script c held f free) (λ q. cc) (frame_there script c held f free) (λ j. ap (touched (u.view.left j)) at ∙ u.good.slots j k))

  -- out to swap, once its jobs are done
  pub swap_out_viewed : (i k : ℕ) → x.mem ≡ mem.System → i < length x.table → waited_for c (jobs_before_write x) ≡ None → free_slot script c ≡ Some k → AreHeldOnce script (record c { buffers = changed (with_loc i (loc.Slot k)) c.buffers b }) →
      Viewed script (record c { buffers = changed (with_loc i (loc.Slot k)) c.buffers b }) owed_probes m (within script.sizes (stores.with_page_bytes (pages.slot k) (bytes (page_at x i)) bytes))
  swap_out_viewed i k e inside idle free once =
      refilled i (loc.Slot k) e inside once (u.seen.owner (Slot k) ∙ slot_idle script c held k free) (λ q. cc) (slot_there script c held k free) untouched
    where
      quiet : waited_for c (jobs_before_write (buffer_at c b.0)) ≡ None
      quiet = ap (λ y. waited_for c (jobs_before_write y)) (at_is c b x is) ∙ idle

      untouched : (j : ℕ) → touched (u.view.left j) (u.view.place b.0 i) ≡ false
      untouched j =
          ⊎_elim
          (λ z. ap (touched (u.view.left j)) z ∙ idle_untouched no_bytes u.view u.good Nowhere u.good.nowhere j)
          (λ o. done_untouched no_bytes u.view u.good b.0 i (u.view.place b.0 i) o (idle_done script c owed_probes m bytes u.view u.seen b.0 quiet) j)
          (u.good.placed b.0 i)
