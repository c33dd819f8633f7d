-- The stores after entries on frames and slots, and after those that leave bytes and aperture as they are.
use Rattle.std.proofs.Common.{◌≡◌, ℕ, zero, suc, ◌+◌, ◌*◌, ◌<◌, true, List, [], ◌∷◌, ◌++◌, Option, Some, None, refl, sym, ◌∙◌, ap, arith, length, get_or}
use Rattle.std.specs.Prelude.{slice_get, slice_set, fold, find, zip, flat_map, filter_map, option_map, option_and_then, ◌==◌}
use Rattle.ttm_base.specs.declared.Actor.{Actor}
use Rattle.ttm_base.specs.declared.Mem.{Mem}
use Rattle.ttm_base.specs.declared.Mem.TheVariants.{System, Tt, Vram}
use Rattle.ttm_base.specs.declared.BufId.{BufId}
use Rattle.ttm_base.specs.declared.JobId.{JobId}
use Rattle.ttm_base.specs.declared.Loc.TheVariants as loc
use Rattle.ttm_base.specs.declared.Op.{Op}
use Rattle.ttm_base.specs.declared.Span.{Span}
use Rattle.ttm_base.specs.declared.Usage.{Usage}
use Rattle.ttm_base.specs.declared.Usage.TheVariants as usage
use Rattle.ttm_base.specs.Pages.{frame, slot, PageBytes, Aperture}
use Rattle.byte_store.specs.Parts.{filled, overwritten, part}
use Rattle.byte_store.proofs.PartLaws.{length-filled, length-part, get_or-filled}
use Rattle.copy_packet.specs.StoreBytes.{HasPage, byte_at}
use Rattle.copy_packet.specs.declared.stores.Stores.{Stores}
use Rattle.copy_packet.proofs.SpotLaws.{page_byte}
use Rattle.swap_store.specs.Slots.{SwapSlots}
use Rattle.journal_model.specs.declared.script.Script.{Script}
use Rattle.journal_model.specs.declared.entry.Kind.{Kind}
use Rattle.journal_model.specs.declared.entry.Kind.TheVariants as kind
use Rattle.journal_model.specs.declared.entry.Why.{Why}
use Rattle.journal_model.specs.declared.state.Buffer.{Buffer}
use Rattle.journal_model.specs.declared.state.Core.{Core}
use Rattle.journal_model.specs.declared.state.State.{State}
use Rattle.journal_model.specs.rules.State.{buffer, live_in, changed, new_buffer}
use Rattle.journal_model.specs.rules.Commands.{decl, command_at_work}
use Rattle.journal_model.specs.rules.Places.{pages_of, page_at, mapped_in, aperture}
use Rattle.journal_model.specs.rules.Stores.{with_page_bytes}
use Rattle.journal_model.specs.rules.Waits.{jobs_before_target}
use Rattle.journal_model.specs.rules.Apply.{applied, thread_of}
use Rattle.journal_model.specs.rules.ApplyCommands.{named_in}
use Rattle.journal_model.specs.rules.ApplyPages.{with_fence, with_kernel_fences, with_spans, with_loc, without_frames}
use Rattle.journal_model.specs.rules.ApplyVictims.{leaves_tt}
use Rattle.journal_model.specs.rules.ApplyJobs.{with_use, ops_of}
use Rattle.room_representation.specs.Pages.{AreStores, AreSlots}
use Rattle.room_representation.specs.lemma_bytes.Mapped.{HasStores, HasStoresAfter, leaves_stores}
use Rattle.room_representation.proofs.lemma_bytes.Bytes.{stores_within, same_aperture, frame_there, stores_written}

-- ---- the aperture where one buffer keeps what it maps

set_maps : (bs : List (Option Buffer)) (i : ℕ) (o : Option Buffer) →
    flat_map (λ (x : Buffer). mapped_in x.mem x) (filter_map (λ x. x) (o ∷ [])) ≡ flat_map (λ (x : Buffer). mapped_in x.mem x) (filter_map (λ x. x) (option_and_then (λ x. x) (slice_get bs i) ∷ [])) →
    flat_map (λ (x : Buffer). mapped_in x.mem x) (filter_map (λ x. x) (slice_set bs i o)) ≡ flat_map (λ (x : Buffer). mapped_in x.mem x) (filter_map (λ x. x) bs)
set_maps [] i o h = refl
set_maps (a ∷ bs) zero o h = split o ∙ ap (λ l. l ++ flat_map (λ (x : Buffer). mapped_in x.mem x) (filter_map (λ x. x) bs)) h ∙ sym (split a)
  where
    none_behind : (l : List (ℕ × ℕ)) → l ++ [] ≡ l
    none_behind [] = refl
    none_behind (e ∷ l) = ap (λ m. e ∷ m) (none_behind l)

    split : (o : Option Buffer) → flat_map (λ (x : Buffer). mapped_in x.mem x) (filter_map (λ x. x) (o ∷ bs))
        ≡ flat_map (λ (x : Buffer). mapped_in x.mem x) (filter_map (λ x. x) (o ∷ [])) ++ flat_map (λ (x : Buffer). mapped_in x.mem x) (filter_map (λ x. x) bs)
    split None = refl
    split (Some x) = ap (λ l. l ++ flat_map (λ (x : Buffer). mapped_in x.mem x) (filter_map (λ x. x) bs)) (sym (none_behind (mapped_in x.mem x)))
set_maps (None ∷ bs) (suc i) o h = set_maps bs i o h
set_maps (Some x ∷ bs) (suc i) o h = ap (λ l. mapped_in x.mem x ++ l) (set_maps bs i o h)

abbrev aperture_by : List (ℕ × ℕ) → List (ℕ × ℕ) → Aperture
aperture_by live left = λ page. option_map (λ e. e.1) (find (λ e. e.0 == page) (live ++ left))

-- another buffer in the place of one, or of none, with the same mappings
pub aperture_set : (c : Core) (b : BufId) (o : Option Buffer) →
    flat_map (λ (x : Buffer). mapped_in x.mem x) (filter_map (λ x. x) (o ∷ [])) ≡ flat_map (λ (x : Buffer). mapped_in x.mem x) (filter_map (λ x. x) (live_in c.buffers b ∷ [])) →
    aperture (record c { buffers = slice_set c.buffers b.0 o }) ≡ aperture c
aperture_set c b o h = ap (λ l. aperture_by l (flat_map (λ g. zip (pages_of g.tt) g.frames) c.ghosts)) (set_maps c.buffers b.0 o h)

-- a live buffer that keeps its mappings
pub aperture_kept : (f : Buffer → Buffer) (c : Core) (b : BufId) → ((x : Buffer) → live_in c.buffers b ≡ Some x → mapped_in (f x).mem (f x) ≡ mapped_in x.mem x)
    → aperture (record c { buffers = changed f c.buffers b }) ≡ aperture c
aperture_kept f c b same = aperture_set c b (option_map f (live_in c.buffers b)) (by (live_in c.buffers b) refl)
  where
    by : (o : Option Buffer) → live_in c.buffers b ≡ o → flat_map (λ (x : Buffer). mapped_in x.mem x) (filter_map (λ x. x) (option_map f o ∷ [])) ≡ flat_map (λ (x : Buffer). mapped_in x.mem x) (filter_map (λ x. x) (o ∷ []))
    by None e = refl
    by (Some x) e = ap (λ l. l ++ []) (same x e)

-- a buffer out of TT maps nothing
out_maps : (m : Mem) (x : Buffer) → (m ≡ Tt → ⊥) → mapped_in m x ≡ []
out_maps Tt x ne = absurd (ne refl)
out_maps Vram x ne = refl
out_maps System x ne = refl

-- ---- what changes of a buffer keep

retargeted_maps : (m : Mem) (o : Option (List Span)) (l : Mem) (x : Buffer) → mapped_in l (with_spans m o x) ≡ mapped_in l x
retargeted_maps m o Tt x = refl
retargeted_maps m o Vram x = refl
retargeted_maps m o System x = refl

fenced_maps : (job : JobId) (how : Usage) (l : Mem) (x : Buffer) → mapped_in l (with_fence job how x) ≡ mapped_in l x
fenced_maps job how Tt x = refl
fenced_maps job how Vram x = refl
fenced_maps job how System x = refl

kernel_maps : (jobs : List JobId) (x : Buffer) → mapped_in (with_kernel_fences jobs x).mem (with_kernel_fences jobs x) ≡ mapped_in x.mem x
kernel_maps [] x = refl
kernel_maps (j ∷ jobs) x = kernel_maps jobs (with_fence j usage.Kernel x) ∙ fenced_maps j usage.Kernel x.mem x

caught_maps : (l : Mem) (x : Buffer) → x.mem ≡ l → mapped_in (leaves_tt l x).mem (leaves_tt l x) ≡ mapped_in x.mem x
caught_maps Tt x e = retargeted_maps System (Some []) x.mem x
caught_maps Vram x e = refl
caught_maps System x e = refl

uses_maps : (job : JobId) (ops : List Op) (bs : List BufId) (c : Core) → aperture (record c { buffers = fold (with_use job ops) c.buffers bs }) ≡ aperture c
uses_maps job ops [] c = refl
uses_maps job ops (b ∷ bs) c = uses_maps job ops bs (record c { buffers = with_use job ops c.buffers b }) ∙ aperture_kept (with_fence job _) c b (λ x e. fenced_maps job _ x.mem x)

-- ---- each kind

module _ (script : Script) (s : State) (bytes : PageBytes) (st : Stores) (t : HasStores script s bytes st) (who : Actor) where
  -- a kind that changes no buffer, no ghost and no byte
  pub still_stores : (k : Kind) → leaves_stores k ≡ true → HasStoresAfter script s bytes who k st
  still_stores (kind.Ticket stamp) h = stores_within script.sizes (aperture s.core) bytes st t
  still_stores (kind.Reserve b) h = stores_within script.sizes (aperture s.core) bytes st t
  still_stores (kind.Backoff b stamp) h = stores_within script.sizes (aperture s.core) bytes st t
  still_stores (kind.Loose b) h = stores_within script.sizes (aperture s.core) bytes st t
  still_stores (kind.Skip b) h = stores_within script.sizes (aperture s.core) bytes st t
  still_stores (kind.Dry b k w) h = stores_within script.sizes (aperture s.core) bytes st t
  still_stores (kind.NoPages b) h = stores_within script.sizes (aperture s.core) bytes st t
  still_stores (kind.Done n) h = stores_within script.sizes (aperture s.core) bytes st t
  still_stores (kind.Bulk group) h = stores_within script.sizes (aperture s.core) bytes st t
  still_stores (kind.Refused d) h = stores_within script.sizes (aperture s.core) bytes st t
  still_stores _ h = cc

  kept_stores : (new : Aperture) → new ≡ aperture s.core → AreStores script.sizes new bytes st
  kept_stores new e = same_aperture script.sizes (aperture s.core) new bytes st t (λ p. ap (λ (a : Aperture). a p) e)

  -- a target comes
  pub take_stores : (b : BufId) (mem : Mem) (spans : List Span) → HasStoresAfter script s bytes who (kind.Take b mem spans) st
  take_stores b mem spans =
      stores_within script.sizes (aperture (applied script s who (kind.Take b mem spans)).core) bytes st
      (kept_stores _ (aperture_kept (λ x. with_kernel_fences (jobs_before_target s.core mem) (with_spans mem (Some spans) x)) s.core b
      (λ x e. kernel_maps (jobs_before_target s.core mem) (with_spans mem (Some spans) x) ∙ retargeted_maps mem (Some spans) x.mem x)))

  -- a target goes
  pub untake_stores : (b : BufId) (mem : Mem) → HasStoresAfter script s bytes who (kind.Untake b mem) st
  untake_stores b mem =
      stores_within script.sizes (aperture (applied script s who (kind.Untake b mem)).core) bytes st
      (kept_stores _ (aperture_kept (with_spans mem None) s.core b (λ x e. retargeted_maps mem None x.mem x)))

  -- a victim is caught
  pub catch_stores : (b : BufId) (w : Why) → HasStoresAfter script s bytes who (kind.Catch b w) st
  catch_stores b w =
      stores_within script.sizes (aperture (applied script s who (kind.Catch b w)).core) bytes st
      (kept_stores _ (aperture_kept (λ x. leaves_tt x.mem x) s.core b (λ x e. caught_maps x.mem x refl)))

  -- a buffer is made
  pub new_stores : (b : BufId) → live_in s.core.buffers b ≡ None → HasStoresAfter script s bytes who (kind.New b) st
  new_stores b dead =
      stores_within script.sizes (aperture (applied script s who (kind.New b)).core) bytes st
      (kept_stores _ (aperture_set s.core b (Some (new_buffer (decl script b).pages)) (ap (λ (o : Option Buffer). flat_map (λ (x : Buffer). mapped_in x.mem x) (filter_map (λ x. x) (o ∷ []))) (sym dead))))

  -- a thread's job is emitted
  pub arm_stores : (engine n : ℕ) → HasStoresAfter script s bytes who (kind.Arm engine n) st
  arm_stores engine n =
      let cmd = command_at_work script s (thread_of who) in
      stores_within script.sizes (aperture (applied script s who (kind.Arm engine n)).core) bytes st
      (kept_stores _ (uses_maps (record { ctx = engine; num = n }) (ops_of cmd) (named_in cmd) s.core))

  module _ (b : BufId) (out : (x : Buffer) → live_in s.core.buffers b ≡ Some x → x.mem ≡ Tt → ⊥) where
    table_kept : (f : Buffer → Buffer) → ((x : Buffer) → (f x).mem ≡ x.mem) → aperture (record s.core { buffers = changed f s.core.buffers b }) ≡ aperture s.core
    table_kept f same =
        aperture_kept f s.core b
        (λ x e. out_maps (f x).mem (f x) (λ q. out x e (sym (same x) ∙ q)) ∙ sym (out_maps x.mem x (out x e)))

    -- frames are given back
    pub depopulate_stores : HasStoresAfter script s bytes who (kind.Depopulate b) st
    depopulate_stores = stores_within script.sizes (aperture (applied script s who (kind.Depopulate b)).core) bytes st (kept_stores _ (table_kept without_frames (λ x. refl)))

    -- a page goes to a slot; the bytes of its frame stay
    pub swap_out_stores : (page k : ℕ) → HasStoresAfter script s bytes who (kind.SwapOut b page k) st
    swap_out_stores page k =
        let u = kept_stores _ (table_kept (with_loc page (loc.Slot k)) (λ x. refl)) in
        stores_within script.sizes (aperture (applied script s who (kind.SwapOut b page k)).core) (with_page_bytes (slot k) (bytes (page_at (buffer s b) page)) bytes) st
        (record { vram_size = u.vram_size; frame_size = u.frame_size; aper_size = u.aper_size; in_vram = u.in_vram; in_frames = u.in_frames; mapped = u.mapped })

    module _ (page f : ℕ) (there : f < script.sizes.frames) (new : List ℕ) where
      frame_written : (xs : List ℕ) (value : ℕ → ℕ) → length xs ≡ 4096 → ((i : ℕ) → i < 4096 → get_or xs i 0 ≡ value i) → new ≡ overwritten st.frames (4096 * f) xs
          → AreStores script.sizes (aperture (record s.core { buffers = changed (with_loc page (loc.Frame f)) s.core.buffers b })) (with_page_bytes (frame f) value bytes) (record st { frames = new })
      frame_written xs value long each is =
          let u = kept_stores _ (table_kept (with_loc page (loc.Frame f)) (λ x. refl)) in
          let start : 4096 * f ≡ 4096 * f + 0 = omega arith in
          stores_written script.sizes (aperture (record s.core { buffers = changed (with_loc page (loc.Frame f)) s.core.buffers b })) bytes st u 0 xs (omega (arith, long)) (frame f) 4096 value (record st { frames = new })
          (frame_there script.sizes (aperture s.core) bytes st t f there) long each
          (ap (λ (l : List ℕ). let n : Stores = record st { frames = l } in n) (is ∙ ap (λ n. overwritten st.frames n xs) start))

      -- a page gets a frame of zeros
      pub populate_stores : new ≡ overwritten st.frames (4096 * f) (filled 4096 0) → HasStoresAfter script s bytes who (kind.Populate b page f) (record st { frames = new })
      populate_stores is =
          stores_within script.sizes (aperture (applied script s who (kind.Populate b page f)).core) (with_page_bytes (frame f) (λ o. 0) bytes) (record st { frames = new })
          (frame_written (filled 4096 0) (λ o. 0) (length-filled 4096 0) (λ i l. get_or-filled 4096 0 i 0 l) is)

      -- a page comes back from its slot, with the slot's bytes
      pub swap_in_stores : (k : ℕ) (named : List ℕ) (slots : SwapSlots) (xs : List ℕ) → AreSlots script.sizes.swap named bytes slots → k < script.sizes.swap → HasPage slots.bytes k
          → xs ≡ part slots.bytes (4096 * k) 4096 → new ≡ overwritten st.frames (4096 * f) xs → HasStoresAfter script s bytes who (kind.SwapIn b page k f) (record st { frames = new })
      swap_in_stores k named slots xs u below has whole is =
          stores_within script.sizes (aperture (applied script s who (kind.SwapIn b page k f)).core) (with_page_bytes (frame f) (bytes (slot k)) bytes) (record st { frames = new })
          (frame_written xs (bytes (slot k)) (ap length whole ∙ length-part slots.bytes (4096 * k) 4096 (omega (arith, has))) each is)
        where
          each : (i : ℕ) → i < 4096 → get_or xs i 0 ≡ bytes (slot k) i
          each i l =
              let start : 4096 * k ≡ 4096 * k + 0 = omega arith in
              ap (λ (l : List ℕ). get_or l i 0) (whole ∙ ap (λ n. part slots.bytes n 4096) start)
              ∙ page_byte (record { vram = []; frames = slots.bytes; aper = [] }) (frame k) 0 4096 i has (omega arith) l
              ∙ ap (byte_at slots.bytes k) (let e : 0 + i ≡ i = omega arith in e)
              ∙ u.bytes_are k i below
