-- The bytes that a read shows, and those that a page takes to its slot, are those that the parts have.
use Rattle.std.proofs.Common.{◌≡◌, ℕ, zero, suc, ◌+◌, ◌*◌, ◌/◌, ◌%◌, ◌<◌, ◌≤◌, true, List, [], ◌∷◌, ◌++◌, Option, Some, refl, sym, ◌∙◌, ap, ap₂, arith, get_or, replicate}
use Rattle.std.specs.Prelude.{map}
use Rattle.ttm_base.specs.declared.Actor.{Actor}
use Rattle.ttm_base.specs.declared.BufId.{BufId}
use Rattle.ttm_base.specs.ListWords.{count_from}
use Rattle.ttm_base.specs.Pages.{Page, nowhere, vram, frame, slot, PageBytes, Aperture}
use Rattle.byte_store.specs.Parts.{part}
use Rattle.copy_packet.specs.Spots.{part_at, spot_at}
use Rattle.copy_packet.specs.StoreBytes.{IsThere, HasPage, byte_at, bytes_of}
use Rattle.copy_packet.specs.declared.stores.Stores.{Stores}
use Rattle.copy_packet.proofs.SpotLaws.{page_byte, page_read}
use Rattle.swap_store.specs.Slots.{SwapSlots}
use Rattle.journal_model.specs.declared.script.Script.{Script}
use Rattle.journal_model.specs.declared.script.Sizes.{Sizes}
use Rattle.journal_model.specs.declared.script.Command.{Command}
use Rattle.journal_model.specs.declared.script.Command.TheVariants as command
use Rattle.journal_model.specs.declared.entry.Kind.TheVariants as kind
use Rattle.journal_model.specs.declared.entry.Shown.TheVariants as shown
use Rattle.journal_model.specs.declared.state.Buffer.{Buffer}
use Rattle.journal_model.specs.declared.state.State.{State}
use Rattle.journal_model.specs.rules.State.{buffer}
use Rattle.journal_model.specs.rules.Commands.{command_at_work}
use Rattle.journal_model.specs.rules.Places.{page_at}
use Rattle.journal_model.specs.rules.Stores as model
use Rattle.journal_model.specs.rules.Stores.{byte_of, showing, shown_by_read}
use Rattle.journal_model.specs.rules.Apply.{thread_of}
use Rattle.room_representation.specs.Pages.{AreStores, AreSlots, HasNoMore}
use Rattle.room_representation.specs.lemma_bytes.Shown.{is_in_stores}
use Rattle.room_representation.proofs.lemma_bytes.Bytes.{frame_there}

-- ---- ranges of a buffer

-- a range of bytes is one part and another after it
pub range_append : (bytes : PageBytes) (x : Buffer) (m off n : ℕ) → model.bytes_of bytes x off (m + n) ≡ model.bytes_of bytes x off m ++ model.bytes_of bytes x (off + m) n
range_append bytes x zero off n =
    let e : 0 + n ≡ n = omega arith in
    let g : off ≡ off + 0 = omega arith in
    ap₂ (model.bytes_of bytes x) g e
range_append bytes x (suc m) off n =
    let e : suc m + n ≡ suc (m + n) = omega arith in
    let g : 1 + off + m ≡ off + suc m = omega arith in
    ap (model.bytes_of bytes x off) e ∙ ap (λ l. byte_of bytes x off ∷ l) (range_append bytes x m (1 + off) n ∙ ap (λ k. model.bytes_of bytes x (1 + off) m ++ model.bytes_of bytes x k n) g)

-- bytes of one page are those of the part, where each of them is
alike : (bytes : PageBytes) (x : Buffer) (page : Page) (f : ℕ → ℕ) → ((i : ℕ) → page_at x (i / 4096) ≡ page → byte_of bytes x i ≡ f (i % 4096)) → (len off : ℕ) → page_at x (off / 4096) ≡ page → off % 4096 + len ≤ 4096
    → map (byte_of bytes x) (count_from 1 len off) ≡ map f (count_from 1 len (off % 4096))
alike bytes x page f each zero off at fits = refl
alike bytes x page f each (suc zero) off at fits = ap (λ n. n ∷ []) (each off at)
alike bytes x page f each (suc (suc len)) off at fits =
    let same : (1 + off) / 4096 ≡ off / 4096 = omega arith in
    let more : (1 + off) % 4096 ≡ 1 + off % 4096 = omega arith in
    ap₂ (λ n l. n ∷ l) (each off at)
    (alike bytes x page f each (suc len) (1 + off) (ap (page_at x) same ∙ at) (omega (arith, fits, more)) ∙ ap (λ o. map f (count_from 1 (suc len) o)) more)

module _ (sizes : Sizes) (aper : Aperture) (bytes : PageBytes) (st : Stores) (t : AreStores sizes aper bytes st) where
  -- the page of a frame has the bytes that its slot is to have
  pub frame_read : (f : ℕ) → f < sizes.frames → (i : ℕ) → i < 4096 → get_or (part st.frames (4096 * f) 4096) i 0 ≡ bytes (frame f) i
  frame_read f there i l =
      let start : 4096 * f ≡ 4096 * f + 0 = omega arith in
      let e : 0 + i ≡ i = omega arith in
      ap (λ n. get_or (part st.frames n 4096) i 0) start
      ∙ page_byte st (frame f) 0 4096 i (frame_there sizes aper bytes st t f there) (omega arith) l
      ∙ ap (byte_at st.frames f) e ∙ t.in_frames f i

  -- a byte whose page is in a slot is the slot's
  pub slot_byte_shown : (named : List ℕ) (slots : SwapSlots) (x : Buffer) (i k : ℕ) → AreSlots sizes.swap named bytes slots → page_at x (i / 4096) ≡ slot k → k < sizes.swap
      → byte_of bytes x i ≡ byte_at slots.bytes k (i % 4096)
  slot_byte_shown named slots x i k u at there = ap (λ q. bytes q (i % 4096)) at ∙ sym (u.bytes_are k (i % 4096) there)

  -- bytes of one page that is in a slot are a part of the slots' bytes
  pub slot_range_shown : (named : List ℕ) (slots : SwapSlots) (x : Buffer) (off len k : ℕ) → AreSlots sizes.swap named bytes slots → page_at x (off / 4096) ≡ slot k → k < sizes.swap
      → HasPage slots.bytes k → off % 4096 + len ≤ 4096 → model.bytes_of bytes x off len ≡ part slots.bytes (4096 * k + off % 4096) len
  slot_range_shown named slots x off len k u at there has fits =
      alike bytes x (slot k) (byte_at slots.bytes k) (λ i e. slot_byte_shown named slots x i k u e there) len off at fits
      ∙ sym (page_read (record { vram = []; frames = slots.bytes; aper = [] }) (frame k) (off % 4096) len has fits)

  module _ (none : HasNoMore sizes bytes) where
    -- a byte whose page is in VRAM, in a frame or nowhere is the stores'
    pub byte_shown : (x : Buffer) (i : ℕ) (page : Page) → page_at x (i / 4096) ≡ page → is_in_stores page ≡ true → byte_of bytes x i ≡ bytes_of st page (i % 4096)
    byte_shown x i nowhere at r = ap (λ q. bytes q (i % 4096)) at ∙ none nowhere (i % 4096) refl
    byte_shown x i (vram p) at r = ap (λ q. bytes q (i % 4096)) at ∙ sym (t.in_vram p (i % 4096))
    byte_shown x i (frame f) at r = ap (λ q. bytes q (i % 4096)) at ∙ sym (t.in_frames f (i % 4096))
    byte_shown x i (slot k) at r = cc

    there_in : (page : Page) → IsThere st page → is_in_stores page ≡ true
    there_in nowhere h = absurd h
    there_in (vram p) h = refl
    there_in (frame f) h = refl
    there_in (slot k) h = absurd h

    -- bytes of one page that is there are a part of the stores
    pub range_shown : (x : Buffer) (off len : ℕ) (page : Page) → page_at x (off / 4096) ≡ page → IsThere st page → off % 4096 + len ≤ 4096 → model.bytes_of bytes x off len ≡ part_at st (spot_at page (off % 4096)) len
    range_shown x off len page at there fits = alike bytes x page (bytes_of st page) (λ i e. byte_shown x i page e (there_in page there)) len off at fits ∙ sym (page_read st page (off % 4096) len there fits)

    all_zero : (len off : ℕ) → map (bytes_of st nowhere) (count_from 1 len off) ≡ replicate len 0
    all_zero zero off = refl
    all_zero (suc len) off = ap (λ l. 0 ∷ l) (all_zero len (1 + off))

    -- bytes of one page that stands nowhere are zeros
    pub zeros_shown : (x : Buffer) (off len : ℕ) → page_at x (off / 4096) ≡ nowhere → off % 4096 + len ≤ 4096 → model.bytes_of bytes x off len ≡ replicate len 0
    zeros_shown x off len at fits = alike bytes x nowhere (bytes_of st nowhere) (λ i e. byte_shown x i nowhere e refl) len off at fits ∙ all_zero len (off % 4096)

    -- a step of the loop: some bytes were read, and more of them that lie on one page
    pub read_step : (x : Buffer) (off k len : ℕ) (page : Page) (out : List ℕ) → out ≡ model.bytes_of bytes x off k → page_at x ((off + k) / 4096) ≡ page → IsThere st page → (off + k) % 4096 + len ≤ 4096
        → out ++ part_at st (spot_at page ((off + k) % 4096)) len ≡ model.bytes_of bytes x off (k + len)
    read_step x off k len page out is at there fits =
        ap₂ (λ (l m : List ℕ). l ++ m) is (sym (range_shown x (off + k) len page at there fits)) ∙ sym (range_append bytes x k off len)

-- the result of a read that shows these bytes
pub read_shown : (script : Script) (s : State) (bytes : PageBytes) (who : Actor) (b : BufId) (off len : ℕ) (old out : List ℕ) → command_at_work script s (thread_of who) ≡ Some (command.Read b off len)
    → out ≡ model.bytes_of bytes (buffer s b) off len → showing script bytes s who (kind.Result (shown.Read old)) ≡ kind.Result (shown.Read out)
read_shown script s bytes who b off len old out at is =
    ap (λ (o : Option Command). kind.Result (shown.Read (shown_by_read bytes s o))) at ∙ ap (λ l. kind.Result (shown.Read l)) (sym is)
