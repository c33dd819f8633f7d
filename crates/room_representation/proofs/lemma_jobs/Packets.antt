-- A packet on the stores: it can run, leaves the bytes that the journal leads to, and shows those that its entry shows.
use Rattle.std.proofs.Common.{◌≡◌, ℕ, zero, suc, ◌+◌, ◌-◌, ◌*◌, ◌<◌, ◌≤◌, Bool, true, false, List, [], ◌∷◌, Option, Some, None, refl, sym, ◌∙◌, ap, ap₂, subst, arith, length}
use Rattle.std.specs.Prelude.{◌&&◌, nat_lt, nat_le, bit_xor, map, slice_index, if◌then◌else◌}
use Rattle.std.proofs.lemmas.Bool.Decides.{nat_tests}
use Rattle.ttm_base.specs.declared.Packet.{Packet}
use Rattle.ttm_base.specs.declared.Packet.TheVariants as packet
use Rattle.ttm_base.specs.declared.PagePlace.{PagePlace}
use Rattle.ttm_base.specs.declared.PagePlace.TheVariants as place
use Rattle.ttm_base.specs.ListWords.{count_from}
use Rattle.ttm_base.specs.Packets.{after_packet, probe_piece}
use Rattle.ttm_base.specs.Pages.{Page, nowhere, vram, frame, slot, PageBytes, Aperture, same_page, mapped_page, translated, with_bytes}
use Rattle.copy_packet.specs.Runs as runs
use Rattle.copy_packet.specs.Runs.{CanRun}
use Rattle.copy_packet.specs.StoreBytes as stores
use Rattle.copy_packet.specs.StoreBytes.{HasPage, aperture_of, byte_at, bytes_of}
use Rattle.copy_packet.specs.declared.stores.Stores.{Stores}
use Rattle.copy_engine.specs.Packets.{HasRun, shown_by}
use Rattle.swap_store.specs.Slots.{SwapSlots}
use Rattle.journal_model.specs.declared.script.Script.{Script}
use Rattle.journal_model.specs.declared.script.Sizes.{Sizes}
use Rattle.journal_model.specs.declared.state.Core.{Core}
use Rattle.journal_model.specs.rules.Places.{aperture}
use Rattle.journal_model.specs.rules.Stores.{is_there, within}
use Rattle.laws.specs.law_transparent.NamedPlaces as named
use Rattle.laws.specs.law_transparent.NamedPlaces.{IsRunnable}
use Rattle.room_representation.specs.Pages.{AreSlots, AreStores, HasNoMore}

-- ---- packets over bytes that agree where packets reach

-- a page that packets reach
abbrev pub is_reached : Page → Bool
is_reached nowhere = true
is_reached (vram p) = true
is_reached (frame f) = true
is_reached (slot k) = false

-- the bytes agree there
abbrev pub Agree : PageBytes → PageBytes → Type 0
Agree a b = (page : Page) (o : ℕ) → is_reached page ≡ true → a page o ≡ b page o

reached : (aper : Aperture) (x : PagePlace) → is_reached (translated aper x) ≡ true
reached aper (place.Vram p) = refl
reached aper (place.Frame f) = refl
reached aper (place.Aper p) = by (aper p)
  where
    by : (o : Option ℕ) → is_reached (mapped_page o) ≡ true
    by None = refl
    by (Some f) = refl

with_agree : (a b : PageBytes) → Agree a b → (at : Page) (off len : ℕ) (f g : ℕ → ℕ) → ((i : ℕ) → f i ≡ g i) → Agree (with_bytes a at off len f) (with_bytes b at off len g)
with_agree a b h at off len f g e page o r = ap₂ (λ x y. if same_page page at && nat_le off o && nat_lt o (off + len) then x else y) (e (o - off)) (h page o r)

-- so they do after a packet
pub after_agree : (aper : Aperture) (a b : PageBytes) → Agree a b → (q : Packet) → Agree (after_packet aper a q) (after_packet aper b q)
after_agree aper a b h (packet.Fill to off len byte) = with_agree a b h (translated aper to) off len (λ i. byte) (λ i. byte) (λ i. refl)
after_agree aper a b h (packet.Copy to toff from foff len) =
    with_agree a b h (translated aper to) toff len (λ i. a (translated aper from) (foff + i)) (λ i. b (translated aper from) (foff + i)) (λ i. h (translated aper from) (foff + i) (reached aper from))
after_agree aper a b h (packet.Xor to toff from foff len) =
    with_agree a b h (translated aper to) toff len (λ i. bit_xor (a (translated aper to) (toff + i)) (a (translated aper from) (foff + i))) (λ i. bit_xor (b (translated aper to) (toff + i)) (b (translated aper from) (foff + i)))
    (λ i. ap₂ bit_xor (h (translated aper to) (toff + i) (reached aper to)) (h (translated aper from) (foff + i) (reached aper from)))
after_agree aper a b h (packet.Probe from off len) = h

-- and a packet shows the same
pub probe_agree : (aper : Aperture) (a b : PageBytes) → Agree a b → (q : Packet) → probe_piece aper a q ≡ probe_piece aper b q
probe_agree aper a b h (packet.Fill to off len byte) = refl
probe_agree aper a b h (packet.Copy to toff from foff len) = refl
probe_agree aper a b h (packet.Xor to toff from foff len) = refl
probe_agree aper a b h (packet.Probe from off len) = alike (count_from 1 len off)
  where
    alike : (os : List ℕ) → map (a (translated aper from)) os ≡ map (b (translated aper from)) os
    alike [] = refl
    alike (o ∷ os) = ap₂ (λ x xs. x ∷ xs) (h (translated aper from) o (reached aper from)) (alike os)

-- no packet reaches a slot
with_slot : (a : PageBytes) (k o : ℕ) (at : Page) (off len : ℕ) (f : ℕ → ℕ) → is_reached at ≡ true → with_bytes a at off len f (slot k) o ≡ a (slot k) o
with_slot a k o nowhere off len f r = refl
with_slot a k o (vram p) off len f r = refl
with_slot a k o (frame p) off len f r = refl
with_slot a k o (slot p) off len f r = cc

slot_stays : (aper : Aperture) (a : PageBytes) (q : Packet) (k o : ℕ) → after_packet aper a q (slot k) o ≡ a (slot k) o
slot_stays aper a (packet.Fill to off len byte) k o = with_slot a k o (translated aper to) off len (λ i. byte) (reached aper to)
slot_stays aper a (packet.Copy to toff from foff len) k o = with_slot a k o (translated aper to) toff len (λ i. a (translated aper from) (foff + i)) (reached aper to)
slot_stays aper a (packet.Xor to toff from foff len) k o =
    with_slot a k o (translated aper to) toff len (λ i. bit_xor (a (translated aper to) (toff + i)) (a (translated aper from) (foff + i))) (reached aper to)
slot_stays aper a (packet.Probe from off len) k o = refl

-- ---- bytes beyond those that there are

nothing_behind : (xs : List ℕ) (i : ℕ) → length xs ≤ i → slice_index xs i ≡ 0
nothing_behind [] i h = refl
nothing_behind (x ∷ xs) zero h = absurd (omega (arith, h))
nothing_behind (x ∷ xs) (suc i) h = nothing_behind xs i (omega (arith, h))

-- a byte after a page, or after all pages
nothing_at : (xs : List ℕ) (n p o : ℕ) → length xs ≡ 4096 * n → (nat_lt p n && nat_lt o 4096) ≡ false → byte_at xs p o ≡ 0
nothing_at xs n p o h e = by (nat_lt o 4096) refl
  where
    beyond : nat_lt o 4096 ≡ true → n ≤ p
    beyond g = not_less p n (left g)
      where
        left : nat_lt o 4096 ≡ true → nat_lt p n ≡ false
        left g = sym (and_true (nat_lt p n)) ∙ ap (λ q. nat_lt p n && q) (sym g) ∙ e
          where
            and_true : (b : Bool) → (b && true) ≡ b
            and_true true = refl
            and_true false = refl

        not_less : (x y : ℕ) → nat_lt x y ≡ false → y ≤ x
        not_less x y h = grind (arith, nat_tests)

    by : (q : Bool) → nat_lt o 4096 ≡ q → (if nat_lt o 4096 then slice_index xs (4096 * p + o) else 0) ≡ 0
    by true g = let l = beyond g in ap (λ q. if q then slice_index xs (4096 * p + o) else 0) g ∙ nothing_behind xs (4096 * p + o) (omega (arith, h, l))
    by false g = ap (λ q. if q then slice_index xs (4096 * p + o) else 0) g

-- beyond the pages that there are, there is nothing
pub nothing_beyond : (sizes : Sizes) (bytes : PageBytes) → HasNoMore sizes (within sizes bytes)
nothing_beyond sizes bytes page o h = ap (λ q. if q then bytes page o else 0) h

within_at : (sizes : Sizes) (bytes : PageBytes) → HasNoMore sizes bytes → (page : Page) (o : ℕ) → within sizes bytes page o ≡ bytes page o
within_at sizes bytes h page o = by (is_there sizes page && nat_lt o 4096) refl
  where
    by : (b : Bool) → (is_there sizes page && nat_lt o 4096) ≡ b → (if is_there sizes page && nat_lt o 4096 then bytes page o else 0) ≡ bytes page o
    by true g = ap (λ q. if q then bytes page o else 0) g
    by false g = ap (λ q. if q then bytes page o else 0) g ∙ sym (h page o g)

-- what there is stays, so an entry that changes no byte leaves the bytes
pub within_same : (sizes : Sizes) (bytes : PageBytes) → HasNoMore sizes bytes → within sizes bytes ≡ bytes
within_same sizes bytes h = λ i page o. within_at sizes bytes h page o i

-- where stores have the bytes of pages that there are, and none beyond, they have them within the sizes
within_is : (sizes : Sizes) (bytes : PageBytes) (page : Page) (o x : ℕ) → x ≡ bytes page o → ((is_there sizes page && nat_lt o 4096) ≡ false → x ≡ 0) → x ≡ within sizes bytes page o
within_is sizes bytes page o x h e = by (is_there sizes page && nat_lt o 4096) refl
  where
    by : (b : Bool) → (is_there sizes page && nat_lt o 4096) ≡ b → x ≡ (if is_there sizes page && nat_lt o 4096 then bytes page o else 0)
    by true g = h ∙ sym (ap (λ q. if q then bytes page o else 0) g)
    by false g = e g ∙ sym (ap (λ q. if q then bytes page o else 0) g)

module _ (script : Script) (c : Core) (bytes : PageBytes) (s : Stores) (t : AreStores script.sizes (aperture c) bytes s) (none : HasNoMore script.sizes bytes) where
  -- the stores agree with the bytes of the journal
  pub stores_agree : Agree (bytes_of s) bytes
  stores_agree nowhere o r = sym (none nowhere o refl)
  stores_agree (vram p) o r = t.in_vram p o
  stores_agree (frame f) o r = t.in_frames f o
  stores_agree (slot k) o r = cc

  aperture_is : aperture_of s ≡ aperture c
  aperture_is = λ i p. t.mapped p i

  -- ---- it can run

  frame_there : (f : ℕ) → f < script.sizes.frames → HasPage s.frames f
  frame_there f h = let l = t.frame_size in omega (arith, l, h)

  place_there : (x : PagePlace) → named.IsThere script c x → stores.IsThere s (translated (aperture_of s) x)
  place_there (place.Vram p) h = let l = t.vram_size in omega (arith, l, h)
  place_there (place.Frame f) h = frame_there f h
  place_there (place.Aper p) h = subst (λ o. stores.IsThere s (mapped_page o)) (sym (t.mapped p ∙ h.maps)) (frame_there h.frame h.there)

  part_there : (x : PagePlace) (off len : ℕ) → named.IsPart script c x off len → runs.IsPart s x off len
  part_there x off len h = (place_there x h.page, h.range)

  -- a packet that names what is there can run
  pub can_run : (q : Packet) → IsRunnable script c q → CanRun s q
  can_run (packet.Fill to off len byte) h = part_there to off len h
  can_run (packet.Copy to toff from foff len) h = (part_there to toff len h.0, part_there from foff len h.1)
  can_run (packet.Xor to toff from foff len) h = (part_there to toff len h.0, part_there from foff len h.1)
  can_run (packet.Probe from off len) h = (part_there from off len h.0, h.1)

  -- ---- what it shows

  -- over the stores it shows what it shows over the bytes of the journal
  pub shows_same : (q : Packet) → shown_by q s ≡ probe_piece (aperture c) bytes q
  shows_same q = ap (λ a. probe_piece a (bytes_of s) q) aperture_is ∙ probe_agree (aperture c) (bytes_of s) bytes stores_agree q

  -- ---- what it leaves

  module _ (q : Packet) (new : Stores) (ran : HasRun q s new) where
    abbrev left : PageBytes
    left = after_packet (aperture c) bytes q

    new_is : (page : Page) (o : ℕ) → is_reached page ≡ true → bytes_of new page o ≡ left page o
    new_is page o r = ran.bytes page o ∙ ap (λ a. after_packet a (bytes_of s) q page o) aperture_is ∙ after_agree (aperture c) (bytes_of s) bytes stores_agree q page o r

    -- the stores have the bytes after it
    pub stores_run : AreStores script.sizes (aperture c) (within script.sizes left) new
    stores_run =
        let vram_len = ran.vram ∙ t.vram_size in
        let frame_len = ran.frames ∙ t.frame_size in
        record {
          vram_size = vram_len;
          frame_size = frame_len;
          aper_size = ap length ran.aper ∙ t.aper_size;
          in_vram = λ p o. within_is script.sizes left (vram p) o (bytes_of new (vram p) o) (new_is (vram p) o refl) (nothing_at new.vram script.sizes.vram p o vram_len);
          in_frames = λ f o. within_is script.sizes left (frame f) o (bytes_of new (frame f) o) (new_is (frame f) o refl) (nothing_at new.frames script.sizes.frames f o frame_len);
          mapped = λ p. ap (λ l. stores.aperture_of (record s { aper = l }) p) ran.aper ∙ t.mapped p;
        }

    -- and slots keep theirs
    pub slots_run : (held : List ℕ) (slots : SwapSlots) → AreSlots script.sizes.swap held bytes slots → AreSlots script.sizes.swap held (within script.sizes left) slots
    slots_run held slots h =
        record {
          held_are = h.held_are;
          bytes_are = λ k o e. within_is script.sizes left (slot k) o (byte_at slots.bytes k o) (h.bytes_are k o e ∙ sym (slot_stays (aperture c) bytes q k o)) (λ g. h.bytes_are k o e ∙ none (slot k) o g);
        }
