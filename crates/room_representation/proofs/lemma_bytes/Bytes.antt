-- Bytes in the stores of VRAM and frames: what a write to a page leaves, and that there are none beyond the sizes.
use Rattle.std.proofs.Common.{◌≡◌, ℕ, zero, suc, ◌+◌, ◌-◌, ◌*◌, ◌<◌, ◌≤◌, Bool, true, false, List, [], ◌∷◌, refl, sym, ◌∙◌, ap, arith, length, get_or}
use Rattle.std.specs.Prelude.{◌&&◌, nat_lt, nat_le, slice_index, if◌then◌else◌}
use Rattle.std.proofs.lemmas.Bool.Decides.{nat_tests}
use Rattle.ttm_base.specs.Pages.{Page, nowhere, vram, frame, slot, PageBytes, Aperture, same_page, with_bytes}
use Rattle.byte_store.proofs.PartLaws.{length-overwritten}
use Rattle.aperture_table.specs.Translation.{frame_at}
use Rattle.copy_packet.specs.Spots.{after_write, spot_at}
use Rattle.copy_packet.specs.StoreBytes.{IsThere, byte_at, bytes_of}
use Rattle.copy_packet.specs.declared.stores.Stores.{Stores}
use Rattle.copy_packet.proofs.SpotLaws.{page_written}
use Rattle.journal_model.specs.declared.script.Script.{Script}
use Rattle.journal_model.specs.declared.script.Sizes.{Sizes}
use Rattle.journal_model.specs.declared.entry.Entry.{Entry}
use Rattle.journal_model.specs.rules.Legal.{World, first_world, world_after}
use Rattle.journal_model.specs.rules.Stores.{is_there, within, stores_after}
use Rattle.room_representation.specs.Pages.{AreStores, HasNoMore}

-- ---- no bytes beyond the pages that there are

-- at the start there are none beyond the sizes
pub first_no_more : (script : Script) → HasNoMore script.sizes (first_world script).stores
first_no_more script page o h = refl

-- after each entry there are none beyond the sizes
pub no_more_after : (script : Script) (w : World) (e : Entry) → HasNoMore script.sizes (world_after script w e).stores
no_more_after script w e page o h = ap (λ q. if q then stores_after script w.state e.who e.kind w.stores page o else 0) h

nothing_behind : (xs : List ℕ) (i : ℕ) → length xs ≤ i → slice_index xs i ≡ 0
nothing_behind [] i h = refl
nothing_behind (x ∷ xs) zero h = absurd (omega (arith, h))
nothing_behind (x ∷ xs) (suc i) h = nothing_behind xs i (omega (arith, h))

-- a part has none after a page, or after all pages
nothing_at : (xs : List ℕ) (n p o : ℕ) → length xs ≡ 4096 * n → (nat_lt p n && nat_lt o 4096) ≡ false → byte_at xs p o ≡ 0
nothing_at xs n p o h e = by (nat_lt o 4096) refl
  where
    beyond : nat_lt o 4096 ≡ true → n ≤ p
    beyond g = not_less p n (left g)
      where
        left : nat_lt o 4096 ≡ true → nat_lt p n ≡ false
        left g = sym (and_true (nat_lt p n)) ∙ ap (λ q. nat_lt p n && q) (sym g) ∙ e
          where
            and_true : (b : Bool) → (b && true) ≡ b
            and_true true = refl
            and_true false = refl

        not_less : (x y : ℕ) → nat_lt x y ≡ false → y ≤ x
        not_less x y h = grind (arith, nat_tests)

    by : (q : Bool) → nat_lt o 4096 ≡ q → (if nat_lt o 4096 then slice_index xs (4096 * p + o) else 0) ≡ 0
    by true g = let l = beyond g in ap (λ q. if q then slice_index xs (4096 * p + o) else 0) g ∙ nothing_behind xs (4096 * p + o) (omega (arith, h, l))
    by false g = ap (λ q. if q then slice_index xs (4096 * p + o) else 0) g

within_is : (sizes : Sizes) (bytes : PageBytes) (page : Page) (o x : ℕ) → x ≡ bytes page o → ((is_there sizes page && nat_lt o 4096) ≡ false → x ≡ 0) → x ≡ within sizes bytes page o
within_is sizes bytes page o x h e = by (is_there sizes page && nat_lt o 4096) refl
  where
    by : (b : Bool) → (is_there sizes page && nat_lt o 4096) ≡ b → x ≡ (if is_there sizes page && nat_lt o 4096 then bytes page o else 0)
    by true g = h ∙ sym (ap (λ q. if q then bytes page o else 0) g)
    by false g = e g ∙ sym (ap (λ q. if q then bytes page o else 0) g)

-- stores that have bytes have them within the sizes
pub stores_within : (sizes : Sizes) (aper : Aperture) (bytes : PageBytes) (s : Stores) → AreStores sizes aper bytes s → AreStores sizes aper (within sizes bytes) s
stores_within sizes aper bytes s t = record {
  vram_size = t.vram_size;
  frame_size = t.frame_size;
  aper_size = t.aper_size;
  in_vram = λ p o. within_is sizes bytes (vram p) o (bytes_of s (vram p) o) (t.in_vram p o) (nothing_at s.vram sizes.vram p o t.vram_size);
  in_frames = λ f o. within_is sizes bytes (frame f) o (bytes_of s (frame f) o) (t.in_frames f o) (nothing_at s.frames sizes.frames f o t.frame_size);
  mapped = t.mapped;
}

-- ---- the aperture of the stores

-- another aperture with the same mappings
pub same_aperture : (sizes : Sizes) (aper new : Aperture) (bytes : PageBytes) (s : Stores) → AreStores sizes aper bytes s → ((p : ℕ) → new p ≡ aper p) → AreStores sizes new bytes s
same_aperture sizes aper new bytes s t same = record {
  vram_size = t.vram_size;
  frame_size = t.frame_size;
  aper_size = t.aper_size;
  in_vram = t.in_vram;
  in_frames = t.in_frames;
  mapped = λ p. t.mapped p ∙ sym (same p);
}

-- pages were mapped or cleared, and bytes stay
pub remapped : (sizes : Sizes) (aper new : Aperture) (bytes : PageBytes) (s : Stores) (list : _) → AreStores sizes aper bytes s → length list ≡ length s.aper → ((p : ℕ) → frame_at list p ≡ new p) → AreStores sizes new bytes (record s { aper = list })
remapped sizes aper new bytes s list t long maps = record {
  vram_size = t.vram_size;
  frame_size = t.frame_size;
  aper_size = long ∙ t.aper_size;
  in_vram = t.in_vram;
  in_frames = t.in_frames;
  mapped = maps;
}

-- ---- bytes that were written to one page

module _ (sizes : Sizes) (aper : Aperture) (bytes : PageBytes) (s : Stores) (t : AreStores sizes aper bytes s) where
  -- a frame below the size has bytes
  pub frame_there : (f : ℕ) → f < sizes.frames → IsThere s (frame f)
  frame_there f h = let l = t.frame_size in omega (arith, l, h)

  -- and so has a page of VRAM
  pub vram_there : (p : ℕ) → p < sizes.vram → IsThere s (vram p)
  vram_there p h = let l = t.vram_size in omega (arith, l, h)

  module _ (off : ℕ) (xs : List ℕ) (fits : off + length xs ≤ 4096) where
    vram_long : (page : Page) → IsThere s page → length (after_write s (spot_at page off) xs).vram ≡ length s.vram
    vram_long nowhere h = refl
    vram_long (vram p) h = length-overwritten s.vram (4096 * p + off) xs (omega (arith, h, fits))
    vram_long (frame f) h = refl
    vram_long (slot k) h = refl

    frames_long : (page : Page) → IsThere s page → length (after_write s (spot_at page off) xs).frames ≡ length s.frames
    frames_long nowhere h = absurd h
    frames_long (vram p) h = refl
    frames_long (frame f) h = length-overwritten s.frames (4096 * f + off) xs (omega (arith, h, fits))
    frames_long (slot k) h = absurd h

    aper_kept : (page : Page) → (after_write s (spot_at page off) xs).aper ≡ s.aper
    aper_kept nowhere = refl
    aper_kept (vram p) = refl
    aper_kept (frame f) = refl
    aper_kept (slot k) = refl

    -- the stores have the bytes with those that were written
    pub stores_written : (page : Page) (len : ℕ) (value : ℕ → ℕ) (new : Stores) → IsThere s page → length xs ≡ len → ((i : ℕ) → i < len → get_or xs i 0 ≡ value i) → new ≡ after_write s (spot_at page off) xs
        → AreStores sizes aper (with_bytes bytes page off len value) new
    stores_written page len value new there long each is = record {
      vram_size = ap (λ (n : Stores). length n.vram) is ∙ vram_long page there ∙ t.vram_size;
      frame_size = ap (λ (n : Stores). length n.frames) is ∙ frames_long page there ∙ t.frame_size;
      aper_size = ap (λ (n : Stores). length n.aper) is ∙ ap length (aper_kept page) ∙ t.aper_size;
      in_vram = λ p o. at (vram p) o ∙ over (vram p) o (bytes_of s (vram p) o) (bytes (vram p) o) (t.in_vram p o);
      in_frames = λ f o. at (frame f) o ∙ over (frame f) o (bytes_of s (frame f) o) (bytes (frame f) o) (t.in_frames f o);
      mapped = λ p. ap (λ (n : Stores). frame_at n.aper p) is ∙ ap (λ l. frame_at l p) (aper_kept page) ∙ t.mapped p;
    }
      where
        at : (q : Page) (o : ℕ) → bytes_of new q o ≡ with_bytes (bytes_of s) page off len value q o
        at q o = ap (λ (n : Stores). bytes_of n q o) is ∙ page_written s page off len xs value there (let l = long in omega (arith, fits, l)) long each q o

        over : (q : Page) (o a b : ℕ) → a ≡ b → (if same_page q page && nat_le off o && nat_lt o (off + len) then value (o - off) else a) ≡ (if same_page q page && nat_le off o && nat_lt o (off + len) then value (o - off) else b)
        over q o a b e = ap (λ n. if same_page q page && nat_le off o && nat_lt o (off + len) then value (o - off) else n) e
