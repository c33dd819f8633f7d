-- The bytes of all pages after some of one were written.
use Rattle.std.proofs.Common.{◌≡◌, ℕ, ◌+◌, ◌-◌, ◌*◌, ◌<◌, Bool, true, false, inl, inr, List, length, min, replicate, refl, ◌∙◌, arith, if◌then◌else◌}
use Rattle.std.specs.Prelude.{◌==◌, ◌&&◌, nat_le, nat_lt}
use Rattle.std.proofs.lemmas.Bool.{cases_lt}
use Rattle.std.proofs.lemmas.Bool.Decides.{nat_tests}
use Rattle.std.proofs.lemmas.List.{get_or_past, get_or-replicate, length-replicate}
use Rattle.journal_model.specs.declared.script.Sizes.{Sizes}
use Rattle.ttm_base.specs.Pages.{Page, nowhere, vram, frame, slot, PageBytes, with_bytes}
use Rattle.journal_model.specs.rules.Stores.{zeros, is_there}
use Rattle.rules_stores.specs.StoredPages.{stored_byte, byte_after}
use Rattle.rules_stores.specs.Kept.{KeptBytes, BecomesBytes, HasSizes, bytes_of, bytes_in, within}

-- ---- zeros

-- a list of zeros
stored_zeros : (n q o : ℕ) → stored_byte (replicate n 0) q o ≡ 0
stored_zeros n q o =
    elim (cases_lt (4096 * q + o) n) [
      | inl there ↦ let e = get_or-replicate {A = ℕ} n (4096 * q + o) 0 0 there in grind (arith, nat_tests, e)
      | inr past ↦
          let l = length-replicate {A = ℕ} n 0 in
          let e = get_or_past {X = ℕ} (replicate n 0) (4096 * q + o) 0 (omega (arith, l)) in
          grind (arith, nat_tests, e)
    ]

zeros_at : (n m k : ℕ) (page : Page) (o : ℕ) → bytes_in (replicate n 0) (replicate m 0) (replicate k 0) page o ≡ 0
zeros_at n m k nowhere o = refl
zeros_at n m k (vram q) o = stored_zeros n q o
zeros_at n m k (frame q) o = stored_zeros m q o
zeros_at n m k (slot q) o = stored_zeros k q o

-- zeros in three lists are zeros everywhere
pub bytes_in-zeros : (n m k : ℕ) → bytes_in (replicate n 0) (replicate m 0) (replicate k 0) ≡ zeros
bytes_in-zeros n m k = λ i page o. zeros_at n m k page o i

-- ---- one write

-- a byte that doesn't change
stays : (there : Bool) (x : ℕ) → x ≡ (if there then x else x)
stays true x = refl
stays false x = refl

-- a byte of a list that was written
stored_after : (n : ℕ) (stored : List ℕ) (page off len : ℕ) (value : ℕ → ℕ) (q o : ℕ) → length stored ≡ 4096 * n →
    byte_after stored page off len value q o
    ≡ (if nat_lt q n && nat_lt o 4096 then (if (q == page) && nat_le off o && nat_lt o (off + len) then value (o - off) else stored_byte stored q o) else stored_byte stored q o)
stored_after n stored page off len value q o l =
    elim (cases_lt q n) [
      | inl there ↦ elim (cases_lt o 4096) [ inl w ↦ grind (arith, nat_tests) | inr past ↦ grind (arith, nat_tests) ]
      | inr past ↦ grind (arith, nat_tests)
    ]

module _ (sizes : Sizes) (v f s : List ℕ) (h : HasSizes sizes v f s) where
  -- a write that goes nowhere
  nowhere_at : (off len : ℕ) (value : ℕ → ℕ) (page : Page) (o : ℕ) → bytes_in v f s page o ≡ within sizes (with_bytes (bytes_in v f s) nowhere off len value) (bytes_in v f s) page o
  nowhere_at off len value nowhere o = refl
  nowhere_at off len value (vram q) o = stays _ (stored_byte v q o)
  nowhere_at off len value (frame q) o = stays _ (stored_byte f q o)
  nowhere_at off len value (slot q) o = stays _ (stored_byte s q o)

  pub wrote_nowhere : (off len : ℕ) (value : ℕ → ℕ) → bytes_in v f s ≡ within sizes (with_bytes (bytes_in v f s) nowhere off len value) (bytes_in v f s)
  wrote_nowhere off len value = λ i page o. nowhere_at off len value page o i

  module _ (new : List ℕ) (p off len : ℕ) (value : ℕ → ℕ) where
    -- a write to VRAM
    vram_at : ((q o : ℕ) → stored_byte new q o ≡ byte_after v p off len value q o) → (page : Page) (o : ℕ) → bytes_in new f s page o ≡ within sizes (with_bytes (bytes_in v f s) (vram p) off len value) (bytes_in v f s) page o
    vram_at w nowhere o = refl
    vram_at w (vram q) o = w q o ∙ stored_after sizes.vram v p off len value q o h.vram_len
    vram_at w (frame q) o = stays _ (stored_byte f q o)
    vram_at w (slot q) o = stays _ (stored_byte s q o)

    pub wrote_vram : ((q o : ℕ) → stored_byte new q o ≡ byte_after v p off len value q o) → bytes_in new f s ≡ within sizes (with_bytes (bytes_in v f s) (vram p) off len value) (bytes_in v f s)
    wrote_vram w = λ i page o. vram_at w page o i

    -- a write to a frame
    frame_at : ((q o : ℕ) → stored_byte new q o ≡ byte_after f p off len value q o) → (page : Page) (o : ℕ) → bytes_in v new s page o ≡ within sizes (with_bytes (bytes_in v f s) (frame p) off len value) (bytes_in v f s) page o
    frame_at w nowhere o = refl
    frame_at w (vram q) o = stays _ (stored_byte v q o)
    frame_at w (frame q) o = w q o ∙ stored_after sizes.frames f p off len value q o h.frames_len
    frame_at w (slot q) o = stays _ (stored_byte s q o)

    pub wrote_frame : ((q o : ℕ) → stored_byte new q o ≡ byte_after f p off len value q o) → bytes_in v new s ≡ within sizes (with_bytes (bytes_in v f s) (frame p) off len value) (bytes_in v f s)
    wrote_frame w = λ i page o. frame_at w page o i

    -- a write to a slot
    slot_at : ((q o : ℕ) → stored_byte new q o ≡ byte_after s p off len value q o) → (page : Page) (o : ℕ) → bytes_in v f new page o ≡ within sizes (with_bytes (bytes_in v f s) (slot p) off len value) (bytes_in v f s) page o
    slot_at w nowhere o = refl
    slot_at w (vram q) o = stays _ (stored_byte v q o)
    slot_at w (frame q) o = stays _ (stored_byte f q o)
    slot_at w (slot q) o = w q o ∙ stored_after sizes.swap s p off len value q o h.slots_len

    pub wrote_slot : ((q o : ℕ) → stored_byte new q o ≡ byte_after s p off len value q o) → bytes_in v f new ≡ within sizes (with_bytes (bytes_in v f s) (slot p) off len value) (bytes_in v f s)
    wrote_slot w = λ i page o. slot_at w page o i

-- ---- the same bytes in other words

-- as many bytes as a page has are enough
cut_at : (sizes : Sizes) (bytes old : PageBytes) (page : Page) (off n len : ℕ) (value value' : ℕ → ℕ) → n ≡ min len 4096 → ((i : ℕ) → i < n → value i ≡ value' i) →
    (p : Page) (o : ℕ) → within sizes (with_bytes bytes page off n value) old p o ≡ within sizes (with_bytes bytes page off len value') old p o
cut_at sizes bytes old page off n len value value' e v p o =
    elim (cases_lt o 4096) [
      | inr past ↦ grind (arith, nat_tests)
      | inl w ↦ elim (cases_lt o off) [
        | inl below ↦ grind (arith, nat_tests)
        | inr from ↦ elim (cases_lt o (off + n)) [
          | inl inside ↦ let g = v (o - off) (omega arith) in grind (arith, nat_tests, g)
          | inr behind ↦ grind (arith, nat_tests)
        ]
      ]
    ]

within_cut : (sizes : Sizes) (bytes old : PageBytes) (page : Page) (off n len : ℕ) (value value' : ℕ → ℕ) → n ≡ min len 4096 → ((i : ℕ) → i < n → value i ≡ value' i) →
    within sizes (with_bytes bytes page off n value) old ≡ within sizes (with_bytes bytes page off len value') old
within_cut sizes bytes old page off n len value value' e v = λ i p o. cut_at sizes bytes old page off n len value value' e v p o i

-- a write of as many bytes as a page has at most
pub becomes_cut : (old new : KeptBytes) (page : Page) (off n len : ℕ) (value value' : ℕ → ℕ) → BecomesBytes old new (with_bytes (bytes_of old) page off n value) →
    n ≡ min len 4096 → ((i : ℕ) → i < n → value i ≡ value' i) → BecomesBytes old new (with_bytes (bytes_of old) page off len value')
becomes_cut old new page off n len value value' h e v =
    record { same_sizes = h.same_sizes; bytes_are = h.bytes_are ∙ within_cut old.sizes (bytes_of old) (bytes_of old) page off n len value value' e v }

-- nothing changes
unchanged_at : (sizes : Sizes) (bytes : PageBytes) (p : Page) (o : ℕ) → bytes p o ≡ within sizes bytes bytes p o
unchanged_at sizes bytes p o = stays (is_there sizes p && nat_lt o 4096) (bytes p o)

pub becomes_same : (kept : KeptBytes) → BecomesBytes kept kept (bytes_of kept)
becomes_same kept = record { same_sizes = refl; bytes_are = λ i p o. unchanged_at kept.sizes (bytes_of kept) p o i }
