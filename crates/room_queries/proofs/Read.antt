-- Bytes read page by page from the parts are those of the journal.
use Rattle.std.proofs.Common.{◌≡◌, ℕ, zero, suc, ◌+◌, ◌-◌, ◌*◌, ◌/◌, ◌%◌, ◌≤◌, Bool, true, false, List, [], ◌∷◌, ◌++◌, Option, Some, None, length, take, drop, refl, sym, ◌∙◌, ap, ap₂, arith}
use Rattle.std.specs.Prelude.{map, min, option_map, slice_get, slice_range, unwrap_or, if◌then◌else◌}
use Rattle.std.proofs.lemmas.List.{drop-drop, drop-take, length-drop, take-take}
use Rattle.ttm_base.specs.declared.BufId.{BufId}
use Rattle.ttm_base.specs.declared.Loc.{Loc}
use Rattle.ttm_base.specs.declared.Loc.TheVariants as loc
use Rattle.ttm_base.specs.declared.Mem.{Mem}
use Rattle.ttm_base.specs.declared.Mem.TheVariants.{System, Tt, Vram}
use Rattle.ttm_base.specs.ListWords.{count_from}
use Rattle.ttm_base.specs.Pages.{Page, nowhere, vram, frame, slot, PageBytes}
use Rattle.byte_store.specs.Parts.{part}
use Rattle.copy_packet.specs.StoreBytes.{byte_at, HasPage}
use Rattle.copy_packet.proofs.SpotLaws.{page_read}
use Rattle.bo_table.specs.declared.bo.Bo.{Bo}
use Rattle.bo_table.specs.Seen.{IsBo, body_of}
use Rattle.journal_model.specs.declared.script.Script.{Script}
use Rattle.journal_model.specs.declared.entry.Entry.{Entry}
use Rattle.journal_model.specs.declared.state.Buffer.{Buffer}
use Rattle.journal_model.specs.rules.State.{buffer}
use Rattle.journal_model.specs.rules.Holds.{held_slots}
use Rattle.journal_model.specs.rules.Places.{page_at, page_in, page_in_table, page_in_vram, pages_of, slot_of}
use Rattle.journal_model.specs.rules.Stores as model
use Rattle.journal_model.specs.rules.Stores.{byte_of}
use Rattle.journal_model.specs.rules.Legal.{state_of, stores_of}
use Rattle.laws.proofs.law_owners.Law.{once_law, owner_law}
use Rattle.laws.specs.lemma_bytes_told.Told.{IsThere}
use Rattle.room_representation.specs.declared.parts.Parts.{Parts}
use Rattle.room_representation.specs.Bos.{unfenced}
use Rattle.room_representation.specs.Held.{AreHeld}
use Rattle.room_representation.proofs.lemma_jobs.Lists.{get_map}
use Rattle.room_representation.proofs.lemma_bytes.Walks.{page_held, slots_within}
use Rattle.room_representation.proofs.lemma_bytes.Places.{page_there}
use Rattle.room_representation.proofs.lemma_bytes.Shown.{range_append}
use Rattle.room_representation.proofs.lemma_bytes.Slots.{held_below}
use Rattle.room_representation.proofs.steps.Lent.{is_below, stands_at}
use Rattle.room_queries.specs.Bytes.{byte_in, bytes_in, page_of_bo, standing, zeros, HasPart}

-- ---- bytes of one page

-- nowhere there are zeros
pub zeros_are : (len off : ℕ) → zeros len ≡ map (λ o. 0) (count_from 1 len off)
zeros_are zero off = refl
zeros_are (suc len) off = ap (λ l. 0 ∷ l) (zeros_are len (1 + off))

-- as many as are asked for
bytes_counted : (f : ℕ → ℕ) (len off : ℕ) → length (map f (count_from 1 len off)) ≡ len
bytes_counted f zero off = refl
bytes_counted f (suc len) off = ap suc (bytes_counted f len (1 + off))

-- after the bytes of a first page there is room for the others
pub room_behind : (p : Parts) (page : Page) (off len first left : ℕ) (one : List ℕ) → first ≡ min len left → len ≤ 256 → one ≡ [] ++ bytes_in p page off first → length one + (len - first) ≤ 256
room_behind p page off len first left one is_first few is =
    let long : length one ≡ first = ap length is ∙ bytes_counted (byte_in p page) first off in
    let under : first ≤ len = grind (arith, is_first) in
    omega (arith, long, under, few)

-- a part of a store, within a page
pub stored_are : (bytes : List ℕ) (page off len : ℕ) → HasPage bytes page → off + len ≤ 4096 → part bytes (4096 * page + off) len ≡ map (byte_at bytes page) (count_from 1 len off)
stored_are bytes page off len has fits = page_read (record { vram = []; frames = bytes; aper = [] }) (frame page) off len has fits

-- some of a list are no more than all
taken_short : (n : ℕ) (xs : List ℕ) → length (take n xs) ≤ length xs
taken_short zero xs = omega arith
taken_short (suc n) [] = omega arith
taken_short (suc n) (x ∷ xs) = let rest = taken_short n xs in omega (arith, rest)

-- a page of which all is there
pub whole_page : (bytes : List ℕ) (page : ℕ) → length (part bytes (4096 * page) 4096) ≡ 4096 → HasPage bytes page
whole_page bytes page h =
    let short = taken_short 4096 (drop (4096 * page) bytes) in
    let left = length-drop (4096 * page) bytes in
    omega (arith, h, short, left)

-- one zero more
pub zeros_more : (xs : List ℕ) (n : ℕ) → xs ++ zeros n ++ 0 ∷ [] ≡ xs ++ zeros (n + 1)
zeros_more [] zero = refl
zeros_more [] (suc n) = let more : suc (n + 1) ≡ suc n + 1 = omega arith in ap (λ l. 0 ∷ l) (zeros_more [] n) ∙ ap (λ k. zeros k) more
zeros_more (x ∷ xs) n = ap (λ l. x ∷ l) (zeros_more xs n)

-- a part of a page that was lent
pub slot_are : (bytes lent : List ℕ) (page off len : ℕ) → lent ≡ part bytes (4096 * page) 4096 → HasPage bytes page → off + len ≤ 4096 → slice_range lent off (off + len) ≡ map (byte_at bytes page) (count_from 1 len off)
slot_are bytes lent page off len is has fits =
    let left : off + (4096 - off) ≡ 4096 = omega (arith, fits) in
    let some : off + len - off ≡ len = omega arith in
    ap (λ n. take n (drop off lent)) some
    ∙ ap (λ l. take len (drop off l)) (is ∙ ap (λ n. take n (drop (4096 * page) bytes)) (sym left))
    ∙ ap (take len) (drop-take off (4096 - off) (drop (4096 * page) bytes))
    ∙ take-take len (4096 - off) (drop off (drop (4096 * page) bytes)) (omega (arith, fits))
    ∙ ap (take len) (drop-drop off (4096 * page) bytes)
    ∙ stored_are bytes page off len has fits

-- bytes of a buffer that lie on one page
one_page : (bytes : PageBytes) (x : Buffer) (f : Page → ℕ → ℕ) → ((i : ℕ) → byte_of bytes x i ≡ f (page_at x (i / 4096)) (i % 4096)) → (len off : ℕ) → off % 4096 + len ≤ 4096 →
    model.bytes_of bytes x off len ≡ map (f (page_at x (off / 4096))) (count_from 1 len (off % 4096))
one_page bytes x f each zero off fits = refl
one_page bytes x f each (suc zero) off fits = ap (λ n. n ∷ []) (each off)
one_page bytes x f each (suc (suc len)) off fits =
    let same : (1 + off) / 4096 ≡ off / 4096 = omega (arith, fits) in
    let more : (1 + off) % 4096 ≡ 1 + off % 4096 = omega (arith, fits) in
    ap₂ (λ n l. n ∷ l) (each off)
    (one_page bytes x f each (suc len) (1 + off) (omega (arith, fits, more)) ∙ ap₂ (λ q o. map (f (page_at x q)) (count_from 1 (suc len) o)) same more)

-- ---- the parts of a legal journal

module _ (script : Script) (journal : List Entry) (p : Parts) (held : AreHeld script journal p) (b : BufId) (live : IsThere (state_of script journal) b) where
  -- the buffer
  abbrev x : Buffer
  x = buffer (state_of script journal) b

  -- a table names the slot where the page stands in one
  in_table : (k : ℕ) (o : Option Loc) → page_in_table (unwrap_or o loc.Zero) ≡ slot k → o ≡ Some (loc.Slot k)
  in_table k None e = cc
  in_table k (Some loc.Zero) e = cc
  in_table k (Some (loc.Frame f)) e = cc
  in_table k (Some (loc.Slot j)) e = let same : j ≡ k = cc in ap (λ n. Some (loc.Slot n)) same

  -- no page of VRAM is a slot
  in_spans : (k : ℕ) (o : Option ℕ) → page_in_vram o ≡ slot k → ⊥
  in_spans k None e = cc
  in_spans k (Some q) e = cc

  -- a slot of its table is held
  slot_held : (n k : ℕ) → page_at x n ≡ slot k → slice_get p.swap.held k ≡ Some true
  slot_held n k at = by x.mem at
    where
      of_table : page_in_table (unwrap_or (slice_get x.table n) loc.Zero) ≡ slot k → slice_get p.swap.held k ≡ Some true
      of_table e =
          page_held slot_of script.sizes.swap (held_slots (state_of script journal).core) p.swap.held held.represents.swap.held_are (owner_law script journal held.fits held.legal).slots x.table
          (slots_within (state_of script journal).core b x live) n (loc.Slot k) k (in_table k (slice_get x.table n) e) refl

      by : (m : Mem) → page_in m x n ≡ slot k → slice_get p.swap.held k ≡ Some true
      by Vram e = absurd (in_spans k (slice_get (pages_of x.spans) n) e)
      by Tt e = of_table e
      by System e = of_table e

  -- the parts have each page that stands anywhere
  parts_have : (n : ℕ) (page : Page) → page_at x n ≡ page → HasPart p page
  parts_have n nowhere at = tt
  parts_have n (vram q) at =
      page_there script (state_of script journal).core (once_law script journal held.fits held.legal) b n _ (stores_of script journal) p.stores held.represents.stores (vram q) at refl (λ e. let z : vram q ≡ nowhere = e in cc)
  parts_have n (frame f) at =
      page_there script (state_of script journal).core (once_law script journal held.fits held.legal) b n _ (stores_of script journal) p.stores held.represents.stores (frame f) at refl (λ e. let z : frame f ≡ nowhere = e in cc)
  parts_have n (slot k) at = is_below p.swap.held k true (slot_held n k at)

  -- with the bytes of the journal
  represented_byte : (n o : ℕ) (page : Page) → page_at x n ≡ page → stores_of script journal page o ≡ byte_in p page o
  represented_byte n o nowhere at = held.represents.no_more nowhere o refl
  represented_byte n o (vram q) at = sym (held.represents.stores.in_vram q o)
  represented_byte n o (frame f) at = sym (held.represents.stores.in_frames f o)
  represented_byte n o (slot k) at = sym (held.represents.swap.bytes_are k o (held_below script (held_slots (state_of script journal).core) (stores_of script journal) p.swap held.represents.swap k (slot_held n k at)))

  -- so has each byte of the buffer
  seen_byte : (i : ℕ) → byte_of (stores_of script journal) x i ≡ byte_in p (page_at x (i / 4096)) (i % 4096)
  seen_byte i = represented_byte (i / 4096) (i % 4096) (page_at x (i / 4096)) refl

  module _ (bo : Bo) (is : IsBo p.bos b bo) where
    -- the lent buffer is the state's, but for its fences
    body : body_of bo ≡ Some (unfenced x)
    body =
        let at : slice_get p.bos.buffers b.0 ≡ Some (Some (unfenced x)) =
        ap (λ xs. slice_get xs b.0) held.represents.bos.buffers_are ∙ get_map (option_map unfenced) (state_of script journal).core.buffers b.0
        ∙ ap (option_map (option_map unfenced)) (stands_at (state_of script journal).core.buffers b x live) in
        let both : Some (body_of bo) ≡ Some (Some (unfenced x)) = sym is.body ∙ at in
        cc

    -- as it stands
    stands : standing bo ≡ unfenced x
    stands = by bo.alive body
      where
        by : (q : Bool) → (if q then Some (standing bo) else None) ≡ Some (unfenced x) → standing bo ≡ unfenced x
        by true e = cc
        by false e = cc

    -- the lent buffer's pages are where the state's are
    lent_page : (i : ℕ) → page_of_bo bo i ≡ page_at x i
    lent_page i = ap (λ y. page_at y i) stands ∙ by x.mem
      where
        by : (m : Mem) → page_in m (unfenced x) i ≡ page_in m x i
        by Vram = refl
        by Tt = refl
        by System = refl

    -- the parts have each
    pub lent_has : (i : ℕ) → HasPart p (page_of_bo bo i)
    lent_has i = parts_have i (page_of_bo bo i) (sym (lent_page i))

    -- bytes on one page
    lent_bytes : (len off : ℕ) → off % 4096 + len ≤ 4096 → model.bytes_of (stores_of script journal) x off len ≡ bytes_in p (page_of_bo bo (off / 4096)) (off % 4096) len
    lent_bytes len off fits =
        one_page (stores_of script journal) x (byte_in p) seen_byte len off fits
        ∙ ap (λ q. map (byte_in p q) (count_from 1 len (off % 4096))) (sym (lent_page (off / 4096)))

    -- bytes from the start of a page on
    behind : (len off : ℕ) → off % 4096 ≡ 0 → len ≤ 4096 → (n : ℕ) → n ≡ off / 4096 → model.bytes_of (stores_of script journal) x off len ≡ bytes_in p (page_of_bo bo n) 0 len
    behind len off start few n at =
        lent_bytes len off (omega (arith, start, few)) ∙ ap₂ (λ q o. bytes_in p (page_of_bo bo q) o len) (sym at) start

    -- what was read of two pages is what the journal has
    pub both_shown : (off len first : ℕ) (one two : List ℕ) → first ≡ min len (4096 - off % 4096) → len ≤ 256 → one ≡ [] ++ bytes_in p (page_of_bo bo (off / 4096)) (off % 4096) first →
        two ≡ one ++ bytes_in p (page_of_bo bo (off / 4096 + 1)) 0 (len - first) → two ≡ model.bytes_of (stores_of script journal) x off len
    both_shown off len first one two is_first few a c =
        let all : first + (len - first) ≡ len = grind (arith, is_first) in
        let front : off % 4096 + first ≤ 4096 = grind (arith, is_first) in
        c ∙ ap₂ (λ (l m : List ℕ). l ++ m) (a ∙ sym (lent_bytes first off front)) (by (len - first) refl)
        ∙ sym (range_append (stores_of script journal) x first off (len - first)) ∙ ap (model.bytes_of (stores_of script journal) x off) all
      where
        by : (rest : ℕ) → rest ≡ len - first → bytes_in p (page_of_bo bo (off / 4096 + 1)) 0 rest ≡ model.bytes_of (stores_of script journal) x (off + first) rest
        by zero e = refl
        by (suc rest) e =
            let whole : first ≡ 4096 - off % 4096 = grind (arith, is_first, e) in
            let start : (off + first) % 4096 ≡ 0 = omega (arith, whole) in
            let next : off / 4096 + 1 ≡ (off + first) / 4096 = omega (arith, whole) in
            sym (behind (suc rest) (off + first) start (omega (arith, e, few)) (off / 4096 + 1) next)
