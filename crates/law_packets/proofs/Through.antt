-- Packets on pages, and what they leave of the buffers.
use Rattle.std.proofs.Common.{◌≡◌, ℕ, ◌+◌, ◌-◌, ◌*◌, ◌/◌, ◌%◌, ◌<◌, ◌≤◌, zero, suc, Bool, true, false, inl, inr, List, [], ◌∷◌, ◌++◌, refl, sym, ◌∙◌, ap, ap₂, arith, append_assoc, if◌then◌else◌}
use Rattle.std.specs.Prelude.{map, flat_map, nat_le, nat_lt, ◌==◌, ◌&&◌, bit_xor}
use Rattle.std.proofs.lemmas.Bool.{cases_lt, eq-eqb}
use Rattle.std.proofs.lemmas.Bool.Decides.{nat_tests}
use Rattle.ttm_base.specs.declared.BufId.{BufId}
use Rattle.ttm_base.specs.declared.Op.{Op}
use Rattle.ttm_base.specs.declared.Op.TheVariants as op
use Rattle.ttm_base.specs.declared.Packet.{Packet}
use Rattle.ttm_base.specs.ListWords.{count_from}
use Rattle.ttm_base.specs.Cutting.{Piece, PageMap, pieces_of, packet_of, packets_of}
use Rattle.ttm_base.specs.Packets.{after_packet, probe_piece}
use Rattle.ttm_base.specs.Pages.{Page, nowhere, vram, frame, slot, PageBytes, Aperture, same_page, translated, with_bytes, read_bytes}
use Rattle.journal_model.specs.rules.PlainMemory.{Memory, with_range, after_op, after_ops, memory_range, piece_shown}
use Rattle.laws.specs.law_cutting.Parts.{part_of, IsInPage, IsPiece}
use Rattle.laws.proofs.law_cutting.Whole.{Each, IsApart, pieces_are, parts_are_whole, joined_is_shown}
use Rattle.law_packets.specs.Through.{AllInside, AreApart, IsInside, after_packets, memory_of, op_shows, packets_show, probes_show}

-- ---- memories that agree on all bytes of buffers

abbrev Agree : (ℕ → ℕ) → Memory → Memory → Type 0
Agree pages m m' = (c x : ℕ) → x < 4096 * pages c → m c x ≡ m' c x

range_agrees : (pages : ℕ → ℕ) (b : BufId) (off len : ℕ) (value value' : ℕ → ℕ) (m m' : Memory) → ((i : ℕ) → i < len → value i ≡ value' i) → Agree pages m m' →
    Agree pages (with_range b off len value m) (with_range b off len value' m')
range_agrees pages b off len value value' m m' v a c x l =
    let e = a c x l in
    elim (cases_lt x off) [
      | inl below ↦ grind (arith, nat_tests, e)
      | inr from ↦ elim (cases_lt x (off + len)) [
        | inl inside ↦ let g = v (x - off) (omega arith) in grind (arith, nat_tests, e, g)
        | inr behind ↦ grind (arith, nat_tests, e)
      ]
    ]

op_agrees : (pages : ℕ → ℕ) (o : Op) (m m' : Memory) → IsInside pages o → Agree pages m m' → Agree pages (after_op m o) (after_op m' o)
op_agrees pages (op.Fill dst off len byte) m m' h a = range_agrees pages dst off len (λ i. byte) (λ i. byte) m m' (λ i l. refl) a
op_agrees pages (op.Copy dst doff src soff len) m m' h a =
    range_agrees pages dst doff len (λ i. m src.0 (soff + i)) (λ i. m' src.0 (soff + i)) m m' (λ i l. a src.0 (soff + i) (omega (arith, l, h.1))) a
op_agrees pages (op.Xor dst doff src soff len) m m' h a =
    range_agrees pages dst doff len (λ i. bit_xor (m dst.0 (doff + i)) (m src.0 (soff + i))) (λ i. bit_xor (m' dst.0 (doff + i)) (m' src.0 (soff + i))) m m'
    (λ i l. ap₂ bit_xor (a dst.0 (doff + i) (omega (arith, l, h.0))) (a src.0 (soff + i) (omega (arith, l, h.1)))) a
op_agrees pages (op.Probe src off len) m m' h a = a

-- a piece lies inside too
part_inside : (pages : ℕ → ℕ) (o : Op) (p : Piece) → IsInside pages o → IsPiece o p → IsInside pages (part_of o p)
part_inside pages (op.Fill dst off len byte) p h q = omega (arith, h, q.inside)
part_inside pages (op.Copy dst doff src soff len) p h q = (omega (arith, h.0, q.inside), omega (arith, h.1, q.inside), h.2)
part_inside pages (op.Xor dst doff src soff len) p h q = (omega (arith, h.0, q.inside), omega (arith, h.1, q.inside), h.2)
part_inside pages (op.Probe src off len) p h q = omega (arith, h, q.inside)

inside_is_apart : (pages : ℕ → ℕ) (o : Op) → IsInside pages o → IsApart o
inside_is_apart pages (op.Fill dst off len byte) h = tt
inside_is_apart pages (op.Copy dst doff src soff len) h = h.2
inside_is_apart pages (op.Xor dst doff src soff len) h = h.2
inside_is_apart pages (op.Probe src off len) h = tt

-- ---- one packet

-- a page is itself
self_page : (p : Page) → same_page p p ≡ true
self_page nowhere = refl
self_page (vram p) = eq-eqb p p refl
self_page (frame p) = eq-eqb p p refl
self_page (slot p) = eq-eqb p p refl

-- on the page of the range
on_page : (b c k i r o len y u w : ℕ) → b ≡ c → k ≡ i → (r ≤ o → o < r + len → u ≡ w) →
    (if nat_le r o && nat_lt o (r + len) then u else y) ≡ (if (b == c) && nat_le (4096 * k + r) (4096 * i + o) && nat_lt (4096 * i + o) ((4096 * k + r) + len) then w else y)
on_page b c k i r o len y u w e f v =
    elim (cases_lt o r) [
      | inl below ↦ grind (arith, nat_tests)
      | inr from ↦ elim (cases_lt o (r + len)) [
        | inl inside ↦ let g = v from inside in grind (arith, nat_tests, g)
        | inr behind ↦ grind (arith, nat_tests)
      ]
    ]

-- on another page
off_page : (b c k i r o len y w : ℕ) → r + len ≤ 4096 → o < 4096 → (b ≡ c → k ≡ i → ⊥) →
    y ≡ (if (b == c) && nat_le (4096 * k + r) (4096 * i + o) && nat_lt (4096 * i + o) ((4096 * k + r) + len) then w else y)
off_page b c k i r o len y w fits lt q =
    elim (cases_lt b c) [
      | inl less ↦ grind (arith, nat_tests)
      | inr most ↦ elim (cases_lt c b) [
        | inl more ↦ grind (arith, nat_tests)
        | inr least ↦ elim (cases_lt k i) [
          | inl before ↦ grind (arith, nat_tests)
          | inr from ↦ elim (cases_lt i k) [
            | inl behind ↦ grind (arith, nat_tests)
            | inr same ↦ absurd (q (omega arith) (omega arith))
          ]
        ]
      ]
    ]

-- by whether the pages are one
by_page : (t : Bool) (b c k i r o len y u w : ℕ) → r + len ≤ 4096 → o < 4096 → (t ≡ true → (b ≡ c) × (k ≡ i)) → (t ≡ false → b ≡ c → k ≡ i → ⊥) → (k ≡ i → r ≤ o → o < r + len → u ≡ w) →
    (if t && nat_le r o && nat_lt o (r + len) then u else y) ≡ (if (b == c) && nat_le (4096 * k + r) (4096 * i + o) && nat_lt (4096 * i + o) ((4096 * k + r) + len) then w else y)
by_page true b c k i r o len y u w fits lt one two v = let h = one refl in on_page b c k i r o len y u w h.0 h.1 (v h.1)
by_page false b c k i r o len y u w fits lt one two v = off_page b c k i r o len y w fits lt (two refl)

-- packets after packets
packets-append : (aper : Aperture) (xs ys : List Packet) (bytes : PageBytes) → after_packets aper bytes (xs ++ ys) ≡ after_packets aper (after_packets aper bytes xs) ys
packets-append aper [] ys bytes = refl
packets-append aper (p ∷ xs) ys bytes = packets-append aper xs ys (after_packet aper bytes p)

-- an offset by page and rest
split : (n : ℕ) → 4096 * (n / 4096) + n % 4096 ≡ n
split n = omega arith

true_is_not : (t : Bool) → t ≡ true → t ≡ false → ⊥
true_is_not true h k = cc
true_is_not false h k = cc

module _ (aper : Aperture) (names : PageMap) (pages : ℕ → ℕ) (apart : AreApart aper names pages) where
  -- the page that a page of a buffer means
  abbrev place : ℕ → ℕ → Page
  place b i = translated aper (names (record { 0 = b }) i)

  write_at : (bytes : PageBytes) (b off len : ℕ) (value whole : ℕ → ℕ) → IsInPage off len → 0 < len → off + len ≤ 4096 * pages b → ((i : ℕ) → i < len → value i ≡ whole i) →
      (c x : ℕ) → x < 4096 * pages c →
      memory_of aper names (with_bytes bytes (place b (off / 4096)) (off % 4096) len value) c x ≡ with_range (record { 0 = b }) off len whole (memory_of aper names bytes) c x
  write_at bytes b off len value whole fits some inside v c x l =
      let there : off / 4096 < pages b = omega (arith, some, inside) in
      let here : x / 4096 < pages c = omega (arith, l) in
      let small : x % 4096 < 4096 = omega arith in
      by_page (same_page (place c (x / 4096)) (place b (off / 4096))) b c (off / 4096) (x / 4096) (off % 4096) (x % 4096) len
      (bytes (place c (x / 4096)) (x % 4096)) (value (x % 4096 - off % 4096)) (whole ((4096 * (x / 4096) + x % 4096) - (4096 * (off / 4096) + off % 4096)))
      fits small
      (λ t. let z = apart (record { 0 = c }) (record { 0 = b }) (x / 4096) (off / 4096) here there t in (sym z.0, sym z.1))
      (λ t e f. true_is_not _ (ap₂ (λ d k. same_page (place d k) (place b (off / 4096))) (sym e) (sym f) ∙ self_page (place b (off / 4096))) t)
      (λ f le lt. v (x % 4096 - off % 4096) (omega (arith, le, lt)) ∙ ap whole (let z : x % 4096 - off % 4096 ≡ (4096 * (x / 4096) + x % 4096) - (4096 * (off / 4096) + off % 4096) = omega (arith, f, le) in z))
      ∙ ap₂ (λ n y. if (b == c) && nat_le n y && nat_lt y (n + len) then whole (y - n) else bytes (place c (x / 4096)) (x % 4096)) (split off) (split x)

  -- a byte of a range within one page
  byte_read : (bytes : PageBytes) (b off len i : ℕ) → IsInPage off len → i < len → bytes (place b (off / 4096)) (off % 4096 + i) ≡ memory_of aper names bytes b (off + i)
  byte_read bytes b off len i fits l =
      let k : off / 4096 ≡ (off + i) / 4096 = omega (arith, fits, l) in
      let r : off % 4096 + i ≡ (off + i) % 4096 = omega (arith, fits, l) in
      ap₂ (λ n o. bytes (place b n) o) k r

  packet_on_memory : (o : Op) (p : Piece) (bytes : PageBytes) → IsInside pages o → IsPiece o p → Agree pages (memory_of aper names (after_packet aper bytes (packet_of names o p))) (after_op (memory_of aper names bytes) (part_of o p))
  packet_on_memory (op.Fill dst off len byte) p bytes h q c x l =
      write_at bytes dst.0 (off + p.at) p.len (λ i. byte) (λ i. byte) q.pages q.some (omega (arith, h, q.inside)) (λ i lt. refl) c x l
  packet_on_memory (op.Copy dst doff src soff len) p bytes h q c x l =
      write_at bytes dst.0 (doff + p.at) p.len (λ i. bytes (place src.0 ((soff + p.at) / 4096)) ((soff + p.at) % 4096 + i)) (λ i. memory_of aper names bytes src.0 ((soff + p.at) + i)) q.pages.0 q.some
      (omega (arith, h.0, q.inside)) (λ i lt. byte_read bytes src.0 (soff + p.at) p.len i q.pages.1 lt) c x l
  packet_on_memory (op.Xor dst doff src soff len) p bytes h q c x l =
      write_at bytes dst.0 (doff + p.at) p.len
      (λ i. bit_xor (bytes (place dst.0 ((doff + p.at) / 4096)) ((doff + p.at) % 4096 + i)) (bytes (place src.0 ((soff + p.at) / 4096)) ((soff + p.at) % 4096 + i)))
      (λ i. bit_xor (memory_of aper names bytes dst.0 ((doff + p.at) + i)) (memory_of aper names bytes src.0 ((soff + p.at) + i))) q.pages.0 q.some (omega (arith, h.0, q.inside))
      (λ i lt. ap₂ bit_xor (byte_read bytes dst.0 (doff + p.at) p.len i q.pages.0 lt) (byte_read bytes src.0 (soff + p.at) p.len i q.pages.1 lt)) c x l
  packet_on_memory (op.Probe src off len) p bytes h q c x l = refl

  -- ---- all packets of an operation, and of a list

  pieces_on_memory : (o : Op) (ps : List Piece) (bytes : PageBytes) (m : Memory) → IsInside pages o → Each (IsPiece o) ps → Agree pages (memory_of aper names bytes) m →
      Agree pages (memory_of aper names (after_packets aper bytes (map (packet_of names o) ps))) (after_ops m (map (part_of o) ps))
  pieces_on_memory o [] bytes m h e a = a
  pieces_on_memory o (p ∷ ps) bytes m h e a =
      pieces_on_memory o ps (after_packet aper bytes (packet_of names o p)) (after_op m (part_of o p)) h e.1
      (λ c x l. packet_on_memory o p bytes h e.0 c x l ∙ op_agrees pages (part_of o p) (memory_of aper names bytes) m (part_inside pages o p h e.0) a c x l)

  op_on_memory : (o : Op) (bytes : PageBytes) (m : Memory) → IsInside pages o → Agree pages (memory_of aper names bytes) m →
      Agree pages (memory_of aper names (after_packets aper bytes (map (packet_of names o) (pieces_of o)))) (after_op m o)
  op_on_memory o bytes m h a c x l =
      pieces_on_memory o (pieces_of o) bytes m h (pieces_are o) a c x l ∙ ap (λ (n : Memory). n c x) (parts_are_whole o m (inside_is_apart pages o h))

  pub ops_on_memory : (ops : List Op) (bytes : PageBytes) (m : Memory) → AllInside pages ops → Agree pages (memory_of aper names bytes) m →
      (c x : ℕ) → x < 4096 * pages c → memory_of aper names (after_packets aper bytes (packets_of names ops)) c x ≡ after_ops m ops c x
  ops_on_memory [] bytes m h a c x l = a c x l
  ops_on_memory (o ∷ ops) bytes m h a c x l =
      ap (λ (b : PageBytes). memory_of aper names b c x) (packets-append aper (map (packet_of names o) (pieces_of o)) (packets_of names ops) bytes)
      ∙ ops_on_memory ops (after_packets aper bytes (map (packet_of names o) (pieces_of o))) (after_op m o) h.1 (op_on_memory o bytes m h.0 a) c x l

  -- ---- what packets show

  bytes_read : (bytes : PageBytes) (m : Memory) (src : BufId) (off n len j : ℕ) → IsInPage off len → off + len ≤ 4096 * pages src.0 → Agree pages (memory_of aper names bytes) m → j + n ≤ len →
      map (bytes (place src.0 (off / 4096))) (count_from 1 n (off % 4096 + j)) ≡ map (m src.0) (count_from 1 n (off + j))
  bytes_read bytes m src off zero len j fits inside a l = refl
  bytes_read bytes m src off (suc n) len j fits inside a l =
      ap₂ ◌∷◌ (byte_read bytes src.0 off len j fits (omega (arith, l)) ∙ a src.0 (off + j) (omega (arith, l, inside)))
      (ap (λ k. map (bytes (place src.0 (off / 4096))) (count_from 1 n k)) (let z : 1 + (off % 4096 + j) ≡ off % 4096 + (j + 1) = omega arith in z)
      ∙ bytes_read bytes m src off n len (j + 1) fits inside a (omega (arith, l))
      ∙ ap (λ k. map (m src.0) (count_from 1 n k)) (let z : off + (j + 1) ≡ 1 + (off + j) = omega arith in z))

  piece_read : (bytes : PageBytes) (m : Memory) (src : BufId) (off len : ℕ) → IsInPage off len → off + len ≤ 4096 * pages src.0 → Agree pages (memory_of aper names bytes) m →
      read_bytes bytes (place src.0 (off / 4096)) (off % 4096) len ≡ memory_range m src off len
  piece_read bytes m src off len fits inside a =
      ap (λ k. map (bytes (place src.0 (off / 4096))) (count_from 1 len k)) (let z : off % 4096 ≡ off % 4096 + 0 = omega arith in z)
      ∙ bytes_read bytes m src off len len 0 fits inside a (omega arith)
      ∙ ap (λ k. map (m src.0) (count_from 1 len k)) (let z : off + 0 ≡ off = omega arith in z)

  probe_shows : (src : BufId) (off len : ℕ) (ps : List Piece) (bytes : PageBytes) (m : Memory) → off + len ≤ 4096 * pages src.0 → Each (IsPiece (op.Probe src off len)) ps → Agree pages (memory_of aper names bytes) m →
      packets_show aper bytes (map (packet_of names (op.Probe src off len)) ps) ≡ flat_map (piece_shown m (op.Probe src off len)) ps
  probe_shows src off len [] bytes m h e a = refl
  probe_shows src off len (p ∷ ps) bytes m h e a =
      ap₂ ◌++◌ (piece_read bytes m src (off + p.at) p.len e.0.pages (omega (arith, h, e.0.inside)) a) (probe_shows src off len ps bytes m h e.1 a)

  fill_shows : (dst : BufId) (off len byte : ℕ) (ps : List Piece) (bytes : PageBytes) → packets_show aper bytes (map (packet_of names (op.Fill dst off len byte)) ps) ≡ []
  fill_shows dst off len byte [] bytes = refl
  fill_shows dst off len byte (p ∷ ps) bytes = fill_shows dst off len byte ps (after_packet aper bytes (packet_of names (op.Fill dst off len byte) p))

  copy_shows : (dst : BufId) (doff : ℕ) (src : BufId) (soff len : ℕ) (ps : List Piece) (bytes : PageBytes) → packets_show aper bytes (map (packet_of names (op.Copy dst doff src soff len)) ps) ≡ []
  copy_shows dst doff src soff len [] bytes = refl
  copy_shows dst doff src soff len (p ∷ ps) bytes = copy_shows dst doff src soff len ps (after_packet aper bytes (packet_of names (op.Copy dst doff src soff len) p))

  xor_shows : (dst : BufId) (doff : ℕ) (src : BufId) (soff len : ℕ) (ps : List Piece) (bytes : PageBytes) → packets_show aper bytes (map (packet_of names (op.Xor dst doff src soff len)) ps) ≡ []
  xor_shows dst doff src soff len [] bytes = refl
  xor_shows dst doff src soff len (p ∷ ps) bytes = xor_shows dst doff src soff len ps (after_packet aper bytes (packet_of names (op.Xor dst doff src soff len) p))

  op_is_shown : (o : Op) (bytes : PageBytes) (m : Memory) → IsInside pages o → Agree pages (memory_of aper names bytes) m → packets_show aper bytes (map (packet_of names o) (pieces_of o)) ≡ op_shows m o
  op_is_shown (op.Fill dst off len byte) bytes m h a = fill_shows dst off len byte (pieces_of (op.Fill dst off len byte)) bytes
  op_is_shown (op.Copy dst doff src soff len) bytes m h a = copy_shows dst doff src soff len (pieces_of (op.Copy dst doff src soff len)) bytes
  op_is_shown (op.Xor dst doff src soff len) bytes m h a = xor_shows dst doff src soff len (pieces_of (op.Xor dst doff src soff len)) bytes
  op_is_shown (op.Probe src off len) bytes m h a =
      probe_shows src off len (pieces_of (op.Probe src off len)) bytes m h (pieces_are (op.Probe src off len)) a ∙ joined_is_shown m src off len

  shows-append : (xs ys : List Packet) (bytes : PageBytes) → packets_show aper bytes (xs ++ ys) ≡ packets_show aper bytes xs ++ packets_show aper (after_packets aper bytes xs) ys
  shows-append [] ys bytes = refl
  shows-append (p ∷ xs) ys bytes =
      ap (λ rest. probe_piece aper bytes p ++ rest) (shows-append xs ys (after_packet aper bytes p))
      ∙ sym (append_assoc (probe_piece aper bytes p) (packets_show aper (after_packet aper bytes p) xs) (packets_show aper (after_packets aper (after_packet aper bytes p) xs) ys))

  pub ops_are_shown : (ops : List Op) (bytes : PageBytes) (m : Memory) → AllInside pages ops → Agree pages (memory_of aper names bytes) m → packets_show aper bytes (packets_of names ops) ≡ probes_show m ops
  ops_are_shown [] bytes m h a = refl
  ops_are_shown (o ∷ ops) bytes m h a =
      shows-append (map (packet_of names o) (pieces_of o)) (packets_of names ops) bytes
      ∙ ap₂ ◌++◌ (op_is_shown o bytes m h.0 a)
      (ops_are_shown ops (after_packets aper bytes (map (packet_of names o) (pieces_of o))) (after_op m o) h.1 (op_on_memory o bytes m h.0 a))

-- ---- other pages

-- a page that isn't the one
stays : (q r s : Bool) (z y : ℕ) → q ≡ false → (if q && r && s then z else y) ≡ y
stays false r s z y e = refl
stays true r s z y e = cc

module _ (aper : Aperture) (names : PageMap) (pages : ℕ → ℕ) (page : Page) (other : (b : BufId) (i : ℕ) → i < pages b.0 → same_page page (translated aper (names b i)) ≡ false) where
  packet_stays : (o : Op) (p : Piece) (bytes : PageBytes) → IsInside pages o → IsPiece o p → (off : ℕ) → after_packet aper bytes (packet_of names o p) page off ≡ bytes page off
  packet_stays (op.Fill dst doff len byte) p bytes h q off =
      let there : (doff + p.at) / 4096 < pages dst.0 = omega (arith, h, q.some, q.inside) in
      stays _ _ _ _ _ (other dst ((doff + p.at) / 4096) there)
  packet_stays (op.Copy dst doff src soff len) p bytes h q off =
      let there : (doff + p.at) / 4096 < pages dst.0 = omega (arith, h.0, q.some, q.inside) in
      stays _ _ _ _ _ (other dst ((doff + p.at) / 4096) there)
  packet_stays (op.Xor dst doff src soff len) p bytes h q off =
      let there : (doff + p.at) / 4096 < pages dst.0 = omega (arith, h.0, q.some, q.inside) in
      stays _ _ _ _ _ (other dst ((doff + p.at) / 4096) there)
  packet_stays (op.Probe src doff len) p bytes h q off = refl

  pieces_stay : (o : Op) (ps : List Piece) (bytes : PageBytes) → IsInside pages o → Each (IsPiece o) ps → (off : ℕ) → after_packets aper bytes (map (packet_of names o) ps) page off ≡ bytes page off
  pieces_stay o [] bytes h e off = refl
  pieces_stay o (p ∷ ps) bytes h e off = pieces_stay o ps (after_packet aper bytes (packet_of names o p)) h e.1 off ∙ packet_stays o p bytes h e.0 off

  pub ops_stay : (ops : List Op) (bytes : PageBytes) → AllInside pages ops → (off : ℕ) → after_packets aper bytes (packets_of names ops) page off ≡ bytes page off
  ops_stay [] bytes h off = refl
  ops_stay (o ∷ ops) bytes h off =
      ap (λ (b : PageBytes). b page off) (packets-append aper (map (packet_of names o) (pieces_of o)) (packets_of names ops) bytes)
      ∙ ops_stay ops (after_packets aper bytes (map (packet_of names o) (pieces_of o))) h.1 off
      ∙ pieces_stay o (pieces_of o) bytes h.0 (pieces_are o) off
