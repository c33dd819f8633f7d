-- The packets of operations, page by page: on the plain memory they do what the operations do whole, and their probes show what is due.
use mathlib.Core.Path.{fun_ext}
use Rattle.std.proofs.Common.{◌≡◌, ℕ, ◌+◌, ◌-◌, ◌*◌, ◌/◌, ◌%◌, ◌<◌, ◌≤◌, zero, suc, Bool, true, false, List, [], ◌∷◌, ◌++◌, refl, sym, ◌∙◌, ap, ap₂, arith}
use Rattle.std.specs.Prelude.{slice_get, map, nat_eq, nat_le, nat_lt, ◌==◌, ◌&&◌, bit_xor, cond, unwrap_or, if◌then◌else◌}
use Rattle.std.specs.List.{list_all}
use Rattle.std.proofs.lemmas.Bool.{lt-ltb, eqb-true, and_parts}
use Rattle.std.proofs.lemmas.Bool.Decides.{nat_tests}
use Rattle.ttm_base.specs.declared.Op.{Op}
use Rattle.ttm_base.specs.declared.Op.TheVariants as op
use Rattle.ttm_base.specs.declared.Packet.{Packet}
use Rattle.ttm_base.specs.ListWords.{count_from}
use Rattle.ttm_base.specs.Cutting as cutting
use Rattle.ttm_base.specs.Cutting.{PageMap, pieces_of, packet_of, packets_of}
use Rattle.ttm_base.specs.Pages as pages
use Rattle.journal_model.specs.declared.script.Script.{Script}
use Rattle.journal_model.specs.rules.PlainMemory.{Memory, after_op, after_ops, piece_shown, pieces_shown}
use Rattle.journal_model.specs.scripts.CommandRules.{is_op}
use Rattle.laws.specs.law_cutting.Parts.{part_of, IsInPage, IsOfPages, IsPiece}
use Rattle.laws.proofs.law_cutting.Whole.{Each, IsApart, pieces_are, op_is_apart, parts_are_whole}
use Rattle.laws.specs.lemma_bytes_model.Memory.{Page, Nowhere, Vram, Frame, Slot, Own, Bytes, Stores, Step, Write, Show, put, run, shown}
use Rattle.laws.specs.lemma_bytes_model.Entries.{Piece, Probe, aimed, plain_after, steps}
use Rattle.laws.specs.lemma_bytes_view.Seen.{put_in, meant, steps_from}
use Rattle.laws.specs.law_pieces.Pieces.{paged, piece_view, views_of, with_shown, Aims}

-- ---- one piece on the plain memory

-- bytes put into page k of b, and into the buffer
put_at : (b k r len c i o y q u w : ℕ) → r + len ≤ 4096 → ((b == c) ≡ true → k ≡ i → y ≡ q) → (k ≡ i → r ≤ o → o < r + len → u ≡ w) →
    cond (nat_eq b c && nat_eq k i) (if nat_lt o 4096 then (if nat_le r o && nat_lt o (r + len) then u else (if nat_lt o 4096 then q else 0)) else 0) (if nat_lt o 4096 then y else 0)
    ≡ (if nat_lt o 4096 then (if (b == c) && nat_le (4096 * k + r) (4096 * i + o) && nat_lt (4096 * i + o) ((4096 * k + r) + len) then w else y) else 0)
put_at b k r len c i o y q u w fits same same' = grind (arith, nat_tests)

-- an offset by page and rest
split : (n : ℕ) → 4096 * (n / 4096) + n % 4096 ≡ n
split n = omega arith

module _ (m : Memory) (b off len : ℕ) (value : ℕ → ℕ) (whole : ℕ → ℕ) (fits : IsInPage off len) (same : (i : ℕ) → i < len → value i ≡ whole i) where
  -- the page of b becomes what value says, and the memory what whole says
  pub put_paged : put (Own b (off / 4096)) (put_in (off % 4096) len value (paged m (Own b (off / 4096)))) (paged m)
      ≡ paged (λ c x. if (b == c) && nat_le off x && nat_lt x (off + len) then whole (x - off) else m c x)
  put_paged = fun_ext on
    where
      at : (c i o : ℕ) → put (Own b (off / 4096)) (put_in (off % 4096) len value (paged m (Own b (off / 4096)))) (paged m) (Own c i) o
          ≡ paged (λ c x. if (b == c) && nat_le off x && nat_lt x (off + len) then whole (x - off) else m c x) (Own c i) o
      at c i o =
          cond_at (nat_eq b c && nat_eq (off / 4096) i) (put_in (off % 4096) len value (paged m (Own b (off / 4096)))) (paged m (Own c i)) o
          ∙ put_at b (off / 4096) (off % 4096) len c i o (m c (4096 * i + o)) (m b (4096 * (off / 4096) + o)) (value (o - off % 4096)) (whole ((4096 * i + o) - (4096 * (off / 4096) + off % 4096))) fits
          (λ e f. ap₂ (λ d k. m d (4096 * k + o)) (sym (eqb-true b c e)) (sym f))
          (λ f l h. same (o - off % 4096) (omega (arith, l, h)) ∙ ap whole (let z : o - off % 4096 ≡ (4096 * i + o) - (4096 * (off / 4096) + off % 4096) = omega (arith, f, l) in z))
          ∙ ap (λ n. if nat_lt o 4096 then (if (b == c) && nat_le n (4096 * i + o) && nat_lt (4096 * i + o) (n + len) then whole ((4096 * i + o) - n) else m c (4096 * i + o)) else 0) (split off)
        where
          cond_at : (q : Bool) (x y : Bytes) (o : ℕ) → cond q x y o ≡ cond q (x o) (y o)
          cond_at true x y o = refl
          cond_at false x y o = refl

      on : (q : Page) → put (Own b (off / 4096)) (put_in (off % 4096) len value (paged m (Own b (off / 4096)))) (paged m) q
          ≡ paged (λ c x. if (b == c) && nat_le off x && nat_lt x (off + len) then whole (x - off) else m c x) q
      on (Own c i) = fun_ext (at c i)
      on Nowhere = refl
      on (Vram n) = refl
      on (Frame n) = refl
      on (Slot n) = refl

-- a byte of a page
byte_at : (m : Memory) (b off i len : ℕ) → IsInPage off len → i < len → paged m (Own b (off / 4096)) (off % 4096 + i) ≡ m b (off + i)
byte_at m b off i len fits l =
    ap (λ q. if q then m b (4096 * (off / 4096) + (off % 4096 + i)) else 0) (lt-ltb (off % 4096 + i) 4096 (omega (arith, fits, l)))
    ∙ ap (m b) (let d = split off in let z : 4096 * (off / 4096) + (off % 4096 + i) ≡ off + i = omega (arith, d) in z)

pub piece_on_memory : (o : Op) (p : cutting.Piece) (m : Memory) → IsOfPages (part_of o p) → run (aimed Own (piece_view o p)) (paged m) ≡ paged (after_op m (part_of o p))
piece_on_memory (op.Fill dst off len byte) p m fits = put_paged m dst.0 (off + p.at) p.len (λ i. byte) (λ i. byte) fits (λ i l. refl)
piece_on_memory (op.Copy dst doff src soff len) p m fits =
    put_paged m dst.0 (doff + p.at) p.len (λ i. paged m (Own src.0 ((soff + p.at) / 4096)) ((soff + p.at) % 4096 + i)) (λ i. m src.0 ((soff + p.at) + i)) fits.0
    (λ i l. byte_at m src.0 (soff + p.at) i p.len fits.1 l)
piece_on_memory (op.Xor dst doff src soff len) p m fits =
    put_paged m dst.0 (doff + p.at) p.len
    (λ i. bit_xor (paged m (Own dst.0 ((doff + p.at) / 4096)) ((doff + p.at) % 4096 + i)) (paged m (Own src.0 ((soff + p.at) / 4096)) ((soff + p.at) % 4096 + i)))
    (λ i. bit_xor (m dst.0 ((doff + p.at) + i)) (m src.0 ((soff + p.at) + i))) fits.0
    (λ i l. ap₂ bit_xor (byte_at m dst.0 (doff + p.at) i p.len fits.0 l) (byte_at m src.0 (soff + p.at) i p.len fits.1 l))
piece_on_memory (op.Probe src off len) p m fits = refl

-- ---- all pieces of an operation, and of a list

pieces_on_memory : (o : Op) (ps : List cutting.Piece) (m : Memory) → Each (IsPiece o) ps → plain_after (map (piece_view o) ps) (paged m) ≡ paged (after_ops m (map (part_of o) ps))
pieces_on_memory o [] m h = refl
pieces_on_memory o (p ∷ ps) m h = ap (plain_after (map (piece_view o) ps)) (piece_on_memory o p m h.0.pages) ∙ pieces_on_memory o ps (after_op m (part_of o p)) h.1

pub plain_after-append : (xs ys : List Piece) (s : Stores) → plain_after (xs ++ ys) s ≡ plain_after ys (plain_after xs s)
plain_after-append [] ys s = refl
plain_after-append (x ∷ xs) ys s = plain_after-append xs ys (run (aimed Own x) s)

pub op_on_memory : (o : Op) (m : Memory) → IsApart o → plain_after (map (piece_view o) (pieces_of o)) (paged m) ≡ paged (after_op m o)
op_on_memory o m a = pieces_on_memory o (pieces_of o) m (pieces_are o) ∙ ap paged (parts_are_whole o m a)

pub ops_on_memory : (script : Script) (ops : List Op) (m : Memory) → list_all (is_op script) ops ≡ true → plain_after (views_of ops) (paged m) ≡ paged (after_ops m ops)
ops_on_memory script [] m h = refl
ops_on_memory script (o ∷ ops) m h =
    let parts = and_parts (is_op script o) (list_all (is_op script) ops) h in
    plain_after-append (map (piece_view o) (pieces_of o)) (views_of ops) (paged m)
    ∙ ap (plain_after (views_of ops)) (op_on_memory o m (op_is_apart script o parts.0))
    ∙ ops_on_memory script ops (after_op m o) parts.1

-- ---- the steps: packets with what they have to show

module _ (aper : pages.Aperture) (names : PageMap) (place : ℕ → ℕ → Page) (aims : Aims aper names place) where
  pub packet_is_piece : (o : Op) (p : cutting.Piece) → meant aper (packet_of names o p) ≡ aimed place (piece_view o p)
  packet_is_piece (op.Fill dst off len byte) p =
      ap (λ t. Write t t (λ old new. put_in ((off + p.at) % 4096) p.len (λ i. byte) old)) (aims dst ((off + p.at) / 4096))
  packet_is_piece (op.Copy dst doff src soff len) p =
      ap₂ (λ t f. Write t f (λ old new. put_in ((doff + p.at) % 4096) p.len (λ i. new ((soff + p.at) % 4096 + i)) old)) (aims dst ((doff + p.at) / 4096)) (aims src ((soff + p.at) / 4096))
  packet_is_piece (op.Xor dst doff src soff len) p =
      ap₂ (λ t f. Write t f (λ old new. put_in ((doff + p.at) % 4096) p.len (λ i. bit_xor (old ((doff + p.at) % 4096 + i)) (new ((soff + p.at) % 4096 + i))) old))
      (aims dst ((doff + p.at) / 4096)) (aims src ((soff + p.at) / 4096))
  packet_is_piece (op.Probe src off len) p = ap (λ f. Show f (λ x. map x (count_from 1 p.len ((off + p.at) % 4096)))) (aims src ((off + p.at) / 4096))

-- a probe's piece shows bytes of the memory
bytes_shown : (m : Memory) (b off : ℕ) (n len j : ℕ) → IsInPage off len → j + n ≤ len → map (paged m (Own b (off / 4096))) (count_from 1 n (off % 4096 + j)) ≡ map (m b) (count_from 1 n (off + j))
bytes_shown m b off zero len j fits l = refl
bytes_shown m b off (suc n) len j fits l =
    ap₂ ◌∷◌ (byte_at m b off j len fits (omega (arith, l)))
    (ap (λ k. map (paged m (Own b (off / 4096))) (count_from 1 n k)) (let z : 1 + (off % 4096 + j) ≡ off % 4096 + (j + 1) = omega arith in z)
    ∙ bytes_shown m b off n len (j + 1) fits (omega (arith, l))
    ∙ ap (λ k. map (m b) (count_from 1 n k)) (let z : off + (j + 1) ≡ 1 + (off + j) = omega arith in z))

piece_shows : (o : Op) (p : cutting.Piece) (m : Memory) → IsOfPages (part_of o p) → shown (aimed Own (piece_view o p)) (paged m) ≡ piece_shown m o p
piece_shows (op.Fill dst off len byte) p m fits = refl
piece_shows (op.Copy dst doff src soff len) p m fits = refl
piece_shows (op.Xor dst doff src soff len) p m fits = refl
piece_shows (op.Probe src off len) p m fits =
    ap (λ k. map (paged m (Own src.0 ((off + p.at) / 4096))) (count_from 1 p.len k)) (let z : (off + p.at) % 4096 ≡ (off + p.at) % 4096 + 0 = omega arith in z)
    ∙ bytes_shown m src.0 (off + p.at) p.len p.len 0 fits (omega arith)
    ∙ ap (λ k. map (m src.0) (count_from 1 p.len k)) (let z : (off + p.at) + 0 ≡ off + p.at = omega arith in z)

-- what a piece shows doesn't depend on pieces of the same operation
shown_still : (o : Op) (p q : cutting.Piece) (m : Memory) → piece_shown (after_op m (part_of o q)) o p ≡ piece_shown m o p
shown_still (op.Fill dst off len byte) p q m = refl
shown_still (op.Copy dst doff src soff len) p q m = refl
shown_still (op.Xor dst doff src soff len) p q m = refl
shown_still (op.Probe src off len) p q m = refl

all_still : (o : Op) (ps : List cutting.Piece) (q : cutting.Piece) (m : Memory) → map (piece_shown (after_op m (part_of o q)) o) ps ≡ map (piece_shown m o) ps
all_still o [] q m = refl
all_still o (p ∷ ps) q m = ap₂ ◌∷◌ (shown_still o p q m) (all_still o ps q m)

module _ (aper : pages.Aperture) (names : PageMap) (place : ℕ → ℕ → Page) (aims : Aims aper names place) where
  op_steps : (o : Op) (ps : List cutting.Piece) (m : Memory) → Each (IsPiece o) ps → steps place (map (piece_view o) ps) (paged m) ≡ with_shown aper (map (packet_of names o) ps) (map (piece_shown m o) ps)
  op_steps o [] m h = refl
  op_steps o (p ∷ ps) m h =
      ap₂ (λ (x : Step) (rest : List Step). x ∷ rest)
      (ap₂ (λ q d. record { packet = q; due = d }) (sym (packet_is_piece aper names place aims o p)) (piece_shows o p m h.0.pages))
      (ap (steps place (map (piece_view o) ps)) (piece_on_memory o p m h.0.pages)
      ∙ op_steps o ps (after_op m (part_of o p)) h.1
      ∙ ap (with_shown aper (map (packet_of names o) ps)) (all_still o ps p m))

  steps-append : (xs ys : List Piece) (s : Stores) → steps place (xs ++ ys) s ≡ steps place xs s ++ steps place ys (plain_after xs s)
  steps-append [] ys s = refl
  steps-append (x ∷ xs) ys s = ap (λ (rest : List Step). record { packet = aimed place x; due = shown (aimed Own x) s } ∷ rest) (steps-append xs ys (run (aimed Own x) s))

  shown-append : {X : Type 0} (f : X → Packet) (h : X → List ℕ) (xs : List X) (qs : List Packet) (ds : List (List ℕ)) →
      with_shown aper (map f xs ++ qs) (map h xs ++ ds) ≡ with_shown aper (map f xs) (map h xs) ++ with_shown aper qs ds
  shown-append f h [] qs ds = refl
  shown-append f h (x ∷ xs) qs ds = ap (λ (rest : List Step). record { packet = meant aper (f x); due = h x } ∷ rest) (shown-append f h xs qs ds)

  pub ops_steps : (script : Script) (ops : List Op) (m : Memory) → list_all (is_op script) ops ≡ true → steps place (views_of ops) (paged m) ≡ with_shown aper (packets_of names ops) (pieces_shown m ops)
  ops_steps script [] m h = refl
  ops_steps script (o ∷ ops) m h =
      let parts = and_parts (is_op script o) (list_all (is_op script) ops) h in
      steps-append (map (piece_view o) (pieces_of o)) (views_of ops) (paged m)
      ∙ ap₂ ◌++◌ (op_steps o (pieces_of o) m (pieces_are o))
      (ap (steps place (views_of ops)) (op_on_memory o m (op_is_apart script o parts.0)) ∙ ops_steps script ops (after_op m o) parts.1)
      ∙ sym (shown-append (packet_of names o) (piece_shown m o) (pieces_of o) (packets_of names ops) (pieces_shown (after_op m o) ops))

-- ---- owed_probes by number

same_from : (aper : pages.Aperture) (ps : List Packet) (ds : List (List ℕ)) (due : ℕ → List ℕ) (k : ℕ) → ((j : ℕ) → due (k + j) ≡ unwrap_or (slice_get ds j) []) → with_shown aper ps ds ≡ steps_from aper due k ps
same_from aper [] ds due k h = refl
same_from aper (p ∷ ps) [] due k h =
    ap₂ (λ (d : List ℕ) (rest : List Step). record { packet = meant aper p; due = d } ∷ rest)
    (sym (ap due (let z : k ≡ k + 0 = omega arith in z) ∙ h 0))
    (same_from aper ps [] due (suc k) (λ j. ap due (let z : suc k + j ≡ k + suc j = omega arith in z) ∙ h (suc j)))
same_from aper (p ∷ ps) (d ∷ ds) due k h =
    ap₂ (λ (d : List ℕ) (rest : List Step). record { packet = meant aper p; due = d } ∷ rest)
    (sym (ap due (let z : k ≡ k + 0 = omega arith in z) ∙ h 0))
    (same_from aper ps ds due (suc k) (λ j. ap due (let z : suc k + j ≡ k + suc j = omega arith in z) ∙ h (suc j)))

pub shown_from : (aper : pages.Aperture) (ps : List Packet) (ds : List (List ℕ)) → with_shown aper ps ds ≡ steps_from aper (λ k. unwrap_or (slice_get ds k) []) 0 ps
shown_from aper ps ds = same_from aper ps ds (λ k. unwrap_or (slice_get ds k) []) 0 (λ j. ap (λ k. unwrap_or (slice_get ds k) []) (let z : 0 + j ≡ j = omega arith in z))
