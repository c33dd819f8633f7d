-- The packets of operations, page by page of the plain memory, and with what they have to show.
use Rattle.std.specs.Prelude.{◌≡◌, ℕ, ◌+◌, ◌*◌, ◌/◌, ◌%◌, List, [], ◌∷◌, map, flat_map, nat_lt, bit_xor, if◌then◌else◌}
use Rattle.ttm_base.specs.declared.BufId.{BufId}
use Rattle.ttm_base.specs.declared.Op.{Op}
use Rattle.ttm_base.specs.declared.Op.TheVariants as op
use Rattle.ttm_base.specs.declared.Packet.{Packet}
use Rattle.ttm_base.specs.ListWords.{count_from}
use Rattle.ttm_base.specs.Cutting as cutting
use Rattle.ttm_base.specs.Cutting.{PageMap, pieces_of}
use Rattle.ttm_base.specs.Pages as pages
use Rattle.journal_model.specs.rules.PlainMemory.{Memory}
use Rattle.laws.specs.lemma_bytes_model.Memory.{Page, Own, Stores, Step}
use Rattle.laws.specs.lemma_bytes_model.Entries.{Piece, Change, Probe}
use Rattle.laws.specs.law_holders.Holding.{seen}
use Rattle.laws.specs.lemma_bytes_view.Seen.{put_in, meant}

-- the plain memory by pages
abbrev pub paged : Memory → Stores
paged m (Own b i) = λ o. if nat_lt o 4096 then m b (4096 * i + o) else 0
paged m _ = λ o. 0

-- a piece of an operation, page by page
abbrev pub piece_view : Op → cutting.Piece → Piece
piece_view (op.Fill dst off len byte) p =
    Change dst.0 ((off + p.at) / 4096) dst.0 ((off + p.at) / 4096) (λ old new. put_in ((off + p.at) % 4096) p.len (λ i. byte) old)
piece_view (op.Copy dst doff src soff len) p =
    Change dst.0 ((doff + p.at) / 4096) src.0 ((soff + p.at) / 4096) (λ old new. put_in ((doff + p.at) % 4096) p.len (λ i. new ((soff + p.at) % 4096 + i)) old)
piece_view (op.Xor dst doff src soff len) p =
    Change dst.0 ((doff + p.at) / 4096) src.0 ((soff + p.at) / 4096)
    (λ old new. put_in ((doff + p.at) % 4096) p.len (λ i. bit_xor (old ((doff + p.at) % 4096 + i)) (new ((soff + p.at) % 4096 + i))) old)
piece_view (op.Probe src off len) p = Probe src.0 ((off + p.at) / 4096) (λ x. map x (count_from 1 p.len ((off + p.at) % 4096)))

-- all pieces of operations
abbrev pub views_of : List Op → List Piece
views_of ops = flat_map (λ o. map (piece_view o) (pieces_of o)) ops

-- packets with what each has to show
abbrev pub with_shown : pages.Aperture → List Packet → List (List ℕ) → List Step
with_shown aper [] ds = []
with_shown aper (p ∷ ps) [] = record { packet = meant aper p; due = [] } ∷ with_shown aper ps []
with_shown aper (p ∷ ps) (d ∷ ds) = record { packet = meant aper p; due = d } ∷ with_shown aper ps ds

-- the packets' names mean the places
abbrev pub Aims : pages.Aperture → PageMap → (ℕ → ℕ → Page) → Type 0
Aims aper names place = (b : BufId) (i : ℕ) → seen (pages.translated aper (names b i)) ≡ place b.0 i
