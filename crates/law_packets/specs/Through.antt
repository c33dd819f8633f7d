-- Buffers through the pages that their names mean, and packets one after another.
use Rattle.std.specs.Prelude.{◌≡◌, ℕ, ◌+◌, ◌*◌, ◌/◌, ◌%◌, ◌<◌, ◌≤◌, true, false, List, [], ◌∷◌, ◌++◌, ◌==◌}
use Rattle.ttm_base.specs.declared.BufId.{BufId}
use Rattle.ttm_base.specs.declared.Op.{Op}
use Rattle.ttm_base.specs.declared.Op.TheVariants as op
use Rattle.ttm_base.specs.declared.Packet.{Packet}
use Rattle.ttm_base.specs.Cutting.{PageMap}
use Rattle.ttm_base.specs.Packets.{after_packet, probe_piece}
use Rattle.ttm_base.specs.Pages.{PageBytes, Aperture, same_page, translated}
use Rattle.journal_model.specs.rules.PlainMemory.{Memory, after_op, memory_range}

-- the bytes of buffers, each read at the page that its name means
abbrev pub memory_of : Aperture → PageMap → PageBytes → Memory
memory_of aper names bytes = λ b x. bytes (translated aper (names (record { 0 = b }) (x / 4096))) (x % 4096)

-- each page of each buffer, which has this many pages, has a page of its own
abbrev pub AreApart : Aperture → PageMap → (ℕ → ℕ) → Type 0
AreApart aper names pages =
    (b c : BufId) (i j : ℕ) → i < pages b.0 → j < pages c.0 → same_page (translated aper (names b i)) (translated aper (names c j)) ≡ true → (b.0 ≡ c.0) × (i ≡ j)

-- an operation lies inside its buffers, and they are two where it reads one beside the one that it writes
abbrev pub IsInside : (ℕ → ℕ) → Op → Type 0
IsInside pages (op.Fill dst off len byte) = off + len ≤ 4096 * pages dst.0
IsInside pages (op.Copy dst doff src soff len) = (doff + len ≤ 4096 * pages dst.0) × (soff + len ≤ 4096 * pages src.0) × ((dst.0 == src.0) ≡ false)
IsInside pages (op.Xor dst doff src soff len) = (doff + len ≤ 4096 * pages dst.0) × (soff + len ≤ 4096 * pages src.0) × ((dst.0 == src.0) ≡ false)
IsInside pages (op.Probe src off len) = off + len ≤ 4096 * pages src.0

-- each operation lies inside its buffers, and they are two where it reads one beside the one that it writes
abbrev pub AllInside : (ℕ → ℕ) → List Op → Type 0
AllInside pages [] = Unit {0}
AllInside pages (o ∷ ops) = IsInside pages o × AllInside pages ops

-- the bytes after packets in their order
abbrev pub after_packets : Aperture → PageBytes → List Packet → PageBytes
after_packets aper bytes [] = bytes
after_packets aper bytes (p ∷ ps) = after_packets aper (after_packet aper bytes p) ps

-- what the packets show, joined
abbrev pub packets_show : Aperture → PageBytes → List Packet → List ℕ
packets_show aper bytes [] = []
packets_show aper bytes (p ∷ ps) = probe_piece aper bytes p ++ packets_show aper (after_packet aper bytes p) ps

-- what an operation shows
abbrev pub op_shows : Memory → Op → List ℕ
op_shows m (op.Fill dst off len byte) = []
op_shows m (op.Copy dst doff src soff len) = []
op_shows m (op.Xor dst doff src soff len) = []
op_shows m (op.Probe src off len) = memory_range m src off len

-- what operations show, joined, each in the memory that those before it leave
abbrev pub probes_show : Memory → List Op → List ℕ
probes_show m [] = []
probes_show m (o ∷ ops) = op_shows m o ++ probes_show (after_op m o) ops
