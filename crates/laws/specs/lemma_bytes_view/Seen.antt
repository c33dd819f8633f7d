-- Packets as the law on plain bytes sees them, with what they have to show.
use Rattle.std.specs.Prelude.{ℕ, suc, ◌+◌, ◌-◌, List, [], ◌∷◌, ◌&&◌, nat_le, nat_lt, map, drop, bit_xor, if◌then◌else◌}
use Rattle.ttm_base.specs.declared.Packet.{Packet}
use Rattle.ttm_base.specs.declared.Packet.TheVariants as packet
use Rattle.ttm_base.specs.ListWords.{count_from}
use Rattle.ttm_base.specs.Pages as pages
use Rattle.journal_model.specs.declared.state.Job.{Job}
use Rattle.journal_model.specs.rules.PlainMemory.{OwedProbes}
use Rattle.laws.specs.lemma_bytes_model.Memory as memory
use Rattle.laws.specs.lemma_bytes_model.Memory.{Bytes, Step, Write, Show}
use Rattle.laws.specs.law_holders.Holding.{seen}

-- no byte past the end of a page
abbrev pub clean : Bytes → Bytes
clean x = λ o. if nat_lt o 4096 then x o else 0

-- len bytes from an offset on become what value says, and the others stay
abbrev pub put_in : ℕ → ℕ → (ℕ → ℕ) → Bytes → Bytes
put_in off len value old = clean (λ o. if nat_le off o && nat_lt o (off + len) then value (o - off) else old o)

-- a packet, each aperture page being the frame to which it is mapped
abbrev pub meant : pages.Aperture → Packet → memory.Packet
meant aper (packet.Fill to off len byte) =
    Write (seen (pages.translated aper to)) (seen (pages.translated aper to)) (λ old new. put_in off len (λ i. byte) old)
meant aper (packet.Copy to toff from foff len) =
    Write (seen (pages.translated aper to)) (seen (pages.translated aper from)) (λ old new. put_in toff len (λ i. new (foff + i)) old)
meant aper (packet.Xor to toff from foff len) =
    Write (seen (pages.translated aper to)) (seen (pages.translated aper from)) (λ old new. put_in toff len (λ i. bit_xor (old (toff + i)) (new (foff + i))) old)
meant aper (packet.Probe from off len) = Show (seen (pages.translated aper from)) (λ x. map x (count_from 1 len off))

-- packets from number k on, with what they have to show
abbrev pub steps_from : pages.Aperture → (ℕ → List ℕ) → ℕ → List Packet → List Step
steps_from aper due k [] = []
steps_from aper due k (p ∷ ps) = record { packet = meant aper p; due = due k } ∷ steps_from aper due (suc k) ps

-- what is left of a job
abbrev pub steps_of : pages.Aperture → OwedProbes → Job → List Step
steps_of aper owed_probes x = steps_from aper (owed_probes x.id) x.ran (drop x.ran x.packets)
