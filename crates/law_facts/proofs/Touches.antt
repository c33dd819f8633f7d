-- What a job touches and writes, as the view of a state tells it.
use Rattle.std.proofs.Common.{◌≡◌, ℕ, suc, true, false, List, [], ◌∷◌, refl, sym, ⊎_elim}
use Rattle.std.specs.Prelude.{◌||◌}
use Rattle.std.specs.List.{list_any}
use Rattle.std.proofs.lemmas.Bool.{or_cases, eqb-true, eq-eqb}
use Rattle.ttm_base.specs.declared.Packet.{Packet}
use Rattle.ttm_base.specs.declared.Packet.TheVariants as packet
use Rattle.ttm_base.specs.Pages as pages
use Rattle.ttm_base.specs.Packets.{packet_touches, packet_writes}
use Rattle.laws.specs.lemma_bytes_model.Memory as memory
use Rattle.laws.specs.lemma_bytes_model.Memory.{touched, written}
use Rattle.laws.specs.law_holders.Holding.{seen}
use Rattle.laws.specs.lemma_bytes_view.Seen.{meant, steps_from}
use Rattle.laws.proofs.lemma_bytes_model.Actions.{or_first, or_second}

same_seen : (p q : pages.Page) → pages.same_page p q ≡ true → memory.same_page (seen q) (seen p) ≡ true
same_seen pages.nowhere pages.nowhere e = refl
same_seen (pages.vram p) (pages.vram q) e = eq-eqb q p (sym (eqb-true p q e))
same_seen (pages.frame p) (pages.frame q) e = eq-eqb q p (sym (eqb-true p q e))
same_seen (pages.slot p) (pages.slot q) e = eq-eqb q p (sym (eqb-true p q e))
same_seen p q e = cc

module _ (aper : pages.Aperture) (p : pages.Page) where
  packet_writes_so : (q : Packet) → packet_writes aper p q ≡ true → memory.writes (meant aper q) (seen p) ≡ true
  packet_writes_so (packet.Fill to off len byte) h = same_seen p (pages.translated aper to) h
  packet_writes_so (packet.Copy to toff from foff len) h = same_seen p (pages.translated aper to) h
  packet_writes_so (packet.Xor to toff from foff len) h = same_seen p (pages.translated aper to) h
  packet_writes_so (packet.Probe from off len) h = cc

  two : (to from : pages.Page) → (pages.same_page p to || pages.same_page p from) ≡ true → (memory.same_page (seen to) (seen p) || memory.same_page (seen from) (seen p)) ≡ true
  two to from h =
      ⊎_elim (λ e. or_first (memory.same_page (seen to) (seen p)) (memory.same_page (seen from) (seen p)) (same_seen p to e)) (λ e. or_second (memory.same_page (seen to) (seen p)) (memory.same_page (seen from) (seen p)) (same_seen p from e))
      (or_cases (pages.same_page p to) (pages.same_page p from) h)

  one : (to : pages.Page) → (pages.same_page p to || false) ≡ true → (memory.same_page (seen to) (seen p) || memory.same_page (seen to) (seen p)) ≡ true
  one to h = or_first (memory.same_page (seen to) (seen p)) (memory.same_page (seen to) (seen p)) (⊎_elim (λ e. same_seen p to e) (λ e. cc) (or_cases (pages.same_page p to) false h))

  packet_touches_so : (q : Packet) → packet_touches aper p q ≡ true → memory.touches (meant aper q) (seen p) ≡ true
  packet_touches_so (packet.Fill to off len byte) h = one (pages.translated aper to) h
  packet_touches_so (packet.Copy to toff from foff len) h = two (pages.translated aper to) (pages.translated aper from) h
  packet_touches_so (packet.Xor to toff from foff len) h = two (pages.translated aper to) (pages.translated aper from) h
  packet_touches_so (packet.Probe from off len) h = same_seen p (pages.translated aper from) h

  pub touched_so : (due : ℕ → List ℕ) (k : ℕ) (qs : List Packet) → list_any (packet_touches aper p) qs ≡ true → touched (steps_from aper due k qs) (seen p) ≡ true
  touched_so due k [] h = cc
  touched_so due k (q ∷ qs) h =
      ⊎_elim
      (λ e. or_first (memory.touches (meant aper q) (seen p)) (touched (steps_from aper due (suc k) qs) (seen p)) (packet_touches_so q e))
      (λ e. or_second (memory.touches (meant aper q) (seen p)) (touched (steps_from aper due (suc k) qs) (seen p)) (touched_so due (suc k) qs e))
      (or_cases (packet_touches aper p q) (list_any (packet_touches aper p) qs) h)

  pub written_so : (due : ℕ → List ℕ) (k : ℕ) (qs : List Packet) → list_any (packet_writes aper p) qs ≡ true → written (steps_from aper due k qs) (seen p) ≡ true
  written_so due k [] h = cc
  written_so due k (q ∷ qs) h =
      ⊎_elim
      (λ e. or_first (memory.writes (meant aper q) (seen p)) (written (steps_from aper due (suc k) qs) (seen p)) (packet_writes_so q e))
      (λ e. or_second (memory.writes (meant aper q) (seen p)) (written (steps_from aper due (suc k) qs) (seen p)) (written_so due (suc k) qs e))
      (or_cases (packet_writes aper p q) (list_any (packet_writes aper p) qs) h)
