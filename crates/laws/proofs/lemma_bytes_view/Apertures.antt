-- The aperture changes only where no packet that is left goes: packets mean what they meant.
use Rattle.std.proofs.Common.{◌≡◌, ℕ, ◌+◌, suc, Bool, true, false, List, [], ◌∷◌, None, refl, sym, subst, ap, ap₂, ◌⊎◌, inl, inr, ⊎_elim}
use Rattle.std.specs.Prelude.{map, bit_xor, ◌||◌}
use Rattle.ttm_base.specs.ListWords.{count_from}
use Rattle.ttm_base.specs.declared.Packet.{Packet}
use Rattle.ttm_base.specs.declared.Packet.TheVariants as packet
use Rattle.ttm_base.specs.declared.PagePlace.{PagePlace}
use Rattle.ttm_base.specs.declared.PagePlace.TheVariants as place
use Rattle.ttm_base.specs.Pages as pages
use Rattle.laws.specs.lemma_bytes_model.Memory as memory
use Rattle.laws.specs.lemma_bytes_model.Memory.{Page, Nowhere, Step, Write, Show, same_page, touches, touched}
use Rattle.laws.specs.lemma_bytes_model.View.{View, Good}
use Rattle.laws.proofs.lemma_bytes_model.Actions.{same_page-refl, or_first, or_second, clash}
use Rattle.laws.proofs.lemma_bytes_model.Cpu.{idle_untouched}
use Rattle.laws.specs.law_holders.Holding.{seen}
use Rattle.laws.specs.lemma_bytes_view.Seen.{put_in, meant, steps_from}
use Rattle.laws.proofs.lemma_bytes_view.PacketStep.{no_bytes}

-- an aperture page is mapped as before, or no packet touches what it was mapped to
abbrev pub Spared : pages.Aperture → pages.Aperture → (Page → Bool) → ℕ → Type 0
Spared aper new touch p = (new p ≡ aper p) ⊎ (touch (seen (pages.mapped_page (aper p))) ≡ false)

module _ (aper new : pages.Aperture) where
  name_same : (touch : Page → Bool) → ((p : ℕ) → Spared aper new touch p) → (to : PagePlace) → touch (seen (pages.translated aper to)) ≡ true → pages.translated new to ≡ pages.translated aper to
  name_same touch spared (place.Vram p) t = refl
  name_same touch spared (place.Frame f) t = refl
  name_same touch spared (place.Aper p) t = ⊎_elim (λ e. ap pages.mapped_page e) (λ e. clash t e) (spared p)

  touches_first : (q r : Page) → (same_page q q || same_page r q) ≡ true
  touches_first q r = or_first (same_page q q) (same_page r q) (same_page-refl q)

  touches_second : (q r : Page) → (same_page q r || same_page r r) ≡ true
  touches_second q r = or_second (same_page q r) (same_page r r) (same_page-refl r)

  meant_same : (q : Packet) → ((p : ℕ) → Spared aper new (touches (meant aper q)) p) → meant new q ≡ meant aper q
  meant_same (packet.Fill to off len byte) spared =
      by (name_same (touches (meant aper (packet.Fill to off len byte))) spared to (touches_first (seen (pages.translated aper to)) (seen (pages.translated aper to))))
    where
      by : pages.translated new to ≡ pages.translated aper to → meant new (packet.Fill to off len byte) ≡ meant aper (packet.Fill to off len byte)
      by e = ap (λ t. Write (seen t) (seen t) (λ old none. put_in off len (λ i. byte) old)) e
  meant_same (packet.Copy to toff from foff len) spared =
      ap₂ (λ t f. Write (seen t) (seen f) (λ old other. put_in toff len (λ i. other (foff + i)) old))
      (name_same (touches (meant aper (packet.Copy to toff from foff len))) spared to (touches_first (seen (pages.translated aper to)) (seen (pages.translated aper from))))
      (name_same (touches (meant aper (packet.Copy to toff from foff len))) spared from (touches_second (seen (pages.translated aper to)) (seen (pages.translated aper from))))
  meant_same (packet.Xor to toff from foff len) spared =
      ap₂ (λ t f. Write (seen t) (seen f) (λ old other. put_in toff len (λ i. bit_xor (old (toff + i)) (other (foff + i))) old))
      (name_same (touches (meant aper (packet.Xor to toff from foff len))) spared to (touches_first (seen (pages.translated aper to)) (seen (pages.translated aper from))))
      (name_same (touches (meant aper (packet.Xor to toff from foff len))) spared from (touches_second (seen (pages.translated aper to)) (seen (pages.translated aper from))))
  meant_same (packet.Probe from off len) spared =
      ap (λ f. Show (seen f) (λ x. map x (count_from 1 len off)))
      (name_same (touches (meant aper (packet.Probe from off len))) spared from (same_page-refl (seen (pages.translated aper from))))

  left_false : (a b : Bool) → (a || b) ≡ false → a ≡ false
  left_false false b h = refl
  left_false true b h = cc

  right_false : (a b : Bool) → (a || b) ≡ false → b ≡ false
  right_false false b h = h
  right_false true b h = cc

  pub steps_same : (due : ℕ → List ℕ) (k : ℕ) (ps : List Packet) → ((p : ℕ) → Spared aper new (touched (steps_from aper due k ps)) p) → steps_from new due k ps ≡ steps_from aper due k ps
  steps_same due k [] spared = refl
  steps_same due k (q ∷ qs) spared =
      ap₂ (λ (m : memory.Packet) (rest : List Step). record { packet = m; due = due k } ∷ rest)
      (meant_same q (λ p. ⊎_elim (λ e. inl e) (λ e. inr (left_false (touches (meant aper q) (seen (pages.mapped_page (aper p)))) (touched (steps_from aper due (suc k) qs) (seen (pages.mapped_page (aper p)))) e)) (spared p)))
      (steps_same due (suc k) qs (λ p. ⊎_elim (λ e. inl e) (λ e. inr (right_false (touches (meant aper q) (seen (pages.mapped_page (aper p)))) (touched (steps_from aper due (suc k) qs) (seen (pages.mapped_page (aper p)))) e)) (spared p)))

-- a page that isn't mapped is touched by none
pub unmapped_spared : (v : View) → Good no_bytes v → (aper new : pages.Aperture) (i p : ℕ) → aper p ≡ None → Spared aper new (touched (v.left i)) p
unmapped_spared v g aper new i p e = inr (subst (λ o. touched (v.left i) (seen (pages.mapped_page o)) ≡ false) (sym e) (idle_untouched no_bytes v g Nowhere g.nowhere i))
