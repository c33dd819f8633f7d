-- What a view has of remaining packets is so of the places that they name.
use Rattle.std.proofs.Common.{◌≡◌, ℕ, ◌+◌, ◌<◌, ◌≤◌, zero, suc, Bool, true, false, List, [], ◌∷◌, Option, Some, None, IsTrue, refl, sym, subst, arith, inl, inr}
use Rattle.std.specs.Prelude.{slice_get, drop, nat_lt, ◌||◌, option_and_then, if◌then◌else◌}
use Rattle.std.proofs.lemmas.Bool.{ltb-true, or_left, or_right}
use Rattle.ttm_base.specs.declared.Mem.{Mem}
use Rattle.ttm_base.specs.declared.Mem.TheVariants.{System, Tt, Vram}
use Rattle.ttm_base.specs.Reach.{same_mem}
use Rattle.ttm_base.specs.declared.Packet.{Packet}
use Rattle.ttm_base.specs.declared.Packet.TheVariants as packet
use Rattle.ttm_base.specs.declared.PagePlace.{PagePlace}
use Rattle.ttm_base.specs.declared.PagePlace.TheVariants as place
use Rattle.ttm_base.specs.Pages as pages
use Rattle.journal_model.specs.declared.script.Script.{Script}
use Rattle.journal_model.specs.declared.entry.Entry.{Entry}
use Rattle.journal_model.specs.declared.state.Core.{Core}
use Rattle.journal_model.specs.declared.state.Buffer.{Buffer}
use Rattle.journal_model.specs.scripts.ScriptRules.{is_script}
use Rattle.journal_model.specs.rules.Places.{pages_of, aperture}
use Rattle.journal_model.specs.rules.Holds.{spans_in}
use Rattle.journal_model.specs.rules.Stores.{is_there}
use Rattle.journal_model.specs.rules.PlainMemory.{Memory, OwedProbes}
use Rattle.journal_model.specs.statements.Spares.{remaining}
use Rattle.journal_model.specs.rules.Legal.{state_of, stores_of, IsLegal}
use Rattle.laws.proofs.law_owners.Counts.{one, stands, weigh}
use Rattle.laws.proofs.law_owners.Weights.{tt_pages, of_buffer, of_ghost, in_buffers, in_ghosts}
use Rattle.laws.proofs.law_owners.Law.{AreHeldOnce, once_law}
use Rattle.laws.specs.law_holders.Holding.{seen}
use Rattle.laws.specs.law_holders.Maps.{Maps}
use Rattle.laws.proofs.law_holders.Positions.{times_at, in_sum, in_list}
use Rattle.laws.proofs.law_holders.Mapped.{aperture_maps}
use Rattle.laws.proofs.law_cutting.Whole.{Each}
use Rattle.laws.specs.lemma_bytes_model.Memory.{Page, same_page, touches, touched}
use Rattle.laws.proofs.lemma_bytes_model.Actions.{same_page-refl}
use Rattle.laws.specs.lemma_bytes_view.Seen.{meant, steps_from}
use Rattle.laws.proofs.lemma_bytes_view.Viewed.{Viewed}
use Rattle.laws.proofs.law_transparent.Carried.{view_law}
use Rattle.laws.specs.law_transparent.NamedPlaces.{IsMapped, IsThere, IsRunnable, NameWhatIsThere}
use Rattle.laws.proofs.law_transparent.Short.{IsShort, AreShort, short_law}

-- ---- a mapped page is one of TT

module _ (script : Script) (c : Core) (once : AreHeldOnce script c) where
  is_below : (p w : ℕ) → 1 ≤ w → w ≤ in_buffers tt_pages p c.buffers + in_ghosts tt_pages p c.ghosts → p < script.sizes.tt
  is_below p w some less = ltb-true p script.sizes.tt (by (nat_lt p script.sizes.tt) (once tt_pages p))
    where
      by : (q : Bool) → in_buffers tt_pages p c.buffers + in_ghosts tt_pages p c.ghosts ≤ one q → q ≡ true
      by true h = refl
      by false h = absurd (omega (arith, some, less, h))

  own_spans : (x : Buffer) → x.mem ≡ Tt → spans_in Tt x ≡ x.spans
  own_spans x e = by x.mem e
    where
      by : (m : Mem) → m ≡ Tt → (if same_mem m Tt then x.spans else []) ≡ x.spans
      by Tt e = refl
      by Vram e = cc
      by System e = cc

  pub maps_below : (p f : ℕ) → Maps c p f → p < script.sizes.tt
  maps_below p f (inl m) =
      let here : 1 ≤ stands p (spans_in Tt m.buffer) = subst (λ ss. 1 ≤ stands p ss) (sym (own_spans m.buffer m.mem)) (times_at p (pages_of m.buffer.spans) m.at m.here) in
      let some : 1 ≤ weigh (of_buffer tt_pages p) (option_and_then (λ o. o) (slice_get c.buffers m.b.0)) = subst (λ o. 1 ≤ weigh (of_buffer tt_pages p) o) (sym m.live) (omega (arith, here)) in
      let less = in_sum (of_buffer tt_pages p) c.buffers m.b.0 in
      is_below p (weigh (of_buffer tt_pages p) (option_and_then (λ o. o) (slice_get c.buffers m.b.0))) some (omega (arith, less))
  maps_below p f (inr m) =
      let some : 1 ≤ of_ghost tt_pages p m.ghost = times_at p (pages_of m.ghost.tt) m.at m.here in
      let less = in_list (of_ghost tt_pages p) c.ghosts m.place m.ghost m.is in
      is_below p (of_ghost tt_pages p m.ghost) some (omega (arith, less))

  -- where the page that a place means is there, the place is
  pub place_is_there : (place : PagePlace) → is_there script.sizes (pages.translated (aperture c) place) ≡ true → IsThere script c place
  place_is_there (place.Vram p) h = ltb-true p script.sizes.vram h
  place_is_there (place.Frame f) h = ltb-true f script.sizes.frames h
  place_is_there (place.Aper p) h = by (aperture c p) refl h
    where
      by : (o : Option ℕ) → aperture c p ≡ o → is_there script.sizes (pages.mapped_page o) ≡ true → IsMapped script c p
      by None e g = cc
      by (Some f) e g = record { inside = maps_below p f (aperture_maps c p f e); frame = f; maps = e; there = ltb-true f script.sizes.frames g }

-- ---- a packet that is left

left_touches : (aper : pages.Aperture) (due : ℕ → List ℕ) (n : ℕ) (ps : List Packet) (k : ℕ) (p : Packet) (x : Page) → slice_get ps k ≡ Some p → touches (meant aper p) x ≡ true → touched (steps_from aper due n ps) x ≡ true
left_touches aper due n [] k p x e h = cc
left_touches aper due n (q ∷ ps) zero p x e h = let same : q ≡ p = cc in or_left (touches (meant aper q) x) (touched (steps_from aper due (suc n) ps) x) (subst (λ z. touches (meant aper z) x ≡ true) (sym same) h)
left_touches aper due n (q ∷ ps) (suc k) p x e h = or_right (touches (meant aper q) x) (touched (steps_from aper due (suc n) ps) x) (left_touches aper due (suc n) ps k p x e h)

short_at : (ps : List Packet) (n k : ℕ) (p : Packet) → Each IsShort ps → slice_get (drop n ps) k ≡ Some p → IsShort p
short_at ps zero k p h e = at ps k h e
  where
    at : (ps : List Packet) (k : ℕ) → Each IsShort ps → slice_get ps k ≡ Some p → IsShort p
    at [] k h e = cc
    at (q ∷ ps) zero h e = let same : q ≡ p = cc in subst IsShort same h.0
    at (q ∷ ps) (suc k) h e = at ps k h.1 e
short_at [] (suc n) k p h e = cc
short_at (q ∷ ps) (suc n) k p h e = short_at ps n k p h.1 e

module _ (script : Script) (c : Core) (once : AreHeldOnce script c) (there : (x : PagePlace) → Type 0) (is : (x : PagePlace) → there x → IsThere script c x) where
  abbrev at : PagePlace → Page
  at x = seen (pages.translated (aperture c) x)

  first : (to from : PagePlace) → (same_page (at to) (at to) || same_page (at from) (at to)) ≡ true
  first to from = or_left (same_page (at to) (at to)) (same_page (at from) (at to)) (same_page-refl (at to))

  second : (to from : PagePlace) → (same_page (at to) (at from) || same_page (at from) (at from)) ≡ true
  second to from = or_right (same_page (at to) (at from)) (same_page (at from) (at from)) (same_page-refl (at from))

  runnable : (p : Packet) → IsShort p → ((x : PagePlace) → touches (meant (aperture c) p) (at x) ≡ true → there x) → IsRunnable script c p
  runnable (packet.Fill to off len byte) s h = record { page = is to (h to (first to to)); range = s }
  runnable (packet.Copy to toff from foff len) s h = (record { page = is to (h to (first to from)); range = s.0 }, record { page = is from (h from (second to from)); range = s.1 })
  runnable (packet.Xor to toff from foff len) s h = (record { page = is to (h to (first to from)); range = s.0 }, record { page = is from (h from (second to from)); range = s.1 })
  runnable (packet.Probe from off len) s h = (record { page = is from (h from (same_page-refl (at from))); range = s.0 }, s.1)

named : (script : Script) (c : Core) (owed_probes : OwedProbes) (m : Memory) (bytes : pages.PageBytes) → AreHeldOnce script c → AreShort c.jobs → Viewed script c owed_probes m bytes → NameWhatIsThere script c
named script c owed_probes m bytes once short u i k j p at here =
    runnable script c once (λ x. is_there script.sizes (pages.translated (aperture c) x) ≡ true) (place_is_there script c once) p
    (short_at j.packets j.ran k p (short i j at) here)
    (λ x h. u.seen.there i (pages.translated (aperture c) x)
    (subst (λ steps. touched steps (seen (pages.translated (aperture c) x)) ≡ true) (sym (u.seen.left i j at)) (left_touches (aperture c) (owed_probes j.id) j.ran (remaining j) k p (seen (pages.translated (aperture c) x)) here h)))

pub places_law : (script : Script) (journal : List Entry) → IsTrue (is_script script) → IsLegal script journal → NameWhatIsThere script (state_of script journal).core
places_law script journal fits h =
    named script (state_of script journal).core _ _ (stores_of script journal) (once_law script journal fits h) (short_law script journal fits h) (view_law script journal fits h)
