-- What an entry gives nobody has mapped before it, and what it takes nobody has mapped after it.
use Rattle.std.proofs.Common.{◌≡◌, ℕ, ◌+◌, ◌≤◌, Bool, true, false, List, [], ◌∷◌, ◌++◌, Option, Some, None, Ok, IsTrue, refl, sym, subst, ◌∙◌, ap, arith, inl, inr, ⊎_elim}
use Rattle.std.specs.Prelude.{slice_get, slice_set, filter, not, nat_lt, ◌==◌, ◌||◌, option_and_then, unwrap_or, if◌then◌else◌}
use Rattle.std.proofs.lemmas.Bool.{cases_eq, or_cases, eqb-true, false_from_ne_true}
use Rattle.ttm_base.specs.declared.Mem.{Mem}
use Rattle.ttm_base.specs.declared.Mem.TheVariants.{System, Tt, Vram}
use Rattle.ttm_base.specs.declared.BufId.{BufId}
use Rattle.ttm_base.specs.Reach.{same_mem}
use Rattle.ttm_base.specs.declared.Packet.{Packet}
use Rattle.ttm_base.specs.declared.Packet.TheVariants as packet
use Rattle.ttm_base.specs.declared.PagePlace.{PagePlace}
use Rattle.ttm_base.specs.declared.PagePlace.TheVariants as place
use Rattle.ttm_base.specs.declared.Actor.{Actor}
use Rattle.ttm_base.specs.Packets.{is_aper, packet_names}
use Rattle.journal_model.specs.declared.script.Script.{Script}
use Rattle.journal_model.specs.declared.state.State.{State}
use Rattle.journal_model.specs.declared.state.Core.{Core}
use Rattle.journal_model.specs.declared.state.Buffer.{Buffer}
use Rattle.journal_model.specs.declared.state.Ghost.{Ghost}
use Rattle.journal_model.specs.declared.state.Job.{Job}
use Rattle.journal_model.specs.declared.entry.Entry.{Entry}
use Rattle.journal_model.specs.declared.entry.Kind.{Kind}
use Rattle.journal_model.specs.declared.entry.Kind.TheVariants as kind
use Rattle.journal_model.specs.rules.State.{new_buffer, buffer_in, live_in, changed, target_spans}
use Rattle.journal_model.specs.scripts.ScriptRules.{is_script}
use Rattle.journal_model.specs.rules.Places.{pages_of}
use Rattle.journal_model.specs.rules.Holds.{spans_in, has_number}
use Rattle.journal_model.specs.rules.Next.{next}
use Rattle.journal_model.specs.rules.Apply.{applied}
use Rattle.journal_model.specs.rules.ApplyCommands.{ghost_of_freed}
use Rattle.journal_model.specs.rules.ApplyPages.{unbound}
use Rattle.journal_model.specs.rules.Stores.{showing}
use Rattle.journal_model.specs.statements.Spares.{remaining, tt_of_ghosts}
use Rattle.journal_model.specs.rules.Legal.{World, first_world, world_of, state_of, shown_step, IsLegal}
use Rattle.laws.proofs.law_state.Shown.{shown_alike}
use Rattle.laws.proofs.law_owners.Counts.{one, times, times-append, stands, summed, weigh, summed-set}
use Rattle.laws.proofs.law_owners.Weights.{tt_pages, of_buffer, of_ghost, in_buffers, in_ghosts, weight, left_weight}
use Rattle.laws.proofs.law_owners.Keeps.{new_weighs_none}
use Rattle.laws.proofs.law_owners.Law.{AreHeldOnce, once_law}
use Rattle.laws.specs.law_holders.Maps.{BufferMaps, Maps}
use Rattle.laws.proofs.law_holders.Positions.{times_at, has_times, in_sum, two_in_sum, in_list}
use Rattle.laws.proofs.law_holders.Mapped.{aperture_maps}
use Rattle.laws.proofs.law_transparent.Law.{world_push, legal_push}
use Rattle.laws.specs.law_transparent.NamedPlaces.{IsMapped, IsThere, IsRunnable, NameWhatIsThere}
use Rattle.laws.specs.law_transparent.Spared.{SparesPackets}
use Rattle.laws.proofs.law_transparent.PacketPlacesLaw.{places_law}

-- ---- a page that a packet names is mapped

place_mapped : (script : Script) (c : Core) (page : ℕ) (x : PagePlace) → is_aper page x ≡ true → IsThere script c x → IsMapped script c page
place_mapped script c page (place.Aper p) h t = subst (IsMapped script c) (eqb-true p page h) t
place_mapped script c page (place.Vram p) h t = cc
place_mapped script c page (place.Frame f) h t = cc

named_mapped : (script : Script) (c : Core) (page : ℕ) (p : Packet) → packet_names page p ≡ true → IsRunnable script c p → IsMapped script c page
named_mapped script c page (packet.Fill to off len byte) h r = place_mapped script c page to h r.page
named_mapped script c page (packet.Copy to toff from foff len) h r = ⊎_elim (λ e. place_mapped script c page to e r.0.page) (λ e. place_mapped script c page from e r.1.page) (or_cases (is_aper page to) (is_aper page from) h)
named_mapped script c page (packet.Xor to toff from foff len) h r = ⊎_elim (λ e. place_mapped script c page to e r.0.page) (λ e. place_mapped script c page from e r.1.page) (or_cases (is_aper page to) (is_aper page from) h)
named_mapped script c page (packet.Probe from off len) h r = place_mapped script c page from h r.0.page

abbrev IsUnmapped : Script → Core → ℕ → Type 0
IsUnmapped script c page = IsMapped script c page → ⊥

unnamed : (script : Script) (c : Core) (page i n : ℕ) (j : Job) (p : Packet) → NameWhatIsThere script c → IsUnmapped script c page → slice_get c.jobs i ≡ Some j → slice_get (remaining j) n ≡ Some p → packet_names page p ≡ false
unnamed script c page i n j p named free e f = false_from_ne_true (packet_names page p) (λ h. free (named_mapped script c page p h (named i n j p e f)))

-- ---- a mapped page weighs

module _ (c : Core) (page frame : ℕ) where
  buffer_weighs : (m : BufferMaps c page frame) → 1 ≤ stands page (spans_in Tt m.buffer)
  buffer_weighs m = subst (λ ss. 1 ≤ stands page ss) (sym (tt_spans m.buffer m.mem)) (times_at page (pages_of m.buffer.spans) m.at m.here)
    where
      tt_spans : (x : Buffer) → x.mem ≡ Tt → spans_in Tt x ≡ x.spans
      tt_spans x e = by x.mem e
        where
          by : (m : Mem) → m ≡ Tt → (if same_mem m Tt then x.spans else []) ≡ x.spans
          by Tt e = refl
          by Vram e = cc
          by System e = cc

  pub maps_weigh : Maps c page frame → 1 ≤ weight tt_pages page c
  maps_weigh (inl m) =
      let here = buffer_weighs m in
      let some : 1 ≤ weigh (of_buffer tt_pages page) (option_and_then (λ o. o) (slice_get c.buffers m.b.0)) = subst (λ o. 1 ≤ weigh (of_buffer tt_pages page) o) (sym m.live) (omega (arith, here)) in
      let less = in_sum (of_buffer tt_pages page) c.buffers m.b.0 in
      omega (arith, some, less)
  maps_weigh (inr m) =
      let some : 1 ≤ of_ghost tt_pages page m.ghost = times_at page (pages_of m.ghost.tt) m.at m.here in
      let less = in_list (of_ghost tt_pages page) c.ghosts m.place m.ghost m.is in
      omega (arith, some, less)

  -- beside the target of a buffer
  pub maps_beside : (b : BufId) (x : Buffer) → live_in c.buffers b ≡ Some x → 1 ≤ stands page (target_spans Tt x) → Maps c page frame → 2 ≤ weight tt_pages page c
  maps_beside b x e t (inl m) =
      let here = buffer_weighs m in
      let mine : weigh (of_buffer tt_pages page) (option_and_then (λ o. o) (slice_get c.buffers b.0)) ≡ of_buffer tt_pages page x = ap (weigh (of_buffer tt_pages page)) e in
      let other : weigh (of_buffer tt_pages page) (option_and_then (λ o. o) (slice_get c.buffers m.b.0)) ≡ of_buffer tt_pages page m.buffer = ap (weigh (of_buffer tt_pages page)) m.live in
      ⊎_elim
      (λ q.
      let both : Some x ≡ Some m.buffer = sym e ∙ ap (λ i. option_and_then (λ o. o) (slice_get c.buffers i)) q ∙ m.live in
      let is : m.buffer ≡ x = cc in
      let also : 1 ≤ stands page (spans_in Tt x) = subst (λ y. 1 ≤ stands page (spans_in Tt y)) is here in
      let less = in_sum (of_buffer tt_pages page) c.buffers b.0 in
      omega (arith, also, less, mine, t))
      (λ ne. let less = two_in_sum (of_buffer tt_pages page) c.buffers b.0 m.b.0 ne in omega (arith, here, less, mine, other, t))
      (cases_eq b.0 m.b.0)
  maps_beside b x e t (inr m) =
      let mine : weigh (of_buffer tt_pages page) (option_and_then (λ o. o) (slice_get c.buffers b.0)) ≡ of_buffer tt_pages page x = ap (weigh (of_buffer tt_pages page)) e in
      let some : 1 ≤ of_ghost tt_pages page m.ghost = times_at page (pages_of m.ghost.tt) m.at m.here in
      let less = in_list (of_ghost tt_pages page) c.ghosts m.place m.ghost m.is in
      let first = in_sum (of_buffer tt_pages page) c.buffers b.0 in
      omega (arith, mine, some, less, first, t)

pub weighs_once : (script : Script) (c : Core) → AreHeldOnce script c → (page : ℕ) → weight tt_pages page c ≤ 1
weighs_once script c once page = by (weight tt_pages page c) (nat_lt page script.sizes.tt) (once tt_pages page)
  where
    by : (w : ℕ) (q : Bool) → w ≤ one q → w ≤ 1
    by w true h = h
    by w false h = omega (arith, h)

-- ---- what is given

given : (script : Script) (c : Core) → AreHeldOnce script c → (b : BufId) (page : ℕ) → has_number (pages_of (target_spans Tt (buffer_in c b))) page ≡ true → IsUnmapped script c page
given script c once b page h m = by (live_in c.buffers b) refl h
  where
    by : (o : Option Buffer) → live_in c.buffers b ≡ o → has_number (pages_of (target_spans Tt (unwrap_or o (new_buffer 0)))) page ≡ true → ⊥
    by None e g = cc
    by (Some x) e g =
        let two = maps_beside c page m.frame b x e (has_times page (pages_of (target_spans Tt x)) g) (aperture_maps c page m.frame m.maps) in
        let few = weighs_once script c once page in
        absurd (omega (arith, two, few))

-- ---- what is taken

taken : (script : Script) (c new : Core) → AreHeldOnce script c → (page : ℕ) → weight tt_pages page new + 1 ≤ weight tt_pages page c → IsUnmapped script new page
taken script c new once page less m =
    let some = maps_weigh new page m.frame (aperture_maps new page m.frame m.maps) in
    let few = weighs_once script c once page in
    absurd (omega (arith, some, few, less))

pub unbind_takes : (c new : Core) (b : BufId) (page : ℕ) → new.buffers ≡ changed unbound c.buffers b → new.ghosts ≡ c.ghosts → has_number (pages_of (spans_in Tt (buffer_in c b))) page ≡ true → weight tt_pages page new + 1 ≤ weight tt_pages page c
unbind_takes c new b page e g h =
    let some = has_times page (pages_of (spans_in Tt (buffer_in c b))) h in
    let none : stands page (spans_in Tt (unbound (buffer_in c b))) ≡ 0 = refl in
    let less = left_weight unbound (of_buffer tt_pages page) c b (stands page (spans_in Tt (buffer_in c b))) (omega (arith, none)) (new_weighs_none tt_pages page 0) in
    let a : in_buffers tt_pages page new.buffers ≡ in_buffers tt_pages page (changed unbound c.buffers b) = ap (in_buffers tt_pages page) e in
    let d : in_ghosts tt_pages page new.ghosts ≡ in_ghosts tt_pages page c.ghosts = ap (in_ghosts tt_pages page) g in
    omega (arith, some, less, a, d)

pub free_takes : (c new : Core) (b : BufId) (page : ℕ) → new.buffers ≡ slice_set c.buffers b.0 None → new.ghosts ≡ c.ghosts → has_number (pages_of (spans_in Tt (buffer_in c b))) page ≡ true → weight tt_pages page new + 1 ≤ weight tt_pages page c
free_takes c new b page e g h = by (live_in c.buffers b) refl h
  where
    by : (o : Option Buffer) → live_in c.buffers b ≡ o → has_number (pages_of (spans_in Tt (unwrap_or o (new_buffer 0)))) page ≡ true → weight tt_pages page new + 1 ≤ weight tt_pages page c
    by None q k = cc
    by (Some x) q k =
        let some = has_times page (pages_of (spans_in Tt x)) k in
        let set = summed-set (of_buffer tt_pages page) c.buffers b.0 None in
        let old : weigh (of_buffer tt_pages page) (option_and_then (λ o. o) (slice_get c.buffers b.0)) ≡ of_buffer tt_pages page x = ap (weigh (of_buffer tt_pages page)) q in
        let a : in_buffers tt_pages page new.buffers ≡ in_buffers tt_pages page (slice_set c.buffers b.0 None) = ap (in_buffers tt_pages page) e in
        let d : in_ghosts tt_pages page new.ghosts ≡ in_ghosts tt_pages page c.ghosts = ap (in_ghosts tt_pages page) g in
        omega (arith, some, set, old, a, d)

reaped : (page g : ℕ) (ghosts : List Ghost) → summed (of_ghost tt_pages page) (filter (λ h. not (h.num == g)) ghosts) + times page (tt_of_ghosts g ghosts) ≤ summed (of_ghost tt_pages page) ghosts
reaped page g [] = omega arith
reaped page g (h ∷ ghosts) = by (h.num == g) (reaped page g ghosts)
  where
    by : (q : Bool) → summed (of_ghost tt_pages page) (filter (λ h. not (h.num == g)) ghosts) + times page (tt_of_ghosts g ghosts) ≤ summed (of_ghost tt_pages page) ghosts →
        summed (of_ghost tt_pages page) (if not q then h ∷ filter (λ h. not (h.num == g)) ghosts else filter (λ h. not (h.num == g)) ghosts) + times page ((if q then pages_of h.tt else []) ++ tt_of_ghosts g ghosts) ≤ summed (of_ghost tt_pages page) (h ∷ ghosts)
    by true rest = let both = times-append page (pages_of h.tt) (tt_of_ghosts g ghosts) in omega (arith, rest, both)
    by false rest = omega (arith, rest)

pub reap_takes : (c new : Core) (g page : ℕ) → new.buffers ≡ c.buffers → new.ghosts ≡ filter (λ h. not (h.num == g)) c.ghosts → has_number (tt_of_ghosts g c.ghosts) page ≡ true → weight tt_pages page new + 1 ≤ weight tt_pages page c
reap_takes c new g page e f h =
    let some = has_times page (tt_of_ghosts g c.ghosts) h in
    let less = reaped page g c.ghosts in
    let a : in_buffers tt_pages page new.buffers ≡ in_buffers tt_pages page c.buffers = ap (in_buffers tt_pages page) e in
    let d : in_ghosts tt_pages page new.ghosts ≡ in_ghosts tt_pages page (filter (λ h. not (h.num == g)) c.ghosts) = ap (in_ghosts tt_pages page) f in
    omega (arith, some, less, a, d)

-- ---- each kind

-- a number of a list that is empty, or stands before an empty one
pub in_first : (xs : List ℕ) (n : ℕ) → has_number (xs ++ []) n ≡ true → has_number xs n ≡ true
in_first [] n h = h
in_first (x ∷ xs) n h = by _ (has_number (xs ++ []) n) (has_number xs n) (in_first xs n) h
  where
    by : (a b d : Bool) → (b ≡ true → d ≡ true) → (a || b) ≡ true → (a || d) ≡ true
    by true b d k g = refl
    by false b d k g = k g

module _ (script : Script) (s : State) (who : Actor) (once : AreHeldOnce script s.core) (before : NameWhatIsThere script s.core) where
  spares : (k : Kind) → NameWhatIsThere script (applied script s who k).core → SparesPackets s.core k
  spares (kind.Unbind b) after page i n j p h e f =
      unnamed script (applied script s who (kind.Unbind b)).core page i n j p after
      (taken script s.core (applied script s who (kind.Unbind b)).core once page (unbind_takes s.core (applied script s who (kind.Unbind b)).core b page refl refl (in_first (pages_of (spans_in Tt (buffer_in s.core b))) page h))) e f
  spares (kind.Free b g) after page i n j p h e f = by (g == 0) refl h
    where
      by : (q : Bool) → (g == 0) ≡ q → has_number ((if q then pages_of (spans_in Tt (buffer_in s.core b)) else []) ++ []) page ≡ true → packet_names page p ≡ false
      by true r k =
          unnamed script (applied script s who (kind.Free b g)).core page i n j p after
          (taken script s.core (applied script s who (kind.Free b g)).core once page
          (free_takes s.core (applied script s who (kind.Free b g)).core b page refl (ap (λ q. if q then s.core.ghosts else s.core.ghosts ++ ghost_of_freed s.core (buffer_in s.core b) g ∷ []) r) (in_first (pages_of (spans_in Tt (buffer_in s.core b))) page k))) e f
      by false r k = cc
  spares (kind.Reap g) after page i n j p h e f =
      unnamed script (applied script s who (kind.Reap g)).core page i n j p after
      (taken script s.core (applied script s who (kind.Reap g)).core once page (reap_takes s.core (applied script s who (kind.Reap g)).core g page refl refl (in_first (tt_of_ghosts g s.core.ghosts) page h))) e f
  spares (kind.Bind b) after page i n j p h e f = unnamed script s.core page i n j p before (given script s.core once b page h) e f
  spares (kind.Move b Tt m l) after page i n j p h e f = unnamed script s.core page i n j p before (given script s.core once b page h) e f
  spares (kind.Move b Vram m l) after page i n j p h e f = cc
  spares (kind.Move b System m l) after page i n j p h e f = cc
  spares (kind.Ticket stamp) after page i n j p h e f = cc
  spares (kind.Reserve b) after page i n j p h e f = cc
  spares (kind.Backoff b stamp) after page i n j p h e f = cc
  spares (kind.New b) after page i n j p h e f = cc
  spares (kind.Take b mem spans) after page i n j p h e f = cc
  spares (kind.Untake b mem) after page i n j p h e f = cc
  spares (kind.Populate b at frame) after page i n j p h e f = cc
  spares (kind.SwapIn b at slot frame) after page i n j p h e f = cc
  spares (kind.Depopulate b) after page i n j p h e f = cc
  spares (kind.Catch b w) after page i n j p h e f = cc
  spares (kind.Loose b) after page i n j p h e f = cc
  spares (kind.Skip b) after page i n j p h e f = cc
  spares (kind.Dry b k w) after page i n j p h e f = cc
  spares (kind.SwapOut b at slot) after page i n j p h e f = cc
  spares (kind.NoPages b) after page i n j p h e f = cc
  spares (kind.Arm engine m) after page i n j p h e f = cc
  spares (kind.Packet m k piece) after page i n j p h e f = cc
  spares (kind.Done m) after page i n j p h e f = cc
  spares (kind.Bulk group) after page i n j p h e f = cc
  spares (kind.Result r) after page i n j p h e f = cc
  spares (kind.Refused d) after page i n j p h e f = cc

-- the state after the next entry is that of a legal journal
record Behind (script : Script) (journal : List Entry) (who : Actor) (k : Kind) : Type 0 where
  entry : Entry
  legal : IsLegal script (journal ++ entry ∷ [])
  state : state_of script (journal ++ entry ∷ []) ≡ applied script (state_of script journal) who k

behind : (script : Script) (journal : List Entry) (who : Actor) (k : Kind) → IsLegal script journal → next script (state_of script journal) who ≡ Ok k → Behind script journal who k
behind script journal who k l h =
    let w : World = world_of script journal in
    let e : Entry = record { who = who; kind = showing script (world_of script journal).stores (world_of script journal).state who k } in
    record {
      entry = e;
      legal = legal_push script (first_world script) journal e l (ap (shown_step script (world_of script journal) who) h);
      state = ap (λ (x : World). x.state) (world_push script (first_world script) journal e) ∙ shown_alike script (world_of script journal).stores (world_of script journal).state (world_of script journal).state who k;
    }

pub spares_law : (script : Script) (journal : List Entry) (who : Actor) (k : Kind) → IsTrue (is_script script) → IsLegal script journal → next script (state_of script journal) who ≡ Ok k → SparesPackets (state_of script journal).core k
spares_law script journal who k fits l h =
    let more = behind script journal who k l h in
    spares script (state_of script journal) who (once_law script journal fits l) (places_law script journal fits l) k
    (subst (λ (s : State). NameWhatIsThere script s.core) more.state (places_law script (journal ++ more.entry ∷ []) fits more.legal))
