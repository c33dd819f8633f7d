-- The aperture after entries that map pages, clear them, or leave them to a ghost.
use Rattle.std.proofs.Common.{◌≡◌, ℕ, zero, suc, ◌<◌, ◌≤◌, Bool, true, false, List, [], ◌∷◌, ◌++◌, Option, Some, None, refl, sym, subst, ◌∙◌, ap, arith, ◌⊎◌, inl, inr, ⊎_elim, length}
use Rattle.std.specs.Prelude.{slice_get, slice_set, filter, not, option_and_then, ◌==◌, if◌then◌else◌}
use Rattle.std.proofs.lemmas.Bool.{cases_eq, cases_lt, eq-eqb, ne_eqb}
use Rattle.ttm_base.specs.declared.Mem.TheVariants.{Tt}
use Rattle.ttm_base.specs.declared.BufId.{BufId}
use Rattle.ttm_base.specs.declared.Loc.{Loc}
use Rattle.ttm_base.specs.declared.Loc.TheVariants as loc
use Rattle.aperture_table.specs.Translation.{frame_at}
use Rattle.journal_model.specs.declared.script.Script.{Script}
use Rattle.journal_model.specs.declared.state.Buffer.{Buffer}
use Rattle.journal_model.specs.declared.state.Core.{Core}
use Rattle.journal_model.specs.declared.state.Ghost.{Ghost}
use Rattle.journal_model.specs.rules.State.{live_in}
use Rattle.journal_model.specs.rules.Places.{pages_of, frame_of, frames_of, aperture}
use Rattle.journal_model.specs.rules.Holds.{spans_in}
use Rattle.laws.proofs.law_state.Lists.{set_at, get_pushed, get_within}
use Rattle.laws.proofs.law_owners.Law.{AreHeldOnce}
use Rattle.laws.specs.law_holders.Maps.{BufferMaps, GhostMaps, Maps}
use Rattle.laws.proofs.law_holders.Mapped.{aperture_maps, maps_aperture}
use Rattle.room_representation.specs.lemma_bytes.Mapped.{mapped_to, cleared, IsFull}
use Rattle.room_representation.proofs.lemma_bytes.Mappings.{at_past, length-mapped_to, length-cleared, mapped_either, cleared_either, frame_listed, listed_frame}
use Rattle.room_representation.proofs.lemma_bytes.Holders.{own_spans, is_in_tt, alone_buffers, alone_beside, alone_ghosts, maps_inside}

-- ---- two states, page by page

module _ (script : Script) (c d : Core) (before : AreHeldOnce script c) (after : AreHeldOnce script d) (p : ℕ) where
  -- a page with the same frames in both is mapped alike
  pub same_where : ((f : ℕ) → Maps c p f → Maps d p f) → ((f : ℕ) → Maps d p f → Maps c p f) → aperture d p ≡ aperture c p
  same_where to from = by (aperture c p) (aperture d p) refl refl
    where
      by : (o q : Option ℕ) → aperture c p ≡ o → aperture d p ≡ q → q ≡ o
      by (Some f) q e g = sym g ∙ maps_aperture script d after p f (to f (aperture_maps c p f e))
      by None None e g = refl
      by None (Some f) e g = let z : ◌≡◌ {A = Option ℕ} None (Some f) = sym e ∙ maps_aperture script c before p f (from f (aperture_maps d p f g)) in cc

-- a page with no frame isn't mapped
pub none_where : (d : Core) (p : ℕ) → ((f : ℕ) → Maps d p f → ⊥) → aperture d p ≡ None
none_where d p never = by (aperture d p) refl
  where
    by : (q : Option ℕ) → aperture d p ≡ q → q ≡ None
    by None g = refl
    by (Some f) g = absurd (never f (aperture_maps d p f g))

none_past : (script : Script) (d : Core) → AreHeldOnce script d → (p : ℕ) → script.sizes.tt ≤ p → aperture d p ≡ None
none_past script d once p past = none_where d p (λ f m. let l = maps_inside script d once p f m in omega (arith, l, past))

-- ---- buffers of which one was set

set_live : (bs : List (Option Buffer)) (i : ℕ) (x : Buffer) (o : Option Buffer) → option_and_then (λ y. y) (slice_get bs i) ≡ Some x → option_and_then (λ y. y) (slice_get (slice_set bs i o) i) ≡ o
set_live [] i x o e = cc
set_live (y ∷ bs) zero x o e = refl
set_live (y ∷ bs) (suc i) x o e = set_live bs i x o e

set_away : (bs : List (Option Buffer)) (i j : ℕ) (o : Option Buffer) → (i ≡ j → ⊥) → slice_get (slice_set bs i o) j ≡ slice_get bs j
set_away bs i j o ne = ⊎_elim (λ h. h) (λ h. absurd (ne h.0)) (set_at bs i j o)

last_is : (gs : List Ghost) (g : Ghost) → slice_get (gs ++ g ∷ []) (length gs) ≡ Some g
last_is [] g = refl
last_is (h ∷ gs) g = last_is gs g

front_is : (gs : List Ghost) (g h : Ghost) (i : ℕ) → slice_get gs i ≡ Some h → slice_get (gs ++ g ∷ []) i ≡ Some h
front_is [] g h i e = cc
front_is (k ∷ gs) g h zero e = e
front_is (k ∷ gs) g h (suc i) e = front_is gs g h i e

some_same : (x y : Buffer) → Some x ≡ Some y → x ≡ y
some_same x y e = cc

-- ---- ghosts that stay

-- the same ghosts map the same
pub same_ghosts : (c d : Core) → d.ghosts ≡ c.ghosts → (p f : ℕ) → GhostMaps c p f → GhostMaps d p f
same_ghosts c d gs p f m = record { place = m.place; ghost = m.ghost; is = ap (λ (l : List Ghost). slice_get l m.place) gs ∙ m.is; at = m.at; here = m.here; there = m.there }

-- with one more they map what they mapped
pub more_ghosts : (c d : Core) (g : Ghost) → d.ghosts ≡ c.ghosts ++ g ∷ [] → (p f : ℕ) → GhostMaps c p f → GhostMaps d p f
more_ghosts c d g gs p f m =
    record { place = m.place; ghost = m.ghost; is = ap (λ (l : List Ghost). slice_get l m.place) gs ∙ front_is c.ghosts g m.ghost m.place m.is; at = m.at; here = m.here; there = m.there }

-- a ghost that maps is an old one, or the last
pub either_ghost : (c d : Core) (g : Ghost) → d.ghosts ≡ c.ghosts ++ g ∷ [] → (p f : ℕ) (m : GhostMaps d p f) → GhostMaps c p f ⊎ (m.ghost ≡ g)
either_ghost c d g gs p f m =
    ⊎_elim
    (λ e. inl (record { place = m.place; ghost = m.ghost; is = e; at = m.at; here = m.here; there = m.there }))
    (λ e. inr e.1)
    (get_pushed c.ghosts g m.ghost m.place (sym (ap (λ (l : List Ghost). slice_get l m.place) gs) ∙ m.is))

-- ---- one buffer that changed

module _ (script : Script) (c d : Core) (before : AreHeldOnce script c) (after : AreHeldOnce script d) (b : BufId) (x : Buffer) (o : Option Buffer)
    (live : live_in c.buffers b ≡ Some x) (bs : d.buffers ≡ slice_set c.buffers b.0 o) where
  here_now : live_in d.buffers b ≡ o
  here_now = ap (λ (l : List (Option Buffer)). live_in l b) bs ∙ set_live c.buffers b.0 x o live

  others_stay : (e : BufId) → (b.0 ≡ e.0 → ⊥) → live_in d.buffers e ≡ live_in c.buffers e
  others_stay e ne = ap (λ (l : List (Option Buffer)). live_in l e) bs ∙ ap (option_and_then (λ y. y)) (set_away c.buffers b.0 e.0 o ne)

  is_x : (e : BufId) (y : Buffer) → b.0 ≡ e.0 → live_in c.buffers e ≡ Some y → x ≡ y
  is_x e y q l = some_same x y (sym live ∙ ap (λ i. option_and_then (λ z. z) (slice_get c.buffers i)) q ∙ l)

  is_o : (e : BufId) (y : Buffer) → b.0 ≡ e.0 → live_in d.buffers e ≡ Some y → o ≡ Some y
  is_o e y q l = sym here_now ∙ ap (λ i. option_and_then (λ z. z) (slice_get d.buffers i)) q ∙ l

  other_to : (p f : ℕ) (m : BufferMaps c p f) → (b.0 ≡ m.b.0 → ⊥) → BufferMaps d p f
  other_to p f m ne = record { b = m.b; buffer = m.buffer; live = others_stay m.b ne ∙ m.live; mem = m.mem; at = m.at; here = m.here; there = m.there }

  other_from : (p f : ℕ) (m : BufferMaps d p f) → (b.0 ≡ m.b.0 → ⊥) → BufferMaps c p f
  other_from p f m ne = record { b = m.b; buffer = m.buffer; live = sym (others_stay m.b ne) ∙ m.live; mem = m.mem; at = m.at; here = m.here; there = m.there }

  -- ---- it leaves its pages to a ghost

  module _ (g : Ghost) (gs : d.ghosts ≡ c.ghosts ++ g ∷ []) (out : (y : Buffer) → o ≡ Some y → y.mem ≡ Tt → ⊥) (tt_is : g.tt ≡ spans_in Tt x)
      (frames : x.mem ≡ Tt → g.frames ≡ frames_of x) (full : x.mem ≡ Tt → IsFull x.table) where
    to_ghost : (p f : ℕ) (m : BufferMaps c p f) → b.0 ≡ m.b.0 → GhostMaps d p f
    to_ghost p f m q =
        let same = is_x m.b m.buffer q m.live in
        let tt : x.mem ≡ Tt = ap (λ (y : Buffer). y.mem) same ∙ m.mem in
        record {
          place = length c.ghosts;
          ghost = g;
          is = ap (λ (l : List Ghost). slice_get l (length c.ghosts)) gs ∙ last_is c.ghosts g;
          at = m.at;
          here = ap (λ ss. slice_get (pages_of ss) m.at) (tt_is ∙ own_spans x tt ∙ ap (λ (y : Buffer). y.spans) same) ∙ m.here;
          there =
              ap (λ fs. slice_get fs m.at) (frames tt)
              ∙ frame_listed x.table m.at f (full tt) (ap (λ (y : Buffer). slice_get y.table m.at) same ∙ m.there);
        }

    from_ghost : (p f : ℕ) (m : GhostMaps d p f) → m.ghost ≡ g → BufferMaps c p f
    from_ghost p f m e =
        let own : slice_get (pages_of (spans_in Tt x)) m.at ≡ Some p = ap (λ ss. slice_get (pages_of ss) m.at) (sym tt_is ∙ ap (λ (h : Ghost). h.tt) (sym e)) ∙ m.here in
        let tt = is_in_tt x m.at p own in
        record {
          b = b;
          buffer = x;
          live = live;
          mem = tt;
          at = m.at;
          here = ap (λ ss. slice_get (pages_of ss) m.at) (sym (own_spans x tt)) ∙ own;
          there = listed_frame x.table m.at f (full tt) (ap (λ fs. slice_get fs m.at) (sym (frames tt) ∙ ap (λ (h : Ghost). h.frames) (sym e)) ∙ m.there);
        }

    -- so its pages stay mapped
    pub left_same : (p : ℕ) → aperture d p ≡ aperture c p
    left_same p = same_where script c d before after p to from
      where
        to : (f : ℕ) → Maps c p f → Maps d p f
        to f (inl m) = ⊎_elim (λ q. inr (to_ghost p f m q)) (λ ne. inl (other_to p f m ne)) (cases_eq b.0 m.b.0)
        to f (inr m) = inr (more_ghosts c d g gs p f m)

        from : (f : ℕ) → Maps d p f → Maps c p f
        from f (inl m) = ⊎_elim (λ q. absurd (out m.buffer (is_o m.b m.buffer q m.live) m.mem)) (λ ne. inl (other_from p f m ne)) (cases_eq b.0 m.b.0)
        from f (inr m) = ⊎_elim (λ k. inr k) (λ e. inl (from_ghost p f m e)) (either_ghost c d g gs p f m)

  -- ---- it leaves its pages to nobody

  module _ (gs : d.ghosts ≡ c.ghosts) (out : (y : Buffer) → o ≡ Some y → y.mem ≡ Tt → ⊥) (aper : List (Option ℕ)) (size : length aper ≡ script.sizes.tt)
      (mapped : (p : ℕ) → frame_at aper p ≡ aperture c p) where
    gone_stays : (p : ℕ) → ((k : ℕ) → slice_get (pages_of (spans_in Tt x)) k ≡ Some p → ⊥) → aperture d p ≡ aperture c p
    gone_stays p never = same_where script c d before after p to from
      where
        own : (f : ℕ) (m : BufferMaps c p f) → b.0 ≡ m.b.0 → ⊥
        own f m q =
            let same = is_x m.b m.buffer q m.live in
            let tt : x.mem ≡ Tt = ap (λ (y : Buffer). y.mem) same ∙ m.mem in
            never m.at (ap (λ ss. slice_get (pages_of ss) m.at) (own_spans x tt ∙ ap (λ (y : Buffer). y.spans) same) ∙ m.here)

        to : (f : ℕ) → Maps c p f → Maps d p f
        to f (inl m) = ⊎_elim (λ q. absurd (own f m q)) (λ ne. inl (other_to p f m ne)) (cases_eq b.0 m.b.0)
        to f (inr m) = inr (same_ghosts c d gs p f m)

        from : (f : ℕ) → Maps d p f → Maps c p f
        from f (inl m) = ⊎_elim (λ q. absurd (out m.buffer (is_o m.b m.buffer q m.live) m.mem)) (λ ne. inl (other_from p f m ne)) (cases_eq b.0 m.b.0)
        from f (inr m) = inr (same_ghosts d c (sym gs) p f m)

    gone_none : (p k : ℕ) → slice_get (pages_of (spans_in Tt x)) k ≡ Some p → aperture d p ≡ None
    unfolding other_from
    gone_none p k h = none_where d p never
      where
        tt : x.mem ≡ Tt
        tt = is_in_tt x k p h

        own : slice_get (pages_of x.spans) k ≡ Some p
        own = ap (λ ss. slice_get (pages_of ss) k) (sym (own_spans x tt)) ∙ h

        never : (f : ℕ) → Maps d p f → ⊥
        never f (inl m) =
            ⊎_elim
            (λ q. out m.buffer (is_o m.b m.buffer q m.live) m.mem)
            (λ ne. let n = other_from p f m ne in ne (alone_buffers script c before p b n.b x n.buffer k n.at live n.live tt n.mem own n.here))
            (cases_eq b.0 m.b.0)
        never f (inr m) = let n = same_ghosts d c (sym gs) p f m in alone_beside script c before p b x k n.place n.at n.ghost live tt own n.is n.here

    -- so its pages are cleared
    pub gone_cleared : (p : ℕ) → frame_at (cleared aper (pages_of (spans_in Tt x))) p ≡ aperture d p
    gone_cleared p =
        ⊎_elim
        (λ l.
        ⊎_elim
        (λ r. r.0 ∙ mapped p ∙ sym (gone_stays p r.1))
        (λ r. r.2 ∙ sym (gone_none p r.0 r.1))
        (cleared_either (pages_of (spans_in Tt x)) aper p l))
        (λ past.
        let long = length-cleared (pages_of (spans_in Tt x)) aper in
        at_past (cleared aper (pages_of (spans_in Tt x))) p (omega (arith, past, long)) ∙ sym (none_past script d after p (omega (arith, past, size))))
        (cases_lt p (length aper))

  -- ---- it comes to TT

  module _ (y : Buffer) (is : o ≡ Some y) (in_tt : y.mem ≡ Tt) (was : x.mem ≡ Tt → ⊥) (full : IsFull y.table)
      (ghosts_to : (p f : ℕ) → GhostMaps c p f → GhostMaps d p f) (ghosts_from : (p f : ℕ) → GhostMaps d p f → GhostMaps c p f)
      (aper : List (Option ℕ)) (size : length aper ≡ script.sizes.tt) (mapped : (p : ℕ) → frame_at aper p ≡ aperture c p) where
    come_stays : (p : ℕ) → ((k : ℕ) → slice_get (pages_of y.spans) k ≡ Some p → k < length y.table → ⊥) → aperture d p ≡ aperture c p
    come_stays p never = same_where script c d before after p to from
      where
        to : (f : ℕ) → Maps c p f → Maps d p f
        to f (inl m) = ⊎_elim (λ q. absurd (was (ap (λ (z : Buffer). z.mem) (is_x m.b m.buffer q m.live) ∙ m.mem))) (λ ne. inl (other_to p f m ne)) (cases_eq b.0 m.b.0)
        to f (inr m) = inr (ghosts_to p f m)

        own : (f : ℕ) (m : BufferMaps d p f) → b.0 ≡ m.b.0 → ⊥
        own f m q =
            let same = some_same y m.buffer (sym is ∙ is_o m.b m.buffer q m.live) in
            never m.at (ap (λ (z : Buffer). slice_get (pages_of z.spans) m.at) same ∙ m.here)
            (get_within y.table m.at (loc.Frame f) (ap (λ (z : Buffer). slice_get z.table m.at) same ∙ m.there))

        from : (f : ℕ) → Maps d p f → Maps c p f
        from f (inl m) = ⊎_elim (λ q. absurd (own f m q)) (λ ne. inl (other_from p f m ne)) (cases_eq b.0 m.b.0)
        from f (inr m) = inr (ghosts_from p f m)

    come_there : (p k : ℕ) (l : Loc) → slice_get (pages_of y.spans) k ≡ Some p → slice_get y.table k ≡ Some l → frame_of l ≡ aperture d p
    come_there p k l h g =
        let r = full k (get_within y.table k l g) in
        let both : Some l ≡ Some (loc.Frame r.0) = sym g ∙ r.1 in
        let same : l ≡ loc.Frame r.0 = cc in
        ap frame_of same ∙ sym (maps_aperture script d after p r.0 (inl (record { b = b; buffer = y; live = here_now ∙ is; mem = in_tt; at = k; here = h; there = r.1 })))

    -- so its pages are mapped to its frames
    pub come_mapped : (p : ℕ) → frame_at (mapped_to aper (pages_of y.spans) y.table) p ≡ aperture d p
    come_mapped p =
        ⊎_elim
        (λ l.
        ⊎_elim
        (λ r. r.0 ∙ mapped p ∙ sym (come_stays p r.1))
        (λ r. r.4 ∙ come_there p r.0 r.1 r.2 r.3)
        (mapped_either (pages_of y.spans) y.table aper p l))
        (λ past.
        let long = length-mapped_to (pages_of y.spans) y.table aper in
        at_past (mapped_to aper (pages_of y.spans) y.table) p (omega (arith, past, long)) ∙ sym (none_past script d after p (omega (arith, past, size))))
        (cases_lt p (length aper))

-- ---- a ghost that goes

get_filtered : (t : Ghost → Bool) (gs : List Ghost) (i : ℕ) (h : Ghost) → slice_get (filter t gs) i ≡ Some h → (j : ℕ) × (slice_get gs j ≡ Some h) × (t h ≡ true)
get_filtered t [] i h e = cc
get_filtered t (g ∷ gs) i h e = by (t g) refl (λ k. get_filtered t gs k h) i e
  where
    by : (q : Bool) → t g ≡ q → ((k : ℕ) → slice_get (filter t gs) k ≡ Some h → (j : ℕ) × (slice_get gs j ≡ Some h) × (t h ≡ true)) → (i : ℕ) → slice_get (if q then g ∷ filter t gs else filter t gs) i ≡ Some h → (j : ℕ) × (slice_get (g ∷ gs) j ≡ Some h) × (t h ≡ true)
    by true u rest zero f = let same : g ≡ h = cc in (0, f, subst (λ z. t z ≡ true) same u)
    by true u rest (suc i) f = let r = rest i f in (suc r.0, r.1, r.2)
    by false u rest i f = let r = rest i f in (suc r.0, r.1, r.2)

to_filtered : (t : Ghost → Bool) (gs : List Ghost) (j : ℕ) (h : Ghost) → slice_get gs j ≡ Some h → t h ≡ true → (i : ℕ) × (slice_get (filter t gs) i ≡ Some h)
to_filtered t [] j h e u = cc
to_filtered t (g ∷ gs) zero h e u = by (t g) (let same : h ≡ g = cc in subst (λ z. t z ≡ true) same u)
  where
    by : (q : Bool) → q ≡ true → (i : ℕ) × (slice_get (if q then g ∷ filter t gs else filter t gs) i ≡ Some h)
    by true v = (0, e)
    by false v = cc
to_filtered t (g ∷ gs) (suc j) h e u = by (t g) (to_filtered t gs j h e u)
  where
    by : (q : Bool) → (i : ℕ) × (slice_get (filter t gs) i ≡ Some h) → (i : ℕ) × (slice_get (if q then g ∷ filter t gs else filter t gs) i ≡ Some h)
    by true r = (suc r.0, r.1)
    by false r = r

module _ (script : Script) (c d : Core) (before : AreHeldOnce script c) (after : AreHeldOnce script d) (n i : ℕ) (g : Ghost) (is : slice_get c.ghosts i ≡ Some g) (num : g.num ≡ n)
    (only : (j : ℕ) (h : Ghost) → slice_get c.ghosts j ≡ Some h → h.num ≡ n → j ≡ i) (bs : d.buffers ≡ c.buffers) (gs : d.ghosts ≡ filter (λ h. not (h.num == n)) c.ghosts)
    (aper : List (Option ℕ)) (size : length aper ≡ script.sizes.tt) (mapped : (p : ℕ) → frame_at aper p ≡ aperture c p) where
  buffer_to : (p f : ℕ) → BufferMaps c p f → BufferMaps d p f
  buffer_to p f m = record { b = m.b; buffer = m.buffer; live = ap (λ (l : List (Option Buffer)). live_in l m.b) bs ∙ m.live; mem = m.mem; at = m.at; here = m.here; there = m.there }

  buffer_from : (p f : ℕ) → BufferMaps d p f → BufferMaps c p f
  buffer_from p f m = record { b = m.b; buffer = m.buffer; live = ap (λ (l : List (Option Buffer)). live_in l m.b) (sym bs) ∙ m.live; mem = m.mem; at = m.at; here = m.here; there = m.there }

  ghost_was : (p f : ℕ) (m : GhostMaps d p f) → (j : ℕ) × (slice_get c.ghosts j ≡ Some m.ghost) × (not (m.ghost.num == n) ≡ true)
  ghost_was p f m = get_filtered (λ h. not (h.num == n)) c.ghosts m.place m.ghost (sym (ap (λ (l : List Ghost). slice_get l m.place) gs) ∙ m.is)

  is_g : (j : ℕ) (h : Ghost) → slice_get c.ghosts j ≡ Some h → j ≡ i → h ≡ g
  is_g j h e q = let both : Some h ≡ Some g = sym e ∙ ap (slice_get c.ghosts) q ∙ is in cc

  reap_stays : (p : ℕ) → ((k : ℕ) → slice_get (pages_of g.tt) k ≡ Some p → ⊥) → aperture d p ≡ aperture c p
  reap_stays p never = same_where script c d before after p to from
    where
      kept : (f : ℕ) (m : GhostMaps c p f) → (m.ghost.num ≡ n → ⊥) → GhostMaps d p f
      kept f m ne =
          let r = to_filtered (λ h. not (h.num == n)) c.ghosts m.place m.ghost m.is (ap not (ne_eqb m.ghost.num n ne)) in
          record { place = r.0; ghost = m.ghost; is = ap (λ (l : List Ghost). slice_get l r.0) gs ∙ r.1; at = m.at; here = m.here; there = m.there }

      own : (f : ℕ) (m : GhostMaps c p f) → m.ghost.num ≡ n → ⊥
      own f m q = never m.at (ap (λ (h : Ghost). slice_get (pages_of h.tt) m.at) (sym (is_g m.place m.ghost m.is (only m.place m.ghost m.is q))) ∙ m.here)

      to : (f : ℕ) → Maps c p f → Maps d p f
      to f (inl m) = inl (buffer_to p f m)
      to f (inr m) = ⊎_elim (λ q. absurd (own f m q)) (λ ne. inr (kept f m ne)) (cases_eq m.ghost.num n)

      from : (f : ℕ) → Maps d p f → Maps c p f
      from f (inl m) = inl (buffer_from p f m)
      from f (inr m) = let r = ghost_was p f m in inr (record { place = r.0; ghost = m.ghost; is = r.1; at = m.at; here = m.here; there = m.there })

  reap_none : (p k : ℕ) → slice_get (pages_of g.tt) k ≡ Some p → aperture d p ≡ None
  reap_none p k h = none_where d p never
    where
      clash : (a : Bool) → a ≡ true → not a ≡ true → ⊥
      clash true e f = cc
      clash false e f = cc

      never : (f : ℕ) → Maps d p f → ⊥
      never f (inl m) = let w = buffer_from p f m in alone_beside script c before p w.b w.buffer w.at i k g w.live w.mem w.here is h
      never f (inr m) =
          let r = ghost_was p f m in
          let same = is_g r.0 m.ghost r.1 (alone_ghosts script c before p r.0 i m.at k m.ghost g r.1 is m.here h) in
          clash (m.ghost.num == n) (eq-eqb m.ghost.num n (ap (λ (x : Ghost). x.num) same ∙ num)) r.2

  -- its pages are cleared
  pub reaped_cleared : (p : ℕ) → frame_at (cleared aper (pages_of g.tt)) p ≡ aperture d p
  reaped_cleared p =
      ⊎_elim
      (λ l.
      ⊎_elim
      (λ r. r.0 ∙ mapped p ∙ sym (reap_stays p r.1))
      (λ r. r.2 ∙ sym (reap_none p r.0 r.1))
      (cleared_either (pages_of g.tt) aper p l))
      (λ past.
      let long = length-cleared (pages_of g.tt) aper in
      at_past (cleared aper (pages_of g.tt)) p (omega (arith, past, long)) ∙ sym (none_past script d after p (omega (arith, past, size))))
      (cases_lt p (length aper))
