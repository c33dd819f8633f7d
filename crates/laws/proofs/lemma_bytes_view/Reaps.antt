-- A ghost goes once its jobs are done: no packet that is left goes to its pages.
use Rattle.std.proofs.Common.{◌≡◌, ℕ, zero, suc, Bool, true, false, List, [], ◌∷◌, Option, Some, None, refl, sym, subst, ◌∙◌, ap, ap₂, ◌⊎◌, inl, inr, ⊎_elim}
use Rattle.std.specs.Prelude.{slice_get, filter, not, nat_eq, ◌==◌, ◌&&◌, ◌||◌, if◌then◌else◌}
use Rattle.std.specs.List.{list_any}
use Rattle.std.proofs.lemmas.Bool.{cases_Bool, cases_eq, eqb-true, and_parts, ne_eqb, eq-eqb}
use Rattle.ttm_base.specs.Pages as pages
use Rattle.journal_model.specs.declared.script.Script.{Script}
use Rattle.journal_model.specs.declared.state.Core.{Core}
use Rattle.journal_model.specs.declared.state.Ghost as ghosts
use Rattle.journal_model.specs.rules.Places.{aperture}
use Rattle.journal_model.specs.rules.Holds.{has_number}
use Rattle.journal_model.specs.rules.Waits.{same_job, waited_for}
use Rattle.journal_model.specs.rules.PlainMemory.{Memory, OwedProbes}
use Rattle.laws.proofs.law_owners.Law.{AreHeldOnce}
use Rattle.laws.specs.lemma_bytes_model.Memory as memory
use Rattle.laws.specs.lemma_bytes_model.Memory.{Page, Nowhere, Frame, touched, written}
use Rattle.laws.specs.lemma_bytes_model.View.{View, Good, Owner, Idle, Free, Live, Kept, Target, Ghost, Guarded}
use Rattle.laws.specs.lemma_bytes_model.Entries.{retitled}
use Rattle.laws.proofs.lemma_bytes_model.Actions.{bool_cases}
use Rattle.laws.proofs.lemma_bytes_model.Engine.{covered, not_done}
use Rattle.laws.proofs.lemma_bytes_model.Owners.{reap_keeps}
use Rattle.laws.specs.law_holders.Holding.{seen, Holds, HeldOnce}
use Rattle.laws.specs.law_holders.Maps.{Maps}
use Rattle.laws.proofs.law_holders.HeldOnce.{held_once}
use Rattle.laws.proofs.law_holders.Owner.{owner_of, owner_is, owner_same}
use Rattle.laws.proofs.law_holders.Mapped.{aperture_maps, maps_aperture}
use Rattle.laws.proofs.lemma_bytes_view.World.{Seen, bare, IsGhostly}
use Rattle.laws.proofs.lemma_bytes_view.Jobs.{waited_is_done}
use Rattle.laws.proofs.lemma_bytes_view.Kept.{keep_all, changing_kept, using_kept}
use Rattle.laws.proofs.lemma_bytes_view.PacketStep.{no_bytes}
use Rattle.laws.proofs.lemma_bytes_view.Apertures.{Spared, unmapped_spared}
use Rattle.laws.proofs.lemma_bytes_view.Titles.{retitled_seen}

-- ---- filters by position

get_filtered : {X : Type 0} (p : X → Bool) (xs : List X) (i : ℕ) (x : X) → slice_get (filter p xs) i ≡ Some x → (j : ℕ) × (slice_get xs j ≡ Some x) × (p x ≡ true)
get_filtered p [] i x e = cc
get_filtered p (y ∷ ys) i x e = by (p y) refl (λ k. get_filtered p ys k x) i e
  where
    by : (q : Bool) → p y ≡ q → ((k : ℕ) → slice_get (filter p ys) k ≡ Some x → (j : ℕ) × (slice_get ys j ≡ Some x) × (p x ≡ true)) → (i : ℕ) → slice_get (if q then y ∷ filter p ys else filter p ys) i ≡ Some x → (j : ℕ) × (slice_get (y ∷ ys) j ≡ Some x) × (p x ≡ true)
    by true t rest zero f = let same : y ≡ x = cc in (0, f, subst (λ z. p z ≡ true) same t)
    by true t rest (suc i) f = let r = rest i f in (suc r.0, r.1, r.2)
    by false t rest i f = let r = rest i f in (suc r.0, r.1, r.2)

to_filtered : {X : Type 0} (p : X → Bool) (xs : List X) (j : ℕ) (x : X) → slice_get xs j ≡ Some x → p x ≡ true → (i : ℕ) × (slice_get (filter p xs) i ≡ Some x)
to_filtered p [] j x e t = cc
to_filtered p (y ∷ ys) zero x e t = by (p y) (let same : x ≡ y = cc in subst (λ z. p z ≡ true) same t)
  where
    by : (q : Bool) → q ≡ true → (i : ℕ) × (slice_get (if q then y ∷ filter p ys else filter p ys) i ≡ Some x)
    by true u = (0, e)
    by false u = cc
to_filtered p (y ∷ ys) (suc j) x e t = by (p y) (to_filtered p ys j x e t)
  where
    by : (q : Bool) → (i : ℕ) × (slice_get (filter p ys) i ≡ Some x) → (i : ℕ) × (slice_get (if q then y ∷ filter p ys else filter p ys) i ≡ Some x)
    by true r = (suc r.0, r.1)
    by false r = r

has_at : (ns : List ℕ) (k n : ℕ) → slice_get ns k ≡ Some n → has_number ns n ≡ true
has_at [] k n e = cc
has_at (m ∷ ms) zero n e = let same : n ≡ m = cc in first (nat_eq n m) (has_number ms n) (eq-eqb n m same)
  where
    first : (a b : Bool) → a ≡ true → (a || b) ≡ true
    first true b h = refl
    first false b h = cc
has_at (m ∷ ms) (suc k) n e = second (nat_eq n m) (has_number ms n) (has_at ms k n e)
  where
    second : (a b : Bool) → b ≡ true → (a || b) ≡ true
    second true b h = refl
    second false b h = h

-- ---- the ghost

abbrev is_ghost : ℕ → Owner → Bool
is_ghost n (Ghost m) = nat_eq n m
is_ghost n _ = false

ghost-true : (n : ℕ) (o : Owner) → is_ghost n o ≡ true → o ≡ Ghost n
ghost-true n (Ghost m) h = ap Ghost (sym (eqb-true n m h))
ghost-true n Idle h = cc
ghost-true n Free h = cc
ghost-true n (Live b k) h = cc
ghost-true n (Kept b k) h = cc
ghost-true n (Target b k) h = cc

ghost-self : (n : ℕ) → is_ghost n (Ghost n) ≡ true
ghost-self n = eq-eqb n n refl

-- the ghost to go: all its jobs are done, and no other has its number
pub record Leaving (c : Core) (n : ℕ) : Type 0 where
  pub place : ℕ
  pub ghost : ghosts.Ghost
  pub is : slice_get c.ghosts place ≡ Some ghost
  pub number : ghost.num ≡ n
  pub only : (i : ℕ) (h : ghosts.Ghost) → slice_get c.ghosts i ≡ Some h → h.num ≡ n → h ≡ ghost
  pub waits : waited_for c ghost.jobs ≡ None

module _ (script : Script) (c : Core) (owed_probes : OwedProbes) (m : Memory) (bytes : pages.PageBytes) (v : View) (s : Seen script c owed_probes m bytes v) (g : Good no_bytes v)
    (n : ℕ) (l : Leaving c n) (before : HeldOnce (bare c)) (once : AreHeldOnce script (record c { ghosts = filter (λ h. not (h.num == n)) c.ghosts })) where
  abbrev fewer : List ghosts.Ghost
  fewer = filter (λ h. not (h.num == n)) c.ghosts

  abbrev ghost_jobs : ℕ → ℕ → Bool
  ghost_jobs = λ k j. v.fences.ghost k j && not (nat_eq n k)

  all_done : (j : ℕ) → v.fences.ghost n j ≡ true → v.done j ≡ true
  all_done j h =
      let f = s.ghost n j h in
      let same = l.only f.place f.ghost f.there f.number in
      s.done j f.job f.at ∙ waited_is_done c l.ghost.jobs j f.job l.waits f.at (subst (λ (y : ghosts.Ghost). list_any (same_job f.job.id) y.jobs ≡ true) same f.has)

  untouched : (x : Page) → v.owner x ≡ Ghost n → (i : ℕ) → touched (v.left i) x ≡ false
  untouched x e i =
      ⊎_elim
      (λ t. let w : Guarded v.fences (Ghost n) i (written (v.left i) x) = subst (λ o. Guarded v.fences o i (written (v.left i) x)) e (g.guard i x t) in absurd (not_done no_bytes v g i x t (covered no_bytes v g w.2 (all_done w.0 w.1))))
      (λ h. h)
      (bool_cases (touched (v.left i) x))

  other_stays : (i : ℕ) (h : ghosts.Ghost) → slice_get c.ghosts i ≡ Some h → (h.num ≡ n → ⊥) → (j : ℕ) × (slice_get (filter (λ h. not (h.num == n)) c.ghosts) j ≡ Some h)
  other_stays i h e ne = to_filtered (λ h. not (h.num == n)) c.ghosts i h e (ap not (ne_eqb h.num n ne))

  was_there : (i : ℕ) (h : ghosts.Ghost) → slice_get (filter (λ h. not (h.num == n)) c.ghosts) i ≡ Some h → (j : ℕ) × (slice_get c.ghosts j ≡ Some h)
  was_there i h e = let r = get_filtered (λ h. not (h.num == n)) c.ghosts i h e in (r.0, r.1)

  there : (x : Page) → (owner_of (bare c) x ≡ Ghost n → ⊥) → (x ≡ Nowhere → ⊥) → (o : Owner) → Holds (bare c) x o → Holds (bare (record c { ghosts = filter (λ h. not (h.num == n)) c.ghosts })) x o
  there x ne some Idle h = h
  there x ne some Free h = h
  there x ne some (Live b k) h = h
  there x ne some (Kept b k) h = h
  there x ne some (Target b k) h = h
  there x ne some (Ghost k) h =
      let r = other_stays h.0 h.1 h.2 (λ e. ne (owner_is (bare c) before x (Ghost k) some h ∙ ap Ghost (sym h.3 ∙ e))) in
      (r.0, h.1, r.1, h.3, h.4)

  back : (x : Page) (o : Owner) → Holds (bare (record c { ghosts = filter (λ h. not (h.num == n)) c.ghosts })) x o → Holds (bare c) x o
  back x Idle h = h
  back x Free h = h
  back x (Live b k) h = h
  back x (Kept b k) h = h
  back x (Target b k) h = h
  back x (Ghost k) h = let r = was_there h.0 h.1 h.2 in (r.0, h.1, r.1, h.3, h.4)

  fate : (x : Page) → ((owner_of (bare (record c { ghosts = filter (λ h. not (h.num == n)) c.ghosts })) x ≡ v.owner x) × (v.owner x ≡ Ghost n → ⊥)) ⊎ (v.owner x ≡ Ghost n)
  fate x = ⊎_elim (λ t. inr (ghost-true n (v.owner x) t)) (λ f. inl (by x f, no x f)) (cases_Bool (is_ghost n (v.owner x)))
    where
      no : (x : Page) → is_ghost n (v.owner x) ≡ false → v.owner x ≡ Ghost n → ⊥
      no x f e = clash (is_ghost n (v.owner x)) (ap (is_ghost n) e ∙ ghost-self n) f
        where
          clash : (a : Bool) → a ≡ true → a ≡ false → ⊥
          clash a t f = cc

      at : (x : Page) → is_ghost n (v.owner x) ≡ false → (x ≡ Nowhere → ⊥) → owner_of (bare (record c { ghosts = filter (λ h. not (h.num == n)) c.ghosts })) x ≡ v.owner x
      at x f some =
          owner_same (bare c) (bare (record c { ghosts = filter (λ h. not (h.num == n)) c.ghosts })) (held_once script (bare (record c { ghosts = filter (λ h. not (h.num == n)) c.ghosts })) once) x some
          (there x (λ e. no x f (s.owner x ∙ e)) some) (back x)
          ∙ sym (s.owner x)

      by : (x : Page) → is_ghost n (v.owner x) ≡ false → owner_of (bare (record c { ghosts = filter (λ h. not (h.num == n)) c.ghosts })) x ≡ v.owner x
      by Nowhere f = sym (s.owner Nowhere)
      by (memory.Vram k) f = at (memory.Vram k) f (λ e. cc)
      by (Frame k) f = at (Frame k) f (λ e. cc)
      by (memory.Slot k) f = at (memory.Slot k) f (λ e. cc)
      by (memory.Own b i) f = at (memory.Own b i) f (λ e. cc)

  pub reap_good : Good no_bytes (retitled (record v.fences { ghost = ghost_jobs }) (owner_of (bare (record c { ghosts = filter (λ h. not (h.num == n)) c.ghosts }))) v)
  reap_good =
      reap_keeps no_bytes v g n ghost_jobs (owner_of (bare (record c { ghosts = filter (λ h. not (h.num == n)) c.ghosts }))) all_done
      (λ k j ne h. ap₂ (λ a b. a && not b) h (ne_eqb n k ne))
      fate

  spared : (i p : ℕ) → Spared (aperture c) (aperture (record c { ghosts = filter (λ h. not (h.num == n)) c.ghosts })) (touched (v.left i)) p
  spared i p = by (aperture c p) refl
    where
      found : (q : ℕ) → aperture c p ≡ Some q → Maps c p q → Spared (aperture c) (aperture (record c { ghosts = filter (λ h. not (h.num == n)) c.ghosts })) (touched (v.left i)) p
      found q e (inl w) =
          inl (maps_aperture script (record c { ghosts = filter (λ h. not (h.num == n)) c.ghosts }) once p q (inl (record { b = w.b; buffer = w.buffer; live = w.live; mem = w.mem; at = w.at; here = w.here; there = w.there })) ∙ sym e)
      found q e (inr w) =
          ⊎_elim
          (λ same.
          let o : v.owner (Frame q) ≡ Ghost n = s.owner (Frame q) ∙ owner_is (bare c) before (Frame q) (Ghost n) (λ z. cc) (w.place, w.ghost, w.is, same, has_at w.ghost.frames w.at q w.there) in
          inr (subst (λ a. touched (v.left i) (seen (pages.mapped_page a)) ≡ false) (sym e) (untouched (Frame q) o i)))
          (λ ne.
          let r = other_stays w.place w.ghost w.is ne in
          inl (maps_aperture script (record c { ghosts = filter (λ h. not (h.num == n)) c.ghosts }) once p q (inr (record { place = r.0; ghost = w.ghost; is = r.1; at = w.at; here = w.here; there = w.there })) ∙ sym e))
          (cases_eq w.ghost.num n)

      by : (o : Option ℕ) → aperture c p ≡ o → Spared (aperture c) (aperture (record c { ghosts = filter (λ h. not (h.num == n)) c.ghosts })) (touched (v.left i)) p
      by None e = unmapped_spared v g (aperture c) (aperture (record c { ghosts = filter (λ h. not (h.num == n)) c.ghosts })) i p e
      by (Some q) e = found q e (aperture_maps c p q e)

  pub reap_seen : Seen script (record c { ghosts = filter (λ h. not (h.num == n)) c.ghosts }) owed_probes m bytes
      (retitled (record v.fences { ghost = ghost_jobs }) (owner_of (bare (record c { ghosts = filter (λ h. not (h.num == n)) c.ghosts }))) v)
  reap_seen =
      retitled_seen script c owed_probes m bytes v c.buffers (filter (λ h. not (h.num == n)) c.ghosts) (record v.fences { ghost = ghost_jobs }) s
      (record {
        prior = refl;
        strong = λ b j h. changing_kept c (record c { ghosts = filter (λ h. not (h.num == n)) c.ghosts }) (keep_all c.jobs) b j (λ i w. w) (s.strong b j h);
        shared = λ b j h. using_kept c (record c { ghosts = filter (λ h. not (h.num == n)) c.ghosts }) (keep_all c.jobs) b j (λ i w. w) (s.shared b j h);
        ghost = λ k j h. ghostly k j h;
        mover = refl;
        place = λ b i. refl;
        spared = spared;
      })
    where
      ghostly : (k j : ℕ) → (v.fences.ghost k j && not (nat_eq n k)) ≡ true → IsGhostly (record c { ghosts = filter (λ h. not (h.num == n)) c.ghosts }) k j
      ghostly k j h =
          let parts = and_parts (v.fences.ghost k j) (not (nat_eq n k)) h in
          let f = s.ghost k j parts.0 in
          let r = other_stays f.place f.ghost f.there (λ e. other n k (sym e ∙ f.number) parts.1) in
          record { job = f.job; at = f.at; place = r.0; ghost = f.ghost; there = r.1; number = f.number; has = f.has }
        where
          other : (n k : ℕ) → n ≡ k → not (nat_eq n k) ≡ true → ⊥
          other n k e t = let u : not (nat_eq n k) ≡ false = ap not (eq-eqb n k e) in clash (not (nat_eq n k)) t u
            where
              clash : (a : Bool) → a ≡ true → a ≡ false → ⊥
              clash a t f = cc
