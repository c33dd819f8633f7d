-- A job touches in a later state no page that it didn't touch before: its packets run, and what they name stays mapped.
use Rattle.std.proofs.Common.{◌≡◌, ℕ, ◌≤◌, zero, suc, Bool, true, false, List, [], ◌∷◌, drop, refl, subst, ◌∙◌, ap, ap₂, arith, eq-eqb}
use Rattle.std.specs.Prelude.{◌||◌}
use Rattle.std.specs.List.{list_any}
use Rattle.ttm_base.specs.declared.Packet.{Packet}
use Rattle.ttm_base.specs.declared.Packet.TheVariants as packet
use Rattle.ttm_base.specs.declared.PagePlace.{PagePlace}
use Rattle.ttm_base.specs.declared.PagePlace.TheVariants as place
use Rattle.ttm_base.specs.Pages as pages
use Rattle.ttm_base.specs.Packets.{is_aper, packet_names, packet_touches, packet_writes}
use Rattle.journal_model.specs.declared.state.Core.{Core}
use Rattle.journal_model.specs.declared.state.Job.{Job}
use Rattle.journal_model.specs.rules.Places.{aperture}
use Rattle.law_facts.specs.Facts.{touches, writes_to}
use Rattle.laws.proofs.lemma_bytes_model.Actions.{or_first, or_second}

-- ---- packets that run

drop_none : {X : Type 0} (xs : List X) → drop 0 xs ≡ xs
drop_none [] = refl
drop_none (x ∷ xs) = refl

pub any_drop : {X : Type 0} (p : X → Bool) (m n : ℕ) (xs : List X) → m ≤ n → list_any p (drop n xs) ≡ true → list_any p (drop m xs) ≡ true
any_drop p m zero [] l h = cc
any_drop p m (suc n) [] l h = cc
any_drop p zero zero (x ∷ xs) l h = h
any_drop p zero (suc n) (x ∷ xs) l h = or_second (p x) (list_any p xs) (subst (λ ys. list_any p ys ≡ true) (drop_none xs) (any_drop p zero n xs (omega arith) h))
any_drop p (suc m) zero (x ∷ xs) l h = absurd (omega (arith, l))
any_drop p (suc m) (suc n) (x ∷ xs) l h = any_drop p m n xs (omega (arith, l)) h

pub any_dropped : {X : Type 0} (p : X → Bool) (n : ℕ) (xs : List X) → list_any p (drop n xs) ≡ true → list_any p xs ≡ true
any_dropped p n xs h = subst (λ ys. list_any p ys ≡ true) (drop_none xs) (any_drop p 0 n xs (omega arith) h)

-- ---- what packets name

module _ (a b : pages.Aperture) where
  -- a name stands for the same page
  same_name : (to : PagePlace) → ((page : ℕ) → is_aper page to ≡ true → a page ≡ b page) → pages.translated a to ≡ pages.translated b to
  same_name (place.Vram p) h = refl
  same_name (place.Frame f) h = refl
  same_name (place.Aper p) h = ap pages.mapped_page (h p (eq-eqb p p refl))

  two_names : (to from : PagePlace) → ((page : ℕ) → (is_aper page to || is_aper page from) ≡ true → a page ≡ b page) → (pages.translated a to ≡ pages.translated b to) × (pages.translated a from ≡ pages.translated b from)
  two_names to from h = (
    same_name to (λ page e. h page (or_first (is_aper page to) (is_aper page from) e)),
    same_name from (λ page e. h page (or_second (is_aper page to) (is_aper page from) e)),
  )

  same_touch : (p : pages.Page) (q : Packet) → ((page : ℕ) → packet_names page q ≡ true → a page ≡ b page) → packet_touches a p q ≡ packet_touches b p q
  same_touch p (packet.Fill to off len byte) h = ap (λ t. pages.same_page p t || false) (same_name to h)
  same_touch p (packet.Copy to toff from foff len) h = let n = two_names to from h in ap₂ (λ t u. pages.same_page p t || pages.same_page p u) n.0 n.1
  same_touch p (packet.Xor to toff from foff len) h = let n = two_names to from h in ap₂ (λ t u. pages.same_page p t || pages.same_page p u) n.0 n.1
  same_touch p (packet.Probe from off len) h = ap (pages.same_page p) (same_name from h)

  same_write : (p : pages.Page) (q : Packet) → ((page : ℕ) → packet_names page q ≡ true → a page ≡ b page) → packet_writes a p q ≡ packet_writes b p q
  same_write p (packet.Fill to off len byte) h = ap (pages.same_page p) (same_name to h)
  same_write p (packet.Copy to toff from foff len) h = ap (pages.same_page p) (two_names to from h).0
  same_write p (packet.Xor to toff from foff len) h = ap (pages.same_page p) (two_names to from h).0
  same_write p (packet.Probe from off len) h = refl

  same_of_all : (f g : Packet → Bool) → ((q : Packet) → ((page : ℕ) → packet_names page q ≡ true → a page ≡ b page) → f q ≡ g q) →
      (qs : List Packet) → ((page : ℕ) → list_any (packet_names page) qs ≡ true → a page ≡ b page) → list_any f qs ≡ list_any g qs
  same_of_all f g each [] h = refl
  same_of_all f g each (q ∷ qs) h =
      ap₂ (λ u v. u || v) (each q (λ page e. h page (or_first (packet_names page q) (list_any (packet_names page) qs) e)))
      (same_of_all f g each qs (λ page e. h page (or_second (packet_names page q) (list_any (packet_names page) qs) e)))

-- ---- of a job

-- the job goes on, and the pages of the aperture that it names stay mapped as they were
pub record GoesOn (c d : Core) (x y : Job) : Type 0 where
  pub packets : y.packets ≡ x.packets
  pub ran : x.ran ≤ y.ran
  pub mapped : (page : ℕ) → list_any (packet_names page) x.packets ≡ true → aperture c page ≡ aperture d page

module _ (c d : Core) (x y : Job) (go : GoesOn c d x y) (p : pages.Page) where
  back : (f : pages.Aperture → Packet → Bool) → ((q : Packet) → ((page : ℕ) → packet_names page q ≡ true → aperture c page ≡ aperture d page) → f (aperture c) q ≡ f (aperture d) q) →
      list_any (f (aperture d)) (drop y.ran y.packets) ≡ true → list_any (f (aperture c)) (drop x.ran x.packets) ≡ true
  back f same h =
      let more : list_any (f (aperture d)) (drop x.ran x.packets) ≡ true = any_drop (f (aperture d)) x.ran y.ran x.packets go.ran (subst (λ qs. list_any (f (aperture d)) (drop y.ran qs) ≡ true) go.packets h) in
      same_of_all (aperture c) (aperture d) (f (aperture c)) (f (aperture d)) same (drop x.ran x.packets) (λ page e. go.mapped page (any_dropped (packet_names page) x.ran x.packets e)) ∙ more

  pub touched_before : touches d p y ≡ true → touches c p x ≡ true
  touched_before h = back (λ a. packet_touches a p) (λ q e. same_touch (aperture c) (aperture d) p q e) h

  pub written_before : writes_to d p y ≡ true → writes_to c p x ≡ true
  written_before h = back (λ a. packet_writes a p) (λ q e. same_write (aperture c) (aperture d) p q e) h
