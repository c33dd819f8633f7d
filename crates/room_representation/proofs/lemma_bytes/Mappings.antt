-- An aperture as a list: what it says of a page after pages were mapped or cleared, and a step of each loop.
use Rattle.std.proofs.Common.{◌≡◌, ℕ, zero, suc, ◌<◌, ◌≤◌, List, [], ◌∷◌, Option, Some, None, refl, ◌∙◌, ap, ap₂, arith, ◌⊎◌, inl, inr, ⊎_elim, length, take}
use Rattle.std.specs.Prelude.{slice_get, slice_set, filter_map}
use Rattle.std.proofs.lemmas.Bool.{cases_eq}
use Rattle.std.proofs.lemmas.List.{length-set, take_all}
use Rattle.ttm_base.specs.declared.Loc.{Loc}
use Rattle.ttm_base.specs.declared.Loc.TheVariants as loc
use Rattle.aperture_table.specs.Translation.{frame_at}
use Rattle.journal_model.specs.rules.Places.{frame_of}
use Rattle.room_representation.specs.lemma_bytes.Mapped.{mapped_to, cleared, IsFull}

-- ---- one page of the list

at_set : (aper : List (Option ℕ)) (p : ℕ) (o : Option ℕ) → p < length aper → frame_at (slice_set aper p o) p ≡ o
at_set [] p o h = absurd (omega (arith, h))
at_set (a ∷ aper) zero o h = refl
at_set (a ∷ aper) (suc p) o h = at_set aper p o (omega (arith, h))

at_other : (aper : List (Option ℕ)) (p q : ℕ) (o : Option ℕ) → (p ≡ q → ⊥) → frame_at (slice_set aper p o) q ≡ frame_at aper q
at_other [] p q o ne = refl
at_other (a ∷ aper) zero zero o ne = absurd (ne refl)
at_other (a ∷ aper) zero (suc q) o ne = refl
at_other (a ∷ aper) (suc p) zero o ne = refl
at_other (a ∷ aper) (suc p) (suc q) o ne = at_other aper p q o (λ e. ne (ap suc e))

-- no page after the list is mapped
pub at_past : (aper : List (Option ℕ)) (p : ℕ) → length aper ≤ p → frame_at aper p ≡ None
at_past [] p h = refl
at_past (a ∷ aper) zero h = absurd (omega (arith, h))
at_past (a ∷ aper) (suc p) h = at_past aper p (omega (arith, h))

-- ---- how long the lists are

-- mapping keeps the size
pub length-mapped_to : (ps : List ℕ) (table : List Loc) (aper : List (Option ℕ)) → length (mapped_to aper ps table) ≡ length aper
length-mapped_to [] table aper = refl
length-mapped_to (p ∷ ps) [] aper = refl
length-mapped_to (p ∷ ps) (l ∷ table) aper = length-mapped_to ps table (slice_set aper p (frame_of l)) ∙ length-set aper p (frame_of l)

-- clearing keeps the size
pub length-cleared : (ps : List ℕ) (aper : List (Option ℕ)) → length (cleared aper ps) ≡ length aper
length-cleared [] aper = refl
length-cleared (p ∷ ps) aper = length-cleared ps (slice_set aper p None) ∙ length-set aper p None

-- ---- what they say of a page

set_there : (aper : List (Option ℕ)) (p q : ℕ) (o : Option ℕ) → q ≡ p → p < length aper → frame_at (slice_set aper q o) p ≡ o
set_there aper p q o e h = ap (λ n. frame_at (slice_set aper n o) p) e ∙ at_set aper p o h

still_there : (aper : List (Option ℕ)) (p q : ℕ) (o : Option ℕ) → p < length aper → p < length (slice_set aper q o)
still_there aper p q o h = let l = length-set aper q o in omega (arith, h, l)

not_later : (q p n : ℕ) (ps : List ℕ) → (q ≡ p → ⊥) → ((k : ℕ) → slice_get ps k ≡ Some p → k < n → ⊥) → (k : ℕ) → slice_get (q ∷ ps) k ≡ Some p → k < suc n → ⊥
not_later q p n ps ne never zero e l = let same : q ≡ p = cc in ne same
not_later q p n ps ne never (suc k) e l = never k e (omega (arith, l))

-- a page is mapped as before and isn't one of those that were mapped, or it is mapped as the table says
pub mapped_either : (ps : List ℕ) (table : List Loc) (aper : List (Option ℕ)) (p : ℕ) → p < length aper →
    ((frame_at (mapped_to aper ps table) p ≡ frame_at aper p) × ((k : ℕ) → slice_get ps k ≡ Some p → k < length table → ⊥))
    ⊎ ((k : ℕ) × (l : Loc) × (slice_get ps k ≡ Some p) × (slice_get table k ≡ Some l) × (frame_at (mapped_to aper ps table) p ≡ frame_of l))
mapped_either [] table aper p h = inl (refl, λ k e l. cc)
mapped_either (q ∷ ps) [] aper p h = inl (refl, λ k e l. absurd (omega (arith, l)))
mapped_either (q ∷ ps) (l ∷ table) aper p h =
    ⊎_elim
    (λ r.
    ⊎_elim
    (λ e. inr (0, l, ap Some e, refl, r.0 ∙ set_there aper p q (frame_of l) e h))
    (λ ne. inl (r.0 ∙ at_other aper q p (frame_of l) ne, not_later q p (length table) ps ne r.1))
    (cases_eq q p))
    (λ r. inr (suc r.0, r.1, r.2, r.3, r.4))
    (mapped_either ps table (slice_set aper q (frame_of l)) p (still_there aper p q (frame_of l) h))

not_then : (q p : ℕ) (ps : List ℕ) → (q ≡ p → ⊥) → ((k : ℕ) → slice_get ps k ≡ Some p → ⊥) → (k : ℕ) → slice_get (q ∷ ps) k ≡ Some p → ⊥
not_then q p ps ne never zero e = let same : q ≡ p = cc in ne same
not_then q p ps ne never (suc k) e = never k e

-- a page is mapped as before and isn't one of those that were cleared, or it is one and isn't mapped
pub cleared_either : (ps : List ℕ) (aper : List (Option ℕ)) (p : ℕ) → p < length aper →
    ((frame_at (cleared aper ps) p ≡ frame_at aper p) × ((k : ℕ) → slice_get ps k ≡ Some p → ⊥))
    ⊎ ((k : ℕ) × (slice_get ps k ≡ Some p) × (frame_at (cleared aper ps) p ≡ None))
cleared_either [] aper p h = inl (refl, λ k e. cc)
cleared_either (q ∷ ps) aper p h =
    ⊎_elim
    (λ r.
    ⊎_elim
    (λ e. inr (0, ap Some e, r.0 ∙ set_there aper p q None e h))
    (λ ne. inl (r.0 ∙ at_other aper q p None ne, not_then q p ps ne r.1))
    (cases_eq q p))
    (λ r. inr (suc r.0, r.1, r.2))
    (cleared_either ps (slice_set aper q None) p (still_there aper p q None h))

-- ---- the loops

-- a step of a loop that maps: one page more
pub mapped_more : (ps : List ℕ) (table : List Loc) (aper : List (Option ℕ)) (k p : ℕ) (l : Loc) → slice_get ps k ≡ Some p → slice_get table k ≡ Some l
    → mapped_to aper (take (suc k) ps) (take (suc k) table) ≡ slice_set (mapped_to aper (take k ps) (take k table)) p (frame_of l)
mapped_more [] table aper k p l e h = cc
mapped_more (q ∷ ps) [] aper k p l e h = cc
mapped_more (q ∷ ps) (m ∷ table) aper zero p l e h = let a : q ≡ p = cc in let b : m ≡ l = cc in ap₂ (λ n o. slice_set aper n (frame_of o)) a b
mapped_more (q ∷ ps) (m ∷ table) aper (suc k) p l e h = mapped_more ps table (slice_set aper q (frame_of m)) k p l e h

-- its end: all pages are mapped
pub mapped_all : (ps : List ℕ) (table : List Loc) (aper : List (Option ℕ)) (k : ℕ) → length ps ≤ k → length table ≤ k → mapped_to aper (take k ps) (take k table) ≡ mapped_to aper ps table
mapped_all ps table aper k h i = ap₂ (mapped_to aper) (take_all k ps h) (take_all k table i)

-- a step of a loop that clears: one page more
pub cleared_more : (ps : List ℕ) (aper : List (Option ℕ)) (k p : ℕ) → slice_get ps k ≡ Some p → cleared aper (take (suc k) ps) ≡ slice_set (cleared aper (take k ps)) p None
cleared_more [] aper k p e = cc
cleared_more (q ∷ ps) aper zero p e = let a : q ≡ p = cc in ap (λ n. slice_set aper n None) a
cleared_more (q ∷ ps) aper (suc k) p e = cleared_more ps (slice_set aper q None) k p e

-- its end: no page is mapped
pub cleared_all : (ps : List ℕ) (aper : List (Option ℕ)) (k : ℕ) → length ps ≤ k → cleared aper (take k ps) ≡ cleared aper ps
cleared_all ps aper k h = ap (cleared aper) (take_all k ps h)

-- ---- tables that are full of frames

not_a_frame : (l : Loc) → ((f : ℕ) → l ≡ loc.Frame f → ⊥) → (f : ℕ) × (◌≡◌ {A = Option Loc} (Some l) (Some (loc.Frame f))) → ⊥
not_a_frame l never r = let e = r.1 in let same : l ≡ loc.Frame r.0 = cc in never r.0 same

slot_frame : (k f : ℕ) → loc.Slot k ≡ loc.Frame f → ⊥
slot_frame k f e = cc

zero_frame : (f : ℕ) → loc.Zero ≡ loc.Frame f → ⊥
zero_frame f e = cc

-- the frame at a place is the one in the list of frames
pub frame_listed : (table : List Loc) (k f : ℕ) → IsFull table → slice_get table k ≡ Some (loc.Frame f) → slice_get (filter_map frame_of table) k ≡ Some f
frame_listed [] k f full e = cc
frame_listed (loc.Frame m ∷ table) zero f full e = let same : loc.Frame m ≡ loc.Frame f = cc in let one : m ≡ f = cc in ap Some one
frame_listed (loc.Frame m ∷ table) (suc k) f full e = frame_listed table k f (λ j l. full (suc j) (omega (arith, l))) e
frame_listed (loc.Slot m ∷ table) k f full e = absurd (not_a_frame (loc.Slot m) (slot_frame m) (full 0 (omega arith)))
frame_listed (loc.Zero ∷ table) k f full e = absurd (not_a_frame loc.Zero zero_frame (full 0 (omega arith)))

-- and back
pub listed_frame : (table : List Loc) (k f : ℕ) → IsFull table → slice_get (filter_map frame_of table) k ≡ Some f → slice_get table k ≡ Some (loc.Frame f)
listed_frame [] k f full e = cc
listed_frame (loc.Frame m ∷ table) zero f full e = let same : m ≡ f = cc in ap (λ n. Some (loc.Frame n)) same
listed_frame (loc.Frame m ∷ table) (suc k) f full e = listed_frame table k f (λ j l. full (suc j) (omega (arith, l))) e
listed_frame (loc.Slot m ∷ table) k f full e = absurd (not_a_frame (loc.Slot m) (slot_frame m) (full 0 (omega arith)))
listed_frame (loc.Zero ∷ table) k f full e = absurd (not_a_frame loc.Zero zero_frame (full 0 (omega arith)))
