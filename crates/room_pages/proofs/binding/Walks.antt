-- A step of each loop over the pages of spans.
use Rattle.std.proofs.Common.{◌≡◌, ℕ, suc, ◌+◌, ◌<◌, ◌≤◌, List, [], ◌∷◌, Option, None, length, get_or, refl, sym, ◌∙◌, ap, subst}
use Rattle.std.specs.Prelude.{drop, slice_get, slice_set}
use Rattle.std.proofs.lemmas.List.{drop_more, drop_all}
use Rattle.ttm_base.specs.declared.Loc.{Loc}
use Rattle.journal_model.specs.rules.Places.{frame_of}
use Rattle.room_representation.specs.lemma_bytes.Mapped.{mapped_to, cleared}
use Rattle.room_pages.specs.binding.Apertures.{AreBelow}

module _ (left rest : List ℕ) (page : ℕ) (goes : left ≡ page ∷ rest) where
  -- the page at hand is there
  pub first_below : (n : ℕ) → AreBelow left n → page < n
  first_below n h = h 0 page (ap (λ l. slice_get l 0) goes)

  -- those after it are
  pub rest_below : (n m : ℕ) → m ≡ n → AreBelow left n → AreBelow rest m
  rest_below n m e h k p at = subst (λ x. p < x) (sym e) (h (suc k) p (ap (λ l. slice_get l (suc k)) goes ∙ at))

  -- one page is cleared
  pub cleared_step : (aper next : List (Option ℕ)) → next ≡ slice_set aper page None → cleared next rest ≡ cleared aper left
  cleared_step aper next is = ap (λ a. cleared a rest) is ∙ ap (cleared aper) (sym goes)

  -- one page is mapped
  pub mapped_step : (aper next : List (Option ℕ)) (table : List Loc) (i : ℕ) (d : Loc) → i < length table → next ≡ slice_set aper page (frame_of (get_or table i d)) →
      mapped_to next rest (drop (i + 1) table) ≡ mapped_to aper left (drop i table)
  mapped_step aper next table i d within is =
      ap (λ a. mapped_to a rest (drop (i + 1) table)) is ∙ ap (λ ps. mapped_to aper ps (get_or table i d ∷ drop (i + 1) table)) (sym goes) ∙ ap (mapped_to aper left) (sym (drop_more table i d within))

-- where no place is left, nothing more is mapped
mapped_none : (aper : List (Option ℕ)) (left : List ℕ) → mapped_to aper left [] ≡ aper
mapped_none aper [] = refl
mapped_none aper (p ∷ ps) = refl

-- the end of the walk
pub mapped_end : (aper : List (Option ℕ)) (left : List ℕ) (table : List Loc) (i : ℕ) → length table ≤ i → aper ≡ mapped_to aper left (drop i table)
mapped_end aper left table i past = sym (ap (mapped_to aper left) (drop_all i table past) ∙ mapped_none aper left)
