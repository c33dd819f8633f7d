-- Frames that are given back along a page table, step by step.
use Rattle.std.proofs.Common.{◌≡◌, ℕ, suc, ◌+◌, ◌<◌, Bool, true, List, length, take, Some, None, slice_index_or, refl, sym, ◌∙◌, ap, arith}
use Rattle.std.specs.Prelude.{slice_get}
use Rattle.std.specs.List.{filter_map}
use Rattle.std.proofs.lemmas.Option.{slice_get-get_or}
use Rattle.ttm_base.specs.declared.Loc.{Loc}
use Rattle.ttm_base.specs.declared.Loc.TheVariants as loc
use Rattle.journal_model.specs.rules.Places.{frame_of}
use Rattle.room_representation.specs.lemma_bytes.GivenBack.{given, given_back}
use Rattle.room_representation.proofs.lemma_bytes.Walks.{passed, table_given}
use Rattle.room_pages.specs.Tables.{AreHeldInTurn}

module _ (pool : List Bool) (places : List Loc) (i : ℕ) (l : Loc) (below : i < length places) (is : slice_index_or places i loc.Zero ≡ l) where
  here : slice_get places i ≡ Some l
  here = slice_get-get_or places i loc.Zero below ∙ ap (λ x. Some x) is

  next : i + 1 ≡ suc i
  next = omega arith

  -- a frame is held when its turn comes
  pub frame_held : (f : ℕ) (now : List Bool) → AreHeldInTurn pool places → frame_of l ≡ Some f → now ≡ given_back pool (filter_map frame_of (take i places)) → slice_get now f ≡ Some true
  frame_held f now held h e = ap (λ q. slice_get q f) e ∙ held i l f here h

  -- then it was given back
  pub frame_back : (f : ℕ) (now new : List Bool) → frame_of l ≡ Some f → now ≡ given_back pool (filter_map frame_of (take i places)) → new ≡ given now f →
      new ≡ given_back pool (filter_map frame_of (take (i + 1) places))
  frame_back f now new h e g = g ∙ ap (λ q. given q f) e ∙ table_given frame_of pool places i l f here h ∙ ap (λ n. given_back pool (filter_map frame_of (take n places))) (sym next)

  -- a page without one is passed
  pub page_passed : (now new : List Bool) → ((f : ℕ) → l ≡ loc.Frame f → ⊥) → now ≡ given_back pool (filter_map frame_of (take i places)) → new ≡ now →
      new ≡ given_back pool (filter_map frame_of (take (i + 1) places))
  page_passed now new h e g = g ∙ e ∙ ap (given_back pool) (sym (passed frame_of places i l here (frameless l h))) ∙ ap (λ n. given_back pool (filter_map frame_of (take n places))) (sym next)
    where
      frameless : (l : Loc) → ((f : ℕ) → l ≡ loc.Frame f → ⊥) → frame_of l ≡ None
      frameless (loc.Frame f) h = absurd (h f refl)
      frameless (loc.Slot k) h = refl
      frameless loc.Zero h = refl
