-- The first buffer that may give its frames, on the lists of SYSTEM or else on those of TT.
use Rattle.std.proofs.Common.{◌≡◌, ◌++◌, Bool, true, false, List, Option, Some, None, sym, ◌∙◌, ap}
use Rattle.std.specs.Prelude.{◌&&◌, find, is_some}
use Rattle.std.specs.Option.{option_or}
use Rattle.std.proofs.lemmas.List.Folds.{find-append}
use Rattle.ttm_base.specs.declared.BufId.{BufId}
use Rattle.ttm_base.specs.declared.Mem.{Mem}
use Rattle.ttm_base.specs.declared.Mem.TheVariants.{System, Tt}
use Rattle.journal_model.specs.declared.state.State.{State}
use Rattle.journal_model.specs.rules.State.{buffer, reservation}
use Rattle.journal_model.specs.rules.Dry.{has_frame, is_loose, swap_victim}
use Rattle.journal_model.specs.rules.Lists as state
use Rattle.room_state.specs.turns.Rests.{in_order}

module _ {X : Type 0} (p : X → Bool) (xs ys : List X) where
  pub found_first : (o : Option X) → o ≡ find p xs → is_some o ≡ true → o ≡ find p (xs ++ ys)
  found_first (Some x) e h = ap (λ r. option_or r (find p ys)) e ∙ sym (find-append p xs ys)
  found_first None e h = cc

  pub found_second : (o r : Option X) → o ≡ find p xs → is_some o ≡ false → r ≡ find p ys → r ≡ find p (xs ++ ys)
  found_second None r e h k = k ∙ ap (λ q. option_or q (find p ys)) e ∙ sym (find-append p xs ys)
  found_second (Some x) r e h k = cc

module _ (s : State) (lists : List (List BufId)) (same : lists ≡ s.lists) where
  on : (mem : Mem) (o : Option BufId) → o ≡ find (λ b. is_loose (reservation s b) && has_frame (buffer s b)) (in_order mem lists)
      → o ≡ find (λ b. is_loose (reservation s b) && has_frame (buffer s b)) (state.in_order s mem)
  on mem o e = e ∙ ap (λ ls. find (λ b. is_loose (reservation s b) && has_frame (buffer s b)) (in_order mem ls)) same

  pub victim_first : (o : Option BufId) → o ≡ find (λ b. is_loose (reservation s b) && has_frame (buffer s b)) (in_order System lists) → is_some o ≡ true → o ≡ swap_victim s
  victim_first o e h = found_first (λ b. is_loose (reservation s b) && has_frame (buffer s b)) (state.in_order s System) (state.in_order s Tt) o (on System o e) h

  pub victim_second : (o r : Option BufId) → o ≡ find (λ b. is_loose (reservation s b) && has_frame (buffer s b)) (in_order System lists) → is_some o ≡ false
      → r ≡ find (λ b. is_loose (reservation s b) && has_frame (buffer s b)) (in_order Tt lists) → r ≡ swap_victim s
  victim_second o r e h k = found_second (λ b. is_loose (reservation s b) && has_frame (buffer s b)) (state.in_order s System) (state.in_order s Tt) o r (on System o e) h (on Tt r k)
