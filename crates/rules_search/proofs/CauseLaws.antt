-- The causes of declared buffers, with one more.
use Rattle.std.proofs.Common.{◌≡◌, ℕ, ◌+◌, ◌<◌, List, [], ◌∷◌, ◌++◌, Option, Some, None, length, take, get_or, refl, ap, ◌∙◌, arith}
use Rattle.std.specs.Prelude.{filter_map, option_to_list, option_and_then}
use Rattle.std.specs.List.{enumerate_from, cons_option}
use Rattle.std.proofs.lemmas.Grind.{common_steps}
use Rattle.std.proofs.lemmas.List.{take_more}
use Rattle.std.proofs.lemmas.List.Elements.{filter_map-append}
use Rattle.ttm_base.specs.declared.BufId.{BufId}
use Rattle.ttm_base.specs.declared.Place.{Place}
use Rattle.journal_model.specs.declared.script.Script.{Script}
use Rattle.journal_model.specs.declared.state.Buffer.{Buffer}
use Rattle.journal_model.specs.declared.state.Reservation.{Reservation}
use Rattle.journal_model.specs.declared.entry.CauseRow.{CauseRow}
use Rattle.journal_model.specs.rules.Holds.{live_entry}
use Rattle.journal_model.specs.rules.Dry.{cause_row}

enumerate_from-push : {X : Type 0} (n : ℕ) (xs : List X) (x : X) → enumerate_from n (xs ++ x ∷ []) ≡ enumerate_from n xs ++ (n + length xs, x) ∷ []
enumerate_from-push n [] x = grind (arith, common_steps)
enumerate_from-push n (y ∷ xs) x = let e = enumerate_from-push (n + 1) xs x in grind (arith, common_steps)

-- a buffer that isn't live has no row
row_of_slot : (f : BufId × Buffer → Option CauseRow) (n : ℕ) (slot : Option Buffer)
    → filter_map f (filter_map live_entry ((n, slot) ∷ [])) ≡ option_to_list (option_and_then (λ x. f (record { 0 = n }, x)) slot)
row_of_slot f n None = refl
row_of_slot f n (Some x) = one (f (record { 0 = n }, x)) where
  one : (row : Option CauseRow) → cons_option row [] ≡ option_to_list row
  one None = refl
  one (Some r) = refl

pub causes_more : (script : Script) (reservations : List Reservation) (place : Place) (slots : List (Option Buffer)) (i : ℕ) (d : Option Buffer) → i < length slots
    → filter_map (cause_row script reservations place) (filter_map live_entry (enumerate_from 0 (take (i + 1) slots)))
    ≡ filter_map (cause_row script reservations place) (filter_map live_entry (enumerate_from 0 (take i slots)))
    ++ option_to_list (option_and_then (λ x. cause_row script reservations place (record { 0 = i }, x)) (get_or slots i d))
causes_more script reservations place slots i d h =
    let f = cause_row script reservations place in
    let before = enumerate_from 0 (take i slots) in
    let here : length (take i slots) ≡ i = grind (arith, common_steps) in
    let number : 0 + length (take i slots) ≡ i = omega (arith, here) in
    ap (λ xs. filter_map f (filter_map live_entry (enumerate_from 0 xs))) (take_more slots i d h)
    ∙ ap (λ es. filter_map f (filter_map live_entry es)) (enumerate_from-push 0 (take i slots) (get_or slots i d))
    ∙ ap (λ n. filter_map f (filter_map live_entry (before ++ (n, get_or slots i d) ∷ []))) number
    ∙ ap (filter_map f) (filter_map-append live_entry before ((i, get_or slots i d) ∷ []))
    ∙ filter_map-append f (filter_map live_entry before) (filter_map live_entry ((i, get_or slots i d) ∷ []))
    ∙ ap (λ rows. filter_map f (filter_map live_entry before) ++ rows) (row_of_slot f i (get_or slots i d))
