-- Commands by the lines of their threads.
use Rattle.std.proofs.Common.{◌≡◌, ◌+◌, true, List, [], ◌∷◌, map, refl, sym, ap, ◌∙◌, arith}
use Rattle.std.specs.Prelude.{sum_by}
use Rattle.std.specs.List.{list_all}
use Rattle.std.proofs.lemmas.List.Sums.{sum_by-cons}
use Rattle.journal_model.specs.declared.script.Script.{Script}
use Rattle.journal_model.specs.scripts.CommandRules.{is_command, command_len}
use Rattle.law_legal.specs.law_items.Items.{Item, Alone, Asks, commands_in}
use Rattle.law_legal.proofs.law_script.Sound.{is_asked, item_len}
use Rattle.law_legal.proofs.law_items.Tests.{both, joint}

all_fit : (s : Script) (items : List Item) → list_all (is_asked s) items ≡ true → list_all (is_command s) (commands_in items) ≡ true
all_fit s [] h = refl
all_fit s (Alone m ∷ items) h = all_fit s items h
all_fit s (Asks ways c ∷ items) h =
    let f = both (is_command s c) (list_all (is_asked s) items) h in
    joint (is_command s c) (list_all (is_command s) (commands_in items)) f.0 (all_fit s items f.1)

-- the commands of lines that keep their rules
pub asked_fit : (s : Script) (lists : List (List Item)) → list_all (list_all (is_asked s)) lists ≡ true → list_all (list_all (is_command s)) (map commands_in lists) ≡ true
asked_fit s [] h = refl
asked_fit s (items ∷ lists) h =
    let f = both (list_all (is_asked s) items) (list_all (list_all (is_asked s)) lists) h in
    joint (list_all (is_command s) (commands_in items)) (list_all (list_all (is_command s)) (map commands_in lists)) (all_fit s items f.0) (asked_fit s lists f.1)

all_asked : (s : Script) (items : List Item) → list_all (is_command s) (commands_in items) ≡ true → list_all (is_asked s) items ≡ true
all_asked s [] h = refl
all_asked s (Alone m ∷ items) h = all_asked s items h
all_asked s (Asks ways c ∷ items) h =
    let f = both (is_command s c) (list_all (is_command s) (commands_in items)) h in
    joint (is_command s c) (list_all (is_asked s) items) f.0 (all_asked s items f.1)

-- and the other way round
pub fit_asked : (s : Script) (lists : List (List Item)) → list_all (list_all (is_command s)) (map commands_in lists) ≡ true → list_all (list_all (is_asked s)) lists ≡ true
fit_asked s [] h = refl
fit_asked s (items ∷ lists) h =
    let f = both (list_all (is_command s) (commands_in items)) (list_all (list_all (is_command s)) (map commands_in lists)) h in
    joint (list_all (is_asked s) items) (list_all (list_all (is_asked s)) lists) (all_asked s items f.0) (fit_asked s lists f.1)

all_long : (items : List Item) → sum_by item_len items ≡ sum_by command_len (commands_in items)
all_long [] = refl
all_long (Alone m ∷ items) = sum_by-cons item_len (Alone m) items ∙ let e = all_long items in omega (arith, e)
all_long (Asks ways c ∷ items) =
    sum_by-cons item_len (Asks ways c) items ∙ ap (λ n. command_len c + n) (all_long items) ∙ sym (sum_by-cons command_len c (commands_in items))

-- lines are as long as their commands
pub asked_long : (lists : List (List Item)) → sum_by (sum_by item_len) lists ≡ sum_by (sum_by command_len) (map commands_in lists)
asked_long [] = refl
asked_long (items ∷ lists) =
    sum_by-cons (sum_by item_len) items lists ∙ ap (λ n. n + sum_by (sum_by item_len) lists) (all_long items) ∙ ap (λ n. sum_by command_len (commands_in items) + n) (asked_long lists)
    ∙ sym (sum_by-cons (sum_by command_len) (commands_in items) (map commands_in lists))
