-- A script without marks: each line of its threads is a command, so what is proved of lines gives its text and its rules.
use Rattle.std.proofs.Common.{◌≡◌, ℕ, ◌+◌, true, List, [], ◌∷◌, ◌++◌, map, refl, sym, ap, ◌∙◌}
use Rattle.std.specs.Prelude.{codes, flat_map, nat_le}
use Rattle.std.specs.List.{list_all}
use Rattle.std.proofs.lemmas.List.{length-map}
use Rattle.std.proofs.lemmas.List.Concat.{flat_map-cons}
use Rattle.journal_model.specs.declared.script.Script.{Script}
use Rattle.journal_model.specs.declared.script.Command.{Command}
use Rattle.journal_model.specs.scripts.Words.{Text, line}
use Rattle.journal_model.specs.scripts.Spelling.{buffer_line, command_words, turn_line, spelling}
use Rattle.journal_model.specs.scripts.MarkRules.{ThreadMappings, empty_thread_mappings, have_marks}
use Rattle.law_legal.specs.law_items.Items.{Item, Asks, ComesFrom, commands_in, marks_in, numbered, item_text, items_text, item_fits, all_along, items_fit}
use Rattle.law_legal.proofs.law_items.ListFacts.{has_few}
use Rattle.law_legal.proofs.law_items.Tests.{both, joint}
use Rattle.law_legal.proofs.law_items.Fits.{marks_of_items}
use Rattle.law_legal.proofs.law_script.Sound.{frame, six}
use Rattle.law_legal.proofs.law_script.TakesScript.{spelled_by}

-- ---- the text

-- the line of a command
abbrev pub command_text : Script → Command → Text
command_text s c = line (command_words s c)

-- the lines of a thread
abbrev pub thread_text : Script → List Command → Text
thread_text s cs = line (codes "thread" ∷ []) ++ flat_map (command_text s) cs

-- all lines but the last
abbrev pub body : Script → Text
body s = six s ++ flat_map (buffer_line s.version) s.buffers ++ flat_map (thread_text (frame s)) s.threads ++ flat_map turn_line s.turns

-- ---- its lines

abbrev plain : List Command → List Item
plain cs = map (Asks []) cs

commands_plain : (cs : List Command) → cs ≡ commands_in (plain cs)
commands_plain [] = refl
commands_plain (c ∷ cs) = ap (λ x. c ∷ x) (commands_plain cs)

threads_plain : (ts : List (List Command)) → ts ≡ map commands_in (map plain ts)
threads_plain [] = refl
threads_plain (cs ∷ ts) = ap (λ x. x ∷ ts) (commands_plain cs) ∙ ap (λ x. commands_in (plain cs) ∷ x) (threads_plain ts)

marks_plain : (t n : ℕ) (cs : List Command) → [] ≡ marks_in t n (plain cs)
marks_plain t n [] = refl
marks_plain t n (c ∷ cs) = marks_plain t (n + 1) cs

numbered_plain : (t : ℕ) (ts : List (List Command)) → [] ≡ numbered t (map plain ts)
numbered_plain t [] = refl
numbered_plain t (cs ∷ ts) = numbered_plain (t + 1) ts ∙ ap (λ x. x ++ numbered (t + 1) (map plain ts)) (marks_plain t 0 cs)

comes : (s : Script) → s.marks ≡ [] → ComesFrom s (map plain s.threads)
comes s h = record { threads = threads_plain s.threads; marks = h ∙ numbered_plain 1 s.threads }

-- ---- they keep the rules of marks

fits_from : (s : Script) (d : ThreadMappings) (cs : List Command) → all_along (item_fits s) d (plain cs) ≡ true
fits_from s d [] = refl
fits_from s d (c ∷ cs) = fits_from s d cs

all_fit : (s : Script) (ts : List (List Command)) → list_all (items_fit s) (map plain ts) ≡ true
all_fit s [] = refl
all_fit s (cs ∷ ts) = joint (items_fit s (plain cs)) (list_all (items_fit s) (map plain ts)) (fits_from s empty_thread_mappings cs) (all_fit s ts)

few_plain : (ts : List (List Command)) → list_all has_few ts ≡ true → list_all has_few (map plain ts) ≡ true
few_plain [] h = refl
few_plain (cs ∷ ts) h =
    let f = both (has_few cs) (list_all has_few ts) h in
    joint (has_few (plain cs)) (list_all has_few (map plain ts)) (ap (λ n. nat_le n 4096) (length-map cs (Asks [])) ∙ f.0) (few_plain ts f.1)

-- a script without marks keeps the rules of marks, if its threads have few lines
pub no_marks_fit : (s : Script) → s.marks ≡ [] → list_all has_few s.threads ≡ true → have_marks s ≡ true
no_marks_fit s h few = marks_of_items s (map plain s.threads) (comes s h) (few_plain s.threads few) (all_fit s s.threads)

-- ---- their text

commands_text : (s : Script) (cs : List Command) → flat_map (item_text s) (plain cs) ≡ flat_map (command_text s) cs
commands_text s [] = refl
commands_text s (c ∷ cs) =
    flat_map-cons (item_text s) (Asks [] c) (plain cs)
    ∙ ap (λ x. command_text s c ++ x) (commands_text s cs)
    ∙ sym (flat_map-cons (command_text s) c cs)

threads_text : (s : Script) (ts : List (List Command)) → flat_map (items_text s) (map plain ts) ≡ flat_map (thread_text s) ts
threads_text s [] = refl
threads_text s (cs ∷ ts) =
    flat_map-cons (items_text s) (plain cs) (map plain ts)
    ∙ ap (λ x. (line (codes "thread" ∷ []) ++ x) ++ flat_map (items_text s) (map plain ts)) (commands_text s cs)
    ∙ ap (λ x. thread_text s cs ++ x) (threads_text s ts)
    ∙ sym (flat_map-cons (thread_text s) cs ts)

-- the spelling of a script without marks
pub plain_spelling : (s : Script) → s.marks ≡ [] → spelling s ≡ body s ++ line (codes "end" ∷ [])
plain_spelling s h =
    spelled_by s (map plain s.threads) (comes s h) (all_fit s s.threads)
    ∙ ap (λ x. (six s ++ flat_map (buffer_line s.version) s.buffers ++ x ++ flat_map turn_line s.turns) ++ line (codes "end" ∷ [])) (threads_text (frame s) s.threads)
