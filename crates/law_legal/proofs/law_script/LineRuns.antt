-- Lines that were written are read one by one.
use Rattle.std.proofs.Common.{◌≡◌, ℕ, ◌+◌, ◌-◌, ◌<◌, ◌≤◌, Bool, true, false, cond, eqb, List, [], ◌∷◌, ◌++◌, length, take, Option, Some, None, Result, Ok, Err, refl, ap, ◌∙◌, append_assoc, arith}
use Rattle.std.specs.Prelude.{◌||◌, not, slice_get, nat_lt}
use Rattle.std.specs.List.{list_any, list_all}
use Rattle.std.proofs.lemmas.Bool.Decides.{nat_tests}
use Rattle.journal_model.specs.declared.script.Script.{Script}
use Rattle.journal_model.specs.declared.line.Progress.{Progress}
use Rattle.journal_model.specs.declared.line.Keyword.{Keyword}
use Rattle.journal_model.specs.declared.line.Line.{Line}
use Rattle.journal_model.specs.scripts.Words.{Text, spaced, line}
use Rattle.journal_model.specs.scripts.Cut.{onto, cut_at, lines_of}
use Rattle.journal_model.specs.scripts.LineWords.{keyword_of, may_come, parts_of, line_of}
use Rattle.journal_model.specs.scripts.LineRules.{rule_broken, lacks_number, lacks_name, lacks_place, has_range_fault, has_byte_fault, has_job_fault, lacks_actor, is_one_too_many, is_too_long, has_map_fault, lacks_page}
use Rattle.journal_model.specs.scripts.MarkRules.{thread_mappings_at_end}
use Rattle.journal_model.specs.scripts.FirstFault.{first_word, with_line, unless_broken, fault_of_parts, after_words, after_line, breaks_text, ends_line, is_line_feed, is_shown, without_end, script_from}
use Rattle.law_legal.proofs.law_script.CutLaws.{cut_again}
use Rattle.law_legal.proofs.law_script.LineLaws.{made, Breaks_none}
use Rattle.law_legal.proofs.law_script.Solid.{is_word, words_lack, none_empty, spaced_shown}
use Rattle.law_legal.proofs.law_items.Tests.{either, both, three_false}

-- whatever the rest says from there on, the text and the rest say too
abbrev pub Runs : Progress → Text → Progress → Type 0
Runs p text q = (n : ℕ) (rest : Text) (s : Script) → ((m : ℕ) → script_from q m (lines_of rest) ≡ Ok s) → script_from p n (lines_of (text ++ rest)) ≡ Ok s

-- nothing leads nowhere
pub runs_none : (p : Progress) → Runs p [] p
runs_none p n rest s k = k n

-- two texts, one after the other
pub runs_both : (p q r : Progress) (a b : Text) → Runs p a q → Runs q b r → Runs p (a ++ b) r
runs_both p q r a b f g n rest s k = ap (λ t. script_from p n (lines_of t)) (append_assoc a b rest) ∙ f n (b ++ rest) s (λ m. g m rest s k)

-- ---- the first line of a text

first_line : (w rest : Text) → list_any (λ b. eqb b 10) w ≡ false → lines_of ((w ++ 10 ∷ []) ++ rest) ≡ (w ++ 10 ∷ []) ∷ lines_of rest
first_line [] rest h = refl
first_line (x ∷ w) rest h =
    let f = either (eqb x 10) (list_any (λ b. eqb b 10) w) h in
    ap (λ b. cond b ((x ∷ []) ∷ lines_of ((w ++ 10 ∷ []) ++ rest)) (onto x (lines_of ((w ++ 10 ∷ []) ++ rest)))) f.0 ∙ ap (onto x) (first_line w rest f.1)

length_more : (w : Text) → length (w ++ 10 ∷ []) ≡ length w + 1
length_more [] = refl
length_more (x ∷ w) = let e = length_more w in omega (arith, e)

not_feed : (x : ℕ) → is_shown x ≡ true → eqb x 10 ≡ false
not_feed x h = grind (arith, nat_tests, h)

length_end : (w : Text) → length (w ++ 10 ∷ []) - 1 ≡ length w
length_end [] = refl
length_end (x ∷ w) = let e = length_more w in omega (arith, e)

last_byte : (w : Text) → slice_get (w ++ 10 ∷ []) (length w) ≡ Some 10
last_byte [] = refl
last_byte (x ∷ w) = last_byte w

front : (w : Text) → take (length w) (w ++ 10 ∷ []) ≡ w
front [] = refl
front (x ∷ w) = ap (λ v. x ∷ v) (front w)

no_feed : (w : Text) → list_all is_shown w ≡ true → list_any (λ b. eqb b 10) w ≡ false
no_feed [] h = refl
no_feed (x ∷ w) h =
    let f = both (is_shown x) (list_all is_shown w) h in
    let e : eqb x 10 ≡ false = not_feed x f.0 in
    ap (λ b. b || list_any (λ y. eqb y 10) w) e ∙ no_feed w f.1

none_hidden : (w : Text) → list_all is_shown w ≡ true → list_any (λ b. not (is_shown b)) w ≡ false
none_hidden [] h = refl
none_hidden (x ∷ w) h =
    let f = both (is_shown x) (list_all is_shown w) h in
    ap (λ b. not b || list_any (λ y. not (is_shown y)) w) f.0 ∙ none_hidden w f.1

enough : (n : ℕ) → 2 ≤ n → nat_lt n 2 ≡ false
enough n h = grind (arith, nat_tests)

unbroken : (w : Text) → 0 < length w → list_all is_shown w ≡ true → breaks_text (w ++ 10 ∷ []) ≡ false
unbroken w some h =
    let text = w ++ 10 ∷ [] in
    let len = length_more w in
    let ended : ends_line text ≡ true = ap (λ n. is_line_feed (slice_get text n)) (length_end w) ∙ ap is_line_feed (last_byte w) in
    let whole : without_end text ≡ w = ap (λ n. take n text) (length_end w) ∙ front w in
    three_false (not (ends_line text)) (nat_lt (length text) 2) (list_any (λ b. not (is_shown b)) (without_end text)) (ap not ended) (enough (length text) (omega (arith, len, some)))
    (ap (list_any (λ b. not (is_shown b))) whole ∙ none_hidden w h)

-- ---- a line of words

-- where a line leads
abbrev pub led : Result Progress ℕ → ℕ → List Text → Result Script (ℕ × ℕ)
led after n texts = elim after [ Ok next ↦ script_from next (n + 1) texts | Err rule ↦ Err (n + 1, rule) ]

spaced_some : (w : Text) (ws : List Text) → is_word w ≡ true → 0 < length (spaced (w ∷ ws))
spaced_some [] ws h = absurd cc
spaced_some (c ∷ w) [] h = omega arith
spaced_some (c ∷ w) (v ∷ ws) h = omega arith

-- a line of words that are read
pub line_runs : (p q : Progress) (w : Text) (ws : List Text) → list_all is_word (w ∷ ws) ≡ true → after_words p (w ∷ ws) ≡ Ok q → Runs p (line (w ∷ ws)) q
line_runs p q w ws words e n rest s k =
    let t = spaced (w ∷ ws) in
    let shown = spaced_shown (w ∷ ws) words in
    let some = spaced_some w ws (both (is_word w) (list_all is_word ws) words).0 in
    let cut : cut_at 32 (without_end (t ++ 10 ∷ [])) ≡ w ∷ ws = ap (cut_at 32) (ap (λ m. take m (t ++ 10 ∷ [])) (length_end t) ∙ front t) ∙ cut_again 32 w ws (words_lack 32 (w ∷ ws) refl words) in
    let read : after_line p (t ++ 10 ∷ []) ≡ Ok q =
    ap (λ b. cond b (Err 2) (after_words p (cut_at 32 (without_end (t ++ 10 ∷ []))))) (unbroken t some shown) ∙ ap (after_words p) cut ∙ e in
    ap (script_from p n) (first_line t rest (no_feed t shown))
    ∙ ap (λ (a : Result Progress ℕ). led a n (lines_of rest)) read ∙ k (n + 1)

-- what the words of a line say
pub says : (p : Progress) (k : Keyword) (ws : List Text) (l : Line) → keyword_of (first_word ws) ≡ k → may_come p.script.version p.phase k ≡ true → list_all is_word ws ≡ true → parts_of p.script k ws ≡ made l → rule_broken p l ≡ None
    → after_words p ws ≡ Ok (with_line p l)
says p k ws l e c words parts rule =
    ap (λ (x : Keyword). cond (not (may_come p.script.version p.phase x)) (Err 3) (fault_of_parts p (line_of p.script x ws))) e
    ∙ ap (λ b. cond (not b) (Err 3) (fault_of_parts p (line_of p.script k ws))) c
    ∙ ap (λ b. fault_of_parts p (cond b None (parts_of p.script k ws))) (none_empty ws words)
    ∙ ap (fault_of_parts p) parts
    ∙ ap (λ o. unless_broken o (with_line p l)) rule

-- ---- rules

abbrev no_rule : Option ℕ
no_rule = None

skip : (b : Bool) (n : ℕ) (rest : Option ℕ) → b ≡ false → rest ≡ no_rule → cond b (Some n) rest ≡ no_rule
skip false n rest h k = k
skip true n rest h k = absurd cc

-- a line that breaks none of the rules
pub keeps_all : (p : Progress) (l : Line) → Breaks_none p l → rule_broken p l ≡ no_rule
keeps_all p l r =
    skip (lacks_number l) 5 _ r.numbers (skip (lacks_name p.script l) 6 _ r.names (skip (lacks_place l) 7 _ r.places (skip (has_range_fault p.script l) 8 _ r.ranges
    (skip (has_byte_fault l) 9 _ r.bytes (skip (has_job_fault (thread_mappings_at_end p.script) l) 10 _ r.jobs (skip (lacks_actor l) 11 _ r.actors (skip (is_one_too_many p l) 12 _ r.counts (skip (is_too_long p l) 13 _ r.lens (skip (has_map_fault (thread_mappings_at_end p.script) l) 14 _ r.maps (skip (lacks_page (thread_mappings_at_end p.script) l) 15 None r.pages refl))))))))))
