-- The line of an entry: what is read is that entry's text, and the text of an entry is read.
use Rattle.std.proofs.Common.{◌≡◌, ℕ, ◌+◌, ◌-◌, ◌<◌, ◌^◌, Bool, true, false, cond, eqb, List, [], ◌∷◌, ◌++◌, length, take, Option, Some, None, refl, ap, sym, subst, ◌∙◌, arith}
use Rattle.std.specs.Prelude.{not, decimal, nat_lt, slice_get}
use Rattle.std.specs.List.{list_all}
use Rattle.std.proofs.lemmas.Bool.{eqb-true}
use Rattle.std.proofs.lemmas.Bool.Decides.{nat_tests}
use Rattle.ttm_base.specs.declared.Actor.{Actor}
use Rattle.ttm_base.specs.declared.Actor.TheVariants as actor
use Rattle.journal_model.specs.declared.script.Script.{Script}
use Rattle.journal_model.specs.declared.line.ActorWord.{ActorWord}
use Rattle.journal_model.specs.declared.line.ActorWord.TheVariants as read_as
use Rattle.journal_model.specs.declared.entry.Entry.{Entry}
use Rattle.journal_model.specs.declared.entry.Kind.{Kind}
use Rattle.journal_model.specs.scripts.Words.{Text, actor_word, line, spaced}
use Rattle.journal_model.specs.reports.EntryText.{entry_line, kind_words}
use Rattle.journal_model.specs.scripts.Cut.{cut_at}
use Rattle.journal_model.specs.scripts.FirstFault.{ends_line, is_line_feed, without_end}
use Rattle.journal_model.specs.scripts.CommandRules.{is_between}
use Rattle.journal_model.specs.scripts.ScriptRules.{is_actor, is_script}
use Rattle.journal_model.specs.scripts.Readable.{is_kind, is_readable, is_some_actor, is_u64}
use Rattle.journal_model.specs.scripts.Reading.{actor_of, engine_actor, is_plain, names_of, read_on, thread_actor}
use Rattle.journal_model.specs.reports.Verdict.{IsEntryText, has_actor}
use Rattle.law_legal.proofs.law_items.Tests.{both, joint, lt_is, is_le}
use Rattle.law_legal.proofs.law_script.CutLaws.{cut_again, lacks}
use Rattle.law_legal.proofs.law_script.TextLaws.{text_is_line}
use Rattle.law_legal.proofs.law_script.HeadLaws.{actor_takes}
use Rattle.law_legal.proofs.law_script.NumberLaws.{between}
use Rattle.law_legal.proofs.law_script.NamesAgain.{actor_again}
use Rattle.law_legal.proofs.law_script.PlaceAgain.{lacks_by}
use Rattle.law_legal.proofs.law_report.Items.{above}
use Rattle.law_legal.proofs.law_report.SmallWords.{actor_above, word_above}
use Rattle.law_legal.proofs.law_report.EntryWords.{kind_above}
use Rattle.entry_reader.specs.EntryReading.{entry_by, entry_of, entry_of_words, is_number, kind_of, u64_of}
use Rattle.entry_reader.specs.Read.{IsRead}
use Rattle.entry_reader.proofs.Wholes.{Told, one_told, told_at, told_if}
use Rattle.entry_reader.proofs.WordLaws.{u64_again, u64_told}
use Rattle.entry_reader.proofs.ScriptFacts.{few_engines, few_threads, script_named}
use Rattle.entry_reader.proofs.KindsTold.{IsSaid, kind_told}
use Rattle.entry_reader.proofs.KindsAgain.{kind_again}

-- ---- actors

numbered : (p b : Bool) (m : ℕ) (who : Actor) (made : ℕ → Actor) → cond (not p) read_as.BrokenNumber (cond b (read_as.Is (made m)) read_as.Missing) ≡ read_as.Is who
    → (b ≡ true) × (made m ≡ who)
numbered true true m who made h = (refl, cc)
numbered true false m who made h = cc
numbered false b m who made h = cc

thread_has : (s : Script) (w : Text) (who : Actor) → thread_actor (length s.threads) w ≡ read_as.Is who → has_actor s who ≡ true
thread_has s w who h =
    let n = numbered (is_plain w) (is_between 1 (length s.threads) (read_on 0 w)) (read_on 0 w) who (λ m. actor.Thread m) h in
    subst (λ (x : Actor). has_actor s x ≡ true) n.1 n.0

engine_has : (s : Script) (w : Text) (who : Actor) → engine_actor s.sizes.engines w ≡ read_as.Is who → has_actor s who ≡ true
engine_has s w who h =
    let n = numbered (is_plain w) (is_between 0 s.sizes.engines (read_on 0 w)) (read_on 0 w) who (λ m. actor.Engine m) h in
    subst (λ (x : Actor). has_actor s x ≡ true) n.1 n.0

by_letter : (s : Script) (a b : Bool) (x y : ActorWord) (who : Actor) → (x ≡ read_as.Is who → has_actor s who ≡ true) → (y ≡ read_as.Is who → has_actor s who ≡ true)
    → cond a x (cond b y read_as.Malformed) ≡ read_as.Is who → has_actor s who ≡ true
by_letter s true b x y who f g h = f h
by_letter s false true x y who f g h = g h
by_letter s false false x y who f g h = cc

lone : (s : Script) (a : Bool) (who : Actor) → cond a (read_as.Is actor.Reaper) read_as.Malformed ≡ read_as.Is who → has_actor s who ≡ true
lone s true who h = let e : actor.Reaper ≡ who = cc in subst (λ (x : Actor). has_actor s x ≡ true) e refl
lone s false who h = cc

-- an actor that is read is one of the script's
actor_has : (s : Script) (w : Text) (who : Actor) → actor_of (length s.threads) s.sizes.engines w ≡ read_as.Is who → has_actor s who ≡ true
actor_has s [] who h = cc
actor_has s (c ∷ []) who h = lone s (eqb c 114) who h
actor_has s (c ∷ d ∷ number) who h =
    by_letter s (eqb c 116) (eqb c 101) (thread_actor (length s.threads) (d ∷ number)) (engine_actor s.sizes.engines (d ∷ number)) who (thread_has s (d ∷ number) who) (engine_has s (d ∷ number) who) h

-- its number is one of 32 bits
actor_small : (s : Script) → is_script s ≡ true → (who : Actor) → has_actor s who ≡ true → is_some_actor who ≡ true
actor_small s is (actor.Thread t) h = let b = between 1 (length s.threads) t h in let f = few_threads s is in lt_is t (2 ^ 32) (omega (arith, b.1, f))
actor_small s is (actor.Engine e) h = let b = between 0 s.sizes.engines e h in let f = few_engines s is in lt_is e (2 ^ 32) (omega (arith, b.1, f))
actor_small s is actor.Reaper h = refl

-- the same as the script's rules say it
actor_is : (s : Script) (who : Actor) → has_actor s who ≡ true → is_actor s who ≡ true
actor_is s (actor.Thread t) h = h
actor_is s (actor.Engine e) h = let b = between 0 s.sizes.engines e h in is_le e s.sizes.engines b.1
actor_is s actor.Reaper h = refl

-- ---- a line that is read

number_told : (n : ℕ) (w : Text) (o : Option ℕ) → u64_of w ≡ o → is_number n o ≡ true → decimal n ≡ w
number_told n w None p h = cc
number_told n w (Some m) p h =
    let same : m ≡ n = eqb-true m n h in
    let t = u64_told w m p in
    ap decimal (sym same) ∙ t.1

entry_is : (script : Script) → is_script script ≡ true → (n : ℕ) (w a : Text) (ws : List Text) (who : Actor) (k : Kind) → decimal n ≡ w
    → actor_of (length script.threads) script.sizes.engines a ≡ read_as.Is who → kind_of (names_of script.buffers) ws ≡ Some k
    → IsEntryText script n (line (w ∷ a ∷ ws)) (record { who = who; kind = k })
entry_is script is n w a ws who k number by told =
    let threads = few_threads script is in
    let engines = few_engines script is in
    let spelled : a ≡ actor_word who = actor_takes (length script.threads) script.sizes.engines a who (omega (arith, threads)) (omega (arith, engines)) by in
    let has = actor_has script a who by in
    let said = told_at (kind_of (names_of script.buffers) ws) k (IsSaid script ws) (kind_told script ws) told in
    record {
      readable = joint (is_some_actor who) (is_kind script k) (actor_small script is who has) said.0;
      actor = has;
      says = ap (λ x. line (x ∷ a ∷ ws)) (sym number) ∙ ap (λ x. line (decimal n ∷ x ∷ ws)) spelled ∙ ap (λ xs. line (decimal n ∷ actor_word who ∷ xs)) (sym said.1);
    }

by_told : (script : Script) → is_script script ≡ true → (n : ℕ) (w a : Text) (ws : List Text) (x : ActorWord) → decimal n ≡ w
    → actor_of (length script.threads) script.sizes.engines a ≡ x
    → Told (entry_by x (kind_of (names_of script.buffers) ws)) (IsEntryText script n (line (w ∷ a ∷ ws)))
by_told script is n w a ws (read_as.Is who) number by =
    one_told (λ k. (let e : Entry = record { who = who; kind = k } in e)) (kind_of (names_of script.buffers) ws) (IsEntryText script n (line (w ∷ a ∷ ws)))
    (λ k told. entry_is script is n w a ws who k number by told)
by_told script is n w a ws read_as.BrokenNumber number by = tt
by_told script is n w a ws read_as.Malformed number by = tt
by_told script is n w a ws read_as.Missing number by = tt

words_told : (script : Script) → is_script script ≡ true → (n : ℕ) (ws : List Text) → Told (entry_of_words script n ws) (IsEntryText script n (line ws))
words_told script is n [] = tt
words_told script is n (w ∷ []) = tt
words_told script is n (w ∷ a ∷ ws) =
    told_if (is_number n (u64_of w)) (entry_by (actor_of (length script.threads) script.sizes.engines a) (kind_of (names_of script.buffers) ws)) None
    (IsEntryText script n (line (w ∷ a ∷ ws)))
    (λ e. by_told script is n w a ws (actor_of (length script.threads) script.sizes.engines a) (number_told n w (u64_of w) refl e) refl) tt

entry_told : (script : Script) → is_script script ≡ true → (n : ℕ) (text : Text) → Told (entry_of script n text) (IsEntryText script n text)
entry_told script is n text =
    told_if (ends_line text) (entry_of_words script n (cut_at 32 (without_end text))) None (IsEntryText script n text)
    (λ e. subst (λ (t : Text). Told (entry_of_words script n (cut_at 32 (without_end text))) (IsEntryText script n t)) (sym (text_is_line text e))
    (words_told script is n (cut_at 32 (without_end text)))) tt

-- ---- a line that is an entry's

length_more : (w : Text) → length (w ++ 10 ∷ []) ≡ length w + 1
length_more [] = refl
length_more (x ∷ w) = let e = length_more w in omega (arith, e)

length_end : (w : Text) → length (w ++ 10 ∷ []) - 1 ≡ length w
length_end [] = refl
length_end (x ∷ w) = let e = length_more w in omega (arith, e)

last_byte : (w : Text) → slice_get (w ++ 10 ∷ []) (length w) ≡ Some 10
last_byte [] = refl
last_byte (x ∷ w) = last_byte w

front : (w : Text) → take (length w) (w ++ 10 ∷ []) ≡ w
front [] = refl
front (x ∷ w) = ap (λ v. x ∷ v) (front w)

-- a line ends, and has its words
pub line_ends : (t : Text) → (ends_line (t ++ 10 ∷ []) ≡ true) × (without_end (t ++ 10 ∷ []) ≡ t)
line_ends t =
    let text = t ++ 10 ∷ [] in
    (ap (λ n. is_line_feed (slice_get text n)) (length_end t) ∙ ap is_line_feed (last_byte t), ap (λ n. take n text) (length_end t) ∙ front t)

words_lack : (ws : List Text) → list_all (above 32) ws ≡ true → list_all (lacks 32) ws ≡ true
words_lack [] h = refl
words_lack (w ∷ ws) h =
    let f = both (above 32 w) (list_all (above 32) ws) h in
    joint (lacks 32 w) (list_all (lacks 32) ws) (ap not (lacks_by (nat_lt 32) 32 w refl f.0)) (words_lack ws f.1)

same_number : (n : ℕ) → eqb n n ≡ true
same_number n = grind (arith, nat_tests)

entry_again : (script : Script) → is_script script ≡ true → (n : ℕ) (e : Entry) → is_u64 n ≡ true → is_readable script e ≡ true → has_actor script e.who ≡ true
    → entry_of script n (entry_line script (n, e)) ≡ Some e
entry_again script is n e small readable has =
    let threads = few_threads script is in
    let engines = few_engines script is in
    let names = names_of script.buffers in
    let f = both (is_some_actor e.who) (is_kind script e.kind) readable in
    let a = actor_word e.who in
    let ws = kind_words script e.kind in
    let t = spaced (decimal n ∷ a ∷ ws) in
    let ends = line_ends t in
    let high = joint (above 32 (decimal n)) (list_all (above 32) (a ∷ ws)) (word_above n small)
    (joint (above 32 a) (list_all (above 32) ws) (actor_above e.who f.0) (kind_above script is e.kind f.1)) in
    let cut : cut_at 32 (without_end (t ++ 10 ∷ [])) ≡ decimal n ∷ a ∷ ws = ap (cut_at 32) ends.1 ∙ cut_again 32 (decimal n) (a ∷ ws) (words_lack (decimal n ∷ a ∷ ws) high) in
    let by = actor_of (length script.threads) script.sizes.engines a in
    ap (λ b. cond b (entry_of_words script n (cut_at 32 (without_end (t ++ 10 ∷ [])))) None) ends.0
    ∙ ap (entry_of_words script n) cut
    ∙ ap (λ o. cond (is_number n o) (entry_by by (kind_of names ws)) None) (u64_again n small)
    ∙ ap (λ b. cond b (entry_by by (kind_of names ws)) None) (same_number n)
    ∙ ap (λ x. entry_by x (kind_of names ws)) (actor_again script e.who (omega (arith, threads)) (omega (arith, engines)) (actor_is script e.who has))
    ∙ ap (λ o. entry_by (read_as.Is e.who) o) (kind_again script is (script_named script is) e.kind f.1)

-- ---- both

from_both : (script : Script) (n : ℕ) (text : Text) (o : Option Entry) → Told o (IsEntryText script n text) → ((e : Entry) → IsEntryText script n text e → o ≡ Some e) → IsRead script n text o
from_both script n text (Some e) told again = told
from_both script n text None told again = λ e h. (let none : None ≡ Some e = again e h in cc)

-- reading a line tells the entry whose text it is, or that there is none
pub entry_read : (script : Script) → is_script script ≡ true → (n : ℕ) → n < 2 ^ 64 → (text : Text) → IsRead script n text (entry_of script n text)
entry_read script is n small text =
    from_both script n text (entry_of script n text) (entry_told script is n text)
    (λ e h. ap (entry_of script n) h.says ∙ entry_again script is n e (lt_is n (2 ^ 64) small) h.readable h.actor)
