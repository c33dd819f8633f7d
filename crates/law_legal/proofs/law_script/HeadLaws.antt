-- The words of the head's lines, of schedules and of lists of places.
use Rattle.std.proofs.Common.{◌≡◌, ℕ, ◌<◌, ◌^◌, Bool, true, false, cond, eqb, List, [], ◌∷◌, map, refl, sym, ap, ◌∙◌, arith}
use Rattle.std.specs.Prelude.{not, decimal}
use Rattle.std.specs.List.{list_any, list_all, join_with_byte}
use Rattle.std.proofs.lemmas.Bool.{eqb-true}
use Rattle.std.proofs.lemmas.Fmt.{decimal-digits_value}
use Rattle.ttm_base.specs.declared.Actor.{Actor}
use Rattle.ttm_base.specs.declared.Actor.TheVariants as actor
use Rattle.journal_model.specs.declared.line.ActorWord.{ActorWord}
use Rattle.journal_model.specs.declared.line.ActorWord.TheVariants as read_as
use Rattle.journal_model.specs.declared.line.PlaceWord.{PlaceWord}
use Rattle.journal_model.specs.declared.line.PlaceWord.TheVariants as place_word
use Rattle.journal_model.specs.scripts.Words.{Text, actor_word}
use Rattle.journal_model.specs.scripts.Cut.{cut_at}
use Rattle.journal_model.specs.scripts.CommandRules.{is_between}
use Rattle.journal_model.specs.scripts.Spelling.{flagged_word, words_of_places}
use Rattle.journal_model.specs.scripts.Reading.{is_plain, has_no_leading_zero, is_digit, read_on, actor_of, thread_actor, engine_actor, place_word_of, places_of}
use Rattle.journal_model.specs.scripts.LineRules.{is_no_place, is_broken_place}
use Rattle.journal_model.specs.scripts.FirstFault.{place_in}
use Rattle.law_legal.proofs.law_script.CutLaws.{joined}
use Rattle.law_legal.proofs.law_script.NumberLaws.{own, lead, between}
use Rattle.law_legal.proofs.law_script.LineLaws.{made}
use Rattle.law_legal.proofs.law_script.PlaceLaws.{is, place_takes}
use Rattle.law_legal.proofs.law_items.Tests.{either, both}

-- ---- a keyword and a number

-- ---- actors

-- a plain number is spelled as it was read
pub plain_word : (w : Text) → is_plain w ≡ true → read_on 0 w < 2 ^ 64 → w ≡ decimal (read_on 0 w)
plain_word w h small =
    let g = both (has_no_leading_zero w) (list_all is_digit w) h in
    let l = lead w g.0 in
    sym (decimal-digits_value own w g.1 l.0 l.1 small)

-- a word that is an actor
abbrev pub an_actor : Actor → ActorWord
an_actor who = read_as.Is who

-- what a number of an actor says
pub numbered : (p b : Bool) (n : ℕ) (who : Actor) (made : ℕ → Actor) → cond (not p) read_as.BrokenNumber (cond b (an_actor (made n)) read_as.Missing) ≡ an_actor who → (p ≡ true) × (b ≡ true) × (made n ≡ who)
numbered true true n who made h = (refl, refl, cc)
numbered true false n who made h = absurd cc
numbered false b n who made h = absurd cc

thread_is : (threads : ℕ) (w : Text) (who : Actor) → threads < 2 ^ 64 → thread_actor threads w ≡ an_actor who → 116 ∷ w ≡ actor_word who
thread_is threads w who small h =
    let n = numbered (is_plain w) (is_between 1 threads (read_on 0 w)) (read_on 0 w) who (λ m. actor.Thread m) h in
    let r = between 1 threads (read_on 0 w) n.1 in
    ap (λ t. 116 ∷ t) (plain_word w n.0 (omega (arith, r.1, small))) ∙ ap actor_word n.2

engine_is : (engines : ℕ) (w : Text) (who : Actor) → engines < 2 ^ 64 → engine_actor engines w ≡ an_actor who → 101 ∷ w ≡ actor_word who
engine_is engines w who small h =
    let n = numbered (is_plain w) (is_between 0 engines (read_on 0 w)) (read_on 0 w) who (λ m. actor.Engine m) h in
    let r = between 0 engines (read_on 0 w) n.1 in
    ap (λ t. 101 ∷ t) (plain_word w n.0 (omega (arith, r.1, small))) ∙ ap actor_word n.2

by_letter : (a b : Bool) (c : ℕ) (w : Text) (x y : ActorWord) (who : Actor) → (a ≡ true → c ≡ 116) → (b ≡ true → c ≡ 101) → (x ≡ an_actor who → 116 ∷ w ≡ actor_word who) → (y ≡ an_actor who → 101 ∷ w ≡ actor_word who)
    → cond a x (cond b y read_as.Malformed) ≡ an_actor who → c ∷ w ≡ actor_word who
by_letter true b c w x y who p q f g h = ap (λ d. d ∷ w) (p refl) ∙ f h
by_letter false true c w x y who p q f g h = ap (λ d. d ∷ w) (q refl) ∙ g h
by_letter false false c w x y who p q f g h = absurd cc

lone : (a : Bool) (c : ℕ) (who : Actor) → (a ≡ true → c ≡ 114) → cond a (an_actor actor.Reaper) read_as.Malformed ≡ an_actor who → c ∷ [] ≡ actor_word who
lone true c who p h = let e : actor.Reaper ≡ who = cc in ap (λ d. d ∷ []) (p refl) ∙ ap actor_word e
lone false c who p h = absurd cc

-- an actor that is read is spelled so
pub actor_takes : (threads engines : ℕ) (w : Text) (who : Actor) → threads < 2 ^ 64 → engines < 2 ^ 64 → actor_of threads engines w ≡ an_actor who → w ≡ actor_word who
actor_takes threads engines [] who s t h = absurd cc
actor_takes threads engines (c ∷ []) who s t h = lone (eqb c 114) c who (eqb-true c 114) h
actor_takes threads engines (c ∷ d ∷ number) who s t h =
    by_letter (eqb c 116) (eqb c 101) c (d ∷ number) (thread_actor threads (d ∷ number)) (engine_actor engines (d ∷ number)) who (eqb-true c 116) (eqb-true c 101)
    (thread_is threads (d ∷ number) who s) (engine_is engines (d ∷ number) who t) h

-- ---- lists of places

-- a word that is a place
pub good_place : (x : PlaceWord) → is_no_place x ≡ false → is_broken_place x ≡ false → x ≡ is (place_in x)
good_place (place_word.Is f) a b = refl
good_place place_word.BrokenNumber a b = absurd cc
good_place place_word.Malformed a b = absurd cc

places_are : (two : Bool) (parts : List Text) → list_any is_no_place (map (place_word_of two) parts) ≡ false → list_any is_broken_place (map (place_word_of two) parts) ≡ false
    → map flagged_word (map place_in (map (place_word_of two) parts)) ≡ parts
places_are two [] a b = refl
places_are two (w ∷ ws) a b =
    let e = either (is_no_place (place_word_of two w)) (list_any is_no_place (map (place_word_of two) ws)) a in
    let f = either (is_broken_place (place_word_of two w)) (list_any is_broken_place (map (place_word_of two) ws)) b in
    ap (λ t. t ∷ map flagged_word (map place_in (map (place_word_of two) ws))) (place_takes two w (place_in (place_word_of two w)) (good_place (place_word_of two w) e.0 f.0))
    ∙ ap (λ ts. w ∷ ts) (places_are two ws e.1 f.1)

-- a list of places of version 2 is spelled as it was read
pub places_take : (w : Text) → list_any is_no_place (places_of true w) ≡ false → list_any is_broken_place (places_of true w) ≡ false → words_of_places (map flagged_word (map place_in (places_of true w))) ≡ w
places_take w a b = ap (join_with_byte 44) (places_are true (cut_at 44 w) a b) ∙ joined 44 w
