-- The lines that begin a thread, the schedules, and the last line.
use Rattle.std.proofs.Common.{◌≡◌, ℕ, ◌<◌, ◌^◌, Bool, true, false, cond, eqb, List, [], ◌∷◌, ◌++◌, length, map, refl, sym, ap, subst, ◌∙◌, append_assoc, arith}
use Rattle.std.specs.Prelude.{◌&&◌, not, codes, flat_map, sum_by, nat_le}
use Rattle.std.specs.List.{list_any, list_all}
use Rattle.std.proofs.lemmas.Bool.Decides.{nat_tests}
use Rattle.std.proofs.lemmas.List.{append-nil}
use Rattle.std.proofs.lemmas.List.Concat.{flat_map-cons}
use Rattle.std.proofs.lemmas.Grind.{flat_map-append}
use Rattle.ttm_base.specs.declared.Actor.{Actor}
use Rattle.ttm_base.specs.declared.Actor.TheVariants as actor
use Rattle.journal_model.specs.declared.script.Script.{Script}
use Rattle.journal_model.specs.declared.line.Phase.{Phase}
use Rattle.journal_model.specs.declared.line.Phase.TheVariants as phase
use Rattle.journal_model.specs.declared.line.Line.{Line}
use Rattle.journal_model.specs.declared.line.Line.TheVariants as says
use Rattle.journal_model.specs.declared.line.ActorWord.{ActorWord}
use Rattle.journal_model.specs.declared.line.ActorWord.TheVariants as read_as
use Rattle.journal_model.specs.scripts.Words.{Text, line, actor_word}
use Rattle.journal_model.specs.scripts.Spelling.{buffer_line, turn_line}
use Rattle.journal_model.specs.scripts.CommandRules.{is_between}
use Rattle.journal_model.specs.scripts.ScriptRules.{is_actor, is_turn_line}
use Rattle.journal_model.specs.scripts.Reading.{is_plain, read_on, actor_of, thread_actor, engine_actor}
use Rattle.journal_model.specs.scripts.LineWords.{alone, turn_line_of, is_no_actor}
use Rattle.journal_model.specs.scripts.LineRules.{is_broken_actor, is_missing_actor}
use Rattle.journal_model.specs.scripts.FirstFault.{first_word, with_line, actor_in}
use Rattle.law_legal.proofs.law_script.NumberLaws.{between}
use Rattle.law_legal.proofs.law_script.LineLaws.{made, Breaks_none}
use Rattle.law_legal.proofs.law_script.HeadLaws.{an_actor, numbered}
use Rattle.law_legal.proofs.law_script.KindLaws.{actors_take, good_actor}
use Rattle.law_legal.proofs.law_script.CommandSteps.{grown}
use Rattle.law_legal.specs.law_items.Items.{Item, items_text, items_fit}
use Rattle.law_legal.proofs.law_items.Puts.{thread_comes}
use Rattle.law_legal.proofs.law_items.ListFacts.{all_nil, all_more, length_more, last_new, sum_more, length_map, has_few}
use Rattle.law_legal.proofs.law_script.Sound.{frame, seats, six, body, is_asked, item_len, Sound, text_of, Grows}
use Rattle.law_legal.proofs.law_script.HeadSteps.{at, sizes_fit}
use Rattle.law_legal.proofs.law_items.Tests.{not_true, either, both, joint, le_is, is_le}
use Rattle.law_legal.proofs.law_script.BufferSteps.{some_if}

-- ---- a word alone

alone_says : (x l : Line) (word : Text) (ws : List Text) → first_word ws ≡ word → alone x ws ≡ made l → (ws ≡ word ∷ []) × (x ≡ l)
alone_says x l word [] k h = absurd cc
alone_says x l word (w ∷ []) k h = (ap (λ t. t ∷ []) k, cc)
alone_says x l word (w ∷ v ∷ ws) k h = absurd cc

-- ---- threads

less_16 : (n : ℕ) → nat_le 16 n ≡ false → n < 16
less_16 n h = grind (arith, nat_tests, h)

abbrev with_thread : Script → Script
with_thread s = record s { threads = s.threads ++ [] ∷ [] }

new_thread : (ph : Phase) (s : Script) (lists : List (List Item)) (n m : ℕ) → s.turns ≡ [] → nat_le 16 (length s.threads) ≡ false → Sound (at ph s n m) lists → Sound (at phase.Threads (with_thread s) 0 m) (lists ++ [] ∷ [])
new_thread ph s lists n m none few h = record {
  version = h.version;
  sizes = h.sizes;
  few_buffers = h.few_buffers;
  decls = h.decls;
  names = h.names;
  comes = thread_comes s lists h.comes;
  few_threads = let e = length_more s.threads [] in let f = less_16 (length s.threads) few in omega (arith, e, f);
  commands = all_more (list_all (is_asked (frame s))) lists [] h.commands refl;
  few_lines = all_more has_few lists [] h.few_lines refl;
  lines = sym (last_new lists);
  lens = h.lens ∙ sym (sum_more (sum_by item_len) lists [] ∙ omega arith);
  short = h.short;
  marks = all_more (items_fit (frame s)) lists [] h.marks refl;
  turns = all_nil (is_turn_line (seats (with_thread s))) s.turns none;
  stage = (let e = length_more s.threads [] in omega (arith, e), none);
}

thread_text_more : (s : Script) (lists : List (List Item)) → s.turns ≡ [] → body (with_thread s) (lists ++ [] ∷ []) ≡ body s lists ++ line (codes "thread" ∷ [])
thread_text_more s lists none =
    let f = items_text (frame s) in
    grown (six s ++ flat_map (buffer_line s.version) s.buffers) (flat_map f lists) _ (line (codes "thread" ∷ [])) turn_line s.turns none
    (flat_map-append f lists ([] ∷ []) ∙ ap (λ x. flat_map f lists ++ x) (flat_map-cons f [] [] ∙ append-nil (f []) ∙ append-nil (line (codes "thread" ∷ []))))

-- the first thread
pub thread_from_buffers : {lists : List (List Item)} (s : Script) (n m : ℕ) (ws : List Text) (l : Line) → first_word ws ≡ codes "thread" → alone says.Thread ws ≡ made l → Breaks_none (at phase.Buffers s n m) l → Sound (at phase.Buffers s n m) lists → Grows (at phase.Buffers s n m) lists l ws
thread_from_buffers {lists = lists} s n m ws l k e r h =
    let z = alone_says says.Thread l (codes "thread") ws k e in
    subst (λ (x : Line). Breaks_none (at phase.Buffers s n m) x → Grows (at phase.Buffers s n m) lists x ws) z.1 (λ b. record {
      next = lists ++ [] ∷ [];
      sound = new_thread phase.Buffers s lists n m h.stage.1 b.counts h;
      more = thread_text_more s lists h.stage.1 ∙ ap (λ x. body s lists ++ line x) (sym z.0);
    }) r

-- another thread
pub thread_from_threads : {lists : List (List Item)} (s : Script) (n m : ℕ) (ws : List Text) (l : Line) → first_word ws ≡ codes "thread" → alone says.Thread ws ≡ made l → Breaks_none (at phase.Threads s n m) l → Sound (at phase.Threads s n m) lists → Grows (at phase.Threads s n m) lists l ws
thread_from_threads {lists = lists} s n m ws l k e r h =
    let z = alone_says says.Thread l (codes "thread") ws k e in
    subst (λ (x : Line). Breaks_none (at phase.Threads s n m) x → Grows (at phase.Threads s n m) lists x ws) z.1 (λ b. record {
      next = lists ++ [] ∷ [];
      sound = new_thread phase.Threads s lists n m h.stage.1 b.counts h;
      more = thread_text_more s lists h.stage.1 ∙ ap (λ x. body s lists ++ line x) (sym z.0);
    }) r

-- ---- schedules

thread_fits : (s : Script) (w : Text) (who : Actor) → thread_actor (length s.threads) w ≡ an_actor who → is_actor s who ≡ true
thread_fits s w who h =
    let n = numbered (is_plain w) (is_between 1 (length s.threads) (read_on 0 w)) (read_on 0 w) who (λ m. actor.Thread m) h in
    subst (λ (x : Actor). is_actor s x ≡ true) n.2 n.1

engine_fits : (s : Script) (w : Text) (who : Actor) → engine_actor s.sizes.engines w ≡ an_actor who → is_actor s who ≡ true
engine_fits s w who h =
    let n = numbered (is_plain w) (is_between 0 s.sizes.engines (read_on 0 w)) (read_on 0 w) who (λ m. actor.Engine m) h in
    subst (λ (x : Actor). is_actor s x ≡ true) n.2 (is_le (read_on 0 w) s.sizes.engines (between 0 s.sizes.engines (read_on 0 w) n.1).1)

by_letter : (s : Script) (a b : Bool) (x y : ActorWord) (who : Actor) → (x ≡ an_actor who → is_actor s who ≡ true) → (y ≡ an_actor who → is_actor s who ≡ true) → cond a x (cond b y read_as.Malformed) ≡ an_actor who → is_actor s who ≡ true
by_letter s true b x y who f g h = f h
by_letter s false true x y who f g h = g h
by_letter s false false x y who f g h = absurd cc

lone : (s : Script) (a : Bool) (who : Actor) → cond a (an_actor actor.Reaper) read_as.Malformed ≡ an_actor who → is_actor s who ≡ true
lone s true who h = let e : actor.Reaper ≡ who = cc in subst (λ (x : Actor). is_actor s x ≡ true) e refl
lone s false who h = absurd cc

actor_fits : (s : Script) (w : Text) (who : Actor) → actor_of (length s.threads) s.sizes.engines w ≡ an_actor who → is_actor s who ≡ true
actor_fits s [] who h = absurd cc
actor_fits s (c ∷ []) who h = lone s (eqb c 114) who h
actor_fits s (c ∷ d ∷ number) who h =
    by_letter s (eqb c 116) (eqb c 101) (thread_actor (length s.threads) (d ∷ number)) (engine_actor s.sizes.engines (d ∷ number)) who (thread_fits s (d ∷ number) who) (engine_fits s (d ∷ number) who) h

actors_fit : (s : Script) (ws : List Text) → let xs = map (actor_of (length s.threads) s.sizes.engines) ws in
    list_any is_no_actor xs ≡ false → list_any is_broken_actor xs ≡ false → list_any is_missing_actor xs ≡ false → list_all (is_actor s) (map actor_in xs) ≡ true
actors_fit s [] a b c = refl
actors_fit s (w ∷ ws) a b c =
    let x = actor_of (length s.threads) s.sizes.engines w in
    let xs = map (actor_of (length s.threads) s.sizes.engines) ws in
    let e = either (is_no_actor x) (list_any is_no_actor xs) a in
    let f = either (is_broken_actor x) (list_any is_broken_actor xs) b in
    let g = either (is_missing_actor x) (list_any is_missing_actor xs) c in
    joint (is_actor s (actor_in x)) (list_all (is_actor s) (map actor_in xs)) (actor_fits s w (actor_in x) (good_actor x e.0 f.0 g.0)) (actors_fit s ws e.1 f.1 g.1)

-- a schedule line that keeps its rules
pub record Steers (s : Script) (ws : List Text) (l : Line) : Type 0 where
  pub actors : List ActorWord
  pub is : says.Turn actors ≡ l
  pub good : list_any is_broken_actor actors ≡ false → list_any is_missing_actor actors ≡ false → (ws ≡ codes "schedule" ∷ map actor_word (map actor_in actors)) × (is_turn_line s (map actor_in actors) ≡ true)

-- the words of a schedule
pub turn_says : (s : Script) (ws : List Text) (l : Line) → length s.threads < 2 ^ 64 → s.sizes.engines < 2 ^ 64 → first_word ws ≡ codes "schedule" → turn_line_of (length s.threads) s.sizes.engines ws ≡ made l → Steers s ws l
turn_says s [] l t e k h = absurd cc
turn_says s (w ∷ ws) l t e k h =
    let xs = map (actor_of (length s.threads) s.sizes.engines) ws in
    let z = some_if (is_between 1 64 (length xs) && not (list_any is_no_actor xs)) (says.Turn xs) l h in
    let b = both (is_between 1 64 (length xs)) (not (list_any is_no_actor xs)) z.0 in
    let n = not_true (list_any is_no_actor xs) b.1 in
    record {
      actors = xs;
      is = z.1;
      good = λ p q. (
        ap (λ x. x ∷ ws) k ∙ ap (λ x. codes "schedule" ∷ x) (actors_take (length s.threads) s.sizes.engines ws t e n p q),
        joint (is_between 1 64 (length (map actor_in xs))) (list_all (is_actor s) (map actor_in xs)) (ap (is_between 1 64) (length_map actor_in xs) ∙ b.0) (actors_fit s ws n p q),
      );
    }

abbrev with_turn : Script → List Actor → Script
with_turn s x = record s { turns = s.turns ++ x ∷ [] }

new_turn : (ph : Phase) (s : Script) (lists : List (List Item)) (n m : ℕ) (x : List Actor) → is_turn_line s x ≡ true → Sound (at ph s n m) lists → Sound (at phase.Turns (with_turn s x) n m) lists
new_turn ph s lists n m x fit h = record {
  version = h.version;
  sizes = h.sizes;
  few_buffers = h.few_buffers;
  decls = h.decls;
  names = h.names;
  comes = record { threads = h.comes.threads; marks = h.comes.marks };
  few_threads = h.few_threads;
  commands = h.commands;
  few_lines = h.few_lines;
  lines = h.lines;
  lens = h.lens;
  short = h.short;
  turns = all_more (is_turn_line (seats s)) s.turns x h.turns fit;
  marks = h.marks;
  stage = tt;
}

turn_text_more : (s : Script) (lists : List (List Item)) (x : List Actor) → body (with_turn s x) lists ≡ body s lists ++ turn_line x
turn_text_more s lists x =
    let a = six s ++ flat_map (buffer_line s.version) s.buffers ++ flat_map (items_text (frame s)) lists in
    ap (λ t. a ++ t) (flat_map-append turn_line s.turns (x ∷ []) ∙ ap (λ t. flat_map turn_line s.turns ++ t) (flat_map-cons turn_line x [] ∙ append-nil (turn_line x)))
    ∙ sym (append_assoc a (flat_map turn_line s.turns) (turn_line x))

-- there are few threads and engines
pub few_seats : {lists : List (List Item)} (ph : Phase) (s : Script) (n m : ℕ) → Sound (at ph s n m) lists → (length s.threads < 2 ^ 64) × (s.sizes.engines < 2 ^ 64)
few_seats ph s n m h =
    let a = h.few_threads in
    let b = le_is s.sizes.engines 8 (sizes_fit s h.sizes).engines in
    (omega (arith, a), omega (arith, b))

steered : {lists : List (List Item)} (ph : Phase) (s : Script) (n m : ℕ) (ws : List Text) (l : Line) → first_word ws ≡ codes "schedule" → turn_line_of (length s.threads) s.sizes.engines ws ≡ made l → Breaks_none (at ph s n m) l → Sound (at ph s n m) lists
    → Sound (with_line (at ph s n m) l) lists × (text_of (with_line (at ph s n m) l) lists ≡ body s lists ++ line ws)
steered {lists = lists} ph s n m ws l k e r h =
    let f = few_seats ph s n m h in
    let z = turn_says s ws l f.0 f.1 k e in
    subst (λ (x : Line). Breaks_none (at ph s n m) x → Sound (with_line (at ph s n m) x) lists × (text_of (with_line (at ph s n m) x) lists ≡ body s lists ++ line ws)) z.is (λ b.
    let g = z.good b.numbers b.actors in (
      new_turn ph s lists n m (map actor_in z.actors) g.1 h,
      turn_text_more s lists (map actor_in z.actors) ∙ ap (λ x. body s lists ++ line x) (sym g.0),
    )) r

-- a schedule where there are no threads
pub turn_from_buffers : {lists : List (List Item)} (s : Script) (n m : ℕ) (ws : List Text) (l : Line) → first_word ws ≡ codes "schedule" → turn_line_of (length s.threads) s.sizes.engines ws ≡ made l → Breaks_none (at phase.Buffers s n m) l → Sound (at phase.Buffers s n m) lists → Grows (at phase.Buffers s n m) lists l ws
turn_from_buffers {lists = lists} s n m ws l k e r h = let g = steered phase.Buffers s n m ws l k e r h in record { next = lists; sound = g.0; more = g.1 }

-- the first schedule
pub turn_from_threads : {lists : List (List Item)} (s : Script) (n m : ℕ) (ws : List Text) (l : Line) → first_word ws ≡ codes "schedule" → turn_line_of (length s.threads) s.sizes.engines ws ≡ made l → Breaks_none (at phase.Threads s n m) l → Sound (at phase.Threads s n m) lists → Grows (at phase.Threads s n m) lists l ws
turn_from_threads {lists = lists} s n m ws l k e r h = let g = steered phase.Threads s n m ws l k e r h in record { next = lists; sound = g.0; more = g.1 }

-- another schedule
pub turn_from_turns : {lists : List (List Item)} (s : Script) (n m : ℕ) (ws : List Text) (l : Line) → first_word ws ≡ codes "schedule" → turn_line_of (length s.threads) s.sizes.engines ws ≡ made l → Breaks_none (at phase.Turns s n m) l → Sound (at phase.Turns s n m) lists → Grows (at phase.Turns s n m) lists l ws
turn_from_turns {lists = lists} s n m ws l k e r h = let g = steered phase.Turns s n m ws l k e r h in record { next = lists; sound = g.0; more = g.1 }

-- ---- the last line

ended : (ph : Phase) (s : Script) (lists : List (List Item)) (n m : ℕ) → Sound (at ph s n m) lists → Sound (at phase.After s n m) lists
ended ph s lists n m h = record {
  version = h.version;
  sizes = h.sizes;
  few_buffers = h.few_buffers;
  decls = h.decls;
  names = h.names;
  comes = record { threads = h.comes.threads; marks = h.comes.marks };
  few_threads = h.few_threads;
  commands = h.commands;
  few_lines = h.few_lines;
  lines = h.lines;
  lens = h.lens;
  short = h.short;
  turns = h.turns;
  marks = h.marks;
  stage = tt;
}

last_line : {lists : List (List Item)} (ph : Phase) (s : Script) (n m : ℕ) (ws : List Text) (l : Line) → first_word ws ≡ codes "end" → alone says.End ws ≡ made l → Sound (at ph s n m) lists
    → Sound (with_line (at ph s n m) l) lists × (text_of (with_line (at ph s n m) l) lists ≡ body s lists ++ line ws)
last_line {lists = lists} ph s n m ws l k e h =
    let z = alone_says says.End l (codes "end") ws k e in
    subst (λ (x : Line). Sound (with_line (at ph s n m) x) lists × (text_of (with_line (at ph s n m) x) lists ≡ body s lists ++ line ws)) z.1 (ended ph s lists n m h, ap (λ x. body s lists ++ line x) (sym z.0))

-- the end after the buffers
pub end_from_buffers : {lists : List (List Item)} (s : Script) (n m : ℕ) (ws : List Text) (l : Line) → first_word ws ≡ codes "end" → alone says.End ws ≡ made l → Sound (at phase.Buffers s n m) lists → Grows (at phase.Buffers s n m) lists l ws
end_from_buffers {lists = lists} s n m ws l k e h = let g = last_line phase.Buffers s n m ws l k e h in record { next = lists; sound = g.0; more = g.1 }

-- the end after the threads
pub end_from_threads : {lists : List (List Item)} (s : Script) (n m : ℕ) (ws : List Text) (l : Line) → first_word ws ≡ codes "end" → alone says.End ws ≡ made l → Sound (at phase.Threads s n m) lists → Grows (at phase.Threads s n m) lists l ws
end_from_threads {lists = lists} s n m ws l k e h = let g = last_line phase.Threads s n m ws l k e h in record { next = lists; sound = g.0; more = g.1 }

-- the end after the schedules
pub end_from_turns : {lists : List (List Item)} (s : Script) (n m : ℕ) (ws : List Text) (l : Line) → first_word ws ≡ codes "end" → alone says.End ws ≡ made l → Sound (at phase.Turns s n m) lists → Grows (at phase.Turns s n m) lists l ws
end_from_turns {lists = lists} s n m ws l k e h = let g = last_line phase.Turns s n m ws l k e h in record { next = lists; sound = g.0; more = g.1 }
