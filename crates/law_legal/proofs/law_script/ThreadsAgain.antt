-- Threads and schedules that were written are read.
use Rattle.std.proofs.Common.{◌≡◌, ℕ, ◌+◌, ◌<◌, ◌≤◌, ◌^◌, Bool, true, false, cond, List, [], ◌∷◌, ◌++◌, length, map, None, Ok, refl, sym, ap, subst, ◌∙◌, append_assoc, arith}
use Rattle.std.specs.Prelude.{◌&&◌, ◌||◌, not, codes, flat_map, sum_by, nat_le}
use Rattle.std.specs.List.{list_any, list_all}
use Rattle.std.proofs.lemmas.Bool.Decides.{nat_tests}
use Rattle.std.proofs.lemmas.List.{append-nil}
use Rattle.std.proofs.lemmas.List.Concat.{flat_map-cons}
use Rattle.std.proofs.lemmas.List.Sums.{sum_by-cons}
use Rattle.ttm_base.specs.declared.Actor.{Actor}
use Rattle.journal_model.specs.declared.script.Script.{Script}
use Rattle.journal_model.specs.declared.line.Progress.{Progress}
use Rattle.journal_model.specs.declared.line.Phase.{Phase}
use Rattle.journal_model.specs.declared.line.Phase.TheVariants as phase
use Rattle.journal_model.specs.declared.line.Keyword.TheVariants as key
use Rattle.journal_model.specs.declared.line.Line.TheVariants as line_of
use Rattle.journal_model.specs.declared.line.ActorWord.{ActorWord}
use Rattle.journal_model.specs.scripts.Words.{Text, line, actor_word}
use Rattle.journal_model.specs.scripts.Spelling.{turn_line}
use Rattle.journal_model.specs.scripts.CommandRules.{is_between, is_declared, command_len}
use Rattle.journal_model.specs.scripts.ScriptRules.{is_actor, is_turn_line}
use Rattle.journal_model.specs.scripts.Reading.{actor_of}
use Rattle.journal_model.specs.scripts.LineWords.{may_come, turn_of_actors, is_no_actor}
use Rattle.journal_model.specs.scripts.LineRules.{is_broken_actor, is_missing_actor}
use Rattle.journal_model.specs.scripts.FirstFault.{with_line, actor_in}
use Rattle.law_legal.proofs.law_script.LineLaws.{made, Breaks_none}
use Rattle.law_legal.proofs.law_script.HeadSteps.{at}
use Rattle.law_legal.specs.law_items.Items.{Item, Alone, Asks, commands_in, with_items, thread_mappings_behind, thread_mappings_of, item_text, items_text, item_fits, all_along, items_fit}
use Rattle.law_legal.proofs.law_items.ListFacts.{length_map, has_few}
use Rattle.law_legal.proofs.law_items.Puts.{thread_mappings_more, thread_mappings_end, alone_end, plain_end, way_end, thread_end}
use Rattle.law_legal.proofs.law_script.Sound.{is_asked, item_len}
use Rattle.law_legal.proofs.law_script.CommandSteps.{with_item}
use Rattle.law_legal.proofs.law_script.Declared.{AreThere, item_keeps}
use Rattle.law_legal.proofs.law_script.MarksAgain.{HasRoom, item_runs}
use Rattle.law_legal.proofs.law_script.NamesAgain.{IsNamed, actor_again, actor_solid}
use Rattle.law_legal.proofs.law_script.LineRuns.{Runs, runs_none, runs_both, line_runs, says, keeps_all}
use Rattle.law_legal.proofs.law_script.Solid.{is_word}
use Rattle.law_legal.proofs.law_items.Tests.{both, joint, le_is, not_long}
use Rattle.law_legal.proofs.law_script.HeadLaws.{an_actor}

-- ---- the lines of a thread

put_is : (s : Script) (done : List (List Item)) (items : List Item) (n m : ℕ) (item : Item) → item_fits s (thread_mappings_of items) item ≡ true
    → with_item (at phase.Threads (with_items s (done ++ items ∷ [])) n m) item ≡ at phase.Threads (with_items s (done ++ (items ++ item ∷ []) ∷ [])) (n + 1) (m + item_len item)
put_is s done items n m (Alone kind) k =
    ap (λ t. at phase.Threads t (n + 1) m) (alone_end s done items kind)
    ∙ ap (λ x. at phase.Threads (with_items s (done ++ (items ++ Alone kind ∷ []) ∷ [])) (n + 1) x) (let e : m ≡ m + 0 = omega arith in e)
put_is s done items n m (Asks [] c) k = ap (λ t. at phase.Threads t (n + 1) (m + command_len c)) (plain_end s done items c)
put_is s done items n m (Asks (way ∷ []) c) k = ap (λ t. at phase.Threads t (n + 1) (m + command_len c)) (way_end s done items way c)
put_is s done items n m (Asks (way ∷ other ∷ ways) c) k = absurd cc

-- where a text ends, with so many bytes of operations
pub record Past (p : Progress) (t : Text) (s : Script) (total : ℕ) : Type 0 where
  pub n : ℕ
  pub m : ℕ
  pub is : m ≡ total
  pub runs : Runs p t (at phase.Threads s n m)

-- the lines of a thread are read
pub items_run : (s : Script) (done : List (List Item)) (before items : List Item) (n m : ℕ) → IsNamed s → s.sizes.engines < 2 ^ 64 → AreThere s (thread_mappings_of before) → list_all (is_asked s) items ≡ true → all_along (item_fits s) (thread_mappings_of before) items ≡ true
    → n + length items ≤ 4096 → m + sum_by item_len items ≤ 67108864
    → Past (at phase.Threads (with_items s (done ++ before ∷ [])) n m) (flat_map (item_text s) items) (with_items s (done ++ (before ++ items) ∷ [])) (m + sum_by item_len items)
items_run s done before [] n m h small there k w few short = record {
  n = n;
  m = m;
  is = omega arith;
  runs = subst (λ (x : List Item). Runs (at phase.Threads (with_items s (done ++ before ∷ [])) n m) [] (at phase.Threads (with_items s (done ++ x ∷ [])) n m)) (sym (append-nil before)) (runs_none _);
}
items_run s done before (item ∷ items) n m h small there k w few short =
    let f = both (is_asked s item) (list_all (is_asked s) items) k in
    let g = both (item_fits s (thread_mappings_of before) item) (all_along (item_fits s) (thread_mappings_behind (thread_mappings_of before) item) items) w in
    let sum = sum_by-cons item_len item items in
    let here = with_items s (done ++ before ∷ []) in
    let thread_mappings = thread_mappings_end s done before in
    let room : HasRoom here n m item = record { named_ones = record { decls = h.decls; distinct_ones = h.distinct_ones }; few = omega (arith, few); short = omega (arith, short, sum) } in
    let p = at phase.Threads here n m in
    let next = at phase.Threads (with_items s (done ++ (before ++ item ∷ []) ∷ [])) (n + 1) (m + item_len item) in
    let put : with_item p item ≡ next = put_is s done before n m item g.0 in
    let first = subst (λ (q : Progress). Runs p (item_text s item) q) put
    (item_runs here n m item room small (ap (λ d. list_all (is_declared s) d.mapped) thread_mappings ∙ there) f.0 (ap (λ d. item_fits s d item) thread_mappings ∙ g.0)) in
    let more = thread_mappings_more before item in
    let r = items_run s done (before ++ item ∷ []) items (n + 1) (m + item_len item) h small
    (ap (λ d. list_all (is_declared s) d.mapped) more ∙ item_keeps s (thread_mappings_of before) item g.0 there) f.1 (ap (λ d. all_along (item_fits s) d items) more ∙ g.1) (omega (arith, few)) (omega (arith, short, sum)) in
    let q : List Item → Progress = λ x. at phase.Threads (with_items s (done ++ x ∷ [])) r.n r.m in
    let total = r.is in
    record {
      n = r.n;
      m = r.m;
      is = omega (arith, total, sum);
      runs = subst (λ (t : Text). Runs p t (q (before ++ item ∷ items))) (sym (flat_map-cons (item_text s) item items))
          (subst (λ (x : List Item). Runs p (item_text s item ++ flat_map (item_text s) items) (q x)) (append_assoc before (item ∷ []) items)
          (runs_both p next (q ((before ++ item ∷ []) ++ items)) (item_text s item) (flat_map (item_text s) items) first r.runs));
    }

-- ---- threads

not_full : (n : ℕ) → n < 16 → nat_le 16 n ≡ false
not_full n h = grind (arith, nat_tests)

thread_runs : (ph : Phase) (s : Script) (n m : ℕ) → may_come s.version ph key.Thread ≡ true → length s.threads < 16 → m ≤ 67108864 → Runs (at ph s n m) (line (codes "thread" ∷ [])) (at phase.Threads (record s { threads = s.threads ++ [] ∷ [] }) 0 m)
thread_runs ph s n m c few short =
    let p = at ph s n m in
    let r : Breaks_none p line_of.Thread = record { numbers = refl; names = refl; places = refl; ranges = refl; bytes = refl; jobs = refl; actors = refl; counts = not_full (length s.threads) few; lens = not_long (m + 0) (omega (arith, short)); maps = refl; pages = refl } in
    line_runs p (with_line p line_of.Thread) (codes "thread") [] refl (says p key.Thread (codes "thread" ∷ []) line_of.Thread refl c refl refl (keeps_all p line_of.Thread r))

-- where a schedule or the end may follow
pub record Behind (p : Progress) (t : Text) (s : Script) : Type 0 where
  pub ph : Phase
  pub n : ℕ
  pub m : ℕ
  pub schedule : may_come s.version ph key.Schedule ≡ true
  pub last : may_come s.version ph key.End ≡ true
  pub short : m ≤ 67108864
  pub runs : Runs p t (at ph s n m)

-- there is one more to come
pub shorter : {X : Type 0} (done : List X) (d : X) (ds : List X) → length done < length (done ++ d ∷ ds)
shorter [] d ds = omega arith
shorter (e ∷ done) d ds = let r = shorter done d ds in omega (arith, r)

-- as many threads as lists
len_is : (lists : List (List Item)) → length (map commands_in lists) ≡ length lists
len_is lists = length_map commands_in lists

-- threads are read
pub threads_run : (lists : List (List Item)) (s : Script) (done : List (List Item)) (ph : Phase) (n m : ℕ) → may_come s.version ph key.Thread ≡ true → may_come s.version ph key.Schedule ≡ true → may_come s.version ph key.End ≡ true → IsNamed s → s.sizes.engines < 2 ^ 64
    → length (done ++ lists) ≤ 16 → list_all has_few lists ≡ true → list_all (list_all (is_asked s)) lists ≡ true → list_all (items_fit s) lists ≡ true → m + sum_by (sum_by item_len) lists ≤ 67108864
    → Behind (at ph (with_items s done) n m) (flat_map (items_text s) lists) (with_items s (done ++ lists))
threads_run [] s done ph n m c d e h small few each fit stands short = record {
  ph = ph;
  n = n;
  m = m;
  schedule = d;
  last = e;
  short = omega (arith, short);
  runs = subst (λ (x : List (List Item)). Runs (at ph (with_items s done) n m) [] (at ph (with_items s x) n m)) (sym (append-nil done)) (runs_none _);
}
threads_run (items ∷ lists) s done ph n m c d e h small few each fit stands short =
    let f = both (has_few items) (list_all has_few lists) each in
    let g = both (list_all (is_asked s) items) (list_all (list_all (is_asked s)) lists) fit in
    let w = both (items_fit s items) (list_all (items_fit s) lists) stands in
    let sum = sum_by-cons (sum_by item_len) items lists in
    let less = shorter done items lists in
    let len = len_is done in
    let p = at ph (with_items s done) n m in
    let begun = at phase.Threads (with_items s (done ++ [] ∷ [])) 0 m in
    let begin = subst (λ (t : Script). Runs p (line (codes "thread" ∷ [])) (at phase.Threads t 0 m)) (thread_end s done) (thread_runs ph (with_items s done) n m c (omega (arith, less, few, len)) (omega (arith, short))) in
    let count = le_is (length items) 4096 f.0 in
    let r = items_run s done [] items 0 m h small refl g.0 w.0 (omega (arith, count)) (omega (arith, short, sum)) in
    let over = at phase.Threads (with_items s (done ++ items ∷ [])) r.n r.m in
    let thread = runs_both p begun over (line (codes "thread" ∷ [])) (flat_map (item_text s) items) begin r.runs in
    let regroup : (done ++ items ∷ []) ++ lists ≡ done ++ items ∷ lists = append_assoc done (items ∷ []) lists in
    let total = r.is in
    let z = threads_run lists s (done ++ items ∷ []) phase.Threads r.n r.m refl refl refl h small (subst (λ (x : List (List Item)). length x ≤ 16) (sym regroup) few) f.1 g.1 w.1 (omega (arith, short, sum, total)) in
    let q : List (List Item) → Progress = λ x. at z.ph (with_items s x) z.n z.m in
    record {
      ph = z.ph;
      n = z.n;
      m = z.m;
      schedule = z.schedule;
      last = z.last;
      short = z.short;
      runs = subst (λ (t : Text). Runs p t (q (done ++ items ∷ lists))) (sym (flat_map-cons (items_text s) items lists))
          (subst (λ (x : List (List Item)). Runs p (items_text s items ++ flat_map (items_text s) lists) (q x)) regroup
          (runs_both p over (q ((done ++ items ∷ []) ++ lists)) (items_text s items) (flat_map (items_text s) lists) thread z.runs));
    }

-- ---- schedules

-- the script with other schedules
abbrev pub steered : Script → List (List Actor) → Script
steered s turns = record s { turns = turns }

none_of : (P : ActorWord → Bool) → ((who : Actor) → P (an_actor who) ≡ false) → (xs : List Actor) → list_any P (map an_actor xs) ≡ false
none_of P h [] = refl
none_of P h (a ∷ xs) = ap (λ b. b || list_any P (map an_actor xs)) (h a) ∙ none_of P h xs

actors_again : (s : Script) (xs : List Actor) → length s.threads < 2 ^ 64 → s.sizes.engines < 2 ^ 64 → list_all (is_actor s) xs ≡ true
    → (map (actor_of (length s.threads) s.sizes.engines) (map actor_word xs) ≡ map an_actor xs) × (list_all is_word (map actor_word xs) ≡ true)
actors_again s [] t e h = (refl, refl)
actors_again s (a ∷ xs) t e h =
    let f = both (is_actor s a) (list_all (is_actor s) xs) h in
    let r = actors_again s xs t e f.1 in (
      ap (λ x. x ∷ map (actor_of (length s.threads) s.sizes.engines) (map actor_word xs)) (actor_again s a t e f.0) ∙ ap (λ ys. an_actor a ∷ ys) r.0,
      joint (is_word (actor_word a)) (list_all is_word (map actor_word xs)) (actor_solid s a t e f.0) r.1,
    )

said_actors : (xs : List Actor) → map actor_in (map an_actor xs) ≡ xs
said_actors [] = refl
said_actors (a ∷ xs) = ap (λ ys. a ∷ ys) (said_actors xs)

turn_runs : (ph : Phase) (s : Script) (n m : ℕ) (xs : List Actor) → may_come s.version ph key.Schedule ≡ true → length s.threads < 2 ^ 64 → s.sizes.engines < 2 ^ 64 → is_turn_line s xs ≡ true → m ≤ 67108864
    → Runs (at ph s n m) (turn_line xs) (at phase.Turns (steered s (s.turns ++ xs ∷ [])) n m)
turn_runs ph s n m xs c t e h short =
    let p = at ph s n m in
    let f = both (is_between 1 64 (length xs)) (list_all (is_actor s) xs) h in
    let a = actors_again s xs t e f.1 in
    let ys = map an_actor xs in
    let l = line_of.Turn ys in
    let words = joint true (list_all is_word (map actor_word xs)) refl a.1 in
    let count : is_between 1 64 (length ys) ≡ true = ap (is_between 1 64) (length_map an_actor xs) ∙ f.0 in
    let right : (is_between 1 64 (length ys) && not (list_any is_no_actor ys)) ≡ true = joint (is_between 1 64 (length ys)) (not (list_any is_no_actor ys)) count (ap not (none_of is_no_actor (λ x. refl) xs)) in
    let r : Breaks_none p l = record { numbers = none_of is_broken_actor (λ x. refl) xs; names = refl; places = refl; ranges = refl; bytes = refl; jobs = refl; actors = none_of is_missing_actor (λ x. refl) xs; counts = refl; lens = not_long (m + 0) (omega (arith, short)); maps = refl; pages = refl } in
    let parts = ap turn_of_actors a.0 ∙ ap (λ b. cond b (made l) None) right in
    line_runs p (at phase.Turns (steered s (s.turns ++ xs ∷ [])) n m) (codes "schedule") (map actor_word xs) words
    (says p key.Schedule (codes "schedule" ∷ map actor_word xs) l refl c words parts (keeps_all p l r) ∙ ap (λ x. Ok (at phase.Turns (steered s (s.turns ++ x ∷ [])) n m)) (said_actors xs))

-- schedules are read
pub turns_run : (xs : List (List Actor)) (s : Script) (done : List (List Actor)) (ph : Phase) (n m : ℕ) → may_come s.version ph key.Schedule ≡ true → may_come s.version ph key.End ≡ true → length s.threads < 2 ^ 64 → s.sizes.engines < 2 ^ 64
    → list_all (is_turn_line s) xs ≡ true → m ≤ 67108864 → Behind (at ph (steered s done) n m) (flat_map turn_line xs) (steered s (done ++ xs))
turns_run [] s done ph n m c d t e h short = record {
  ph = ph;
  n = n;
  m = m;
  schedule = c;
  last = d;
  short = short;
  runs = subst (λ (x : List (List Actor)). Runs (at ph (steered s done) n m) [] (at ph (steered s x) n m)) (sym (append-nil done)) (runs_none _);
}
turns_run (x ∷ xs) s done ph n m c d t e h short =
    let f = both (is_turn_line s x) (list_all (is_turn_line s) xs) h in
    let p = at ph (steered s done) n m in
    let next = at phase.Turns (steered s (done ++ x ∷ [])) n m in
    let first = turn_runs ph (steered s done) n m x c t e f.0 short in
    let z = turns_run xs s (done ++ x ∷ []) phase.Turns n m refl refl t e f.1 short in
    let q : List (List Actor) → Progress = λ y. at z.ph (steered s y) z.n z.m in
    record {
      ph = z.ph;
      n = z.n;
      m = z.m;
      schedule = z.schedule;
      last = z.last;
      short = z.short;
      runs = subst (λ (w : Text). Runs p w (q (done ++ x ∷ xs))) (sym (flat_map-cons turn_line x xs))
          (subst (λ (y : List (List Actor)). Runs p (turn_line x ++ flat_map turn_line xs) (q y)) (append_assoc done (x ∷ []) xs)
          (runs_both p next (q ((done ++ x ∷ []) ++ xs)) (turn_line x) (flat_map turn_line xs) first z.runs));
    }

-- ---- the last line

-- the last line is read
pub end_runs : (ph : Phase) (s : Script) (n m : ℕ) → may_come s.version ph key.End ≡ true → m ≤ 67108864 → Runs (at ph s n m) (line (codes "end" ∷ [])) (at phase.After s n m)
end_runs ph s n m c short =
    let p = at ph s n m in
    let r : Breaks_none p line_of.End = record { numbers = refl; names = refl; places = refl; ranges = refl; bytes = refl; jobs = refl; actors = refl; counts = refl; lens = not_long (m + 0) (omega (arith, short)); maps = refl; pages = refl } in
    line_runs p (with_line p line_of.End) (codes "end") [] refl (says p key.End (codes "end" ∷ []) line_of.End refl c refl refl (keeps_all p line_of.End r))
