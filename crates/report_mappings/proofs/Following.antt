-- Numbers of pages follow a journal: a page has an entry where the last access that met it came through the mapping.
use Rattle.std.proofs.Common.{◌≡◌, ℕ, zero, suc, ◌+◌, ◌≤◌, Bool, true, false, cond, List, [], ◌∷◌, ◌++◌, take, drop, length, Option, Some, None, ap, refl, sym, ◌∙◌, subst, ⊎_elim, append_assoc, append-nil, arith}
use Rattle.std.specs.Prelude.{◌==◌, ◌&&◌, filter, fold, is_none, map, nat_le, nat_lt, not, option_map, slice_get, if◌then◌else◌}
use Rattle.std.proofs.lemmas.Bool.{and_parts, cases_lt, eq-eqb, eqb-true, le-leb, lt-leb, leb-true, not-true}
use Rattle.std.proofs.lemmas.List.{drop_all}
use Rattle.std.proofs.lemmas.List.Sums.{fold-append}
use Rattle.ttm_base.specs.declared.Actor.{Actor}
use Rattle.ttm_base.specs.Pages.{Page}
use Rattle.journal_model.specs.declared.script.Script.{Script}
use Rattle.journal_model.specs.declared.entry.Entry.{Entry}
use Rattle.journal_model.specs.declared.entry.Kind.{Kind}
use Rattle.journal_model.specs.declared.entry.Kind.TheVariants as kind
use Rattle.journal_model.specs.declared.state.State.{State}
use Rattle.journal_model.specs.rules.State.{buffer, course, same_buffer}
use Rattle.journal_model.specs.rules.Places.{page_at}
use Rattle.journal_model.specs.scripts.Words.{Text}
use Rattle.journal_model.specs.statements.Complete.{answers_of, is_answer, is_by_thread}
use Rattle.journal_model.specs.rules.Legal.{World, Made, IsLegal, IsLegalFrom, first_world, made_along, made_of, state_of, world_after, world_along}
use Rattle.journal_model.specs.marks.Mapped.{Access, Mapping, answered_before, count_answers, entry_after, faulted, has_ended, is_through, mapped_entry, mapping_at, mappings, meets_page, pages_of_access, peek_or_poke}
use Rattle.journal_model.specs.reports.ReportText.{fault_lines, faults_line, thread_faults}
use Rattle.laws.proofs.law_state.Counted.{counted_law}
use Rattle.report_mappings.specs.Faults.{access_in, faults_in, faults_text, is_fault, left_by, mapped_from, paged, seen_after, seen_at}
use Rattle.map_access.proofs.Accesses.{drop_at, found_does}
use Rattle.map_access.proofs.Counts.{count_next}
use Rattle.map_access.proofs.Pages.{meets_is, pages_are}

-- the entry of a page, of a mapping that hasn't ended
abbrev pub entry_of : Script → Mapping → ℕ → List Made → Option Page
entry_of script m i made = fold (λ old e. entry_after script m i e e.entry.kind old) None made

-- what holds of the numbers after a journal
pub record Follows (script : Script) (thread : ℕ) (made : List Made) (n : ℕ) (seen : List (List ℕ)) : Type 0 where
  pub counted : count_answers thread made ≡ n
  pub low : (c i : ℕ) → seen_at seen c i ≤ n
  pub entries : (m : Mapping) (i : ℕ) → m.thread ≡ thread → has_ended m n ≡ false → is_none (entry_of script m i made) ≡ nat_le (seen_at seen m.b.0 i) m.from

-- ---- one page after one entry

-- an access through the mapping, or of another page or buffer, or through an earlier mapping
through : (t u w : Bool) (old : Option Page) (pg : Page) (s n from : ℕ) → u ≡ nat_le from n → s ≤ n → is_none old ≡ nat_le s from
    → is_none (if t && u && w then Some pg else old) ≡ nat_le (if t && w then n + 1 else s) from
through true true true old pg s n from e low h = sym (lt-leb (n + 1) from (let le = leb-true from n (sym e) in omega (arith, le)))
through true false true old pg s n from e low h =
    ⊎_elim
    (λ less. h ∙ le-leb s from (omega (arith, less, low)) ∙ sym (le-leb (n + 1) from (omega (arith, less))))
    (λ more. let yes : true ≡ false = sym (le-leb from n more) ∙ sym e in cc)
    (cases_lt n from)
through true u false old pg s n from e low h = last u
  where
    last : (u : Bool) → is_none (if true && u && false then Some pg else old) ≡ nat_le s from
    last true = h
    last false = h
through false u w old pg s n from e low h = h

by_access : (o : Option Access) (old : Option Page) (pg : Page) (s n : ℕ) (k : Kind) (m : Mapping) (i : ℕ) → left_by k m.b.0 i s ≡ s
    → has_ended m n ≡ false → s ≤ n → is_none old ≡ nat_le s m.from →
    is_none (elim o as (λ _. Option Page) [ None ↦ old | Some a ↦ if is_through m m.thread n a && meets_page a i then Some pg else old ])
    ≡ nat_le (seen_after (option_map paged o) n k m.b.0 i s) m.from
by_access None old pg s n k m i stays on low h = h ∙ ap (λ x. nat_le x m.from) (sym stays)
by_access (Some a) old pg s n k m i stays on low h =
    let t = same_buffer m.b a.b in
    let u = nat_le m.from n in
    let w = meets_page a i in
    ap (λ (b : Bool). is_none (if (b && t && u && not (has_ended m n)) && w then Some pg else old)) (eq-eqb m.thread m.thread refl)
    ∙ ap (λ (b : Bool). is_none (if (true && t && u && not b) && w then Some pg else old)) on
    ∙ ap (λ (b : Bool). is_none (if b then Some pg else old)) (regroup t u w)
    ∙ through t u w old pg s n m.from refl low h
    ∙ ap (λ (b : Bool). nat_le (if t && b then n + 1 else s) m.from) (meets_is a i)
  where
    regroup : (t u w : Bool) → ((true && t && u && not false) && w) ≡ (t && u && w)
    regroup true true w = refl
    regroup true false w = refl
    regroup false u w = refl

gone : (t : Bool) (old : Option Page) (s from : ℕ) → is_none old ≡ nat_le s from → is_none (if t then None else old) ≡ nat_le (if t then 0 else s) from
gone true old s from h = sym (le-leb 0 from (omega arith))
gone false old s from h = h

page_gone : (p t : Bool) (old : Option Page) (s from : ℕ) → is_none old ≡ nat_le s from
    → is_none (if p then (if t then None else old) else old) ≡ nat_le (if t && p then 0 else s) from
page_gone true true old s from h = sym (le-leb 0 from (omega arith))
page_gone true false old s from h = h
page_gone false true old s from h = h
page_gone false false old s from h = h

-- an entry as it is made
abbrev made_as : State → Actor → Kind → Made
made_as before who k = record { before = before; entry = record { who = who; kind = k } }

one_page : (script : Script) (before : State) (who : Actor) (k : Kind) (m : Mapping) (i : ℕ) (old : Option Page) (s : ℕ) →
    has_ended m (course before m.thread).answered ≡ false → s ≤ (course before m.thread).answered → is_none old ≡ nat_le s m.from →
    is_none (entry_after script m i (made_as before who k) k old)
    ≡ nat_le (seen_after (option_map paged (access_in script m.thread (course before m.thread).answered (record { who = who; kind = k }))) (course before m.thread).answered k m.b.0 i s) m.from
one_page script before who (kind.Result r) m i old s on low h =
    by_access (if is_by_thread m.thread who then peek_or_poke script m.thread (course before m.thread).answered else None) old (page_at (buffer before m.b) i) s
    (course before m.thread).answered (kind.Result r) m i refl on low h
one_page script before who (kind.Free b g) m i old s on low h = gone (same_buffer m.b b) old s m.from h
one_page script before who (kind.Move b mem n l) m i old s on low h = gone (same_buffer m.b b) old s m.from h
one_page script before who (kind.Bind b) m i old s on low h = gone (same_buffer m.b b) old s m.from h
one_page script before who (kind.Unbind b) m i old s on low h = gone (same_buffer m.b b) old s m.from h
one_page script before who (kind.SwapOut b page slot) m i old s on low h = page_gone (page == i) (same_buffer m.b b) old s m.from h
one_page script before who _ m i old s on low h = h

-- ---- all pages after one entry

pub one_or_none : (b : Bool) → cond b 1 0 ≤ 1
one_or_none true = omega arith
one_or_none false = omega arith

left_low : (k : Kind) (c i s n : ℕ) → s ≤ n → left_by k c i s ≤ n
left_low (kind.Free b g) c i s n h = either (c == b.0)
  where
    either : (t : Bool) → (if t then 0 else s) ≤ n
    either true = omega arith
    either false = h
left_low (kind.Move b mem x l) c i s n h = either (c == b.0)
  where
    either : (t : Bool) → (if t then 0 else s) ≤ n
    either true = omega arith
    either false = h
left_low (kind.Bind b) c i s n h = either (c == b.0)
  where
    either : (t : Bool) → (if t then 0 else s) ≤ n
    either true = omega arith
    either false = h
left_low (kind.Unbind b) c i s n h = either (c == b.0)
  where
    either : (t : Bool) → (if t then 0 else s) ≤ n
    either true = omega arith
    either false = h
left_low (kind.SwapOut b page slot) c i s n h = either ((c == b.0) && (page == i))
  where
    either : (t : Bool) → (if t then 0 else s) ≤ n
    either true = omega arith
    either false = h
left_low _ c i s n h = h

-- an access is of an answer
of_answer : (script : Script) (thread n : ℕ) (who : Actor) (k : Kind) (a : Access) → access_in script thread n (record { who = who; kind = k }) ≡ Some a → (is_by_thread thread who && is_answer k) ≡ true
of_answer script thread n who (kind.Result r) a h = by_test (is_by_thread thread who) h
  where
    by_test : (b : Bool) → (if b then peek_or_poke script thread n else None) ≡ Some a → (b && true) ≡ true
    by_test true e = refl
    by_test false e = cc
of_answer script thread n who _ a h = cc

after_low : (o : Option Access) (k : Kind) (answer : Bool) (c i s n : ℕ) → ((a : Access) → o ≡ Some a → answer ≡ true) → s ≤ n
    → seen_after (option_map paged o) n k c i s ≤ n + cond answer 1 0
after_low None k answer c i s n of low = let e = left_low k c i s n low in omega (arith, e)
after_low (Some a) k answer c i s n of low =
    let one : 1 ≤ cond answer 1 0 = subst (λ (b : Bool). 1 ≤ cond b 1 0) (sym (of a refl)) (omega arith) in
    either ((c == a.b.0) && (nat_le (paged a).first i && nat_lt i (paged a).end)) one
  where
    either : (t : Bool) → 1 ≤ cond answer 1 0 → (if t then n + 1 else s) ≤ n + cond answer 1 0
    either true one = omega (arith, one)
    either false one = omega (arith, one, low)

ended_before : (o : Option ℕ) (n k : ℕ) → n ≤ k → elim o as (λ _. Bool) [ None ↦ false | Some e ↦ nat_le e k ] ≡ false → elim o as (λ _. Bool) [ None ↦ false | Some e ↦ nat_le e n ] ≡ false
ended_before None n k le h = refl
ended_before (Some e) n k le h =
    ⊎_elim
    (λ less. lt-leb e n less)
    (λ more. let yes : true ≡ false = sym (le-leb e k (omega (arith, more, le))) ∙ h in cc)
    (cases_lt n e)

pub follows_next : (script : Script) (thread : ℕ) (made : List Made) (e : Made) (n after : ℕ) (seen new : List (List ℕ)) → Follows script thread made n seen
    → answered_before e thread ≡ n → after ≡ n + cond (is_by_thread thread e.entry.who && is_answer e.entry.kind) 1 0
    → ((c i : ℕ) → seen_at new c i ≡ seen_after (option_map paged (access_in script thread n e.entry)) n e.entry.kind c i (seen_at seen c i))
    → Follows script thread (made ++ e ∷ []) after new
follows_next script thread made e n after seen new f at more changed = record {
  counted =
      count_next thread made e
      ∙ ap (λ k. k + cond (is_by_thread thread e.entry.who && is_answer e.entry.kind) 1 0) f.counted ∙ sym more;
  low = λ c i.
      let one = after_low (access_in script thread n e.entry) e.entry.kind (is_by_thread thread e.entry.who && is_answer e.entry.kind) c i (seen_at seen c i) n
      (of_answer script thread n e.entry.who e.entry.kind) (f.low c i) in
      let here = changed c i in
      omega (arith, one, here, more);
  entries = λ m i own on.
      let few = one_or_none (is_by_thread thread e.entry.who && is_answer e.entry.kind) in
      let on_before : has_ended m n ≡ false = ended_before m.upto n after (omega (arith, more, few)) on in
      ap is_none (fold-append (λ old d. entry_after script m i d d.entry.kind old) None made (e ∷ []))
      ∙ moved m i own on_before
      ∙ ap (λ s. nat_le s m.from) (sym (changed m.b.0 i));
}
  where
    Goal : Mapping → ℕ → ℕ → ℕ → Type 0
    Goal m i t k = is_none (entry_after script m i e e.entry.kind (entry_of script m i made)) ≡ nat_le (seen_after (option_map paged (access_in script t k e.entry)) k e.entry.kind m.b.0 i (seen_at seen m.b.0 i)) m.from

    moved : (m : Mapping) (i : ℕ) → m.thread ≡ thread → has_ended m n ≡ false → Goal m i thread n
    moved m i own on =
        let here : (course e.before m.thread).answered ≡ n = ap (λ t. (course e.before t).answered) own ∙ at in
        let low : seen_at seen m.b.0 i ≤ (course e.before m.thread).answered = subst (λ k. seen_at seen m.b.0 i ≤ k) (sym here) (f.low m.b.0 i) in
        let goes_on : has_ended m (course e.before m.thread).answered ≡ false = subst (λ k. has_ended m k ≡ false) (sym here) on in
        subst (λ t. Goal m i t n) own
        (subst (λ k. Goal m i m.thread k) here
        (one_page script e.before e.entry.who e.entry.kind m i (entry_of script m i made) (seen_at seen m.b.0 i) goes_on low (f.entries m i own on)))

-- at the start
pub follows_first : (script : Script) (thread : ℕ) → Follows script thread [] 0 []
follows_first script thread = record {
  counted = refl;
  low = λ c i. omega arith;
  entries = λ m i own on. sym (le-leb 0 m.from (omega arith));
}

-- ---- the faults of an entry

all_pass : {X : Type 0} (xs : List X) → xs ≡ filter (λ x. true) xs
all_pass [] = refl
all_pass (x ∷ xs) = ap (λ ys. x ∷ ys) (all_pass xs)

same_pass : (p q : ℕ → Bool) (xs : List ℕ) → ((i : ℕ) → p i ≡ q i) → filter p xs ≡ filter q xs
same_pass p q [] h = refl
same_pass p q (x ∷ xs) h = ap (λ (b : Bool). cond b (x ∷ filter p xs) (filter p xs)) (h x) ∙ ap (λ ys. cond (q x) (x ∷ ys) ys) (same_pass p q xs h)

module _ (script : Script) (thread : ℕ) (made : List Made) (n : ℕ) (seen : List (List ℕ)) (f : Follows script thread made n seen) where
  page_faults : (m : Mapping) (a : Access) (i : ℕ) → is_through m thread n a ≡ true → is_none (mapped_entry script made m i) ≡ nat_le (seen_at seen a.b.0 i) m.from
  page_faults m a i h =
      let p = and_parts ((m.thread == thread) && same_buffer m.b a.b && nat_le m.from n) (not (has_ended m n)) h in
      let q = and_parts ((m.thread == thread) && same_buffer m.b a.b) (nat_le m.from n) p.0 in
      let r = and_parts (m.thread == thread) (same_buffer m.b a.b) q.0 in
      let own : m.thread ≡ thread = eqb-true m.thread thread r.0 in
      let same : m.b.0 ≡ a.b.0 = eqb-true m.b.0 a.b.0 r.1 in
      let on : has_ended m n ≡ false = not-true (has_ended m n) p.1 in
      let at : count_answers m.thread made ≡ n = ap (λ t. count_answers t made) own ∙ f.counted in
      ap (λ k. is_none (if has_ended m k then None else entry_of script m i made)) at
      ∙ ap (λ (b : Bool). is_none (if b then None else entry_of script m i made)) on
      ∙ f.entries m i own on
      ∙ ap (λ b. nat_le (seen_at seen b i) m.from) same

  by_mapping : (o : Option Mapping) (a : Access) → ((m : Mapping) → o ≡ Some m → is_through m thread n a ≡ true)
      → elim o as (λ _. List ℕ) [ None ↦ pages_of_access a | Some m ↦ filter (λ i. is_none (mapped_entry script made m i)) (pages_of_access a) ]
      ≡ filter (λ i. is_fault (option_map (λ m. m.from) o) (seen_at seen a.b.0 i)) (pages_of_access a)
  by_mapping None a h = all_pass (pages_of_access a)
  by_mapping (Some m) a h = same_pass (λ i. is_none (mapped_entry script made m i)) (λ i. nat_le (seen_at seen a.b.0 i) m.from) (pages_of_access a) (λ i. page_faults m a i (h m refl))

  faults_are : (a : Access) → faulted script made thread n a ≡ faults_in seen (mapped_from script thread n a.b) (paged a)
  faults_are a =
      by_mapping (mapping_at script thread n a) a (λ m. found_does (λ m. is_through m thread n a) (mappings script) m)
      ∙ ap (filter (λ i. is_fault (mapped_from script thread n a.b) (seen_at seen a.b.0 i))) (pages_are a)

  access_text : (o : Option Access) → elim o as (λ _. Text) [ None ↦ [] | Some a ↦ faults_line thread n (faulted script made thread n a) ]
      ≡ faults_text script thread n seen (option_map paged o)
  access_text None = refl
  access_text (Some a) = ap (faults_line thread n) (faults_are a)

kind_text : (script : Script) (thread : ℕ) (made : List Made) (seen : List (List ℕ)) (before : State) (who : Actor) (k : Kind) → Follows script thread made (course before thread).answered seen
    → fault_lines script made thread (made_as before who k)
    ≡ faults_text script thread (course before thread).answered seen (option_map paged (access_in script thread (course before thread).answered (record { who = who; kind = k })))
kind_text script thread made seen before who (kind.Result r) f =
    access_text script thread made (course before thread).answered seen f (if is_by_thread thread who then peek_or_poke script thread (course before thread).answered else None)
kind_text script thread made seen before who _ f = refl

entry_text : (script : Script) (thread : ℕ) (made : List Made) (e : Made) (n : ℕ) (seen : List (List ℕ)) → Follows script thread made n seen → answered_before e thread ≡ n
    → fault_lines script made thread e ≡ faults_text script thread n seen (option_map paged (access_in script thread n e.entry))
entry_text script thread made e n seen f at =
    subst (λ k. fault_lines script made thread e ≡ faults_text script thread k seen (option_map paged (access_in script thread k e.entry))) at
    (kind_text script thread made seen e.before e.entry.who e.entry.kind (subst (λ k. Follows script thread made k seen) (sym at) f))

-- ---- along the journal

made_at_from : (script : Script) (w : World) (es : List Entry) (k : ℕ) (e : Entry) → slice_get es k ≡ Some e
    → slice_get (made_along script w es) k ≡ Some (record { before = (world_along script w (take k es)).state; entry = e })
made_at_from script w [] k e h = cc
made_at_from script w (x ∷ es) zero e h = let it : x ≡ e = cc in ap (λ y. Some (record { before = w.state; entry = y })) it
made_at_from script w (x ∷ es) (suc k) e h = made_at_from script (world_after script w x) es k e h

legal_front : (script : Script) (w : World) (es : List Entry) (k : ℕ) → IsLegalFrom script w es → IsLegalFrom script w (take k es)
legal_front script w [] zero h = tt
legal_front script w [] (suc k) h = tt
legal_front script w (x ∷ es) zero h = tt
legal_front script w (x ∷ es) (suc k) h = (h.0, legal_front script (world_after script w x) es k h.1)

entries_front : (script : Script) (w : World) (es : List Entry) (k : ℕ) → map (λ m. m.entry) (take k (made_along script w es)) ≡ take k es
entries_front script w [] zero = refl
entries_front script w [] (suc k) = refl
entries_front script w (x ∷ es) zero = refl
entries_front script w (x ∷ es) (suc k) = ap (λ ys. x ∷ ys) (entries_front script (world_after script w x) es k)

length_made : (script : Script) (w : World) (es : List Entry) → length (made_along script w es) ≡ length es
length_made script w [] = refl
length_made script w (x ∷ es) = ap suc (length_made script (world_after script w x) es)

take_next : {X : Type 0} (xs : List X) (k : ℕ) (x : X) → slice_get xs k ≡ Some x → take (suc k) xs ≡ take k xs ++ x ∷ []
take_next [] k x h = cc
take_next (y ∷ ys) zero x h = let it : y ≡ x = cc in ap (λ z. z ∷ []) it
take_next (y ∷ ys) (suc k) x h = ap (λ zs. y ∷ zs) (take_next ys k x h)

take_at : {X : Type 0} (xs : List X) (k : ℕ) (x : X) → slice_get xs k ≡ Some x → take (k + 1) xs ≡ take k xs ++ x ∷ []
take_at xs k x h = let next : k + 1 ≡ suc k = omega arith in ap (λ n. take n xs) next ∙ take_next xs k x h

module _ (script : Script) (thread : ℕ) (journal : List Entry) where
  -- the entries so far
  abbrev pub front : ℕ → List Made
  front k = take k (made_of script journal)

  -- the text of those from one on
  abbrev pub text_from : ℕ → Text
  text_from k = thread_faults script thread (front k) (drop k (made_of script journal))

  counted_there : (k : ℕ) (e : Entry) (n : ℕ) (seen : List (List ℕ)) → IsLegal script journal → Follows script thread (front k) n seen
      → answered_before (record { before = state_of script (take k journal); entry = e }) thread ≡ n
  counted_there k e n seen legal f =
      counted_law script (take k journal) thread (legal_front script (first_world script) journal k legal)
      ∙ ap (answers_of thread) (sym (entries_front script (first_world script) journal k)) ∙ f.counted

  pub follows_on : (k : ℕ) (e : Entry) (n after : ℕ) (seen new : List (List ℕ)) → IsLegal script journal → slice_get journal k ≡ Some e → Follows script thread (front k) n seen
      → after ≡ n + cond (is_by_thread thread e.who && is_answer e.kind) 1 0
      → ((c i : ℕ) → seen_at new c i ≡ seen_after (option_map paged (access_in script thread n e)) n e.kind c i (seen_at seen c i))
      → Follows script thread (front (k + 1)) after new
  follows_on k e n after seen new legal at f more changed =
      subst (λ (ms : List Made). Follows script thread ms after new) (sym (take_at (made_of script journal) k _ (made_at_from script (first_world script) journal k e at)))
      (follows_next script thread (front k) (record { before = state_of script (take k journal); entry = e }) n after seen new f (counted_there k e n seen legal f) more changed)

  pub text_on : (k : ℕ) (e : Entry) (n : ℕ) (seen : List (List ℕ)) (before now whole : Text) → IsLegal script journal → slice_get journal k ≡ Some e → Follows script thread (front k) n seen
      → before ++ text_from k ≡ whole → now ≡ before ++ faults_text script thread n seen (option_map paged (access_in script thread n e))
      → now ++ text_from (k + 1) ≡ whole
  text_on k e n seen before now whole legal at f told put =
      let m : Made = record { before = state_of script (take k journal); entry = e } in
      let there = made_at_from script (first_world script) journal k e at in
      let here = faults_text script thread n seen (option_map paged (access_in script thread n e)) in
      let rest = drop (k + 1) (made_of script journal) in
      ap (λ t. t ++ text_from (k + 1)) put ∙ append_assoc before here (text_from (k + 1))
      ∙ ap (λ t. before ++ (t ++ text_from (k + 1))) (sym (entry_text script thread (front k) m n seen f (counted_there k e n seen legal f)))
      ∙ ap (λ ms. before ++ (fault_lines script (front k) thread m ++ thread_faults script thread ms rest)) (take_at (made_of script journal) k m there)
      ∙ ap (λ ms. before ++ thread_faults script thread (front k) ms) (sym (drop_at (made_of script journal) k m there))
      ∙ told

  pub text_done : (k : ℕ) (before whole : Text) → length journal ≤ k → before ++ text_from k ≡ whole → before ≡ whole
  text_done k before whole all told =
      let len = length_made script (first_world script) journal in
      let none : drop k (made_of script journal) ≡ [] = drop_all k (made_of script journal) (omega (arith, len, all)) in
      sym (append-nil before) ∙ ap (λ ms. before ++ thread_faults script thread (front k) ms) (sym none) ∙ told
