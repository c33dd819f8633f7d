-- What the answer of a thread tells of its access, and of the state after it.
use Rattle.std.proofs.Common.{◌≡◌, ℕ, ◌+◌, ◌*◌, ◌/◌, ◌<◌, ◌≤◌, ◌^◌, true, false, List, [], ◌∷◌, ◌++◌, Option, Some, None, IsTrue, ap, refl, sym, ◌∙◌, subst, length, if◌then◌else◌, arith}
use Rattle.std.specs.Prelude.{◌&&◌, IsSome, is_some, nat_le, nat_lt, option_map, unwrap_or}
use Rattle.std.specs.List.{list_all}
use Rattle.std.proofs.lemmas.Bool.{and_from, and_parts, leb-true, lt-ltb, ltb-true}
use Rattle.ttm_base.specs.declared.Actor.{Actor}
use Rattle.ttm_base.specs.declared.Actor.TheVariants as actor
use Rattle.ttm_base.specs.declared.BufId.{BufId}
use Rattle.journal_model.specs.declared.script.Script.{Script}
use Rattle.journal_model.specs.declared.script.Command.{Command}
use Rattle.journal_model.specs.declared.script.Command.TheVariants as command
use Rattle.journal_model.specs.declared.state.Buffer.{Buffer}
use Rattle.journal_model.specs.declared.state.Course.{Course}
use Rattle.journal_model.specs.declared.state.State.{State}
use Rattle.journal_model.specs.declared.entry.Entry.{Entry}
use Rattle.journal_model.specs.declared.entry.Kind.{Kind}
use Rattle.journal_model.specs.declared.entry.Kind.TheVariants as kind
use Rattle.journal_model.specs.declared.entry.Shown.{Shown}
use Rattle.journal_model.specs.rules.Apply.{applied}
use Rattle.journal_model.specs.rules.Commands.{decl}
use Rattle.journal_model.specs.scripts.CommandRules.{is_between, is_byte, is_command, is_declared, is_range_of}
use Rattle.journal_model.specs.statements.Complete.{is_answer, is_by_thread}
use Rattle.journal_model.specs.rules.Legal.{IsLegal, IsLegalNext, first_world, state_of, stores_of, world_of}
use Rattle.journal_model.specs.marks.Mapped.{Access, access_of, meets_page, peek_or_poke}
use Rattle.journal_model.specs.rules.Next.{next}
use Rattle.journal_model.specs.scripts.ScriptRules.{is_script}
use Rattle.journal_model.specs.rules.State.{buffer, course, course_of, live_in, new_buffer, new_course}
use Rattle.journal_model.specs.rules.Stores.{Stores, showing}
use Rattle.laws.proofs.law_state.JournalCourses.{one_more_if, own_answered, thread_is_there}
use Rattle.laws.proofs.law_state.Rules.{Rules, declared_pages, rules_of}
use Rattle.laws.proofs.law_state.Shown.{LegalStep, legal_step}
use Rattle.laws.proofs.law_transparent.Law.{world_push}
use Rattle.law_legal.proofs.law_maps.Stays.{Settled}
use Rattle.map_access.specs.Accesses.{access_in, mapped_from, paged}
use Rattle.map_follow.specs.declared.found.Found.{Found}
use Rattle.map_follow.specs.Follows.{answerer}
use Rattle.map_follow.specs.Founds.{found_by, found_in}
use Rattle.map_follow.proofs.Law.{answered_by, legal_parts}
use Rattle.map_follow.proofs.Stands.{access_told, settled_for}

-- ---- the range of a command

pub record IsInside (script : Script) (a : Access) : Type 0 where
  pub declared : a.b.0 < length script.buffers
  pub some : 1 ≤ a.len
  pub ends : a.off + a.len ≤ 4096 * (decl script a.b).pages

range_inside : (script : Script) (b : BufId) (off len : ℕ) → is_range_of script b off len ≡ true → IsInside script (record { b = b; off = off; len = len })
range_inside script b off len h =
    let p = and_parts (is_declared script b && nat_le off 16777216 && is_between 1 16777216 len) (nat_le (off + len) (4096 * (decl script b).pages)) h in
    let q = and_parts (is_declared script b && nat_le off 16777216) (is_between 1 16777216 len) p.0 in
    let r = and_parts (is_declared script b) (nat_le off 16777216) q.0 in
    record {
      declared = ltb-true b.0 (length script.buffers) r.0;
      some = leb-true 1 len (and_parts (nat_le 1 len) (nat_le len 16777216) q.1).0;
      ends = leb-true (off + len) (4096 * (decl script b).pages) p.1;
    }

command_inside : (script : Script) (cmd : Command) (a : Access) → is_command script cmd ≡ true → access_of cmd ≡ Some a → IsInside script a
command_inside script (command.Read b off len) a h e =
    let p = and_parts (is_range_of script b off len) (nat_le len 256) h in
    let it : (record { b = b; off = off; len = len }) ≡ a = cc in
    subst (IsInside script) it (range_inside script b off len p.0)
command_inside script (command.Write b off bytes) a h e =
    let p = and_parts (is_range_of script b off (length bytes) && nat_le (length bytes) 256) (list_all is_byte bytes) h in
    let q = and_parts (is_range_of script b off (length bytes)) (nat_le (length bytes) 256) p.0 in
    let it : (record { b = b; off = off; len = length bytes }) ≡ a = cc in
    subst (IsInside script) it (range_inside script b off (length bytes) q.0)
command_inside script cmd a h e = cc

access_inside : (script : Script) → Rules script → (t n : ℕ) (a : Access) → peek_or_poke script t n ≡ Some a → IsInside script a
access_inside script rules t n a h = let told = access_told script rules t n a h in command_inside script told.cmd a told.rule told.access

-- its first page
first_met : (a : Access) → 1 ≤ a.len → meets_page a (a.off / 4096) ≡ true
first_met a some =
    and_from (nat_lt a.off (4096 * (a.off / 4096 + 1))) (nat_lt (4096 * (a.off / 4096)) (a.off + a.len))
    (lt-ltb a.off (4096 * (a.off / 4096 + 1)) (omega arith)) (lt-ltb (4096 * (a.off / 4096)) (a.off + a.len) (omega (arith, some)))

-- ---- what is found

pub record IsFoundBy (script : Script) (t n : ℕ) (e : Entry) (found : Found) : Type 0 where
  pub access : Access
  pub at : access_in script t n e ≡ Some access
  pub is : found ≡ record { thread = t; pages = paged access }

found_from : (script : Script) (t n : ℕ) (e : Entry) (found : Found) (o : Option Access) → access_in script t n e ≡ o → found_in script t n o ≡ Some found → IsFoundBy script t n e found
found_from script t n e found None at h = cc
found_from script t n e found (Some a) at h = by (mapped_from script t n a.b) h
  where
    by : (from : Option ℕ) → option_map (λ (from : ℕ). record { thread = t; pages = paged a }) from ≡ Some found → IsFoundBy script t n e found
    by None g = cc
    by (Some from) g = let it : record { thread = t; pages = paged a } ≡ found = cc in record { access = a; at = at; is = sym it }

-- ---- the state after

shown_answer : (script : Script) (stores : Stores) (s : State) (who : Actor) (k : Kind) → is_answer (showing script stores s who k) ≡ is_answer k
shown_answer script stores s who (kind.Packet n j piece) = refl
shown_answer script stores s who (kind.Result r) = refl
shown_answer script stores s who k = refl

result_of : (script : Script) (stores : Stores) (s : State) (who : Actor) (k : Kind) (r : Shown) → kind.Result r ≡ showing script stores s who k → (q : Shown) × (k ≡ kind.Result q)
result_of script stores s who (kind.Result q) r g = (q, refl)
result_of script stores s who (kind.Packet n j piece) r g = cc
result_of script stores s who k r g = cc

accessed_result : (script : Script) (t n : ℕ) (e : Entry) (a : Access) → access_in script t n e ≡ Some a → (r : Shown) × (e.kind ≡ kind.Result r)
accessed_result script t n e a h = by e.kind refl h
  where
    by : (k : Kind) → e.kind ≡ k → elim k as (λ _. Option Access) [ kind.Result r ↦ if is_by_thread t e.who then peek_or_poke script t n else None | _ ↦ None ] ≡ Some a → (r : Shown) × (e.kind ≡ kind.Result r)
    by (kind.Result r) is g = (r, is)
    by k is g = cc

module _ (script : Script) (before : List Entry) (e : Entry) (fits : IsTrue (is_script script)) (all : IsLegal script (before ++ e ∷ [])) (t : ℕ) (mine : answerer e ≡ Some t) where
  abbrev s : State
  s = state_of script before

  abbrev n : ℕ
  n = (course s t).answered

  abbrev behind : State
  behind = state_of script (before ++ e ∷ [])

  abbrev next_is : IsLegalNext script (world_of script before) e
  next_is = (legal_parts script (first_world script) before e all).1

  abbrev step : LegalStep script (world_of script before) e
  step = legal_step script (world_of script before) e next_is

  behind_is : behind ≡ applied script s e.who step.kind
  behind_is = ap (λ w. w.state) (world_push script (first_world script) before e) ∙ step.state

  pub answered_behind : (course behind t).answered ≡ n + 1
  answered_behind =
      let it = answered_by e t mine in
      let here = thread_is_there script s t step.kind (ap (λ who. next script s who) (sym it.who) ∙ step.step) in
      let answer : is_answer step.kind ≡ true =
      sym (shown_answer script (stores_of script before) s e.who step.kind) ∙ sym (ap (λ (f : Entry). is_answer f.kind) step.entry) ∙ it.answer in
      ap (λ (z : State). (course z t).answered) behind_is
      ∙ ap (λ who. (course (applied script s who step.kind) t).answered) it.who
      ∙ own_answered script s t step.kind here
      ∙ ap (λ q. one_more_if q n) answer

  -- so the thread is there
  pub course_behind : IsSome (course_of behind t)
  course_behind = by (course_of behind t) refl
    where
      by : (o : Option Course) → course_of behind t ≡ o → is_some o ≡ true
      by (Some c) h = refl
      by None h =
          let none : (course behind t).answered ≡ 0 = ap (λ (o : Option Course). (unwrap_or o (new_course 0)).answered) h in
          let one = answered_behind in
          absurd (omega (arith, none, one))

  module _ (found : Found) (h : found_by script n e ≡ Some found) where
    pub found_is : IsFoundBy script t n e found
    found_is =
        found_from script t n e found (access_in script t n e) refl
        (ap (λ w. elim w as (λ _. Option Found) [ actor.Thread u ↦ found_in script u n (access_in script u n e) | actor.Engine c ↦ None | actor.Reaper ↦ None ]) (sym (answered_by e t mine).who) ∙ h)

    abbrev a : Access
    a = found_is.access

    pub same_buffer : found.pages.b ≡ a.b
    same_buffer = ap (λ (f : Found). f.pages.b) found_is.is

    told : IsInside script a
    told = access_inside script (rules_of script fits) t n a (settled_for script before fits (legal_parts script (first_world script) before e all).0 e next_is t a found_is.at).1

    pub declared : found.pages.b.0 < length script.buffers
    declared = subst (λ (b : BufId). b.0 < length script.buffers) (sym same_buffer) told.declared

    pub few_pages : found.pages.end < 2 ^ 32
    few_pages =
        let few = (declared_pages script (rules_of script fits) a.b told.declared).few in
        let ends = told.ends in
        let is : found.pages.end ≡ (a.off + a.len + 4095) / 4096 = ap (λ (f : Found). f.pages.end) found_is.is in
        let low : (a.off + a.len + 4095) / 4096 < 4294967296 = omega (arith, few, ends) in
        subst (λ x. x < 2 ^ 32) (sym is) low

    live_before : live_in s.core.buffers a.b ≡ Some (buffer s a.b)
    live_before = by (live_in s.core.buffers a.b) ((settled_for script before fits (legal_parts script (first_world script) before e all).0 e next_is t a found_is.at).0 (a.off / 4096) (first_met a told.some))
      where
        no_frame : Settled (new_buffer 0) (a.off / 4096) → ⊥
        no_frame g = let z : false ≡ true = g refl in cc

        by : (o : Option Buffer) → Settled (unwrap_or o (new_buffer 0)) (a.off / 4096) → o ≡ Some (unwrap_or o (new_buffer 0))
        by (Some x) g = refl
        by None g = absurd (no_frame g)

    same_buffers : behind.core.buffers ≡ s.core.buffers
    same_buffers =
        let r = accessed_result script t n e a found_is.at in
        let q = result_of script (stores_of script before) s e.who step.kind r.0 (sym r.1 ∙ ap (λ (f : Entry). f.kind) step.entry) in
        ap (λ (z : State). z.core.buffers) behind_is ∙ ap (λ k. (applied script s e.who k).core.buffers) q.1

    pub live_behind : live_in behind.core.buffers found.pages.b ≡ Some (buffer s found.pages.b)
    live_behind =
        ap (λ bs. live_in bs found.pages.b) same_buffers
        ∙ subst (λ b. live_in s.core.buffers b ≡ Some (buffer s b)) (sym same_buffer) live_before
