-- The requests of a script are requests that an address space can answer.
use Rattle.std.proofs.Common.{◌≡◌, ℕ, zero, suc, ◌+◌, ◌<◌, ◌≤◌, Bool, true, false, cond, List, [], ◌∷◌, length, Option, Some, None, IsTrue, refl, sym, ap, ◌∙◌, subst, arith, ⊎_elim}
use Rattle.std.specs.Prelude.{◌==◌, ◌&&◌, ◌||◌, nat_le, filter, fold, map, slice_get, sum_by, unwrap_or}
use Rattle.std.specs.List.{list_all}
use Rattle.std.proofs.lemmas.Bool.{and_from, and_parts, cases_eq, eq-eqb, leb-true, or_cases}
use Rattle.std.proofs.lemmas.Bool.Decides.{nat_tests}
use Rattle.ttm_base.specs.ListWords.{count_from}
use Rattle.journal_model.specs.declared.script.Script.{Script}
use Rattle.journal_model.specs.declared.script.Decl.{Decl}
use Rattle.journal_model.specs.declared.script.Command.{Command}
use Rattle.journal_model.specs.declared.script.Mark.{Mark}
use Rattle.journal_model.specs.declared.script.MarkKind.{MarkKind}
use Rattle.journal_model.specs.declared.script.MarkKind.TheVariants as mark
use Rattle.journal_model.specs.scripts.CommandRules.{command_len, is_between, is_command, is_declared}
use Rattle.journal_model.specs.rules.Commands.{commands_of, decl, undeclared}
use Rattle.journal_model.specs.statements.Complete.{thread_numbers}
use Rattle.journal_model.specs.marks.Marks.{marks_at}
use Rattle.journal_model.specs.scripts.MarkRules.{ThreadMappings, are_in_order, are_marks, thread_mappings_after, empty_thread_mappings, has_few_lines, have_marks, is_in_thread, is_mark, is_page_range, is_way, marks_fit}
use Rattle.journal_model.specs.scripts.ScriptRules.{has_distinct_names, has_sizes, is_decl, is_script, is_turn_line}
use Rattle.report_mappings.specs.Requests.{are_in_spaces, is_in_space}

-- a number of the count passes what all pass
listed : (test : ℕ → Bool) (n start t : ℕ) → list_all test (count_from 1 n start) ≡ true → start ≤ t → t < start + n → test t ≡ true
listed test zero start t k low high = absurd (omega (arith, low, high))
listed test (suc n) start t k low high =
    let p = and_parts (test start) (list_all test (count_from 1 n (1 + start))) k in
    ⊎_elim
    (λ e. subst (λ m. test m ≡ true) e p.0)
    (λ d. listed test n (1 + start) t p.1 (grind arith) (omega (arith, high)))
    (cases_eq start t)

-- ---- a buffer has few pages

few_pages : (version : ℕ) (ds : List Decl) (i : ℕ) → list_all (is_decl version) ds ≡ true → (unwrap_or (slice_get ds i) undeclared).pages ≤ 4096
few_pages version [] i h = omega arith
few_pages version (d ∷ ds) zero h = grind (arith, nat_tests)
few_pages version (d ∷ ds) (suc i) h = few_pages version ds i (and_parts (is_decl version d) (list_all (is_decl version) ds) h).1

module _ (script : Script) (decls : list_all (is_decl script.version) script.buffers ≡ true) where
  -- ---- the marks above a command

  vmap_fits : (va n off pages : ℕ) (declared : Bool) → pages ≤ 4096
      → (is_page_range va n && declared && nat_le off 4095 && nat_le (off + n) pages) ≡ true → (nat_le 1 n && nat_le (va + n) 1048576 && nat_le (off + n) 4096) ≡ true
  vmap_fits va n off pages declared few h = grind (arith, nat_tests)

  vunmap_fits : (va n : ℕ) → is_page_range va n ≡ true → (nat_le 1 n && nat_le (va + n) 1048576) ≡ true
  vunmap_fits va n h = grind (arith, nat_tests)

  mark_fits : (d : ThreadMappings) (k : MarkKind) → is_mark script d k ≡ true → is_in_space k ≡ true
  mark_fits d (mark.Vmap va n b off) h = vmap_fits va n off (decl script b).pages (is_declared script b) (few_pages script.version script.buffers b.0 decls) h
  mark_fits d (mark.Vunmap va n) h = vunmap_fits va n h
  mark_fits d (mark.Map b) h = refl
  mark_fits d (mark.Unmap b) h = refl
  mark_fits d mark.Mapped h = refl
  mark_fits d (mark.Vsubmit ops) h = refl

  way_fits : (d : ThreadMappings) (k : MarkKind) (cmd : Option Command) → is_way d k cmd ≡ true → is_in_space k ≡ true
  way_fits d (mark.Vmap va n b off) cmd h = cc
  way_fits d (mark.Vunmap va n) cmd h = cc
  way_fits d (mark.Map b) cmd h = refl
  way_fits d (mark.Unmap b) cmd h = refl
  way_fits d mark.Mapped cmd h = refl
  way_fits d (mark.Vsubmit ops) cmd h = refl

  all_fit : (d : ThreadMappings) (ks : List MarkKind) (cmd : Option Command) → are_marks script d ks cmd ≡ true → list_all is_in_space ks ≡ true
  all_fit d [] cmd h = refl
  all_fit d (k ∷ []) cmd h = and_from (is_in_space k) true (⊎_elim (mark_fits d k) (way_fits d k cmd) (or_cases (is_mark script d k) (is_way d k cmd) h)) refl
  all_fit d (k ∷ j ∷ ks) cmd h =
      let p = and_parts (is_mark script d k) (are_marks script (thread_mappings_after d k) (j ∷ ks) cmd) h in
      and_from (is_in_space k) (list_all is_in_space (j ∷ ks)) (mark_fits d k p.0) (all_fit (thread_mappings_after d k) (j ∷ ks) cmd p.1)

  -- ---- those of a thread

  above_each : (t n : ℕ) (d : ThreadMappings) (cmds : List Command) (at : ℕ) → marks_fit script t n d cmds ≡ true → n ≤ at → at ≤ n + length cmds
      → list_all is_in_space (marks_at script t at) ≡ true
  above_each t n d [] at h low high =
      let e : n ≡ at = omega (arith, low, high) in
      subst (λ m. list_all is_in_space (marks_at script t m) ≡ true) e (all_fit d (marks_at script t n) None h)
  above_each t n d (cmd ∷ cmds) at h low high =
      let p = and_parts (are_marks script d (marks_at script t n) (Some cmd)) (marks_fit script t (n + 1) (fold thread_mappings_after d (marks_at script t n)) cmds) h in
      ⊎_elim
      (λ e. subst (λ m. list_all is_in_space (marks_at script t m) ≡ true) e (all_fit d (marks_at script t n) (Some cmd) p.0))
      (λ ne. above_each t (n + 1) (fold thread_mappings_after d (marks_at script t n)) cmds at p.1 (grind arith) (omega (arith, high)))
      (cases_eq n at)

  -- ---- each mark

  of_kept : (a b : Bool) (m : Mark) (ms ks : List Mark) → a ≡ true → b ≡ true → ms ≡ cond b (m ∷ ks) ks → list_all is_in_space (map (λ k. k.kind) (cond a ms ks)) ≡ true → is_in_space m.kind ≡ true
  of_kept true true m ms ks ea eb e h =
      (and_parts (is_in_space m.kind) (list_all is_in_space (map (λ k. k.kind) ks)) (ap (λ (l : List Mark). list_all is_in_space (map (λ k. k.kind) l)) (sym e) ∙ h)).0
  of_kept true false m ms ks ea eb e h = cc
  of_kept false b m ms ks ea eb e h = cc

  of_rest : (a b : Bool) (p : Mark → Bool) (m : Mark) (ks : List Mark) → list_all is_in_space (map (λ k. k.kind) (filter p (cond a (m ∷ ks) ks))) ≡ true → p m ≡ b
      → list_all is_in_space (map (λ k. k.kind) (filter p ks)) ≡ true
  of_rest false b p m ks h e = h
  of_rest true true p m ks h e =
      (and_parts (is_in_space m.kind) (list_all is_in_space (map (λ k. k.kind) (filter p ks)))
      (ap (λ (c : Bool). list_all is_in_space (map (λ k. k.kind) (cond c (m ∷ filter p ks) (filter p ks)))) (sym e) ∙ h)).1
  of_rest true false p m ks h e =
      ap (λ (c : Bool). list_all is_in_space (map (λ k. k.kind) (cond c (m ∷ filter p ks) (filter p ks)))) (sym e) ∙ h

  kept_fits : (marks : List Mark) (i : ℕ) (m : Mark) → slice_get marks i ≡ Some m
      → list_all is_in_space (map (λ k. k.kind) (filter (λ k. k.after == m.after) (filter (λ k. k.thread == m.thread) marks))) ≡ true → is_in_space m.kind ≡ true
  kept_fits [] i m at h = cc
  kept_fits (x ∷ marks) (suc i) m at h =
      kept_fits marks i m at
      (of_rest (x.thread == m.thread) (x.after == m.after) (λ k. k.after == m.after) x (filter (λ k. k.thread == m.thread) marks) h refl)
  kept_fits (x ∷ marks) zero m at h =
      let it : x ≡ m = cc in
      first_fits m marks (subst (λ (y : Mark). list_all is_in_space (map (λ k. k.kind) (filter (λ k. k.after == m.after) (filter (λ k. k.thread == m.thread) (y ∷ marks)))) ≡ true) it h)
    where
      first_fits : (m : Mark) (marks : List Mark)
          → list_all is_in_space (map (λ k. k.kind) (filter (λ k. k.after == m.after) (filter (λ k. k.thread == m.thread) (m ∷ marks)))) ≡ true → is_in_space m.kind ≡ true
      first_fits m marks h =
          let rest = filter (λ k. k.thread == m.thread) marks in
          let own : (m.thread == m.thread) ≡ true = eq-eqb m.thread m.thread refl in
          let here : (m.after == m.after) ≡ true = eq-eqb m.after m.after refl in
          (and_parts (is_in_space m.kind) (list_all is_in_space (map (λ k. k.kind) (filter (λ k. k.after == m.after) rest)))
          (sym (ap (λ (c : Bool). list_all is_in_space (map (λ k. k.kind) (filter (λ k. k.after == m.after) (cond c (m ∷ rest) rest)))) own
          ∙ ap (λ (c : Bool). list_all is_in_space (map (λ k. k.kind) (cond c (m ∷ filter (λ k. k.after == m.after) rest) (filter (λ k. k.after == m.after) rest)))) here)
          ∙ h)).0

  module _ (own : list_all (is_in_thread script) script.marks ≡ true)
      (fit : list_all (λ t. marks_fit script t 0 empty_thread_mappings (commands_of script t)) (thread_numbers script) ≡ true) where
    mark_at_fits : (i : ℕ) (m : Mark) → slice_get script.marks i ≡ Some m → is_in_thread script m ≡ true → is_in_space m.kind ≡ true
    mark_at_fits i m at h =
        let p = and_parts (is_between 1 (length script.threads) m.thread) (nat_le m.after (length (commands_of script m.thread))) h in
        let q = and_parts (nat_le 1 m.thread) (nat_le m.thread (length script.threads)) p.0 in
        let low = leb-true 1 m.thread q.0 in
        let high = leb-true m.thread (length script.threads) q.1 in
        let last = leb-true m.after (length (commands_of script m.thread)) p.1 in
        kept_fits script.marks i m at
        (above_each m.thread 0 empty_thread_mappings (commands_of script m.thread) m.after
        (listed (λ t. marks_fit script t 0 empty_thread_mappings (commands_of script t)) (length script.threads) 1 m.thread fit low (omega (arith, high)))
        (omega arith) (omega (arith, last)))

    from_each : (p q : Mark → Bool) (xs : List Mark) → list_all p xs ≡ true → ((i : ℕ) (m : Mark) → slice_get xs i ≡ Some m → p m ≡ true → q m ≡ true) → list_all q xs ≡ true
    from_each p q [] h each = refl
    from_each p q (x ∷ xs) h each =
        let b = and_parts (p x) (list_all p xs) h in
        and_from (q x) (list_all q xs) (each 0 x refl b.0) (from_each p q xs b.1 (λ i. each (suc i)))

    marks_in_spaces : are_in_spaces script ≡ true
    marks_in_spaces = from_each (is_in_thread script) (λ m. is_in_space m.kind) script.marks own mark_at_fits

-- the rules but those of marks
abbrev rules : Script → Bool
rules script =
    is_between 1 2 script.version && has_sizes script
    && nat_le (length script.buffers) 256 && list_all (is_decl script.version) script.buffers && has_distinct_names script.buffers
    && nat_le (length script.threads) 16 && list_all (list_all (is_command script)) script.threads
    && nat_le (sum_by (sum_by command_len) script.threads) 67108864
    && list_all (is_turn_line script) script.turns

decls_of : (script : Script) → rules script ≡ true → list_all (is_decl script.version) script.buffers ≡ true
decls_of script h = grind arith

pub fits_spaces : (script : Script) → IsTrue (is_script script) → IsTrue (are_in_spaces script)
fits_spaces script h =
    let p = and_parts (rules script) (have_marks script) h in
    let order = ((script.version == 2) || (length script.marks == 0)) && are_in_order script.marks in
    let own = list_all (is_in_thread script) script.marks in
    let few = list_all (has_few_lines script) (thread_numbers script) in
    let fit = list_all (λ t. marks_fit script t 0 empty_thread_mappings (commands_of script t)) (thread_numbers script) in
    let q = and_parts ((order && own) && few) fit p.1 in
    let r = and_parts (order && own) few q.0 in
    marks_in_spaces script (decls_of script p.0) (and_parts order own r.0).1 q.1
