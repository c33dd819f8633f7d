-- In a script that keeps the rules of scripts, a mapping stands at each peek and poke.
use Rattle.std.proofs.Common.{◌≡◌, ℕ, zero, suc, ◌+◌, ◌-◌, ◌<◌, ◌≤◌, Bool, true, false, cond, List, [], ◌∷◌, length, Option, Some, None, refl, sym, ap, subst, ◌∙◌, inl, inr, arith}
use Rattle.std.specs.Prelude.{◌==◌, ◌&&◌, ◌||◌, not, filter, fold, map, option_and_then, option_map, slice_get, if◌then◌else◌}
use Rattle.std.specs.Option.{is_some}
use Rattle.std.specs.List.{list_all, list_any}
use Rattle.std.proofs.lemmas.Bool.{cases_lt}
use Rattle.std.proofs.lemmas.Bool.Decides.{nat_tests}
use Rattle.std.proofs.lemmas.Grind.{common_steps}
use Rattle.std.proofs.lemmas.Option.{slice_get_past}
use Rattle.ttm_base.specs.ListWords.{count_from}
use Rattle.ttm_base.specs.declared.BufId.{BufId}
use Rattle.journal_model.specs.declared.script.Script.{Script}
use Rattle.journal_model.specs.declared.script.Command.{Command}
use Rattle.journal_model.specs.declared.script.Command.TheVariants as command
use Rattle.journal_model.specs.declared.script.Mark.{Mark}
use Rattle.journal_model.specs.declared.script.MarkKind.{MarkKind}
use Rattle.journal_model.specs.declared.script.MarkKind.TheVariants as mark
use Rattle.journal_model.specs.rules.Commands.{commands_of}
use Rattle.journal_model.specs.rules.State.{has_buffer, same_buffer, without_buffer}
use Rattle.journal_model.specs.statements.Complete.{thread_numbers}
use Rattle.journal_model.specs.scripts.ScriptRules.{is_script}
use Rattle.journal_model.specs.scripts.MarkRules.{ThreadMappings, are_in_order, are_marks, empty_thread_mappings, have_marks, is_mark, is_peek_or_poke, marks_fit, thread_mappings_after}
use Rattle.journal_model.specs.marks.Marks.{is_mapped, is_mapped_at, marks_at}
use Rattle.journal_model.specs.marks.Mapped.{Access, access_of, peek_or_poke}
use Rattle.map_access.specs.Accesses.{mapped_from}
use Rattle.map_access.specs.Passing.{behind_line, behind_mark, or_from}
use Rattle.map_access.proofs.Order.{both, script_order}
use Rattle.map_access.proofs.Passed.{passed_first, passed_next, pick_same, stands_is, up_to}

-- ---- a buffer that is mapped, line by line

swapped : (b c : BufId) → same_buffer b c ≡ same_buffer c b
swapped b c = by (same_buffer b c) (same_buffer c b) refl refl
  where
    by : (s t : Bool) → same_buffer b c ≡ s → same_buffer c b ≡ t → s ≡ t
    by true true se te = refl
    by false false se te = refl
    by true false se te = let no : same_buffer c b ≡ true = grind (arith, nat_tests, se) in absurd cc
    by false true se te = let no : same_buffer c b ≡ false = grind (arith, nat_tests, se) in absurd cc

module _ (b : BufId) where
  unlisted : (c : BufId) (bs : List BufId) → has_buffer (without_buffer bs c) b ≡ (if same_buffer b c then false else has_buffer bs b)
  unlisted c [] = sym (pick_same (same_buffer b c) false)
  unlisted c (x ∷ bs) = by (same_buffer c x) (same_buffer b x) (same_buffer b c) refl refl refl (unlisted c bs)
    where
      by : (p q s : Bool) → same_buffer c x ≡ p → same_buffer b x ≡ q → same_buffer b c ≡ s
          → has_buffer (without_buffer bs c) b ≡ (if same_buffer b c then false else has_buffer bs b)
          → has_buffer (cond (not p) (x ∷ without_buffer bs c) (without_buffer bs c)) b ≡ (if s then false else (q || has_buffer bs b))
      by true q true pe qe se rest = rest ∙ ap (λ (s : Bool). if s then false else has_buffer bs b) se
      by true false false pe qe se rest = rest ∙ ap (λ (s : Bool). if s then false else has_buffer bs b) se
      by true true false pe qe se rest = let no : same_buffer b x ≡ false = grind (arith, nat_tests, pe, se) in absurd cc
      by false true true pe qe se rest = let no : same_buffer b x ≡ false = grind (arith, nat_tests, pe, se) in absurd cc
      by false false true pe qe se rest =
          ap (λ (q : Bool). q || has_buffer (without_buffer bs c) b) qe ∙ rest ∙ ap (λ (s : Bool). if s then false else has_buffer bs b) se
      by false q false pe qe se rest =
          ap (λ (q : Bool). q || has_buffer (without_buffer bs c) b) qe
          ∙ ap (λ (r : Bool). q || r) (rest ∙ ap (λ (s : Bool). if s then false else has_buffer bs b) se)

  -- the buffer is mapped where its mapping stands
  abbrev Tracks : ThreadMappings → Option ℕ → Type 0
  Tracks d old = has_buffer d.mapped b ≡ is_some old

  begun : (n : ℕ) (old : Option ℕ) → true ≡ is_some (or_from old n)
  begun n None = refl
  begun n (Some x) = refl

  line_tracks : (n : ℕ) (k : MarkKind) (d : ThreadMappings) (old : Option ℕ) → Tracks d old → Tracks (thread_mappings_after d k) (behind_line b n k old)
  line_tracks n (mark.Map c) d old h = ap (λ (s : Bool). s || has_buffer d.mapped b) (swapped b c) ∙ by (same_buffer c b)
    where
      by : (s : Bool) → (s || has_buffer d.mapped b) ≡ is_some (if s then or_from old n else old)
      by true = begun n old
      by false = h
  line_tracks n (mark.Unmap c) d old h = unlisted c d.mapped ∙ by (same_buffer b c)
    where
      by : (s : Bool) → (if s then false else has_buffer d.mapped b) ≡ is_some (if s then None else old)
      by true = refl
      by false = h
  line_tracks n mark.Mapped d old h = h
  line_tracks n (mark.Vmap va k c off) d old h = h
  line_tracks n (mark.Vunmap va k) d old h = h
  line_tracks n (mark.Vsubmit ops) d old h = h

  abbrev behind_lines : ℕ → Option ℕ → List MarkKind → Option ℕ
  behind_lines n old ks = fold (λ x k. behind_line b n k x) old ks

  lines_track : (n : ℕ) (ks : List MarkKind) (d : ThreadMappings) (old : Option ℕ) → Tracks d old → Tracks (fold thread_mappings_after d ks) (behind_lines n old ks)
  lines_track n [] d old h = h
  lines_track n (k ∷ ks) d old h = lines_track n ks (thread_mappings_after d k) (behind_line b n k old) (line_tracks n k d old h)

  -- ---- the lines above a command

  module _ (thread n : ℕ) where
    abbrev lines_in : List Mark → List MarkKind
    lines_in ms = map (λ m. m.kind) (filter (λ m. m.after == n) (filter (λ m. m.thread == thread) ms))

    lines_pass : (old : Option ℕ) (ms : List Mark) → fold (behind_mark thread n b) old ms ≡ behind_lines n old (lines_in ms)
    lines_pass old [] = refl
    lines_pass old (m ∷ ms) = by (m.thread == thread) (m.after == n) refl (λ x. lines_pass x ms)
      where
        by : (t a : Bool) → (m.after == n) ≡ a → ((x : Option ℕ) → fold (behind_mark thread n b) x ms ≡ behind_lines n x (lines_in ms))
            → fold (behind_mark thread n b) (if t && a then behind_line b n m.kind old else old) ms
            ≡ behind_lines n old (map (λ k. k.kind) (filter (λ k. k.after == n) (cond t (m ∷ filter (λ k. k.thread == thread) ms) (filter (λ k. k.thread == thread) ms))))
        by false a e rest = rest old
        by true true e rest =
            rest (behind_line b n m.kind old)
            ∙ ap (λ (c : Bool). behind_lines n old (map (λ k. k.kind) (cond c (m ∷ filter (λ k. k.after == n) (filter (λ k. k.thread == thread) ms)) (filter (λ k. k.after == n) (filter (λ k. k.thread == thread) ms))))) (sym e)
        by true false e rest =
            rest old
            ∙ ap (λ (c : Bool). behind_lines n old (map (λ k. k.kind) (cond c (m ∷ filter (λ k. k.after == n) (filter (λ k. k.thread == thread) ms)) (filter (λ k. k.after == n) (filter (λ k. k.thread == thread) ms))))) (sym e)

-- a way stands last, and the buffer of a peek or poke is mapped there
way_is : (script : Script) (ks : List MarkKind) (d : ThreadMappings) (cmd : Command) → are_marks script d ks (Some cmd) ≡ true → list_any is_mapped ks ≡ true
    → is_peek_or_poke (fold thread_mappings_after d ks) cmd ≡ true
way_is script [] d cmd h w = absurd cc
way_is script (mark.Mapped ∷ []) d cmd h w = h
way_is script (mark.Map b ∷ []) d cmd h w = absurd cc
way_is script (mark.Unmap b ∷ []) d cmd h w = absurd cc
way_is script (mark.Vmap va n b off ∷ []) d cmd h w = absurd cc
way_is script (mark.Vunmap va n ∷ []) d cmd h w = absurd cc
way_is script (mark.Vsubmit ops ∷ []) d cmd h w = absurd cc
way_is script (mark.Mapped ∷ k ∷ ks) d cmd h w = absurd cc
way_is script (mark.Map b ∷ k ∷ ks) d cmd h w =
    way_is script (k ∷ ks) (thread_mappings_after d (mark.Map b)) cmd (both (is_mark script d (mark.Map b)) (are_marks script (thread_mappings_after d (mark.Map b)) (k ∷ ks) (Some cmd)) h).1 w
way_is script (mark.Unmap b ∷ k ∷ ks) d cmd h w =
    way_is script (k ∷ ks) (thread_mappings_after d (mark.Unmap b)) cmd (both (is_mark script d (mark.Unmap b)) (are_marks script (thread_mappings_after d (mark.Unmap b)) (k ∷ ks) (Some cmd)) h).1 w
way_is script (mark.Vmap va n b off ∷ k ∷ ks) d cmd h w =
    way_is script (k ∷ ks) (thread_mappings_after d (mark.Vmap va n b off)) cmd (both (is_mark script d (mark.Vmap va n b off)) (are_marks script (thread_mappings_after d (mark.Vmap va n b off)) (k ∷ ks) (Some cmd)) h).1 w
way_is script (mark.Vunmap va n ∷ k ∷ ks) d cmd h w =
    way_is script (k ∷ ks) (thread_mappings_after d (mark.Vunmap va n)) cmd (both (is_mark script d (mark.Vunmap va n)) (are_marks script (thread_mappings_after d (mark.Vunmap va n)) (k ∷ ks) (Some cmd)) h).1 w
way_is script (mark.Vsubmit ops ∷ k ∷ ks) d cmd h w = absurd cc

-- ---- along the commands of a thread

module _ (script : Script) (thread : ℕ) (b : BufId) (order : are_in_order script.marks ≡ true) (cmd : Command)
    (peeks : (d : ThreadMappings) → is_peek_or_poke d cmd ≡ true → has_buffer d.mapped b ≡ true) where
  abbrev after : ℕ → Option ℕ
  after n = up_to thread b n None script.marks

  along : (commands : List Command) (j n i : ℕ) (d : ThreadMappings) (old : Option ℕ) → marks_fit script thread n d commands ≡ true → Tracks b d old
      → fold (behind_mark thread n b) old script.marks ≡ after n → i ≡ n + j → slice_get commands j ≡ Some cmd → list_any is_mapped (marks_at script thread i) ≡ true
      → is_some (after i) ≡ true
  along [] zero n i d old fits tracks is at there way = absurd cc
  along [] (suc j) n i d old fits tracks is at there way = absurd cc
  along (c ∷ commands) zero n i d old fits tracks is at there way =
      let here : n ≡ i = omega (arith, at) in
      let same : c ≡ cmd = cc in
      let lines = marks_at script thread n in
      let behind = fold thread_mappings_after d lines in
      let parts = both (are_marks script d lines (Some c)) (marks_fit script thread (n + 1) behind commands) fits in
      let peek = way_is script lines d c parts.0 (subst (λ k. list_any is_mapped (marks_at script thread k) ≡ true) (sym here) way) in
      let has : has_buffer behind.mapped b ≡ true = peeks behind (subst (λ x. is_peek_or_poke behind x ≡ true) same peek) in
      subst (λ k. is_some (after k) ≡ true) here
      (ap is_some (sym is ∙ lines_pass b thread n old script.marks) ∙ sym (lines_track b n lines d old tracks) ∙ has)
  along (c ∷ commands) (suc j) n i d old fits tracks is at there way =
      let lines = marks_at script thread n in
      let behind = fold thread_mappings_after d lines in
      let parts = both (are_marks script d lines (Some c)) (marks_fit script thread (n + 1) behind commands) fits in
      along commands j (n + 1) i behind (after n) parts.1
      (lines_track b n lines d old tracks ∙ ap is_some (sym (lines_pass b thread n old script.marks) ∙ is))
      (sym (passed_next thread b n None script.marks order)) (omega (arith, at)) there way

-- ---- the rules of a script

all_counted : (test : ℕ → Bool) (n start t : ℕ) → list_all test (count_from 1 n start) ≡ true → start ≤ t → t < start + n → test t ≡ true
all_counted test zero start t h low high = absurd (omega (arith, low, high))
all_counted test (suc n) start t h low high =
    let here : test start ≡ true = grind (arith, common_steps) in
    let rest : list_all test (count_from 1 n (1 + start)) ≡ true = grind (arith, common_steps) in
    elim (cases_lt start t) as (λ _. test t ≡ true) [
      | inl lt ↦ all_counted test n (1 + start) t rest (omega (arith, lt)) (omega (arith, high))
      | inr ge ↦ let same : start ≡ t = omega (arith, low, ge) in subst (λ n. test n ≡ true) same here
    ]

no_commands : (script : Script) (t : ℕ) → slice_get script.threads t ≡ None → commands_of script (suc t) ≡ []
no_commands script t h =
    let behind : suc t - 1 ≡ t = omega arith in
    let none : slice_get script.threads (suc t - 1) ≡ None = ap (slice_get script.threads) behind ∙ h in
    let past : (suc t == 0) ≡ false = grind (arith, nat_tests) in
    grind (arith, common_steps)

none_there : (commands : List Command) (n : ℕ) (cmd : Command) → commands ≡ [] → slice_get commands n ≡ Some cmd → ⊥
none_there commands n cmd e h = by n (sym (ap (λ (cs : List Command). slice_get cs n) e) ∙ h)
  where
    by : (n : ℕ) → slice_get [] n ≡ Some cmd → ⊥
    by zero k = cc
    by (suc n) k = cc

ways_fit : (s : Script) → is_script s ≡ true → list_all (λ t. marks_fit s t 0 empty_thread_mappings (commands_of s t)) (thread_numbers s) ≡ true
ways_fit s h =
    let marks = (both _ (have_marks s) h).1 in
    (both _ (list_all (λ t. marks_fit s t 0 empty_thread_mappings (commands_of s t)) (thread_numbers s)) marks).1

thread_fits : (script : Script) (thread n : ℕ) (cmd : Command) → is_script script ≡ true → slice_get (commands_of script thread) n ≡ Some cmd
    → marks_fit script thread 0 empty_thread_mappings (commands_of script thread) ≡ true
thread_fits script zero n cmd fits h = absurd (none_there (commands_of script 0) n cmd refl h)
thread_fits script (suc t) n cmd fits h = elim (cases_lt t (length script.threads)) [
  | inl lt ↦
      all_counted (λ t. marks_fit script t 0 empty_thread_mappings (commands_of script t)) (length script.threads) 1 (suc t) (ways_fit script fits) (omega arith) (omega (arith, lt))
  | inr ge ↦ absurd (none_there (commands_of script (suc t)) n cmd (no_commands script t (slice_get_past script.threads t ge)) h)
]

-- ---- a peek or poke

of_mapped : (cmd : Command) (a : Access) → access_of cmd ≡ Some a → (d : ThreadMappings) → is_peek_or_poke d cmd ≡ true → has_buffer d.mapped a.b ≡ true
of_mapped (command.Read b off len) a h d p =
    let it : record { b = b; off = off; len = len } ≡ a = cc in
    subst (λ x. has_buffer d.mapped x ≡ true) (ap (λ (x : Access). x.b) it) p
of_mapped (command.Write b off bytes) a h d p =
    let it : record { b = b; off = off; len = length bytes } ≡ a = cc in
    subst (λ x. has_buffer d.mapped x ≡ true) (ap (λ (x : Access). x.b) it) p
of_mapped _ a h d p = absurd cc

access_mapped : (script : Script) (thread n : ℕ) (a : Access) → is_script script ≡ true → peek_or_poke script thread n ≡ Some a → is_some (mapped_from script thread n a.b) ≡ true
access_mapped script thread n a fits h = by (is_mapped_at script thread n) (slice_get (commands_of script thread) n) refl refl h
  where
    by : (w : Bool) (o : Option Command) → is_mapped_at script thread n ≡ w → slice_get (commands_of script thread) n ≡ o
        → (if w then option_and_then access_of o else None) ≡ Some a → is_some (mapped_from script thread n a.b) ≡ true
    by false o we oe k = absurd cc
    by true None we oe k = absurd cc
    by true (Some cmd) we oe k =
        let order = script_order script fits in
        ap is_some (sym (stands_is thread a.b n script.marks order))
        ∙ along script thread a.b order cmd (of_mapped cmd a k) (commands_of script thread) n 0 n empty_thread_mappings None (thread_fits script thread n cmd fits oe) refl
        (sym (passed_first thread a.b None script.marks)) (omega arith) oe we

pub peek_is_mapped : (script : Script) (thread n : ℕ) (b : BufId) → is_script script ≡ true → option_map (λ a. a.b) (peek_or_poke script thread n) ≡ Some b
    → is_some (mapped_from script thread n b) ≡ true
peek_is_mapped script thread n b fits h = by (peek_or_poke script thread n) refl h
  where
    by : (o : Option Access) → peek_or_poke script thread n ≡ o → option_map (λ (a : Access). a.b) o ≡ Some b → is_some (mapped_from script thread n b) ≡ true
    by None e k = absurd cc
    by (Some a) e k = let same : a.b ≡ b = cc in subst (λ x. is_some (mapped_from script thread n x) ≡ true) same (access_mapped script thread n a fits e)
