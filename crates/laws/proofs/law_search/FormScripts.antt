-- A script of the first version is one in the second as well.
use Rattle.std.proofs.Common.{◌≡◌, ℕ, ◌+◌, suc, Bool, true, List, [], ◌∷◌, length, Option, Some, None, IsTrue, refl, ◌∙◌, ap, ap₂, subst, arith, length-append}
use Rattle.std.specs.Prelude.{map, fold, sum_by, nat_le, nat_lt, ◌==◌, ◌&&◌, ◌||◌}
use Rattle.std.specs.List.{list_all}
use Rattle.std.proofs.lemmas.Bool.{and_parts, and_from}
use Rattle.std.proofs.lemmas.Bool.Decides.{nat_tests}
use Rattle.ttm_base.specs.declared.Actor.{Actor}
use Rattle.ttm_base.specs.declared.Actor.TheVariants as actor
use Rattle.ttm_base.specs.declared.Op.{Op}
use Rattle.ttm_base.specs.declared.Op.TheVariants as op
use Rattle.ttm_base.specs.declared.FlaggedPlace.{FlaggedPlace}
use Rattle.ttm_base.specs.Placement.{first_places, forced_places}
use Rattle.journal_model.specs.declared.script.Script.{Script}
use Rattle.journal_model.specs.declared.script.Decl.{Decl}
use Rattle.journal_model.specs.declared.script.MarkKind.{MarkKind}
use Rattle.journal_model.specs.declared.script.MarkKind.TheVariants as mark
use Rattle.journal_model.specs.declared.script.Command.{Command}
use Rattle.journal_model.specs.declared.script.Command.TheVariants as command
use Rattle.journal_model.specs.rules.Commands.{as_desired, as_fallback, commands_of, named}
use Rattle.journal_model.specs.statements.Complete.{thread_numbers}
use Rattle.journal_model.specs.scripts.CommandRules.{is_between, is_op, is_command, command_len}
use Rattle.journal_model.specs.scripts.MarkRules.{ThreadMappings, empty_thread_mappings, thread_mappings_after, is_mark, is_way, are_marks, marks_fit, are_in_order, is_in_thread, has_few_lines, have_marks}
use Rattle.journal_model.specs.scripts.ScriptRules.{is_script, is_decl, is_name, is_group, is_flagged, is_old_list, is_new_list, is_place_list, is_actor, is_turn_line, has_sizes, has_distinct_names}
use Rattle.journal_model.specs.statements.OldSearch.{one_list}
use Rattle.journal_model.specs.marks.Marks.{marks_at}
use Rattle.laws.proofs.law_search.TwoLists.{two_lists}

length-map : {X Y : Type 0} (f : X → Y) (xs : List X) → length (map f xs) ≡ length xs
length-map f [] = refl
length-map f (x ∷ xs) = ap suc (length-map f xs)

-- ---- places

new_from : (n w y : ℕ) → n ≡ w + y → is_between 1 4 w ≡ true → is_between 1 4 y ≡ true → (is_between 1 8 n && nat_lt 0 y) ≡ true
new_from n w y e h k = grind (arith, nat_tests)

list_length : (list : List FlaggedPlace) → list ≡ one_list (first_places list) (forced_places list) → length list ≡ length (first_places list) + length (forced_places list)
list_length list e =
    ap length e
    ∙ (length-append (map as_desired (first_places list)) (map as_fallback (forced_places list))
    ∙ ap₂ (λ a b. a + b) (length-map as_desired (first_places list)) (length-map as_fallback (forced_places list)))

new_list : (list : List FlaggedPlace) → is_place_list 1 list ≡ true → is_place_list 2 list ≡ true
new_list list h =
    let p = and_parts (list_all is_flagged list) (is_old_list list) h in
    let a = and_parts _ (is_between 1 4 (length (forced_places list))) p.1 in
    let b = and_parts _ (is_between 1 4 (length (first_places list))) a.0 in
    and_from (list_all is_flagged list) (is_new_list list) p.0
    (new_from (length list) (length (first_places list)) (length (forced_places list)) (list_length list (two_lists list p.0 p.1)) b.1 a.1)

new_decl : (d : Decl) → is_decl 1 d ≡ true → is_decl 2 d ≡ true
new_decl d h =
    let p = and_parts (is_name d.name && is_between 1 4096 d.pages && nat_le d.prio 3 && is_group d.group && is_between 1 4096 d.align) (is_place_list 1 d.placement.list) h in
    and_from (is_name d.name && is_between 1 4096 d.pages && nat_le d.prio 3 && is_group d.group && is_between 1 4096 d.align) (is_place_list 2 d.placement.list) p.0 (new_list d.placement.list p.1)

new_decls : (ds : List Decl) → list_all (is_decl 1) ds ≡ true → list_all (is_decl 2) ds ≡ true
new_decls [] h = refl
new_decls (d ∷ ds) h = let p = and_parts (is_decl 1 d) (list_all (is_decl 1) ds) h in and_from (is_decl 2 d) (list_all (is_decl 2) ds) (new_decl d p.0) (new_decls ds p.1)

-- ---- commands, turns and marks

-- a script in another version
abbrev in_version : ℕ → Script → Script
in_version version script = record script { version = version }

module _ (v : ℕ) (script : Script) where
  op_same : (o : Op) → is_op (in_version v script) o ≡ is_op script o
  op_same (op.Fill dst off len byte) = refl
  op_same (op.Copy dst doff src soff len) = refl
  op_same (op.Xor dst doff src soff len) = refl
  op_same (op.Probe src off len) = refl

  command_same : (cmd : Command) → is_command (in_version v script) cmd ≡ is_command script cmd
  command_same (command.Submit engine ops) = λ i.
      is_between 1 script.sizes.engines engine && is_between 1 64 (length ops) && list_all (λ o. op_same o i) ops && nat_le (length (named (command.Submit engine ops))) 16
  command_same cmd = refl

  actor_same : (who : Actor) → is_actor (in_version v script) who ≡ is_actor script who
  actor_same (actor.Thread t) = refl
  actor_same (actor.Engine e) = refl
  actor_same actor.Reaper = refl

  turns_same : (actors : List Actor) → is_turn_line (in_version v script) actors ≡ is_turn_line script actors
  turns_same actors = λ i. is_between 1 64 (length actors) && list_all (λ who. actor_same who i) actors

  mark_same : (d : ThreadMappings) (m : MarkKind) → is_mark (in_version v script) d m ≡ is_mark script d m
  mark_same d (mark.Map b) = refl
  mark_same d (mark.Unmap b) = refl
  mark_same d (mark.Vmap va n b off) = refl
  mark_same d (mark.Vunmap va n) = refl
  mark_same d mark.Mapped = refl
  mark_same d (mark.Vsubmit ops) = refl

  are_same : (d : ThreadMappings) (ms : List MarkKind) (o : Option Command) → are_marks (in_version v script) d ms o ≡ are_marks script d ms o
  are_same d [] o = refl
  are_same d (m ∷ []) o = ap (λ q. q || is_way d m o) (mark_same d m)
  are_same d (m ∷ k ∷ ms) o = ap₂ (λ p q. p && q) (mark_same d m) (are_same (thread_mappings_after d m) (k ∷ ms) o)

  fit_same : (thread n : ℕ) (d : ThreadMappings) (cmds : List Command) → marks_fit (in_version v script) thread n d cmds ≡ marks_fit script thread n d cmds
  fit_same thread n d [] = are_same d (marks_at script thread n) None
  fit_same thread n d (cmd ∷ cmds) = ap₂ (λ p q. p && q) (are_same d (marks_at script thread n) (Some cmd)) (fit_same thread (n + 1) (fold thread_mappings_after d (marks_at script thread n)) cmds)

  all_fit_same : list_all (λ t. marks_fit (in_version v script) t 0 empty_thread_mappings (commands_of script t)) (thread_numbers script) ≡ list_all (λ t. marks_fit script t 0 empty_thread_mappings (commands_of script t)) (thread_numbers script)
  all_fit_same = λ i. list_all (λ t. fit_same t 0 empty_thread_mappings (commands_of script t) i) (thread_numbers script)

-- the marks of a script are those of its form in the second version
new_marks : (script : Script) → have_marks script ≡ true → have_marks (in_version 2 script) ≡ true
new_marks script h =
    let a = and_parts _ (list_all (λ t. marks_fit script t 0 empty_thread_mappings (commands_of script t)) (thread_numbers script)) h in
    let b = and_parts _ (list_all (has_few_lines script) (thread_numbers script)) a.0 in
    let c = and_parts _ (list_all (is_in_thread script) script.marks) b.0 in
    let d = and_parts ((script.version == 2) || (length script.marks == 0)) (are_in_order script.marks) c.0 in
    and_from (true && are_in_order script.marks && list_all (is_in_thread script) script.marks && list_all (has_few_lines script) (thread_numbers script))
    (list_all (λ t. marks_fit (in_version 2 script) t 0 empty_thread_mappings (commands_of script t)) (thread_numbers script))
    (and_from (true && are_in_order script.marks && list_all (is_in_thread script) script.marks) (list_all (has_few_lines script) (thread_numbers script))
    (and_from (true && are_in_order script.marks) (list_all (is_in_thread script) script.marks) d.1 c.1) b.1)
    (all_fit_same 2 script ∙ a.1)

-- the parts of what a script is
record Parts (version : ℕ) (script : Script) : Type 0 where
  between : is_between 1 2 version ≡ true
  sizes : has_sizes script ≡ true
  few : nat_le (length script.buffers) 256 ≡ true
  decls : list_all (is_decl version) script.buffers ≡ true
  names : has_distinct_names script.buffers ≡ true
  threads : nat_le (length script.threads) 16 ≡ true
  commands : list_all (list_all (is_command script)) script.threads ≡ true
  short : nat_le (sum_by (sum_by command_len) script.threads) 67108864 ≡ true
  turns : list_all (is_turn_line script) script.turns ≡ true
  marks : have_marks script ≡ true

parts_of : (script : Script) → is_script script ≡ true → Parts script.version script
parts_of script h =
    let j = and_parts _ (have_marks script) h in
    let i = and_parts _ (list_all (is_turn_line script) script.turns) j.0 in
    let g = and_parts _ (nat_le (sum_by (sum_by command_len) script.threads) 67108864) i.0 in
    let f = and_parts _ (list_all (list_all (is_command script)) script.threads) g.0 in
    let e = and_parts _ (nat_le (length script.threads) 16) f.0 in
    let d = and_parts _ (has_distinct_names script.buffers) e.0 in
    let c = and_parts _ (list_all (is_decl script.version) script.buffers) d.0 in
    let b = and_parts _ (nat_le (length script.buffers) 256) c.0 in
    let a = and_parts (is_between 1 2 script.version) (has_sizes script) b.0 in
    record { between = a.0; sizes = a.1; few = b.1; decls = c.1; names = d.1; threads = e.1; commands = f.1; short = g.1; turns = i.1; marks = j.1 }

and_more : (x y : Bool) → x ≡ true → y ≡ true → (x && y) ≡ true
and_more x y h k = and_from x y h k

script_of : (script : Script) → Parts script.version script → is_script script ≡ true
script_of script p =
    and_more _ (have_marks script)
    (and_more _ (list_all (is_turn_line script) script.turns)
    (and_more _ (nat_le (sum_by (sum_by command_len) script.threads) 67108864)
    (and_more _ (list_all (list_all (is_command script)) script.threads)
    (and_more _ (nat_le (length script.threads) 16)
    (and_more _ (has_distinct_names script.buffers)
    (and_more _ (list_all (is_decl script.version) script.buffers)
    (and_more _ (nat_le (length script.buffers) 256) (and_more (is_between 1 2 script.version) (has_sizes script) p.between p.sizes) p.few) p.decls) p.names) p.threads) p.commands) p.short) p.turns) p.marks

pub form_is_script : (script : Script) → IsTrue (is_script script) → script.version ≡ 1 → IsTrue (is_script (record script { version = 2 }))
form_is_script script fits first =
    let p = parts_of script fits in
    script_of (in_version 2 script)
    (record {
      between = refl;
      sizes = p.sizes;
      few = p.few;
      decls = new_decls script.buffers (subst (λ v. list_all (is_decl v) script.buffers ≡ true) first p.decls);
      names = p.names;
      threads = p.threads;
      commands = (λ i. list_all (list_all (λ cmd. command_same 2 script cmd i)) script.threads) ∙ p.commands;
      short = p.short;
      turns = (λ i. list_all (λ actors. turns_same 2 script actors i) script.turns) ∙ p.turns;
      marks = new_marks script p.marks;
    })
