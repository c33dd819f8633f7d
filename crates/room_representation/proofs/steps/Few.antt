-- How many commands a thread has at most, and how many places a search tries.
use Rattle.std.proofs.Common.{◌≡◌, ℕ, zero, suc, ◌+◌, ◌-◌, ◌<◌, ◌≤◌, Bool, true, false, List, [], ◌∷◌, Option, Some, None, Ok, IsTrue, length, refl, sym, ◌∙◌, ap, arith, ⊎_elim}
use Rattle.std.specs.Prelude.{◌==◌, ◌&&◌, ◌||◌, not, nat_le, nat_lt, filter, map, slice_get, sum_by, unwrap_or, if◌then◌else◌}
use Rattle.std.specs.List.{list_all}
use Rattle.std.proofs.lemmas.Bool.{cases_lt}
use Rattle.std.proofs.lemmas.Bool.Decides.{nat_tests}
use Rattle.std.proofs.lemmas.Grind.{common_steps}
use Rattle.ttm_base.specs.declared.BufId.{BufId}
use Rattle.ttm_base.specs.declared.FlaggedPlace.{FlaggedPlace}
use Rattle.ttm_base.specs.ListWords.{count_from}
use Rattle.ttm_base.specs.Placement.{forced_places}
use Rattle.journal_model.specs.declared.script.Script.{Script}
use Rattle.journal_model.specs.declared.script.Command.{Command}
use Rattle.journal_model.specs.declared.script.Command.TheVariants as command
use Rattle.journal_model.specs.declared.script.Decl.{Decl}
use Rattle.journal_model.specs.declared.state.SearchAim.{SearchAim}
use Rattle.journal_model.specs.declared.state.SearchAim.TheVariants.{Asked, Hop}
use Rattle.journal_model.specs.declared.state.Course.{Course}
use Rattle.journal_model.specs.rules.Commands.{commands_of, decl, undeclared, asked_places}
use Rattle.journal_model.specs.scripts.CommandRules.{is_between, is_command, command_len}
use Rattle.journal_model.specs.scripts.MarkRules.{has_few_lines, have_marks, are_in_order, is_in_thread, marks_fit, empty_thread_mappings}
use Rattle.journal_model.specs.scripts.ScriptRules.{is_script, has_sizes, is_decl, has_distinct_names, is_turn_line, is_place_list}
use Rattle.journal_model.specs.statements.Complete.{thread_numbers}
use Rattle.journal_model.specs.declared.state.State.{State}
use Rattle.journal_model.specs.declared.state.Task.{Task}
use Rattle.journal_model.specs.declared.state.Task.TheVariants as task
use Rattle.journal_model.specs.declared.entry.DryWhy.{DryWhy}
use Rattle.journal_model.specs.declared.entry.Kind.TheVariants as kind
use Rattle.journal_model.specs.rules.Next.{step_of_task}
use Rattle.laws.proofs.law_sound.Gifts.{Gives, seeks, fills}
use Rattle.laws.proofs.law_state.Courses.{is_dry_below, place_search_dry}
use Rattle.journal_model.specs.rules.Search.{PlaceSearch, place_search, is_caught, through_tt}
use Rattle.laws.proofs.law_state.JobsKeep.{all_at}
use Rattle.laws.proofs.law_state.Lists.{get_within}
use Rattle.laws.proofs.law_state.Rules.{Rules}

-- ---- commands

counted_at : (n start i : ℕ) → i < n → slice_get (count_from 1 n start) i ≡ Some (start + i)
counted_at zero start i h = absurd (omega arith)
counted_at (suc n) start zero h = let e : start ≡ start + 0 = omega arith in ap Some e
counted_at (suc n) start (suc i) h = counted_at n (1 + start) i (omega arith) ∙ (let e : 1 + start + i ≡ start + suc i = omega arith in ap Some e)

few_of_lines : (script : Script) (t : ℕ) → has_few_lines script t ≡ true → length (commands_of script t) ≤ 4096
few_of_lines script t h = grind (arith, nat_tests)

tenth : (a b c d e f g h i j : Bool) → (a && b && c && d && e && f && g && h && i && j) ≡ true → j ≡ true
tenth a b c d e f g h i j t = grind arith

fourth : (a b c d e : Bool) → (a && b && c && d && e) ≡ true → d ≡ true
fourth a b c d e t = grind arith

lines_of : (script : Script) → IsTrue (is_script script) → list_all (has_few_lines script) (thread_numbers script) ≡ true
lines_of script h =
    fourth ((script.version == 2) || (length script.marks == 0)) (are_in_order script.marks) (list_all (is_in_thread script) script.marks) (list_all (has_few_lines script) (thread_numbers script)) (list_all (λ t. marks_fit script t 0 empty_thread_mappings (commands_of script t)) (thread_numbers script))
    (tenth (is_between 1 2 script.version) (has_sizes script) (nat_le (length script.buffers) 256) (list_all (is_decl script.version) script.buffers) (has_distinct_names script.buffers) (nat_le (length script.threads) 16) (list_all (list_all (is_command script)) script.threads) (nat_le (sum_by (sum_by command_len) script.threads) 67108864) (list_all (is_turn_line script) script.turns) (have_marks script) h)

no_commands : (script : Script) (t : ℕ) → length script.threads < t → length (commands_of script t) ≤ 4096
no_commands script t h = by (t == 0)
  where
    by_get : (o : Option (List Command)) → slice_get script.threads (t - 1) ≡ o → length (unwrap_or o []) ≤ 4096
    by_get None e = omega arith
    by_get (Some xs) e = let l = get_within script.threads (t - 1) xs e in absurd (omega (arith, l, h))

    by : (b : Bool) → length (if b then [] else unwrap_or (slice_get script.threads (t - 1)) []) ≤ 4096
    by true = omega arith
    by false = by_get (slice_get script.threads (t - 1)) refl

pub few_commands : (script : Script) → IsTrue (is_script script) → (t : ℕ) → length (commands_of script t) ≤ 4096
few_commands script fits zero = omega arith
few_commands script fits (suc t) =
    ⊎_elim
    (λ lt. few_of_lines script (suc t) (all_at (has_few_lines script) (thread_numbers script) t (suc t) (lines_of script fits) (counted_at (length script.threads) 1 t lt ∙ (let e : 1 + t ≡ suc t = omega arith in ap Some e))))
    (λ ge. no_commands script (suc t) (omega (arith, ge)))
    (cases_lt t (length script.threads))

-- ---- places

length-map : {X Y : Type 0} (f : X → Y) (xs : List X) → length (map f xs) ≡ length xs
length-map f [] = refl
length-map f (x ∷ xs) = ap suc (length-map f xs)

few_filtered : {X : Type 0} (p : X → Bool) (xs : List X) → length (filter p xs) ≤ length xs
few_filtered p [] = omega arith
few_filtered p (x ∷ xs) = let rest = few_filtered p xs in by (p x) rest
  where
    by : (b : Bool) → length (filter p xs) ≤ length xs → length (if b then x ∷ filter p xs else filter p xs) ≤ suc (length xs)
    by true h = omega (arith, h)
    by false h = omega (arith, h)

few_forced : (list : List FlaggedPlace) → length (forced_places list) ≤ length list
few_forced list =
    let a = length-map (λ (p : FlaggedPlace). p.place) (filter (λ p. not p.desired) list) in
    let b = few_filtered (λ (p : FlaggedPlace). not p.desired) list in
    omega (arith, a, b)

list_places : (version : ℕ) (list : List FlaggedPlace) → is_place_list version list ≡ true → length (forced_places list) ≤ 8
list_places version list h = let f = few_forced list in grind (arith, nat_tests)

decl_places : (script : Script) → Rules script → (b : BufId) → length (forced_places (decl script b).placement.list) ≤ 8
decl_places script r b = by (slice_get script.buffers b.0) refl
  where
    placed : (d : Decl) → is_decl script.version d ≡ true → is_place_list script.version d.placement.list ≡ true
    placed d h = grind arith

    by : (o : Option Decl) → slice_get script.buffers b.0 ≡ o → length (forced_places (unwrap_or o undeclared).placement.list) ≤ 8
    by None e = omega arith
    by (Some d) e = list_places script.version d.placement.list (placed d (all_at (is_decl script.version) script.buffers b.0 d r.decls e))

asked_few : (script : Script) → Rules script → (cmd : Command) (b : BufId) → length (forced_places (asked_places script cmd b)) ≤ 8
asked_few script r (command.Move c mem) b = omega arith
asked_few script r (command.SwapOut c) b = omega arith
asked_few script r (command.New c) b = decl_places script r b
asked_few script r (command.Free c) b = decl_places script r b
asked_few script r (command.Pin c) b = decl_places script r b
asked_few script r (command.Unpin c) b = decl_places script r b
asked_few script r (command.Find c) b = decl_places script r b
asked_few script r (command.Write c off bytes) b = decl_places script r b
asked_few script r (command.Read c off len) b = decl_places script r b
asked_few script r (command.Touch group) b = decl_places script r b
asked_few script r (command.Submit engine ops) b = decl_places script r b

place_search_few : (script : Script) → Rules script → (cmd : Command) (c : Course) (b : BufId) (aim : SearchAim) → length (forced_places (place_search script cmd c b aim).list) ≤ 8
place_search_few script r cmd c b Asked = asked_few script r cmd b
place_search_few script r cmd c b Hop = by (is_caught c b)
  where
    picked : Bool → PlaceSearch
    picked q = if q then record { list = through_tt; forced = false; dry = 0 } else record { list = through_tt; forced = c.forced; dry = c.dry }

    by : (q : Bool) → length (forced_places (picked q).list) ≤ 8
    by true = omega arith
    by false = omega arith

less_is : (m n : ℕ) → nat_lt m n ≡ true → m < n
less_is m n h = grind (arith, nat_tests)

-- a place that is dry is one of eight at most
pub dry_few : (script : Script) → Rules script → (s : State) (c : Course) (cmd : Command) (x : Task) (b : BufId) (k : ℕ) (w : DryWhy) → step_of_task script s c cmd x ≡ Ok (kind.Dry b k w) → Gives script s c cmd x (kind.Dry b k w) → k < 8
dry_few script r s c cmd _ b k w h (seeks {b = d} {aim = aim} g) =
    let below = less_is k (length (forced_places (place_search script cmd c d aim).list)) (place_search_dry script s c d (place_search script cmd c d aim) (kind.Dry b k w) h) in
    let few = place_search_few script r cmd c d aim in
    omega (arith, below, few)
dry_few script r s c cmd _ b k w h (fills g) = elim g [ ]
