-- That there is room, told by tests of lists.
use Rattle.std.proofs.Common.{◌≡◌, ℕ, zero, suc, ◌+◌, ◌<◌, ◌≤◌, ◌^◌, true, List, [], ◌∷◌, Option, Some, None, length, refl, arith}
use Rattle.std.specs.Prelude.{nat_le, nat_lt, slice_get, unwrap_or, option_and_then}
use Rattle.std.specs.List.{list_all}
use Rattle.std.proofs.lemmas.Grind.{common_steps}
use Rattle.std.proofs.lemmas.Bool.Decides.{nat_tests}
use Rattle.journal_model.specs.declared.script.Decl.{Decl}
use Rattle.journal_model.specs.declared.state.Buffer.{Buffer}
use Rattle.journal_model.specs.rules.State.{new_buffer}
use Rattle.journal_model.specs.rules.Commands.{undeclared}
use Rattle.journal_model.specs.declared.script.Script.{Script}
use Rattle.journal_model.specs.declared.state.State.{State}
use Rattle.rules_search.specs.Room.{HasRoom, is_short, tests_room}

-- ---- pages

pub few_pages : (ds : List Decl) (i : ℕ) → list_all (λ d. nat_le d.pages 65536) ds ≡ true → (unwrap_or (slice_get ds i) undeclared).pages ≤ 65536
few_pages [] i h = omega arith
few_pages (d ∷ ds) zero h = grind (arith, common_steps, nat_tests)
few_pages (d ∷ ds) (suc i) h = few_pages ds i (grind (arith, common_steps, nat_tests))

pub few_pages_back : (ds : List Decl) → ((i : ℕ) → (unwrap_or (slice_get ds i) undeclared).pages ≤ 65536) → list_all (λ d. nat_le d.pages 65536) ds ≡ true
few_pages_back [] h = refl
few_pages_back (d ∷ ds) h =
    let here : d.pages ≤ 65536 = h 0 in
    let rest = few_pages_back ds (λ i. h (suc i)) in
    grind (arith, common_steps, nat_tests, here, rest)

-- ---- page tables

pub short_tables : (slots : List (Option Buffer)) (i : ℕ) → list_all is_short slots ≡ true
    → length (unwrap_or (option_and_then (λ x. x) (slice_get slots i)) (new_buffer 0)).table ≤ 2 ^ 32
short_tables [] i h = omega arith
short_tables (None ∷ slots) zero h = omega arith
short_tables (Some x ∷ slots) zero h = grind (arith, common_steps, nat_tests)
short_tables (slot ∷ slots) (suc i) h = short_tables slots i (grind (arith, common_steps))

pub short_tables_back : (slots : List (Option Buffer)) → ((i : ℕ) → length (unwrap_or (option_and_then (λ x. x) (slice_get slots i)) (new_buffer 0)).table ≤ 2 ^ 32)
    → list_all is_short slots ≡ true
short_tables_back [] h = refl
short_tables_back (None ∷ slots) h = short_tables_back slots (λ i. h (suc i))
short_tables_back (Some x ∷ slots) h =
    let here : length x.table ≤ 2 ^ 32 = h 0 in
    let rest = short_tables_back slots (λ i. h (suc i)) in
    grind (arith, common_steps, nat_tests, here, rest)

-- ---- counters

pub all_rise : (ns : List ℕ) (i : ℕ) → list_all (λ n. nat_lt (n + 1) (2 ^ 64)) ns ≡ true → unwrap_or (slice_get ns i) 0 + 1 < 2 ^ 64
all_rise [] i h = omega arith
all_rise (n ∷ ns) zero h = grind (arith, common_steps, nat_tests)
all_rise (n ∷ ns) (suc i) h = all_rise ns i (grind (arith, common_steps, nat_tests))

pub all_rise_back : (ns : List ℕ) → ((i : ℕ) → unwrap_or (slice_get ns i) 0 + 1 < 2 ^ 64) → list_all (λ n. nat_lt (n + 1) (2 ^ 64)) ns ≡ true
all_rise_back [] h = refl
all_rise_back (n ∷ ns) h =
    let here : n + 1 < 2 ^ 64 = h 0 in
    let rest = all_rise_back ns (λ i. h (suc i)) in
    grind (arith, common_steps, nat_tests, here, rest)

-- ---- both ways

pub room_of_tests : (script : Script) (s : State) → tests_room script s ≡ true → HasRoom script s
room_of_tests script s h = record {
  pages = λ b. few_pages script.buffers b.0 (grind (arith, common_steps));
  threads = grind (arith, nat_tests);
  tables = λ b. short_tables s.core.buffers b.0 (grind (arith, common_steps));
  buffers = grind (arith, nat_tests);
  stamps = grind (arith, nat_tests);
  ghosts = grind (arith, nat_tests);
  jobs = λ ctx. all_rise s.last_jobs ctx (grind (arith, common_steps));
}

pub tests_of_room : (script : Script) (s : State) → HasRoom script s → tests_room script s ≡ true
tests_of_room script s r =
    let pages = few_pages_back script.buffers (λ i. r.pages (record { 0 = i })) in
    let tables = short_tables_back s.core.buffers (λ i. r.tables (record { 0 = i })) in
    let jobs = all_rise_back s.last_jobs r.jobs in
    let threads = r.threads in
    let buffers = r.buffers in
    let stamps = r.stamps in
    let ghosts = r.ghosts in
    grind (arith, common_steps, nat_tests, pages, tables, jobs, threads, buffers, stamps, ghosts)
