-- The parts of the limit of turns, each bounded by the script's rules or by the length of its text.
use Rattle.std.proofs.Common.{◌≡◌, ℕ, ◌<◌, ◌≤◌, ◌+◌, ◌*◌, ◌-◌, zero, suc, Bool, true, false, List, [], ◌∷◌, ◌++◌, length, length-append, Some, IsTrue, refl, sym, ◌∙◌, ap, ap₂, subst, arith, ⊎_elim}
use Rattle.std.specs.Prelude.{slice_get, map, flat_map, sum_by, unwrap_or, nat_le, codes, decimal, ◌==◌, ◌&&◌, ◌||◌, if◌then◌else◌}
use Rattle.std.specs.List.{list_all, join_with_byte, enumerate_from}
use Rattle.std.proofs.lemmas.Bool.{cases_eq, and_parts}
use Rattle.std.proofs.lemmas.Bool.Decides.{nat_tests}
use Rattle.std.proofs.lemmas.List.Sums.{sum_by-cons}
use Rattle.ttm_base.specs.ListWords.{count_from}
use Rattle.ttm_base.specs.declared.Op.{Op}
use Rattle.ttm_base.specs.declared.Actor.{Actor}
use Rattle.ttm_base.specs.declared.PagePlace.TheVariants as place
use Rattle.ttm_base.specs.Cutting.{PageMap, pieces_of, packet_of, packets_of, op_len}
use Rattle.journal_model.specs.declared.script.Script.{Script}
use Rattle.journal_model.specs.declared.script.Decl.{Decl}
use Rattle.journal_model.specs.declared.script.Command.{Command}
use Rattle.journal_model.specs.declared.script.Command.TheVariants as command
use Rattle.journal_model.specs.scripts.Words.{Text, line, actor_word}
use Rattle.journal_model.specs.rules.Commands.{commands_of}
use Rattle.journal_model.specs.scripts.CommandRules.{is_between, is_command, command_len}
use Rattle.journal_model.specs.scripts.MarkRules.{empty_thread_mappings, marks_fit, are_in_order, is_in_thread, has_few_lines, have_marks}
use Rattle.journal_model.specs.scripts.ScriptRules.{is_script, is_decl, has_sizes, has_distinct_names, is_turn_line, IsScript}
use Rattle.journal_model.specs.scripts.Spelling.{buffer_line, thread_lines, turn_line, spelling}
use Rattle.journal_model.specs.statements.Complete.{thread_numbers}
use Rattle.journal_model.specs.statements.Scheduled.{scheduled_actors, packets_in, turn_limit}
use Rattle.laws.proofs.law_state.JobsKeep.{few_packets}
use Rattle.laws.proofs.law_sound.MeasureFalls.{sum_most}

-- ---- products and sums

scale : (k b d : ℕ) → b ≤ d → k * b ≤ k * d
scale k zero d h = grind arith
scale k (suc b) zero h = absurd (omega arith)
scale k (suc b) (suc d) h = let rest : k * b ≤ k * d = scale k b d (omega arith) in grind arith

turned : (a b : ℕ) → a * b ≡ b * a
turned a b = grind arith

times_most : (a b c d : ℕ) → a ≤ c → b ≤ d → a * b ≤ c * d
times_most a b c d h k =
    let one : a * b ≤ a * d = scale a b d k in
    let two : d * a ≤ d * c = scale d a c h in
    let l : a * d ≡ d * a = turned a d in
    let r : c * d ≡ d * c = turned c d in
    omega (arith, one, two, l, r)

sum_below : {X : Type 0} (f : X → ℕ) (xs : List X) → ((i : ℕ) (x : X) → slice_get xs i ≡ Some x → f x ≤ 4096) → sum_by f xs ≤ 4096 * length xs
sum_below f [] h = omega arith
sum_below f (x ∷ xs) h =
    let here : f x ≤ 4096 = h zero x refl in
    let rest : sum_by f xs ≤ 4096 * length xs = sum_below f xs (λ i y e. h (suc i) y e) in
    let sum = sum_by-cons f x xs in
    omega (arith, here, rest, sum)

all_at : {X : Type 0} (p : X → Bool) (xs : List X) (i : ℕ) (x : X) → list_all p xs ≡ true → slice_get xs i ≡ Some x → p x ≡ true
all_at p [] i x h e = cc
all_at p (y ∷ xs) zero x h e = let it : y ≡ x = cc in subst (λ z. p z ≡ true) it (and_parts (p y) (list_all p xs) h).0
all_at p (y ∷ xs) (suc i) x h e = all_at p xs i x (and_parts (p y) (list_all p xs) h).1 e

all_numbers : (p : ℕ → Bool) (n from t : ℕ) → list_all p (count_from 1 n from) ≡ true → from ≤ t → t < from + n → p t ≡ true
all_numbers p zero from t h a b = absurd (omega arith)
all_numbers p (suc n) from t h a b =
    let q = and_parts (p from) (list_all p (count_from 1 n (1 + from))) h in
    ⊎_elim (λ e. subst (λ z. p z ≡ true) (sym e) q.0) (λ d. let e : t ≡ from → ⊥ = d in all_numbers p n (1 + from) t q.1 (grind arith) (omega arith)) (cases_eq t from)

within : {X : Type 0} (xs : List X) (i : ℕ) (x : X) → slice_get xs i ≡ Some x → i < length xs
within [] i x h = cc
within (y ∷ xs) zero x h = omega arith
within (y ∷ xs) (suc i) x h = let l : i < length xs = within xs i x h in omega arith

-- ---- what the rules bound

pub record Bounds (script : Script) : Type 0 where
  pub buffers : length script.buffers ≤ 256
  pub decls : list_all (is_decl script.version) script.buffers ≡ true
  pub threads : length script.threads ≤ 16
  pub lens : sum_by (sum_by command_len) script.threads ≤ 67108864
  pub lines : list_all (has_few_lines script) (thread_numbers script) ≡ true

-- the rules but those of marks
abbrev rules : Script → Bool
rules script =
    is_between 1 2 script.version && has_sizes script
    && nat_le (length script.buffers) 256 && list_all (is_decl script.version) script.buffers && has_distinct_names script.buffers
    && nat_le (length script.threads) 16 && list_all (list_all (is_command script)) script.threads
    && nat_le (sum_by (sum_by command_len) script.threads) 67108864
    && list_all (is_turn_line script) script.turns

-- the rules of marks but those of mappings
abbrev mark_rules : Script → Bool
mark_rules script = ((script.version == 2) || (length script.marks == 0)) && are_in_order script.marks && list_all (is_in_thread script) script.marks

lines_of : (script : Script) → have_marks script ≡ true → list_all (has_few_lines script) (thread_numbers script) ≡ true
lines_of script h =
    (and_parts (mark_rules script) (list_all (has_few_lines script) (thread_numbers script))
    (and_parts (mark_rules script && list_all (has_few_lines script) (thread_numbers script)) (list_all (λ t. marks_fit script t 0 empty_thread_mappings (commands_of script t)) (thread_numbers script)) h).0).1

bounds_of : (script : Script) → IsTrue (is_script script) → Bounds script
bounds_of script h = record {
  buffers = grind (arith, nat_tests);
  decls = grind arith;
  threads = grind (arith, nat_tests);
  lens = grind (arith, nat_tests);
  lines = lines_of script (and_parts (rules script) (have_marks script) h).1;
}

few_commands : (script : Script) (i : ℕ) (cs : List Command) → slice_get script.threads i ≡ Some cs → has_few_lines script (suc i) ≡ true → length cs ≤ 4096
few_commands script i cs e h =
    let some : (suc i == 0) ≡ false = grind (arith, nat_tests) in
    let before_it : suc i - 1 ≡ i = omega arith in
    let is : commands_of script (suc i) ≡ cs = ap₂ (λ q j. if q then [] else unwrap_or (slice_get script.threads j) []) some before_it ∙ ap (λ o. unwrap_or o []) e in
    let few : length (commands_of script (suc i)) ≤ 4096 = grind (arith, nat_tests) in
    subst (λ l. length l ≤ 4096) is few

commands_most : (script : Script) → Bounds script → sum_by length script.threads ≤ 65536
commands_most script b =
    let each = sum_below length script.threads (λ i cs e. few_commands script i cs e (all_numbers (has_few_lines script) (length script.threads) 1 (suc i) b.lines (omega arith) (let l = within script.threads i cs e in omega (arith, l)))) in
    let n = b.threads in
    omega (arith, each, n)

few_pages : (version : ℕ) (d : Decl) → is_decl version d ≡ true → d.pages ≤ 4096
few_pages version d h = grind (arith, nat_tests)

pages_most : (script : Script) → Bounds script → sum_by (λ d. d.pages) script.buffers ≤ 1048576
pages_most script b =
    let each = sum_below (λ d. d.pages) script.buffers (λ i d e. few_pages script.version d (all_at (is_decl script.version) script.buffers i d b.decls e)) in
    let n = b.buffers in
    omega (arith, each, n)

-- ---- packets

length-map : {X Y : Type 0} (f : X → Y) (xs : List X) → length (map f xs) ≡ length xs
length-map f [] = refl
length-map f (x ∷ xs) = ap suc (length-map f xs)

pub length-packets : (pages : PageMap) (ops : List Op) → length (packets_of pages ops) ≡ sum_by (λ o. length (pieces_of o)) ops
length-packets pages [] = refl
length-packets pages (o ∷ ops) =
    let here = length-map (packet_of pages o) (pieces_of o) in
    let both = length-append (map (packet_of pages o) (pieces_of o)) (packets_of pages ops) in
    let rest = length-packets pages ops in
    let sum = sum_by-cons (λ o. length (pieces_of o)) o ops in
    omega (arith, here, both, rest, sum)

ops_most : (ops : List Op) → sum_by (λ o. length (pieces_of o)) ops ≤ sum_by op_len ops
ops_most ops =
    let is = length-packets (λ b i. place.Frame 0) ops in
    let few = few_packets (λ b i. place.Frame 0) ops in
    omega (arith, is, few)

packets_most : (cmd : Command) → packets_in cmd ≤ command_len cmd
packets_most (command.Submit engine ops) = ops_most ops
packets_most cmd = omega arith

all_packets_most : (script : Script) → Bounds script → sum_by (sum_by packets_in) script.threads ≤ 67108864
all_packets_most script b =
    let each = sum_most (sum_by packets_in) (sum_by command_len) script.threads (λ cs. sum_most packets_in command_len cs packets_most) in
    let l = b.lens in
    omega (arith, each, l)

-- ---- the schedule

joined_most : (w : Text) (ws : List Text) → length ws ≤ length (join_with_byte 32 (w ∷ ws))
joined_most w [] = omega arith
joined_most w (v ∷ ws) =
    let rest = joined_most v ws in
    let both = length-append w (32 ∷ join_with_byte 32 (v ∷ ws)) in
    omega (arith, rest, both)

turn_most : (actors : List Actor) → length actors ≤ length (turn_line actors)
turn_most actors =
    let joined = joined_most (codes "schedule") (map actor_word actors) in
    let same = length-map actor_word actors in
    let both = length-append (join_with_byte 32 (codes "schedule" ∷ map actor_word actors)) (10 ∷ []) in
    omega (arith, joined, same, both)

turns_most : (turns : List (List Actor)) → length (flat_map (λ l. l) turns) ≤ length (flat_map turn_line turns)
turns_most [] = omega arith
turns_most (t ∷ turns) =
    let here = turn_most t in
    let rest = turns_most turns in
    let a = length-append t (flat_map (λ l. l) turns) in
    let b = length-append (turn_line t) (flat_map turn_line turns) in
    omega (arith, here, rest, a, b)

behind : (n : ℕ) (xs ys : Text) → n ≤ length ys → n ≤ length (xs ++ ys)
behind n xs ys h = let both = length-append xs ys in omega (arith, both)

before : (n : ℕ) (xs ys : Text) → n ≤ length xs → n ≤ length (xs ++ ys)
before n xs ys h = let both = length-append xs ys in omega (arith, both)

-- the lines before those of the schedule
abbrev first_lines : Script → Text
first_lines script =
    line (codes "ttm" ∷ decimal script.version ∷ [])
    ++ line (codes "vram" ∷ (if script.sizes.buddy then codes "buddy" else codes "range") ∷ decimal script.sizes.vram ∷ [])
    ++ line (codes "tt" ∷ decimal script.sizes.tt ∷ [])
    ++ line (codes "frames" ∷ decimal script.sizes.frames ∷ [])
    ++ line (codes "swap" ∷ decimal script.sizes.swap ∷ [])
    ++ line (codes "engines" ∷ decimal script.sizes.engines ∷ [])
    ++ flat_map (buffer_line script.version) script.buffers
    ++ flat_map (thread_lines script) (enumerate_from 1 script.threads)

schedule_most : (script : Script) → length (scheduled_actors script) ≤ length (spelling script)
schedule_most script =
    before (length (scheduled_actors script)) (first_lines script ++ flat_map turn_line script.turns) (line (codes "end" ∷ []))
    (behind (length (scheduled_actors script)) (first_lines script) (flat_map turn_line script.turns) (turns_most script.turns))

-- ---- all of it

-- the limit without the turns of its schedule
pub product_most : (script : Script) → IsTrue (is_script script) → 134217728 * (sum_by length script.threads + 17) * (sum_by (λ d. d.pages) script.buffers + 17) + sum_by (sum_by packets_in) script.threads ≤ 9225914146594226176
product_most script fits =
    let b = bounds_of script fits in
    let c = commands_most script b in
    let p = pages_most script b in
    let q = all_packets_most script b in
    let product : 134217728 * (sum_by length script.threads + 17) * (sum_by (λ d. d.pages) script.buffers + 17) ≤ 8798374723584 * 1048593 =
    times_most (134217728 * (sum_by length script.threads + 17)) (sum_by (λ d. d.pages) script.buffers + 17) 8798374723584 1048593 (omega (arith, c)) (omega (arith, p)) in
    omega (arith, product, q)

pub threads_most : (script : Script) → IsTrue (is_script script) → length script.threads ≤ 16
threads_most script fits = (bounds_of script fits).threads

pub limit_fits : (bytes : List ℕ) (script : Script) → IsScript bytes script → turn_limit script < 18446744073709551616
limit_fits bytes script is =
    let schedule = schedule_most script in
    let text : length bytes ≡ length (spelling script) = ap length is.spelled in
    let short = is.short in
    let product = product_most script is.fits in
    omega (arith, schedule, text, short, product)
