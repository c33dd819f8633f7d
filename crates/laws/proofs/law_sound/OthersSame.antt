-- What a thread may still cost reads no buffers but those that it has, once it works.
use Rattle.std.proofs.Common.{◌≡◌, ℕ, ◌+◌, ◌*◌, Bool, true, false, List, [], ◌∷◌, Option, Some, None, refl, sym, ◌∙◌, ap, ap₂, arith}
use Rattle.std.proofs.lemmas.Bool.Decides.{nat_tests}
use Rattle.std.proofs.lemmas.List.Sums.{sum_by-cons}
use Rattle.std.specs.Prelude.{if◌then◌else◌, ◌-◌, ◌||◌, map, sum_by, is_none, unwrap_or, option_and_then, length, slice_get}
use Rattle.std.specs.List.{enumerate_from}
use Rattle.ttm_base.specs.ListWords.{last_of}
use Rattle.ttm_base.specs.declared.BufId.{BufId}
use Rattle.ttm_base.specs.declared.Deny.{Deny}
use Rattle.journal_model.specs.declared.script.Script.{Script}
use Rattle.journal_model.specs.declared.state.State.{State}
use Rattle.journal_model.specs.declared.script.Decl.{Decl}
use Rattle.journal_model.specs.declared.state.Course.{Course}
use Rattle.journal_model.specs.declared.state.Victim.{Victim}
use Rattle.journal_model.specs.declared.script.Command.{Command}
use Rattle.journal_model.specs.rules.State.{new_course, buffer, course_of, has_buffer, same_buffer}
use Rattle.journal_model.specs.rules.Commands.{named, commands_of}
use Rattle.journal_model.specs.rules.Search.{is_caught}
use Rattle.journal_model.specs.rules.Tasks.{first_missing}
use Rattle.laws.proofs.law_sound.Measure.{thread_left, command_left, held_left, search_left, search_share, named_left, if_named, not_skipped, victim_left, to_give_back, packet_count, room_for_victims, whole_command, locking_left, later_commands, steps_left, slots_to_fill}

-- the buffers that a working thread has are the same in both states
abbrev pub SameHad : State → State → Course → Command → Type 0
SameHad s s' c cmd = (b : BufId) → (has_buffer (named cmd) b || is_caught c b) ≡ true → buffer s' b ≡ buffer s b

pub sum_same : {X : Type 0} (f g : X → ℕ) (xs : List X) → ((x : X) → f x ≡ g x) → sum_by f xs ≡ sum_by g xs
sum_same f g [] h = refl
sum_same f g (x ∷ xs) h = sum_by-cons f x xs ∙ ap₂ (λ a b. a + b) (h x) (sum_same f g xs h) ∙ sym (sum_by-cons g x xs)

-- a cost read from a buffer, where the test passes
if_same : (cmd : Command) (f g : BufId → ℕ) (e : ℕ × Decl) → ((b : BufId) → has_buffer (named cmd) b ≡ true → f b ≡ g b) → if_named cmd f e ≡ if_named cmd g e
if_same cmd f g e h = by_test (has_buffer (named cmd) (record { 0 = e.0 })) refl
  where
    by_test : (q : Bool) → has_buffer (named cmd) (record { 0 = e.0 }) ≡ q → (if q then f (record { 0 = e.0 }) else 0) ≡ (if q then g (record { 0 = e.0 }) else 0)
    by_test true t = h (record { 0 = e.0 }) t
    by_test false t = refl

same_self : (b : BufId) → same_buffer b b ≡ true
same_self b = grind (arith, nat_tests)

victims_same : (s s' : State) (vs : List Victim) → ((b : BufId) → has_buffer (map (λ v. v.b) vs) b ≡ true → buffer s' b ≡ buffer s b) →
    sum_by (λ v. victim_left (buffer s' v.b) v) vs ≡ sum_by (λ v. victim_left (buffer s v.b) v) vs
victims_same s s' [] h = refl
victims_same s s' (v ∷ vs) h =
    let first : has_buffer (map (λ v. v.b) (v ∷ vs)) v.b ≡ true = (let t : same_buffer v.b v.b ≡ true = same_self v.b in grind arith) in
    let rest : sum_by (λ v. victim_left (buffer s' v.b) v) vs ≡ sum_by (λ v. victim_left (buffer s v.b) v) vs =
    victims_same s s' vs (λ b k. h b (grind arith)) in
    sum_by-cons (λ v. victim_left (buffer s' v.b) v) v vs
    ∙ ap₂ (λ a b. a + b) (ap (λ x. victim_left x v) (h v.b first)) rest
    ∙ sym (sum_by-cons (λ v. victim_left (buffer s v.b) v) v vs)

or_first : (a b : Bool) → a ≡ true → (a || b) ≡ true
or_first a b e = grind arith

or_second : (a b : Bool) → b ≡ true → (a || b) ≡ true
or_second a b e = grind arith

search_same : (script : Script) (s s' : State) (c : Course) (cmd : Command) → SameHad s s' c cmd → search_left script s' c cmd ≡ search_left script s c cmd
search_same script s s' c cmd same =
    let v : sum_by (λ v. victim_left (buffer s' v.b) v) c.caught ≡ sum_by (λ v. victim_left (buffer s v.b) v) c.caught =
    victims_same s s' c.caught (λ b k. same b (or_second (has_buffer (named cmd) b) (is_caught c b) k)) in
    let n : sum_by (search_share script s' c cmd) (enumerate_from 0 script.buffers) ≡ sum_by (search_share script s c cmd) (enumerate_from 0 script.buffers) =
    sum_same (search_share script s' c cmd) (search_share script s c cmd) (enumerate_from 0 script.buffers) (λ e. share e) in
    ap₂ (λ a b. 4194320 + (8 - c.dry) + 3 * room_for_victims (last_of c.caught) + a + b) v n
  where
    share : (e : ℕ × Decl) → search_share script s' c cmd e ≡ search_share script s c cmd e
    share e =
        ap (λ n. 4194304 * not_skipped c e + n)
        (if_same cmd (named_left script s' cmd) (named_left script s cmd) e
        (λ b k. ap (λ x. (5 + 6291456 * steps_left script cmd b x) * length x.table + 67108865 * slots_to_fill cmd x) (same b (or_first (has_buffer (named cmd) b) (is_caught c b) k))))

held_same : (script : Script) (s s' : State) (c : Course) (cmd : Command) → SameHad s s' c cmd → held_left script s' c cmd ≡ held_left script s c cmd
held_same script s s' c cmd same = by_fail c.fail
  where
    give : sum_by (if_named cmd (λ b. to_give_back (buffer s' b))) (enumerate_from 0 script.buffers) ≡ sum_by (if_named cmd (λ b. to_give_back (buffer s b))) (enumerate_from 0 script.buffers)
    give = sum_same (if_named cmd (λ b. to_give_back (buffer s' b))) (if_named cmd (λ b. to_give_back (buffer s b))) (enumerate_from 0 script.buffers)
        (λ e. if_same cmd (λ b. to_give_back (buffer s' b)) (λ b. to_give_back (buffer s b)) e (λ b k. ap to_give_back (same b (or_first (has_buffer (named cmd) b) (is_caught c b) k))))

    by_fail : (o : Option Deny) →
        ◌≡◌ {A = ℕ}
        (elim o [
          | Some deny ↦ 2097153 + sum_by (if_named cmd (λ b. to_give_back (buffer s' b))) (enumerate_from 0 script.buffers)
          | None ↦ packet_count cmd + search_left script s' c cmd
        ])
        (elim o [
          | Some deny ↦ 2097153 + sum_by (if_named cmd (λ b. to_give_back (buffer s b))) (enumerate_from 0 script.buffers)
          | None ↦ packet_count cmd + search_left script s c cmd
        ])
    by_fail (Some d) = ap (λ n. 2097153 + n) give
    by_fail None = ap (λ n. packet_count cmd + n) (search_same script s s' c cmd same)

pub command_same : (script : Script) (s s' : State) (c : Course) (cmd : Command) → (first_missing c cmd ≡ None → SameHad s s' c cmd) → command_left script s' c cmd ≡ command_left script s c cmd
command_same script s s' c cmd same = by_phase c.made (is_none c.stamp) (first_missing c cmd) refl
  where
    by_phase : (made fresh : Bool) (m : Option BufId) → first_missing c cmd ≡ m →
        ◌≡◌ {A = ℕ}
        (elim made [ true ↦ 2097153 | false ↦ elim fresh [ true ↦ whole_command script cmd | false ↦ elim (is_none m) [ true ↦ held_left script s' c cmd | false ↦ locking_left script cmd ] ] ])
        (elim made [ true ↦ 2097153 | false ↦ elim fresh [ true ↦ whole_command script cmd | false ↦ elim (is_none m) [ true ↦ held_left script s c cmd | false ↦ locking_left script cmd ] ] ])
    by_phase true fresh m h = refl
    by_phase false true m h = refl
    by_phase false false (Some b) h = refl
    by_phase false false None h = held_same script s s' c cmd (same h)

-- a thread's part, by its course
abbrev part : Script → State → ℕ → Option Course → Option Command → ℕ
part script z t o d =
    elim d [ None ↦ 0 | Some cmd ↦ command_left script z (unwrap_or o (new_course 0)) cmd + later_commands script t (unwrap_or o (new_course 0)).answered ]

abbrev command_of : Script → ℕ → Option Course → Option Command
command_of script t o = option_and_then (λ c. slice_get (commands_of script t) c.answered) o

-- a thread's part is the same where its course is, and, if it works, the buffers that it has
pub thread_same : (script : Script) (s s' : State) (t : ℕ) → course_of s' t ≡ course_of s t →
    ((c : Course) (cmd : Command) → course_of s t ≡ Some c → slice_get (commands_of script t) c.answered ≡ Some cmd → first_missing c cmd ≡ None → SameHad s s' c cmd) →
    thread_left script s' t ≡ thread_left script s t
thread_same script s s' t e same =
    ap (λ o. part script s' t o (command_of script t o)) e ∙ by_course (course_of s t) refl
  where
    by_command : (c : Course) → course_of s t ≡ Some c → (d : Option Command) → slice_get (commands_of script t) c.answered ≡ d → part script s' t (Some c) d ≡ part script s t (Some c) d
    by_command c h None k = refl
    by_command c h (Some cmd) k = ap (λ n. n + later_commands script t c.answered) (command_same script s s' c cmd (same c cmd h k))

    by_course : (o : Option Course) → course_of s t ≡ o → part script s' t o (command_of script t o) ≡ part script s t o (command_of script t o)
    by_course None h = refl
    by_course (Some c) h = by_command c h (slice_get (commands_of script t) c.answered) refl
