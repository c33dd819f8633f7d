-- Names, engines, actors, groups and operations that were written are read.
use Rattle.std.proofs.Common.{◌≡◌, ℕ, zero, suc, ◌<◌, ◌≤◌, ◌^◌, Bool, true, false, cond, List, [], ◌∷◌, length, Option, Some, None, refl, sym, ap, ◌∙◌, arith, bytes_eq}
use Rattle.std.specs.Prelude.{◌&&◌, ◌||◌, not, codes, decimal, unwrap_or, option_map, slice_get, nat_lt}
use Rattle.std.specs.List.{list_any, list_all}
use Rattle.std.proofs.lemmas.Bool.Decides.{nat_tests}
use Rattle.std.proofs.lemmas.Fmt.{digits_decimal, decimal_nonempty}
use Rattle.ttm_base.specs.declared.BufId.{BufId}
use Rattle.ttm_base.specs.declared.Actor.{Actor}
use Rattle.ttm_base.specs.declared.Actor.TheVariants as actor
use Rattle.journal_model.specs.declared.script.Script.{Script}
use Rattle.journal_model.specs.declared.script.Decl.{Decl}
use Rattle.journal_model.specs.declared.line.EngineWord.TheVariants as engine_as
use Rattle.journal_model.specs.declared.line.ActorWord.TheVariants as read_as
use Rattle.journal_model.specs.scripts.Words.{Text, name_of, actor_word}
use Rattle.journal_model.specs.rules.Commands.{undeclared}
use Rattle.journal_model.specs.scripts.Spelling.{group_word}
use Rattle.journal_model.specs.scripts.CommandRules.{is_between, is_declared}
use Rattle.journal_model.specs.scripts.ScriptRules.{is_name, same_text, has_distinct_names, is_decl, is_group, is_actor}
use Rattle.journal_model.specs.scripts.Reading.{known, names_of, number_in, group_of, engine_word_of, actor_of, thread_actor, engine_actor, is_plain, is_digit, read_on}
use Rattle.journal_model.specs.scripts.LineWords.{is_empty}
use Rattle.law_legal.proofs.law_script.NumberLaws.{own, number_again, between}
use Rattle.law_legal.proofs.law_script.WordLaws.{bytes_are}
use Rattle.law_legal.proofs.law_script.AgainLaws.{distinct, place_of_name}
use Rattle.law_legal.proofs.law_script.BufferSteps.{same_is}
use Rattle.law_legal.proofs.law_items.ListFacts.{length_map}
use Rattle.law_legal.proofs.law_script.Solid.{is_solid, is_word, is_small, small_word, number_small_word, name_small}
use Rattle.law_legal.proofs.law_items.Tests.{both, joint, le_is, lt_is, true_lt, apart}

-- ---- names

any_names : (w : Text) (ds : List Decl) → list_any (λ e. same_text w e.name) ds ≡ list_any (bytes_eq w) (names_of ds)
any_names w [] = refl
any_names w (d ∷ ds) = ap (λ b. b || list_any (λ e. same_text w e.name) ds) (same_is w d.name) ∙ ap (λ b. bytes_eq w d.name || b) (any_names w ds)

distinct_names : (ds : List Decl) → has_distinct_names ds ≡ true → distinct (names_of ds) ≡ true
distinct_names [] h = refl
distinct_names (d ∷ ds) h =
    let f = both (not (list_any (λ e. same_text d.name e.name) ds)) (has_distinct_names ds) h in
    joint (not (list_any (bytes_eq d.name) (names_of ds))) (distinct (names_of ds)) (ap not (sym (any_names d.name ds)) ∙ f.0) (distinct_names ds f.1)

name_there : (ds : List Decl) (i : ℕ) → i < length ds → slice_get (names_of ds) i ≡ Some (unwrap_or (slice_get ds i) undeclared).name
name_there [] i h = absurd (omega (arith, h))
name_there (d ∷ ds) zero h = refl
name_there (d ∷ ds) (suc i) h = name_there ds i (omega (arith, h))

first_of_six : (a b c d e f : Bool) → (a && b && c && d && e && f) ≡ true → a ≡ true
first_of_six true b c d e f h = refl
first_of_six false b c d e f h = absurd cc

name_fits : (v : ℕ) (ds : List Decl) (i : ℕ) → list_all (is_decl v) ds ≡ true → i < length ds → is_name (unwrap_or (slice_get ds i) undeclared).name ≡ true
name_fits v [] i a h = absurd (omega (arith, h))
name_fits v (d ∷ ds) zero a h = first_of_six (is_name d.name) _ _ _ _ _ (both (is_decl v d) (list_all (is_decl v) ds) a).0
name_fits v (d ∷ ds) (suc i) a h = name_fits v ds i (both (is_decl v d) (list_all (is_decl v) ds) a).1 (omega (arith, h))

found : (n i len : ℕ) (b : BufId) (made : ℕ → BufId) → n ≡ i → i < len → made i ≡ b → option_map made (cond (nat_lt n len) (Some n) None) ≡ Some b
found n i len b made e h same =
    ap (λ k. option_map made (cond (nat_lt k len) (Some k) None)) e ∙ ap (λ t. option_map made (cond t (Some i) None)) (lt_is i len h) ∙ ap (λ (x : BufId). Some x) same

-- the buffers of a script are declared once, by names
pub record IsNamed (s : Script) : Type 0 where
  pub decls : list_all (is_decl s.version) s.buffers ≡ true
  pub distinct_ones : has_distinct_names s.buffers ≡ true

-- the name of a buffer is known
pub known_again : (s : Script) (b : BufId) → IsNamed s → is_declared s b ≡ true → known (names_of s.buffers) (name_of s b) ≡ Some b
known_again s b h d =
    let lt = true_lt b.0 (length s.buffers) d in
    let len = length_map (λ (x : Decl). x.name) s.buffers in
    found _ b.0 (length (names_of s.buffers)) b (λ i. record { 0 = i })
    (place_of_name (names_of s.buffers) b.0 (name_of s b) (distinct_names s.buffers h.distinct_ones) (name_there s.buffers b.0 lt)) (omega (arith, lt, len)) refl

-- the name of a buffer is of letters and digits
pub name_word_small : (s : Script) (b : BufId) → IsNamed s → is_declared s b ≡ true → is_small (name_of s b) ≡ true
name_word_small s b h d = name_small (name_of s b) (name_fits s.version s.buffers b.0 h.decls (true_lt b.0 (length s.buffers) d))

-- ---- groups

not_dash : (b : Bool) (w : Text) → bytes_eq w (codes "-") ≡ b → list_all is_digit w ≡ true → b ≡ false
not_dash false w e h = refl
not_dash true w e h = absurd (apart (ap (list_all is_digit) (sym (bytes_are w (codes "-") e)) ∙ h))

-- a group is read
pub group_again : (g : Option ℕ) → is_group g ≡ true → group_of (group_word g) ≡ Some g
group_again None h = refl
group_again (Some g) h =
    let small = le_is g 15 h in
    let fits : g < 2 ^ 64 = omega (arith, small) in
    ap (λ b. cond b (Some None) (option_map (λ n. Some n) (number_in 0 15 (decimal g)))) (not_dash (bytes_eq (decimal g) (codes "-")) (decimal g) refl (digits_decimal own g fits))
    ∙ ap (option_map (λ n. Some n)) (number_again 0 15 g (omega arith) (omega arith) small)

-- a group is a word
pub group_solid : (g : Option ℕ) → is_group g ≡ true → is_word (group_word g) ≡ true
group_solid None h = refl
group_solid (Some g) h = let small = le_is g 15 h in small_word (decimal g) (number_small_word g (omega (arith, small)))

-- ---- engines and actors

some_is : (b : Bool) (n k : ℕ) → cond b (Some n) None ≡ Some k → (b ≡ true) × (n ≡ k)
some_is true n k h = (refl, cc)
some_is false n k h = absurd cc

-- a number is plain and in its range
pub plain_again : (low high n : ℕ) → high < 2 ^ 64 → low ≤ n → n ≤ high → (is_plain (decimal n) ≡ true) × (is_between low high (read_on 0 (decimal n)) ≡ true) × (read_on 0 (decimal n) ≡ n)
plain_again low high n small a b =
    let c = some_is (is_plain (decimal n) && is_between low high (read_on 0 (decimal n))) (read_on 0 (decimal n)) n (number_again low high n small a b) in
    let f = both (is_plain (decimal n)) (is_between low high (read_on 0 (decimal n))) c.0 in
    (f.0, f.1, c.1)

-- an engine is read
pub engine_again : (engines n : ℕ) → engines < 2 ^ 64 → is_between 1 engines n ≡ true → engine_word_of engines (decimal n) ≡ engine_as.Is n
engine_again engines n small h =
    let r = between 1 engines n h in
    let f = plain_again 1 engines n small r.0 r.1 in
    ap (λ b. cond (not b) engine_as.BrokenNumber (cond (is_between 1 engines (read_on 0 (decimal n))) (engine_as.Is (read_on 0 (decimal n))) engine_as.Missing)) f.0
    ∙ ap (λ b. cond b (engine_as.Is (read_on 0 (decimal n))) engine_as.Missing) f.1
    ∙ ap (λ k. engine_as.Is k) f.2

thread_again : (threads engines n : ℕ) → threads < 2 ^ 64 → is_between 1 threads n ≡ true → thread_actor threads (decimal n) ≡ read_as.Is (actor.Thread n)
thread_again threads engines n small h =
    let r = between 1 threads n h in
    let f = plain_again 1 threads n small r.0 r.1 in
    ap (λ b. cond (not b) read_as.BrokenNumber (cond (is_between 1 threads (read_on 0 (decimal n))) (read_as.Is (actor.Thread (read_on 0 (decimal n)))) read_as.Missing)) f.0
    ∙ ap (λ b. cond b (read_as.Is (actor.Thread (read_on 0 (decimal n)))) read_as.Missing) f.1
    ∙ ap (λ k. read_as.Is (actor.Thread k)) f.2

engine_actor_again : (engines n : ℕ) → engines < 2 ^ 64 → n ≤ engines → engine_actor engines (decimal n) ≡ read_as.Is (actor.Engine n)
engine_actor_again engines n small h =
    let f = plain_again 0 engines n small (omega arith) h in
    ap (λ b. cond (not b) read_as.BrokenNumber (cond (is_between 0 engines (read_on 0 (decimal n))) (read_as.Is (actor.Engine (read_on 0 (decimal n)))) read_as.Missing)) f.0
    ∙ ap (λ b. cond b (read_as.Is (actor.Engine (read_on 0 (decimal n)))) read_as.Missing) f.1
    ∙ ap (λ k. read_as.Is (actor.Engine k)) f.2

with_t : (threads engines : ℕ) (w : Text) → 0 < length w → actor_of threads engines (116 ∷ w) ≡ thread_actor threads w
with_t threads engines [] h = absurd (omega (arith, h))
with_t threads engines (d ∷ w) h = refl

with_e : (threads engines : ℕ) (w : Text) → 0 < length w → actor_of threads engines (101 ∷ w) ≡ engine_actor engines w
with_e threads engines [] h = absurd (omega (arith, h))
with_e threads engines (d ∷ w) h = refl

-- an actor is read
pub actor_again : (s : Script) (who : Actor) → length s.threads < 2 ^ 64 → s.sizes.engines < 2 ^ 64 → is_actor s who ≡ true → actor_of (length s.threads) s.sizes.engines (actor_word who) ≡ read_as.Is who
actor_again s (actor.Thread n) t e h =
    let r = between 1 (length s.threads) n h in
    with_t (length s.threads) s.sizes.engines (decimal n) (decimal_nonempty n (omega (arith, r.1, t))) ∙ thread_again (length s.threads) s.sizes.engines n t h
actor_again s (actor.Engine n) t e h =
    let r = le_is n s.sizes.engines h in
    with_e (length s.threads) s.sizes.engines (decimal n) (decimal_nonempty n (omega (arith, r, e))) ∙ engine_actor_again s.sizes.engines n e r
actor_again s actor.Reaper t e h = refl

some_word : (c : ℕ) (w : Text) → not (is_empty (c ∷ w)) ≡ true
some_word c w = grind (arith, nat_tests)

behind_letter : (c : ℕ) (w : Text) → is_solid c ≡ true → list_all is_solid w ≡ true → is_word (c ∷ w) ≡ true
behind_letter c w h k = joint (not (is_empty (c ∷ w))) (list_all is_solid (c ∷ w)) (some_word c w) (joint (is_solid c) (list_all is_solid w) h k)

-- an actor is a word
pub actor_solid : (s : Script) (who : Actor) → length s.threads < 2 ^ 64 → s.sizes.engines < 2 ^ 64 → is_actor s who ≡ true → is_word (actor_word who) ≡ true
actor_solid s (actor.Thread n) t e h =
    let r = between 1 (length s.threads) n h in
    let w = both (not (is_empty (decimal n))) (list_all is_solid (decimal n)) (small_word (decimal n) (number_small_word n (omega (arith, r.1, t)))) in
    behind_letter 116 (decimal n) refl w.1
actor_solid s (actor.Engine n) t e h =
    let r = le_is n s.sizes.engines h in
    let w = both (not (is_empty (decimal n))) (list_all is_solid (decimal n)) (small_word (decimal n) (number_small_word n (omega (arith, r, e)))) in
    behind_letter 101 (decimal n) refl w.1
actor_solid s actor.Reaper t e h = refl
