-- What the workers leave is a legal, complete journal; and how many workers there are.
use Rattle.std.proofs.Common.{◌≡◌, ℕ, zero, suc, ◌+◌, ◌<◌, ◌≤◌, true, List, [], ◌∷◌, ◌++◌, Option, Some, Result, Ok, Err, length, refl, sym, ◌∙◌, ap, subst, append-nil, arith}
use Rattle.std.specs.Prelude.{IfOk, IsTrue, map}
use Rattle.std.proofs.lemmas.List.{length-append, length-map}
use Rattle.std.proofs.lemmas.Bool.Decides.{nat_tests}
use mathlib.Core.List.{IsPrefix}
use Rattle.ttm_base.specs.declared.Actor.{Actor}
use Rattle.ttm_base.specs.declared.Actor.TheVariants as actor
use Rattle.ttm_base.specs.ListWords.{count_from}
use Rattle.journal_model.specs.declared.script.Script.{Script}
use Rattle.journal_model.specs.declared.entry.Entry.{Entry}
use Rattle.journal_model.specs.scripts.ScriptRules.{is_script}
use Rattle.journal_model.specs.statements.Complete.{is_complete, thread_numbers}
use Rattle.journal_model.specs.rules.Legal.{IsLegal}
use Rattle.simulator.specs.Ends.{Kept}
use Rattle.turn_lock.proofs.Prefixes.{prefix_trans}
use Rattle.laws.proofs.law_over.Stops.{last}
use Rattle.simulator.proofs.RunLaws.{keeps_laws}
use Rattle.thread_program.specs.Actors.{all_actors}
use Rattle.thread_program.specs.Ran.{IsThreaded}

-- ---- how many actors

count_len : (n start : ℕ) → length (count_from 1 n start) ≡ n
count_len zero start = refl
count_len (suc n) start = ap (λ k. suc k) (count_len n (1 + start))

few_threads : (script : Script) → IsTrue (is_script script) → length script.threads ≤ 16
few_threads script h = grind (arith, nat_tests)

few_engines : (script : Script) → IsTrue (is_script script) → script.sizes.engines ≤ 8
few_engines script h = grind (arith, nat_tests)

pub few_actors : (script : Script) → IsTrue (is_script script) → (1 ≤ length (all_actors script)) × (length (all_actors script) < 4294967296)
few_actors script h =
    let threads : List Actor = map actor.Thread (thread_numbers script) in
    let engines : List Actor = map actor.Engine (count_from 1 (script.sizes.engines + 1) 0) in
    let t = length-map (thread_numbers script) actor.Thread ∙ count_len (length script.threads) 1 in
    let e = length-map (count_from 1 (script.sizes.engines + 1) 0) actor.Engine ∙ count_len (script.sizes.engines + 1) 0 in
    let both = length-append threads engines in
    let all = length-append (threads ++ engines) (actor.Reaper ∷ []) in
    (omega (arith, t, e, both, all), omega (arith, t, e, both, all, few_threads script h, few_engines script h))

-- ---- what is left

pub threaded : (script : Script) (k : Kept) (xs : List Entry) → IsTrue (is_script script) → k.script ≡ script → IsLegal k.script k.journal → IsPrefix xs k.journal → is_complete script xs ≡ true → IsThreaded script k
threaded script k xs fits of legal front over =
    let whole : xs ++ front.0 ≡ k.journal = front.1 in
    let all : IsLegal script k.journal = subst (λ (s : Script). IsLegal s k.journal) of legal in
    let none : front.0 ≡ [] = last script xs front.0 (subst (λ (es : List Entry). IsLegal script es) (sym whole) all) over in
    let same : xs ≡ k.journal = sym (append-nil xs) ∙ ap (λ es. xs ++ es) (sym none) ∙ whole in
    record { of = of; legal = all; complete = subst (λ (es : List Entry). is_complete script es ≡ true) same over; laws = keeps_laws script k.journal fits all }

-- what is said of an Ok
pub at_ok : {T E : Type 0} (P : T → Type 0) (r : Result T E) (x : T) → r ≡ Ok x → IfOk r P → P x
at_ok P (Ok y) x h p = let same : y ≡ x = cc in subst P same p
at_ok P (Err e) x h p = cc

-- a worker has seen a list that is over, and the closed lock's list begins with it
pub finished : (script : Script) (k : Kept) (seen : List Entry) (root : Option Script) → IsTrue (is_script script)
    → (xs : List Entry) × IsPrefix xs seen × ((r : Script) × (root ≡ Some r) × (is_complete r xs ≡ true))
    → root ≡ Some script → IsPrefix seen k.journal → k.script ≡ script → IsLegal k.script k.journal → IsThreaded script k
finished script k seen root fits (xs, front, (r, at, over)) is before of legal =
    let same : r ≡ script = cc (at, is) in
    threaded script k xs fits of legal (prefix_trans xs seen k.journal front before) (subst (λ (s : Script). is_complete s xs ≡ true) same over)
