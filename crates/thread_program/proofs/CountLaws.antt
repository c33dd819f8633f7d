-- What is counted of a run of a generated script.
use Rattle.std.proofs.Common.{◌≡◌, ℕ, ◌<◌, List, [], ◌∷◌, Result, Ok, Err, length, map, refl, sym, ap, ◌∙◌, subst, arith}
use Rattle.std.specs.Prelude.{IfOk, count_by, min, sum_by, drop, codes}
use Rattle.std.proofs.lemmas.Grind.{common_steps}
use Rattle.std.proofs.lemmas.List.{length-append}
use Rattle.io_edge.specs.Written.{Writes}
use Rattle.report_text.specs.declared.report.WriteFault.{WriteFault}
use Rattle.report_text.specs.declared.report.WriteFault.TheVariants as fault
use Rattle.report_text.specs.WriteFault.{faults_after_writing}
use Rattle.journal_model.specs.declared.script.Script.{Script}
use Rattle.journal_model.specs.declared.script.Command.{Command}
use Rattle.journal_model.specs.declared.entry.Entry.{Entry}
use Rattle.journal_model.specs.declared.entry.Kind.{Kind}
use Rattle.journal_model.specs.statements.Complete.{is_answer}
use Rattle.simulator.specs.Ends.{Kept}
use Rattle.laws.proofs.law_over.Totals.{number_of, sum_same, all_answered}
use Rattle.plain_memory.specs.Along as words
use Rattle.plain_memory.specs.Mismatches.{mismatches_of}
use Rattle.generated_load.specs.Loads.{IsLoad, load_script}
use Rattle.program_edges.specs.declared.status.Status.TheVariants as status
use Rattle.program_edges.specs.Edges.{Edge}
use Rattle.program_edges.specs.Written.{status_after}
use Rattle.plain_memory.proofs.AlongLaws.{transparent_has_none}
use Rattle.thread_program.specs.declared.counts.Counts.{Counts}
use Rattle.thread_program.specs.Ran.{IsThreaded}
use Rattle.thread_program.specs.Counted.{counts_text, load_counts, HasRunLoad, EndsCounted, told, broken, cut}

-- three threads
pub three_threads : (ts : List (List Command)) → map length ts ≡ 216 ∷ 216 ∷ 216 ∷ [] → length ts ≡ 3
three_threads [] h = absurd cc
three_threads (a ∷ []) h = absurd cc
three_threads (a ∷ b ∷ []) h = absurd cc
three_threads (a ∷ b ∷ c ∷ []) h = refl
three_threads (a ∷ b ∷ c ∷ d ∷ ts) h = absurd cc

-- and their commands
pub all_commands : (ts : List (List Command)) → map length ts ≡ 216 ∷ 216 ∷ 216 ∷ [] → sum_by length ts ≡ 648
all_commands [] h = absurd cc
all_commands (a ∷ []) h = absurd cc
all_commands (a ∷ b ∷ []) h = absurd cc
all_commands (a ∷ b ∷ c ∷ []) h =
    let first : length a ≡ 216 = cc in
    let second : length b ≡ 216 = cc in
    let third : length c ≡ 216 = cc in
    omega (arith, first, second, third)
all_commands (a ∷ b ∷ c ∷ d ∷ ts) h = absurd cc

-- ---- the results

same_answer : (k : Kind) → words.is_answer k ≡ is_answer k
same_answer k = grind (arith, common_steps)

-- and as many results and refusals
pub all_results : (k : Kept) → IsLoad k.script → IsThreaded k.script k → count_by (λ e. words.is_answer e.kind) k.journal ≡ 648
all_results k load ran =
    sum_same (λ (e : Entry). number_of (words.is_answer e.kind)) (λ (e : Entry). number_of (is_answer e.kind)) k.journal (λ e. ap number_of (same_answer e.kind))
    ∙ all_answered k.script k.journal ran.legal ran.complete
    ∙ all_commands k.script.threads load.lens

-- the counts of a run
pub counts_are : (k : Kept) (script : Script) (journal : List Entry) (threads commands results mismatches : ℕ) → IsLoad k.script → IsThreaded k.script k → script ≡ k.script → journal ≡ k.journal
    → threads ≡ length script.threads → commands ≡ min (sum_by length script.threads) 18446744073709551615
    → results ≡ count_by (λ e. words.is_answer e.kind) journal → mismatches ≡ mismatches_of script journal
    → record { threads = threads; commands = commands; results = results; mismatches = mismatches } ≡ load_counts
counts_are k script journal threads commands results mismatches load ran of along t c r m =
    let three : threads ≡ 3 = t ∙ ap (λ (s : Script). length s.threads) of ∙ three_threads k.script.threads load.lens in
    let sum : sum_by length script.threads ≡ 648 = ap (λ (s : Script). sum_by length s.threads) of ∙ all_commands k.script.threads load.lens in
    let all : commands ≡ 648 = omega (arith, c, sum) in
    let answers : results ≡ 648 = r ∙ ap (λ (es : List Entry). count_by (λ e. words.is_answer e.kind) es) along ∙ all_results k load ran in
    let differ : mismatches ≡ 0 = m ∙ ap (λ (s : Script). mismatches_of s journal) of ∙ ap (mismatches_of k.script) along ∙ transparent_has_none k.script k.journal ran.laws.transparent in
    cc

-- ---- the end

-- the text begins with a byte
pub counts_some : (n : ℕ) (counts : Counts) → 0 < length (counts_text n counts)
counts_some n counts = let e = length-append (codes "g") (drop 1 (counts_text n counts)) in omega (arith, e)

-- a run of a generated script
pub run_of_load : {E : Type 0} (n : ℕ) (script : Script) (r : Result Kept E) → script ≡ load_script n → IsLoad (load_script n) → IfOk r (IsThreaded script) → IfOk r (HasRunLoad n)
run_of_load n script (Ok k) is load ran = record {
  of = ran.of ∙ is;
  load = subst IsLoad (sym (ran.of ∙ is)) load;
  ran = subst (λ (s : Script). IsThreaded s k) (sym ran.of) ran;
}
run_of_load n script (Err e) is load ran = ran

-- how it ends, by what was written
pub ends_counted : {T : Type 0} (n : ℕ) (sink : Edge) (k : Kept) (r : Result T WriteFault) → HasRunLoad n k
    → Writes r sink.before sink.after (counts_text n load_counts) → sink.faults_after ≡ faults_after_writing r sink.faults_before
    → EndsCounted n sink (status_after status.Done r)
ends_counted n sink k (Ok x) ran text faults = told k ran (record { whole = text; faultless = faults })
ends_counted n sink k (Err fault.Failed) ran text faults = broken k ran (record { front = text; fault = faults })
ends_counted n sink k (Err fault.NoMemory) ran text faults = cut k ran (record { front = text; faultless = faults })
