-- How many commands a thread has answered, after one more entry.
use Rattle.std.proofs.Common.{◌≡◌, ℕ, ◌+◌, cond, List, [], ◌∷◌, ◌++◌, ap, refl, ◌∙◌, arith}
use Rattle.std.specs.Prelude.{◌&&◌, map}
use Rattle.std.proofs.lemmas.List.Sums.{sum_by-cons}
use Rattle.journal_model.specs.declared.entry.Entry.{Entry}
use Rattle.journal_model.specs.statements.Complete.{answers_of, is_answer, is_by_thread}
use Rattle.journal_model.specs.rules.Legal.{Made}
use Rattle.journal_model.specs.marks.Mapped.{count_answers}

-- one more answer, or none
answers_next : (thread : ℕ) (es : List Entry) (e : Entry) → answers_of thread (es ++ e ∷ []) ≡ answers_of thread es + cond (is_by_thread thread e.who && is_answer e.kind) 1 0
answers_next thread [] e =
    let one = sum_by-cons (λ x. cond (is_by_thread thread x.who && is_answer x.kind) 1 0) e [] in
    omega (arith, one)
answers_next thread (x ∷ es) e =
    let whole = sum_by-cons (λ y. cond (is_by_thread thread y.who && is_answer y.kind) 1 0) x (es ++ e ∷ []) in
    let part = sum_by-cons (λ y. cond (is_by_thread thread y.who && is_answer y.kind) 1 0) x es in
    let rest = answers_next thread es e in
    omega (arith, whole, part, rest)

entries_next : (made : List Made) (e : Made) → map (λ m. m.entry) (made ++ e ∷ []) ≡ map (λ m. m.entry) made ++ e.entry ∷ []
entries_next [] e = refl
entries_next (m ∷ made) e = ap (λ es. m.entry ∷ es) (entries_next made e)

pub count_next : (thread : ℕ) (made : List Made) (e : Made) →
    count_answers thread (made ++ e ∷ []) ≡ count_answers thread made + cond (is_by_thread thread e.entry.who && is_answer e.entry.kind) 1 0
count_next thread made e = ap (answers_of thread) (entries_next made e) ∙ answers_next thread (map (λ m. m.entry) made) e.entry
