-- For each context the greatest number that is done after some entries.
use Rattle.std.proofs.Common.{ℕ, ◌≤◌, List, [], ◌∷◌, ◌++◌, arith}
use Rattle.std.specs.Prelude.{◌==◌, fold, max, if◌then◌else◌}
use Rattle.ttm_base.specs.declared.Actor.TheVariants as actor
use Rattle.journal_model.specs.declared.entry.Entry.{Entry}
use Rattle.journal_model.specs.declared.entry.Kind.{Kind}
use Rattle.journal_model.specs.declared.entry.Kind.TheVariants as kind

-- the number of the job that an entry ends, or 0
abbrev pub number_done : Kind → ℕ
number_done (kind.Done n) = n
number_done _ = 0

-- the number of the job that an entry ends, where it is of the context `ctx`, or 0
abbrev pub done_by : ℕ → Entry → ℕ
done_by ctx e = elim e.who [ actor.Engine c ↦ if c == ctx then number_done e.kind else 0 | actor.Thread t ↦ 0 | actor.Reaper ↦ 0 ]

-- the greatest number of a job of the context `ctx` that is done, or 0
abbrev pub done_of : List Entry → ℕ → ℕ
done_of entries ctx = fold (λ n e. max n (done_by ctx e)) 0 entries

-- ---- no done number falls when a journal grows

max_at_least : (a b : ℕ) → a ≤ max a b
max_at_least a b = grind arith

fold_at_least : (ctx : ℕ) (es : List Entry) (n : ℕ) → n ≤ fold (λ n e. max n (done_by ctx e)) n es
fold_at_least ctx [] n = omega arith
fold_at_least ctx (e ∷ es) n = let a = max_at_least n (done_by ctx e) in let b = fold_at_least ctx es (max n (done_by ctx e)) in omega (arith, a, b)

grows_from : (entries more : List Entry) (ctx n : ℕ) → fold (λ n e. max n (done_by ctx e)) n entries ≤ fold (λ n e. max n (done_by ctx e)) n (entries ++ more)
grows_from [] more ctx n = fold_at_least ctx more n
grows_from (e ∷ es) more ctx n = grows_from es more ctx (max n (done_by ctx e))

pub done_of_grows : (entries more : List Entry) (ctx : ℕ) → done_of entries ctx ≤ done_of (entries ++ more) ctx
done_of_grows entries more ctx = grows_from entries more ctx 0
