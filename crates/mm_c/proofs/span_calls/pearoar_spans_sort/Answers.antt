use Rattle.std.proofs.Common.{rules}
use Rattle.std.proofs.lemmas.List.Sorted.{IsNonDecreasingBy-from_sort_by_key}
use Rattle.mm_c.proofs.span_calls.pearoar_spans_sort.Goals as goal

pub returns-clause-sorted : goal.returns-clause-sorted
returns-clause-sorted c = IsNonDecreasingBy-from_sort_by_key (λ span. span.start) _ c.sort_unstable_by_key.ensures.sorted (λ a r q k. search rules)
