-- The pages of spans, in order: those of a buffer where the spans are its resource.
use Rattle.std.specs.Prelude.{ℕ, List, flat_map}
use Rattle.ttm_base.specs.declared.Span.{Span}
use Rattle.ttm_base.specs.ListWords.{count_from}
use Rattle.ttm_base.specs.Reach.{length_of}

-- the pages of a span
abbrev pub pages_of_span : Span → List ℕ
pages_of_span s = count_from 1 (length_of s) s.start

-- the pages of spans, in order
abbrev pub pages_of : List Span → List ℕ
pages_of spans = flat_map pages_of_span spans
