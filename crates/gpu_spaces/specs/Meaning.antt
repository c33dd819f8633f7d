-- What a space says of a range of addresses, byte by byte.
use Rattle.std.specs.Prelude.{ℕ, ◌+◌, ◌<◌, ◌≤◌, ◌/◌, ◌≡◌, List, None, IsSome, flat_map, map}
use Rattle.ttm_base.specs.declared.Span.{Span}
use Rattle.ttm_base.specs.ListWords.{count_from}
use Rattle.journal_model.specs.rules.PlainMemory.{Memory, memory_range}
use Rattle.journal_model.specs.marks.Spaces.{Space}
use Rattle.journal_model.specs.marks.ByName.{Part, byte_there}

-- the bytes of the parts, one after the other
abbrev pub parts_shown : Memory → List Part → List ℕ
parts_shown memory parts = flat_map (λ p. memory_range memory p.b p.off p.len) parts

-- the bytes that a range of addresses has through the space
abbrev pub range_shown : Space → Memory → ℕ → ℕ → List ℕ
range_shown space memory addr len = map (λ i. byte_there space (addr + i) memory) (count_from 1 len 0)

-- each page of the range is mapped
abbrev pub IsMappedRange : Space → ℕ → ℕ → Type 0
IsMappedRange space addr len = (i : ℕ) → i < len → IsSome (space ((addr + i) / 4096))

-- each page of the span is mapped
abbrev pub IsMappedSpan : Space → Span → Type 0
IsMappedSpan space s = (page : ℕ) → s.start ≤ page → page < s.end → IsSome (space page)

-- a page of the range isn't mapped
pub record LacksPage (space : Space) (addr len : ℕ) : Type 0 where
  pub at : ℕ
  pub inside : at < len
  pub none : space ((addr + at) / 4096) ≡ None
