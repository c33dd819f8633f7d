-- Which entries are applied without memory.
use Rattle.std.specs.Prelude.{Bool, true, false}
use Rattle.journal_model.specs.declared.entry.Kind.{Kind}
use Rattle.journal_model.specs.declared.entry.Kind.TheVariants as kind

-- steps of pages and of packets
abbrev pub takes_no_memory : Kind → Bool
takes_no_memory (kind.Populate b page frame) = true
takes_no_memory (kind.SwapIn b page slot frame) = true
takes_no_memory (kind.SwapOut b page slot) = true
takes_no_memory (kind.Packet num k piece) = true
takes_no_memory _ = false
