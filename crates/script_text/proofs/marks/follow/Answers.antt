use Rattle.std.proofs.Common.{subst}
use Rattle.journal_model.specs.declared.line.Line.TheVariants as line
use Rattle.journal_model.specs.declared.script.MarkKind.TheVariants as mark
use Rattle.journal_model.specs.scripts.MarkRules.{thread_mappings_after}
use Rattle.script_rules.specs.script_mappings.ThreadMappingLists.{IsThreadMappings}
use Rattle.script_text.proofs.Mapped.{vmap_pages, next_of}
use Rattle.script_text.proofs.marks.follow.Goals as goal

pub vmap-requires-clause-pages : goal.vmap-requires-clause-pages
vmap-requires-clause-pages c = vmap_pages c.args.progress.now c.args.line.now c.in-Vmap.va c.in-Vmap.n c.in-Vmap.b c.in-Vmap.off c.in-Vmap.is c.requires.clean c.requires.pages

pub returns-in_ok-map-in-Map : goal.returns-in_ok-map-in-Map
returns-in_ok-map-in-Map c =
    λ d k. next_of c.map.new.self d c.args.line.now (line.Map c.in-Map.b) c.in-Map.is
    (subst (λ b. IsThreadMappings c.map.new.self (thread_mappings_after d (mark.Map b))) c.first_of.ensures (c.in_ok-map-in-Map.ensures d k))

pub returns-in-Unmap : goal.returns-in-Unmap
returns-in-Unmap c =
    λ d k. next_of c.unmap.new.self d c.args.line.now (line.Unmap c.in-Unmap.b) c.in-Unmap.is
    (subst (λ b. IsThreadMappings c.unmap.new.self (thread_mappings_after d (mark.Unmap b))) c.first_of-in-Unmap.ensures (c.unmap.ensures d k))
