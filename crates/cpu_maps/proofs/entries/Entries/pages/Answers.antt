use Rattle.std.proofs.Common.{length, ap, sym, ◌∙◌}
use Rattle.cpu_maps.proofs.PieceLaws.{length_entries}
use Rattle.cpu_maps.proofs.entries.Entries.pages.Goals as goal

pub returns : goal.returns
returns c = sym (length_entries c.self.inside.begun.items c.self.inside.slots.items 0 c.self.inside.pages) ∙ ap (λ xs. length xs) c.self.view_is
