use Rattle.std.proofs.Common.{sym, ◌∙◌, ap, []}
use Rattle.std.specs.Prelude.{slice_get, unwrap_or}
use Rattle.journal_model.specs.rules.Places.{pages_of}
use Rattle.room_moves.proofs.mappings.map_target.Goals as goal

pub map_pages-requires : goal.map_pages-requires
map_pages-requires c = λ k p at. c.requires c.in-Tt.is k p (ap (λ ss. slice_get (pages_of ss) k) (ap (λ o. unwrap_or o []) c.in-Some.is ∙ sym c.items.ensures) ∙ at)
