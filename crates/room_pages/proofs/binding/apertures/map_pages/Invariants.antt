use Rattle.std.proofs.Common.{◌≡◌, length}
use Rattle.std.specs.Prelude.{drop}
use Rattle.journal_model.specs.rules.Places.{pages_of}
use Rattle.room_representation.specs.lemma_bytes.Mapped.{mapped_to}
use Rattle.room_pages.specs.binding.Apertures.{AreBelow}
use Rattle.room_pages.proofs.binding.apertures.map_pages.Given as goal

-- to map the pages that are left to the places that are left maps all
abbrev pub invariant-loop-place : goal.invariant-loop-place
invariant-loop-place l =
    (goal.iterator-loop-place).can_next l.pages
    × (goal.iterator-loop-place).is_finite l.pages
    × (mapped_to l.aper l.pages (drop l.place-index l.table) ≡ mapped_to l.fn.aper (pages_of l.spans) l.table)
    × AreBelow l.pages (length l.aper)
