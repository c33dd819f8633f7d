use Rattle.std.proofs.Common.{◌≡◌, length}
use Rattle.journal_model.specs.rules.Places.{pages_of}
use Rattle.room_representation.specs.lemma_bytes.Mapped.{cleared}
use Rattle.room_pages.specs.binding.Apertures.{AreBelow}
use Rattle.room_pages.proofs.binding.apertures.clear_pages.Given as goal

-- to clear the pages that are left clears all
abbrev pub invariant-loop-page : goal.invariant-loop-page
invariant-loop-page l =
    (goal.iterator-loop-page).can_next l.page-iterator
    × (goal.iterator-loop-page).is_finite l.page-iterator
    × (cleared l.aper l.page-iterator ≡ cleared l.fn.aper (pages_of l.spans))
    × AreBelow l.page-iterator (length l.aper)
