use Rattle.std.proofs.Common.{◌≡◌, drop}
use Rattle.std.specs.Prelude.{slice_get}
use Rattle.journal_model.specs.rules.Places.{pages_of}
use Rattle.state_words.proofs.places.page_at.Given as goal

abbrev pub invariant-loop-span : goal.invariant-loop-span
invariant-loop-span l = slice_get (pages_of l.spans) l.i ≡ slice_get (pages_of (drop l.span-index l.spans)) l.left
