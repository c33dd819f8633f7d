use Rattle.std.proofs.Common.{◌≡◌, length}
use Rattle.test_parts.proofs.copies.apertures.pages_are_mapped_apart.Given as goal

-- there are four pages
abbrev pub invariant-loop-page : goal.invariant-loop-page
invariant-loop-page g l = length l.aper ≡ 4
