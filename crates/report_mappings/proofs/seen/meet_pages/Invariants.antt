use Rattle.std.proofs.Common.{◌≡◌, ℕ}
use Rattle.report_mappings.specs.Faults.{met_by, seen_at}
use Rattle.report_mappings.proofs.Numbered.{still_to_meet}
use Rattle.report_mappings.proofs.seen.meet_pages.Given as goal

-- once the pages from this one on have the number, all have it that are to
abbrev pub invariant-loop-page : goal.invariant-loop-page
invariant-loop-page l = (c i : ℕ) → still_to_meet l.access l.page l.number l.seen c i ≡ met_by l.access l.number c i (seen_at l.fn.seen c i)
