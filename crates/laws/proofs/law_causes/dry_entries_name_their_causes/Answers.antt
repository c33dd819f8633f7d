use Rattle.laws.proofs.law_causes.Reasons.{dry_explained}
use Rattle.laws.proofs.law_causes.dry_entries_name_their_causes.Goals as goal

pub returns : goal.returns
returns c = λ script s t b k w h. dry_explained script s t b k w h
