-- A script without its marks has the same legal journals.
use Rattle.std.proofs.Common.{[]}
use Rattle.journal_model.specs.statements.MarkLaws.{MarksChangeNothing}
use Rattle.laws.proofs.law_search.Forms.{legal_alike}

pub marks_alike : MarksChangeNothing
marks_alike script journal = let both = legal_alike script.version [] script journal in (both.1, both.0)
