use Rattle.ttm_base.specs.Cutting.{pieces_of}
use Rattle.laws.specs.law_cutting.Parts.{IsPiece}
use Rattle.laws.proofs.law_cutting.Whole.{each_at, pieces_are}
use Rattle.laws.proofs.law_cutting.pieces_are_of_pages.Goals as goal

pub returns : goal.returns
returns c = λ o k p e. each_at (IsPiece o) (pieces_of o) k p (pieces_are o) e
