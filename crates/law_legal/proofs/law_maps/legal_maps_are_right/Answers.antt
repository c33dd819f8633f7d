use Rattle.law_legal.proofs.law_maps.Right.{maps_right}
use Rattle.law_legal.proofs.law_maps.legal_maps_are_right.Goals as goal

pub returns : goal.returns
returns c = maps_right
