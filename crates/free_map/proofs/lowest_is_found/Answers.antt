use Rattle.free_map.proofs.FoundLaws.{lowest_found}
use Rattle.free_map.proofs.lowest_is_found.Goals as goal

pub returns : goal.returns
returns c = λ held is_held told. lowest_found held is_held told
