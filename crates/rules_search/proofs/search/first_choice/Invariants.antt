use Rattle.std.proofs.Common.{◌≡◌, drop}
use Rattle.ttm_base.specs.Placement.{first_places}
use Rattle.journal_model.specs.rules.Search.{first_choice}
use Rattle.rules_search.proofs.search.first_choice.Given as goal

abbrev pub invariant-loop-p : goal.invariant-loop-p
invariant-loop-p l = first_choice l.script l.state l.b (first_places l.list) ≡ first_choice l.script l.state l.b (first_places (drop l.p-index l.list))
