use Rattle.std.proofs.Common.{ℕ, List, Some, ap, ◌∙◌, if◌then◌else◌}
use Rattle.std.specs.Prelude.{◌==◌}
use Rattle.mm_c.specs.UserValues.{value_at}
use Rattle.mm_c.proofs.ValueLaws.{updated}
use Rattle.mm_c.proofs.values.Values.set.Goals as goal

pub returns-clause-set : goal.returns-clause-set
returns-clause-set c = λ other. updated c.self.inside.set c.insert.new.self c.args.page (Some c.args.value) c.in-Ok.ensures.updates other ∙ ap (λ (vs : List (ℕ × ℕ)). if other == c.args.page then c.args.value else value_at vs other) c.self.view_is
