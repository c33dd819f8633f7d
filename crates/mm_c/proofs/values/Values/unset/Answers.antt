use Rattle.std.proofs.Common.{ℕ, List, None, ap, ◌∙◌, if◌then◌else◌}
use Rattle.std.specs.Prelude.{◌==◌}
use Rattle.mm_c.specs.UserValues.{value_at}
use Rattle.mm_c.proofs.ValueLaws.{updated}
use Rattle.mm_c.proofs.values.Values.unset.Goals as goal

pub returns : goal.returns
returns c = λ other. updated c.self.inside.set c.remove.new.self c.args.page None c.remove.ensures.updates other ∙ ap (λ (vs : List (ℕ × ℕ)). if other == c.args.page then 0 else value_at vs other) c.self.view_is
