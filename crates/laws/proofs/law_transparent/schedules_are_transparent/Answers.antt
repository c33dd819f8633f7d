use Rattle.laws.proofs.law_state.Turns.{scheduled_legal}
use Rattle.journal_model.specs.statements.Scheduled.{scheduled}
use Rattle.laws.proofs.law_transparent.Law.{transparent_given}
use Rattle.laws.proofs.law_transparent.Ways.{have_ways}
use Rattle.laws.proofs.law_transparent.schedules_are_transparent.Goals as goal

pub returns : goal.returns
returns c = λ script n fits. transparent_given script fits (have_ways script fits) (scheduled script n) (scheduled_legal script n)
