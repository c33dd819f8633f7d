use Rattle.std.proofs.Common.{[], ◌∷◌, ◌++◌}
use Rattle.std.specs.Prelude.{codes}
use Rattle.journal_model.specs.scripts.Words.{line}
use Rattle.report_text.specs.Parts.{mappings_part, outcome_part}
use Rattle.report_text.proofs.Parts.{first_of_three, second_of_three, third_of_three, wrote_two}
use Rattle.report_check.proofs.tail.write_tail.Goals as goal

pub returns-in_err-write_outcome : goal.returns-in_err-write_outcome
returns-in_err-write_outcome g c =
    first_of_three c.from_residual.result _ _
    (outcome_part c.args.script.now c.args.journal.now c.args.accounts.now) (mappings_part c.args.script.now c.args.journal.now) (line (codes "end" ∷ []))
    c.from_residual.ensures.0 c.in_err-write_outcome.ensures.text

pub returns-in_err-write_mappings : goal.returns-in_err-write_mappings
returns-in_err-write_mappings g c =
    second_of_three c.from_residual-in_err-write_mappings.result _ _ _
    (outcome_part c.args.script.now c.args.journal.now c.args.accounts.now) (mappings_part c.args.script.now c.args.journal.now) (line (codes "end" ∷ []))
    c.from_residual-in_err-write_mappings.ensures.0 c.in_ok-write_outcome.ensures.text c.in_err-write_mappings.ensures.text

pub returns-in_err-write_all : goal.returns-in_err-write_all
returns-in_err-write_all g c =
    third_of_three c.from_residual-in_err-write_all.result _ _ _ _
    (outcome_part c.args.script.now c.args.journal.now c.args.accounts.now) (mappings_part c.args.script.now c.args.journal.now) (line (codes "end" ∷ []))
    c.from_residual-in_err-write_all.ensures.0 c.in_ok-write_outcome.ensures.text c.in_ok-write_mappings.ensures.text c.in_err-write_all.ensures.text

pub returns : goal.returns
returns g c =
    wrote_two _ _ _ (outcome_part c.args.script.now c.args.journal.now c.args.accounts.now ++ mappings_part c.args.script.now c.args.journal.now) (line (codes "end" ∷ []))
    (wrote_two _ _ _ (outcome_part c.args.script.now c.args.journal.now c.args.accounts.now) (mappings_part c.args.script.now c.args.journal.now) c.in_ok-write_outcome.ensures.text c.in_ok-write_mappings.ensures.text)
    c.in_ok-write_all.ensures.text
