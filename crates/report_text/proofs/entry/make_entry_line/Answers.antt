use Rattle.std.proofs.Common.{decimal, arith}
use Rattle.std.proofs.lemmas.Result.{on_ok_weaker}
use Rattle.std.proofs.lemmas.Grind.{common_steps}
use Rattle.journal_model.specs.scripts.Words.{actor_word}
use Rattle.journal_model.specs.reports.EntryText.{kind_words}
use Rattle.report_text.proofs.SpacedLaws.{line_of_two}
use Rattle.report_text.proofs.entry.make_entry_line.Goals as goal

pub returns : goal.returns
returns c =
    on_ok_weaker c.end_line.result
    (λ end. line_of_two (decimal c.args.number) (actor_word c.args.entry.now.who) c.put_actor.new.line c.put_kind.new.line c.end_line.new.self
    (kind_words c.args.script.now c.args.entry.now.kind) (grind (arith, common_steps)) c.in_ok-put_kind.ensures end)
    c.end_line.ensures
