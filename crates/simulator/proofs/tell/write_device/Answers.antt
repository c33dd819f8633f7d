use Rattle.std.proofs.Common.{List, sym, subst}
use Rattle.io_edge.specs.Written.{Writes}
use Rattle.journal_model.specs.declared.script.Script.{Script}
use Rattle.journal_model.specs.declared.entry.Entry.{Entry}
use Rattle.journal_model.specs.rules.Legal.{IsLegal}
use Rattle.journal_model.specs.reports.ReportText.{report}
use Rattle.simulator.proofs.ReportLaws.{answerable, same_accounts}
use Rattle.simulator.proofs.tell.write_device.Goals as goal

pub write_report-requires-clause-requests : goal.write_report-requires-clause-requests
write_report-requires-clause-requests g c =
    answerable c.rooms.result.now c.args.device.now c.script.result.now c.parts-held.result.now c.rooms.ensures c.script.ensures c.parts-held.ensures

pub write_report-requires-clause-legal : goal.write_report-requires-clause-legal
write_report-requires-clause-legal g c = λ _.
    subst (λ (s : Script). IsLegal s c.journal.result.now) (sym c.script.ensures)
    (subst (λ (j : List Entry). IsLegal c.args.device.now.script j) (sym c.journal.ensures.journal) c.journal.ensures.legal)

pub write_report-requires-clause-accounts : goal.write_report-requires-clause-accounts
write_report-requires-clause-accounts g c =
    same_accounts c.args.device.now.script c.script.result.now c.args.device.now.journal c.journal.result.now c.accounts-accounts.result c.script.ensures c.journal.ensures.journal c.accounts-accounts.ensures

pub returns-clause-text : goal.returns-clause-text
returns-clause-text g c =
    subst (λ (j : List Entry). Writes c.write_report.result (g.K.Sink.written c.args.sink.now) (g.K.Sink.written c.write_report.new.sink) (report c.args.device.now.script j)) c.journal.ensures.journal
    (subst (λ (s : Script). Writes c.write_report.result (g.K.Sink.written c.args.sink.now) (g.K.Sink.written c.write_report.new.sink) (report s c.journal.result.now)) c.script.ensures c.write_report.ensures.text)
