use Rattle.std.proofs.Common.{◌∙◌, length, refl, sym}
use Rattle.entry_reader.proofs.HeadTold.{head_found, head_missing}
use Rattle.entry_reader.proofs.ScriptFacts.{small_version}
use Rattle.entry_reader.proofs.report.read_head.Goals as goal

pub returns-in-Some : goal.returns-in-Some
returns-in-Some c =
    let first = c.first_line_of-first.result.now in
    let second = c.first_line_of-second.result.now in
    head_found c.args.script.now c.args.text.now first c.behind-after.result.now second (length first) (length second) c.in-Some.count
    refl c.first_line_of-first.ensures c.behind-after.ensures refl c.first_line_of-second.ensures (sym c.in_ok-count.ensures ∙ c.in-Some.is)

pub returns-in-None : goal.returns-in-None
returns-in-None c =
    let first = c.first_line_of-first.result.now in
    let second = c.first_line_of-second.result.now in
    head_missing c.args.script.now c.args.text.now first c.behind-after.result.now second (length first) (length second) (small_version c.args.script.now c.requires)
    refl c.first_line_of-first.ensures c.behind-after.ensures refl c.first_line_of-second.ensures (sym c.in_ok-count.ensures ∙ c.in-None.is)
