use Rattle.std.proofs.Common.{sym, ◌∙◌}
use Rattle.script_text.proofs.Clean.{clean}
use Rattle.script_text.proofs.reader.judge.Goals as goal

pub follow-requires-clause-clean : goal.follow-requires-clause-clean
follow-requires-clause-clean c = clean c.args.progress.now c.args.line.now (sym c.in_ok-rule.ensures ∙ c.in_default.is) c.requires.said

pub returns : goal.returns
returns c = (sym c.in_ok-rule.ensures ∙ c.in_default.is, c.in_ok-follow.ensures _ c.requires.known.thread_mappings)
