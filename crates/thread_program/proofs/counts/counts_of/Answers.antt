use Rattle.std.proofs.Common.{sym, subst}
use Rattle.std.specs.Prelude.{IsTrue}
use Rattle.journal_model.specs.declared.script.Script.{Script}
use Rattle.journal_model.specs.scripts.ScriptRules.{is_script}
use Rattle.thread_program.proofs.CountLaws.{counts_are}
use Rattle.thread_program.proofs.counts.counts_of.Goals as goal

pub mismatches-requires : goal.mismatches-requires
mismatches-requires c = subst (λ (s : Script). IsTrue (is_script s)) (sym c.script-script.ensures) c.requires.load.fits

pub returns : goal.returns
returns c =
    counts_are c.args.device.now c.script-script.result.now c.journal-journal.result.now _ _ _ _ c.requires.load c.requires.ran c.script-script.ensures c.journal-journal.ensures.journal
    c.len.ensures c.command_count.ensures c.answers.ensures c.in_ok-mismatches.ensures.counted
