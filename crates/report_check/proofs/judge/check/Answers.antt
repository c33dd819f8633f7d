use Rattle.report_check.proofs.ReplayLaws.{held_first}
use Rattle.report_check.proofs.judge.check.Goals as goal

pub judged-requires : goal.judged-requires
judged-requires c =
    held_first c.args.script.now c.args.journal.now c.in_ok-state.state c.in_ok-stores.stores c.requires c.in_ok-state.ensures c.in_ok-stores.ensures.sizes c.in_ok-stores.ensures.bytes
