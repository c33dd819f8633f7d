use Rattle.std.proofs.Common.{◌+◌, length, length-set, ap, ◌∙◌, arith}
use Rattle.buddy_manager.specs.Held.{held_from}
use Rattle.buddy_manager.proofs.ManagedLaws.{held_at, trimmed_ends}
use Rattle.buddy_manager.proofs.ends.cut.Goals as goal

pub replace-requires : goal.replace-requires
replace-requires c =
    let a = held_at c.args.ends.now c.args.block c.requires.held in
    let e = a.end in
    let s = a.some in
    omega (arith, e, s)

pub returns-clause-len : goal.returns-clause-len
returns-clause-len c = ap length c.replace.ensures ∙ length-set c.args.ends.now c.args.block.start (c.args.block.start + c.args.keep)

pub returns-clause-held : goal.returns-clause-held
returns-clause-held c = ap (held_from 0) c.replace.ensures ∙ trimmed_ends c.args.ends.now c.args.block c.args.keep c.requires.some c.requires.held
