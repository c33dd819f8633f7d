use Rattle.std.proofs.Common.{◌∙◌, ap}
use Rattle.fence_core.specs.Fences.{needed}
use Rattle.room_queries.proofs.Known.{declared_lent}
use Rattle.room_queries.proofs.Needs.{lent_length, lent_need}
use Rattle.room_queries.proofs.waits.need.Goals as goal

pub get-requires : goal.get-requires
get-requires c = declared_lent c.args.script.now c.args.before.now c.args.parts.now c.requires.held c.args.b c.requires.declared

pub need-requires : goal.need-requires
need-requires c = lent_length c.args.script.now c.args.before.now c.args.parts.now c.requires.held c.args.b c.requires.declared c.get.result.now c.get.ensures

pub returns : goal.returns
returns c =
    c.need.ensures ∙ ap (λ u. needed u c.args.parts.now.timeline c.get.result.now.resv.fences) c.covering.ensures
    ∙ lent_need c.args.script.now c.args.before.now c.args.parts.now c.requires.held c.args.b c.requires.declared c.get.result.now c.get.ensures c.args.usage
