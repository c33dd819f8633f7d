use Rattle.std.proofs.Common.{◌∙◌, ap, ap₂, Bool}
use Rattle.std.specs.Prelude.{◌&&◌, ◌==◌}
use Rattle.room_queries.proofs.Over.{over_is}
use Rattle.room_queries.proofs.ends.is_over.Goals as goal

pub returns : goal.returns
returns c =
    c.are_all.ensures ∙ ap₂ (λ (a b : Bool). a && b) (ap₂ (λ (a b : Bool). a && b) c.have_answered-answered.ensures c.are_idle-idle.ensures) (ap (λ n. n == 0) c.len-gone.ensures)
    ∙ over_is c.args.script.now c.args.before.now c.args.parts.now c.requires
