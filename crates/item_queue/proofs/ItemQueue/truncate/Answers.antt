use Rattle.std.proofs.Common.{drop, take, ap, ◌∙◌}
use Rattle.std.proofs.lemmas.List.{drop-take}
use Rattle.item_queue.proofs.ItemQueue.truncate.Goals as goal

pub returns-then-len : goal.returns-then-len
returns-then-len g c =
    c.settle-self-inside.ensures.same ∙ ap (drop c.self.inside.left) c.truncate.ensures.items ∙ drop-take c.self.inside.left c.args.len c.self.inside.stored.items ∙ ap (take c.args.len) c.self.view_is
