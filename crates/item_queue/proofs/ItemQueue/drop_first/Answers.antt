use Rattle.std.proofs.Common.{drop, ap, sym, ◌∙◌, drop-drop}
use Rattle.item_queue.proofs.ItemQueue.drop_first.Goals as goal

pub returns : goal.returns
returns g c = c.settle-self-inside.ensures.same ∙ sym (drop-drop 1 c.self.inside.left c.self.inside.stored.items) ∙ ap (drop 1) c.self.view_is
