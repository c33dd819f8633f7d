use Rattle.std.proofs.Common.{◌≡◌, ap, sym, ◌∙◌}
use Rattle.buddy_manager.specs.Held.{Managed, held_from, all_held}
use Rattle.buddy_manager.proofs.HeldLaws.{are_held, held_all}
use Rattle.buddy_manager.proofs.manager.BuddyManager.are_held.Goals as goal

pub returns : goal.returns
returns c =
    let e : c.are_held.result ≡ all_held c.args.blocks.now c.args.self.now.held
    = c.are_held.ensures ∙ ap (λ bs. all_held bs (held_from 0 c.self.inside.ends)) c.items.ensures ∙ ap (λ (m : Managed). all_held c.args.blocks.now m.held) c.self.view_is in
    (λ t. are_held c.args.blocks.now c.args.self.now.held (sym e ∙ t), λ h. e ∙ held_all c.args.blocks.now c.args.self.now.held h)
