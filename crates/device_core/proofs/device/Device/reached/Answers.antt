use Rattle.std.proofs.Common.{◌≡◌, ◌<◌, ◌≤◌, length, ◌∙◌, subst, arith}
use Rattle.device_core.specs.Done.{done_of}
use Rattle.device_core.specs.Kept.{Kept}
use Rattle.device_core.proofs.DoneLaws.{reached_is, reached_none}
use Rattle.device_core.proofs.device.Device.reached.Goals as goal

pub returns-then-ctx-contexts : goal.returns-then-ctx-contexts
returns-then-ctx-contexts c =
    let known : c.args.ctx < length c.line-timeline.result.now = omega arith in
    subst (λ (k : Kept). c.reached.result ≡ done_of k.journal c.args.ctx) c.self.view_is
    (c.reached.ensures.done
    ∙ reached_is c.self.inside.rooms.script c.self.invariant.fits c.args.ctx c.self.inside.rooms.journal c.self.invariant.legal c.line-timeline.result.now c.line-timeline.ensures known)

pub returns-else-ctx-contexts : goal.returns-else-ctx-contexts
returns-else-ctx-contexts c =
    let beyond : length c.line-timeline.result.now ≤ c.args.ctx = omega arith in
    subst (λ (k : Kept). 0 ≡ done_of k.journal c.args.ctx) c.self.view_is
    (reached_none c.self.inside.rooms.script c.self.invariant.fits c.args.ctx c.self.inside.rooms.journal c.self.invariant.legal c.line-timeline.result.now c.line-timeline.ensures beyond)
