use Rattle.std.proofs.Common.{◌≡◌, ◌<◌, true, false, length, ◌∙◌, arith}
use Rattle.fence_core.specs.Fences.{is_open}
use Rattle.fence_core.proofs.SetLaws.{find_here, find_on}
use Rattle.fence_core.proofs.fence_set.FenceSet.need.Goals as goal

pub loop-ctx-preserved : goal.loop-ctx-preserved
loop-ctx-preserved c =
    let below : c.loop-ctx.ctx < length c.args.self.now = omega arith in
    let closed : is_open c.args.usage c.args.timeline.now c.args.self.now c.loop-ctx.ctx ≡ false = cc in
    c.loop-ctx.invariant ∙ find_on (is_open c.args.usage c.args.timeline.now c.args.self.now) c.loop-ctx.ctx (length c.args.self.now) below closed

pub returns-then-is_open : goal.returns-then-is_open
returns-then-is_open c =
    let below : c.loop-ctx.ctx < length c.args.self.now = omega arith in
    let found : is_open c.args.usage c.args.timeline.now c.args.self.now c.loop-ctx.ctx ≡ true = cc in
    let all = c.loop-ctx.invariant ∙ find_here (is_open c.args.usage c.args.timeline.now c.args.self.now) c.loop-ctx.ctx (length c.args.self.now) below found in
    rw all cc
