use Rattle.std.proofs.Common.{◌-◌, ◌+◌, ◌++◌, arith}
use Rattle.manager_walk.specs.Cutting.{blocks_of}
use Rattle.manager_walk.proofs.BlockLaws.{all_put, one_put}
use Rattle.manager_walk.proofs.blocks.put_blocks.Goals as goal

pub returns-then-start-hole : goal.returns-then-start-hole
returns-then-start-hole c = all_put c.loop-page.blocks (c.args.blocks.now ++ blocks_of c.args.hole) (c.args.hole.end - c.loop-page._page) c.loop-page.start c.args.hole.end c.if-start-hole.true c.loop-page.invariant

pub loop-page-preserved : goal.loop-page-preserved
loop-page-preserved c =
    let l = c.loop-page-test.true in
    one_put c.loop-page.blocks c.push.new.self (c.args.blocks.now ++ blocks_of c.args.hole) (c.args.hole.end - c.loop-page._page) (c.args.hole.end - (c.loop-page._page + 1)) c.loop-page.start c.args.hole.end
    c.block_from-block.result (let s = c.if-start-hole.false in omega (arith, s)) (omega (arith, l)) c.block_from-block.ensures c.in_ok-push.ensures.ok c.loop-page.invariant
