use Rattle.std.proofs.Common.{◌≡◌, IfOk, subst}
use Rattle.swap_core.proofs.SwapLaws.{swap_declared, swap_turn, swap_waits}
use Rattle.swap_core.proofs.swapping.swap_out.Goals as goal

pub next_of_swap-next-requires : goal.next_of_swap-next-requires
next_of_swap-next-requires c = swap_declared c.args.rooms.now c.args.thread c.args.b c.requires.buffer c.requires.due c.journal-legal.ensures.fits c.journal-legal.ensures.legal

pub turn-requires : goal.turn-requires
turn-requires c = swap_turn c.args.rooms.now c.args.thread c.args.b c.requires.buffer c.requires.due c.in-Some.slot c.in-Some.ensures c.next_of_swap-next.result c.next_of_swap-next.ensures

pub returns-clause-waits : goal.returns-clause-waits
returns-clause-waits c =
    let waits = swap_waits c.args.rooms.now c.args.thread c.args.b c.requires.buffer c.requires.due c.in-Some.slot c.in-Some.ensures c.next_of_swap-next.result c.next_of_swap-next.ensures in
    subst (λ told. IfOk c.turn.result (λ step. step ≡ told)) waits c.turn.ensures.told
