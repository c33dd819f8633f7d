use Rattle.room_state.proofs.beginning.FirstRepresented.{few_buffers, few_engines, made_held}
use Rattle.room_state.proofs.beginning.first.first_parts.Goals as goal

pub first_buffers-requires-clause-engines : goal.first_buffers-requires-clause-engines
first_buffers-requires-clause-engines c = few_engines c.args.script.now c.requires

pub first_buffers-requires-clause-buffers : goal.first_buffers-requires-clause-buffers
first_buffers-requires-clause-buffers c = few_buffers c.args.script.now c.requires

pub first_work-requires : goal.first_work-requires
first_work-requires c = few_engines c.args.script.now c.requires

pub returns : goal.returns
returns c = made_held c.args.script.now c.requires _ _ _ _ _ c.in_ok-buffers.ensures c.in_ok-work.ensures c.in_ok-memory.ensures c.new-ghosts.ensures c.new-tickets.ensures
