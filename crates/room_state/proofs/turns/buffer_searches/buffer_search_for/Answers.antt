use Rattle.std.proofs.Common.{ap, sym, ◌∙◌, subst, ◌<◌, length}
use Rattle.ttm_base.specs.declared.BufId.{BufId}
use Rattle.room_state.specs.declared.turns.buffer_searches.BufferSearch.{BufferSearch}
use Rattle.room_state.proofs.turns.BufferSearched.{buffer_search_buffer, searched_declared}
use Rattle.room_state.proofs.turns.buffer_searches.buffer_search_for.Goals as goal

pub returns-clause-declared : goal.returns-clause-declared
returns-clause-declared c =
    let r = c.args.rooms.now in
    let same = ap (λ (h : BufferSearch). h.b) c.buffer_search_by.ensures ∙ buffer_search_buffer c.in-Some.command.now c.course.result.now c.args.b c.args.aim in
    subst (λ (b : BufId). b.0 < length r.script.buffers) (sym same)
    (searched_declared r.script r.journal c.journal-legal.ensures.fits c.journal-legal.ensures.legal c.args.thread c.args.b c.args.aim c.requires)
