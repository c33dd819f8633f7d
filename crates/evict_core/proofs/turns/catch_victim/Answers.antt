use Rattle.std.proofs.Common.{◌∙◌, ap}
use Rattle.journal_model.specs.declared.script.Script.{Script}
use Rattle.room_state.specs.turns.Searching.{place_at_work}
use Rattle.room_state.specs.turns.Turns.{step_of}
use Rattle.room_state.specs.turns.BufferSearches.{place_search_of, seen}
use Rattle.evict_core.proofs.Entries.{entry_catches}
use Rattle.evict_core.proofs.turns.catch_victim.Goals as goal

pub make-requires : goal.make-requires
make-requires c =
    let r = c.args.rooms.now in
    let is = c.place_at_work.ensures ∙ ap (λ (x : Script). place_at_work (place_search_of x c.args.buffer_search)) c.script.ensures.script in
    entry_catches r c.args.thread (seen r.script c.args.buffer_search) c.requires.at c.place_at_work.result is c.requires.none c.in-Some.v c.why_of-why.result c.in-Some.ensures c.why_of-why.ensures

pub returns-clause-step : goal.returns-clause-step
returns-clause-step c =
    let r = c.args.rooms.now in
    let is = c.place_at_work.ensures ∙ ap (λ (x : Script). place_at_work (place_search_of x c.args.buffer_search)) c.script.ensures.script in
    λ made. ap step_of (entry_catches r c.args.thread (seen r.script c.args.buffer_search) c.requires.at c.place_at_work.result is c.requires.none c.in-Some.v c.why_of-why.result c.in-Some.ensures c.why_of-why.ensures)
