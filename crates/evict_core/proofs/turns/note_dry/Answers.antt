use Rattle.std.proofs.Common.{◌≡◌, false, true, sym, ◌∙◌, ap}
use Rattle.journal_model.specs.declared.script.Script.{Script}
use Rattle.journal_model.specs.rules.Dry.{is_long_enough}
use Rattle.room_state.specs.turns.Searching.{place_at_work}
use Rattle.room_state.specs.turns.Turns.{after_step, step_of}
use Rattle.room_state.specs.turns.BufferSearches.{place_search_of, seen}
use Rattle.evict_core.proofs.Entries.{entry_dry, entry_short, entry_waits}
use Rattle.evict_core.proofs.turns.note_dry.Goals as goal

pub make_dry-requires : goal.make_dry-requires
make_dry-requires c =
    let r = c.args.rooms.now in
    let p = c.place_at_work-place.result in
    let is = c.place_at_work-place.ensures ∙ ap (λ (x : Script). place_at_work (place_search_of x c.args.buffer_search)) c.script.ensures.script in
    let short : is_long_enough r.script c.args.buffer_search.b p ≡ false = sym (c.if-not-is_long_enough.ensures ∙ ap (λ (x : Script). is_long_enough x c.args.buffer_search.b p) c.script-2.ensures.script) in
    entry_short r c.args.thread (seen r.script c.args.buffer_search) c.requires.at p is c.requires.none short

pub returns-in-Some-clause-step : goal.returns-in-Some-clause-step
returns-in-Some-clause-step c =
    let r = c.args.rooms.now in
    let p = c.place_at_work-place.result in
    let is = c.place_at_work-place.ensures ∙ ap (λ (x : Script). place_at_work (place_search_of x c.args.buffer_search)) c.script.ensures.script in
    let long : is_long_enough r.script c.args.buffer_search.b p ≡ true = sym (c.if-not-is_long_enough.ensures ∙ ap (λ (x : Script). is_long_enough x c.args.buffer_search.b p) c.script-2.ensures.script) in
    sym (ap step_of (entry_waits r c.args.thread (seen r.script c.args.buffer_search) c.requires.at p is c.requires.none long c.requires.nobody c.in-Some.g c.in-Some.ensures))

pub returns-in-Some-clause-made : goal.returns-in-Some-clause-made
returns-in-Some-clause-made c =
    let r = c.args.rooms.now in
    let p = c.place_at_work-place.result in
    let is = c.place_at_work-place.ensures ∙ ap (λ (x : Script). place_at_work (place_search_of x c.args.buffer_search)) c.script.ensures.script in
    let long : is_long_enough r.script c.args.buffer_search.b p ≡ true = sym (c.if-not-is_long_enough.ensures ∙ ap (λ (x : Script). is_long_enough x c.args.buffer_search.b p) c.script-2.ensures.script) in
    sym (ap (after_step r) (entry_waits r c.args.thread (seen r.script c.args.buffer_search) c.requires.at p is c.requires.none long c.requires.nobody c.in-Some.g c.in-Some.ensures))

pub make_dry-requires-2 : goal.make_dry-requires-2
make_dry-requires-2 c =
    let r = c.args.rooms.now in
    let p = c.place_at_work-place.result in
    let is = c.place_at_work-place.ensures ∙ ap (λ (x : Script). place_at_work (place_search_of x c.args.buffer_search)) c.script.ensures.script in
    let long : is_long_enough r.script c.args.buffer_search.b p ≡ true = sym (c.if-not-is_long_enough.ensures ∙ ap (λ (x : Script). is_long_enough x c.args.buffer_search.b p) c.script-2.ensures.script) in
    entry_dry r c.args.thread (seen r.script c.args.buffer_search) c.requires.at p is c.requires.none long c.requires.nobody c.in_ok-rows.rows c.in_default.ensures c.in_ok-rows.ensures
