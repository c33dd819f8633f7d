use Rattle.std.proofs.Common.{◌≡◌, Some, None, slice_get, ◌∙◌, sym, ap}
use Rattle.journal_model.specs.declared.script.Script.{Script}
use Rattle.room_state.specs.turns.Turns.{Kept, state_behind}
use Rattle.room_state.specs.turns.BufferSearches.{list_of}
use Rattle.move_pipeline.specs.Finds.{tried_at}
use Rattle.move_pipeline.proofs.Founds.{having, lacking}
use Rattle.move_pipeline.proofs.search.first_found.Goals as goal

pub returns-in-Some-clause-found : goal.returns-in-Some-clause-found
returns-in-Some-clause-found c =
    let r = c.args.rooms.now in
    let h = c.args.buffer_search in
    let p = c.place_at-tried.result in
    let same = c.loop-at.invariant.same in
    let script = c.script-in-loop-at.ensures.script ∙ ap (λ (k : Kept). k.script) same in
    let at : slice_get (list_of r.script h.b h.sought) c.loop-at.at ≡ Some p = ap (λ (x : Script). slice_get (list_of x h.b h.sought) c.loop-at.at) (sym script) ∙ c.place_at-tried.ensures in
    let e : Some c.in-Some.found ≡ tried_at r.script (state_behind r) h.b p = sym c.in-Some.is ∙ c.in_ok-found.ensures.found ∙ ap (λ (k : Kept). tried_at k.script (state_behind k) h.b p) same in
    having r.script (state_behind r) h.b (list_of r.script h.b h.sought) c.loop-at.at p c.in-Some.found at e ∙ sym c.loop-at.invariant.left

pub loop-at-preserved : goal.loop-at-preserved
loop-at-preserved c =
    let r = c.args.rooms.now in
    let h = c.args.buffer_search in
    let p = c.place_at-tried.result in
    let same = c.loop-at.invariant.same in
    let script = c.script-in-loop-at.ensures.script ∙ ap (λ (k : Kept). k.script) same in
    let at : slice_get (list_of r.script h.b h.sought) c.loop-at.at ≡ Some p = ap (λ (x : Script). slice_get (list_of x h.b h.sought) c.loop-at.at) (sym script) ∙ c.place_at-tried.ensures in
    let e : None ≡ tried_at r.script (state_behind r) h.b p = sym c.in_default.is ∙ c.in_ok-found.ensures.found ∙ ap (λ (k : Kept). tried_at k.script (state_behind k) h.b p) same in
    record {
      same = c.in_ok-found.ensures.same ∙ same;
      left = c.loop-at.invariant.left ∙ lacking r.script (state_behind r) h.b (list_of r.script h.b h.sought) c.loop-at.at p at e;
    }
