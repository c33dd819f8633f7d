use Rattle.std.proofs.Common.{◌≡◌, Some, Ok, sym, ◌∙◌, ap, subst}
use Rattle.ttm_base.specs.declared.Actor.TheVariants as actor
use Rattle.journal_model.specs.declared.entry.Kind.TheVariants as kind
use Rattle.room_state.specs.turns.Turns.{Kept, state_behind}
use Rattle.room_state.specs.turns.Turns.{entry_of, step_of}
use Rattle.room_state.specs.turns.BufferSearches.{seen}
use Rattle.move_pipeline.specs.Finds.{found}
use Rattle.move_pipeline.proofs.Founds.{entry_takes, tells}
use Rattle.move_pipeline.proofs.search.take_pages.Goals as goal

pub make-requires : goal.make-requires
make-requires c =
    let r = c.args.rooms.now in
    let h = seen r.script c.args.buffer_search in
    let e : Some (c.in-Some.mem, c.in-Some.spans) ≡ found r.script (state_behind r) h = sym c.in-Some.is ∙ c.in_ok-mem.ensures.found in
    subst (λ (k : Kept). entry_of k (actor.Thread c.args.thread) ≡ Ok (record { who = actor.Thread c.args.thread; kind = kind.Take c.args.buffer_search.b c.in-Some.mem c.in-Some.spans })) (sym c.in_ok-mem.ensures.same)
    (entry_takes r c.args.thread h c.requires.at (c.in-Some.mem, c.in-Some.spans) e)

pub returns-clause-found : goal.returns-clause-found
returns-clause-found c =
    let r = c.args.rooms.now in
    let h = seen r.script c.args.buffer_search in
    let e : Some (c.in-Some.mem, c.in-Some.spans) ≡ found r.script (state_behind r) h = sym c.in-Some.is ∙ c.in_ok-mem.ensures.found in
    tells r c.args.thread h c.requires.at (Some (c.in-Some.mem, c.in-Some.spans)) e

pub returns-clause-step : goal.returns-clause-step
returns-clause-step c =
    let r = c.args.rooms.now in
    let h = seen r.script c.args.buffer_search in
    let e : Some (c.in-Some.mem, c.in-Some.spans) ≡ found r.script (state_behind r) h = sym c.in-Some.is ∙ c.in_ok-mem.ensures.found in
    λ made. ap step_of (entry_takes r c.args.thread h c.requires.at (c.in-Some.mem, c.in-Some.spans) e)
