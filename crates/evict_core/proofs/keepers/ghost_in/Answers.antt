use Rattle.std.proofs.Common.{◌≡◌, refl, sym, ◌∙◌, ap}
use Rattle.std.specs.Prelude.{option_map}
use Rattle.journal_model.specs.declared.script.Script.{Script}
use Rattle.journal_model.specs.rules.Choice.{reach_of}
use Rattle.room_state.specs.turns.Turns.{state_behind}
use Rattle.room_representation.specs.declared.parts.Ghost.{Ghost}
use Rattle.evict_core.specs.Rows.{ghost_in}
use Rattle.journal_model.specs.declared.state.Ghost as state
use Rattle.evict_core.proofs.Rows.{ghost_same}
use Rattle.evict_core.proofs.NoGhosts.{none_found}
use Rattle.evict_core.proofs.keepers.ghost_in.Goals as goal

pub returns : goal.returns
returns c =
    let r = c.args.rooms.now in
    let s = state_behind r in
    let reached : c.reach_of.result ≡ reach_of r.script c.args.place = c.reach_of.ensures ∙ ap (λ (x : Script). reach_of x c.args.place) c.script.ensures.script in
    c.number_in.ensures
    ∙ ap (λ w. option_map (λ (g : Ghost). g.num) (ghost_in c.args.place.mem w c.ghosts.result.now)) reached
    ∙ ghost_same s.core.jobs s.last_jobs c.args.place.mem (reach_of r.script c.args.place) s.core.ghosts c.ghosts.result.now c.ghosts.ensures

pub returns-then-not-ghosts_hold : goal.returns-then-not-ghosts_hold
returns-then-not-ghosts_hold c =
    let r = c.args.rooms.now in
    let none = c.if-not-ghosts_hold.ensures refl in
    ap (option_map (λ (g : state.Ghost). g.num)) (sym (none_found c.args.place.mem (reach_of r.script c.args.place) (state_behind r).core.ghosts none))
