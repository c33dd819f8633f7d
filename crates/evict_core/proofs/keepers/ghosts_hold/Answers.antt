use Rattle.std.proofs.Common.{◌≡◌, subst, sym, ◌∙◌, arith, length}
use Rattle.std.proofs.lemmas.Bool.Decides.{nat_tests}
use Rattle.std.proofs.lemmas.Grind.{common_steps}
use Rattle.ttm_base.specs.declared.Mem.TheVariants.{Tt, Vram}
use Rattle.laws.proofs.law_transparent.PagesLaw.{ghosts_law}
use Rattle.room_state.specs.turns.Turns.{state_behind}
use Rattle.evict_core.specs.Rows.{HoldNone}
use Rattle.evict_core.proofs.NoGhosts.{none_holds, none_there}
use Rattle.evict_core.proofs.keepers.ghosts_hold.Goals as goal

pub returns-in-Tt : goal.returns-in-Tt
returns-in-Tt c = λ h.
    let r = c.args.rooms.now in
    let core = (state_behind r).core in
    let held = c.parts-parts.ensures in
    let good = ghosts_law r.script r.journal held.fits held.legal in
    let zero : c.lengths.result.ghosts ≡ 0 = grind (arith, nat_tests) in
    subst (λ m. HoldNone m core.ghosts) (sym c.in-Tt.is)
    (none_holds Tt core.buffers core.ghosts r.script.sizes.tt c.parts-parts.result.now.tt held.represents.tt good.first good.in_tt (sym c.lengths.ensures.ghosts ∙ zero))

pub returns-in-Vram : goal.returns-in-Vram
returns-in-Vram c = λ h.
    let r = c.args.rooms.now in
    let core = (state_behind r).core in
    let held = c.parts-parts.ensures in
    let good = ghosts_law r.script r.journal held.fits held.legal in
    let zero : c.lengths-in-Vram.result.ghosts ≡ 0 = grind (arith, nat_tests) in
    subst (λ m. HoldNone m core.ghosts) (sym c.in-Vram.is)
    (none_holds Vram core.buffers core.ghosts r.script.sizes.vram c.parts-parts.result.now.vram.resources held.represents.vram.held_as good.first good.in_vram (sym c.lengths-in-Vram.ensures.ghosts ∙ zero))

pub returns-then-is_empty : goal.returns-then-is_empty
returns-then-is_empty c = λ h.
    let s = state_behind c.args.rooms.now in
    let none : length c.parts-parts.result.now.ghosts ≡ 0 = (let e = c.is_empty.ensures in let t = c.if-is_empty.true in let i = c.items.ensures in grind (arith, common_steps, nat_tests)) in
    none_there s.core.jobs s.last_jobs c.args.mem s.core.ghosts c.parts-parts.result.now.ghosts c.parts-parts.ensures.represents.ghosts none
