use Rattle.std.proofs.Common.{◌≡◌, ◌≤◌, length, sym, ◌∙◌, ap, arith}
use Rattle.std.specs.Prelude.{◌&&◌, not}
use Rattle.laws.proofs.law_sound.Along.{sound_law}
use Rattle.journal_model.specs.rules.Dry.{is_loose}
use Rattle.bo_table.specs.Seen.{reservation_of}
use Rattle.room_state.specs.turns.Turns.{state_behind}
use Rattle.evict_core.specs.Walks.{stands_in, was_skipped}
use Rattle.evict_core.proofs.Lent.{not_there, lent_is, passes_loose, passes_not}
use Rattle.evict_core.proofs.victims.EvictableBufferTest.passes.Goals as goal

pub returns-then-b-len : goal.returns-then-b-len
returns-then-b-len c =
    let t = c.args.self.now in
    let r = t.rooms.now in
    let sound = sound_law r.script r.journal c.journal-legal.ensures.fits c.journal-legal.ensures.legal in
    let reservations : length c.bos-bos.result.now.reservations ≡ length (state_behind r).reservations = ap length c.bos-bos.ensures.reservations_are in
    let beyond : length (state_behind r).reservations ≤ c.args.b.0 = omega (arith, reservations, c.len.ensures, c.if-b-len.true) in
    not_there r.script (state_behind r) t.mem t.within (was_skipped t.skips.now t.marks c.args.b) c.args.b (sym sound.owned.reservations) beyond

pub returns-then-stands : goal.returns-then-stands
returns-then-stands c =
    let t = c.args.self.now in
    let r = t.rooms.now in
    let skipped = was_skipped t.skips.now t.marks c.args.b in
    let bo = c.get-bo.result.now in
    lent_is r.script (state_behind r) t.mem t.within skipped c.args.b c.bos-bos.result.now c.bos-bos.ensures bo c.get-bo.ensures c.is_loose-loose.result
    (passes_loose (stands_in bo t.mem t.within) c.is_loose-loose.result skipped (sym c.stands_in-stands.ensures ∙ c.if-stands.true) (sym c.was_skipped.ensures ∙ c.if-was_skipped.false)
    ∙ ap (λ x. (stands_in bo t.mem t.within && x) && not skipped) (c.is_loose-loose.ensures ∙ ap is_loose c.reservation.ensures))

pub returns-else-stands : goal.returns-else-stands
returns-else-stands c =
    let t = c.args.self.now in
    let r = t.rooms.now in
    let skipped = was_skipped t.skips.now t.marks c.args.b in
    let bo = c.get-bo.result.now in
    lent_is r.script (state_behind r) t.mem t.within skipped c.args.b c.bos-bos.result.now c.bos-bos.ensures bo c.get-bo.ensures c.stands_in-stands.result
    (c.stands_in-stands.ensures ∙ passes_not (stands_in bo t.mem t.within) (is_loose (reservation_of bo)) skipped (sym c.stands_in-stands.ensures ∙ c.if-stands.false))
