use Rattle.std.proofs.Common.{◌≡◌, ◌≤◌, length, ◌∙◌, ap, arith}
use Rattle.std.specs.Prelude.{option_and_then}
use Rattle.std.proofs.lemmas.Grind.{common_steps}
use Rattle.ttm_base.specs.declared.BufId.{BufId}
use Rattle.journal_model.specs.declared.script.Script.{Script}
use Rattle.journal_model.specs.rules.Dry.{cause_row}
use Rattle.laws.proofs.law_state.GoodStates.{good_law}
use Rattle.laws.proofs.law_sound.Along.{sound_law}
use Rattle.room_state.specs.turns.Turns.{state_behind}
use Rattle.evict_core.specs.Rows.{row_in}
use Rattle.evict_core.proofs.Rows.{few_buffers, row_more, row_same, rows_all}
use Rattle.evict_core.proofs.keepers.causes.Goals as goal

pub overflow_cast-b : goal.overflow_cast-b
overflow_cast-b c =
    let r = c.args.rooms.now in
    let few = few_buffers r.script c.journal-legal.ensures.fits in
    let many = (good_law r.script c.journal-legal.ensures.fits r.journal c.journal-legal.ensures.legal).many in
    let known = (sound_law r.script r.journal c.journal-legal.ensures.fits c.journal-legal.ensures.legal).owned.reservations in
    let lent = ap length c.bos-bos.ensures.reservations_are in
    omega (arith, few, many, known, lent, c.len-i-end.ensures, c.loop-i-test.true)

pub loop-i-preserved : goal.loop-i-preserved
loop-i-preserved c =
    let r = c.args.rooms.now in
    let s = state_behind r in
    let b : BufId = record { 0 = c.loop-i.i } in
    let same = row_same r.script s c.args.place b c.bos-bos.result.now c.bos-bos.ensures c.get.result.now c.get.ensures in
    let more = row_more r.script s.reservations c.args.place s.core.buffers c.loop-i.i same.0 same.1 in
    let row : c.row_in.result ≡ option_and_then (λ x. cause_row r.script s.reservations c.args.place (b, x)) same.0 =
    c.row_in.ensures ∙ ap (λ (x : Script). row_in x c.args.place b c.get.result.now) c.script.ensures.script ∙ same.2 in
    grind (arith, common_steps, more, row)

pub returns : goal.returns
returns c =
    let r = c.args.rooms.now in
    let known = (sound_law r.script r.journal c.journal-legal.ensures.fits c.journal-legal.ensures.legal).owned.reservations in
    let lent = ap length c.bos-bos.ensures.reservations_are in
    let all : length (state_behind r).core.buffers ≤ c.loop-i.i = omega (arith, known, lent, c.len-i-end.ensures, c.loop-i-test.false) in
    c.loop-i.invariant ∙ rows_all r.script (state_behind r) c.args.place c.loop-i.i all
