use Rattle.std.proofs.Common.{◌≡◌, ◌<◌, ◌∙◌, Some, ap, length, refl, sym, arith}
use Rattle.std.specs.Prelude.{slice_get}
use Rattle.std.proofs.lemmas.Option.{slice_get_read}
use Rattle.bo_table.specs.Seen.{body_of}
use Rattle.page_accounts.specs.Amounts.{counted}
use Rattle.page_accounts.specs.Counting.{with_ghost, with_where_live}
use Rattle.page_accounts.proofs.Adding.{buffer_counted, ghost_counted, held_by, left_by}
use Rattle.room_accounts.proofs.Counted.{accounts_are, few_buffers, many_buffers, many_lent}
use Rattle.room_accounts.proofs.accounts_of.Goals as goal

pub overflow_cast-many : goal.overflow_cast-many
overflow_cast-many c = let few = few_buffers c.args.script.now c.requires.fits in let many = c.len-many.ensures in omega (arith, few, many)

pub get-requires : goal.get-requires
get-requires c =
    let lent = many_lent c.args.script.now c.args.before.now c.args.parts.now c.requires in
    let many = c.len-many.ensures in
    omega (arith, lent, many)

pub loop-i-preserved : goal.loop-i-preserved
loop-i-preserved c =
    let bos = c.args.parts.now.bos.buffers in
    let more = buffer_counted bos c.loop-i.i (body_of c.get.result.now) (λ _. 0) c.get.ensures.body in
    c.add_where_live.ensures ∙ ap (λ a. with_where_live a (body_of c.get.result.now)) c.loop-i.invariant ∙ more

pub loop-holder-init : goal.loop-holder-init
loop-holder-init c =
    let bos = c.args.parts.now.bos.buffers in
    let all = many_buffers c.args.script.now c.args.before.now c.args.parts.now c.requires in
    let many = c.len-many.ensures in
    let ended : c.loop-i.i ≡ length bos = omega (arith, all, many) in
    c.loop-i.invariant ∙ ap (λ n. counted (held_by bos n) (λ _. 0)) ended

pub loop-holder-preserved : goal.loop-holder-preserved
loop-holder-preserved c =
    let bos = c.args.parts.now.bos.buffers in
    let ghosts = c.args.parts.now.ghosts in
    let j = c.loop-holder.holder-index in
    let r = c.holder-item.result in
    let lent = c.items-holder-items.result.now in
    let less : j < length lent = omega arith in
    let read : slice_get lent j ≡ Some r = slice_get_read lent (length lent) j r refl less c.holder-item.is in
    let there : slice_get ghosts j ≡ Some r = ap (λ l. slice_get l j) (sym c.items-holder-items.ensures) ∙ read in
    let more = ghost_counted (λ g. g.vram) (λ g. g.tt) (λ g. length g.frames) ghosts j r (held_by bos (length bos)) there in
    let before = ap (λ a. with_ghost a r.vram r.tt (length r.frames)) c.loop-holder.invariant in
    cc

pub returns : goal.returns
returns c =
    let same = ap length c.items-holder-items.ensures in
    accounts_are c.args.script.now c.args.before.now c.args.parts.now c.requires c.loop-holder.holder-index c.loop-holder.accounts c.close.new.self c.close.ensures.small (omega (arith, same))
    c.loop-holder.invariant c.close.ensures.closed
