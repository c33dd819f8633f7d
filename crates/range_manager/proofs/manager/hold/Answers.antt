use Rattle.std.proofs.Common.{◌+◌, ◌-◌, ◌&&◌, not, ap, sym, subst, ◌∙◌, arith}
use Rattle.std.specs.List.{list_any}
use Rattle.ttm_base.specs.Holes.{has_page}
use Rattle.range_manager.specs.Held.{held_spans}
use Rattle.range_manager.specs.Kept.{IsManaged}
use Rattle.range_manager.proofs.SpanLaws.{has_from}
use Rattle.range_manager.proofs.ManagedLaws.{all_open_in, hold_below, held_more, managed_more, used_more, count_within, with_some}
use Rattle.range_manager.proofs.manager.hold.Goals as goal

pub set-requires : goal.set-requires
set-requires c =
    let own = c.requires.some in
    let from = c.requires.from in
    let to = c.requires.to in
    let first = has_from c.args.choice.pages.start c.args.choice.hole from (omega arith) in
    let all = all_open_in c.args.holes.now c.args.ends.now c.args.used.now c.args.count.now c.args.choice.pages c.args.choice.hole c.requires.managed c.requires.hole first to in
    let below = hold_below c.args.ends.now c.args.choice.pages own all in
    omega (arith, below)

pub overflow_add-used : goal.overflow_add-used
overflow_add-used c =
    let own = c.requires.some in
    let from = c.requires.from in
    let to = c.requires.to in
    let first = has_from c.args.choice.pages.start c.args.choice.hole from (omega arith) in
    let all = all_open_in c.args.holes.now c.args.ends.now c.args.used.now c.args.count.now c.args.choice.pages c.args.choice.hole c.requires.managed c.requires.hole first to in
    let most = used_more c.args.holes.now c.args.ends.now c.args.used.now c.args.count.now c.args.choice.pages c.requires.managed own all in
    let small = c.requires.managed.small in
    omega (arith, most, small)

pub overflow_add-count : goal.overflow_add-count
overflow_add-count c =
    let own = c.requires.some in
    let from = c.requires.from in
    let to = c.requires.to in
    let first = has_from c.args.choice.pages.start c.args.choice.hole from (omega arith) in
    let all = all_open_in c.args.holes.now c.args.ends.now c.args.used.now c.args.count.now c.args.choice.pages c.args.choice.hole c.requires.managed c.requires.hole first to in
    let most = used_more c.args.holes.now c.args.ends.now c.args.used.now c.args.count.now c.args.choice.pages c.requires.managed own all in
    let small = c.requires.managed.small in
    let few = count_within c.args.holes.now c.args.ends.now c.args.used.now c.args.count.now c.requires.managed in
    omega (arith, most, few, small)

pub returns-clause-managed : goal.returns-clause-managed
returns-clause-managed c =
    let own = c.requires.some in
    let from = c.requires.from in
    let to = c.requires.to in
    let first = has_from c.args.choice.pages.start c.args.choice.hole from (omega arith) in
    let all = all_open_in c.args.holes.now c.args.ends.now c.args.used.now c.args.count.now c.args.choice.pages c.args.choice.hole c.requires.managed c.requires.hole first to in
    subst (λ es. IsManaged c.take.new.holes es (c.args.used.now + (c.args.choice.pages.end - c.args.choice.pages.start)) (c.args.count.now + 1)) (sym c.in_ok-set.ensures.set)
    (managed_more c.args.holes.now c.take.new.holes c.args.ends.now c.args.used.now c.args.count.now c.args.choice.pages c.requires.managed own all c.take.ensures.spaced
    (λ page. c.take.ensures.pages page ∙ ap (λ hs. list_any (has_page page) hs && not (has_page page c.args.choice.pages)) c.make_room.ensures.holes) (let r = c.in_ok-make_room.ensures.room in let t = c.take.ensures.room in omega (arith, r, t)))

pub returns-clause-held : goal.returns-clause-held
returns-clause-held c =
    let own = c.requires.some in
    let from = c.requires.from in
    let to = c.requires.to in
    let first = has_from c.args.choice.pages.start c.args.choice.hole from (omega arith) in
    let all = all_open_in c.args.holes.now c.args.ends.now c.args.used.now c.args.count.now c.args.choice.pages c.args.choice.hole c.requires.managed c.requires.hole first to in
    ap (held_spans 0) c.in_ok-set.ensures.set ∙ held_more c.args.ends.now c.args.choice.pages own all ∙ sym (with_some c.args.choice.pages (held_spans 0 c.args.ends.now) own)
