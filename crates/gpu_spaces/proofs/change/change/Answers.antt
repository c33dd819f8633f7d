use Rattle.std.proofs.Common.{◌≡◌, ℕ, ◌∙◌, ap, sym}
use Rattle.std.specs.Prelude.{option_map}
use Rattle.std.specs.Option.{is_some}
use Rattle.gpu_spaces.specs.Kept.{regions_in, region_of}
use Rattle.gpu_spaces.specs.Regions.{starting, head_at, tail_at, over, set_at}
use Rattle.gpu_spaces.proofs.Changing.{ordered_of_rising, change_is_sides}
use Rattle.gpu_spaces.proofs.Meeting.{around_page, around_small, fresh_tail, new_is, head_there}
use Rattle.gpu_spaces.proofs.change.change.Goals as goal
use Rattle.gpu_spaces.proofs.change.change.Goals.{in-Some, in_default}

pub tail-tail-requires-clause-page : goal.tail-tail-requires-clause-page
tail-tail-requires-clause-page c = around_page c.args.range.end (regions_in c.args.mappings.now) c.around-2.result c.around-2.ensures

pub tail-tail-requires-clause-small : goal.tail-tail-requires-clause-small
tail-tail-requires-clause-small c = around_small c.args.range.end (regions_in c.args.mappings.now) c.around-2.result c.requires.kept.small c.around-2.ensures

pub put_both-requires-clause-fresh : goal.put_both-requires-clause-fresh
put_both-requires-clause-fresh c = fresh_tail c.args.range.end (regions_in c.args.mappings.now) c.around-2.result c.tail-tail.result c.requires.kept.rising c.around-2.ensures c.tail-tail.ensures

pub put_both-requires-clause-ordered : goal.put_both-requires-clause-ordered
put_both-requires-clause-ordered c = ordered_of_rising (regions_in c.args.mappings.now) c.requires.kept.rising

pub replace-requires : goal.replace-requires
replace-requires c =
    ap is_some (c.in_ok-put_both.ensures.ok c.in-Some.head.span.start)
    ∙ head_there c.args.range (regions_in c.args.mappings.now) c.around.result c.around-2.result c.head-head.result c.tail-tail.result c.args.new c.in-Some.head c.requires.some c.requires.kept.rising
    c.around.ensures c.head-head.ensures c.in-Some.is c.tail-tail.ensures

pub returns-clause-ok : goal.returns-clause-ok
returns-clause-ok c =
    let range = c.args.range in
    let rs = regions_in c.args.mappings.now in
    let m2 = regions_in c.put_both.new.mappings in
    let headed : (q : ℕ) → starting q (regions_in c.match-head.mappings) ≡ over (option_map region_of c.head-head.result) (λ p. starting p m2) q = λ q. elim c.match-head.branch [
      | in-Some w ↦
          ap (λ m. starting q (regions_in m)) w.mappings-is
          ∙ w.replace.ensures.left q
          ∙ ap (λ o. over (option_map region_of o) (λ p. starting p m2) q) (sym w.in-Some.is)
      | in_default w ↦
          ap (λ m. starting q (regions_in m)) w.mappings-is
          ∙ ap (λ o. over (option_map region_of o) (λ p. starting p m2) q) (sym w.in_default.is)
    ] in
    change_is_sides range rs m2 (regions_in c.match-head.mappings) (regions_in c.clear.new.mappings) (option_map region_of c.args.new) c.requires.some c.requires.kept.rising c.clear.ensures.ordered (new_is range c.args.new c.requires.new)
    (record {
      put = λ q. c.in_ok-put_both.ensures.ok q ∙ ap (λ t. set_at range.start (option_map region_of c.args.new) (over t (λ p. starting p rs)) q) (c.tail-tail.ensures ∙ ap (tail_at range.end) c.around-2.ensures);
      headed = λ q. headed q ∙ ap (λ h. over h (λ p. starting p m2) q) (c.head-head.ensures ∙ ap (head_at range.start) c.around.ensures);
      cleared = c.clear.ensures.left;
    })
