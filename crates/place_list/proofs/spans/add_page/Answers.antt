use Rattle.std.proofs.Common.{◌≡◌, ◌-◌, ◌+◌, true, false, length, arith}
use Rattle.std.specs.Prelude.{nat_eq}
use Rattle.std.proofs.lemmas.Grind.{common_steps}
use Rattle.std.proofs.lemmas.Bool.Decides.{nat_tests}
use Rattle.place_list.proofs.HoleLaws.{with_page_touching, with_page_apart, with_page_first}
use Rattle.place_list.proofs.spans.add_page.Goals as goal
use Rattle.place_list.proofs.spans.add_page.Goals.{then-len-gt0+else-last-page, else-len-gt0}

pub returns-then-last-page : goal.returns-then-last-page
returns-then-last-page c =
    let len : length c.args.holes.now ≡ (c.len-len.result - 1) + 1 = omega arith in
    let touching : nat_eq c.at-last.result.end c.args.page ≡ true = grind (arith, nat_tests) in
    let step = with_page_touching c.args.page c.args.holes.now (c.len-len.result - 1) c.at-last.result len c.at-last.ensures touching in
    grind (arith, common_steps, step)

pub returns : goal.returns
returns c =
    elim c.if-len-gt0.branch [
      | then-len-gt0+else-last-page w ↦
          let len : length c.args.holes.now ≡ (c.len-len.result - 1) + 1 = omega arith in
          let apart : nat_eq w.at-last.result.end c.args.page ≡ false = grind (arith, nat_tests) in
          let step = with_page_apart c.args.page c.args.holes.now (c.len-len.result - 1) w.at-last.result len w.at-last.ensures apart in
          grind (arith, common_steps, step)
      | else-len-gt0 w ↦
          let none : length c.args.holes.now ≡ 0 = omega arith in
          let step = with_page_first c.args.page c.args.holes.now none in
          grind (arith, common_steps, step)
    ]
