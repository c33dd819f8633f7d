use Rattle.std.proofs.Common.{◌≡◌, ℕ, ◌+◌, ◌-◌, ◌<◌, List, [], ◌∷◌, ◌++◌, Option, Some, None, ap, sym, ◌∙◌, length, arith}
use Rattle.std.specs.Prelude.{option_map}
use Rattle.ttm_base.specs.BuddyChoice.{candidate, first_candidate, log2, scattered}
use Rattle.ttm_base.specs.declared.Span.{Span}
use Rattle.rules_choice.specs.Marks.{marked, IsWithout}
use Rattle.rules_choice.specs.Candidates.{candidate_of}
use Rattle.rules_choice.proofs.BuddyLaws.{scattered_none, scattered_more}
use Rattle.rules_choice.proofs.buddy.scattered.Goals as goal

pub returns-in-None : goal.returns-in-None
returns-in-None c =
    let marks = c.loop-block.rest.marks.items in
    let some : 0 < c.loop-block.left = omega arith in
    let orders = c.log2.ensures.value in
    let none : first_candidate (candidate (marked marks) (length marks) c.args.range c.args.topdown) (log2 c.loop-block.left + 1) ≡ None
    = ap (λ n. first_candidate (candidate (marked marks) (length marks) c.args.range c.args.topdown) (n + 1)) (sym orders) ∙ sym c.first_candidate.ensures
    ∙ ap (option_map candidate_of) c.in-None.is in
    sym (ap (option_map (λ more. c.loop-block.spans ++ more)) (scattered_none (c.args.pages - c.loop-block._block) (marked marks) (length marks) c.args.range c.args.topdown c.loop-block.left some none))
    ∙ c.loop-block.invariant.same

pub loop-block-preserved : goal.loop-block-preserved
loop-block-preserved c =
    let marks = c.loop-block.rest.marks.items in
    let rest = c.without-rest.result.marks.items in
    let block = c.in-Some.found.block in
    let fuel = c.args.pages - c.loop-block._block in
    let enough : 0 < c.args.pages - c.loop-block._block = omega arith in
    let some : 0 < c.loop-block.left = omega arith in
    let orders = c.log2.ensures.value in
    let found : first_candidate (candidate (marked marks) (length marks) c.args.range c.args.topdown) (log2 c.loop-block.left + 1) ≡ Some (candidate_of c.in-Some.found)
    = ap (λ n. first_candidate (candidate (marked marks) (length marks) c.args.range c.args.topdown) (n + 1)) (sym orders) ∙ sym c.first_candidate.ensures
    ∙ ap (option_map candidate_of) c.in-Some.is in
    let without : IsWithout marks block rest = c.without-rest.ensures in
    let behind : ℕ → ℕ → List Span → Option (List Span)
    = λ n left spans. option_map (λ more. spans ++ more) (scattered n (marked rest) (length rest) c.args.range c.args.topdown left) in
    let less : c.args.pages - (c.loop-block._block + 1) ≡ c.args.pages - c.loop-block._block - 1 = omega arith in
    let left : c.saturating_sub-left.result ≡ c.loop-block.left - (block.end - block.start) = omega arith in
    let pushed : c.push.new.self ≡ c.loop-block.spans ++ block ∷ [] = c.in_ok-push-in-Some.ensures.ok in
    record {
      len = without.len ∙ c.loop-block.invariant.len;
      same =
          ap (λ (n : ℕ). behind n c.saturating_sub-left.result c.push.new.self) less
          ∙ ap (λ (n : ℕ). behind (fuel - 1) n c.push.new.self) left
          ∙ ap (λ (spans : List Span). behind (fuel - 1) (c.loop-block.left - (block.end - block.start)) spans) pushed
          ∙ scattered_more fuel (marked marks) (marked rest) (length marks) (length rest) c.args.range c.args.topdown c.loop-block.left c.loop-block.spans (candidate_of c.in-Some.found)
          enough some without.len without.taken found
          ∙ c.loop-block.invariant.same;
    }
