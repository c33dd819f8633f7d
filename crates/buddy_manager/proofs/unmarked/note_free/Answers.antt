use Rattle.std.proofs.Common.{◌≡◌, true, set, Some, ap, sym, subst, ◌∙◌, arith}
use Rattle.ttm_base.specs.Reach.{is_inside}
use Rattle.buddy_manager.specs.Taking.{less}
use Rattle.buddy_manager.specs.Finding.{IsEven, IsKnown, behind, rest_of}
use Rattle.buddy_manager.proofs.KnownLaws.{noted_whole, noted_split}
use Rattle.buddy_manager.proofs.unmarked.note_free.Goals as goal

pub returns-then-order-whole-clause-known : goal.returns-then-order-whole-clause-known
returns-then-order-whole-clause-known c = λ f range is e g kn.
    let r = c.rest_of-rest.ensures in
    let a = c.block_around-around.ensures in
    let rest = rest_of c.args.rests.now c.args.whole in
    let b = c.behind.ensures ∙ ap (λ r. behind c.args.topdown r c.block_around-around.result) r ∙ ap (behind c.args.topdown rest) a in
    let even = subst (λ r. IsEven c.args.topdown r c.args.size c.args.whole) r (c.is_clear.ensures.even c.if-not-is_clear.false) in
    let inside = subst (λ b. is_inside rest b ≡ true) a (subst (λ r. is_inside r c.block_around-around.result ≡ true) r (c.is_clear.ensures.inside c.if-not-is_clear.false)) in
    subst (λ x. IsKnown (less g c.args.block) f c.args.size range (set c.args.rests.now c.args.whole x) c.args.half.now) (sym b)
    (noted_whole g f c.args.size range c.args.rests.now c.args.half.now c.args.topdown c.args.order c.args.whole c.args.block kn is even inside c.if-order-whole.true)

pub returns-clause-known : goal.returns-clause-known
returns-clause-known c = λ f range is e g kn.
    let r = c.rest_of-rest.ensures in
    let a = c.block_around-around.ensures in
    let rest = rest_of c.args.rests.now c.args.whole in
    let b = c.behind.ensures ∙ ap (λ r. behind c.args.topdown r c.block_around-around.result) r ∙ ap (behind c.args.topdown rest) a in
    let even = subst (λ r. IsEven c.args.topdown r c.args.size c.args.whole) r (c.is_clear.ensures.even c.if-not-is_clear.false) in
    let inside = subst (λ b. is_inside rest b ≡ true) a (subst (λ r. is_inside r c.block_around-around.result ≡ true) r (c.is_clear.ensures.inside c.if-not-is_clear.false)) in
    let l = is.first.is.order in
    let n = c.if-order-whole.false in
    subst (λ x. IsKnown (less g c.args.block) f c.args.size range (set c.args.rests.now c.args.whole x) (Some c.half_beside.result)) (sym b)
    (noted_split g f c.args.size range c.args.rests.now c.args.half.now c.args.topdown c.args.order c.args.whole c.args.block kn is even inside c.half_beside.result (omega (arith, l, n)) c.half_beside.ensures.order c.half_beside.ensures.number)
