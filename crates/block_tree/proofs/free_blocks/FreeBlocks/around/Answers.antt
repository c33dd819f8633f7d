use Rattle.std.proofs.Common.{◌≡◌, ◌+◌, ◌-◌, ◌*◌, ◌/◌, ◌^◌, inl, inr, length, ap, sym, ◌∙◌, subst, arith}
use Rattle.std.proofs.lemmas.Bool.{cases_lt}
use Rattle.block_tree.specs.FreeSet.{is_free}
use Rattle.block_tree.specs.Holding.{IsFree}
use Rattle.block_tree.proofs.Numbers.{number_in}
use Rattle.block_tree.proofs.KeptLaws.{IsPlaced, placed_above, placed_spot, count_small, size_of, at_spot, not_at_spot, around_is}
use Rattle.block_tree.proofs.free_blocks.FreeBlocks.around.Goals as goal
use Rattle.block_tree.proofs.free_blocks.FreeBlocks.around.Goals.{After-place}

number : (c : After-place) → c.args.block.number / 2 ^ (c.loop-order.order - c.args.block.order) ≡ c.args.block.number * 2 ^ c.args.block.order / 2 ^ c.loop-order.order
number c = number_in c.args.block.number c.args.block.order c.loop-order.order c.loop-order.auto.order

pub place-requires : goal.place-requires
place-requires c = record { order = let b = c.self.invariant.order in omega (arith, b); count = count_small c.self.inside.count c.self.inside.order c.self.inside.size c.self.inside.blocks c.self.invariant }

placed : (c : After-place) → IsPlaced c.self.inside.order c.loop-order.order (c.args.block.number * 2 ^ c.args.block.order / 2 ^ c.loop-order.order)
placed c = placed_above c.self.inside.count c.self.inside.order c.self.inside.size c.self.inside.blocks c.args.self.now c.args.block.order c.args.block.number c.loop-order.order c.self.invariant c.self.view_is c.requires c.loop-order.auto.order (omega arith)

spot : (c : After-place) → c.place.result ≡ c.self.inside.count - c.self.inside.count / 2 ^ c.loop-order.order + c.args.block.number * 2 ^ c.args.block.order / 2 ^ c.loop-order.order
spot c = c.place.ensures ∙ ap (λ n. c.self.inside.count - c.self.inside.count / 2 ^ c.loop-order.order + n) (number c)

pub contains-requires : goal.contains-requires
contains-requires c = placed_spot c.self.inside.count c.self.inside.order c.self.inside.size c.self.inside.blocks c.loop-order.order (c.args.block.number * 2 ^ c.args.block.order / 2 ^ c.loop-order.order) c.place.result c.self.invariant (placed c) (spot c)

pub loop-order-init : goal.loop-order-init
loop-order-init c = λ k l u w. omega (arith, l, u)

pub loop-order-preserved : goal.loop-order-preserved
loop-order-preserved c = λ k l u w. elim (cases_lt k c.loop-order.order) [
  | inl x ↦ c.loop-order.invariant k l x w
  | inr x ↦
      let e : k ≡ c.loop-order.order = omega (arith, u, x) in
      not_at_spot c.self.inside.count c.self.inside.order c.self.inside.size c.self.inside.blocks c.args.self.now c.loop-order.order (c.args.block.number * 2 ^ c.args.block.order / 2 ^ c.loop-order.order) c.place.result c.contains.result c.self.invariant c.self.view_is (spot (goal.at.loop-order-preserved c).After-place) c.contains.ensures c.if-contains.false
      (subst (λ k. IsFree (is_free c.args.self.now) (length c.args.self.now) k (c.args.block.number * 2 ^ c.args.block.order / 2 ^ k)) e w)
]

pub returns-then-contains-clause-around : goal.returns-then-contains-clause-around
returns-then-contains-clause-around c =
    let a : After-place = (goal.at.returns-then-contains-clause-around c).After-place in
    let p = placed a in
    let f = at_spot c.self.inside.count c.self.inside.order c.self.inside.size c.self.inside.blocks c.args.self.now c.loop-order.order (c.args.block.number * 2 ^ c.args.block.order / 2 ^ c.loop-order.order) c.place.result c.contains.result c.self.invariant c.self.view_is p.order p.number (spot a) c.contains.ensures c.if-contains.true in
    record { order = c.loop-order.auto.order; number = number a; free = subst (IsFree (is_free c.args.self.now) (length c.args.self.now) c.loop-order.order) (sym (number a)) f }

pub returns-clause-around : goal.returns-clause-around
returns-clause-around c = around_is c.self.inside.count c.self.inside.order c.self.inside.size c.self.inside.blocks c.args.self.now c.args.block.order c.args.block.number c.self.invariant c.self.view_is (λ k l u w. c.loop-order.invariant k l (omega arith) w)

pub returns-then-contains-clause-size : goal.returns-then-contains-clause-size
returns-then-contains-clause-size c =
    let s = size_of c.self.inside.order c.self.inside.size c.self.inside.blocks c.args.self.now c.self.view_is in
    let z = c.self.invariant.small in
    omega (arith, s, z)

pub returns-clause-size : goal.returns-clause-size
returns-clause-size c =
    let s = size_of c.self.inside.order c.self.inside.size c.self.inside.blocks c.args.self.now c.self.view_is in
    let z = c.self.invariant.small in
    omega (arith, s, z)
