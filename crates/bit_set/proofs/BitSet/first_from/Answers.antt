use Rattle.std.proofs.Common.{arith}
use Rattle.bit_set.proofs.BitLaws.{walkable, first_number, none_from, none_beyond}
use Rattle.bit_set.proofs.BitSet.first_from.Goals as goal

pub overflow_add-self-inside : goal.overflow_add-self-inside
overflow_add-self-inside c = omega (arith, c.self.invariant.room, c.self.invariant.small, c.self.invariant.tree.fits)

pub first_from-requires-clause-within : goal.first_from-requires-clause-within
first_from-requires-clause-within c =
    (walkable c.self.inside.first c.self.inside.len c.args.number c.self.inside.words.items c.deref.result.now
    c.self.invariant c.deref.ensures.value (omega arith)).within

pub returns-then-number-self-clause-none : goal.returns-then-number-self-clause-none
returns-then-number-self-clause-none c = λ i le. none_beyond c.self.inside.first c.self.inside.len c.args.number i c.self.inside.words.items c.args.self.now c.self.view_is (omega arith) le

pub returns-in_err-place-clause-none : goal.returns-in_err-place-clause-none
returns-in_err-place-clause-none c =
    rw c.from_residual.ensures
    (none_from c.self.inside.first c.self.inside.len c.args.number c.self.inside.words.items c.deref.result.now c.args.self.now
    c.self.invariant c.self.view_is c.deref.ensures.value c.in_err-place.ensures)

pub returns-clause-some : goal.returns-clause-some
returns-clause-some c =
    first_number c.self.inside.first c.self.inside.len c.args.number c.in_ok-place.place c.self.inside.words.items c.deref.result.now c.args.self.now
    c.self.invariant c.self.view_is c.deref.ensures.value c.in_ok-place.ensures
