use Rattle.std.proofs.Common.{arith}
use Rattle.bit_set.proofs.BitLaws.{within_len, walkable, last_number, none_to}
use Rattle.bit_set.proofs.BitSet.last_to.Goals as goal

pub overflow_add-self-inside : goal.overflow_add-self-inside
overflow_add-self-inside c =
    let w = within_len c.self.inside.first c.self.inside.len c.self.inside.words.items c.args.self.now c.args.number c.self.view_is c.requires in
    omega (arith, w, c.self.invariant.room, c.self.invariant.small, c.self.invariant.tree.fits)

pub last_to-requires-clause-within : goal.last_to-requires-clause-within
last_to-requires-clause-within c =
    let w = within_len c.self.inside.first c.self.inside.len c.self.inside.words.items c.args.self.now c.args.number c.self.view_is c.requires in
    (walkable c.self.inside.first c.self.inside.len c.args.number c.self.inside.words.items c.deref.result.now
    c.self.invariant c.deref.ensures.value w).within

pub returns-in_err-place-clause-none : goal.returns-in_err-place-clause-none
returns-in_err-place-clause-none c =
    rw c.from_residual.ensures
    (none_to c.self.inside.first c.self.inside.len c.args.number c.self.inside.words.items c.deref.result.now c.args.self.now
    c.self.invariant c.self.view_is c.deref.ensures.value c.in_err-place.ensures)

pub returns-clause-some : goal.returns-clause-some
returns-clause-some c =
    last_number c.self.inside.first c.self.inside.len c.args.number c.in_ok-place.place c.self.inside.words.items c.deref.result.now c.args.self.now
    c.self.invariant c.self.view_is c.deref.ensures.value c.in_ok-place.ensures
