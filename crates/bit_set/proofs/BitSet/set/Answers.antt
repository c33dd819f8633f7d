use Rattle.std.proofs.Common.{true, length, ap, arith}
use Rattle.bit_set.proofs.BitLaws.{within_len, room_at, after_put}
use Rattle.bit_set.proofs.BitSet.set.Goals as goal

pub overflow_add-self-inside : goal.overflow_add-self-inside
overflow_add-self-inside c =
    let w = within_len c.self.inside.first c.self.inside.len c.self.inside.words.items c.args.self.now c.args.number c.self.view_is c.requires in
    omega (arith, w, c.self.invariant.room, c.self.invariant.small, c.self.invariant.tree.fits)

pub set_bit-requires : goal.set_bit-requires
set_bit-requires c =
    let w = within_len c.self.inside.first c.self.inside.len c.self.inside.words.items c.args.self.now c.args.number c.self.view_is c.requires in
    let l = ap length c.deref_mut.ensures.value in
    omega (arith, l, room_at c.self.inside.first c.self.inside.len c.args.number c.self.inside.words.items c.self.invariant w)

pub invariant_of-self : goal.invariant_of-self
invariant_of-self c =
    (after_put c.self.inside.first c.self.inside.len c.args.number c.self.inside.words.len true c.args.self.now c.self.inside.words.items c.deref_mut.result.now c.set_bit.new.words
    c.self.invariant c.self.view_is c.requires c.deref_mut.ensures.value c.deref_mut.ensures.len (omega arith) c.set_bit.ensures).kept

pub returns : goal.returns
returns c =
    (after_put c.self.inside.first c.self.inside.len c.args.number c.self.inside.words.len true c.args.self.now c.self.inside.words.items c.deref_mut.result.now c.set_bit.new.words
    c.self.invariant c.self.view_is c.requires c.deref_mut.ensures.value c.deref_mut.ensures.len (omega arith) c.set_bit.ensures).marks_are
