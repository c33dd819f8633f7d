use Rattle.std.proofs.Common.{◌+◌, ap, sym, ◌∙◌, arith}
use Rattle.bit_set.specs.Marks.{has}
use Rattle.bit_set.proofs.BitLaws.{within_len, room_at, has_mark, tested_bit}
use Rattle.bit_set.proofs.BitSet.contains.Goals as goal

pub overflow_add-place : goal.overflow_add-place
overflow_add-place c =
    let w = within_len c.self.inside.first c.self.inside.len c.self.inside.words.items c.args.self.now c.args.number c.self.view_is c.requires in
    omega (arith, w, c.self.invariant.room, c.self.invariant.small, c.self.invariant.tree.fits)

pub index-requires : goal.index-requires
index-requires c =
    let w = within_len c.self.inside.first c.self.inside.len c.self.inside.words.items c.args.self.now c.args.number c.self.view_is c.requires in
    let r = room_at c.self.inside.first c.self.inside.len c.args.number c.self.inside.words.items c.self.invariant w in
    omega (arith, r)

pub returns : goal.returns
returns c =
    let w = within_len c.self.inside.first c.self.inside.len c.self.inside.words.items c.args.self.now c.args.number c.self.view_is c.requires in
    tested_bit c.self.inside.words.items (c.self.inside.first + c.args.number) c.index.result.now c.index.ensures
    (room_at c.self.inside.first c.self.inside.len c.args.number c.self.inside.words.items c.self.invariant w)
    ∙ sym (has_mark c.self.inside.first c.self.inside.len c.self.inside.words.items c.self.invariant c.args.number)
    ∙ ap (λ xs. has xs c.args.number) c.self.view_is
