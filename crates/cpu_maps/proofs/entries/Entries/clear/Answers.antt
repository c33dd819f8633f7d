use Rattle.std.proofs.Common.{ap, sym, ◌∙◌, arith}
use Rattle.std.specs.Prelude.{vec_len}
use Rattle.std.proofs.lemmas.Bool.{eqb-true}
use Rattle.std.proofs.lemmas.List.{nil_from_length}
use Rattle.cpu_maps.specs.Pieces.{entries_from}
use Rattle.cpu_maps.proofs.PieceLaws.{blank, cleared, has_none}
use Rattle.cpu_maps.proofs.entries.Entries.clear.Goals as goal

pub returns-then-is_empty : goal.returns-then-is_empty
returns-then-is_empty c =
    let begun = c.self.inside.begun.items in
    let slots = c.self.inside.slots.items in
    let n = c.self.inside.pages in
    let z = eqb-true (vec_len c.self.inside.slots) 0 (sym c.is_empty.ensures ∙ c.if-is_empty.true) in
    let none = nil_from_length slots (omega (arith, z)) in
    sym c.self.view_is ∙ ap (λ s. entries_from begun s 0 n) none ∙ cleared begun begun slots n ∙ ap (λ xs. blank xs) c.self.view_is

pub invariant_of-self : goal.invariant_of-self
invariant_of-self c =
    let i = c.self.invariant in
    let rows = i.rows in
    let few = i.few in
    let room = i.room in
    let k = c.clear.ensures.capacity in
    has_none c.fill.new.self.items c.clear.new.self.items (vec_len c.self.inside.begun) c.self.inside.pages c.clear.new.self.cap (c.fill.ensures.items (λ y e. e)) c.clear.ensures.items
    (omega (arith, rows)) (omega (arith, few)) (omega (arith, room, k))

pub returns : goal.returns
returns c =
    let n = c.self.inside.pages in
    ap (λ s. entries_from c.fill.new.self.items s 0 n) c.clear.ensures.items
    ∙ cleared c.self.inside.begun.items c.fill.new.self.items c.self.inside.slots.items n ∙ ap (λ xs. blank xs) c.self.view_is
