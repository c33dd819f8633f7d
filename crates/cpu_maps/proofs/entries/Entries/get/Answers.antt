use Rattle.std.proofs.Common.{None, get_or, length, ap, sym, ◌∙◌, arith}
use Rattle.std.specs.Prelude.{option_and_then}
use Rattle.std.proofs.lemmas.List.{get_or_default, get_or_past}
use Rattle.std.proofs.lemmas.Option.{unwrap_or-slice_get}
use Rattle.cpu_maps.specs.Pieces.{slot_of}
use Rattle.cpu_maps.proofs.PieceLaws.{entry_there, length_entries, slot_there}
use Rattle.cpu_maps.proofs.entries.Entries.get.Goals as goal

pub returns-then-page-self : goal.returns-then-page-self
returns-then-page-self c =
    let n = length_entries c.self.inside.begun.items c.self.inside.slots.items 0 c.self.inside.pages in
    let v = ap (λ xs. length xs) c.self.view_is in
    let past = c.if-page-self.true in
    sym (unwrap_or-slice_get c.args.self.now c.args.page None ∙ get_or_past c.args.self.now c.args.page None (omega (arith, n, v, past)))

pub index-requires : goal.index-requires
index-requires c =
    let e = ap (λ b. slot_of b c.args.page) (sym c.deref.ensures.value) ∙ sym c.slot_of.ensures ∙ c.in-Some.is in
    let t = slot_there c.self.inside.begun.items c.self.inside.slots.items c.self.inside.pages c.self.inside.slots.cap c.self.invariant c.args.page c.in-Some.slot e in
    omega (arith, t)

pub returns-in-Some : goal.returns-in-Some
returns-in-Some c =
    let begun = c.self.inside.begun.items in
    let slots = c.self.inside.slots.items in
    let below = c.if-page-self.false in
    let e = ap (λ b. slot_of b c.args.page) (sym c.deref.ensures.value) ∙ sym c.slot_of.ensures ∙ c.in-Some.is in
    let t = slot_there begun slots c.self.inside.pages c.self.inside.slots.cap c.self.invariant c.args.page c.in-Some.slot e in
    c.index.ensures ∙ get_or_default slots c.in-Some.slot c.index.result.now None t
    ∙ sym (ap (λ s. option_and_then (λ at. get_or slots at None) s) e)
    ∙ sym (entry_there begun slots c.self.inside.pages c.args.page (omega (arith, below)))
    ∙ ap (λ xs. get_or xs c.args.page None) c.self.view_is ∙ sym (unwrap_or-slice_get c.args.self.now c.args.page None)

pub returns-in-None : goal.returns-in-None
returns-in-None c =
    let begun = c.self.inside.begun.items in
    let slots = c.self.inside.slots.items in
    let below = c.if-page-self.false in
    let e = ap (λ b. slot_of b c.args.page) (sym c.deref.ensures.value) ∙ sym c.slot_of.ensures ∙ c.in-None.is in
    sym (ap (λ s. option_and_then (λ at. get_or slots at None) s) e)
    ∙ sym (entry_there begun slots c.self.inside.pages c.args.page (omega (arith, below)))
    ∙ ap (λ xs. get_or xs c.args.page None) c.self.view_is ∙ sym (unwrap_or-slice_get c.args.self.now c.args.page None)
