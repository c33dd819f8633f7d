use Rattle.std.proofs.Common.{◌≡◌, ℕ, ◌+◌, ◌*◌, ◌/◌, ◌<◌, ◌++◌, List, None, Option, length, get_or, set, replicate, refl, subst, suc, ap, sym, ◌∙◌, arith}
use Rattle.std.specs.Prelude.{◌%◌}
use Rattle.ttm_base.specs.declared.PagePlace.{PagePlace}
use Rattle.cpu_maps.specs.Pieces.{HasPieces, count_begun, entries_from, slot_of}
use Rattle.cpu_maps.proofs.Setting.{set_beyond}
use Rattle.cpu_maps.proofs.PieceLaws.{begun_slot, fewer_begun, has_one_more, length_entries, no_entry, no_place, no_slot, room_for_one, same_begun, slot_set, slots_set}
use Rattle.cpu_maps.proofs.entries.Entries.set.Goals as goal

pub returns-then-page-self : goal.returns-then-page-self
returns-then-page-self c =
    let n = length_entries c.self.inside.begun.items c.self.inside.slots.items 0 c.self.inside.pages in
    let v = ap (λ xs. length xs) c.self.view_is in
    let past = c.if-page-self.true in
    sym (set_beyond c.args.self.now c.args.page c.args.entry (omega (arith, n, v, past)))

pub returns-in-Some : goal.returns-in-Some
returns-in-Some c =
    let begun = c.self.inside.begun.items in
    let slots = c.self.inside.slots.items in
    let below = c.if-page-self.false in
    let e = ap (λ b. slot_of b c.args.page) (sym c.deref.ensures.value) ∙ sym c.slot_of.ensures ∙ c.in-Some.is in
    slot_set begun slots c.self.inside.pages c.self.inside.slots.cap c.self.invariant c.args.page c.in-Some.slot c.args.entry (omega (arith, below)) e
    ∙ ap (λ xs. set xs c.args.page c.args.entry) c.self.view_is

pub returns-else-is_some : goal.returns-else-is_some
returns-else-is_some c =
    let begun = c.self.inside.begun.items in
    let slots = c.self.inside.slots.items in
    let below = c.if-page-self.false in
    let e = ap (λ b. slot_of b c.args.page) (sym c.deref.ensures.value) ∙ sym c.slot_of.ensures ∙ c.in-None.is in
    let none = no_place c.args.entry (sym c.is_some.ensures ∙ c.if-is_some.false) in
    sym (ap (λ x. set c.args.self.now c.args.page x) none
    ∙ subst (λ xs. set xs c.args.page None ≡ xs) c.self.view_is (no_entry begun slots c.self.inside.pages c.self.inside.slots.cap c.self.invariant c.args.page (omega (arith, below)) e))

-- where the page's piece hasn't begun
not_begun : (begun : List ℕ) (page : ℕ) → slot_of begun page ≡ None → get_or begun (page / 16) 0 ≡ 0
not_begun begun page e = no_slot (get_or begun (page / 16) 0) (page % 16) e

row_of : (begun : List ℕ) (slots : List (Option PagePlace)) (n capacity page : ℕ) → HasPieces begun slots n capacity → page < n → page / 16 < length begun
row_of begun slots n capacity page has below = let r = has.rows in omega (arith, r, below)

pub begin-requires-clause-room : goal.begin-requires-clause-room
begin-requires-clause-room c =
    let begun = c.self.inside.begun.items in
    let slots = c.self.inside.slots.items in
    let below = c.if-page-self.false in
    let e = ap (λ b. slot_of b c.args.page) (sym c.deref.ensures.value) ∙ sym c.slot_of.ensures ∙ c.in-None.is in
    let within = row_of begun slots c.self.inside.pages c.self.inside.slots.cap c.args.page c.self.invariant (omega (arith, below)) in
    room_for_one begun slots c.self.inside.pages c.self.inside.slots.cap (c.args.page / 16) c.self.invariant within (not_begun begun c.args.page e)

pub begin-requires-clause-less : goal.begin-requires-clause-less
begin-requires-clause-less c =
    let begun = c.self.inside.begun.items in
    let slots = c.self.inside.slots.items in
    let below = c.if-page-self.false in
    let e = ap (λ b. slot_of b c.args.page) (sym c.deref.ensures.value) ∙ sym c.slot_of.ensures ∙ c.in-None.is in
    let within = row_of begun slots c.self.inside.pages c.self.inside.slots.cap c.args.page c.self.invariant (omega (arith, below)) in
    fewer_begun begun (c.args.page / 16) within (not_begun begun c.args.page e)

-- the pieces with the one that begins
pub invariant_of-self-then-is_some : goal.invariant_of-self-then-is_some
invariant_of-self-then-is_some c =
    let begun = c.self.inside.begun.items in
    let slots = c.self.inside.slots.items in
    let n = c.self.inside.pages in
    let below = c.if-page-self.false in
    let e = ap (λ b. slot_of b c.args.page) (sym c.deref.ensures.value) ∙ sym c.slot_of.ensures ∙ c.in-None.is in
    let within = row_of begun slots n c.self.inside.slots.cap c.args.page c.self.invariant (omega (arith, below)) in
    let one = has_one_more begun slots n c.self.inside.slots.cap (c.args.page / 16) c.self.invariant within (not_begun begun c.args.page e) c.begin.new.slots.cap c.begin.ensures.room in
    let m : count_begun begun + 1 ≡ suc (count_begun begun) = omega arith in
    slots_set c.begin.new.begun.items c.begin.new.slots.items n c.begin.new.slots.cap
    (subst (λ b. HasPieces b c.begin.new.slots.items n c.begin.new.slots.cap) (sym (c.begin.ensures.begun ∙ ap (λ k. set begun (c.args.page / 16) k) m))
    (subst (λ s. HasPieces (set begun (c.args.page / 16) (suc (count_begun begun))) s n c.begin.new.slots.cap) (sym c.begin.ensures.slots) one))
    (c.len.result + c.args.page % 16) c.args.entry

pub returns-then-is_some : goal.returns-then-is_some
returns-then-is_some c =
    let begun = c.self.inside.begun.items in
    let slots = c.self.inside.slots.items in
    let n = c.self.inside.pages in
    let row = c.args.page / 16 in
    let below = c.if-page-self.false in
    let full = c.self.invariant.full in
    let len = c.len.ensures in
    let e = ap (λ b. slot_of b c.args.page) (sym c.deref.ensures.value) ∙ sym c.slot_of.ensures ∙ c.in-None.is in
    let within = row_of begun slots n c.self.inside.slots.cap c.args.page c.self.invariant (omega (arith, below)) in
    let none = not_begun begun c.args.page e in
    let m : count_begun begun + 1 ≡ suc (count_begun begun) = omega arith in
    let b = c.begin.ensures.begun ∙ ap (λ k. set begun row k) m in
    let slot : c.len.result + c.args.page % 16 ≡ count_begun begun * 16 + c.args.page % 16 = omega (arith, full, len) in
    let one = has_one_more begun slots n c.self.inside.slots.cap row c.self.invariant within none c.begin.new.slots.cap c.begin.ensures.room in
    ap (λ xs. entries_from xs (set c.begin.new.slots.items (c.len.result + c.args.page % 16) c.args.entry) 0 n) b
    ∙ ap (λ xs. entries_from (set begun row (suc (count_begun begun))) (set xs (c.len.result + c.args.page % 16) c.args.entry) 0 n) c.begin.ensures.slots
    ∙ ap (λ at. entries_from (set begun row (suc (count_begun begun))) (set (slots ++ replicate 16 None) at c.args.entry) 0 n) slot
    ∙ slot_set (set begun row (suc (count_begun begun))) (slots ++ replicate 16 None) n c.begin.new.slots.cap one c.args.page (count_begun begun * 16 + c.args.page % 16) c.args.entry (omega (arith, below)) (begun_slot begun slots n c.self.inside.slots.cap row c.self.invariant within none c.args.page refl)
    ∙ ap (λ xs. set xs c.args.page c.args.entry) (same_begun begun slots n c.self.inside.slots.cap row c.self.invariant within none ∙ c.self.view_is)
