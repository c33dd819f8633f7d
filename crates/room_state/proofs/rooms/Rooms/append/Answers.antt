use Rattle.std.proofs.Common.{rules, ◌≡◌, ℕ, List, [], ◌∷◌, ◌++◌, length, take, refl, sym, ◌∙◌, ap, ap₂, subst, subst₂}
use Rattle.std.proofs.Math.Seq.{get_or-append_seam}
use lib.ListN.{get_or}
use Rattle.journal_model.specs.declared.entry.Entry.{Entry}
use Rattle.journal_model.specs.rules.Legal.{IsLegalNext, world_of}
use Rattle.room_representation.specs.Held.{AreHeld}
use Rattle.room_state.proofs.rooms.Rooms.append.Goals as goal

-- the entries before the others are those that are taken
take_kept : (xs ys : List Entry) → take (length xs) (xs ++ ys) ≡ xs
take_kept [] ys = refl
take_kept (x ∷ xs) ys = ap (λ zs. x ∷ zs) (take_kept xs ys)

-- the entries before the last one are those that were there
before_is : (xs : List Entry) (e : Entry) (n : ℕ) (ys : List Entry) → n ≡ length xs → ys ≡ xs ++ e ∷ [] → take n ys ≡ xs
before_is xs e n ys m a = ap (λ k. take k ys) m ∙ ap (λ l. take (length xs) l) a ∙ take_kept xs (e ∷ [])

-- the last entry is the one that was added
last_is : (xs : List Entry) (e : Entry) (n : ℕ) (ys : List Entry) (x : Entry) → n ≡ length xs → ys ≡ xs ++ e ∷ [] → x ≡ get_or ys n x → e ≡ x
last_is xs e n ys x m a is = sym (is ∙ ap₂ (λ l k. get_or l k x) a m ∙ get_or-append_seam xs e [] x)

pub make_parts-made-requires : goal.make_parts-made-requires
make_parts-made-requires c =
    let more = c.items-entries.ensures ∙ c.in_ok-push.ensures.ok in
    let same = before_is c.self.inside.journal c.args.entry c.len-at.result c.items-entries.result.now c.len-at.ensures more in
    let last = last_is c.self.inside.journal c.args.entry c.len-at.result c.items-entries.result.now c.index-entries-at.result c.len-at.ensures more c.index-entries-at.is in
    let given : IsLegalNext c.self.inside.script (world_of c.self.inside.script c.self.inside.journal) c.args.entry = search rules in
    let next = subst₂ (λ j e. IsLegalNext c.self.inside.script (world_of c.self.inside.script j) e) (sym same) last given in (
      search rules,
      (subst (λ j. AreHeld c.self.inside.script j c.self.inside.parts) (sym same) c.self.invariant, next),
    )
