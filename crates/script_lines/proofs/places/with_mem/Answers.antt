use Rattle.std.proofs.Common.{◌≡◌, ◌+◌, ◌≤◌, length, drop, get_or, Some, sym, ap, subst, ◌∙◌, IfOk}
use Rattle.journal_model.specs.scripts.Reading.{mem_of, based_place}
use Rattle.script_lines.proofs.Reach.{first_in, at_first}
use Rattle.script_lines.proofs.places.with_mem.Goals as goal

pub behind-reach-requires : goal.behind-reach-requires
behind-reach-requires c =
    let word = c.items-in-len2-up.ensures ∙ c.mem-item-2.is in
    record { inside = subst (λ w. length w + 1 ≤ length c.args.base.now) (sym word) (first_in 64 c.args.base.now c.mem-item-2.result c.args.words.now c.requires.parts c.in-len2-up.len_at_least) }

pub returns-in-len2-up : goal.returns-in-len2-up
returns-in-len2-up c =
    let word = c.items-in-len2-up.ensures ∙ c.mem-item-2.is in
    let mem = c.memory-in-len2-up.ensures ∙ ap mem_of (c.items-in-len2-up-2.ensures ∙ c.mem-item-2.is) in
    let reach = c.behind-reach.ensures ∙ ap (λ w. drop (length w + 1) c.args.base.now) word in
    let place =
    ap (λ m. based_place m (Some c.behind-reach.result.now) c.args.flags) mem
    ∙ ap (λ r. based_place (mem_of (get_or c.args.words.now 0 c.mem-item-2.result)) (Some r) c.args.flags) reach
    ∙ at_first c.args.base.now c.mem-item-2.result c.args.words.now c.args.flags c.requires.parts c.in-len2-up.len_at_least in
    subst (λ p. IfOk c.with_base-in-len2-up.result (λ place. place ≡ p)) place c.with_base-in-len2-up.ensures
