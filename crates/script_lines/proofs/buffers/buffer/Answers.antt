use Rattle.std.proofs.Common.{◌≡◌, ap, ◌∙◌, subst, refl, Option}
use Rattle.std.specs.Prelude.{IfOk}
use Rattle.journal_model.specs.declared.line.Line.{Line}
use Rattle.journal_model.specs.scripts.LineWords.{has_head_words, buffer_head_of, lists_line}
use Rattle.script_lines.proofs.Patterns.{buffer_is, rest_whole}
use Rattle.script_lines.proofs.buffers.buffer.Goals as goal

pub returns-in_ok-head-in-len9-up : goal.returns-in_ok-head-in-len9-up
returns-in_ok-head-in-len9-up c =
    let fits : c.are_head_words-fits.result ≡ has_head_words c.a-item.result c.b-item.result c.c-item.result =
    rw (c.are_head_words-fits.ensures, c.items-in-len9-up-5.ensures, c.items-in-len9-up-6.ensures, c.items-in-len9-up-7.ensures) refl in
    let made : c.in_ok-head-in-len9-up.head ≡ buffer_head_of c.name-item.result c.pages-item.result c.prio-item.result c.group-item.result c.align-item.result =
    c.in_ok-head-in-len9-up.ensures ∙ rw (c.items.ensures, c.items-in-len9-up.ensures, c.items-in-len9-up-2.ensures, c.items-in-len9-up-3.ensures, c.items-in-len9-up-4.ensures) refl in
    let same = ap (lists_line c.args.two c.are_head_words-fits.result c.in_ok-head-in-len9-up.head) (rest_whole 9 c.args.words.now) ∙ buffer_is c.args.two c.are_head_words-fits.result c.in_ok-head-in-len9-up.head c.args.words.now c.name-item.result c.pages-item.result c.a-item.result c.prio-item.result c.b-item.result c.group-item.result c.c-item.result c.align-item.result
    c.in-len9-up.len_at_least c.name-item.is c.pages-item.is c.a-item.is c.prio-item.is c.b-item.is c.group-item.is c.c-item.is c.align-item.is fits made in
    subst (λ (x : Option Line). IfOk c.with_lists.result (λ line. line ≡ x)) same c.with_lists.ensures
