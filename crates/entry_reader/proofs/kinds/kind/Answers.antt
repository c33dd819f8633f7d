use Rattle.std.proofs.Common.{◌≡◌, ◌∙◌, ap, subst}
use Rattle.std.specs.Prelude.{IfOk}
use Rattle.entry_reader.specs.EntryReading.{kind_of}
use Rattle.entry_reader.proofs.ListedWords.{two_are, three_are, four_are, five_are}
use Rattle.entry_reader.proofs.kinds.kind.Goals as goal

pub kind_of_one_word-requires : goal.kind_of_one_word-requires
kind_of_one_word-requires c = c.requires

pub kind_of_two_words-requires : goal.kind_of_two_words-requires
kind_of_two_words-requires c = c.requires

pub kind_of_three_words-requires : goal.kind_of_three_words-requires
kind_of_three_words-requires c = c.requires

pub kind_of_four_words-requires : goal.kind_of_four_words-requires
kind_of_four_words-requires c = c.requires

pub returns-in-len2 : goal.returns-in-len2
returns-in-len2 c =
    c.kind_of_one_word.ensures
    ∙ ap (kind_of c.args.names.now) (two_are c.args.words.now c.in-len2.len_at_least c.in-len2.len_below c.verb-item.is c.items.ensures c.a-item.is c.items-in-len2.ensures)

pub returns-in-len3 : goal.returns-in-len3
returns-in-len3 c =
    let are = three_are c.args.words.now c.in-len3.len_at_least c.in-len3.len_below
    c.verb-item-then-words-lt4.is c.items-in-len3.ensures c.a-item-then-words-lt4.is c.items-in-len3-2.ensures c.b-item.is c.items-in-len3-3.ensures in
    subst (λ ws. IfOk c.kind_of_two_words.result (λ k. k ≡ kind_of c.args.names.now ws)) are c.kind_of_two_words.ensures

pub returns-in-len4 : goal.returns-in-len4
returns-in-len4 c =
    let are = four_are c.args.words.now c.in-len4.len_at_least c.in-len4.len_below
    c.verb-item-then-words-lt5.is c.items-verb.ensures c.a-item-then-words-lt5.is c.items-a.ensures c.b-item-then-words-lt5.is c.items-b.ensures c.c-item.is c.items-in-len4.ensures in
    subst (λ ws. IfOk c.kind_of_three_words.result (λ k. k ≡ kind_of c.args.names.now ws)) are c.kind_of_three_words.ensures

pub returns-in-len5 : goal.returns-in-len5
returns-in-len5 c =
    let are = five_are c.args.words.now c.in-len5.len_at_least c.in-len5.len_below
    c.verb-item-then-words-lt6.is c.items-verb-in-len5.ensures c.a-item-then-words-lt6.is c.items-a-in-len5.ensures c.b-item-then-words-lt6.is c.items-b-in-len5.ensures
    c.c-item-then-words-lt6.is c.items-in-len5.ensures c.d-item.is c.items-in-len5-2.ensures in
    c.kind_of_four_words.ensures ∙ ap (kind_of c.args.names.now) are
