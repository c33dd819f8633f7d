use Rattle.std.proofs.Common.{◌≡◌, ◌+◌, ◌*◌, replicate, ap, sym, subst, ◌∙◌}
use Rattle.bit_set.specs.Words.{marks_of, IsKept}
use Rattle.bit_set.proofs.BitLaws.{kept_none, none_marked}
use Rattle.bit_set.proofs.BitSet.new.Goals as goal

pub invariant_of-result : goal.invariant_of-result
invariant_of-result c =
    subst (λ ws. IsKept (c.base_of-base.result * 64) c.args.len ws) (sym (c.in_ok-words.ensures.items_if_clones_equal (λ y e. e)))
    (kept_none c.args.len c.div_ceil-words_len.result c.base_of-base.result c.requires c.div_ceil-words_len.ensures c.base_of-base.ensures)

pub returns : goal.returns
returns c =
    let e : c.in_ok-words.words.items ≡ replicate (c.base_of-base.result + c.div_ceil-words_len.result) 0 = c.in_ok-words.ensures.items_if_clones_equal (λ y e. e) in
    ap (marks_of (c.base_of-base.result * 64) c.args.len) e ∙ none_marked (c.base_of-base.result * 64) c.args.len (c.base_of-base.result + c.div_ceil-words_len.result)
