-- Few operations name few buffers, and actors that are all there break no rule.
use Rattle.std.proofs.Common.{◌≡◌, suc, ◌*◌, ◌≤◌, Bool, true, false, cond, List, [], ◌∷◌, ◌++◌, length, length-append, arith}
use Rattle.std.specs.Prelude.{Option, Some, None, flat_map, option_to_list}
use Rattle.std.proofs.lemmas.Bool.Decides.{nat_tests}
use Rattle.std.proofs.lemmas.List.Concat.{flat_map-cons}
use Rattle.ttm_base.specs.declared.BufId.{BufId}
use Rattle.journal_model.specs.declared.line.OpWord.{OpWord}
use Rattle.journal_model.specs.declared.line.OpWord.TheVariants as op_word
use Rattle.journal_model.specs.rules.State.{has_buffer}
use Rattle.journal_model.specs.rules.Commands.{first_mentions}
use Rattle.journal_model.specs.scripts.LineRules.{buffers_of_word, is_big_job}

one_mention : (t : Bool) (seen : List BufId) (b : BufId) (bs : List BufId) → length (first_mentions seen bs) ≤ length bs → length (first_mentions (b ∷ seen) bs) ≤ length bs
    → length (cond t (first_mentions seen bs) (b ∷ first_mentions (b ∷ seen) bs)) ≤ suc (length bs)
one_mention true seen b bs h g = omega (arith, h)
one_mention false seen b bs h g = omega (arith, g)

no_more : (seen : List BufId) (bs : List BufId) → length (first_mentions seen bs) ≤ length bs
no_more seen [] = omega arith
no_more seen (b ∷ bs) = one_mention (has_buffer seen b) seen b bs (no_more seen bs) (no_more (b ∷ seen) bs)

one_at_most : (b : Option BufId) → length (option_to_list b) ≤ 1
one_at_most None = omega arith
one_at_most (Some b) = omega arith

pair : (a b : Option BufId) → length (option_to_list a ++ option_to_list b) ≤ 2
pair a b = omega (arith, length-append (option_to_list a) (option_to_list b), one_at_most a, one_at_most b)

two_at_most : (op : OpWord) → length (buffers_of_word op) ≤ 2
two_at_most (op_word.Fill dst off len byte) = omega (arith, one_at_most dst)
two_at_most (op_word.Copy dst doff src soff len) = pair dst src
two_at_most (op_word.Xor dst doff src soff len) = pair dst src
two_at_most (op_word.Probe src off len) = omega (arith, one_at_most src)
two_at_most op_word.Malformed = omega arith

twice_at_most : (ops : List OpWord) → length (flat_map buffers_of_word ops) ≤ 2 * length ops
twice_at_most [] = omega arith
twice_at_most (op ∷ ops) = rw (flat_map-cons buffers_of_word op ops) (omega (arith, length-append (buffers_of_word op) (flat_map buffers_of_word ops), two_at_most op, twice_at_most ops))

-- eight operations name sixteen buffers at most
pub small_job : (ops : List OpWord) → length ops ≤ 8 → is_big_job ops ≡ false
small_job ops h =
    let few : length (first_mentions [] (flat_map buffers_of_word ops)) ≤ 16 = omega (arith, h, no_more [] (flat_map buffers_of_word ops), twice_at_most ops) in
    grind (arith, nat_tests, h, few)
