-- The first mentions in a list with some buffers more.
use Rattle.std.proofs.Common.{◌≡◌, List, [], ◌∷◌, ◌++◌, ◌∙◌, ap, arith, if◌then◌else◌}
use Rattle.std.specs.Prelude.{◌||◌, flat_map}
use Rattle.std.proofs.lemmas.Grind.{common_steps}
use Rattle.ttm_base.specs.declared.BufId.{BufId}
use Rattle.ttm_base.specs.declared.Op.{Op}
use Rattle.journal_model.specs.rules.Mentions.{has_buffer, buffers_of_op, first_mentions}
use Rattle.journal_model.specs.code.Ops.{with_buffer, with_buffers}

-- a buffer that stands among the seen or the first mentions adds nothing
pub first_mentions-push : (seen bs : List BufId) (x : BufId)
    → first_mentions seen (bs ++ x ∷ []) ≡ (if has_buffer seen x || has_buffer (first_mentions seen bs) x then first_mentions seen bs else first_mentions seen bs ++ x ∷ [])
first_mentions-push seen [] x = grind (arith, common_steps)
first_mentions-push seen (b ∷ bs) x =
    let here = first_mentions-push seen bs x in
    let next = first_mentions-push (b ∷ seen) bs x in
    grind (arith, common_steps)

-- in two lists one after the other
first_mentions_behind : (bs xs : List BufId) → first_mentions [] (bs ++ xs) ≡ with_buffers (first_mentions [] bs) xs
first_mentions_behind bs [] = grind (arith, common_steps)
first_mentions_behind bs (x ∷ xs) =
    let one = first_mentions-push [] bs x in
    let more = first_mentions_behind (bs ++ x ∷ []) xs in
    let one_is : first_mentions [] (bs ++ x ∷ []) ≡ with_buffer (first_mentions [] bs) x = grind (arith, common_steps) in
    let lists : bs ++ x ∷ xs ≡ (bs ++ x ∷ []) ++ xs = grind (arith, common_steps) in
    ap (first_mentions []) lists ∙ more ∙ ap (λ named. with_buffers named xs) one_is

-- the buffers that are named with one operation more
pub named_with : (ops : List Op) (op : Op) → first_mentions [] (flat_map buffers_of_op (ops ++ op ∷ [])) ≡ with_buffers (first_mentions [] (flat_map buffers_of_op ops)) (buffers_of_op op)
named_with ops op =
    let parts : flat_map buffers_of_op (ops ++ op ∷ []) ≡ flat_map buffers_of_op ops ++ buffers_of_op op = grind (arith, common_steps) in
    ap (first_mentions []) parts ∙ first_mentions_behind (flat_map buffers_of_op ops) (buffers_of_op op)
