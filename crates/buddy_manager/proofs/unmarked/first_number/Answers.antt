use Rattle.std.proofs.Common.{◌≡◌, ℕ, ◌<◌, ◌≤◌, ◌+◌, ◌-◌, ◌*◌, ◌^◌, true, false, ap, sym, subst, arith}
use Rattle.block_tree.specs.Searching.{IsAhead, IsFit}
use Rattle.block_tree.proofs.Numbers.{fewer_blocks}
use Rattle.buddy_manager.proofs.KnownLaws.{in_half, first_of_fit, lowest_in, highest_in}
use Rattle.buddy_manager.proofs.unmarked.first_number.Goals as goal

-- the number of blocks, as it was computed
highest : (o q k b : ℕ) → k < o → b ≡ 2 ^ (o - k) → 0 < b → IsFit (in_half true o q k) o q (q * b + (b - 1))
highest o q k b l e some = let m = ap (λ x. q * x) e in highest_in o q k (q * b + (b - 1)) (omega (arith, l)) (omega (arith, e, m, some))

lowest : (o q k b : ℕ) → k < o → b ≡ 2 ^ (o - k) → IsFit (in_half false o q k) o q (q * b)
lowest o q k b l e = subst (λ b. IsFit (in_half false o q k) o q (q * b)) (sym e) (lowest_in o q k (omega (arith, l)))

room : (o q k b : ℕ) → k < o → q * 2 ^ o + 2 ^ o ≤ 2 ^ 31 → b ≡ 2 ^ (o - k) → q * b + b ≤ 2 ^ 31
room o q k b l u e = let f = fewer_blocks q o k (omega (arith, l)) in let m = ap (λ x. q * x) e in omega (arith, f, m, e, u)

pub overflow_mul-result : goal.overflow_mul-result
overflow_mul-result c = let r = room c.args.half.order c.args.half.number c.args.order c.block_len-blocks.result c.requires.order c.requires.numbers c.block_len-blocks.ensures.value in omega (arith, r)

pub overflow_add-result : goal.overflow_add-result
overflow_add-result c = let r = room c.args.half.order c.args.half.number c.args.order c.block_len-blocks.result c.requires.order c.requires.numbers c.block_len-blocks.ensures.value in omega (arith, r)

pub overflow_mul-result-else-topdown : goal.overflow_mul-result-else-topdown
overflow_mul-result-else-topdown c = let r = room c.args.half.order c.args.half.number c.args.order c.block_len-blocks.result c.requires.order c.requires.numbers c.block_len-blocks.ensures.value in omega (arith, r)

pub returns-then-topdown-clause-within : goal.returns-then-topdown-clause-within
returns-then-topdown-clause-within c = (highest c.args.half.order c.args.half.number c.args.order c.block_len-blocks.result c.requires.order c.block_len-blocks.ensures.value c.block_len-blocks.ensures.some).within

pub returns-then-topdown-clause-first : goal.returns-then-topdown-clause-first
returns-then-topdown-clause-first c = λ m e.
    let l = c.requires.order in
    subst (λ t. IsAhead t (c.args.half.number * c.block_len-blocks.result + (c.block_len-blocks.result - 1)) m) (sym c.if-topdown.true)
    (first_of_fit true c.args.half.order c.args.half.number c.args.order (c.args.half.number * c.block_len-blocks.result + (c.block_len-blocks.result - 1)) (omega (arith, l)) (highest c.args.half.order c.args.half.number c.args.order c.block_len-blocks.result c.requires.order c.block_len-blocks.ensures.value c.block_len-blocks.ensures.some) m e)

pub returns-else-topdown-clause-within : goal.returns-else-topdown-clause-within
returns-else-topdown-clause-within c = (lowest c.args.half.order c.args.half.number c.args.order c.block_len-blocks.result c.requires.order c.block_len-blocks.ensures.value).within

pub returns-else-topdown-clause-first : goal.returns-else-topdown-clause-first
returns-else-topdown-clause-first c = λ m e.
    let l = c.requires.order in
    subst (λ t. IsAhead t (c.args.half.number * c.block_len-blocks.result) m) (sym c.if-topdown.false)
    (first_of_fit false c.args.half.order c.args.half.number c.args.order (c.args.half.number * c.block_len-blocks.result) (omega (arith, l)) (lowest c.args.half.order c.args.half.number c.args.order c.block_len-blocks.result c.requires.order c.block_len-blocks.ensures.value) m e)
