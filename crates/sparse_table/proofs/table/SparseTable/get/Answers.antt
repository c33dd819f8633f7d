use Rattle.std.proofs.Common.{ℕ, ◌/◌, List, [], get_or, length, ap, sym, ◌∙◌, arith}
use Rattle.std.specs.Prelude.{◌%◌}
use Rattle.std.proofs.lemmas.List.{get_or_past, get_or_default}
use Rattle.sparse_table.proofs.PieceLaws.{length-numbers, number_at}
use Rattle.sparse_table.proofs.table.SparseTable.get.Goals as goal

pub returns-then-at-self : goal.returns-then-at-self
returns-then-at-self c =
    let n = length-numbers c.self.inside.pieces.items 0 c.self.inside.len in
    let v = ap (λ (xs : List ℕ). length xs) c.self.view_is in
    let past = c.if-at-self.true in
    sym (get_or_past c.args.self.now c.args.at 0 (omega (arith, n, v, past)))

pub index-requires : goal.index-requires
index-requires c = let i = c.self.invariant in let b = c.if-at-self.false in omega (arith, i, b)

pub returns : goal.returns
returns c =
    let ps : List (List ℕ) = c.self.inside.pieces.items in
    let at : ℕ = c.args.at in
    let i = c.self.invariant in
    let b = c.if-at-self.false in
    c.get.ensures ∙ ap (λ (p : List ℕ). get_or p (at % 1024) 0) (c.index.ensures ∙ get_or_default ps (at / 1024) c.index.result.now [] (omega (arith, i, b)))
    ∙ sym (number_at ps c.self.inside.len at b) ∙ ap (λ (xs : List ℕ). get_or xs at 0) c.self.view_is
