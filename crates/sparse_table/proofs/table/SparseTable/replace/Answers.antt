use Rattle.std.proofs.Common.{ℕ, ◌/◌, List, [], length, get_or, set, if◌then◌else◌, ap, ◌∙◌, arith}
use Rattle.std.specs.Prelude.{◌%◌, ◌==◌}
use Rattle.std.proofs.lemmas.List.{get_or_default}
use Rattle.sparse_table.proofs.PieceLaws.{HasNumber, has_number, one_set}
use Rattle.sparse_table.proofs.table.SparseTable.replace.Goals as goal
use Rattle.sparse_table.proofs.table.SparseTable.replace.Goals.{After-self}

here : (c : After-self) → HasNumber c.self.inside.pieces.items c.self.inside.len c.args.at
here c =
    let e = ap (λ (xs : List ℕ). get_or xs c.args.at 0) c.self.view_is in
    let some = c.requires in
    has_number c.self.inside.pieces.items c.self.inside.len c.args.at (omega (arith, e, some))

pub index_mut-requires : goal.index_mut-requires
index_mut-requires c = let b = (here (goal.at.index_mut-requires c).After-self).below in let i = c.self.invariant in omega (arith, i, b)

pub replace-requires : goal.replace-requires
replace-requires c =
    let ps : List (List ℕ) = c.self.inside.pieces.items in
    let at : ℕ = c.args.at in
    let h = here (goal.at.replace-requires c).After-self in
    let b = h.below in
    let l = h.inside in
    let i = c.self.invariant in
    let was = ap (λ (p : List ℕ). length p) (c.index_mut.ensures.value ∙ get_or_default ps (at / 1024) c.index_mut.result.now [] (omega (arith, i, b))) in
    omega (arith, was, l)

pub returns : goal.returns
returns c =
    let ps : List (List ℕ) = c.self.inside.pieces.items in
    let at : ℕ = c.args.at in
    let b = (here (goal.at.returns c).After-self).below in
    let i = c.self.invariant in
    let was = c.index_mut.ensures.value ∙ get_or_default ps (at / 1024) c.index_mut.result.now [] (omega (arith, i, b)) in
    one_set ps c.replace.new.self c.self.inside.len at c.args.number b i (λ other. c.replace.ensures other ∙ ap (λ (p : List ℕ). if other == at % 1024 then c.args.number else get_or p other 0) was)
    ∙ ap (λ (xs : List ℕ). set xs at c.args.number) c.self.view_is
