use Rattle.std.proofs.Common.{ℕ, List, length, get_or, ap, sym, ◌∙◌, arith}
use Rattle.std.specs.Prelude.{vec_len}
use Rattle.std.proofs.lemmas.Bool.{eqb-true}
use Rattle.std.proofs.lemmas.List.{get_or_past}
use Rattle.sparse_table.proofs.PieceLaws.{zeros}
use Rattle.sparse_table.proofs.piece.Piece.fill.Goals as goal

pub returns-clause-kept : goal.returns-clause-kept
returns-clause-kept c = λ other.
    let z = eqb-true (vec_len c.self.inside.numbers) 0 (sym c.is_empty.ensures ∙ c.if-not-is_empty.false) in
    let v = ap (λ (xs : List ℕ). length xs) c.self.view_is in
    ap (λ (xs : List ℕ). get_or xs other 0) c.in_ok-self-inside.ensures ∙ zeros 1024 other ∙ sym (get_or_past c.args.self.now other 0 (omega (arith, z, v)))
