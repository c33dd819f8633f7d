use Rattle.std.proofs.Common.{subst}
use Rattle.std.specs.Prelude.{IfOk}
use Rattle.gpu_spaces.specs.Kept.{regions_in}
use Rattle.gpu_spaces.proofs.Meant.{AreTheSpace, AreMapped, LackAPage, pieces_show, pieces_are_mapped, no_pieces_lack_a_page}
use Rattle.gpu_spaces.proofs.space.Space.pieces.Goals as goal

pub returns-clause-bytes : goal.returns-clause-bytes
returns-clause-bytes c =
    subst (λ rs. IfOk c.pieces_of.result (AreTheSpace rs c.args.addr c.args.len)) c.self.view_is
    (pieces_show c.pieces_of.result (regions_in c.self.inside.mappings) c.args.addr c.args.len c.self.invariant.rising c.pieces_of.ensures)

pub returns-clause-mapped : goal.returns-clause-mapped
returns-clause-mapped c =
    subst (λ rs. IfOk c.pieces_of.result (AreMapped rs c.args.addr c.args.len)) c.self.view_is
    (pieces_are_mapped c.pieces_of.result (regions_in c.self.inside.mappings) c.args.addr c.args.len c.self.invariant.rising c.pieces_of.ensures)

pub returns-clause-unmapped : goal.returns-clause-unmapped
returns-clause-unmapped c =
    subst (λ rs. IfOk c.pieces_of.result (LackAPage rs c.args.addr c.args.len)) c.self.view_is
    (no_pieces_lack_a_page c.pieces_of.result (regions_in c.self.inside.mappings) c.args.addr c.args.len c.pieces_of.ensures)
