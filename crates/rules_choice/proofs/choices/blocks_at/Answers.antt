use Rattle.journal_model.specs.rules.Holds.{is_free_page, size_of}
use Rattle.journal_model.specs.rules.Choice.{reach_of}
use Rattle.journal_model.specs.rules.Commands.{decl}
use Rattle.rules_choice.proofs.BelowLaws.{buddy_choice_below}
use Rattle.rules_choice.proofs.choices.blocks_at.Goals as goal

pub returns : goal.returns
returns c =
    let place = c.args.place in
    let same =
    buddy_choice_below (is_free_page place.mem c.args.core.now) (size_of c.args.script.now place.mem) c.in_ok-marks.marks.items (reach_of c.args.script.now place)
    place.topdown place.contig (decl c.args.script.now c.args.b).pages
    c.in_ok-marks.ensures.marked
    in
    rw same at (rw (c.reach_of.ensures, c.declared_pages.ensures) at c.buddy_choice.ensures)
