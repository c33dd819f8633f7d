use Rattle.std.proofs.Common.{◌||◌, length, take, refl, ap, sym, subst, ◌∙◌}
use Rattle.std.specs.List.{list_any}
use Rattle.ttm_base.specs.Holes.{has_page}
use Rattle.block_tree.specs.FreeSet.{is_free}
use Rattle.buddy_manager.specs.Taking.{AreGiven, IsSame}
use Rattle.buddy_manager.proofs.FindingLaws.{finding_start, marks_back, marks_given}
use Rattle.buddy_manager.proofs.find.find_blocks.Goals as goal
use Rattle.buddy_manager.proofs.find.find_blocks.Goals.{After-free_spans}

pub find_all-found-requires-clause-finding : goal.find_all-found-requires-clause-finding
find_all-found-requires-clause-finding c = finding_start _ _ _ _ _ _ c.requires.empty refl c.log2.ensures.value refl refl refl

pub free_spans-requires : goal.free_spans-requires
free_spans-requires c =
    subst (λ xs. AreGiven (is_free c.find_all-found.new.free) (length c.find_all-found.new.free) (take c.find_all-found.new.search.marked xs)) (sym c.items.ensures)
    (marks_given c.args.free.now c.find_all-found.new.free c.find_all-found.new.search.marked c.find_all-found.new.out c.find_all-found.ensures.marks)

same : (c : After-free_spans) → IsSame c.args.free.now c.free_spans.new.free
same c =
    marks_back c.args.free.now c.find_all-found.new.free c.free_spans.new.free c.find_all-found.new.search.marked c.find_all-found.new.out c.find_all-found.ensures.marks c.free_spans.ensures.size
    (λ page. c.free_spans.ensures.freed page ∙ ap (λ xs. is_free c.find_all-found.new.free page || list_any (has_page page) (take c.find_all-found.new.search.marked xs)) c.items.ensures)

pub returns-in-Ok-clause-can : goal.returns-in-Ok-clause-can
returns-in-Ok-clause-can c = c.find_all-found.ensures.marks.each

pub returns-in-Ok-clause-same : goal.returns-in-Ok-clause-same
returns-in-Ok-clause-same c = same (goal.at.returns-in-Ok-clause-same c).After-free_spans

pub returns-in-Err-clause-same : goal.returns-in-Err-clause-same
returns-in-Err-clause-same c = same (goal.at.returns-in-Err-clause-same c).After-free_spans
