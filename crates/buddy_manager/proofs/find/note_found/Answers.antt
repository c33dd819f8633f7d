use Rattle.std.proofs.Common.{length, ap, sym, subst, ◌∙◌}
use Rattle.std.proofs.lemmas.List.{length-replicate}
use Rattle.block_tree.specs.FreeSet.{is_free}
use Rattle.buddy_manager.specs.Taking.{less}
use Rattle.buddy_manager.specs.Finding.{HasNumbers, IsFound, IsKnown}
use Rattle.buddy_manager.proofs.FindingLaws.{marked_all, known_marked}
use Rattle.buddy_manager.proofs.find.note_found.Goals as goal

pub returns-then-note-clause-known : goal.returns-then-note-clause-known
returns-then-note-clause-known c = λ some before test g h m is kn e.
    let size = c.size-size.ensures.value ∙ m.size in
    subst (λ g. IsKnown g (is_free c.args.free.now) (length before) c.args.range c.note.new.rests c.note.new.half) (sym e)
    (subst (λ n. IsKnown (less g c.args.found.block) (is_free c.args.free.now) n c.args.range c.note.new.rests c.note.new.half) size
    (c.note.ensures.known (is_free c.args.free.now) c.args.range
    (subst (λ n. IsFound (is_free c.args.free.now) n c.args.range c.args.topdown c.args.search.now.order c.args.search.now.rests c.args.search.now.half c.args.found) (sym size) is) c.if-note.true g
    (subst (λ n. IsKnown g (is_free c.args.free.now) n c.args.range c.args.search.now.rests c.args.search.now.half) (sym size) kn)))

pub returns-clause-count : goal.returns-clause-count
returns-clause-count c = ap length c.mark_all.ensures.rests ∙ length-replicate 32 c.args.range

pub returns-clause-numbers : goal.returns-clause-numbers
returns-clause-numbers c = λ n. subst HasNumbers (sym c.mark_all.ensures.half) tt

pub returns-clause-marks : goal.returns-clause-marks
returns-clause-marks c = λ before m. marked_all before c.args.free.now c.mark_all.new.free c.args.search.now.marked c.mark_all.new.search.marked c.args.blocks.now m c.mark_all.ensures.size c.mark_all.ensures.marked c.mark_all.ensures.held

pub returns-clause-known : goal.returns-clause-known
returns-clause-known c = λ some before test g h m is kn e.
    known_marked before c.args.free.now c.mark_all.new.free c.args.range c.args.search.now.marked c.args.blocks.now c.mark_all.new.search.rests c.mark_all.new.search.half test h m c.mark_all.ensures.rests c.mark_all.ensures.half c.mark_all.ensures.held
