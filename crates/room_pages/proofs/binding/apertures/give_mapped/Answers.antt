use Rattle.std.proofs.Common.{Some, sym, ◌∙◌, ap}
use Rattle.room_pages.proofs.binding.Holding.{is_holder, held_below, given_some, given_none}
use Rattle.room_pages.proofs.binding.apertures.give_mapped.Goals as goal

pub returns-in_default-clause-tt : goal.returns-in_default-clause-tt
returns-in_default-clause-tt c = sym (given_none c.args.tt.now c.args.owner c.in_default.ensures)

pub clear_pages-requires : goal.clear_pages-requires
clear_pages-requires c = held_below c.args.tt.now c.args.owner c.items.result.now _ (ap Some c.items.ensures ∙ c.in-Some.ensures) c.requires

pub give-requires : goal.give-requires
give-requires c = is_holder c.args.tt.now c.args.owner _ c.in-Some.ensures

pub returns-clause-tt : goal.returns-clause-tt
returns-clause-tt c = c.give.ensures.held ∙ sym (given_some c.args.tt.now c.args.owner (is_holder c.args.tt.now c.args.owner _ c.in-Some.ensures))
