use Rattle.std.proofs.Common.{Some, sym, ◌∙◌, ap}
use Rattle.ttm_base.specs.declared.Owner.TheVariants as owner
use Rattle.room_pages.proofs.binding.Holding.{is_holder, held_below, passed_some, passed_none}
use Rattle.room_pages.proofs.binding.apertures.map_target.Goals as goal

pub returns-in_default-clause-tt : goal.returns-in_default-clause-tt
returns-in_default-clause-tt c = sym (passed_none c.args.tt.now (owner.Target c.args.b) (owner.Live c.args.b) c.in_default.ensures)

pub map_pages-requires : goal.map_pages-requires
map_pages-requires c = held_below c.args.tt.now (owner.Target c.args.b) c.items.result.now _ (ap Some c.items.ensures ∙ c.in-Some.ensures) c.requires.below

pub pass-requires-clause-from : goal.pass-requires-clause-from
pass-requires-clause-from c = is_holder c.args.tt.now (owner.Target c.args.b) _ c.in-Some.ensures

pub returns-clause-tt : goal.returns-clause-tt
returns-clause-tt c = c.pass.ensures.held ∙ sym (passed_some c.args.tt.now (owner.Target c.args.b) (owner.Live c.args.b) (is_holder c.args.tt.now (owner.Target c.args.b) _ c.in-Some.ensures))
