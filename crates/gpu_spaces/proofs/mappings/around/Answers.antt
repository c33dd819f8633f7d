use Rattle.std.proofs.Common.{sym, ap, ◌∙◌, Some}
use Rattle.gpu_spaces.proofs.Around.{none_up_to, last_is_around, last_has_ended}
use Rattle.gpu_spaces.proofs.mappings.around.Goals as goal

pub returns-in_default : goal.returns-in_default
returns-in_default c = sym (none_up_to c.args.page c.args.mappings.now.entries (sym (c.range.ensures.between tt) ∙ c.in_default.ensures.steps.0))

pub returns-then-rest-page : goal.returns-then-rest-page
returns-then-rest-page c =
    sym (last_has_ended c.args.page c.args.mappings.now.entries c.next_back.new.self (c.in-Some.start.now, c.in-Some.rest.now) c.requires (sym (c.range.ensures.between tt) ∙ c.in-Some.ensures.steps) c.if-rest-page.true)

pub returns : goal.returns
returns c =
    ap Some c.mapping_at.ensures
    ∙ sym (last_is_around c.args.page c.args.mappings.now.entries c.next_back.new.self (c.in-Some.start.now, c.in-Some.rest.now) c.requires (sym (c.range.ensures.between tt) ∙ c.in-Some.ensures.steps) c.if-rest-page.false)
