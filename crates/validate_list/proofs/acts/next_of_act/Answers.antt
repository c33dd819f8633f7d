use Rattle.std.proofs.Common.{◌≡◌, ◌∙◌, sym, ap}
use Rattle.std.proofs.lemmas.Result.{IfOk-weaker}
use Rattle.ttm_base.specs.declared.Actor.TheVariants as actor
use Rattle.room_state.specs.turns.Acting.{entry_by}
use Rattle.room_state.specs.turns.Turns.{entry_of}
use Rattle.validate_list.specs.Acts.{act_of}
use Rattle.validate_list.proofs.Acting.{acting}
use Rattle.validate_list.proofs.Shown.{act_entry}
use Rattle.validate_list.proofs.acts.next_of_act.Goals as goal

pub next_of_command-requires : goal.next_of_command-requires
next_of_command-requires c =
    acting c.args.rooms.now c.args.thread c.in-Some.command.now (sym c.in-Some.ensures) c.requires.act c.journal-legal.ensures.fits c.journal-legal.ensures.legal c.requires.no_free c.requires.no_swap

pub returns : goal.returns
returns c =
    IfOk-weaker
    c.next_of_command.result
    (λ next. next ≡ act_of c.args.rooms.now c.in-Some.command.now)
    (λ next. entry_of c.args.rooms.now (actor.Thread c.args.thread) ≡ entry_by c.args.thread next)
    (λ next is. act_entry c.args.rooms.now c.args.thread c.in-Some.command.now (sym c.in-Some.ensures) c.requires.act ∙ ap (entry_by c.args.thread) (sym is))
    c.next_of_command.ensures
