use Rattle.std.proofs.Common.{◌≡◌, ◌<◌, ◌^◌, List, [], ◌∷◌, length, IsTrue, sym, subst, arith}
use Rattle.std.specs.Prelude.{IfNone, IfSome}
use Rattle.std.proofs.lemmas.Bool.Decides.{nat_tests}
use Rattle.journal_model.specs.declared.script.Script.{Script}
use Rattle.journal_model.specs.declared.state.Course.{Course}
use Rattle.journal_model.specs.scripts.ScriptRules.{is_script}
use Rattle.turn_order.specs.Left.{left}
use Rattle.device_core.specs.Kept.{state_behind}
use Rattle.device_core.proofs.device.asked_next.Goals as goal

-- a script has few threads
few_threads : (script : Script) → IsTrue (is_script script) → length script.threads < 2 ^ 32
few_threads script h = grind (arith, nat_tests)

pub next-requires : goal.next-requires
next-requires c = subst (λ (t : Script). length t.threads < 2 ^ 32) (sym c.script-script.ensures.script) (few_threads c.args.rooms.now.script c.script-script.ensures.fits)

pub returns-clause-some : goal.returns-clause-some
returns-clause-some c =
    subst (λ (t : Script). IfSome c.next.result (λ who. left t (state_behind c.args.rooms.now).courses c.args.order.now ≡ who ∷ left t (state_behind c.args.rooms.now).courses c.next.new.self))
    c.script-script.ensures.script
    (subst (λ (cs : List Course). IfSome c.next.result (λ who. left c.script-script.result.now cs c.args.order.now ≡ who ∷ left c.script-script.result.now cs c.next.new.self))
    c.parts-parts.ensures.represents.courses c.next.ensures.some)

pub returns-clause-none : goal.returns-clause-none
returns-clause-none c =
    subst (λ (t : Script). IfNone c.next.result (left t (state_behind c.args.rooms.now).courses c.args.order.now ≡ []))
    c.script-script.ensures.script
    (subst (λ (cs : List Course). IfNone c.next.result (left c.script-script.result.now cs c.args.order.now ≡ []))
    c.parts-parts.ensures.represents.courses c.next.ensures.none)
