use Rattle.std.proofs.Common.{◌≡◌, ◌++◌, take}
use Rattle.std.specs.Prelude.{map}
use Rattle.journal_model.specs.rules.State.{no_reservation}
use Rattle.rules_apply.proofs.start.add_unreserved.Given as goal

abbrev pub invariant-loop-decl : goal.invariant-loop-decl
invariant-loop-decl l = l.reservations ≡ l.initial.reservations ++ map (λ d. no_reservation) (take l._decl-index l.decls)
