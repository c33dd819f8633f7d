use Rattle.std.proofs.Common.{◌≡◌, ◌++◌, None, take}
use Rattle.std.specs.Prelude.{map}
use Rattle.rules_apply.proofs.start.add_dead.Given as goal

abbrev pub invariant-loop-decl : goal.invariant-loop-decl
invariant-loop-decl l = l.buffers ≡ l.initial.buffers ++ map (λ d. None) (take l._decl-index l.decls)
