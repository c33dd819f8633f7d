use Rattle.std.proofs.Common.{◌≡◌, ℕ, ◌<◌, ◌^◌, List, [], replicate, ap, ◌∙◌, arith}
use Rattle.copy_engine.specs.Pushes.{Pushed}
use Rattle.copy_engine.proofs.RingLaws.{sound_new}
use Rattle.copy_engine.proofs.Rings.new.Goals as goal

pub invariant_of-result : goal.invariant_of-result
invariant_of-result c =
    let none : List Pushed = [] in
    let all : c.loop-made._made ≡ c.args.contexts = omega arith in
    let few : c.args.contexts < 2 ^ 32 = omega arith in
    rw (c.loop-made.invariant ∙ ap (λ (n : ℕ). replicate n none) all) (sound_new c.args.contexts few)
