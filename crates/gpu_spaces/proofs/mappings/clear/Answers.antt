use Rattle.std.proofs.Common.{◌≡◌, ℕ, ◌<◌, ◌≤◌, false, None, ◌∙◌, arith}
use Rattle.std.specs.Prelude.{◌==◌}
use Rattle.std.proofs.lemmas.Bool.Decides.{nat_tests}
use Rattle.ttm_base.specs.declared.Span.{Span}
use Rattle.ttm_base.specs.Holes.{has_page}
use Rattle.gpu_spaces.proofs.Kept.{starting_updated}
use Rattle.gpu_spaces.proofs.mappings.clear.Goals as goal

apart : (k q : ℕ) (range : Span) → range.start ≤ k → k < range.end → has_page q range ≡ false → (k == q) ≡ false
apart k q range l u f = grind (arith, nat_tests)

pub loop-start-preserved : goal.loop-start-preserved
loop-start-preserved c = λ q f.
    let other : (c.in-Some.start == q) ≡ false = apart c.in-Some.start q c.args.range c.in-Some.ensures.inside.0 c.in-Some.ensures.inside.1 f in
    starting_updated c.loop-start.mappings c.remove.new.self c.in-Some.start None c.remove.ensures.updates.0 q
    ∙ rw other (c.loop-start.invariant q f)
