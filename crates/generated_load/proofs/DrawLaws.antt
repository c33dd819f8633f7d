-- What is drawn is below its bound.
use Rattle.std.proofs.Common.{ℕ, ◌<◌, arith}
use Rattle.rand_pcg.specs.Lcg.{Lcg}
use Rattle.rand_pcg.specs.Pcg.{pcg32}
use Rattle.generated_load.specs.Draws.{draw}

pub draw_below : (k : ℕ) (g : Lcg) → 0 < k → (draw k g).0 < k
unfolding draw
draw_below k g some = let word : ℕ = (pcg32 g).0 in omega (arith, some)
