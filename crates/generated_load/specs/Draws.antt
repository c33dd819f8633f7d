-- The numbers that a script is drawn with: words of the generator PCG (XSH RR 64/32), one after another.
use Rattle.std.specs.Prelude.{ℕ, ◌%◌}
use Rattle.rand_core.specs.Pcg32Seed.{pcg32_seed}
use Rattle.rand_pcg.specs.Lcg.{Lcg}
use Rattle.rand_pcg.specs.Pcg.{pcg32, pcg32_of_seed}

-- the generator of a number, which is spread over the seed's sixteen bytes
unfoldable pub seeded : ℕ → Lcg
seeded n = pcg32_of_seed (pcg32_seed 16 n)

-- the generator's next word modulo `k`, and the generator after it
unfoldable pub draw : ℕ → Lcg → ℕ × Lcg
draw k g = ((pcg32 g).0 % k, (pcg32 g).1)
