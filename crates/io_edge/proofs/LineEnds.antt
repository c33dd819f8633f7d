-- What is left of a line is a line.
use Rattle.std.proofs.Common.{ℕ, zero, suc, ◌<◌, Bool, true, false, List, [], ◌∷◌, length, drop, IsTrue, arith}
use Rattle.std.specs.Prelude.{not, ◌==◌, ◌&&◌}
use Rattle.io_edge.specs.Lines.{is_line}

-- the last of two tests that both hold
second : (p q : Bool) → IsTrue (p && q) → IsTrue q
second true q h = h
second false q h = cc

pub end_is_line : (at : ℕ) (bytes : List ℕ) → IsTrue (is_line bytes) → at < length bytes → IsTrue (is_line (drop at bytes))
end_is_line zero bytes h less = h
end_is_line (suc at) [] h less = absurd (omega (arith, less))
end_is_line (suc at) (b ∷ []) h less = absurd (omega (arith, less))
end_is_line (suc at) (b ∷ c ∷ bs) h less = end_is_line at (c ∷ bs) (second (not (b == 10)) (is_line (c ∷ bs)) h) (omega (arith, less))
