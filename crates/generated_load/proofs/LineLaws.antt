-- How long lines are.
use Rattle.std.proofs.Common.{◌≡◌, ℕ, ◌+◌, ◌*◌, ◌<◌, ◌≤◌, List, [], ◌∷◌, length, refl, arith}
use Rattle.std.specs.Prelude.{decimal}
use Rattle.std.proofs.lemmas.Fmt.{length-decimal-le}
use Rattle.std.proofs.lemmas.List.{length-append}
use Rattle.journal_model.specs.scripts.Words.{Text, hex, hex_byte, line, spaced}

-- the bytes of the words, with one more for each
abbrev pub room : List Text → ℕ
room [] = 0
room (w ∷ ws) = length w + 1 + room ws

spaced_len : (ws : List Text) → length (spaced ws) ≤ room ws
spaced_len [] = omega arith
spaced_len (w ∷ []) = omega arith
spaced_len (w ∷ v ∷ ws) =
    let rest = spaced_len (v ∷ ws) in
    let sum = length-append w (32 ∷ spaced (v ∷ ws)) in
    omega (arith, rest, sum)

pub line_len : (ws : List Text) → length (line ws) ≤ 1 + room ws
line_len ws = let words = spaced_len ws in let sum = length-append (spaced ws) (10 ∷ []) in omega (arith, words, sum)

-- a number below a hundred thousand
pub few_digits : (n : ℕ) → n < 100000 → length (decimal n) ≤ 5
few_digits n lt = length-decimal-le 5 n (omega arith) (omega (arith, lt)) (omega (arith, lt))

pub hex_len : (bytes : List ℕ) → length (hex bytes) ≡ 2 * length bytes
hex_len [] = refl
hex_len (b ∷ bytes) = let rest = hex_len bytes in let sum = length-append (hex_byte b) (hex bytes) in omega (arith, rest, sum)
