-- What was written before an error.
use Rattle.std.specs.Prelude.{◌≡◌, ℕ, ◌<◌, List, ◌++◌, length, Option, Result, MatchResult}
use Rattle.std.specs.Io.KnownBytes.{append_known}

-- a prefix of the bytes was appended, and not all of them
pub record AppendsFront (old new : Option (List ℕ)) (bytes : List ℕ) : Type 0 where
  pub front : List ℕ
  pub behind : List ℕ
  pub whole : bytes ≡ front ++ behind
  pub left : 0 < length behind
  pub appended : new ≡ append_known old front

-- all bytes were appended, or after an error a proper prefix of them
abbrev pub Writes : {T E : Type 0} → Result T E → Option (List ℕ) → Option (List ℕ) → List ℕ → Type 0
Writes r old new bytes = MatchResult r (λ _. new ≡ append_known old bytes) (λ _. AppendsFront old new bytes)
