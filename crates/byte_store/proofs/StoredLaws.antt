-- Zeros, and one byte.
use Rattle.std.proofs.Common.{◌≡◌, ℕ, ◌+◌, ◌-◌, ◌<◌, ◌≤◌, List, [], ◌∷◌, ◌++◌, Some, suc, get_or, slice_get, slice_index_or, slice_set, length, take, drop, replicate, refl, ap, ◌∙◌, sym, append_assoc, arith}
use Rattle.std.proofs.lemmas.List.{drop-replicate, replicate-append-replicate, set_split, take-replicate}
use Rattle.std.proofs.lemmas.Option.{slice_get-get_or}
use Rattle.std.proofs.lemmas.Grind.{common_steps}
use Rattle.byte_store.specs.Parts.{filled, overwritten, part}
use Rattle.byte_store.proofs.PartLaws.{get_or-part}

-- ---- zeros

pub filled_is : (n byte : ℕ) → replicate n byte ≡ filled n byte
unfolding filled
filled_is n byte = refl

pub two_filled : (n m byte : ℕ) → filled n byte ++ filled m byte ≡ filled (n + m) byte
unfolding filled
two_filled n m byte = replicate-append-replicate n m byte

-- a part of equal bytes
pub part_filled : (n at len byte : ℕ) → at + len ≤ n → part (filled n byte) at len ≡ filled len byte
unfolding filled
part_filled n at len byte h = ap (λ ys. take len ys) (drop-replicate at n byte) ∙ take-replicate len (n - at) byte (omega arith)

-- ---- one byte

pub first_of_part : (bytes others : List ℕ) (at : ℕ) → at < length bytes → others ≡ part bytes at 1 → slice_get bytes at ≡ Some (slice_index_or others 0 0)
first_of_part bytes others at h e =
    let here : get_or others 0 0 ≡ get_or bytes (at + 0) 0 = ap (λ xs. get_or xs 0 0) e ∙ get_or-part bytes at 1 0 0 (omega arith) (omega arith) in
    let same : at + 0 ≡ at = omega arith in
    slice_get-get_or bytes at 0 h ∙ ap (λ y. Some y) (sym (here ∙ ap (λ i. get_or bytes i 0) same))

pub overwritten_one : (bytes : List ℕ) (at byte : ℕ) → at < length bytes → overwritten bytes at (byte ∷ []) ≡ slice_set bytes at byte
overwritten_one bytes at byte h =
    let next : at + 1 ≡ suc at = omega arith in
    append_assoc (take at bytes) (byte ∷ []) (drop (at + 1) bytes)
    ∙ ap (λ n. take at bytes ++ byte ∷ drop n bytes) next ∙ sym (set_split bytes at byte h)

-- ---- bytes that are written one part after another

-- before the first
pub written_none : (bytes : List ℕ) (at : ℕ) → bytes ≡ overwritten bytes at []
written_none bytes at = grind (arith, common_steps)

pub filled_none : (bytes : List ℕ) (at byte : ℕ) → bytes ≡ overwritten bytes at (filled 0 byte)
unfolding filled
filled_none bytes at byte = grind (arith, common_steps)
