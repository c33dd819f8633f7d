-- A page after all holes, told by the last of them.
use Rattle.std.proofs.Common.{◌≡◌, ℕ, zero, suc, ◌+◌, true, false, List, [], ◌∷◌, ◌++◌, Some, length, refl, ap, arith}
use Rattle.std.specs.Prelude.{slice_get, slice_set, nat_eq}
use Rattle.std.proofs.lemmas.Grind.{common_steps}
use Rattle.ttm_base.specs.declared.Span.{Span}
use Rattle.ttm_base.specs.Holes.{with_page}

-- it touches the last hole
pub with_page_touching : (page : ℕ) (hs : List Span) (i : ℕ) (s : Span) → length hs ≡ i + 1 → slice_get hs i ≡ Some s → nat_eq s.end page ≡ true
    → slice_set hs i (record { start = s.start; end = page + 1 }) ≡ with_page page hs
with_page_touching page [] i s l h e = absurd (omega arith)
with_page_touching page (t ∷ []) zero s l h e = grind (arith, common_steps)
with_page_touching page (t ∷ []) (suc i) s l h e = absurd (omega arith)
with_page_touching page (t ∷ u ∷ hs) zero s l h e = absurd (omega arith)
with_page_touching page (t ∷ u ∷ hs) (suc i) s l h e =
    let shorter : length (u ∷ hs) ≡ i + 1 = omega arith in
    ap (λ rest. t ∷ rest) (with_page_touching page (u ∷ hs) i s shorter h e)

-- it lies apart from the last hole
pub with_page_apart : (page : ℕ) (hs : List Span) (i : ℕ) (s : Span) → length hs ≡ i + 1 → slice_get hs i ≡ Some s → nat_eq s.end page ≡ false
    → hs ++ record { start = page; end = page + 1 } ∷ [] ≡ with_page page hs
with_page_apart page [] i s l h e = absurd (omega arith)
with_page_apart page (t ∷ []) zero s l h e = grind (arith, common_steps)
with_page_apart page (t ∷ []) (suc i) s l h e = absurd (omega arith)
with_page_apart page (t ∷ u ∷ hs) zero s l h e = absurd (omega arith)
with_page_apart page (t ∷ u ∷ hs) (suc i) s l h e =
    let shorter : length (u ∷ hs) ≡ i + 1 = omega arith in
    ap (λ rest. t ∷ rest) (with_page_apart page (u ∷ hs) i s shorter h e)

-- there is no hole yet
pub with_page_first : (page : ℕ) (hs : List Span) → length hs ≡ 0 → hs ++ record { start = page; end = page + 1 } ∷ [] ≡ with_page page hs
with_page_first page [] l = refl
with_page_first page (t ∷ hs) l = absurd (omega arith)
