-- The bytes of pages after a part of their list was written.
use Rattle.std.proofs.Common.{◌≡◌, ℕ, ◌+◌, ◌-◌, ◌*◌, ◌≤◌, ◌<◌, true, inl, inr, refl, ap, subst, sym, ◌∙◌, ◌⊎◌, List, length, replicate, get_or, arith, min, if◌then◌else◌}
use Rattle.std.specs.Prelude.{◌&&◌, nat_le, nat_lt}
use Rattle.std.proofs.lemmas.Bool.{cases_lt}
use Rattle.std.proofs.lemmas.Bool.Decides.{nat_tests}
use Rattle.byte_store.specs.Parts.{filled, overwritten}
use Rattle.byte_store.proofs.PartLaws.{get_or-overwritten_below, get_or-overwritten_inside, get_or-overwritten_behind}
use Rattle.rules_stores.specs.StoredPages.{stored_byte, has_page, byte_after}

-- new pages
pub zeros_of : (n : ℕ) → filled n 0 ≡ replicate n 0
unfolding filled
zeros_of n = refl

-- an element of a list of which a part was written
put_at : (d f : List ℕ) (at k : ℕ) → at + length f ≤ length d →
    get_or (overwritten d at f) k 0 ≡ (if nat_le at k && nat_lt k (at + length f) then get_or f (k - at) 0 else get_or d k 0)
put_at d f at k h =
    elim (cases_lt k at) [
      | inl below ↦ let e = get_or-overwritten_below d at f k 0 below (omega arith) in grind (arith, nat_tests, e)
      | inr from ↦ elim (cases_lt k (at + length f)) [
        | inl inside ↦
            let e = get_or-overwritten_inside d at f (k - at) 0 (omega arith) (omega arith) in
            let same : at + (k - at) ≡ k = omega arith in
            let t : get_or (overwritten d at f) k 0 ≡ get_or f (k - at) 0 = ap (λ n. get_or (overwritten d at f) n 0) (sym same) ∙ e in
            grind (arith, nat_tests, t)
        | inr behind ↦ let e = get_or-overwritten_behind d at f k 0 behind h in grind (arith, nat_tests, e)
      ]
    ]

-- past a page's end there are zeros
past_page : (stored stored' : List ℕ) (q o : ℕ) (page off len : ℕ) (value : ℕ → ℕ) → 4096 ≤ o → stored_byte stored' q o ≡ byte_after stored page off len value q o
past_page stored stored' q o page off len value h = grind (arith, nat_tests)

-- another page is as it was
beside_page : (d f : List ℕ) (page off len : ℕ) (value : ℕ → ℕ) → 4096 * page + 4096 ≤ length d → off + length f ≤ 4096 → (q o : ℕ) → o < 4096 → (q < page) ⊎ (page < q) →
    stored_byte (overwritten d (4096 * page + off) f) q o ≡ byte_after d page off len value q o
beside_page d f page off len value h l q o w (inl below) = let p = put_at d f (4096 * page + off) (4096 * q + o) (omega arith) in grind (arith, nat_tests, p)
beside_page d f page off len value h l q o w (inr above) = let p = put_at d f (4096 * page + off) (4096 * q + o) (omega arith) in grind (arith, nat_tests, p)

-- the page that was written
on_page : (d f : List ℕ) (page off len : ℕ) (value : ℕ → ℕ) → 4096 * page + 4096 ≤ length d → length f ≡ min (4096 - off) len → 0 < length f →
    ((i : ℕ) → i < length f → get_or f i 0 ≡ value i) → (o : ℕ) → o < 4096 →
    stored_byte (overwritten d (4096 * page + off) f) page o ≡ byte_after d page off len value page o
on_page d f page off len value h e n v o w =
    let p = put_at d f (4096 * page + off) (4096 * page + o) (omega arith) in
    elim (cases_lt o off) [
      | inl below ↦ grind (arith, nat_tests, p)
      | inr from ↦ elim (cases_lt o (off + length f)) [
        | inl inside ↦
            let g = v (o - off) (omega arith) in
            let same : 4096 * page + o - (4096 * page + off) ≡ o - off = omega arith in
            grind (arith, nat_tests, p, g, same)
        | inr past ↦ grind (arith, nat_tests, p)
      ]
    ]

-- a byte of a page after a part of the list was written
page_put : (d f : List ℕ) (page off len : ℕ) (value : ℕ → ℕ) → has_page d page ≡ true → length f ≡ min (4096 - off) len → 0 < length f →
    ((i : ℕ) → i < length f → get_or f i 0 ≡ value i) → (q o : ℕ) →
    stored_byte (overwritten d (4096 * page + off) f) q o ≡ byte_after d page off len value q o
page_put d f page off len value r e n v q o =
    let h : 4096 * page + 4096 ≤ length d = grind (arith, nat_tests, r) in
    elim (cases_lt o 4096) [
      | inr past ↦ past_page d _ q o page off len value past
      | inl w ↦ elim (cases_lt q page) [
        | inl below ↦ beside_page d f page off len value h (omega arith) q o w (inl below)
        | inr from ↦ elim (cases_lt page q) [
          | inl above ↦ beside_page d f page off len value h (omega arith) q o w (inr above)
          | inr to ↦
              let same : page ≡ q = omega arith in
              let P : ℕ → Type 0 = λ x. stored_byte (overwritten d (4096 * page + off) f) x o ≡ byte_after d page off len value x o in
              subst P same (on_page d f page off len value h e n v o w)
        ]
      ]
    ]

-- the bytes of pages after count bytes of one page, as the code counts them, were written
pub page_write : (d f : List ℕ) (at count page off len : ℕ) (value : ℕ → ℕ) →
    count ≡ (if has_page d page then min (4096 - off) len else 0) → 0 < count → at ≡ 4096 * page + off → length f ≡ count →
    ((i : ℕ) → i < length f → get_or f i 0 ≡ value i) → (q o : ℕ) → stored_byte (overwritten d at f) q o ≡ byte_after d page off len value q o
page_write d f at count page off len value c some a l v q o =
    let r : has_page d page ≡ true = grind (arith, nat_tests) in
    let e : length f ≡ min (4096 - off) len = l ∙ c ∙ ap (λ b. if b then min (4096 - off) len else 0) r in
    ap (λ n. stored_byte (overwritten d n f) q o) a ∙ page_put d f page off len value r e (omega arith) v q o
