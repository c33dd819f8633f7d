-- The pages of a range.
use Rattle.std.proofs.Common.{◌≡◌, ℕ, zero, suc, ◌+◌, ◌-◌, ◌*◌, ◌/◌, ◌%◌, ◌<◌, ◌≤◌, Bool, true, false, cond, List, [], ◌∷◌, ◌++◌, append_assoc, ap, sym, ◌∙◌, ⊎_elim, arith}
use Rattle.std.specs.Prelude.{◌&&◌, filter, nat_le, nat_lt}
use Rattle.std.proofs.lemmas.Bool.{cases_lt, lt-ltb, le-ltb, le-leb, lt-leb}
use Rattle.ttm_base.specs.ListWords.{count_from}
use Rattle.journal_model.specs.marks.Mapped.{Access, meets_page, pages_of_access}
use Rattle.map_access.specs.Accesses.{paged}

-- the page after a range, by its parts
pub end_by_parts : (off len : ℕ) → off / 4096 + len / 4096 + (off % 4096 + len % 4096 + 4096 - 1) / 4096 ≡ (off + len + 4095) / 4096
end_by_parts off len = omega arith

-- ---- the range meets the pages from the first to the one after the last

first_met : (off i : ℕ) → nat_lt off (4096 * (i + 1)) ≡ nat_le (off / 4096) i
first_met off i =
    ⊎_elim
    (λ low. lt-ltb off (4096 * (i + 1)) low ∙ sym (le-leb (off / 4096) i (omega (arith, low))))
    (λ high. le-ltb off (4096 * (i + 1)) high ∙ sym (lt-leb (off / 4096) i (omega (arith, high))))
    (cases_lt off (4096 * (i + 1)))

last_met : (whole i : ℕ) → nat_lt (4096 * i) whole ≡ nat_lt i ((whole + 4095) / 4096)
last_met whole i =
    ⊎_elim
    (λ low. lt-ltb (4096 * i) whole low ∙ sym (lt-ltb i ((whole + 4095) / 4096) (omega (arith, low))))
    (λ high. le-ltb (4096 * i) whole high ∙ sym (le-ltb i ((whole + 4095) / 4096) (omega (arith, high))))
    (cases_lt (4096 * i) whole)

both : (a b c d : Bool) → a ≡ c → b ≡ d → (a && b) ≡ (c && d)
both a b c d e f = ap (λ x. x && b) e ∙ ap (λ x. c && x) f

pub meets_is : (a : Access) (i : ℕ) → meets_page a i ≡ (nat_le (paged a).first i && nat_lt i (paged a).end)
meets_is a i =
    both (nat_lt a.off (4096 * (i + 1))) (nat_lt (4096 * i) (a.off + a.len)) (nat_le (a.off / 4096) i) (nat_lt i ((a.off + a.len + 4095) / 4096))
    (first_met a.off i) (last_met (a.off + a.len) i)

-- ---- those pages in order

kept : (p : ℕ → Bool) (s : ℕ) (xs : List ℕ) → p s ≡ true → filter p (s ∷ xs) ≡ s ∷ filter p xs
kept p s xs h = ap (λ (b : Bool). cond b (s ∷ filter p xs) (filter p xs)) h

left : (p : ℕ → Bool) (s : ℕ) (xs : List ℕ) → p s ≡ false → filter p (s ∷ xs) ≡ filter p xs
left p s xs h = ap (λ (b : Bool). cond b (s ∷ filter p xs) (filter p xs)) h

counted : (p : ℕ → Bool) (n s e : ℕ) → ((i : ℕ) → s ≤ i → p i ≡ nat_lt i e) → e ≤ s + n → filter p (count_from 1 n s) ≡ count_from 1 (e - s) s
counted p zero s e is most =
    let none : 0 ≡ e - s = omega (arith, most) in
    ap (λ k. count_from 1 k s) none
counted p (suc n) s e is most =
    ⊎_elim
    (λ low.
    let one : suc (e - (1 + s)) ≡ e - s = omega (arith, low) in
    kept p s (count_from 1 n (1 + s)) (is s (omega arith) ∙ lt-ltb s e low)
    ∙ ap (λ xs. s ∷ xs) (counted p n (1 + s) e (λ i more. is i (omega (arith, more))) (omega (arith, most)))
    ∙ ap (λ k. count_from 1 k s) one)
    (λ high.
    let none : 0 ≡ e - s = omega (arith, high) in
    let none_behind : e - (1 + s) ≡ 0 = omega (arith, high) in
    left p s (count_from 1 n (1 + s)) (is s (omega arith) ∙ le-ltb s e high)
    ∙ counted p n (1 + s) e (λ i more. is i (omega (arith, more))) (omega (arith, most))
    ∙ ap (λ k. count_from 1 k (1 + s)) none_behind
    ∙ ap (λ k. count_from 1 k s) none)
    (cases_lt s e)

pub pages_are : (a : Access) → pages_of_access a ≡ count_from 1 ((paged a).end - (paged a).first) (paged a).first
pages_are a =
    counted (meets_page a) (a.len / 4096 + 2) (a.off / 4096) ((a.off + a.len + 4095) / 4096)
    (λ i low. meets_is a i ∙ ap (λ (b : Bool). b && nat_lt i ((a.off + a.len + 4095) / 4096)) (le-leb (a.off / 4096) i low))
    (omega arith)

-- ---- over a range, page by page

-- the next page of a range, and those after it
pub count_next : (page end : ℕ) → page < end → count_from 1 (end - page) page ≡ page ∷ count_from 1 (end - (page + 1)) (page + 1)
count_next page end h =
    let one : end - page ≡ suc (end - (page + 1)) = omega (arith, h) in
    let next : 1 + page ≡ page + 1 = omega arith in
    ap (λ k. count_from 1 k page) one ∙ ap (λ s. page ∷ count_from 1 (end - (page + 1)) s) next

-- no page is left
pub count_ends : (page end : ℕ) → end ≤ page → count_from 1 (end - page) page ≡ []
count_ends page end h = let none : end - page ≡ 0 = omega (arith, h) in ap (λ k. count_from 1 k page) none

-- a page that is kept of those that are left, and one that isn't
pub page_kept : (p : ℕ → Bool) (page end : ℕ) (before now whole : List ℕ) → page < end → p page ≡ true
    → before ++ filter p (count_from 1 (end - page) page) ≡ whole → now ≡ before ++ page ∷ [] → now ++ filter p (count_from 1 (end - (page + 1)) (page + 1)) ≡ whole
page_kept p page end before now whole h kept_here told put =
    let rest = filter p (count_from 1 (end - (page + 1)) (page + 1)) in
    ap (λ t. t ++ rest) put ∙ append_assoc before (page ∷ []) rest
    ∙ ap (λ t. before ++ t) (sym (ap (filter p) (count_next page end h) ∙ kept p page (count_from 1 (end - (page + 1)) (page + 1)) kept_here)) ∙ told

pub page_left : (p : ℕ → Bool) (page end : ℕ) (before now whole : List ℕ) → page < end → p page ≡ false
    → before ++ filter p (count_from 1 (end - page) page) ≡ whole → now ≡ before → now ++ filter p (count_from 1 (end - (page + 1)) (page + 1)) ≡ whole
page_left p page end before now whole h left_here told same =
    let rest = filter p (count_from 1 (end - (page + 1)) (page + 1)) in
    ap (λ t. t ++ rest) same
    ∙ ap (λ t. before ++ t) (sym (ap (filter p) (count_next page end h) ∙ left p page (count_from 1 (end - (page + 1)) (page + 1)) left_here)) ∙ told
