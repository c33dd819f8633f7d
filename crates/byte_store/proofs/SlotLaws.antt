-- Pages of bytes that lie in slots.
use Rattle.std.proofs.Common.{◌≡◌, ◌≢◌, ℕ, zero, suc, ◌+◌, ◌*◌, ◌/◌, ◌<◌, ◌≤◌, inl, inr, List, [], ◌∷◌, ◌++◌, length, take, drop, get_or, set, replicate, bit_xor, refl, ap, ◌∙◌, sym, subst, append_assoc, length-append, length-set, get_or-set_same, get_or-set_other, arith}
use Rattle.std.specs.Prelude.{◌%◌}
use Rattle.std.proofs.Math.Seq.{drop-append-add, take-add, take-append-add}
use Rattle.std.proofs.lemmas.Bool.{cases_lt}
use Rattle.std.proofs.lemmas.List.{drop-drop, ext_get_or, get_or_default, length-replicate, set-get_or, take-append-drop}
use Rattle.std.proofs.lemmas.Grind.{common_steps}
use Rattle.byte_store.specs.Parts.{filled, overwritten, part, xored}
use Rattle.byte_store.specs.Slots.{HasSlots, IsPlace, IsReady, count_begun, own_slot, page_bytes, shown_slot, slot_bytes}
use Rattle.byte_store.specs.declared.slots.Stored.{Stored}
use Rattle.byte_store.specs.declared.slots.Stored.TheVariants as stored
use Rattle.byte_store.proofs.PartLaws.{get_or-overwritten_behind, get_or-overwritten_below, get_or-part, length-filled, length-overwritten, length-part, length-xored}
use Rattle.byte_store.proofs.StoredLaws.{filled_is, two_filled}

-- ---- the first of two, and the second

first_written : (page rest others : List ℕ) → length others ≡ length page → overwritten (page ++ rest) 0 others ≡ others ++ rest
first_written page rest others h = grind (arith, common_steps)

later_written : (page rest others : List ℕ) (n at : ℕ) → length page ≡ n → overwritten (page ++ rest) (n + at) others ≡ page ++ overwritten rest at others
later_written page rest others n at h =
    let e : n + at ≡ length page + at = omega (arith, h) in
    let f : n + at + length others ≡ length page + (at + length others) = omega (arith, h) in
    ap (λ i. take i (page ++ rest) ++ others ++ drop (n + at + length others) (page ++ rest)) e
    ∙ ap (λ i. take (length page + at) (page ++ rest) ++ others ++ drop i (page ++ rest)) f
    ∙ ap (λ xs. xs ++ others ++ drop (length page + (at + length others)) (page ++ rest)) (take-append-add page rest at)
    ∙ ap (λ xs. (page ++ take at rest) ++ others ++ xs) (drop-append-add page rest (at + length others))
    ∙ joined page (take at rest) others (drop (at + length others) rest)
  where
    joined : (a b c d : List ℕ) → (a ++ b) ++ c ++ d ≡ a ++ (b ++ c ++ d)
    joined a b c d = grind (arith, common_steps)

first_part : (page rest : List ℕ) (n : ℕ) → length page ≡ n → part (page ++ rest) 0 n ≡ page
first_part page rest n h = grind (arith, common_steps)

later_part : (page rest : List ℕ) (n at len : ℕ) → length page ≡ n → part (page ++ rest) (n + at) len ≡ part rest at len
later_part page rest n at len h =
    let e : n + at ≡ length page + at = omega (arith, h) in
    ap (λ i. take len (drop i (page ++ rest))) e ∙ ap (λ xs. take len xs) (drop-append-add page rest at)

-- what is written inside the first
inside_written : (page rest others : List ℕ) (at : ℕ) → at + length others ≤ length page → overwritten (page ++ rest) at others ≡ overwritten page at others ++ rest
inside_written page rest others at h = grind (arith, common_steps)

-- ---- parts of parts

pub part_of_part : (bytes : List ℕ) (from n at len : ℕ) → at + len ≤ n → from + n ≤ length bytes → part (part bytes from n) at len ≡ part bytes (from + at) len
part_of_part bytes from n at len h k =
    let p = length-part bytes from n k in
    let a = length-part (part bytes from n) at len (omega (arith, p, h)) in
    let b = length-part bytes (from + at) len (omega (arith, h, k)) in
    ext_get_or 0 (part (part bytes from n) at len) (part bytes (from + at) len) (a ∙ sym b)
    (λ i l.
    let less : i < len = omega (arith, l, a) in
    let e : from + (at + i) ≡ from + at + i = omega arith in
    get_or-part (part bytes from n) at len i 0 less (omega (arith, p, h)) ∙ get_or-part bytes from n (at + i) 0 (omega (arith, less, h)) k
    ∙ ap (λ j. get_or bytes j 0) e ∙ sym (get_or-part bytes (from + at) len i 0 less (omega (arith, h, k))))

-- the bytes before a part, the part, and those after it
split : (bytes : List ℕ) (from n : ℕ) → bytes ≡ take from bytes ++ (part bytes from n ++ drop n (drop from bytes))
split bytes from n = sym (ap (λ xs. take from bytes ++ xs) (take-append-drop n (drop from bytes)) ∙ take-append-drop from bytes)

before_part : (bytes : List ℕ) (from : ℕ) → from ≤ length bytes → length (take from bytes) ≡ from
before_part bytes from h = grind (arith, common_steps)

split_written : (bytes : List ℕ) (from n at : ℕ) (others : List ℕ) → at + length others ≤ n → from + n ≤ length bytes
    → overwritten bytes (from + at) others ≡ take from bytes ++ (overwritten (part bytes from n) at others ++ drop n (drop from bytes))
split_written bytes from n at others h k =
    let p = length-part bytes from n k in
    ap (λ xs. overwritten xs (from + at) others) (split bytes from n)
    ∙ later_written (take from bytes) (part bytes from n ++ drop n (drop from bytes)) others from at (before_part bytes from (omega (arith, k)))
    ∙ ap (λ xs. take from bytes ++ xs) (inside_written (part bytes from n) (drop n (drop from bytes)) others at (omega (arith, p, h)))

pub part_written : (bytes : List ℕ) (from n at : ℕ) (others : List ℕ) → at + length others ≤ n → from + n ≤ length bytes
    → part (overwritten bytes (from + at) others) from n ≡ overwritten (part bytes from n) at others
part_written bytes from n at others h k =
    let p = length-part bytes from n k in
    let e : from ≡ from + 0 = omega arith in
    ap (λ xs. part xs from n) (split_written bytes from n at others h k)
    ∙ ap (λ i. part (take from bytes ++ (overwritten (part bytes from n) at others ++ drop n (drop from bytes))) i n) e
    ∙ later_part (take from bytes) (overwritten (part bytes from n) at others ++ drop n (drop from bytes)) from 0 n (before_part bytes from (omega (arith, k)))
    ∙ first_part (overwritten (part bytes from n) at others) (drop n (drop from bytes)) n (length-overwritten (part bytes from n) at others (omega (arith, p, h)) ∙ p)

pub part_before : (bytes : List ℕ) (from n at : ℕ) (others : List ℕ) → from + n ≤ at → at + length others ≤ length bytes
    → part (overwritten bytes at others) from n ≡ part bytes from n
part_before bytes from n at others h k =
    let o = length-overwritten bytes at others k in
    let a = length-part (overwritten bytes at others) from n (omega (arith, o, h, k)) in
    let b = length-part bytes from n (omega (arith, h, k)) in
    ext_get_or 0 (part (overwritten bytes at others) from n) (part bytes from n) (a ∙ sym b)
    (λ i l.
    let less : i < n = omega (arith, l, a) in
    get_or-part (overwritten bytes at others) from n i 0 less (omega (arith, o, h, k)) ∙ get_or-overwritten_below bytes at others (from + i) 0 (omega (arith, less, h)) (omega (arith, k))
    ∙ sym (get_or-part bytes from n i 0 less (omega (arith, h, k))))

pub part_after : (bytes : List ℕ) (from n at : ℕ) (others : List ℕ) → at + length others ≤ from → from + n ≤ length bytes
    → part (overwritten bytes at others) from n ≡ part bytes from n
part_after bytes from n at others h k =
    let o = length-overwritten bytes at others (omega (arith, h, k)) in
    let a = length-part (overwritten bytes at others) from n (omega (arith, o, k)) in
    let b = length-part bytes from n k in
    ext_get_or 0 (part (overwritten bytes at others) from n) (part bytes from n) (a ∙ sym b)
    (λ i l.
    let less : i < n = omega (arith, l, a) in
    get_or-part (overwritten bytes at others) from n i 0 less (omega (arith, o, k)) ∙ get_or-overwritten_behind bytes at others (from + i) 0 (omega (arith, h)) (omega (arith, h, k))
    ∙ sym (get_or-part bytes from n i 0 less k))

pub written_in_part : (bytes : List ℕ) (from n at : ℕ) (others : List ℕ) → at + length others ≤ n → from + n ≤ length bytes
    → overwritten bytes from (overwritten (part bytes from n) at others) ≡ overwritten bytes (from + at) others
written_in_part bytes from n at others h k =
    let p = length-part bytes from n k in
    let w = length-overwritten (part bytes from n) at others (omega (arith, p, h)) in
    let e : from ≡ from + 0 = omega arith in
    ap (λ i. overwritten bytes i (overwritten (part bytes from n) at others)) e
    ∙ split_written bytes from n 0 (overwritten (part bytes from n) at others) (omega (arith, w, p)) k
    ∙ ap (λ xs. take from bytes ++ (xs ++ drop n (drop from bytes))) (whole_written_list (part bytes from n) (overwritten (part bytes from n) at others) w)
    ∙ sym (split_written bytes from n at others h k)
  where
    whole_written_list : (page others : List ℕ) → length others ≡ length page → overwritten page 0 others ≡ others
    whole_written_list page others h = grind (arith, common_steps)

-- what is written next to what was written before
pub written_twice : (bytes : List ℕ) (at : ℕ) (first second : List ℕ) → at + length first + length second ≤ length bytes
    → overwritten (overwritten bytes at first) (at + length first) second ≡ overwritten bytes at (first ++ second)
written_twice bytes at first second h =
    let a = before_part bytes at (omega (arith, h)) in
    let n : length (take at bytes ++ first) ≡ at + length first = length-append (take at bytes) first ∙ ap (λ m. m + length first) a in
    let e : at + length first ≡ at + length first + 0 = omega arith in
    let f : 0 + length second ≡ length second = omega arith in
    let g : at + length first + length second ≡ at + length (first ++ second) = omega (arith, length-append first second) in
    ap (λ i. overwritten ((take at bytes ++ first) ++ drop (at + length first) bytes) i second) e
    ∙ later_written (take at bytes ++ first) (drop (at + length first) bytes) second (at + length first) 0 n
    ∙ ap (λ i. (take at bytes ++ first) ++ (second ++ drop i (drop (at + length first) bytes))) f
    ∙ ap (λ xs. (take at bytes ++ first) ++ (second ++ xs)) (drop-drop (length second) (at + length first) bytes ∙ ap (λ i. drop i bytes) g)
    ∙ regrouped (take at bytes) first second (drop (at + length (first ++ second)) bytes)
  where
    regrouped : (a b c d : List ℕ) → (a ++ b) ++ (c ++ d) ≡ a ++ (b ++ c) ++ d
    regrouped a b c d = grind (arith, common_steps)

-- ---- the bytes of all pages

-- the same bytes of each page
pub same_pages : (table : List Stored) (slots others : List ℕ)
    → ((q : ℕ) → slot_bytes others (shown_slot (get_or table q stored.Zeros)) ≡ slot_bytes slots (shown_slot (get_or table q stored.Zeros)))
    → page_bytes table others ≡ page_bytes table slots
same_pages [] slots others same = refl
same_pages (x ∷ table) slots others same =
    ap (λ page. page ++ page_bytes table others) (same 0) ∙ ap (λ rest. slot_bytes slots (shown_slot x) ++ rest) (same_pages table slots others (λ q. same (suc q)))

-- one page has other bytes
pub one_page : (table : List Stored) (slots others : List ℕ) (p : ℕ) (s : Stored) → p < length table
    → ((q : ℕ) → q ≢ p → slot_bytes others (shown_slot (get_or table q stored.Zeros)) ≡ slot_bytes slots (shown_slot (get_or table q stored.Zeros)))
    → ((q : ℕ) → length (slot_bytes slots (shown_slot (get_or table q stored.Zeros))) ≡ 4096)
    → length (slot_bytes others (shown_slot s)) ≡ 4096
    → page_bytes (set table p s) others ≡ overwritten (page_bytes table slots) (4096 * p) (slot_bytes others (shown_slot s))
one_page [] slots others p s within same wide full = absurd (omega arith)
one_page (x ∷ table) slots others zero s within same wide full =
    let w = wide 0 in
    ap (λ rest. slot_bytes others (shown_slot s) ++ rest) (same_pages table slots others (λ q. same (suc q) (λ e. omega (arith, e))))
    ∙ sym (first_written (slot_bytes slots (shown_slot x)) (page_bytes table slots) (slot_bytes others (shown_slot s)) (full ∙ sym w))
one_page (x ∷ table) slots others (suc p) s within same wide full =
    let e : 4096 * suc p ≡ 4096 + 4096 * p = omega arith in
    ap (λ page. page ++ page_bytes (set table p s) others) (same 0 (λ z. omega (arith, z)))
    ∙ ap (λ rest. slot_bytes slots (shown_slot x) ++ rest)
    (one_page table slots others p s (omega (arith, within)) (λ q ne. same (suc q) (λ z. ne (omega (arith, z)))) (λ q. wide (suc q)) full)
    ∙ sym (ap (λ at. overwritten (slot_bytes slots (shown_slot x) ++ page_bytes table slots) at (slot_bytes others (shown_slot s))) e
    ∙ later_written (slot_bytes slots (shown_slot x)) (page_bytes table slots) (slot_bytes others (shown_slot s)) 4096 (4096 * p) (wide 0))

-- the bytes of one page
pub page_there : (table : List Stored) (slots : List ℕ) (p : ℕ) → p < length table → ((q : ℕ) → length (slot_bytes slots (shown_slot (get_or table q stored.Zeros))) ≡ 4096)
    → part (page_bytes table slots) (4096 * p) 4096 ≡ slot_bytes slots (shown_slot (get_or table p stored.Zeros))
page_there [] slots p within wide = absurd (omega arith)
page_there (x ∷ table) slots zero within wide = first_part (slot_bytes slots (shown_slot x)) (page_bytes table slots) 4096 (wide 0)
page_there (x ∷ table) slots (suc p) within wide =
    let e : 4096 * suc p ≡ 4096 + 4096 * p = omega arith in
    ap (λ at. part (slot_bytes slots (shown_slot x) ++ page_bytes table slots) at 4096) e
    ∙ later_part (slot_bytes slots (shown_slot x)) (page_bytes table slots) 4096 (4096 * p) 4096 (wide 0)
    ∙ page_there table slots p (omega (arith, within)) (λ q. wide (suc q))

length_pages : (table : List Stored) (slots : List ℕ) → ((q : ℕ) → length (slot_bytes slots (shown_slot (get_or table q stored.Zeros))) ≡ 4096)
    → length (page_bytes table slots) ≡ 4096 * length table
length_pages [] slots wide = refl
length_pages (x ∷ table) slots wide =
    let a = length-append (slot_bytes slots (shown_slot x)) (page_bytes table slots) in
    let w = wide 0 in
    let l = length_pages table slots (λ q. wide (suc q)) in
    omega (arith, a, w, l)

-- ---- how many pages have slots

pub none_begun : (n : ℕ) → count_begun (replicate n stored.Zeros) ≡ 0
none_begun zero = refl
none_begun (suc n) = none_begun n

pub all_zeros : (n q : ℕ) → get_or {A = Stored} (replicate n stored.Zeros) q stored.Zeros ≡ stored.Zeros
all_zeros zero q = refl
all_zeros (suc n) zero = refl
all_zeros (suc n) (suc q) = all_zeros n q

-- no more than there are
some_begun : (table : List Stored) → count_begun table < suc (length table)
some_begun [] = omega arith
some_begun (stored.Zeros ∷ table) = omega (arith, some_begun table)
some_begun (stored.Cleared k ∷ table) = omega (arith, some_begun table)
some_begun (stored.Written k ∷ table) = omega (arith, some_begun table)

-- while one has none, fewer have than there are
pub fewer_begun : (table : List Stored) (p : ℕ) → p < length table → get_or table p stored.Zeros ≡ stored.Zeros → count_begun table < length table
fewer_begun [] p l none = absurd (omega arith)
fewer_begun (stored.Zeros ∷ table) zero l none = some_begun table
fewer_begun (stored.Cleared k ∷ table) zero l none = cc
fewer_begun (stored.Written k ∷ table) zero l none = cc
fewer_begun (stored.Zeros ∷ table) (suc p) l none = omega (arith, fewer_begun table p (omega arith) none)
fewer_begun (stored.Cleared k ∷ table) (suc p) l none = omega (arith, fewer_begun table p (omega arith) none)
fewer_begun (stored.Written k ∷ table) (suc p) l none = omega (arith, fewer_begun table p (omega arith) none)

-- once it has one, one more has
pub one_more_begun : (table : List Stored) (p k : ℕ) → p < length table → get_or table p stored.Zeros ≡ stored.Zeros
    → count_begun (set table p (stored.Written k)) ≡ suc (count_begun table)
one_more_begun [] p k l none = absurd (omega arith)
one_more_begun (stored.Zeros ∷ table) zero k l none = refl
one_more_begun (stored.Cleared n ∷ table) zero k l none = cc
one_more_begun (stored.Written n ∷ table) zero k l none = cc
one_more_begun (stored.Zeros ∷ table) (suc p) k l none = one_more_begun table p k (omega arith) none
one_more_begun (stored.Cleared n ∷ table) (suc p) k l none = ap suc (one_more_begun table p k (omega arith) none)
one_more_begun (stored.Written n ∷ table) (suc p) k l none = ap suc (one_more_begun table p k (omega arith) none)

-- a page that keeps its slot
same_count : (x y : Stored) (table : List Stored) → own_slot x ≡ own_slot y → count_begun (x ∷ table) ≡ count_begun (y ∷ table)
same_count stored.Zeros stored.Zeros table e = refl
same_count stored.Zeros (stored.Cleared k) table e = cc
same_count stored.Zeros (stored.Written k) table e = cc
same_count (stored.Cleared j) stored.Zeros table e = cc
same_count (stored.Cleared j) (stored.Cleared k) table e = refl
same_count (stored.Cleared j) (stored.Written k) table e = refl
same_count (stored.Written j) stored.Zeros table e = cc
same_count (stored.Written j) (stored.Cleared k) table e = refl
same_count (stored.Written j) (stored.Written k) table e = refl

more_count : (x : Stored) (xs ys : List Stored) → count_begun xs ≡ count_begun ys → count_begun (x ∷ xs) ≡ count_begun (x ∷ ys)
more_count stored.Zeros xs ys e = e
more_count (stored.Cleared k) xs ys e = ap suc e
more_count (stored.Written k) xs ys e = ap suc e

pub as_many_begun : (table : List Stored) (p : ℕ) (s : Stored) → own_slot s ≡ own_slot (get_or table p stored.Zeros) → count_begun (set table p s) ≡ count_begun table
as_many_begun [] p s e = refl
as_many_begun (x ∷ table) zero s e = same_count s x table e
as_many_begun (x ∷ table) (suc p) s e = more_count x (set table p s) table (as_many_begun table p s e)

-- ---- slots

shown_or_own : (s : Stored) → shown_slot s ≤ own_slot s
shown_or_own stored.Zeros = omega arith
shown_or_own (stored.Cleared k) = omega arith
shown_or_own (stored.Written k) = omega arith

-- a slot that is shown is the page's own
pub shown_own : (s : Stored) → 0 < shown_slot s → own_slot s ≡ shown_slot s
shown_own stored.Zeros h = absurd (omega arith)
shown_own (stored.Cleared k) h = absurd (omega arith)
shown_own (stored.Written k) h = refl

-- where no page has been written
pub has_none : (table : List Stored) (slots : List ℕ) (pages capacity : ℕ) → table ≡ replicate pages stored.Zeros → slots ≡ replicate 4096 0 → pages < 4294967296
    → 4096 + 4096 * pages ≤ capacity → HasSlots table slots capacity
has_none table slots pages capacity zeros first few room =
    let l : length table ≡ pages = ap (λ (xs : List Stored). length xs) zeros ∙ length-replicate pages stored.Zeros in
    let s : length slots ≡ 4096 = ap (λ (xs : List ℕ). length xs) first ∙ length-replicate {A = ℕ} 4096 0 in
    let c : count_begun table ≡ 0 = ap (λ (xs : List Stored). count_begun xs) zeros ∙ none_begun pages in
    let z : (q : ℕ) → own_slot (get_or table q stored.Zeros) ≡ 0 = λ q. ap (λ (xs : List Stored). own_slot (get_or xs q stored.Zeros)) zeros ∙ ap own_slot (all_zeros pages q) in
    record {
      zeros = whole slots 4096 s ∙ first ∙ filled_is 4096 0;
      full = omega (arith, s, c);
      room = omega (arith, l, room);
      few = omega (arith, l, few);
      inside = λ q. let y = z q in omega (arith, y);
      apart = λ p q e h. let y = z p in absurd (omega (arith, y, h));
    }
  where
    whole : (bytes : List ℕ) (n : ℕ) → length bytes ≡ n → part bytes 0 n ≡ bytes
    whole bytes n h = grind (arith, common_steps)

-- the bytes of as many pages that are zeros
pub zeros_pages : (slots : List ℕ) (pages : ℕ) → slot_bytes slots 0 ≡ filled 4096 0 → page_bytes (replicate pages stored.Zeros) slots ≡ filled (4096 * pages) 0
zeros_pages slots zero z = filled_is 0 0
zeros_pages slots (suc pages) z =
    let e : 4096 + 4096 * pages ≡ 4096 * suc pages = omega arith in
    ap (λ page. page ++ page_bytes (replicate pages stored.Zeros) slots) z ∙ ap (λ rest. filled 4096 0 ++ rest) (zeros_pages slots pages z)
    ∙ two_filled 4096 (4096 * pages) 0 ∙ ap (λ n. filled n 0) e

module _ (table : List Stored) (slots : List ℕ) (capacity : ℕ) (has : HasSlots table slots capacity) where
  -- a slot of a page is one that there is
  pub slot_inside : (k : ℕ) → k ≤ count_begun table → 4096 * k + 4096 ≤ length slots
  slot_inside k h = let f = has.full in omega (arith, f, h)

  pub shown_inside : (q : ℕ) → shown_slot (get_or table q stored.Zeros) ≤ count_begun table
  shown_inside q =
      let i = has.inside q in
      let s = shown_or_own (get_or table q stored.Zeros) in
      omega (arith, i, s)

  pub shown_wide : (q : ℕ) → length (slot_bytes slots (shown_slot (get_or table q stored.Zeros))) ≡ 4096
  shown_wide q =
      length-part slots (4096 * shown_slot (get_or table q stored.Zeros)) 4096
      (slot_inside (shown_slot (get_or table q stored.Zeros)) (shown_inside q))

  -- all slots are in reach of a machine word
  pub slots_short : length slots ≤ 17592186044416
  slots_short =
      let f = has.full in
      let w = has.few in
      let s = some_begun table in
      omega (arith, f, w, s)

  pub page_count : length (page_bytes table slots) ≡ 4096 * length table
  page_count = length_pages table slots shown_wide

  -- the slot of a page is no other's
  pub other_slot : (p q : ℕ) → 0 < own_slot (get_or table p stored.Zeros) → q ≢ p → shown_slot (get_or table q stored.Zeros) ≢ own_slot (get_or table p stored.Zeros)
  other_slot p q h ne e =
      let s = shown_own (get_or table q stored.Zeros) (omega (arith, h, e)) in
      ne (sym (has.apart p q (sym (s ∙ e)) h))

  -- ---- bytes that are written in a slot

  -- those of another slot are as they were
  pub other_bytes : (k m at : ℕ) (others : List ℕ) → m ≤ count_begun table → k ≤ count_begun table → k ≢ m → at + length others ≤ 4096
      → slot_bytes (overwritten slots (4096 * m + at) others) k ≡ slot_bytes slots k
  other_bytes k m at others i j ne h =
      let a = slot_inside m i in
      let b = slot_inside k j in
      elim (cases_lt k m) [
        | inl u ↦ part_before slots (4096 * k) 4096 (4096 * m + at) others (omega (arith, u)) (omega (arith, a, h))
        | inr u ↦ elim (cases_lt m k) [
          | inl v ↦ part_after slots (4096 * k) 4096 (4096 * m + at) others (omega (arith, v, h)) (omega (arith, b))
          | inr v ↦ absurd (ne (omega (arith, u, v)))
        ]
      ]

  pub slots_written : (m at : ℕ) (others : List ℕ) → 0 < m → m ≤ count_begun table → at + length others ≤ 4096 → HasSlots table (overwritten slots (4096 * m + at) others) capacity
  slots_written m at others own i h = record {
    zeros = other_bytes 0 m at others i (omega arith) (λ e. omega (arith, e, own)) h ∙ has.zeros;
    full = length-overwritten slots (4096 * m + at) others (let a = slot_inside m i in omega (arith, a, h)) ∙ has.full;
    room = has.room;
    few = has.few;
    inside = has.inside;
    apart = has.apart;
  }

  -- where the page's own slot is shown from then on, and all of it is written
  pub whole_written : (p : ℕ) (s : Stored) (others : List ℕ) → p < length table → 0 < own_slot (get_or table p stored.Zeros) → shown_slot s ≡ own_slot (get_or table p stored.Zeros)
      → length others ≡ 4096
      → page_bytes (set table p s) (overwritten slots (4096 * shown_slot s + 0) others) ≡ overwritten (page_bytes table slots) (4096 * p) others
  whole_written p s others within own is l =
      let m : ℕ = shown_slot s in
      let i : m ≤ count_begun table = (let o = has.inside p in omega (arith, o, is)) in
      let a : 4096 * m + 4096 ≤ length slots = slot_inside m i in
      let written : slot_bytes (overwritten slots (4096 * m + 0) others) m ≡ others =
      part_written slots (4096 * m) 4096 0 others (omega (arith, l)) a ∙ whole_of (slot_bytes slots m) others (length-part slots (4096 * m) 4096 a ∙ sym l) in
      one_page table slots (overwritten slots (4096 * m + 0) others) p s within
      (λ q ne. other_bytes (shown_slot (get_or table q stored.Zeros)) m 0 others i (shown_inside q) (λ e. other_slot p q own ne (e ∙ is)) (omega (arith, l)))
      shown_wide (ap (λ (xs : List ℕ). length xs) written ∙ l)
      ∙ ap (λ xs. overwritten (page_bytes table slots) (4096 * p) xs) written
    where
      whole_of : (page others : List ℕ) → length page ≡ length others → overwritten page 0 others ≡ others
      whole_of page others h = grind (arith, common_steps)

  -- where the page's own slot is shown, and a part of it is written
  pub part_of_page_written : (p at : ℕ) (others : List ℕ) → p < length table → 0 < shown_slot (get_or table p stored.Zeros) → at + length others ≤ 4096
      → page_bytes table (overwritten slots (4096 * shown_slot (get_or table p stored.Zeros) + at) others) ≡ overwritten (page_bytes table slots) (4096 * p + at) others
  part_of_page_written p at others within shown h =
      let s : Stored = get_or table p stored.Zeros in
      let m : ℕ = shown_slot s in
      let own : own_slot s ≡ m = shown_own s shown in
      let i : m ≤ count_begun table = shown_inside p in
      let a : 4096 * m + 4096 ≤ length slots = slot_inside m i in
      let written : slot_bytes (overwritten slots (4096 * m + at) others) m ≡ overwritten (slot_bytes slots m) at others = part_written slots (4096 * m) 4096 at others h a in
      let wide : length (slot_bytes slots m) ≡ 4096 = shown_wide p in
      let count : length (page_bytes table slots) ≡ 4096 * length table = page_count in
      ap (λ xs. page_bytes xs (overwritten slots (4096 * m + at) others)) (sym (set-get_or table p stored.Zeros))
      ∙ one_page table slots (overwritten slots (4096 * m + at) others) p s within
      (λ q ne. other_bytes (shown_slot (get_or table q stored.Zeros)) m at others i (shown_inside q) (λ e. other_slot p q (omega (arith, own, shown)) ne (e ∙ sym own)) h)
      shown_wide (ap (λ (xs : List ℕ). length xs) written ∙ length-overwritten (slot_bytes slots m) at others (omega (arith, wide, h)) ∙ wide)
      ∙ ap (λ xs. overwritten (page_bytes table slots) (4096 * p) xs) (written ∙ ap (λ xs. overwritten xs at others) (sym (page_there table slots p within shown_wide)))
      ∙ written_in_part (page_bytes table slots) (4096 * p) 4096 at others h (omega (arith, count, within))

  -- ---- bytes that are read

  pub part_there : (p at len : ℕ) → p < length table → at + len ≤ 4096
      → part slots (4096 * shown_slot (get_or table p stored.Zeros) + at) len ≡ part (page_bytes table slots) (4096 * p + at) len
  part_there p at len within h =
      let m : ℕ = shown_slot (get_or table p stored.Zeros) in
      let a : 4096 * m + 4096 ≤ length slots = slot_inside m (shown_inside p) in
      let count : length (page_bytes table slots) ≡ 4096 * length table = page_count in
      sym (part_of_part slots (4096 * m) 4096 at len h a) ∙ ap (λ xs. part xs at len) (sym (page_there table slots p within shown_wide))
      ∙ part_of_part (page_bytes table slots) (4096 * p) 4096 at len h (omega (arith, count, within))

  -- ---- a page that is zeros

  -- its slot is kept
  own_kept : (p : ℕ) (s : Stored) → own_slot s ≡ own_slot (get_or table p stored.Zeros) → (q : ℕ) → own_slot (get_or (set table p s) q stored.Zeros) ≡ own_slot (get_or table q stored.Zeros)
  own_kept p s e q = own_in table p q s e
    where
      own_in : (xs : List Stored) (p q : ℕ) (s : Stored) → own_slot s ≡ own_slot (get_or xs p stored.Zeros) → own_slot (get_or (set xs p s) q stored.Zeros) ≡ own_slot (get_or xs q stored.Zeros)
      own_in [] p q s e = refl
      own_in (x ∷ xs) zero zero s e = e
      own_in (x ∷ xs) zero (suc q) s e = refl
      own_in (x ∷ xs) (suc p) zero s e = refl
      own_in (x ∷ xs) (suc p) (suc q) s e = own_in xs p q s e

  pub slots_kept : (p : ℕ) (s : Stored) → own_slot s ≡ own_slot (get_or table p stored.Zeros) → HasSlots (set table p s) slots capacity
  slots_kept p s e =
      let l : length (set table p s) ≡ length table = length-set table p s in
      let c : count_begun (set table p s) ≡ count_begun table = as_many_begun table p s e in
      record {
        zeros = has.zeros;
        full = (let f = has.full in omega (arith, f, c));
        room = (let r = has.room in omega (arith, r, l));
        few = (let w = has.few in omega (arith, w, l));
        inside = λ q. (let i = has.inside q in let o = own_kept p s e q in omega (arith, i, o, c));
        apart = λ x y f h. has.apart x y (sym (own_kept p s e x) ∙ f ∙ own_kept p s e y) (subst (λ n. 0 < n) (own_kept p s e x) h);
      }

  pub zeros_shown : (p : ℕ) (s : Stored) → p < length table → shown_slot s ≡ 0 → page_bytes (set table p s) slots ≡ overwritten (page_bytes table slots) (4096 * p) (filled 4096 0)
  zeros_shown p s within is =
      let z : slot_bytes slots (shown_slot s) ≡ filled 4096 0 = ap (λ k. slot_bytes slots k) is ∙ has.zeros in
      one_page table slots slots p s within (λ q ne. refl) shown_wide (ap (λ (xs : List ℕ). length xs) z ∙ length-filled 4096 0)
      ∙ ap (λ xs. overwritten (page_bytes table slots) (4096 * p) xs) z

  -- zeros over zeros
  pub zeros_over : (p : ℕ) → p < length table → shown_slot (get_or table p stored.Zeros) ≡ 0 → overwritten (page_bytes table slots) (4096 * p) (filled 4096 0) ≡ page_bytes table slots
  zeros_over p within is =
      let there : part (page_bytes table slots) (4096 * p) 4096 ≡ filled 4096 0 =
      page_there table slots p within shown_wide ∙ ap (λ k. slot_bytes slots k) is ∙ has.zeros in
      let count : length (page_bytes table slots) ≡ 4096 * length table = page_count in
      ap (λ xs. overwritten (page_bytes table slots) (4096 * p) xs) (sym there)
      ∙ in_place (page_bytes table slots) (4096 * p) 4096 (omega (arith, count, within))
    where
      in_place : (bytes : List ℕ) (at len : ℕ) → at + len ≤ length bytes → overwritten bytes at (part bytes at len) ≡ bytes
      in_place bytes at len h =
          ap (λ n. take at bytes ++ part bytes at len ++ drop (at + n) bytes) (length-part bytes at len h)
          ∙ append_assoc (take at bytes) (part bytes at len) (drop (at + len) bytes)
          ∙ ap (λ zs. take at bytes ++ (part bytes at len ++ zs)) (sym (drop-drop len at bytes))
          ∙ ap (λ zs. take at bytes ++ zs) (take-append-drop len (drop at bytes))
          ∙ take-append-drop at bytes

  -- a page that was cleared is written with zeros
  pub same_opened : (p k : ℕ) → p < length table → get_or table p stored.Zeros ≡ stored.Cleared k
      → page_bytes (set table p (stored.Written k)) (overwritten slots (4096 * suc k + 0) (filled 4096 0)) ≡ page_bytes table slots
  same_opened p k within is =
      let own : own_slot (get_or table p stored.Zeros) ≡ suc k = ap own_slot is in
      whole_written p (stored.Written k) (filled 4096 0) within (omega (arith, own)) (sym own) (length-filled 4096 0)
      ∙ zeros_over p within (ap shown_slot is)

  pub has_opened : (p k : ℕ) → p < length table → get_or table p stored.Zeros ≡ stored.Cleared k
      → HasSlots (set table p (stored.Written k)) slots capacity
  has_opened p k within is = slots_kept p (stored.Written k) (sym (ap own_slot is))

  -- what is written at the place of a part of a page
  pub ready_there : (bytes : List ℕ) (p at to len start : ℕ) → p < length table → IsPlace table p at to → page_bytes table slots ≡ bytes → at + len ≤ 4096 → start ≡ 4096 * p + at
      → IsReady table slots bytes to start len
  ready_there bytes p at to len start within place same h e = record {
    after = λ others l.
        ap (λ x. page_bytes table (overwritten slots x others)) place.there
        ∙ part_of_page_written p at others within place.own (omega (arith, l, h))
        ∙ ap (λ xs. overwritten xs (4096 * p + at) others) same ∙ ap (λ x. overwritten bytes x others) (sym e);
  }

  -- as the calls do it
  pub same_filled : (p k to n : ℕ) (new : List ℕ) → p < length table → get_or table p stored.Zeros ≡ stored.Cleared k → to ≡ 4096 * k + 4096 → n ≡ 4096
      → new ≡ overwritten slots to (filled n 0) → page_bytes (set table p (stored.Written k)) new ≡ page_bytes table slots
  same_filled p k to n new within is t l after =
      let there : 4096 * suc k + 0 ≡ to = omega (arith, t) in
      let same : overwritten slots (4096 * suc k + 0) (filled 4096 0) ≡ new =
      ap (λ j. overwritten slots j (filled 4096 0)) there ∙ ap (λ m. overwritten slots to (filled m 0)) (sym l) ∙ sym after in
      ap (λ xs. page_bytes (set table p (stored.Written k)) xs) (sym same) ∙ same_opened p k within is

  pub place_written : (p k to : ℕ) → get_or table p stored.Zeros ≡ stored.Written k → to ≡ 4096 * k + 4096 → IsPlace table p 0 to
  place_written p k to is t =
      let s : shown_slot (get_or table p stored.Zeros) ≡ suc k = ap shown_slot is in
      record { own = omega (arith, s); there = omega (arith, s, t) }

  pub ready_cleared : (p k to : ℕ) → p < length table → get_or table p stored.Zeros ≡ stored.Cleared k → to ≡ 4096 * k + 4096
      → IsReady (set table p (stored.Written k)) slots (page_bytes table slots) to (4096 * p) 4096
  ready_cleared p k to within is t =
      let own : own_slot (get_or table p stored.Zeros) ≡ suc k = ap own_slot is in
      let there : to ≡ 4096 * suc k + 0 = omega (arith, t) in
      record {
        after = λ others l.
            ap (λ j. page_bytes (set table p (stored.Written k)) (overwritten slots j others)) there
            ∙ whole_written p (stored.Written k) others within (omega (arith, own)) (sym own) l;
      }

  -- the slots once bytes were written at a place
  pub has_written : (p at to : ℕ) (others new : List ℕ) (more : ℕ) → IsPlace table p at to → at + length others ≤ 4096 → new ≡ overwritten slots to others → more ≡ capacity
      → HasSlots table new more
  has_written p at to others new more place h after c =
      let same : overwritten slots (4096 * shown_slot (get_or table p stored.Zeros) + at) others ≡ new =
      ap (λ j. overwritten slots j others) (sym place.there) ∙ sym after in
      subst (λ m. HasSlots table new m) (sym c)
      (subst (λ xs. HasSlots table xs capacity) same (slots_written (shown_slot (get_or table p stored.Zeros)) at others place.own (shown_inside p) h))

  -- the place is among the slots
  pub place_fits : (p at to len : ℕ) → IsPlace table p at to → at + len ≤ 4096 → to + len ≤ length slots
  place_fits p at to len place h =
      let t = place.there in
      let i = slot_inside (shown_slot (get_or table p stored.Zeros)) (shown_inside p) in
      omega (arith, t, i, h)

  pub shown_fits : (p at to len : ℕ) → to ≡ 4096 * shown_slot (get_or table p stored.Zeros) + at → at + len ≤ 4096 → to + len ≤ length slots
  shown_fits p at to len t h = let i = slot_inside (shown_slot (get_or table p stored.Zeros)) (shown_inside p) in omega (arith, t, i, h)

  -- the bytes at the place of a position
  pub read_there : (at len to : ℕ) → at / 4096 < length table → to ≡ 4096 * shown_slot (get_or table (at / 4096) stored.Zeros) + at % 4096 → at % 4096 + len ≤ 4096
      → part slots to len ≡ part (page_bytes table slots) at len
  read_there at len to within t h =
      let e : 4096 * (at / 4096) + at % 4096 ≡ at = omega arith in
      ap (λ i. part slots i len) t ∙ part_there (at / 4096) (at % 4096) len within h ∙ ap (λ i. part (page_bytes table slots) i len) e

  pub written_there : (at to : ℕ) (others new : List ℕ) → at / 4096 < length table → IsPlace table (at / 4096) (at % 4096) to → at % 4096 + length others ≤ 4096
      → new ≡ overwritten slots to others → page_bytes table new ≡ overwritten (page_bytes table slots) at others
  written_there at to others new within place h after =
      let e : 4096 * (at / 4096) + at % 4096 ≡ at = omega arith in
      ap (λ xs. page_bytes table xs) (after ∙ ap (λ i. overwritten slots i others) place.there)
      ∙ part_of_page_written (at / 4096) (at % 4096) others within place.own h
      ∙ ap (λ i. overwritten (page_bytes table slots) i others) e

-- a page that was cleared is written with zeros
pub has_filled : (table : List Stored) (slots : List ℕ) (capacity : ℕ) → HasSlots table slots capacity → (p k to n : ℕ) (new : List ℕ) (more : ℕ) → p < length table
    → get_or table p stored.Zeros ≡ stored.Cleared k → to ≡ 4096 * k + 4096 → n ≡ 4096 → new ≡ overwritten slots to (filled n 0) → more ≡ capacity
    → HasSlots (set table p (stored.Written k)) new more
has_filled table slots capacity has p k to n new more within is t l after c =
    let own : own_slot (get_or table p stored.Zeros) ≡ suc k = ap own_slot is in
    let there : 4096 * suc k + 0 ≡ to = omega (arith, t) in
    let i : suc k ≤ count_begun table = (let o = has.inside p in omega (arith, o, own)) in
    let f = length-filled 4096 0 in
    let written = slots_written table slots capacity has (suc k) 0 (filled 4096 0) (omega arith) i (omega (arith, f)) in
    let same : overwritten slots (4096 * suc k + 0) (filled 4096 0) ≡ new =
    ap (λ j. overwritten slots j (filled 4096 0)) there ∙ ap (λ m. overwritten slots to (filled m 0)) (sym l) ∙ sym after in
    subst (λ m. HasSlots (set table p (stored.Written k)) new m) (sym c)
    (slots_kept table new capacity (subst (λ xs. HasSlots table xs capacity) same written) p (stored.Written k) (sym own))

-- a page as it is read
pub stored_is : (table : List Stored) (p : ℕ) (x s : Stored) → p < length table → x ≡ get_or table p x → x ≡ s → get_or table p stored.Zeros ≡ s
stored_is table p x s within read is = sym (read ∙ get_or_default table p x stored.Zeros within) ∙ is

-- ---- a slot that begins

-- the old bytes, and those of the new slot
before_new : (slots : List ℕ) (from n m : ℕ) → from + n ≤ length slots → part (slots ++ replicate m 0) from n ≡ part slots from n
before_new slots from n m h = grind (arith, common_steps)

new_zeros : (slots : List ℕ) (at n : ℕ) → at ≡ length slots → part (slots ++ replicate n 0) at n ≡ replicate n 0
new_zeros slots at n e = grind (arith, common_steps)

module _ (table : List Stored) (slots : List ℕ) (capacity p : ℕ) (has : HasSlots table slots capacity) (within : p < length table) (none : get_or table p stored.Zeros ≡ stored.Zeros) where
  abbrev pub begun : List Stored
  begun = set table p (stored.Written (count_begun table))

  abbrev pub longer : List ℕ
  longer = slots ++ replicate 4096 0

  pub room_for_one : length slots + 4096 ≤ capacity
  room_for_one =
      let f = has.full in
      let r = has.room in
      let l = fewer_begun table p within none in
      omega (arith, f, r, l)

  old_slot : (k : ℕ) → k ≤ count_begun table → slot_bytes longer k ≡ slot_bytes slots k
  old_slot k h = before_new slots (4096 * k) 4096 4096 (slot_inside table slots capacity has k h)

  new_slot : slot_bytes longer (suc (count_begun table)) ≡ filled 4096 0
  new_slot = new_zeros slots (4096 * suc (count_begun table)) 4096 (let f = has.full in omega (arith, f)) ∙ filled_is 4096 0

  pub same_begun : page_bytes begun longer ≡ page_bytes table slots
  same_begun =
      one_page table slots longer p (stored.Written (count_begun table)) within
      (λ q ne. old_slot (shown_slot (get_or table q stored.Zeros)) (shown_inside table slots capacity has q)) (shown_wide table slots capacity has)
      (ap (λ (xs : List ℕ). length xs) new_slot ∙ length-filled 4096 0)
      ∙ ap (λ xs. overwritten (page_bytes table slots) (4096 * p) xs) new_slot
      ∙ zeros_over table slots capacity has p within (ap shown_slot none)

  own_here : (q : ℕ) → q ≡ p → own_slot (get_or begun q stored.Zeros) ≡ suc (count_begun table)
  own_here q e =
      ap (λ i. own_slot (get_or begun i stored.Zeros)) e
      ∙ ap own_slot (get_or-set_same table p (stored.Written (count_begun table)) stored.Zeros within)

  own_there : (q : ℕ) → q ≢ p → own_slot (get_or begun q stored.Zeros) ≡ own_slot (get_or table q stored.Zeros)
  own_there q ne = ap own_slot (get_or-set_other table p q (stored.Written (count_begun table)) stored.Zeros ne)

  either : {X : Type 0} (q : ℕ) → (q ≡ p → X) → (q ≢ p → X) → X
  either q here there =
      elim (cases_lt q p) [
        | inl u ↦ there (λ e. omega (arith, e, u))
        | inr u ↦ elim (cases_lt p q) [
          | inl v ↦ there (λ e. omega (arith, e, v))
          | inr v ↦ here (omega (arith, u, v))
        ]
      ]

  inside_begun : (q : ℕ) → own_slot (get_or begun q stored.Zeros) ≤ suc (count_begun table)
  inside_begun q =
      either q
      (λ e. let o = own_here q e in omega (arith, o))
      (λ ne. let o = own_there q ne in let i = has.inside q in omega (arith, o, i))

  apart_begun : (x y : ℕ) → own_slot (get_or begun x stored.Zeros) ≡ own_slot (get_or begun y stored.Zeros) → 0 < own_slot (get_or begun x stored.Zeros) → x ≡ y
  apart_begun x y f h =
      either x
      (λ e. either y
      (λ g. e ∙ sym g)
      (λ ne. absurd (let a = own_here x e in let b = own_there y ne in let i = has.inside y in omega (arith, a, b, i, f))))
      (λ ne. either y
      (λ g. absurd (let a = own_here y g in let b = own_there x ne in let i = has.inside x in omega (arith, a, b, i, f)))
      (λ nf. let a = own_there x ne in has.apart x y (sym a ∙ f ∙ own_there y nf) (omega (arith, a, h))))

  pub has_one_more : (more : ℕ) → capacity ≤ more → HasSlots begun longer more
  has_one_more more o =
      let l : length begun ≡ length table = length-set table p (stored.Written (count_begun table)) in
      let c : count_begun begun ≡ suc (count_begun table) = one_more_begun table p (count_begun table) within none in
      let a = length-append slots (replicate 4096 0) in
      let z = length-replicate {A = ℕ} 4096 0 in
      record {
        zeros = old_slot 0 (omega arith) ∙ has.zeros;
        full = (let f = has.full in omega (arith, f, c, a, z));
        room = (let r = has.room in omega (arith, r, l, o));
        few = (let w = has.few in omega (arith, w, l));
        inside = λ q. (let i = inside_begun q in omega (arith, i, c));
        apart = apart_begun;
      }

  pub place_begun : (to : ℕ) → to ≡ length slots → IsPlace begun p 0 to
  place_begun to e =
      let s : shown_slot (get_or begun p stored.Zeros) ≡ suc (count_begun table) =
      ap shown_slot (get_or-set_same table p (stored.Written (count_begun table)) stored.Zeros within) in
      let f = has.full in
      record {
        own = omega (arith, s);
        there = omega (arith, s, f, e);
      }

-- ---- bytes that are written page by page

-- one part more of equal bytes
pub filled_more : (old now new : List ℕ) (at done count byte : ℕ) → at + done + count ≤ length old → now ≡ overwritten old at (filled done byte)
    → new ≡ overwritten now (at + done) (filled count byte) → new ≡ overwritten old at (filled (done + count) byte)
filled_more old now new at done count byte h is then =
    let d = length-filled done byte in
    let e : at + done ≡ at + length (filled done byte) = omega (arith, d) in
    then ∙ ap (λ xs. overwritten xs (at + done) (filled count byte)) is
    ∙ ap (λ i. overwritten (overwritten old at (filled done byte)) i (filled count byte)) e
    ∙ written_twice old at (filled done byte) (filled count byte) (omega (arith, d, length-filled count byte, h))
    ∙ ap (λ xs. overwritten old at xs) (two_filled done count byte)

-- one part more of others
pub copied_more : (old now new from : List ℕ) (at done count : ℕ) → done + count ≤ length from → at + length from ≤ length old → now ≡ overwritten old at (take done from)
    → new ≡ overwritten now (at + done) (part from done count) → new ≡ overwritten old at (take (done + count) from)
copied_more old now new from at done count h k is then =
    let d : length (take done from) ≡ done = before_part from done (omega (arith, h)) in
    let p = length-part from done count h in
    let e : at + done ≡ at + length (take done from) = omega (arith, d) in
    then ∙ ap (λ xs. overwritten xs (at + done) (part from done count)) is
    ∙ ap (λ i. overwritten (overwritten old at (take done from)) i (part from done count)) e
    ∙ written_twice old at (take done from) (part from done count) (omega (arith, d, p, h, k))
    ∙ ap (λ xs. overwritten old at xs) (sym (take_more from done count))
  where
    take_more : (xs : List ℕ) (n m : ℕ) → take (n + m) xs ≡ take n xs ++ part xs n m
    take_more xs n m = take-add n m xs

-- a part and the next one
pub parts_join : (bytes : List ℕ) (from n m : ℕ) → part bytes from n ++ part bytes (from + n) m ≡ part bytes from (n + m)
parts_join bytes from n m = sym (take-add n m (drop from bytes) ∙ ap (λ xs. take n (drop from bytes) ++ take m xs) (drop-drop n from bytes))

-- one part more of the bytes themselves, after those that are copied
pub copied_down : (old now new : List ℕ) (to from done count : ℕ) → to ≤ from → from + done + count ≤ length old → now ≡ overwritten old to (part old from done)
    → new ≡ overwritten now (to + done) (part now (from + done) count) → new ≡ overwritten old to (part old from (done + count))
copied_down old now new to from done count o h is then =
    let d = length-part old from done (omega (arith, h)) in
    let p = length-part old (from + done) count h in
    let e : to + done ≡ to + length (part old from done) = omega (arith, d) in
    then
    ∙ ap (λ xs. overwritten now (to + done) xs)
    (ap (λ xs. part xs (from + done) count) is ∙ part_after old (from + done) count to (part old from done) (omega (arith, o, d)) h)
    ∙ ap (λ xs. overwritten xs (to + done) (part old (from + done) count)) is
    ∙ ap (λ i. overwritten (overwritten old to (part old from done)) i (part old (from + done) count)) e
    ∙ written_twice old to (part old from done) (part old (from + done) count) (omega (arith, d, p, h, o))
    ∙ ap (λ xs. overwritten old to xs) (parts_join old from done count)

-- what is written in front of what was written before
written_before : (bytes : List ℕ) (at : ℕ) (first second : List ℕ) → at + length first + length second ≤ length bytes
    → overwritten (overwritten bytes (at + length first) second) at first ≡ overwritten bytes at (first ++ second)
written_before bytes at first second h = grind (arith, common_steps)

-- one part more of the bytes themselves, before those that are copied
pub copied_up : (old now new : List ℕ) (to from left count done : ℕ) → from ≤ to → to + left + count + done ≤ length old
    → now ≡ overwritten old (to + left + count) (part old (from + left + count) done)
    → new ≡ overwritten now (to + left) (part now (from + left) count) → new ≡ overwritten old (to + left) (part old (from + left) (count + done))
copied_up old now new to from left count done o h is then =
    let d = length-part old (from + left + count) done (omega (arith, h, o)) in
    let p = length-part old (from + left) count (omega (arith, h, o)) in
    let e : to + left + count ≡ to + left + length (part old (from + left) count) = omega (arith, p) in
    then
    ∙ ap (λ xs. overwritten now (to + left) xs)
    (ap (λ xs. part xs (from + left) count) is
    ∙ part_before old (from + left) count (to + left + count) (part old (from + left + count) done) (omega (arith, o)) (omega (arith, h, d)))
    ∙ ap (λ xs. overwritten xs (to + left) (part old (from + left) count)) is
    ∙ ap (λ i. overwritten (overwritten old i (part old (from + left + count) done)) (to + left) (part old (from + left) count)) e
    ∙ written_before old (to + left) (part old (from + left) count) (part old (from + left + count) done) (omega (arith, d, p, h))
    ∙ ap (λ xs. overwritten old (to + left) xs) (parts_join old (from + left) count done)

-- exclusive or of one part after another
xored_append : (xs ys zs ws : List ℕ) → length xs ≡ length zs → xored (xs ++ ys) (zs ++ ws) ≡ xored xs zs ++ xored ys ws
xored_append [] ys [] ws h = refl
xored_append [] ys (z ∷ zs) ws h = cc
xored_append (x ∷ xs) ys [] ws h = cc
xored_append (x ∷ xs) ys (z ∷ zs) ws h = ap (λ rest. bit_xor x z ∷ rest) (xored_append xs ys zs ws (omega (arith, h)))

-- one part more
pub exclusive_more : (old now new from next : List ℕ) (at done count : ℕ) → done + count ≤ length from → at + length from ≤ length old
    → now ≡ overwritten old at (xored (part old at done) (take done from)) → next ≡ part from done count
    → new ≡ overwritten now (at + done) (xored (part now (at + done) (length next)) next)
    → new ≡ overwritten old at (xored (part old at (done + count)) (take (done + count) from))
exclusive_more old now new from next at done count h k is s then =
    let a = length-part old at done (omega (arith, h, k)) in
    let t : length (take done from) ≡ done = before_part from done (omega (arith, h)) in
    let x = length-xored (part old at done) (take done from) (a ∙ sym t) in
    let q = length-part old (at + done) count (omega (arith, h, k)) in
    let p = length-part from done count h in
    let y = length-xored (part old (at + done) count) (part from done count) (q ∙ sym p) in
    let e : at + done ≡ at + length (xored (part old at done) (take done from)) = omega (arith, a, x) in
    then
    ∙ ap (λ xs. overwritten now (at + done) (xored (part now (at + done) (length xs)) xs)) s
    ∙ ap (λ n. overwritten now (at + done) (xored (part now (at + done) n) (part from done count))) p
    ∙ ap (λ xs. overwritten now (at + done) (xored xs (part from done count)))
    (ap (λ xs. part xs (at + done) count) is
    ∙ part_after old (at + done) count at (xored (part old at done) (take done from)) (omega (arith, a, x)) (omega (arith, h, k)))
    ∙ ap (λ xs. overwritten xs (at + done) (xored (part old (at + done) count) (part from done count))) is
    ∙ ap (λ i. overwritten (overwritten old at (xored (part old at done) (take done from))) i (xored (part old (at + done) count) (part from done count))) e
    ∙ written_twice old at (xored (part old at done) (take done from)) (xored (part old (at + done) count) (part from done count)) (omega (arith, a, x, q, y, h, k))
    ∙ ap (λ xs. overwritten old at xs)
    (sym (xored_append (part old at done) (part old (at + done) count) (take done from) (part from done count) (a ∙ sym t))
    ∙ ap (λ xs. xored xs (take done from ++ part from done count)) (parts_join old at done count)
    ∙ ap (λ xs. xored (part old at (done + count)) xs) (sym (take-add done count from)))

-- what is ready for a whole page
pub ready_whole : (table : List Stored) (slots bytes : List ℕ) (to start n at len : ℕ) → IsReady table slots bytes to start n → start ≡ at → len ≡ n → IsReady table slots bytes to at len
ready_whole table slots bytes to start n at len ready e f = record { after = λ others l. ready.after others (l ∙ f) ∙ ap (λ i. overwritten bytes i others) e }
