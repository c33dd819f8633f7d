-- A set of blocks that a list of marks tells, and the marks of its pages.
use Rattle.std.proofs.Common.{◌≡◌, ℕ, zero, suc, ◌+◌, ◌-◌, ◌*◌, ◌/◌, ◌^◌, ◌<◌, ◌≤◌, inl, inr, Bool, true, false, ◌&&◌, ◌||◌, List, map, length, get_or, set, refl, ap, sym, ◌∙◌, subst, arith, nat_lt, nat_le, pow-add, mul-div_cancel, mul-le-mul_right, length-set, get_or-set_same, get_or-set_other, replicate}
use Rattle.std.proofs.lemmas.Grind.{common_steps}
use Rattle.std.proofs.lemmas.List.{get_or_past, get_or-replicate}
use Rattle.std.proofs.lemmas.Bool.{and_parts, and_from, leb-true, le-leb, ltb-true, lt-ltb, cases_lt, cases_eq, false_from_ne_true, both_ways}
use Rattle.std.proofs.Math.Nat.{div-mul-le_self}
use Rattle.ttm_base.specs.ListWords.{count_from}
use Rattle.ttm_base.specs.BuddyChoice.{block_around, is_free_block, log2}
use Rattle.ttm_base.proofs.OrderLaws.{log2_is_log}
use Rattle.block_tree.specs.FreeSet.{beside, is_free, place, has_block, is_covered, marks_of, IsKept}
use Rattle.block_tree.specs.Masks.{is_marked}
use Rattle.block_tree.specs.Searching.{numbered}
use Rattle.block_tree.specs.declared.block.Block.{Block}
use Rattle.bit_set.specs.Marks.{IsFirstFrom, IsLastTo}
use Rattle.block_tree.specs.Holding.{IsFree, IsFirstFree, IsLastFree}
use Rattle.block_tree.proofs.Numbers.{some_pages, small_pow, small_order, pow_next, block_pages}
use Rattle.block_tree.proofs.SetLaws.{bool_cases, HasBlock, Tells, tell_same, IsSetAt, taken_out, put_in, of_whole, is_whole, around_free, own_block}

-- ---- marks

length_map : (f : ℕ → Bool) (n start : ℕ) → length (map f (count_from 1 n start)) ≡ n
length_map f zero start = refl
length_map f (suc n) start = let e = length_map f n (1 + start) in grind (arith, common_steps)

mark_at : (f : ℕ → Bool) (n start i : ℕ) → i < n → get_or (map f (count_from 1 n start)) i false ≡ f (start + i)
mark_at f zero start i h = absurd (omega arith)
mark_at f (suc n) start zero h = ap f (let e : start ≡ start + 0 = omega arith in e)
mark_at f (suc n) start (suc i) h = mark_at f n (1 + start) i (omega arith) ∙ ap f (let e : 1 + start + i ≡ start + suc i = omega arith in e)

pub length_marks : (o size : ℕ) (set : List Bool) → length (marks_of o size set) ≡ size
length_marks o size set = length_map (is_covered o set o) size 0

pub free_below : (o size : ℕ) (set : List Bool) (page : ℕ) → page < size → is_free (marks_of o size set) page ≡ is_covered o set o page
free_below o size set page h = mark_at (is_covered o set o) size 0 page h ∙ ap (is_covered o set o) (let e : 0 + page ≡ page = omega arith in e)

pub free_past : (o size : ℕ) (set : List Bool) (page : ℕ) → size ≤ page → is_free (marks_of o size set) page ≡ false
free_past o size set page h =
    let l = length_marks o size set in
    get_or_past (marks_of o size set) page false (omega arith)

pub size_of : (o size : ℕ) (set : List Bool) (marks : List Bool) → marks_of o size set ≡ marks → size ≡ length marks
size_of o size set marks v = sym (length_marks o size set) ∙ ap length v

-- a page that is free is below the number of pages
pub free_page : (marks : List Bool) (page : ℕ) → is_free marks page ≡ true → page < length marks
free_page marks page h = elim (cases_lt page (length marks)) [ inl l ↦ l | inr l ↦ absurd (both_ways (is_free marks page) (get_or_past marks page false l) h) ]

-- ---- where blocks stand

-- a power of two, halved
pow_over : (o k : ℕ) → k ≤ o → 2 ^ o / 2 ^ k ≡ 2 ^ (o - k)
pow_over o k h =
    let d : o - k + k ≡ o = omega arith in
    ap (λ n. n / 2 ^ k) (sym (ap (λ n. 2 ^ n) d) ∙ pow-add 2 (o - k) k) ∙ mul-div_cancel (2 ^ (o - k)) (some_pages k)

-- twice the blocks of an order
pub twice_over : (o k : ℕ) → k ≤ o → 2 ^ suc o / 2 ^ k ≡ 2 ^ (o - k) + 2 ^ (o - k)
twice_over o k h =
    let s : suc o - k ≡ suc (o - k) = omega arith in
    pow_over (suc o) k (omega arith) ∙ ap (λ n. 2 ^ n) s ∙ pow_next (o - k)

-- the place of block n of order k, where the order has q blocks
pub record IsPlace (o k n q : ℕ) : Type 0 where
  pub low : 2 ^ suc o ≤ place o k n + (q + q)
  pub is : place o k n + (q + q) ≡ 2 ^ suc o + n
  pub some : 0 < q
  pub fits : q + q ≤ 2 ^ suc o

pub is_place : (o k n : ℕ) → k ≤ o → IsPlace o k n (2 ^ (o - k))
is_place o k n h =
    let t = twice_over o k h in
    let p = pow_next o in
    let m : 2 ^ (o - k) ≤ 2 ^ o = small_pow (o - k) o (omega arith) in
    let s = some_pages (o - k) in
    let e : place o k n ≡ 2 ^ suc o - (2 ^ (o - k) + 2 ^ (o - k)) + n = ap (λ m. 2 ^ suc o - m + n) t in
    record { low = omega (arith, e, p, m); is = omega (arith, e, p, m); some = s; fits = omega (arith, p, m) }

pub place_below : (o k n : ℕ) → k ≤ o → n < 2 ^ (o - k) → place o k n + 1 < 2 ^ suc o
place_below o k n h l = let p = is_place o k n h in let i = p.is in let s = p.some in omega (arith, i, s, l)

-- the blocks of one order stand before those of the next
pub place_order : (o k n j m : ℕ) → k < j → j ≤ o → n < 2 ^ (o - k) → place o k n < place o j m
place_order o k n j m h l b =
    let a = is_place o k n (omega arith) in
    let c = is_place o j m l in
    let i = a.is in
    let e = c.is in
    let s : suc (o - j) ≤ o - k = omega arith in
    let w : 2 ^ suc (o - j) ≤ 2 ^ (o - k) = small_pow (suc (o - j)) (o - k) s in
    let p = pow_next (o - j) in
    omega (arith, i, e, w, p, b)

pub place_number : (o k n m : ℕ) → n < m → place o k n < place o k m
place_number o k n m h = omega arith

-- no two blocks stand at one place
pub one_place : (o k n j m : ℕ) → k ≤ o → n < 2 ^ (o - k) → j ≤ o → m < 2 ^ (o - j) → place o k n ≡ place o j m → (k ≡ j) × (n ≡ m)
one_place o k n j m hk hn hj hm e =
    elim (cases_lt k j) [
      | inl l ↦ let x = place_order o k n j m l hj hn in absurd (omega (arith, x, e))
      | inr l ↦ elim (cases_lt j k) [
        | inl g ↦ let x = place_order o j m k n g hk hm in absurd (omega (arith, x, e))
        | inr g ↦
            let same : k ≡ j = omega (arith, l, g) in
            let f : place o k n ≡ place o k m = e ∙ ap (λ i. place o i m) (sym same) in
            (same, omega (arith, f))
      ]
    ]

-- ---- the blocks of a set

pub record IsIn (o : ℕ) (set : List Bool) (k n : ℕ) : Type 0 where
  pub order : k ≤ o
  pub number : n < 2 ^ (o - k)
  pub is : get_or set (place o k n) false ≡ true

pub in_parts : (o : ℕ) (set : List Bool) (k n : ℕ) → has_block o set k n ≡ true → IsIn o set k n
in_parts o set k n h =
    let a = and_parts (nat_le k o) (nat_lt n (2 ^ (o - k)) && get_or set (place o k n) false) h in
    let b = and_parts (nat_lt n (2 ^ (o - k))) (get_or set (place o k n) false) a.1 in
    record { order = leb-true k o a.0; number = ltb-true n (2 ^ (o - k)) b.0; is = b.1 }

pub in_from : (o : ℕ) (set : List Bool) (k n : ℕ) → k ≤ o → n < 2 ^ (o - k) → get_or set (place o k n) false ≡ true → has_block o set k n ≡ true
in_from o set k n a b c = and_from (nat_le k o) (nat_lt n (2 ^ (o - k)) && get_or set (place o k n) false) (le-leb k o a) (and_from (nat_lt n (2 ^ (o - k))) (get_or set (place o k n) false) (lt-ltb n (2 ^ (o - k)) b) c)

covered_from : (o : ℕ) (set : List Bool) (k j page : ℕ) → k ≤ j → has_block o set k (page / 2 ^ k) ≡ true → is_covered o set j page ≡ true
covered_from o set k zero page l h = let e : k ≡ 0 = omega arith in subst (λ i. has_block o set i (page / 2 ^ i) ≡ true) e h
covered_from o set k (suc j) page l h =
    elim (cases_lt j k) [
      | inl m ↦ let e : k ≡ suc j = omega arith in ap (λ b. b || is_covered o set j page) (subst (λ i. has_block o set i (page / 2 ^ i) ≡ true) e h)
      | inr m ↦ or_right (has_block o set (suc j) (page / 2 ^ suc j)) (is_covered o set j page) (covered_from o set k j page m h)
    ]
  where
    or_right : (a b : Bool) → b ≡ true → (a || b) ≡ true
    or_right true b e = refl
    or_right false b e = e

covered_by : (o : ℕ) (set : List Bool) (j page : ℕ) → is_covered o set j page ≡ true → HasBlock (has_block o set) page
covered_by o set zero page h = record { order = 0; is = h }
covered_by o set (suc j) page h =
    elim (bool_cases (has_block o set (suc j) (page / 2 ^ suc j))) [
      | inl t ↦ record { order = suc j; is = t }
      | inr t ↦ covered_by o set j page (sym (ap (λ b. b || is_covered o set j page) t) ∙ h)
    ]

pub kept_tells : (count o size : ℕ) (set : List Bool) → IsKept count o size set → Tells size (has_block o set) (is_free (marks_of o size set))
kept_tells count o size set k =
    record {
      blocks = k.blocks;
      free = λ p j h.
          let e = k.blocks.within j (p / 2 ^ j) h in
          let b = (block_pages p j (p / 2 ^ j) refl).1 in
          free_below o size set p (omega (arith, e, b)) ∙ covered_from o set j o p (in_parts o set j (p / 2 ^ j) h).order h;
      found = λ p h. elim (cases_lt p size) [
        | inl l ↦ covered_by o set o p (sym (free_below o size set p l) ∙ h)
        | inr l ↦ absurd (both_ways (is_free (marks_of o size set) p) (free_past o size set p l) h)
      ];
    }

number_below : (o k n : ℕ) → k ≤ o → n * 2 ^ k < 2 ^ o → n < 2 ^ (o - k)
number_below o k n l u =
    let d : o - k + k ≡ o = omega arith in
    let p : 2 ^ (o - k) * 2 ^ k ≡ 2 ^ o = sym (pow-add 2 (o - k) k) ∙ ap (λ n. 2 ^ n) d in
    elim (cases_lt n (2 ^ (o - k))) [
      | inl x ↦ x
      | inr x ↦ let m : 2 ^ (o - k) * 2 ^ k ≤ n * 2 ^ k = mul-le-mul_right (2 ^ k) x in absurd (omega (arith, m, p, u))
    ]

-- a block that ends by the size is one of those that have a place
pub has_place : (count o size : ℕ) (set : List Bool) (k n : ℕ) → IsKept count o size set → n * 2 ^ k + 2 ^ k ≤ size → (k ≤ o) × (n < 2 ^ (o - k))
has_place count o size set k n h e =
    let f = h.fits in
    let l : k ≤ o = small_order k o (omega (arith, e, f)) in
    let s = some_pages k in
    (l, number_below o k n l (omega (arith, e, f, s)))

-- ---- a block that is put into the set, or taken out

block_at_place : (o : ℕ) (xs : List Bool) (k n : ℕ) → k ≤ o → n < 2 ^ (o - k) → has_block o xs k n ≡ get_or xs (place o k n) false
block_at_place o xs k n a b = ap (λ t. t && (nat_lt n (2 ^ (o - k)) && get_or xs (place o k n) false)) (le-leb k o a) ∙ ap (λ t. t && get_or xs (place o k n) false) (lt-ltb n (2 ^ (o - k)) b)

no_place : (o : ℕ) (xs : List Bool) (k n : ℕ) → (k ≤ o → n < 2 ^ (o - k) → ⊥) → has_block o xs k n ≡ false
no_place o xs k n h = false_from_ne_true (has_block o xs k n) (λ t. let p = in_parts o xs k n t in h p.order p.number)

pub set_at : (o : ℕ) (xs : List Bool) (k n : ℕ) (v : Bool) → length xs ≡ 2 ^ suc o → k ≤ o → n < 2 ^ (o - k) → IsSetAt (has_block o xs) (has_block o (set xs (place o k n) v)) k n v
set_at o xs k n v len a b =
    let b' = place_below o k n a b in
    let l : place o k n < length xs = omega (arith, b', len) in
    record {
      same = block_at_place o (set xs (place o k n) v) k n a b ∙ get_or-set_same xs (place o k n) v false l;
      other = λ j m ne. elim (cases_lt o j) [
        | inl x ↦ no_place o (set xs (place o k n) v) j m (λ c d. omega (arith, x, c)) ∙ sym (no_place o xs j m (λ c d. omega (arith, x, c)))
        | inr x ↦ elim (cases_lt m (2 ^ (o - j))) [
          | inr y ↦ no_place o (set xs (place o k n) v) j m (λ c d. omega (arith, y, d)) ∙ sym (no_place o xs j m (λ c d. omega (arith, y, d)))
          | inl y ↦
              let apart : place o j m ≡ place o k n → ⊥ = λ e. let s = one_place o j m k n x y a b e in ne s.0 s.1 in
              block_at_place o (set xs (place o k n) v) j m x y ∙ get_or-set_other xs (place o k n) (place o j m) v false apart ∙ sym (block_at_place o xs j m x y)
        ]
      ];
    }

-- the set and the marks after it
pub record IsChanged (count o size : ℕ) (new marks : List Bool) (k n : ℕ) (v : Bool) : Type 0 where
  pub kept : IsKept count o size new
  pub marked : (page : ℕ) → is_free (marks_of o size new) page ≡ is_marked (numbered k n) v (is_free marks page) page

changed : (count o size : ℕ) (xs new marks : List Bool) (k n at : ℕ) (v : Bool) → IsKept count o size xs → marks_of o size xs ≡ marks → k ≤ o → n < 2 ^ (o - k) → at ≡ count - count / 2 ^ k + n → new ≡ set xs at v
    → Tells size (has_block o (set xs (place o k n) v)) (λ p. is_marked (numbered k n) v (is_free (marks_of o size xs) p) p) → IsChanged count o size new marks k n v
changed count o size xs new marks k n at v h e a b is made t =
    let spot : at ≡ place o k n = is ∙ ap (λ c. c - c / 2 ^ k + n) h.counted in
    let same : set xs (place o k n) v ≡ new = ap (λ i. set xs i v) (sym spot) ∙ sym made in
    let below = place_below o k n a b in
    let last : 2 ^ suc o - 1 ≡ place o k n → ⊥ = λ c. omega (arith, c, below) in
    let kept : IsKept count o size (set xs (place o k n) v) = record {
      counted = h.counted;
      len = length-set xs (place o k n) v ∙ h.len;
      order = h.order;
      small = h.small;
      fits = h.fits;
      blocks = t.blocks;
      last = get_or-set_other xs (place o k n) (2 ^ suc o - 1) v false last ∙ h.last;
    } in
    subst (λ ys. IsChanged count o size ys marks k n v) same
    (record {
      kept = kept;
      marked = λ p.
          tell_same size (has_block o (set xs (place o k n) v)) (is_free (marks_of o size (set xs (place o k n) v))) (λ p. is_marked (numbered k n) v (is_free (marks_of o size xs) p) p) p (kept_tells count o size (set xs (place o k n) v) kept) t
          ∙ ap (λ m. is_marked (numbered k n) v (is_free m p) p) e;
    })

-- the marks tell of the set
pub marks_tell : (count o size : ℕ) (xs marks : List Bool) → IsKept count o size xs → marks_of o size xs ≡ marks → Tells size (has_block o xs) (is_free marks)
marks_tell count o size xs marks h e = subst (λ m. Tells size (has_block o xs) (is_free m)) e (kept_tells count o size xs h)

-- the free blocks are those of the set
pub free_in : (count o size : ℕ) (xs marks : List Bool) (k n : ℕ) → IsKept count o size xs → marks_of o size xs ≡ marks → IsFree (is_free marks) (length marks) k n → has_block o xs k n ≡ true
free_in count o size xs marks k n h e w =
    of_whole size (has_block o xs) (is_free marks) (marks_tell count o size xs marks h e) k n (subst (λ s. IsFree (is_free marks) s k n) (sym (size_of o size xs marks e)) w)

pub in_free : (count o size : ℕ) (xs marks : List Bool) (k n : ℕ) → IsKept count o size xs → marks_of o size xs ≡ marks → has_block o xs k n ≡ true → IsFree (is_free marks) (length marks) k n
in_free count o size xs marks k n h e w =
    subst (λ s. IsFree (is_free marks) s k n) (size_of o size xs marks e) (is_whole size (has_block o xs) (is_free marks) (marks_tell count o size xs marks h e) k n w)

pub removed : (count o size : ℕ) (xs new marks : List Bool) (k n at : ℕ) → IsKept count o size xs → marks_of o size xs ≡ marks → IsFree (is_free marks) (length marks) k n → at ≡ count - count / 2 ^ k + n → new ≡ set xs at false
    → IsChanged count o size new marks k n false
removed count o size xs new marks k n at h e w is made =
    let b = free_in count o size xs marks k n h e w in
    let p = in_parts o xs k n b in
    changed count o size xs new marks k n at false h e p.order p.number is made
    (taken_out size (has_block o xs) (has_block o (set xs (place o k n) false)) (is_free (marks_of o size xs)) k n (kept_tells count o size xs h) (set_at o xs k n false h.len p.order p.number) b)

pub added : (count o size : ℕ) (xs new marks : List Bool) (k n at : ℕ) → IsKept count o size xs → marks_of o size xs ≡ marks → n * 2 ^ k + 2 ^ k ≤ length marks
    → ((page : ℕ) → page / 2 ^ k ≡ n → is_free marks page ≡ false) → (IsFree (is_free marks) (length marks) k (beside n) → ⊥) → at ≡ count - count / 2 ^ k + n → new ≡ set xs at true
    → IsChanged count o size new marks k n true
added count o size xs new marks k n at h e end held alone is made =
    let s = size_of o size xs marks e in
    let fits : n * 2 ^ k + 2 ^ k ≤ size = omega (arith, s, end) in
    let p = has_place count o size xs k n h fits in
    changed count o size xs new marks k n at true h e p.0 p.1 is made
    (put_in size (has_block o xs) (has_block o (set xs (place o k n) true)) (is_free (marks_of o size xs)) k n (kept_tells count o size xs h) (set_at o xs k n true h.len p.0 p.1) fits
    (λ p i. ap (λ m. is_free m p) e ∙ held p i) (λ b. alone (in_free count o size xs marks k (beside n) h e b)))

-- where the block stands, for the code
pub spot_below : (count o size : ℕ) (xs : List Bool) (k n at : ℕ) → IsKept count o size xs → k ≤ o → n < 2 ^ (o - k) → at ≡ count - count / 2 ^ k + n → at < length xs
spot_below count o size xs k n at h a b is =
    let spot : at ≡ place o k n = is ∙ ap (λ c. c - c / 2 ^ k + n) h.counted in
    let p = place_below o k n a b in
    let l = h.len in
    omega (arith, spot, p, l)

pub spot_of : (count o size : ℕ) (xs : List Bool) (k n at : ℕ) → IsKept count o size xs → at ≡ count - count / 2 ^ k + n → at ≡ place o k n
spot_of count o size xs k n at h is = is ∙ ap (λ c. c - c / 2 ^ k + n) h.counted

pub count_small : (count o size : ℕ) (xs : List Bool) → IsKept count o size xs → count ≤ 2 ^ 32
count_small count o size xs h = let c = h.counted in let r = h.order in let p : 2 ^ suc o ≤ 2 ^ 32 = small_pow (suc o) 32 (omega (arith, r)) in omega (arith, c, p)

-- the set tells whether a block that has a place is free
pub at_spot : (count o size : ℕ) (xs marks : List Bool) (k n at : ℕ) (t : Bool) → IsKept count o size xs → marks_of o size xs ≡ marks → k ≤ o → n < 2 ^ (o - k) → at ≡ count - count / 2 ^ k + n → t ≡ get_or xs at false → t ≡ true
    → IsFree (is_free marks) (length marks) k n
at_spot count o size xs marks k n at t h e a b is got true_now =
    in_free count o size xs marks k n h e (block_at_place o xs k n a b ∙ ap (λ i. get_or xs i false) (sym (spot_of count o size xs k n at h is)) ∙ sym got ∙ true_now)

pub not_at_spot : (count o size : ℕ) (xs marks : List Bool) (k n at : ℕ) (t : Bool) → IsKept count o size xs → marks_of o size xs ≡ marks → at ≡ count - count / 2 ^ k + n → t ≡ get_or xs at false → t ≡ false
    → IsFree (is_free marks) (length marks) k n → ⊥
not_at_spot count o size xs marks k n at t h e is got false_now w =
    let b = in_parts o xs k n (free_in count o size xs marks k n h e w) in
    both_ways t false_now (got ∙ ap (λ i. get_or xs i false) (spot_of count o size xs k n at h is) ∙ b.is)

-- the half beside a block that isn't the whole
pub beside_fits : (o k n : ℕ) → k < o → n < 2 ^ (o - k) → beside n < 2 ^ (o - k)
beside_fits o k n l b =
    let s : o - k ≡ suc (o - k - 1) = omega arith in
    let e : 2 ^ (o - k) ≡ 2 ^ (o - k - 1) + 2 ^ (o - k - 1) = ap (λ m. 2 ^ m) s ∙ pow_next (o - k - 1) in
    omega (arith, e, b)

-- the greatest block has no half beside it
pub none_beside : (count o size : ℕ) (xs marks : List Bool) (k n : ℕ) → IsKept count o size xs → marks_of o size xs ≡ marks → o ≤ k → n * 2 ^ k + 2 ^ k ≤ length marks → IsFree (is_free marks) (length marks) k (beside n) → ⊥
none_beside count o size xs marks k n h e l end w =
    let s = size_of o size xs marks e in
    let fits : n * 2 ^ k + 2 ^ k ≤ size = omega (arith, s, end) in
    let p = has_place count o size xs k n h fits in
    let b = in_parts o xs k (beside n) (free_in count o size xs marks k (beside n) h e w) in
    let same : k ≡ o = let a = p.0 in omega (arith, a, l) in
    let z : 2 ^ (o - k) ≡ 1 = ap (λ m. 2 ^ m) (let d : o - k ≡ 0 = omega (arith, same) in d) in
    let a = p.1 in
    let c = b.number in
    omega (arith, z, a, c)

-- ---- the block at a place

pub record IsBlockAt (o at k n : ℕ) : Type 0 where
  pub order : k ≤ o
  pub number : n < 2 ^ (o - k)
  pub place : place o k n ≡ at

pub block_is_at : (o at level k n : ℕ) → at + 1 < 2 ^ suc o → 2 ^ level ≤ 2 ^ suc o - 1 - at → 2 ^ suc o - 1 - at < 2 ^ suc level → k ≡ o - level → n ≡ at + 2 * 2 ^ level - 2 ^ suc o → IsBlockAt o at k n
block_is_at o at level k n below low high order number =
    let p = pow_next level in
    let q = pow_next o in
    let l : level ≤ o = elim (cases_lt o level) [
      | inl x ↦ let m : 2 ^ suc o ≤ 2 ^ level = small_pow (suc o) level (omega (arith, x)) in absurd (omega (arith, m, low, below))
      | inr x ↦ x
    ] in
    let back : o - k ≡ level = omega (arith, l, order) in
    let same : 2 ^ (o - k) ≡ 2 ^ level = ap (λ m. 2 ^ m) back in
    let ok : k ≤ o = omega (arith, order) in
    let a = (is_place o k n ok).is in
    record {
      order = ok;
      number = omega (arith, same, number, below, low, high, p);
      place = omega (arith, a, same, number, high, p, below);
    }

-- ---- blocks that have a place

pub record IsPlaced (o k n : ℕ) : Type 0 where
  pub order : k ≤ o
  pub number : n < 2 ^ (o - k)

pub placed_free : (count o size : ℕ) (xs marks : List Bool) (k n : ℕ) → IsKept count o size xs → marks_of o size xs ≡ marks → IsFree (is_free marks) (length marks) k n → IsPlaced o k n
placed_free count o size xs marks k n h e w = let p = in_parts o xs k n (free_in count o size xs marks k n h e w) in record { order = p.order; number = p.number }

pub placed_block : (count o size : ℕ) (xs marks : List Bool) (k n : ℕ) → IsKept count o size xs → marks_of o size xs ≡ marks → n * 2 ^ k + 2 ^ k ≤ length marks → IsPlaced o k n
placed_block count o size xs marks k n h e l =
    let s = size_of o size xs marks e in
    let p = has_place count o size xs k n h (omega (arith, s, l)) in
    record { order = p.0; number = p.1 }

pub placed_start : (count o size : ℕ) (xs marks : List Bool) (k n : ℕ) → IsKept count o size xs → marks_of o size xs ≡ marks → k ≤ o → n * 2 ^ k < length marks → IsPlaced o k n
placed_start count o size xs marks k n h e l u =
    let s = size_of o size xs marks e in
    let f = h.fits in
    record { order = l; number = number_below o k n l (omega (arith, s, u, f)) }

pub placed_small : (count o size : ℕ) (xs : List Bool) (k n : ℕ) → IsKept count o size xs → IsPlaced o k n → k ≤ 31
placed_small count o size xs k n h p = let a = p.order in let b = h.order in omega (arith, a, b)

pub placed_spot : (count o size : ℕ) (xs : List Bool) (k n at : ℕ) → IsKept count o size xs → IsPlaced o k n → at ≡ count - count / 2 ^ k + n → at < length xs
placed_spot count o size xs k n at h p is = spot_below count o size xs k n at h p.order p.number is

-- a free block has fewer than 2 ^ 31 pages
pub free_small : (count o size : ℕ) (xs marks : List Bool) (k n : ℕ) → IsKept count o size xs → marks_of o size xs ≡ marks → IsFree (is_free marks) (length marks) k n → k < 31
free_small count o size xs marks k n h e w =
    let s = size_of o size xs marks e in
    let b = h.blocks.within k n (free_in count o size xs marks k n h e w) in
    let z = h.small in
    elim (cases_lt k 31) [
      | inl x ↦ x
      | inr x ↦ let m : 2 ^ 31 ≤ 2 ^ k = small_pow 31 k x in absurd (omega (arith, b, z, m))
    ]

-- ---- the first and the last free block

not_last : (count o size : ℕ) (xs : List Bool) (m : ℕ) → IsKept count o size xs → get_or xs m false ≡ true → m < length xs → m + 1 < 2 ^ suc o
not_last count o size xs m h t l =
    let e = h.len in
    elim (cases_eq m (2 ^ suc o - 1)) [
      | inl x ↦ absurd (both_ways (get_or xs m false) (ap (λ i. get_or xs i false) x ∙ h.last) t)
      | inr x ↦ omega (arith, x, l, e)
    ]

pub found_below : (count o size : ℕ) (xs : List Bool) (at m : ℕ) → IsKept count o size xs → IsFirstFrom xs at m → m + 1 < count
found_below count o size xs at m h f = let c = h.counted in let n = not_last count o size xs m h f.is f.within in omega (arith, c, n)

pub last_below : (count o size : ℕ) (xs : List Bool) (at m : ℕ) → IsKept count o size xs → at < length xs → IsLastTo xs at m → m + 1 < count
last_below count o size xs at m h l f = let c = h.counted in let t = f.to in let n = not_last count o size xs m h f.is (omega (arith, t, l)) in omega (arith, c, n)

module _ (count o size : ℕ) (xs marks : List Bool) (h : IsKept count o size xs) (e : marks_of o size xs ≡ marks) where
  -- where a free block stands
  free_at : (j i : ℕ) → IsFree (is_free marks) (length marks) j i → IsIn o xs j i
  free_at j i w = in_parts o xs j i (free_in count o size xs marks j i h e w)

  -- from block n of order k on
  behind : (k n j i : ℕ) → n < 2 ^ (o - k) → j ≤ o → k ≤ j → (k ≡ j → n ≤ i) → place o k n ≤ place o j i
  behind k n j i b l a c =
      elim (cases_lt k j) [
        | inl x ↦ let p = place_order o k n j i x l b in omega (arith, p)
        | inr x ↦
            let s : k ≡ j = omega (arith, x, a) in
            let z = c s in
            let y : place o k n ≡ place o j n = ap (λ q. place o q n) s in
            omega (arith, y, z)
      ]

  pub first_none : (k n at : ℕ) → IsPlaced o k n → at ≡ count - count / 2 ^ k + n → ((i : ℕ) → at ≤ i → get_or xs i false ≡ false) → (j i : ℕ) → k ≤ j → (k ≡ j → n ≤ i) → IsFree (is_free marks) (length marks) j i → ⊥
  first_none k n at p is none j i a c w =
      let s = spot_of count o size xs k n at h is in
      let b = free_at j i w in
      let l = behind k n j i p.number b.order a c in
      both_ways (get_or xs (place o j i) false) (none (place o j i) (omega (arith, s, l))) b.is

  -- a block that stands no later than another
  not_later : (j i k n : ℕ) → i < 2 ^ (o - j) → j ≤ o → k ≤ o → n < 2 ^ (o - k) → place o j i ≤ place o k n → (j ≤ k) × (j ≡ k → i ≤ n)
  not_later j i k n b l m d a = (
    elim (cases_lt k j) [ inl x ↦ let p = place_order o k n j i x l d in absurd (omega (arith, p, a)) | inr x ↦ x ],
    λ s. let y : place o j i ≡ place o k i = ap (λ q. place o q i) s in omega (arith, y, a),
  )

  pub first_found : (k n at m : ℕ) (b : Block) → IsPlaced o k n → at ≡ count - count / 2 ^ k + n → IsFirstFrom xs at m → IsBlockAt o m b.order b.number → IsFirstFree (is_free marks) (length marks) k n b
  first_found k n at m b p is f q =
      let s = spot_of count o size xs k n at h is in
      let from : place o k n ≤ place o b.order b.number = let x = f.from in let y = q.place in omega (arith, s, x, y) in
      let start = not_later k n b.order b.number p.number p.order q.order q.number from in
      record {
        order = start.0;
        number = start.1;
        free = in_free count o size xs marks b.order b.number h e (in_from o xs b.order b.number q.order q.number (ap (λ i. get_or xs i false) q.place ∙ f.is));
        first = λ j i a c w.
            let r = free_at j i w in
            let l = behind k n j i p.number r.order a c in
            let t : m ≤ place o j i = elim (cases_lt (place o j i) m) [
              | inl x ↦ absurd (both_ways (get_or xs (place o j i) false) (f.before (place o j i) (omega (arith, s, l)) x) r.is)
              | inr x ↦ x
            ] in
            let y = q.place in
            not_later b.order b.number j i q.number q.order r.order r.number (omega (arith, y, t));
      }

  pub last_none : (k n at : ℕ) → IsPlaced o k n → at ≡ count - count / 2 ^ k + n → ((i : ℕ) → i ≤ at → get_or xs i false ≡ false) → (i : ℕ) → i ≤ n → IsFree (is_free marks) (length marks) k i → ⊥
  last_none k n at p is none i l w =
      let s = spot_of count o size xs k n at h is in
      both_ways (get_or xs (place o k i) false) (none (place o k i) (omega (arith, s, l))) (free_at k i w).is

  pub last_found : (k n at m : ℕ) (b : Block) → IsPlaced o k n → at ≡ count - count / 2 ^ k + n → IsLastTo xs at m → IsBlockAt o m b.order b.number → b.order ≡ k → IsLastFree (is_free marks) (length marks) k n b
  last_found k n at m b p is f q same =
      let s = spot_of count o size xs k n at h is in
      let y = q.place in
      let t = f.to in
      let z : place o b.order b.number ≡ place o k b.number = ap (λ j. place o j b.number) same in
      record {
        order = same;
        number = omega (arith, s, y, t, z);
        free = in_free count o size xs marks b.order b.number h e (in_from o xs b.order b.number q.order q.number (ap (λ i. get_or xs i false) q.place ∙ f.is));
        last = λ i l w. elim (cases_lt b.number i) [
          | inr x ↦ x
          | inl x ↦ absurd (both_ways (get_or xs (place o k i) false) (f.behind (place o k i) (omega (arith, y, z, x)) (omega (arith, s, l))) (free_at k i w).is)
        ];
      }

  pub last_other : (k n at m : ℕ) (b : Block) → IsPlaced o k n → at ≡ count - count / 2 ^ k + n → IsLastTo xs at m → IsBlockAt o m b.order b.number → (b.order ≡ k → ⊥) → (i : ℕ) → i ≤ n → IsFree (is_free marks) (length marks) k i → ⊥
  last_other k n at m b p is f q other i l w =
      let s = spot_of count o size xs k n at h is in
      let y = q.place in
      let t = f.to in
      let below : b.order < k = let x = not_later b.order b.number k n q.number q.order p.order p.number (omega (arith, s, y, t)) in let z = x.0 in omega (arith, z, other) in
      let r = place_order o b.order b.number k i below p.order q.number in
      both_ways (get_or xs (place o k i) false) (f.behind (place o k i) (omega (arith, y, r)) (omega (arith, s, l))) (free_at k i w).is

  -- no block of an order above all is free
  pub none_above : (k i : ℕ) → o < k → IsFree (is_free marks) (length marks) k i → ⊥
  none_above k i l w = let b = (free_at k i w).order in omega (arith, b, l)

-- ---- the order of the block at a place

pub record IsLevel (o count at level len : ℕ) : Type 0 where
  pub fits : level ≤ o
  pub room : count ≤ at + 2 * len
  pub block : IsBlockAt o at (o - level) (at + 2 * len - count)

pub level_at : (o count at level len : ℕ) → count ≡ 2 ^ suc o → at + 1 < count → level ≡ log2 (count - 1 - at) → len ≡ 2 ^ level → IsLevel o count at level len
level_at o count at level len e below is long =
    let g = log2_is_log (count - 1 - at) (omega (arith, below)) in
    let low : 2 ^ level ≤ count - 1 - at = subst (λ i. 2 ^ i ≤ count - 1 - at) (sym is) g.low in
    let high : count - 1 - at < 2 ^ suc level = subst (λ i. count - 1 - at < 2 ^ suc i) (sym is) g.high in
    let p = pow_next level in
    let l : level ≤ o = elim (cases_lt o level) [
      | inl x ↦ let m : 2 ^ suc o ≤ 2 ^ level = small_pow (suc o) level (omega (arith, x)) in absurd (omega (arith, m, low, below, e))
      | inr x ↦ x
    ] in
    record {
      fits = l;
      room = omega (arith, high, p, long);
      block = block_is_at o at level (o - level) (at + 2 * len - count) (omega (arith, below, e)) (omega (arith, low, e)) (omega (arith, high, e)) refl (omega (arith, e, long));
    }

-- ---- no page is free

held_bit : (n i : ℕ) → get_or (replicate n false) i false ≡ false
held_bit n i = elim (cases_lt i n) [
  | inl l ↦ get_or-replicate n i false false l
  | inr l ↦ get_or_past (replicate n false) i false (let e : length (replicate n false) ≡ n = grind (arith, common_steps) in omega (arith, e, l))
]

held_block : (o n k i : ℕ) → has_block o (replicate n false) k i ≡ false
held_block o n k i = false_from_ne_true (has_block o (replicate n false) k i) (λ t. both_ways (get_or (replicate n false) (place o k i) false) (held_bit n (place o k i)) (in_parts o (replicate n false) k i t).is)

pub kept_held : (count o size : ℕ) (xs : List Bool) → xs ≡ replicate count false → count ≡ 2 ^ suc o → o ≤ 31 → size < 2 ^ 31 → size ≤ 2 ^ o → IsKept count o size xs
kept_held count o size xs is e ho hs hf =
    subst (IsKept count o size) (sym is)
    (record {
      counted = e;
      len = (let l : length (replicate count false) ≡ count = grind (arith, common_steps) in l) ∙ e;
      order = ho;
      small = hs;
      fits = hf;
      blocks = record {
        within = λ k n h. absurd (both_ways (has_block o (replicate count false) k n) (held_block o count k n) h);
        alone = λ p k j h i. absurd (both_ways (has_block o (replicate count false) k (p / 2 ^ k)) (held_block o count k (p / 2 ^ k)) h);
        parted = λ k n h i. both_ways (has_block o (replicate count false) k (2 * n)) (held_block o count k (2 * n)) h;
      };
      last = held_bit count (2 ^ suc o - 1);
    })

pub marks_held : (count o size : ℕ) (xs : List Bool) → xs ≡ replicate count false → IsKept count o size xs → (page : ℕ) → is_free (marks_of o size xs) page ≡ false
marks_held count o size xs is h page =
    false_from_ne_true (is_free (marks_of o size xs) page) (λ t.
    let b = (kept_tells count o size xs h).found page t in
    both_ways (has_block o xs b.order (page / 2 ^ b.order)) (subst (λ ys. has_block o ys b.order (page / 2 ^ b.order) ≡ false) (sym is) (held_block o count b.order (page / 2 ^ b.order))) b.is)

-- ---- the free block that has a block

-- the block of a greater order that has a block has a place
pub placed_above : (count o size : ℕ) (xs marks : List Bool) (k n j : ℕ) → IsKept count o size xs → marks_of o size xs ≡ marks → n * 2 ^ k + 2 ^ k ≤ length marks → k ≤ j → j ≤ o → IsPlaced o j (n * 2 ^ k / 2 ^ j)
placed_above count o size xs marks k n j h e l a b =
    let s = some_pages k in
    let d = div-mul-le_self (n * 2 ^ k) (2 ^ j) in
    placed_start count o size xs marks j (n * 2 ^ k / 2 ^ j) h e b (omega (arith, d, l, s))

pub around_is : (count o size : ℕ) (xs marks : List Bool) (k n : ℕ) → IsKept count o size xs → marks_of o size xs ≡ marks → ((j : ℕ) → k ≤ j → j ≤ o → IsFree (is_free marks) (length marks) j (n * 2 ^ k / 2 ^ j) → ⊥)
    → is_free_block (is_free marks) (length marks) (block_around k (n * 2 ^ k)) ≡ false
around_is count o size xs marks k n h e none =
    false_from_ne_true (is_free_block (is_free marks) (length marks) (block_around k (n * 2 ^ k))) (λ t.
    let f : is_free_block (is_free marks) size (block_around k (n * 2 ^ k)) ≡ true = subst (λ s. is_free_block (is_free marks) s (block_around k (n * 2 ^ k)) ≡ true) (sym (size_of o size xs marks e)) t in
    let a = around_free size (has_block o xs) (is_free marks) (marks_tell count o size xs marks h e) k (n * 2 ^ k) f in
    let i : has_block o xs a.order (n * 2 ^ k / 2 ^ a.order) ≡ true = subst (λ q. has_block o xs a.order (q * 2 ^ k / 2 ^ a.order) ≡ true) (own_block k n) a.is in
    none a.order a.above (in_parts o xs a.order (n * 2 ^ k / 2 ^ a.order) i).order (in_free count o size xs marks a.order (n * 2 ^ k / 2 ^ a.order) h e i))

-- the half beside a block that isn't the whole has a place
pub placed_beside : (o k n : ℕ) → IsPlaced o k n → k < o → IsPlaced o k (beside n)
placed_beside o k n p l = record { order = p.order; number = beside_fits o k n l p.number }
