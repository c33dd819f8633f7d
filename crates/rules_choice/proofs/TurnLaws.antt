-- The order of looks at blocks: which are outside a range, and how a scan moves on over several.
use Rattle.std.proofs.Common.{◌≡◌, ℕ, zero, suc, ◌+◌, ◌-◌, ◌*◌, ◌/◌, ◌^◌, ◌<◌, ◌≤◌, inl, inr, Bool, true, false, List, Option, Some, None, length, take, get_or, refl, ap, sym, ◌∙◌, subst, arith, pow_pos, mul-div_cancel, mul-le-mul_right}
use Rattle.std.specs.Prelude.{filter_map, min}
use Rattle.std.proofs.lemmas.Grind.{common_steps}
use Rattle.std.proofs.lemmas.Bool.{cases_lt}
use Rattle.std.proofs.lemmas.Bool.Decides.{nat_tests}
use Rattle.std.proofs.lemmas.List.{take_all}
use Rattle.std.proofs.Math.Nat.{div-mul-le_self, lt-div-mul-add}
use Rattle.ttm_base.specs.declared.Span.{Span}
use Rattle.ttm_base.specs.Reach.{is_inside}
use Rattle.ttm_base.specs.ListWords.{least_by}
use Rattle.ttm_base.specs.BuddyChoice.{block_around}
use Rattle.ttm_base.specs.BlockStarts.{starts_of}
use Rattle.rules_choice.specs.Least.{best_with}
use Rattle.rules_choice.specs.Settled.{IsOutside}
use Rattle.rules_choice.proofs.NestLaws.{in_block}
use Rattle.rules_choice.proofs.StartLaws.{least_more, lowest_first, highest_first}

-- ---- a scan moves on

module _ {X Y : Type 0} (f : X → Option Y) (key : Y → ℕ) (xs : List X) (d : X) where
  one_on : (i : ℕ) (best : Option Y) → best ≡ least_by key (filter_map f (take i xs)) → (i < length xs → best ≡ best_with key best (f (get_or xs i d)))
      → best ≡ least_by key (filter_map f (take (i + 1) xs))
  one_on i best e stays = elim (cases_lt i (length xs)) [
    | inl l ↦ stays l ∙ ap (λ b. best_with key b (f (get_or xs i d))) e ∙ sym (least_more f key xs i d l)
    | inr h ↦ e ∙ ap (λ ys. least_by key (filter_map f ys)) (take_all i xs h ∙ sym (take_all (i + 1) xs (omega arith)))
  ]

  -- the best so far stays over the next n
  pub moved_on : (n i : ℕ) (best : Option Y) → best ≡ least_by key (filter_map f (take i xs))
      → ((m : ℕ) → i ≤ m → m < i + n → m < length xs → best ≡ best_with key best (f (get_or xs m d)))
      → best ≡ least_by key (filter_map f (take (i + n) xs))
  moved_on zero i best e stays = let z : i + 0 ≡ i = omega arith in subst (λ k. best ≡ least_by key (filter_map f (take k xs))) (sym z) e
  moved_on (suc n) i best e stays =
      let s : i + 1 + n ≡ i + suc n = omega arith in
      subst (λ k. best ≡ least_by key (filter_map f (take k xs))) s
      (moved_on n (i + 1) best (one_on i best e (λ l. stays i (omega arith) (omega arith) l)) (λ m a b l. stays m (omega arith) (omega arith) l))

  -- the best so far stays to the end
  pub moved_out : (i : ℕ) (best : Option Y) → best ≡ least_by key (filter_map f (take i xs))
      → ((m : ℕ) → i ≤ m → m < length xs → best ≡ best_with key best (f (get_or xs m d)))
      → best ≡ least_by key (filter_map f xs)
  moved_out i best e stays =
      moved_on (length xs) i best e (λ m a b l. stays m a l) ∙ ap (λ ys. least_by key (filter_map f ys)) (take_all (i + length xs) xs (omega arith))

-- the least so far stays after a look at the same again
again : {Y : Type 0} (key : Y → ℕ) (best found : Option Y) → best_with key best found ≡ best_with key (best_with key best found) found
again key best None = refl
again key None (Some y) = ap Some (grind (arith, nat_tests))
again key (Some x) (Some y) = grind (arith, nat_tests)

pub looked_at : {Y : Type 0} (key : Y → ℕ) (old new found : Option Y) → new ≡ best_with key old found → new ≡ best_with key new found
looked_at key old new found e = e ∙ again key old found ∙ ap (λ b. best_with key b found) (sym e)

-- ---- which blocks are outside

own_block : (k j : ℕ) → j * 2 ^ k / 2 ^ k * 2 ^ k ≡ j * 2 ^ k
own_block k j = ap (λ n. n * 2 ^ k) (mul-div_cancel j (pow_pos k))

before_range : (range : Span) (k j : ℕ) → j < (range.start + 2 ^ k - 1) / 2 ^ k → is_inside range (block_around k (j * 2 ^ k)) ≡ false
before_range range k j h =
    let q = div-mul-le_self (range.start + 2 ^ k - 1) (2 ^ k) in
    let m : (j + 1) * 2 ^ k ≤ (range.start + 2 ^ k - 1) / 2 ^ k * 2 ^ k = mul-le-mul_right (2 ^ k) (omega arith) in
    let p = pow_pos k in
    let own = own_block k j in
    let less : j * 2 ^ k < range.start = omega (arith, q, m, p) in
    grind (arith, common_steps, nat_tests, own, less)

after_range : (range : Span) (k size j : ℕ) → min range.end size / 2 ^ k ≤ j → j < size / 2 ^ k → is_inside range (block_around k (j * 2 ^ k)) ≡ false
after_range range k size j h l =
    let q = div-mul-le_self size (2 ^ k) in
    let m : (j + 1) * 2 ^ k ≤ size / 2 ^ k * 2 ^ k = mul-le-mul_right (2 ^ k) (omega arith) in
    let r = lt-div-mul-add {a = min range.end size} (pow_pos k) in
    let t : min range.end size / 2 ^ k * 2 ^ k ≤ j * 2 ^ k = mul-le-mul_right (2 ^ k) h in
    let own = own_block k j in
    let less : range.end < j * 2 ^ k + 2 ^ k = omega (arith, q, m, r, t) in
    grind (arith, common_steps, nat_tests, own, less)

pub lowest_before : (range : Span) (k size i : ℕ) → i < (range.start + 2 ^ k - 1) / 2 ^ k → i < size / 2 ^ k → IsOutside range false k size i
lowest_before range k size i h l = ap (λ page. is_inside range (block_around k page)) (lowest_first k size i l) ∙ before_range range k i h

pub lowest_after : (range : Span) (k size i : ℕ) → min range.end size / 2 ^ k ≤ i → i < size / 2 ^ k → IsOutside range false k size i
lowest_after range k size i h l = ap (λ page. is_inside range (block_around k page)) (lowest_first k size i l) ∙ after_range range k size i h l

pub highest_before : (range : Span) (k size i : ℕ) → i < size / 2 ^ k - min range.end size / 2 ^ k → i < size / 2 ^ k → IsOutside range true k size i
highest_before range k size i h l =
    ap (λ page. is_inside range (block_around k page)) (highest_first k size i l) ∙ after_range range k size (size / 2 ^ k - 1 - i) (omega arith) (omega arith)

pub highest_after : (range : Span) (k size i : ℕ) → size / 2 ^ k - (range.start + 2 ^ k - 1) / 2 ^ k ≤ i → i < size / 2 ^ k → IsOutside range true k size i
highest_after range k size i h l =
    ap (λ page. is_inside range (block_around k page)) (highest_first k size i l) ∙ before_range range k (size / 2 ^ k - 1 - i) (omega arith)

-- ---- the blocks of a larger one

less_pages : (n pages k : ℕ) → n < pages / 2 ^ k + 1 → n * 2 ^ k ≤ pages
less_pages n pages k h =
    let q = div-mul-le_self pages (2 ^ k) in
    let m : n * 2 ^ k ≤ pages / 2 ^ k * 2 ^ k = mul-le-mul_right (2 ^ k) (omega arith) in
    omega (arith, q, m)

pub next_up : (k whole start n : ℕ) → n < (start / 2 ^ whole * 2 ^ whole + 2 ^ whole - 1 - start) / 2 ^ k + 1 → (start + n * 2 ^ k) / 2 ^ whole ≡ start / 2 ^ whole
next_up k whole start n h =
    let p = less_pages n (start / 2 ^ whole * 2 ^ whole + 2 ^ whole - 1 - start) k h in
    let l = div-mul-le_self start (2 ^ whole) in
    let u = lt-div-mul-add {a = start} (pow_pos whole) in
    in_block (start + n * 2 ^ k) whole (start / 2 ^ whole) (omega (arith, l)) (omega (arith, p, u))

pub next_down : (k whole start n : ℕ) → n < (start - start / 2 ^ whole * 2 ^ whole) / 2 ^ k + 1 → (start - n * 2 ^ k) / 2 ^ whole ≡ start / 2 ^ whole
next_down k whole start n h =
    let p = less_pages n (start - start / 2 ^ whole * 2 ^ whole) k h in
    let l = div-mul-le_self start (2 ^ whole) in
    let u = lt-div-mul-add {a = start} (pow_pos whole) in
    in_block (start - n * 2 ^ k) whole (start / 2 ^ whole) (omega (arith, p, l)) (omega (arith, u))

-- the starts after one
pub start_up : (k size i m : ℕ) → i ≤ m → m < size / 2 ^ k → get_or (starts_of false k size) m 0 ≡ get_or (starts_of false k size) i 0 + (m - i) * 2 ^ k
start_up k size i m h l =
    let a = lowest_first k size m l in
    let b = lowest_first k size i (omega arith) in
    let s : m ≡ i + (m - i) = omega arith in
    a ∙ ap (λ n. n * 2 ^ k) s ∙ shared i (m - i) (2 ^ k) ∙ ap (λ n. n + (m - i) * 2 ^ k) (sym b)
  where
    shared : (a b p : ℕ) → (a + b) * p ≡ a * p + b * p
    shared a b p = omega arith

pub start_down : (k size i m : ℕ) → i ≤ m → m < size / 2 ^ k → get_or (starts_of true k size) m 0 ≡ get_or (starts_of true k size) i 0 - (m - i) * 2 ^ k
start_down k size i m h l =
    let a = highest_first k size m l in
    let b = highest_first k size i (omega arith) in
    let s : size / 2 ^ k - 1 - i ≡ size / 2 ^ k - 1 - m + (m - i) = omega arith in
    a ∙ shared (size / 2 ^ k - 1 - m) (m - i) (2 ^ k) ∙ ap (λ n. n * 2 ^ k - (m - i) * 2 ^ k) (sym s) ∙ ap (λ n. n - (m - i) * 2 ^ k) (sym b)
  where
    shared : (a b p : ℕ) → a * p ≡ (a + b) * p - b * p
    shared a b p = let e : (a + b) * p ≡ a * p + b * p = omega arith in omega (arith, e)

-- a block begins below the size
below_size : (k size j : ℕ) → j < size / 2 ^ k → j * 2 ^ k < size
below_size k size j h =
    let q = div-mul-le_self size (2 ^ k) in
    let m : (j + 1) * 2 ^ k ≤ size / 2 ^ k * 2 ^ k = mul-le-mul_right (2 ^ k) (omega arith) in
    let p = pow_pos k in
    omega (arith, q, m, p)

pub start_below : (topdown : Bool) (k size i : ℕ) → i < size / 2 ^ k → get_or (starts_of topdown k size) i 0 < size
start_below true k size i h = subst (λ n. n < size) (sym (highest_first k size i h)) (below_size k size (size / 2 ^ k - 1 - i) (omega arith))
start_below false k size i h = subst (λ n. n < size) (sym (lowest_first k size i h)) (below_size k size i h)
