-- A page is free if a buddy manager has a block for it alone, in a range that it fills.
use Rattle.std.proofs.Common.{◌≡◌, ℕ, zero, suc, ◌+◌, ◌-◌, ◌*◌, ◌/◌, ◌<◌, ◌≤◌, ◌&&◌, ◌||◌, inl, inr, Bool, true, false, List, [], ◌∷◌, ◌++◌, Option, Some, None, refl, ap, sym, ◌∙◌, arith, nat_eq, nat_lt, nat_le, if◌then◌else◌}
use Rattle.std.specs.Prelude.{◌%◌, ◌==◌, option_map, is_some, map, filter}
use Rattle.std.specs.List.{list_any, list_all}
use Rattle.std.proofs.lemmas.Bool.{cases_lt, and_from, and_left, and_right, lt-ltb, le-ltb, lt-leb, le-leb, eq-eqb, ne_eqb}
use Rattle.ttm_base.specs.declared.Span.{Span}
use Rattle.ttm_base.specs.ListWords.{least_by, count_from}
use Rattle.ttm_base.specs.Reach.{is_inside}
use Rattle.ttm_base.specs.BuddyChoice.{Candidate, buddy_choice, candidate, candidate_of, block_around, is_free_block}
use Rattle.ttm_base.specs.Holes.{is_free_beside}
use Rattle.manager_walk.specs.Cutting.{grown, blocks_from}
use Rattle.manager_walk.specs.Walk.{is_open}

-- a list has a least element if one number of those that it is made of passes
least_of : {X : Type 0} (key : X → ℕ) (g : Span → X) (a b : Span → Bool) (h : ℕ → Span) (ns : List ℕ)
    → is_some (least_by key (map g (filter a (filter b (map h ns))))) ≡ list_any (λ n. b (h n) && a (h n)) ns
least_of key g a b h [] = refl
least_of key g a b h (n ∷ ns) = two (least_of key g a b h ns) (b (h n)) where
  rest : List Span
  rest = filter b (map h ns)

  inner : is_some (least_by key (map g (filter a rest))) ≡ list_any (λ m. b (h m) && a (h m)) ns → (u : Bool)
      → is_some (least_by key (map g (if u then h n ∷ filter a rest else filter a rest))) ≡ (u || list_any (λ m. b (h m) && a (h m)) ns)
  inner r true = refl
  inner r false = r

  two : is_some (least_by key (map g (filter a rest))) ≡ list_any (λ m. b (h m) && a (h m)) ns → (t : Bool)
      → is_some (least_by key (map g (filter a (if t then h n ∷ rest else rest)))) ≡ ((t && a (h n)) || list_any (λ m. b (h m) && a (h m)) ns)
  two r true = inner r (a (h n))
  two r false = r

none_of : (x : Bool) → ((x && false) || false) ≡ false
none_of true = refl
none_of false = refl

only_of : (x : Bool) → ((x && true) || false) ≡ x
only_of true = refl
only_of false = refl

rest_of : (x y : Bool) → ((x && false) || y) ≡ y
rest_of true y = refl
rest_of false y = refl

-- of some numbers in a row those that are one number and pass
any_count : (q : ℕ → Bool) (n start page : ℕ) → list_any (λ m. q m && nat_eq m page) (count_from 1 n start) ≡ ((nat_le start page && nat_lt page (start + n)) && q page)
any_count q zero start page =
    sym (and_left (nat_le start page && nat_lt page (start + 0)) (q page) (elim (cases_lt page start) [
      | inl l ↦ and_left (nat_le start page) (nat_lt page (start + 0)) (lt-leb start page l)
      | inr l ↦ and_right (nat_le start page) (nat_lt page (start + 0)) (le-ltb page (start + 0) (omega arith))
    ]))
any_count q (suc n) start page = ap (λ x. (q start && nat_eq start page) || x) (any_count q n (1 + start) page) ∙ elim (cases_lt page start) [
  | inl l ↦
      (λ i. (q start && (ne_eqb start page (λ e. omega arith)) i) || (((lt-leb (1 + start) page (omega arith)) i && nat_lt page (1 + start + n)) && q page)) ∙ none_of (q start)
      ∙ sym (λ i. ((lt-leb start page l) i && nat_lt page (start + suc n)) && q page)
  | inr l ↦ elim (cases_lt start page) [
    | inl u ↦
        let z : 1 + start + n ≡ start + suc n = omega arith in
        (λ i. (q start && (ne_eqb start page (λ e. omega arith)) i) || (((le-leb (1 + start) page (omega arith)) i && nat_lt page (z i)) && q page)) ∙ rest_of (q start) (nat_lt page (start + suc n) && q page)
        ∙ sym (λ i. ((le-leb start page l) i && nat_lt page (start + suc n)) && q page)
    | inr u ↦
        let z : start ≡ page = omega arith in
        (λ i. (q (z i) && (eq-eqb start page z) i) || (((lt-leb (1 + start) page (omega arith)) i && nat_lt page (1 + start + n)) && q page)) ∙ only_of (q page)
        ∙ sym (λ i. ((le-leb start page l) i && (lt-ltb page (start + suc n) (omega arith)) i) && q page)
  ]
]

one_at : (n : ℕ) → n / 1 * 1 ≡ n
one_at n = omega arith

abbrev own : ℕ → Span
own n = record { start = n; end = n + 1 }

block_is : (n : ℕ) → block_around 0 n ≡ own n
block_is n = ap own (one_at n)

free_own : (f : ℕ → Bool) (size n : ℕ) → is_free_block f size (own n) ≡ (nat_lt n size && f n)
free_own f size n =
    let k : n + 1 - n ≡ 1 = omega arith in
    let z : n + 1 ≡ suc n = omega arith in
    (λ i. nat_le (z i) size && list_all f (count_from 1 (k i) n)) ∙ ap (λ x. nat_lt n size && x) (whole (f n))
  where
    whole : (x : Bool) → (x && true) ≡ x
    whole true = refl
    whole false = refl

inside_own : (page n : ℕ) → is_inside (own page) (own n) ≡ nat_eq n page
inside_own page n = elim (cases_lt n page) [
  | inl l ↦ and_left (nat_le page n) (nat_le (n + 1) (page + 1)) (lt-leb page n l) ∙ sym (ne_eqb n page (λ e. omega arith))
  | inr l ↦ elim (cases_lt page n) [
    | inl u ↦ and_right (nat_le page n) (nat_le (n + 1) (page + 1)) (lt-leb (n + 1) (page + 1) (omega arith)) ∙ sym (ne_eqb n page (λ e. omega arith))
    | inr u ↦ and_from (nat_le page n) (nat_le (n + 1) (page + 1)) (le-leb page n l) (le-leb (n + 1) (page + 1) (omega arith)) ∙ sym (eq-eqb n page (omega arith))
  ]
]

-- the block of one page passes if the page is free, and it is the one that is wanted
passes : (f : ℕ → Bool) (size page n : ℕ) → (is_free_block f size (block_around 0 n) && is_inside (own page) (block_around 0 n)) ≡ ((nat_lt n size && f n) && nat_eq n page)
passes f size page n = ap (λ b. is_free_block f size b && is_inside (own page) b) (block_is n) ∙ (λ i. (free_own f size n) i && (inside_own page n) i)

some_map : {X Y : Type 0} (g : X → Y) (o : Option X) → is_some (option_map g o) ≡ is_some o
some_map g None = refl
some_map g (Some x) = refl

pub open_by_block : (held : List Span) (size page : ℕ) → is_some (buddy_choice (is_free_beside held) size (record { start = page; end = page + 1 }) false true 1) ≡ is_open held size page
open_by_block held size page =
    let f : ℕ → Bool = is_free_beside held in
    let z : size / 1 ≡ size = omega arith in
    let y : 0 + size ≡ size = omega arith in
    some_map (λ (c : Candidate). record { start = c.block.start; end = c.block.start + 1 } ∷ []) (candidate f size (own page) false 0)
    ∙ least_of (λ c. c.whole) (candidate_of f size 0) (is_inside (own page)) (is_free_block f size) (block_around 0) (count_from 1 (size / 1) 0)
    ∙ (λ i. list_any (λ n. (passes f size page n) i) (count_from 1 (z i) 0))
    ∙ any_count (λ n. nat_lt n size && f n) size 0 page
    ∙ (λ i. ((le-leb 0 page (omega arith)) i && nat_lt page (y i)) && (nat_lt page size && f page))
    ∙ twice (nat_lt page size) (f page)
  where
    twice : (x y : Bool) → (x && (x && y)) ≡ (x && y)
    twice true y = refl
    twice false y = refl

-- ---- a hole as blocks

pub blocks_stop : (n start end : ℕ) → end ≤ start → blocks_from n start end ≡ []
blocks_stop zero start end l = refl
blocks_stop (suc n) start end l =
    ap (λ t. if t then record { start = start; end = start + grown 32 start end 1 } ∷ blocks_from n (start + grown 32 start end 1) end else []) (le-ltb start end l)

none_behind : (xs : List Span) → xs ++ [] ≡ xs
none_behind [] = refl
none_behind (x ∷ xs) = ap (λ ys. x ∷ ys) (none_behind xs)

one_behind : (xs ys : List Span) (x : Span) → (xs ++ x ∷ []) ++ ys ≡ xs ++ x ∷ ys
one_behind [] ys x = refl
one_behind (z ∷ xs) ys x = ap (λ zs. z ∷ zs) (one_behind xs ys x)

pub all_put : (out all : List Span) (n start end : ℕ) → end ≤ start → out ++ blocks_from n start end ≡ all → out ≡ all
all_put out all n start end l e = sym (none_behind out) ∙ ap (λ xs. out ++ xs) (sym (blocks_stop n start end l)) ∙ e

pub one_put : (out more all : List Span) (left next start end : ℕ) (b : Span) → start < end → left ≡ suc next → b ≡ record { start = start; end = start + grown 32 start end 1 } → more ≡ out ++ b ∷ []
    → out ++ blocks_from left start end ≡ all → more ++ blocks_from next b.end end ≡ all
one_put out more all left next start end b l n is m e =
    let first : Span = record { start = start; end = start + grown 32 start end 1 } in
    (λ i. (m i) ++ blocks_from next (is i).end end) ∙ (λ i. (out ++ (is i) ∷ []) ++ blocks_from next first.end end) ∙ one_behind out (blocks_from next first.end end) first
    ∙ sym (ap (λ t. out ++ (if t then first ∷ blocks_from next first.end end else [])) (lt-ltb start end l))
    ∙ ap (λ k. out ++ blocks_from k start end) (sym n) ∙ e

-- ---- a block that is doubled

pub grown_more : (n start end size : ℕ) → start % (2 * size) ≡ 0 → start + 2 * size ≤ end → grown (suc n) start end size ≡ grown n start end (2 * size)
grown_more n start end size d l = ap (λ t. if t then grown n start end (2 * size) else size) (and_from (start % (2 * size) == 0) (nat_le (start + 2 * size) end) (eq-eqb (start % (2 * size)) 0 d) (le-leb (start + 2 * size) end l))
