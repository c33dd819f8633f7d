-- The candidate of the choice, from what a search finds.
use Rattle.std.proofs.Common.{◌≡◌, ℕ, zero, suc, ◌+◌, ◌-◌, ◌*◌, ◌/◌, ◌^◌, ◌<◌, ◌≤◌, inl, inr, Bool, true, false, List, [], ◌∷◌, Option, Some, None, length, get_or, filter_map, refl, ap, sym, ◌∙◌, subst, arith, if◌then◌else◌}
use Rattle.std.specs.List.{cons_option}
use Rattle.std.proofs.lemmas.Grind.{common_steps}
use Rattle.std.proofs.lemmas.List.{get_or-reverse}
use Rattle.std.proofs.lemmas.Bool.{cases_lt, cases_eq, lt-ltb, le-ltb}
use Rattle.ttm_base.specs.ListWords.{count_from, least_by, first_least}
use Rattle.ttm_base.specs.declared.Span.{Span}
use Rattle.ttm_base.specs.BuddyChoice.{Candidate, candidate}
use Rattle.ttm_base.specs.BlockStarts.{starts_of, candidate_at}
use Rattle.ttm_base.proofs.StartLaws.{candidate_by_start}
use Rattle.block_tree.specs.Searching.{IsAhead}
use Rattle.block_tree.specs.Pieces.{IsPiece}
use Rattle.block_tree.proofs.Numbers.{down_from}
use Rattle.block_tree.proofs.FreeLaws.{candidate_from}
use Rattle.block_tree.proofs.PieceLaws.{piece_within, candidate_piece, piece_candidate}

-- ---- the first of least key

module _ (f : ℕ → Option Candidate) where
  -- the key of each that is found is at least b
  abbrev AtLeast : ℕ → List ℕ → Type 0
  AtLeast b xs = (m : ℕ) (c : Candidate) → m < length xs → f (get_or xs m 0) ≡ Some c → b ≤ c.whole

  -- one more in front: what is found after it, and what is found then
  least_step : (b : ℕ) (x : ℕ) (xs : List ℕ) (y : Candidate) → AtLeast b (x ∷ xs) → ((d : Candidate) → least_by (λ c. c.whole) (filter_map f xs) ≡ Some d → b ≤ d.whole)
      → least_by (λ c. c.whole) (filter_map f (x ∷ xs)) ≡ Some y → b ≤ y.whole
  least_step b x xs y h behind e = by (f x) refl where
    by : (o : Option Candidate) → f x ≡ o → b ≤ y.whole
    by None n = behind y (sym (ap (λ o. least_by (λ c. c.whole) (cons_option o (filter_map f xs))) n) ∙ e)
    by (Some c) n = two (least_by (λ c. c.whole) (filter_map f xs)) refl where
      here : b ≤ c.whole
      here = h 0 c (omega arith) n

      found : Some (first_least (λ c. c.whole) c (least_by (λ c. c.whole) (filter_map f xs))) ≡ Some y
      found = sym (ap (λ o. least_by (λ c. c.whole) (cons_option o (filter_map f xs))) n) ∙ e

      two : (o : Option Candidate) → least_by (λ c. c.whole) (filter_map f xs) ≡ o → b ≤ y.whole
      two None z = let s : c ≡ y = let t = sym (ap (λ o. Some (first_least (λ c. c.whole) c o)) z) ∙ found in cc in subst (λ c. b ≤ c.whole) s here
      two (Some d) z = elim (cases_lt d.whole c.whole) [
        | inl l ↦
            let s : d ≡ y = let t = sym (ap (λ t. Some (if t then d else c)) (lt-ltb d.whole c.whole l)) ∙ sym (ap (λ o. Some (first_least (λ c. c.whole) c o)) z) ∙ found in cc in
            subst (λ c. b ≤ c.whole) s (behind d z)
        | inr l ↦
            let s : c ≡ y = let t = sym (ap (λ t. Some (if t then d else c)) (le-ltb d.whole c.whole l)) ∙ sym (ap (λ o. Some (first_least (λ c. c.whole) c o)) z) ∙ found in cc in
            subst (λ c. b ≤ c.whole) s here
      ]

  least_bound : (b : ℕ) (xs : List ℕ) (y : Candidate) → AtLeast b xs → least_by (λ c. c.whole) (filter_map f xs) ≡ Some y → b ≤ y.whole
  least_bound b [] y h e = absurd cc
  least_bound b (x ∷ xs) y h e = least_step b x xs y h (λ d z. least_bound b xs d (λ m c l t. h (suc m) c (omega arith) t) z) e

  least_here : (x : ℕ) (xs : List ℕ) (c : Candidate) → f x ≡ Some c → AtLeast c.whole (x ∷ xs) → least_by (λ c. c.whole) (filter_map f (x ∷ xs)) ≡ Some c
  least_here x xs c e all =
      ap (λ o. least_by (λ c. c.whole) (cons_option o (filter_map f xs))) e ∙ ap Some (two (least_by (λ c. c.whole) (filter_map f xs)) refl) where
        two : (o : Option Candidate) → least_by (λ c. c.whole) (filter_map f xs) ≡ o → first_least (λ c. c.whole) c (least_by (λ c. c.whole) (filter_map f xs)) ≡ c
        two None z = ap (first_least (λ c. c.whole) c) z
        two (Some d) z =
            let b : c.whole ≤ d.whole = least_bound c.whole xs d (λ m d l t. all (suc m) d (omega arith) t) z in
            ap (first_least (λ c. c.whole) c) z ∙ ap (λ t. if t then d else c) (le-ltb d.whole c.whole b)

  least_behind : (x : ℕ) (xs : List ℕ) (c : Candidate) → ((d : Candidate) → f x ≡ Some d → c.whole < d.whole) → least_by (λ c. c.whole) (filter_map f xs) ≡ Some c → least_by (λ c. c.whole) (filter_map f (x ∷ xs)) ≡ Some c
  least_behind x xs c before rest = by (f x) refl where
    by : (o : Option Candidate) → f x ≡ o → least_by (λ c. c.whole) (filter_map f (x ∷ xs)) ≡ Some c
    by None n = ap (λ o. least_by (λ c. c.whole) (cons_option o (filter_map f xs))) n ∙ rest
    by (Some d) n =
        let less : c.whole < d.whole = before d n in
        ap (λ o. least_by (λ c. c.whole) (cons_option o (filter_map f xs))) n
        ∙ ap (λ o. Some (first_least (λ c. c.whole) d o)) rest
        ∙ ap (λ t. Some (if t then c else d)) (lt-ltb c.whole d.whole less)

  least_at : (xs : List ℕ) (i : ℕ) (c : Candidate) → i < length xs → f (get_or xs i 0) ≡ Some c → AtLeast c.whole xs → ((m : ℕ) (d : Candidate) → m < i → f (get_or xs m 0) ≡ Some d → c.whole < d.whole)
      → least_by (λ c. c.whole) (filter_map f xs) ≡ Some c
  least_at [] i c l e all before = absurd (omega arith)
  least_at (x ∷ xs) zero c l e all before = least_here x xs c e all
  least_at (x ∷ xs) (suc i) c l e all before =
      least_behind x xs c (λ d t. before 0 d (omega arith) t) (least_at xs i c (omega arith) e (λ m d l t. all (suc m) d (omega arith) t) (λ m d l t. before (suc m) d (omega arith) t))

  least_none : (xs : List ℕ) → ((m : ℕ) → m < length xs → f (get_or xs m 0) ≡ None) → least_by (λ c. c.whole) (filter_map f xs) ≡ None
  least_none [] h = refl
  least_none (x ∷ xs) h =
      ap (λ o. least_by (λ c. c.whole) (cons_option o (filter_map f xs))) (h 0 (omega arith)) ∙ least_none xs (λ m l. h (suc m) (omega arith))

-- ---- the starts of blocks

length-count : (step n start : ℕ) → length (count_from step n start) ≡ n
length-count step zero start = refl
length-count step (suc n) start = let e = length-count step n (step + start) in grind (arith, common_steps)

get_or-count : (step n start i d : ℕ) → i < n → get_or (count_from step n start) i d ≡ start + i * step
get_or-count step zero start i d h = absurd (omega arith)
get_or-count step (suc n) start zero d h = grind (arith, common_steps)
get_or-count step (suc n) start (suc i) d h = let e = get_or-count step n (step + start) i d (omega arith) in grind (arith, common_steps)

-- the block that is looked at in this turn, of n blocks
abbrev turn : Bool → ℕ → ℕ → ℕ
turn topdown n m = if topdown then n - 1 - m else m

length-starts : (topdown : Bool) (k size : ℕ) → length (starts_of topdown k size) ≡ size / 2 ^ k
length-starts true k size = let e = length-count (2 ^ k) (size / 2 ^ k) 0 in grind (arith, common_steps, e)
length-starts false k size = length-count (2 ^ k) (size / 2 ^ k) 0

start_of : (topdown : Bool) (k size m : ℕ) → m < size / 2 ^ k → get_or (starts_of topdown k size) m 0 ≡ turn topdown (size / 2 ^ k) m * 2 ^ k
start_of false k size m h = let e = get_or-count (2 ^ k) (size / 2 ^ k) 0 m 0 h in grind (arith, e)
start_of true k size m h =
    let len = length-count (2 ^ k) (size / 2 ^ k) 0 in
    let within : m < length (count_from (2 ^ k) (size / 2 ^ k) 0) = omega (arith, len) in
    let back = get_or-reverse (count_from (2 ^ k) (size / 2 ^ k) 0) m 0 within in
    let at = get_or-count (2 ^ k) (size / 2 ^ k) 0 (size / 2 ^ k - 1 - m) 0 (omega arith) in
    grind (arith, len, back, at)

turn_below : (topdown : Bool) (n m : ℕ) → m < n → turn topdown n m < n
turn_below true n m h = omega arith
turn_below false n m h = h

turn_back : (topdown : Bool) (n i : ℕ) → i < n → turn topdown n (turn topdown n i) ≡ i
turn_back true n i h = omega arith
turn_back false n i h = refl

-- what comes in an earlier turn isn't after
turn_ahead : (topdown : Bool) (n i m : ℕ) → i < n → m < turn topdown n i → IsAhead topdown i (turn topdown n m) → ⊥
turn_ahead true n i m h l a = omega arith
turn_ahead false n i m h l a = omega arith

-- ---- the candidate

none_such : (o : Option Candidate) → ((c : Candidate) → o ≡ Some c → ⊥) → o ≡ None
none_such None h = refl
none_such (Some c) h = absurd (h c refl)

module _ (f : ℕ → Bool) (size : ℕ) (range : Span) (topdown : Bool) (k : ℕ) where
  -- what is met in a turn
  at_turn : (m : ℕ) (c : Candidate) → m < size / 2 ^ k → candidate_at f size range k (get_or (starts_of topdown k size) m 0) ≡ Some c → IsPiece f size range k c.whole (turn topdown (size / 2 ^ k) m)
  at_turn m c h e = candidate_piece f size range k (turn topdown (size / 2 ^ k) m) c (sym (ap (candidate_at f size range k) (start_of topdown k size m h)) ∙ e)

  pub candidate_none : ((i w : ℕ) → IsPiece f size range k w i → ⊥) → candidate f size range topdown k ≡ None
  candidate_none none =
      candidate_by_start f size range k topdown
      ∙ least_none (candidate_at f size range k) (starts_of topdown k size) (λ m h.
      let l : m < size / 2 ^ k = let e = length-starts topdown k size in omega (arith, e, h) in
      none_such (candidate_at f size range k (get_or (starts_of topdown k size) m 0)) (λ c e. none (turn topdown (size / 2 ^ k) m) c.whole (at_turn m c l e)))

  pub candidate_found : (j i : ℕ) → ((m w : ℕ) → IsPiece f size range k w m → j ≤ w) → IsPiece f size range k j i → ((m : ℕ) → IsPiece f size range k j m → IsAhead topdown i m)
      → candidate f size range topdown k ≡ Some (candidate_from k i j)
  candidate_found j i bound is first =
      let below : i < size / 2 ^ k = down_from size i k (piece_within f size range k j i is) in
      let m : ℕ = turn topdown (size / 2 ^ k) i in
      let l : m < size / 2 ^ k = turn_below topdown (size / 2 ^ k) i below in
      let len = length-starts topdown k size in
      let back : turn topdown (size / 2 ^ k) m ≡ i = turn_back topdown (size / 2 ^ k) i below in
      candidate_by_start f size range k topdown
      ∙ least_at (candidate_at f size range k) (starts_of topdown k size) m (candidate_from k i j) (omega (arith, l, len))
      (ap (candidate_at f size range k) (start_of topdown k size m l ∙ ap (λ n. n * 2 ^ k) back) ∙ piece_candidate f size range k j i is)
      (λ t c h e. let u : t < size / 2 ^ k = omega (arith, len, h) in bound (turn topdown (size / 2 ^ k) t) c.whole (at_turn t c u e))
      (λ t c h e. let u : t < size / 2 ^ k = omega (arith, l, h) in
      let x = at_turn t c u e in
      let b = bound (turn topdown (size / 2 ^ k) t) c.whole x in
      elim (cases_eq j c.whole) [
        | inr n ↦ omega arith
        | inl s ↦
            let w : IsPiece f size range k j (turn topdown (size / 2 ^ k) t) = subst (λ n. IsPiece f size range k n (turn topdown (size / 2 ^ k) t)) (sym s) x in
            absurd (turn_ahead topdown (size / 2 ^ k) i t below h (first (turn topdown (size / 2 ^ k) t) w))
      ])
