-- Numbers of pages: one was set, or those of a buffer.
use Rattle.std.proofs.Common.{◌≡◌, ℕ, zero, suc, ◌+◌, ◌<◌, ◌≤◌, Bool, true, false, List, [], ◌∷◌, ◌++◌, length, Some, ap, refl, sym, ◌∙◌, subst, ⊎_elim, arith}
use Rattle.std.specs.Prelude.{◌==◌, ◌&&◌, nat_le, nat_lt, slice_get, slice_set, unwrap_or, if◌then◌else◌}
use Rattle.std.proofs.lemmas.Bool.{and_from, and_parts, cases_eq, cases_lt, eq-eqb, eqb-true, ne_eqb, lt-ltb, le-ltb, le-leb, lt-leb}
use Rattle.std.proofs.lemmas.Option.{slice_get_past}
use Rattle.report_mappings.specs.Faults.{met_by, number_at, seen_at}
use Rattle.map_access.specs.declared.access.Access.{Access}

-- ---- lists

-- one more that is as if it weren't there
pub push_default : {X : Type 0} (xs : List X) (d : X) (i : ℕ) → unwrap_or (slice_get (xs ++ d ∷ []) i) d ≡ unwrap_or (slice_get xs i) d
push_default [] d zero = refl
push_default [] d (suc i) = refl
push_default (x ∷ xs) d zero = refl
push_default (x ∷ xs) d (suc i) = push_default xs d i

get_set_same : {X : Type 0} (xs : List X) (i : ℕ) (y : X) → i < length xs → slice_get (slice_set xs i y) i ≡ Some y
get_set_same [] i y h = absurd (omega arith)
get_set_same (x ∷ xs) zero y h = refl
get_set_same (x ∷ xs) (suc i) y h = get_set_same xs i y (omega arith)

get_set_other : {X : Type 0} (xs : List X) (i j : ℕ) (y : X) → (i ≡ j → ⊥) → slice_get (slice_set xs i y) j ≡ slice_get xs j
get_set_other [] i j y d = refl
get_set_other (x ∷ xs) zero zero y d = absurd (d refl)
get_set_other (x ∷ xs) zero (suc j) y d = refl
get_set_other (x ∷ xs) (suc i) zero y d = refl
get_set_other (x ∷ xs) (suc i) (suc j) y d = get_set_other xs i j y (λ e. d (ap suc e))

pick : (b : Bool) (x y : ℕ) → b ≡ true → (if b then x else y) ≡ x
pick true x y h = refl
pick false x y h = cc

skip : (b : Bool) (x y : ℕ) → b ≡ false → (if b then x else y) ≡ y
skip true x y h = cc
skip false x y h = refl

-- ---- one buffer

pub number_set : (pages : List ℕ) (page n : ℕ) → page < length pages → (i : ℕ) → number_at (slice_set pages page n) i ≡ (if page == i then n else number_at pages i)
number_set pages page n h i =
    ⊎_elim
    (λ e. ap (number_at (slice_set pages page n)) (sym e) ∙ ap (λ o. unwrap_or o 0) (get_set_same pages page n h) ∙ sym (pick (page == i) n (number_at pages i) (eq-eqb page i e)))
    (λ d. ap (λ o. unwrap_or o 0) (get_set_other pages page i n d) ∙ sym (skip (page == i) n (number_at pages i) (ne_eqb page i d)))
    (cases_eq page i)

-- a page that has no number yet has none
pub number_past : (pages : List ℕ) (page : ℕ) → length pages ≤ page → (i : ℕ) → number_at pages i ≡ (if page == i then 0 else number_at pages i)
number_past pages page h i =
    ⊎_elim
    (λ e. ap (number_at pages) (sym e) ∙ ap (λ o. unwrap_or o 0) (slice_get_past pages page h) ∙ sym (pick (page == i) 0 (number_at pages i) (eq-eqb page i e)))
    (λ d. sym (skip (page == i) 0 (number_at pages i) (ne_eqb page i d)))
    (cases_eq page i)

-- ---- all buffers

seen_set : (seen : List (List ℕ)) (b : ℕ) (new : List ℕ) → b < length seen → (c i : ℕ) → seen_at (slice_set seen b new) c i ≡ (if c == b then number_at new i else seen_at seen c i)
seen_set seen b new h c i =
    ⊎_elim
    (λ e. ap (λ d. seen_at (slice_set seen b new) d i) e ∙ ap (λ o. number_at (unwrap_or o []) i) (get_set_same seen b new h)
    ∙ sym (pick (c == b) (number_at new i) (seen_at seen c i) (eq-eqb c b e)))
    (λ d. ap (λ o. number_at (unwrap_or o []) i) (get_set_other seen b c new (λ e. d (sym e))) ∙ sym (skip (c == b) (number_at new i) (seen_at seen c i) (ne_eqb c b d)))
    (cases_eq c b)

two_tests : (s t : Bool) (x y z : ℕ) → (s ≡ true → y ≡ z) → (if s then (if t then x else y) else z) ≡ (if s && t then x else z)
two_tests true true x y z h = refl
two_tests true false x y z h = h refl
two_tests false t x y z h = refl

module _ (seen : List (List ℕ)) (b : ℕ) (old new : List ℕ) (within : b < length seen) (at : slice_get seen b ≡ Some old) where
  same_buffer : (c i : ℕ) → (c == b) ≡ true → number_at old i ≡ seen_at seen c i
  same_buffer c i t = ap (λ o. number_at (unwrap_or o []) i) (sym at) ∙ ap (λ d. seen_at seen d i) (sym (eqb-true c b t))

  -- a page of a buffer has another number
  pub page_set : (page n : ℕ) → ((i : ℕ) → number_at new i ≡ (if page == i then n else number_at old i))
      → (c i : ℕ) → seen_at (slice_set seen b new) c i ≡ (if (c == b) && (page == i) then n else seen_at seen c i)
  page_set page n is c i =
      seen_set seen b new within c i
      ∙ ap (λ x. if c == b then x else seen_at seen c i) (is i)
      ∙ two_tests (c == b) (page == i) n (number_at old i) (seen_at seen c i) (same_buffer c i)

  -- no page of a buffer has a number
  pub buffer_cleared : new ≡ [] → (c i : ℕ) → seen_at (slice_set seen b new) c i ≡ (if c == b then 0 else seen_at seen c i)
  buffer_cleared none c i =
      seen_set seen b new within c i ∙ ap (λ ps. if c == b then number_at ps i else seen_at seen c i) none

-- a buffer that has no numbers yet has none
past_zero : (seen : List (List ℕ)) (b c i : ℕ) → length seen ≤ b → (c == b) ≡ true → seen_at seen c i ≡ 0
past_zero seen b c i h t = ap (λ o. number_at (unwrap_or o []) i) (slice_get_past seen c (subst (λ d. length seen ≤ d) (sym (eqb-true c b t)) h))

keep_zero : (t : Bool) (x : ℕ) → (t ≡ true → x ≡ 0) → x ≡ (if t then 0 else x)
keep_zero true x h = h refl
keep_zero false x h = refl

pub buffer_past : (seen : List (List ℕ)) (b : ℕ) → length seen ≤ b → (c i : ℕ) → seen_at seen c i ≡ (if c == b then 0 else seen_at seen c i)
buffer_past seen b h c i = keep_zero (c == b) (seen_at seen c i) (past_zero seen b c i h)

pub page_past : (seen : List (List ℕ)) (b page : ℕ) → length seen ≤ b → (c i : ℕ) → seen_at seen c i ≡ (if (c == b) && (page == i) then 0 else seen_at seen c i)
page_past seen b page h c i = keep_zero ((c == b) && (page == i)) (seen_at seen c i) (λ t. past_zero seen b c i h (and_parts (c == b) (page == i) t).0)

-- room was made
pub page_set_grown : (seen grown new : List (List ℕ)) (b page n : ℕ) → ((c : ℕ) → unwrap_or (slice_get grown c) [] ≡ unwrap_or (slice_get seen c) [])
    → ((c i : ℕ) → seen_at new c i ≡ (if (c == b) && (page == i) then n else seen_at grown c i))
    → (c i : ℕ) → seen_at new c i ≡ (if (c == b) && (page == i) then n else seen_at seen c i)
page_set_grown seen grown new b page n same is c i =
    is c i ∙ ap (λ ps. if (c == b) && (page == i) then n else number_at ps i) (same c)

-- ---- a range of pages, page by page

next_here : (page i end n s : ℕ) → page < end → (if nat_le (page + 1) i && nat_lt i end then n else (if page == i then n else s)) ≡ (if nat_le page i && nat_lt i end then n else s)
next_here page i end n s h =
    ⊎_elim
    (λ e.
    let inside : i < end = omega (arith, e, h) in
    ap (λ (t : Bool). if nat_le (page + 1) i && nat_lt i end then n else (if t then n else s)) (eq-eqb page i e)
    ∙ ap (λ (t : Bool). if t && nat_lt i end then n else n) (lt-leb (page + 1) i (omega (arith, e)))
    ∙ sym (pick (nat_le page i && nat_lt i end) n s (and_from (nat_le page i) (nat_lt i end) (le-leb page i (omega (arith, e))) (lt-ltb i end inside))))
    (λ d.
    ap (λ (t : Bool). if nat_le (page + 1) i && nat_lt i end then n else (if t then n else s)) (ne_eqb page i d)
    ∙ ap (λ (t : Bool). if t && nat_lt i end then n else s) (same_side d))
    (cases_eq page i)
  where
    same_side : (page ≡ i → ⊥) → nat_le (page + 1) i ≡ nat_le page i
    same_side d =
        ⊎_elim
        (λ low. le-leb (page + 1) i (omega (arith, low)) ∙ sym (le-leb page i (omega (arith, low))))
        (λ high. let below : i < page = grind (arith, high, d) in lt-leb (page + 1) i (omega (arith, below)) ∙ sym (lt-leb page i below))
        (cases_lt page i)

next_met : (t : Bool) (page i end n s : ℕ) → page < end
    → (if t && (nat_le (page + 1) i && nat_lt i end) then n else (if t && (page == i) then n else s)) ≡ (if t && (nat_le page i && nat_lt i end) then n else s)
next_met true page i end n s h = next_here page i end n s h
next_met false page i end n s h = refl

-- the numbers of the pages from one on are still to be set
abbrev pub still_to_meet : Access → ℕ → ℕ → List (List ℕ) → ℕ → ℕ → ℕ
still_to_meet a page n seen c i = met_by (record a { first = page }) n c i (seen_at seen c i)

pub one_met : (a : Access) (page n : ℕ) (seen new : List (List ℕ)) → page < a.end
    → ((c i : ℕ) → seen_at new c i ≡ (if (c == a.b.0) && (page == i) then n else seen_at seen c i))
    → (c i : ℕ) → still_to_meet a (page + 1) n new c i ≡ still_to_meet a page n seen c i
one_met a page n seen new h is c i =
    ap (λ x. if (c == a.b.0) && (nat_le (page + 1) i && nat_lt i a.end) then n else x) (is c i)
    ∙ next_met (c == a.b.0) page i a.end n (seen_at seen c i) h

none_left : (t : Bool) (page i end n s : ℕ) → end ≤ page → (if t && (nat_le page i && nat_lt i end) then n else s) ≡ s
none_left false page i end n s h = refl
none_left true page i end n s h =
    ⊎_elim
    (λ low. ap (λ (u : Bool). if u && nat_lt i end then n else s) (lt-leb page i low))
    (λ high. ap (λ (u : Bool). if nat_le page i && u then n else s) (le-ltb i end (omega (arith, h, high))) ∙ off (nat_le page i))
    (cases_lt i page)
  where
    off : (u : Bool) → (if u && false then n else s) ≡ s
    off true = refl
    off false = refl

pub all_met : (a : Access) (page n : ℕ) (seen : List (List ℕ)) → a.end ≤ page → (c i : ℕ) → still_to_meet a page n seen c i ≡ seen_at seen c i
all_met a page n seen h c i = none_left (c == a.b.0) page i a.end n (seen_at seen c i) h
