-- The numbers of pieces, place by place.
use Rattle.std.proofs.Common.{◌≡◌, ◌≢◌, ℕ, zero, suc, ◌+◌, ◌*◌, ◌/◌, ◌<◌, inl, inr, List, [], ◌∷◌, ◌++◌, length, length-set, get_or, set, replicate, refl, ap, sym, ◌∙◌, arith, if◌then◌else◌, get_or-set_same, get_or-set_other}
use Rattle.std.specs.Prelude.{◌%◌, ◌==◌}
use Rattle.std.proofs.lemmas.Bool.{cases_lt, eq-eqb, ne_eqb}
use Rattle.std.proofs.lemmas.Grind.{same_number_lists}
use Rattle.std.proofs.lemmas.List.{get_or_past, length-replicate}
use Rattle.sparse_table.specs.Pieces.{number_in, numbers_from}

pub length-numbers : (ps : List (List ℕ)) (start n : ℕ) → length (numbers_from ps start n) ≡ n
length-numbers ps start zero = refl
length-numbers ps start (suc n) = ap suc (length-numbers ps (start + 1) n)

at_from : (ps : List (List ℕ)) (n start k : ℕ) → k < n → get_or (numbers_from ps start n) k 0 ≡ number_in ps (start + k)
at_from ps zero start k l = absurd (omega arith)
at_from ps (suc n) start zero l = let e : start ≡ start + 0 = omega arith in ap (number_in ps) e
at_from ps (suc n) start (suc k) l = let e : start + 1 + k ≡ start + suc k = omega arith in at_from ps n (start + 1) k (omega arith) ∙ ap (number_in ps) e

pub number_at : (ps : List (List ℕ)) (n k : ℕ) → k < n → get_or (numbers_from ps 0 n) k 0 ≡ number_in ps k
number_at ps n k l = let e : 0 + k ≡ k = omega arith in at_from ps n 0 k l ∙ ap (number_in ps) e

-- a place whose number isn't 0: its piece has numbers
pub record HasNumber (ps : List (List ℕ)) (n at : ℕ) : Type 0 where
  pub below : at < n
  pub inside : at % 1024 < length (get_or ps (at / 1024) [])

pub has_number : (ps : List (List ℕ)) (n at : ℕ) → 0 < get_or (numbers_from ps 0 n) at 0 → HasNumber ps n at
has_number ps n at some =
    elim (cases_lt at n) [
      | inr past ↦ let e = get_or_past (numbers_from ps 0 n) at 0 (omega (arith, past, length-numbers ps 0 n)) in absurd (omega (arith, e, some))
      | inl below ↦ elim (cases_lt (at % 1024) (length (get_or ps (at / 1024) []))) [
        | inl inside ↦ record { below = below; inside = inside }
        | inr past ↦
            let e = get_or_past (get_or ps (at / 1024) []) (at % 1024) 0 past in
            let f = number_at ps n at below in
            absurd (omega (arith, e, f, some))
      ]
    ]

-- where there are only zeros, each number is 0
pub zeros : (n k : ℕ) → get_or {A = ℕ} (replicate n 0) k 0 ≡ 0
zeros zero k = refl
zeros (suc n) zero = refl
zeros (suc n) (suc k) = zeros n k

abbrev none : List ℕ
none = []

-- no piece has a number
empty : (c i : ℕ) → get_or (replicate c []) i none ≡ none
empty zero i = refl
empty (suc c) zero = refl
empty (suc c) (suc i) = empty c i

pub none_set : (count n : ℕ) → numbers_from (replicate count []) 0 n ≡ replicate n 0
none_set count n =
    let pieces : List (List ℕ) = replicate count [] in
    same_number_lists (numbers_from pieces 0 n) (replicate n 0) (length-numbers pieces 0 n ∙ sym (length-replicate n 0))
    (λ k l.
    let few : k < n = omega (arith, l, length-numbers pieces 0 n) in
    number_at pieces n k few ∙ ap (λ (p : List ℕ). get_or p (k % 1024) 0) (empty count (k / 1024)) ∙ sym (zeros n k))

step_more : {X : Type 0} (x : X) (n : ℕ) → replicate n x ++ x ∷ [] ≡ replicate (suc n) x
step_more x zero = refl
step_more x (suc n) = ap (λ xs. x ∷ xs) (step_more x n)

pub one_more : {X : Type 0} (x : X) (n : ℕ) → replicate n x ++ x ∷ [] ≡ replicate (n + 1) x
one_more x n = let e : suc n ≡ n + 1 = omega arith in step_more x n ∙ ap (λ m. replicate m x) e

-- a number that changed in its piece alone
pub one_set : (ps : List (List ℕ)) (piece : List ℕ) (n at number : ℕ) → at < n → n < length ps * 1024
    → ((other : ℕ) → get_or piece other 0 ≡ (if other == at % 1024 then number else get_or (get_or ps (at / 1024) []) other 0))
    → numbers_from (set ps (at / 1024) piece) 0 n ≡ set (numbers_from ps 0 n) at number
one_set ps piece n at number below room changed =
    same_number_lists (numbers_from after 0 n) (set before at number) (length-numbers after 0 n ∙ sym (length-numbers ps 0 n) ∙ sym (length-set before at number))
    (λ k l. each k (omega (arith, l, length-numbers after 0 n)))
  where
    after : List (List ℕ)
    after = set ps (at / 1024) piece

    before : List ℕ
    before = numbers_from ps 0 n

    here : at / 1024 < length ps
    here = omega arith

    in_piece : (k : ℕ) → k / 1024 ≡ at / 1024 → number_in after k ≡ (if k % 1024 == at % 1024 then number else number_in ps k)
    in_piece k e =
        ap (λ i. get_or (get_or after i []) (k % 1024) 0) e ∙ ap (λ (p : List ℕ). get_or p (k % 1024) 0) (get_or-set_same ps (at / 1024) piece [] here)
        ∙ changed (k % 1024) ∙ ap (λ i. if k % 1024 == at % 1024 then number else get_or (get_or ps i []) (k % 1024) 0) (sym e)

    other_piece : (k : ℕ) → k / 1024 ≢ at / 1024 → number_in after k ≡ number_in ps k
    other_piece k ne = ap (λ (p : List ℕ). get_or p (k % 1024) 0) (get_or-set_other ps (at / 1024) (k / 1024) piece [] ne)

    same_piece : (k : ℕ) → k ≢ at → k / 1024 ≡ at / 1024 → number_in after k ≡ number_in ps k
    same_piece k ne e = in_piece k e ∙ ap (λ b. if b then number else number_in ps k) (ne_eqb (k % 1024) (at % 1024) (λ m. ne (omega (arith, e, m))))

    kept : (k : ℕ) → k ≢ at → number_in after k ≡ number_in ps k
    kept k ne =
        elim (cases_lt (k / 1024) (at / 1024)) [
          | inl u ↦ other_piece k (λ e. omega (arith, e, u))
          | inr u ↦ elim (cases_lt (at / 1024) (k / 1024)) [
            | inl v ↦ other_piece k (λ e. omega (arith, e, v))
            | inr v ↦ same_piece k ne (omega (arith, u, v))
          ]
        ]

    apart : (k : ℕ) → k < n → k ≢ at → get_or (numbers_from after 0 n) k 0 ≡ get_or (set before at number) k 0
    apart k l ne = number_at after n k l ∙ kept k ne ∙ sym (number_at ps n k l) ∙ sym (get_or-set_other before at k number 0 ne)

    there : (k : ℕ) → k < n → k ≡ at → get_or (numbers_from after 0 n) k 0 ≡ get_or (set before at number) k 0
    there k l e =
        let few : at < length before = omega (arith, below, length-numbers ps 0 n) in
        number_at after n k l ∙ in_piece k (ap (λ i. i / 1024) e) ∙ ap (λ b. if b then number else number_in ps k) (eq-eqb (k % 1024) (at % 1024) (ap (λ i. i % 1024) e))
        ∙ sym (ap (λ i. get_or (set before at number) i 0) e ∙ get_or-set_same before at number 0 few)

    each : (k : ℕ) → k < n → get_or (numbers_from after 0 n) k 0 ≡ get_or (set before at number) k 0
    each k l =
        elim (cases_lt k at) [
          | inl u ↦ apart k l (λ e. omega (arith, e, u))
          | inr u ↦ elim (cases_lt at k) [
            | inl v ↦ apart k l (λ e. omega (arith, e, v))
            | inr v ↦ there k l (omega (arith, u, v))
          ]
        ]
