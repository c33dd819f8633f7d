-- What the buddy choice takes is free.
use Rattle.std.proofs.Common.{◌≡◌, ℕ, zero, suc, ◌+◌, ◌-◌, ◌*◌, ◌/◌, ◌^◌, ◌<◌, ◌≤◌, ◌&&◌, inl, inr, Bool, true, false, List, [], ◌∷◌, Option, Some, None, filter_map, option_map, length, refl, ap, sym, ◌∙◌, subst, arith, nat_le, if◌then◌else◌}
use Rattle.std.specs.List.{list_all, cons_option}
use Rattle.std.proofs.lemmas.Bool.{and_parts, cases_lt, cases_eq, leb-true, lt-ltb, le-ltb}
use Rattle.ttm_base.specs.declared.Span.{Span}
use Rattle.ttm_base.specs.ListWords.{count_from, least_by, first_least}
use Rattle.ttm_base.specs.Reach.{is_inside}
use Rattle.ttm_base.specs.Holes.{has_page}
use Rattle.ttm_base.specs.BlockStarts.{starts_of, candidate_at}
use Rattle.ttm_base.proofs.OrderLaws.{order_suffices}
use Rattle.ttm_base.proofs.StartLaws.{candidate_by_start}
use Rattle.ttm_base.specs.BuddyChoice.{Candidate, block_around, is_free_block, candidate_of, candidate, first_candidate, log2, order_of, scattered, contiguous, buddy_choice, taken_after}
use Rattle.buddy_manager.specs.Taking.{less, CanTake, AreTaken}
use Rattle.buddy_manager.proofs.HeldLaws.{has_parts}
use Rattle.buddy_manager.proofs.TakingLaws.{can_take_first, can_take_all}

-- ---- what the first of least key is found by

module _ (f : ℕ → Option Candidate) (P : Candidate → Type 0) (found : (n : ℕ) (c : Candidate) → f n ≡ Some c → P c) where
  least_is : (xs : List ℕ) (y : Candidate) → least_by (λ c. c.whole) (filter_map f xs) ≡ Some y → P y
  least_is [] y h = absurd cc
  least_is (x ∷ xs) y h = by (f x) refl (least_is xs) where
    by : (o : Option Candidate) → f x ≡ o → ((z : Candidate) → least_by (λ c. c.whole) (filter_map f xs) ≡ Some z → P z) → P y
    by None n rest = rest y (sym (ap (λ o. least_by (λ c. c.whole) (cons_option o (filter_map f xs))) n) ∙ h)
    by (Some c) n rest = two (least_by (λ c. c.whole) (filter_map f xs)) refl where
      at : Some (first_least (λ c. c.whole) c (least_by (λ c. c.whole) (filter_map f xs))) ≡ Some y
      at = sym (ap (λ o. least_by (λ c. c.whole) (cons_option o (filter_map f xs))) n) ∙ h

      two : (o : Option Candidate) → least_by (λ c. c.whole) (filter_map f xs) ≡ o → P y
      two None z = let s : c ≡ y = let t = sym (ap (λ o. Some (first_least (λ c. c.whole) c o)) z) ∙ at in cc in subst P s (found x c n)
      two (Some d) z = elim (cases_lt d.whole c.whole) [
        | inl l ↦
            let s : d ≡ y = let t = sym (ap (λ t. Some (if t then d else c)) (lt-ltb d.whole c.whole l)) ∙ sym (ap (λ o. Some (first_least (λ c. c.whole) c o)) z) ∙ at in cc in
            subst P s (rest d z)
        | inr l ↦
            let s : c ≡ y = let t = sym (ap (λ t. Some (if t then d else c)) (le-ltb d.whole c.whole l)) ∙ sym (ap (λ o. Some (first_least (λ c. c.whole) c o)) z) ∙ at in cc in
            subst P s (found x c n)
      ]

each_true : (test : ℕ → Bool) (n start : ℕ) → list_all test (count_from 1 n start) ≡ true → (x : ℕ) → start ≤ x → x < start + n → test x ≡ true
each_true test zero start h x l u = absurd (omega arith)
each_true test (suc n) start h x l u =
    let p = and_parts (test start) (list_all test (count_from 1 n (1 + start))) h in
    elim (cases_eq x start) [
      | inl e ↦ subst (λ y. test y ≡ true) (sym e) p.0
      | inr ne ↦ each_true test n (1 + start) p.1 x (omega arith) (omega arith)
    ]

-- ---- a candidate

pub record IsFreeBlock (f : ℕ → Bool) (size k : ℕ) (b : Span) : Type 0 where
  pub within : b.end ≤ size
  pub free : (page : ℕ) → has_page page b ≡ true → f page ≡ true
  pub len : b.end ≡ b.start + 2 ^ k

free_block : (f : ℕ → Bool) (size k start : ℕ) → is_free_block f size (block_around k start) ≡ true → IsFreeBlock f size k (block_around k start)
free_block f size k start h =
    let from : ℕ = start / 2 ^ k * 2 ^ k in
    let p = and_parts (nat_le (from + 2 ^ k) size) (list_all f (count_from 1 (from + 2 ^ k - from) from)) h in
    record {
      within = leb-true (from + 2 ^ k) size p.0;
      free = λ page t. let q = has_parts page (block_around k start) t in each_true f (from + 2 ^ k - from) from p.1 page q.0 (let u = q.1 in omega (arith, u));
      len = refl;
    }

abbrev made : (ℕ → Bool) → ℕ → ℕ → ℕ → Bool → Option Candidate
made f size k n t = if t then Some (candidate_of f size k (block_around k n)) else None

at_is_free : (f : ℕ → Bool) (size : ℕ) (range : Span) (k n : ℕ) (c : Candidate) → candidate_at f size range k n ≡ Some c → IsFreeBlock f size k c.block
at_is_free f size range k n c h = by (is_inside range (block_around k n) && is_free_block f size (block_around k n)) refl where
  by : (t : Bool) → (is_inside range (block_around k n) && is_free_block f size (block_around k n)) ≡ t → IsFreeBlock f size k c.block
  by false e = absurd (let z : made f size k n false ≡ Some c = sym (ap (made f size k n) e) ∙ h in cc)
  by true e =
      let z : made f size k n true ≡ Some c = sym (ap (made f size k n) e) ∙ h in
      let s : block_around k n ≡ c.block = let t : candidate_of f size k (block_around k n) ≡ c = cc in ap (λ d. d.block) t in
      subst (IsFreeBlock f size k) s (free_block f size k n ((and_parts (is_inside range (block_around k n)) (is_free_block f size (block_around k n)) e).1))

candidate_is_free : (f : ℕ → Bool) (size : ℕ) (range : Span) (topdown : Bool) (k : ℕ) (c : Candidate) → candidate f size range topdown k ≡ Some c → IsFreeBlock f size k c.block
candidate_is_free f size range topdown k c h =
    least_is (candidate_at f size range k) (λ c. IsFreeBlock f size k c.block) (λ n c e. at_is_free f size range k n c e) (starts_of topdown k size) c (sym (candidate_by_start f size range k topdown) ∙ h)

first_can : (f : ℕ → Bool) (size : ℕ) (range : Span) (topdown : Bool) (k : ℕ) (c : Candidate) → first_candidate (candidate f size range topdown) k ≡ Some c → CanTake f size c.block
first_can f size range topdown zero c h = absurd cc
first_can f size range topdown (suc k) c h = by (candidate f size range topdown k) refl (first_can f size range topdown k c) where
  by : (o : Option Candidate) → candidate f size range topdown k ≡ o → (first_candidate (candidate f size range topdown) k ≡ Some c → CanTake f size c.block) → CanTake f size c.block
  by None e rest = rest (sym (ap (λ o. elim o [ Some c ↦ Some c | None ↦ first_candidate (candidate f size range topdown) k ]) e) ∙ h)
  by (Some d) e rest =
      let z : Some d ≡ Some c = sym (ap (λ o. elim o [ Some c ↦ Some c | None ↦ first_candidate (candidate f size range topdown) k ]) e) ∙ h in
      let s : d ≡ c = cc in
      let b = candidate_is_free f size range topdown k c (e ∙ z) in
      can_take_all f size c.block k b.within b.free b.len

-- ---- the choice

-- the blocks that are taken after one
abbrev behind : ℕ → (ℕ → Bool) → ℕ → Span → Bool → ℕ → Candidate → Option (List Span)
behind fuel f size range topdown left c = scattered fuel (less f c.block) size range topdown (suc left - (c.block.end - c.block.start))

abbrev step : ℕ → (ℕ → Bool) → ℕ → Span → Bool → ℕ → Option Candidate → Option (List Span)
step fuel f size range topdown left o = elim o [ None ↦ None | Some c ↦ taken_after (behind fuel f size range topdown left c) c.block ]

record IsBehind (o : Option (List Span)) (b : Span) (out : List Span) : Type 0 where
  more : List Span
  is : o ≡ Some more
  same : b ∷ more ≡ out

behind_parts : (o : Option (List Span)) (b : Span) (out : List Span) → taken_after o b ≡ Some out → IsBehind o b out
behind_parts None b out h = absurd cc
behind_parts (Some more) b out h = record { more = more; is = refl; same = let e : b ∷ more ≡ out = cc in e }

scattered_taken : (fuel : ℕ) (f : ℕ → Bool) (size : ℕ) (range : Span) (topdown : Bool) (left : ℕ) (out : List Span) → scattered fuel f size range topdown left ≡ Some out → AreTaken f size out
scattered_taken fuel f size range topdown zero out h = let e : [] ≡ out = cc in subst (AreTaken f size) e tt
scattered_taken zero f size range topdown (suc left) out h = absurd cc
scattered_taken (suc fuel) f size range topdown (suc left) out h =
    by (first_candidate (candidate f size range topdown) (log2 (suc left) + 1)) refl
    (λ c more e. scattered_taken fuel (less f c.block) size range topdown (suc left - (c.block.end - c.block.start)) more e)
  where
    by : (o : Option Candidate) → first_candidate (candidate f size range topdown) (log2 (suc left) + 1) ≡ o
        → ((c : Candidate) (more : List Span) → behind fuel f size range topdown left c ≡ Some more → AreTaken (less f c.block) size more) → AreTaken f size out
    by None e rest = absurd (let z : step fuel f size range topdown left None ≡ Some out = sym (ap (step fuel f size range topdown left) e) ∙ h in cc)
    by (Some c) e rest =
        let z : step fuel f size range topdown left (Some c) ≡ Some out = sym (ap (step fuel f size range topdown left) e) ∙ h in
        let b = behind_parts (behind fuel f size range topdown left c) c.block out z in
        subst (AreTaken f size) b.same (first_can f size range topdown (log2 (suc left) + 1) c e, rest c b.more b.is)

abbrev cut : ℕ → Candidate → List Span
cut pages c = record { start = c.block.start; end = c.block.start + pages } ∷ []

contiguous_taken : (f : ℕ → Bool) (size : ℕ) (range : Span) (topdown : Bool) (pages : ℕ) (out : List Span) → 1 ≤ pages → contiguous f size range topdown pages ≡ Some out → AreTaken f size out
contiguous_taken f size range topdown pages out some h = by (candidate f size range topdown (order_of pages)) refl where
  by : (o : Option Candidate) → candidate f size range topdown (order_of pages) ≡ o → AreTaken f size out
  by None e = absurd (let z = sym (ap (option_map (cut pages)) e) ∙ h in cc)
  by (Some c) e =
      let z = sym (ap (option_map (cut pages)) e) ∙ h in
      let s : cut pages c ≡ out = cc in
      let b = candidate_is_free f size range topdown (order_of pages) c e in
      let within = b.within in
      let len = b.len in
      let enough = order_suffices pages in
      let fits : c.block.start + pages ≤ c.block.end = omega (arith, enough, len) in
      subst (AreTaken f size) s (can_take_first f size c.block pages within b.free some fits, tt)

pub buddy_takes_free : (f : ℕ → Bool) (size : ℕ) (range : Span) (topdown contig : Bool) (pages : ℕ) (out : List Span) → 1 ≤ pages → buddy_choice f size range topdown contig pages ≡ Some out → AreTaken f size out
buddy_takes_free f size range topdown true pages out some h = contiguous_taken f size range topdown pages out some h
buddy_takes_free f size range topdown false pages out some h = scattered_taken pages f size range topdown pages out h

scattered_some : (fuel : ℕ) (f : ℕ → Bool) (size : ℕ) (range : Span) (topdown : Bool) (left : ℕ) (out : List Span) → 1 ≤ left → scattered fuel f size range topdown left ≡ Some out → 1 ≤ length out
scattered_some fuel f size range topdown zero out some h = absurd (omega arith)
scattered_some zero f size range topdown (suc left) out some h = absurd cc
scattered_some (suc fuel) f size range topdown (suc left) out some h = by (first_candidate (candidate f size range topdown) (log2 (suc left) + 1)) refl where
  by : (o : Option Candidate) → first_candidate (candidate f size range topdown) (log2 (suc left) + 1) ≡ o → 1 ≤ length out
  by None e = absurd (let z : step fuel f size range topdown left None ≡ Some out = sym (ap (step fuel f size range topdown left) e) ∙ h in cc)
  by (Some c) e =
      let z : step fuel f size range topdown left (Some c) ≡ Some out = sym (ap (step fuel f size range topdown left) e) ∙ h in
      let b = behind_parts (behind fuel f size range topdown left c) c.block out z in
      let l = ap length b.same in
      omega (arith, l)

contiguous_some : (f : ℕ → Bool) (size : ℕ) (range : Span) (topdown : Bool) (pages : ℕ) (out : List Span) → contiguous f size range topdown pages ≡ Some out → 1 ≤ length out
contiguous_some f size range topdown pages out h = by (candidate f size range topdown (order_of pages)) refl where
  by : (o : Option Candidate) → candidate f size range topdown (order_of pages) ≡ o → 1 ≤ length out
  by None e = absurd (let z = sym (ap (option_map (cut pages)) e) ∙ h in cc)
  by (Some c) e =
      let z = sym (ap (option_map (cut pages)) e) ∙ h in
      let s : cut pages c ≡ out = cc in
      let l = ap length s in
      omega (arith, l)

pub buddy_takes_some : (f : ℕ → Bool) (size : ℕ) (range : Span) (topdown contig : Bool) (pages : ℕ) (out : List Span) → 1 ≤ pages → buddy_choice f size range topdown contig pages ≡ Some out → 1 ≤ length out
buddy_takes_some f size range topdown true pages out some h = contiguous_some f size range topdown pages out h
buddy_takes_some f size range topdown false pages out some h = scattered_some pages f size range topdown pages out some h

pub buddy_most_fits : 2147483647 < 2 ^ 32
buddy_most_fits = omega arith
