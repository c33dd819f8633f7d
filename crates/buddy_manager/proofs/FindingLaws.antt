-- How far a search for blocks is.
use Rattle.std.proofs.Common.{◌≡◌, ℕ, zero, suc, ◌+◌, ◌-◌, ◌^◌, ◌<◌, ◌≤◌, ◌&&◌, ◌||◌, inl, inr, Bool, true, false, List, [], ◌∷◌, ◌++◌, Option, Some, None, Result, Ok, Err, length, take, drop, replicate, refl, ap, sym, ◌∙◌, subst, arith, not, min, option_map, if◌then◌else◌}
use Rattle.std.specs.List.{list_any}
use Rattle.std.specs.Result.{OnErr}
use Rattle.std.proofs.lemmas.Grind.{common_steps}
use Rattle.std.proofs.lemmas.Bool.{cases_lt, cases_eq}
use Rattle.std.proofs.lemmas.List.{append-nil, length-drop, get_or_past}
use Rattle.std.proofs.Math.Seq.{take-length}
use Rattle.ttm_base.specs.declared.Span.{Span}
use Rattle.ttm_base.specs.Holes.{has_page}
use Rattle.ttm_base.specs.BuddyChoice.{Candidate, candidate, first_candidate, log2, scattered}
use Rattle.ttm_base.proofs.OrderLaws.{log2_from, log2_fits}
use Rattle.block_tree.specs.FreeSet.{is_free}
use Rattle.block_tree.specs.Masks.{is_marked}
use Rattle.block_tree.specs.Pieces.{IsPiece}
use Rattle.block_tree.proofs.Numbers.{some_pages, small_pow}
use Rattle.buddy_manager.specs.declared.unmarked.Half.{Half}
use Rattle.buddy_manager.specs.declared.unmarked.Found.{Found}
use Rattle.buddy_manager.specs.declared.find.Search.{Search}
use Rattle.buddy_manager.specs.Taking.{less, beside, AreGiven, CanTake, AreTaken, Tells, IsSame}
use Rattle.buddy_manager.specs.Finding.{HasNoBlock, HasNumbers, IsKnown, IsFound, IsMarkedIn, IsFinding}
use Rattle.buddy_manager.proofs.HeldLaws.{has_parts, has_from}
use Rattle.buddy_manager.proofs.TakingLaws.{beside_more, taken_more, given_now, restored, of_candidate, scattered_none, scattered_more, scattered_done}
use Rattle.buddy_manager.proofs.FindLaws.{no_block, no_block_less, no_candidate_in}
use Rattle.buddy_manager.proofs.KnownLaws.{found_choice, found_taken, known_all}

-- ---- the greatest order that has a block

first_at : (at : ℕ → Option Candidate) (k n : ℕ) (c : Candidate) → k < n → ((i : ℕ) → k < i → i < n → at i ≡ None) → at k ≡ Some c → first_candidate at n ≡ Some c
first_at at k zero c l none h = absurd (omega arith)
first_at at k (suc n) c l none h =
    elim (cases_eq k n) [
      | inl e ↦ ap (λ o. elim o [ Some c ↦ Some c | None ↦ first_candidate at n ]) (subst (λ i. at i ≡ Some c) e h)
      | inr d ↦
          let m : k < n = omega arith in
          ap (λ o. elim o [ Some c ↦ Some c | None ↦ first_candidate at n ]) (none n m (omega arith)) ∙ first_at at k n c m (λ i a b. none i a (omega arith)) h
    ]

first_nowhere : (at : ℕ → Option Candidate) (n : ℕ) → ((i : ℕ) → i < n → at i ≡ None) → first_candidate at n ≡ None
first_nowhere at zero none = refl
first_nowhere at (suc n) none = ap (λ o. elim o [ Some c ↦ Some c | None ↦ first_candidate at n ]) (none n (omega arith)) ∙ first_nowhere at n (λ i l. none i (omega arith))

-- an order up to that of what is left
fits_left : (i left : ℕ) → 0 < left → i < log2 left + 1 → 2 ^ i ≤ left
fits_left i left some l =
    let f = log2_fits left some in
    let m : 2 ^ i ≤ 2 ^ log2 left = small_pow i (log2 left) (omega arith) in
    omega (arith, f, m)

-- the order that is looked at
pub clamped_fits : (k order left : ℕ) → 0 < left → k ≡ min order (log2 left) → 2 ^ k ≤ left
clamped_fits k order left some e = fits_left k left some (omega (arith, e))

-- ---- pages beside blocks

beside_split : (f : ℕ → Bool) (bs : List Span) (page : ℕ) → beside f bs page ≡ (f page && not (list_any (has_page page) bs))
beside_split f [] page = and_true (f page) where
  and_true : (t : Bool) → t ≡ (t && true)
  and_true true = refl
  and_true false = refl
beside_split f (b ∷ bs) page = beside_split (less f b) bs page ∙ two (f page) (has_page page b) (list_any (has_page page) bs) where
  two : (x y z : Bool) → ((x && not y) && not z) ≡ (x && not (y || z))
  two true true z = refl
  two true false z = refl
  two false y z = refl

pub length_more : (bs : List Span) (b : Span) → length (bs ++ b ∷ []) ≡ length bs + 1
length_more bs b = grind (arith, common_steps)

-- ---- what was marked

beside_joined : (f : ℕ → Bool) (xs ys : List Span) → beside f (xs ++ ys) ≡ beside (beside f xs) ys
beside_joined f [] ys = refl
beside_joined f (x ∷ xs) ys = beside_joined (less f x) xs ys

beside_equal : (f g : ℕ → Bool) (bs : List Span) (page : ℕ) → f page ≡ g page → beside f bs page ≡ beside g bs page
beside_equal f g bs page e = beside_split f bs page ∙ ap (λ x. x && not (list_any (has_page page) bs)) e ∙ sym (beside_split g bs page)

taken_front : (f : ℕ → Bool) (n count : ℕ) (bs : List Span) → AreTaken f n bs → AreTaken f n (take count bs)
taken_front f n zero bs a = tt
taken_front f n (suc count) [] a = tt
taken_front f n (suc count) (b ∷ bs) a = (a.0, taken_front (less f b) n count bs a.1)

take_front : (count : ℕ) (bs : List Span) (b : Span) → count ≤ length bs → take count (bs ++ b ∷ []) ≡ take count bs
take_front zero bs b l = refl
take_front (suc count) [] b l = absurd (omega arith)
take_front (suc count) (x ∷ bs) b l = ap (λ xs. x ∷ xs) (take_front count bs b (omega arith))

take_all : (bs : List Span) → take (length bs) bs ≡ bs
take_all [] = refl
take_all (b ∷ bs) = ap (λ xs. b ∷ xs) (take_all bs)

take_drop : (count : ℕ) (bs : List Span) → take count bs ++ drop count bs ≡ bs
take_drop zero bs = refl
take_drop (suc count) [] = refl
take_drop (suc count) (b ∷ bs) = ap (λ xs. b ∷ xs) (take_drop count bs)

-- the others are marked too
all_held : (before now after : List Bool) (count : ℕ) (out : List Span) → IsMarkedIn before now count out → ((page : ℕ) → is_free after page ≡ beside (is_free now) (drop count out) page) → (page : ℕ) → is_free after page ≡ beside (is_free before) out page
all_held before now after count out m held page =
    held page
    ∙ beside_equal (is_free now) (beside (is_free before) (take count out)) (drop count out) page (m.marks page)
    ∙ ap (λ (f : ℕ → Bool). f page) (sym (beside_joined (is_free before) (take count out) (drop count out)))
    ∙ ap (λ bs. beside (is_free before) bs page) (take_drop count out)

pub marked_all : (before now after : List Bool) (count n : ℕ) (out : List Span) → IsMarkedIn before now count out → length after ≡ length now → n ≡ length out → ((page : ℕ) → is_free after page ≡ beside (is_free now) (drop count out) page) → IsMarkedIn before after n out
marked_all before now after count n out m l e held =
    record {
      size = l ∙ m.size;
      each = m.each;
      most = omega (arith, e);
      marks = λ page. all_held before now after count out m held page ∙ ap (λ bs. beside (is_free before) bs page) (sym (ap (λ n. take n out) e ∙ take_all out));
    }

pub known_marked : (before now after : List Bool) (range : Span) (count : ℕ) (out rests : List Span) (half : Option Half) (test : ℕ → Bool) → Tells test before → IsMarkedIn before now count out → rests ≡ replicate 32 range → half ≡ None
    → ((page : ℕ) → is_free after page ≡ beside (is_free now) (drop count out) page) → IsKnown (beside test out) (is_free after) (length before) range rests half
known_marked before now after range count out rests half test h m all none held =
    known_all (beside test out) (is_free after) (length before) range rests half all none (λ page l. beside_equal test (is_free before) out page (h page l) ∙ sym (all_held before now after count out m held page))

pub marked_more_one : (before now : List Bool) (count : ℕ) (out : List Span) (b : Span) → IsMarkedIn before now count out → CanTake (beside (is_free before) out) (length before) b → IsMarkedIn before now count (out ++ b ∷ [])
marked_more_one before now count out b m can =
    let more = length_more out b in
    let l = m.most in
    record {
      size = m.size;
      each = taken_more (is_free before) (length before) out b m.each can;
      most = omega (arith, l, more);
      marks = λ page. m.marks page ∙ ap (λ bs. beside (is_free before) bs page) (sym (take_front count out b l));
    }

-- all that was marked is given back
pub marks_back : (before now after : List Bool) (count : ℕ) (out : List Span) → IsMarkedIn before now count out → length after ≡ length now → ((page : ℕ) → is_free after page ≡ (is_free now page || list_any (has_page page) (take count out))) → IsSame before after
marks_back before now after count out m l s =
    record {
      size = l ∙ m.size;
      marks = λ page. s page ∙ ap (λ x. x || list_any (has_page page) (take count out)) (m.marks page) ∙ restored (is_free before) (length before) (take count out) page (taken_front (is_free before) (length before) count out m.each);
    }

-- what was marked isn't free
pub marks_given : (before now : List Bool) (count : ℕ) (out : List Span) → IsMarkedIn before now count out → AreGiven (is_free now) (length now) (take count out)
marks_given before now count out m =
    given_now before now (take count out) (record { size = m.size; marks = m.marks; each = taken_front (is_free before) (length before) count out m.each })

-- pages past the last aren't free
pub marked_there : (ms : List Bool) (start end cut page : ℕ) → cut ≡ min end (length ms) → is_marked (record { start = start; end = cut }) false (is_free ms page) page ≡ is_marked (record { start = start; end = end }) false (is_free ms page) page
marked_there ms start end cut page e =
    elim (cases_lt page (length ms)) [
      | inl l ↦
          let a : Span = record { start = start; end = cut } in
          let b : Span = record { start = start; end = end } in
          ap (λ t. if t then false else is_free ms page)
          (same_tests (has_page page a) (has_page page b)
          (λ t. let p = has_parts page a t in let u = p.1 in has_from page b p.0 (omega (arith, u, e)))
          (λ t. let p = has_parts page b t in let u = p.1 in has_from page a p.0 (omega (arith, u, e, l))))
      | inr l ↦
          let none : is_free ms page ≡ false = get_or_past ms page false l in
          let a : Span = record { start = start; end = cut } in
          let b : Span = record { start = start; end = end } in
          ap (λ x. is_marked a false x page) none ∙ held (has_page page a) ∙ sym (held (has_page page b)) ∙ sym (ap (λ x. is_marked b false x page) none)
    ]
  where
    same_tests : (p q : Bool) → (p ≡ true → q ≡ true) → (q ≡ true → p ≡ true) → p ≡ q
    same_tests true q f g = sym (f refl)
    same_tests false true f g = g refl
    same_tests false false f g = refl

    held : (t : Bool) → (if t then false else false) ≡ false
    held true = refl
    held false = refl

-- items from a number on
pub from_number : (v : ℕ) (out : List Span) → take (length out - v) (drop v out) ≡ drop v out
from_number v out = ap (λ n. take n (drop v out)) (sym (length-drop v out)) ∙ take-length (drop v out)

pub on_err : {T E P : Type 0} (r : Result T E) → P → OnErr r P
on_err (Ok x) p = tt
on_err (Err e) p = p

-- ---- the search

pub finding_start : (before : List Bool) (range : Span) (topdown : Bool) (pages : ℕ) (out : List Span) (s : Search) → out ≡ [] → s.left ≡ pages → s.order ≡ log2 pages → s.rests ≡ replicate 32 range → s.half ≡ None → s.marked ≡ 0 → IsFinding before range topdown pages before out s
finding_start before range topdown pages out s none el eo er eh em =
    subst (λ xs. IsFinding before range topdown pages before xs s) (sym none)
    (record {
      marks = record { size = refl; each = tt; most = omega (arith, em); marks = λ page. ap (λ n. beside (is_free before) (take n []) page) (sym em) };
      fuel = omega (arith, el);
      numbers = subst HasNumbers (sym eh) tt;
      known = λ l test h. known_all test (is_free before) (length before) range s.rests s.half er eh h;
      higher = λ test h k a b.
          let m = log2_from pages k (omega (arith, el, b)) in
          absurd (omega (arith, eo, a, m));
      same = λ test h.
          let z : pages - 0 ≡ pages = omega arith in
          ap (λ n. option_map (λ more. more) (scattered n test (length before) range topdown s.left)) z
          ∙ ap (λ n. option_map (λ more. more) (scattered pages test (length before) range topdown n)) el
          ∙ map_same (scattered pages test (length before) range topdown pages);
    })
  where
    map_same : (o : Option (List Span)) → option_map (λ more. more) o ≡ o
    map_same None = refl
    map_same (Some x) = refl

-- no order above what is left is looked at
pub finding_clamped : (before now : List Bool) (range : Span) (topdown : Bool) (pages : ℕ) (out : List Span) (s t : Search) → IsFinding before range topdown pages now out s → t.order ≡ min s.order (log2 s.left) → t.left ≡ s.left → t.rests ≡ s.rests → t.half ≡ s.half → t.marked ≡ s.marked
    → IsFinding before range topdown pages now out t
finding_clamped before now range topdown pages out s t f eo el er eh em =
    record {
      marks = subst (λ n. IsMarkedIn before now n out) (sym em) f.marks;
      fuel = let l = f.fuel in omega (arith, l, el);
      numbers = subst HasNumbers (sym eh) f.numbers;
      known = λ l test h. subst (λ r. IsKnown (beside test out) (is_free now) (length before) range r t.half) (sym er) (subst (λ o. IsKnown (beside test out) (is_free now) (length before) range s.rests o) (sym eh) (f.known (omega (arith, l, el)) test h));
      higher = λ test h i a b. f.higher test h i (let m = log2_from s.left i (omega (arith, b, el)) in omega (arith, eo, a, m)) (omega (arith, b, el));
      same = λ test h. ap (λ n. option_map (λ more. out ++ more) (scattered (pages - length out) (beside test out) (length before) range topdown n)) el ∙ f.same test h;
    }

module _ (before now : List Bool) (range : Span) (topdown : Bool) (pages : ℕ) (out : List Span) (s : Search) (f : IsFinding before range topdown pages now out s) where
  -- where no pages are left all blocks are found
  pub finding_done : s.left ≡ 0 → (test : ℕ → Bool) → Tells test before → scattered pages test (length before) range topdown pages ≡ Some out
  finding_done e test h =
      sym (f.same test h)
      ∙ ap (λ n. option_map (λ more. out ++ more) (scattered (pages - length out) (beside test out) (length before) range topdown n)) e
      ∙ ap (option_map (λ more. out ++ more)) (scattered_done (pages - length out) (beside test out) (length before) range topdown)
      ∙ ap Some (append-nil out)

  -- all that was found is marked
  pub finding_marked : (after : List Bool) (t : Search) → length after ≡ length now → t.left ≡ s.left → t.order ≡ s.order → t.marked ≡ length out → t.rests ≡ replicate 32 range → t.half ≡ None → ((page : ℕ) → is_free after page ≡ beside (is_free now) (drop s.marked out) page)
      → IsFinding before range topdown pages after out t
  finding_marked after t l el eo em er eh held =
      record {
        marks = marked_all before now after s.marked t.marked out f.marks l em held;
        fuel = let u = f.fuel in omega (arith, u, el);
        numbers = subst HasNumbers (sym eh) tt;
        known = λ some test h. known_marked before now after range s.marked out t.rests t.half test h f.marks er eh held;
        higher = λ test h i a b. f.higher test h i (omega (arith, a, eo)) (omega (arith, b, el));
        same = λ test h. ap (λ n. option_map (λ more. out ++ more) (scattered (pages - length out) (beside test out) (length before) range topdown n)) el ∙ f.same test h;
      }

  module _ (some : 0 < s.left) (none : (g : ℕ → Bool) → IsKnown g (is_free now) (length now) range s.rests s.half → (i w : ℕ) → IsPiece g (length now) range s.order w i → ⊥) where
    no_block_here : (test : ℕ → Bool) → Tells test before → HasNoBlock (beside test out) (length before) range s.order
    no_block_here test h =
        no_block (beside test out) (length before) range s.order
        (subst (λ n. (i w : ℕ) → IsPiece (beside test out) n range s.order w i → ⊥) f.marks.size (none (beside test out) (subst (λ n. IsKnown (beside test out) (is_free now) n range s.rests s.half) (sym f.marks.size) (f.known some test h))))

    -- no order is left
    pub finding_over : s.order ≡ 0 → (test : ℕ → Bool) → Tells test before → scattered pages test (length before) range topdown pages ≡ None
    finding_over e test h =
        sym (f.same test h)
        ∙ ap (option_map (λ more. out ++ more))
        (scattered_none (pages - length out) (beside test out) (length before) range topdown s.left some
        (first_nowhere (candidate (beside test out) (length before) range topdown) (log2 s.left + 1) (λ i l. no_candidate_in (beside test out) (length before) range topdown i
        (elim (cases_eq i s.order) [
          | inl d ↦ subst (HasNoBlock (beside test out) (length before) range) (sym d) (no_block_here test h)
          | inr d ↦ f.higher test h i (omega (arith, e, d)) (fits_left i s.left some l)
        ]))))

    -- a lesser order is next
    pub finding_lower : (t : Search) → t.order + 1 ≡ s.order → t.left ≡ s.left → t.rests ≡ s.rests → t.half ≡ s.half → t.marked ≡ s.marked → IsFinding before range topdown pages now out t
    finding_lower t eo el er eh em =
        record {
          marks = subst (λ n. IsMarkedIn before now n out) (sym em) f.marks;
          fuel = let l = f.fuel in omega (arith, el, l);
          numbers = subst HasNumbers (sym eh) f.numbers;
          known = λ l test h. subst (λ r. IsKnown (beside test out) (is_free now) (length before) range r t.half) (sym er) (subst (λ o. IsKnown (beside test out) (is_free now) (length before) range s.rests o) (sym eh) (f.known some test h));
          higher = λ test h i a b. elim (cases_eq i s.order) [
            | inl d ↦ subst (HasNoBlock (beside test out) (length before) range) (sym d) (no_block_here test h)
            | inr d ↦ f.higher test h i (omega (arith, eo, a, d)) (omega (arith, el, b))
          ];
          same = λ test h. ap (λ n. option_map (λ more. out ++ more) (scattered (pages - length out) (beside test out) (length before) range topdown n)) el ∙ f.same test h;
        }

  -- a block was found
  module _ (found : Found) (some : 0 < s.left) (fits : 2 ^ s.order ≤ s.left) (len : found.block.end ≡ found.block.start + 2 ^ s.order) (is : IsFound (is_free now) (length now) range topdown s.order s.rests s.half found) where
    abbrev pub b : Span
    b = found.block

    pub found_at : IsFound (is_free now) (length before) range topdown s.order s.rests s.half found
    found_at = subst (λ n. IsFound (is_free now) n range topdown s.order s.rests s.half found) f.marks.size is

    can : CanTake (beside (is_free before) out) (length before) b
    can = found_taken (beside (is_free before) out) (is_free now) (length before) range topdown s.order s.rests s.half found.origin b (f.known some (is_free before) (λ page u. refl)) found_at

    pub found_marks : IsMarkedIn before now s.marked (out ++ b ∷ [])
    found_marks = marked_more_one before now s.marked out b f.marks can

    pub finding_found : (after : List Bool) (t : Search) → t.left + (b.end - b.start) ≡ s.left → t.order ≡ s.order → HasNumbers t.half → IsMarkedIn before after t.marked (out ++ b ∷ [])
        → (0 < t.left → (test g : ℕ → Bool) → Tells test before → IsKnown g (is_free now) (length before) range s.rests s.half → beside test (out ++ b ∷ []) ≡ less g b → IsKnown (beside test (out ++ b ∷ [])) (is_free after) (length before) range t.rests t.half)
        → IsFinding before range topdown pages after (out ++ b ∷ []) t
    finding_found after t el eo numbers marks known =
        let p = some_pages s.order in
        let more = length_more out b in
        record {
          marks = marks;
          fuel = let u = f.fuel in omega (arith, u, more, el, len, p);
          numbers = numbers;
          known = λ still test h. known still test (beside test out) h (f.known some test h) (beside_more test out b);
          higher = λ test h k a u. subst (λ g. HasNoBlock g (length before) range k) (sym (beside_more test out b)) (no_block_less (beside test out) b (length before) range k (f.higher test h k (omega (arith, eo, a)) (omega (arith, el, u))));
          same = λ test h.
              let at = of_candidate (candidate (beside test out) (length before) range topdown s.order) b (found_choice (beside test out) (is_free now) (length before) range topdown s.order s.rests s.half found.origin b (f.known some test h) found_at) in
              let is_first = first_at (candidate (beside test out) (length before) range topdown) s.order (log2 s.left + 1) at.candidate (let m = log2_from s.left s.order fits in omega (arith, m))
              (λ i a u. no_candidate_in (beside test out) (length before) range topdown i (f.higher test h i a (fits_left i s.left some u))) at.is in
              let enough : 0 < pages - length out = let u = f.fuel in omega (arith, u, some) in
              let fuel : pages - length (out ++ b ∷ []) ≡ pages - length out - 1 = omega (arith, more) in
              let rest : t.left ≡ s.left - (b.end - b.start) = omega (arith, el) in
              let behind : ℕ → ℕ → Option (List Span) = λ n m. option_map (λ more. (out ++ b ∷ []) ++ more) (scattered n (beside test (out ++ b ∷ [])) (length before) range topdown m) in
              ap (λ n. behind n t.left) fuel
              ∙ ap (λ m. behind (pages - length out - 1) m) rest
              ∙ ap (λ (g : ℕ → Bool). option_map (λ more. (out ++ b ∷ []) ++ more) (scattered (pages - length out - 1) g (length before) range topdown (s.left - (b.end - b.start)))) (beside_more test out b)
              ∙ ap (λ (c : Span). option_map (λ more. (out ++ c ∷ []) ++ more) (scattered (pages - length out - 1) (less (beside test out) c) (length before) range topdown (s.left - (c.end - c.start)))) (sym at.block)
              ∙ scattered_more (pages - length out) (beside test out) (length before) range topdown s.left out at.candidate enough some is_first
              ∙ f.same test h;
        }

    pub finding_noted : (after : List Bool) (ys : List Span) (l : ℕ) (t : Search) → ys ≡ out ++ b ∷ [] → l + 2 ^ s.order ≡ s.left → t.left ≡ l → t.order ≡ s.order → HasNumbers t.half
        → ((first : List Bool) → IsMarkedIn first now s.marked ys → IsMarkedIn first after t.marked ys)
        → (0 < l → (first : List Bool) (test g : ℕ → Bool) → Tells test first → IsMarkedIn first now s.marked ys → IsFound (is_free now) (length first) range topdown s.order s.rests s.half found → IsKnown g (is_free now) (length first) range s.rests s.half → beside test ys ≡ less g b → IsKnown (beside test ys) (is_free after) (length first) range t.rests t.half)
        → IsFinding before range topdown pages after ys t
    finding_noted after ys l t e el et eo numbers =
        subst (λ ys. ((first : List Bool) → IsMarkedIn first now s.marked ys → IsMarkedIn first after t.marked ys)
        → (0 < l → (first : List Bool) (test g : ℕ → Bool) → Tells test first → IsMarkedIn first now s.marked ys → IsFound (is_free now) (length first) range topdown s.order s.rests s.half found → IsKnown g (is_free now) (length first) range s.rests s.half → beside test ys ≡ less g b → IsKnown (beside test ys) (is_free after) (length first) range t.rests t.half)
        → IsFinding before range topdown pages after ys t) (sym e)
        (λ marks known. finding_found after t (omega (arith, el, et, len)) eo numbers (marks before found_marks) (λ still test g h kn same. known (omega (arith, still, et)) before test g h found_marks found_at kn same))
