-- Blocks that are taken one after the other.
use Rattle.std.proofs.Common.{◌≡◌, ℕ, zero, suc, ◌+◌, ◌-◌, ◌^◌, ◌<◌, ◌≤◌, ◌&&◌, ◌||◌, inl, inr, Bool, true, false, List, [], ◌∷◌, ◌++◌, Option, Some, None, append_assoc, length, get_or, take, pow_pos, refl, ap, sym, ◌∙◌, subst, arith, not, option_map, if◌then◌else◌}
use Rattle.std.specs.List.{list_any}
use Rattle.std.proofs.Math.Bool.{or_assoc}
use Rattle.std.proofs.lemmas.Bool.{and_parts, or_cases, or_from, false_from_ne_true, both_ways}
use Rattle.ttm_base.specs.declared.Span.{Span}
use Rattle.ttm_base.specs.Holes.{has_page}
use Rattle.ttm_base.specs.BuddyChoice.{Candidate, candidate, first_candidate, log2, scattered, taken_after}
use Rattle.block_tree.specs.FreeSet.{is_free}
use Rattle.block_tree.specs.Masks.{is_marked}
use Rattle.buddy_manager.proofs.HeldLaws.{has_parts, has_from}
use Rattle.buddy_manager.specs.Taking.{less, beside, more, CanGive, AreGiven, CanTake, AreTaken, Tells, IsTakenBy, IsSame}

-- ---- one block more

pub beside_more : (f : ℕ → Bool) (bs : List Span) (b : Span) → beside f (bs ++ b ∷ []) ≡ less (beside f bs) b
beside_more f [] b = refl
beside_more f (x ∷ bs) b = beside_more (less f x) bs b

pub taken_more : (f : ℕ → Bool) (n : ℕ) (bs : List Span) (b : Span) → AreTaken f n bs → CanTake (beside f bs) n b → AreTaken f n (bs ++ b ∷ [])
taken_more f n [] b a c = (c, tt)
taken_more f n (x ∷ bs) b a c = (a.0, taken_more (less f x) n bs b a.1 c)

pub beside_same : (f g : ℕ → Bool) (bs : List Span) (page : ℕ) → f page ≡ g page → beside f bs page ≡ beside g bs page
beside_same f g [] page e = e
beside_same f g (b ∷ bs) page e = beside_same (less f b) (less g b) bs page (ap (λ t. t && not (has_page page b)) e)

pub can_take_same : (f g : ℕ → Bool) (n : ℕ) (b : Span) → ((page : ℕ) → f page ≡ true → g page ≡ true) → CanTake f n b → CanTake g n b
can_take_same f g n b h c = record { some = c.some; within = c.within; free = λ page t. h page (c.free page t) }

pub taken_same : (f g : ℕ → Bool) (n : ℕ) (bs : List Span) → ((page : ℕ) → f page ≡ true → g page ≡ true) → AreTaken f n bs → AreTaken g n bs
taken_same f g n [] h a = tt
taken_same f g n (b ∷ bs) h a = (can_take_same f g n b h a.0, taken_same (less f b) (less g b) n bs (λ page. two (f page) (g page) (has_page page b) (h page)) a.1) where
  two : (x y t : Bool) → (x ≡ true → y ≡ true) → (x && not t) ≡ true → (y && not t) ≡ true
  two true y t h e = ap (λ y. y && not t) (h refl) ∙ e
  two false y t h e = absurd cc

-- a page that was marked as held
pub marked_less : (f : ℕ → Bool) (b : Span) (page : ℕ) → is_marked b false (f page) page ≡ less f b page
marked_less f b page = two (has_page page b) (f page) where
  two : (t x : Bool) → (if t then false else x) ≡ (x && not t)
  two true true = refl
  two true false = refl
  two false true = refl
  two false false = refl

pub none_taken : (before : List Bool) → IsTakenBy before [] before
none_taken before = record { size = refl; marks = λ page. refl; each = tt }

pub took_more : (before now after : List Bool) (bs : List Span) (b : Span) → IsTakenBy before bs now → CanTake (is_free now) (length now) b → length after ≡ length now
    → ((page : ℕ) → is_free after page ≡ is_marked b false (is_free now page) page) → IsTakenBy before (bs ++ b ∷ []) after
took_more before now after bs b t c l m =
    record {
      size = l ∙ t.size;
      marks = λ page. m page ∙ marked_less (is_free now) b page ∙ ap (λ x. x && not (has_page page b)) (t.marks page) ∙ sym (ap (λ f. f page) (beside_more (is_free before) bs b));
      each = taken_more (is_free before) (length before) bs b t.each
          (subst (λ n. CanTake (beside (is_free before) bs) n b) t.size (can_take_same (is_free now) (beside (is_free before) bs) (length now) b (λ page e. sym (t.marks page) ∙ e) c));
    }

-- only pages below the size are told
pub taken_below : (f g : ℕ → Bool) (n : ℕ) (bs : List Span) → ((page : ℕ) → page < n → f page ≡ true → g page ≡ true) → AreTaken f n bs → AreTaken g n bs
taken_below f g n [] h a = tt
taken_below f g n (b ∷ bs) h a =
    let c = a.0 in
    let w = c.within in (
      record { some = c.some; within = c.within; free = λ page t. h page (let u = (has_parts page b t).1 in omega arith) (c.free page t) },
      taken_below (less f b) (less g b) n bs (λ page l. two (f page) (g page) (has_page page b) (h page l)) a.1,
    )
  where
    two : (x y t : Bool) → (x ≡ true → y ≡ true) → (x && not t) ≡ true → (y && not t) ≡ true
    two true y t h e = ap (λ y. y && not t) (h refl) ∙ e
    two false y t h e = absurd cc

-- the block whose turn it is
pub taken_at : (f : ℕ → Bool) (n : ℕ) (bs : List Span) (i : ℕ) (d : Span) → AreTaken f n bs → i < length bs → CanTake (beside f (take i bs)) n (get_or bs i d)
taken_at f n [] i d a h = absurd (omega arith)
taken_at f n (b ∷ bs) zero d a h = a.0
taken_at f n (b ∷ bs) (suc i) d a h = taken_at (less f b) n bs i d a.1 (omega arith)

-- a block that is free beside those that were taken is marked as free
pub can_take_now : (before now : List Bool) (bs : List Span) (b : Span) → IsTakenBy before bs now → CanTake (beside (is_free before) bs) (length before) b → CanTake (is_free now) (length now) b
can_take_now before now bs b t c =
    subst (λ n. CanTake (is_free now) n b) (sym t.size) (can_take_same (beside (is_free before) bs) (is_free now) (length before) b (λ page e. t.marks page ∙ e) c)

-- ---- blocks that are given back

pub restored : (f : ℕ → Bool) (n : ℕ) (bs : List Span) (page : ℕ) → AreTaken f n bs → (beside f bs page || list_any (has_page page) bs) ≡ f page
restored f n [] page a = or_false (f page) where
  or_false : (t : Bool) → (t || false) ≡ t
  or_false true = refl
  or_false false = refl
restored f n (b ∷ bs) page a = two (beside (less f b) bs page) (has_page page b) (list_any (has_page page) bs) (f page) (restored (less f b) n bs page a.1) ((a.0).free page) where
  two : (x h y f : Bool) → (x || y) ≡ (f && not h) → (h ≡ true → f ≡ true) → (x || (h || y)) ≡ f
  two true true y f e i = sym (i refl)
  two false true y f e i = sym (i refl)
  two true false y true e i = refl
  two true false y false e i = e
  two false false y true e i = e
  two false false y false e i = e

pub given_back : (before now after : List Bool) (bs : List Span) → IsTakenBy before bs now → length after ≡ length now
    → ((page : ℕ) → is_free after page ≡ (is_free now page || list_any (has_page page) bs)) → IsSame before after
given_back before now after bs t l m =
    record {
      size = l ∙ t.size;
      marks = λ page. m page ∙ ap (λ x. x || list_any (has_page page) bs) (t.marks page) ∙ restored (is_free before) (length before) bs page t.each;
    }

pub tells_beside : (test : ℕ → Bool) (before now : List Bool) (bs : List Span) → Tells test before → IsTakenBy before bs now → Tells (beside test bs) now
tells_beside test before now bs h t page l =
    let s = t.size in
    beside_same test (is_free before) bs page (h page (omega arith)) ∙ sym (t.marks page)

-- a page that was marked as free
pub marked_more : (b : Span) (x : Bool) (page : ℕ) → is_marked b true x page ≡ (x || has_page page b)
marked_more b x page = two (has_page page b) x where
  two : (t x : Bool) → (if t then true else x) ≡ (x || t)
  two true true = refl
  two true false = refl
  two false true = refl
  two false false = refl

-- ---- block after block

pub record IsOfCandidate (o : Option Candidate) (b : Span) : Type 0 where
  pub candidate : Candidate
  pub is : o ≡ Some candidate
  pub block : candidate.block ≡ b

pub of_candidate : (o : Option Candidate) (b : Span) → option_map (λ c. c.block) o ≡ Some b → IsOfCandidate o b
of_candidate None b h = absurd cc
of_candidate (Some c) b h = record { candidate = c; is = refl; block = let e : c.block ≡ b = cc in e }

pub no_candidate : (o : Option Candidate) → option_map (λ c. c.block) o ≡ None → o ≡ None
no_candidate None h = refl
no_candidate (Some c) h = absurd cc

-- an order without a candidate is passed over
pub first_on : (at : ℕ → Option Candidate) (k : ℕ) → 0 < k → at (k - 1) ≡ None → first_candidate at (k - 1) ≡ first_candidate at k
first_on at zero some h = absurd (omega arith)
first_on at (suc k) some h =
    let e : suc k - 1 ≡ k = omega arith in
    let none : at k ≡ None = rw e at h in
    ap (first_candidate at) e ∙ sym (ap (λ o. elim o [ Some c ↦ Some c | None ↦ first_candidate at k ]) none)

pub first_here : (at : ℕ → Option Candidate) (k : ℕ) (c : Candidate) → 0 < k → at (k - 1) ≡ Some c → first_candidate at k ≡ Some c
first_here at zero c some h = absurd (omega arith)
first_here at (suc k) c some h =
    let e : suc k - 1 ≡ k = omega arith in
    let found : at k ≡ Some c = rw e at h in
    ap (λ o. elim o [ Some c ↦ Some c | None ↦ first_candidate at k ]) found

pub scattered_none : (fuel : ℕ) (f : ℕ → Bool) (size : ℕ) (range : Span) (topdown : Bool) (left : ℕ) → 0 < left
    → first_candidate (candidate f size range topdown) (log2 left + 1) ≡ None → scattered fuel f size range topdown left ≡ None
scattered_none fuel f size range topdown zero some h = absurd (omega arith)
scattered_none zero f size range topdown (suc left) some h = refl
scattered_none (suc fuel) f size range topdown (suc left) some h =
    ap (λ o. elim o [ None ↦ None | Some c ↦ taken_after (scattered fuel (λ page. f page && not (has_page page c.block)) size range topdown (suc left - (c.block.end - c.block.start))) c.block ]) h

scattered_some : (fuel : ℕ) (f : ℕ → Bool) (size : ℕ) (range : Span) (topdown : Bool) (left : ℕ) (c : Candidate)
    → first_candidate (candidate f size range topdown) (log2 (suc left) + 1) ≡ Some c
    → scattered (suc fuel) f size range topdown (suc left) ≡ taken_after (scattered fuel (less f c.block) size range topdown (suc left - (c.block.end - c.block.start))) c.block
scattered_some fuel f size range topdown left c h =
    ap (λ o. elim o [ None ↦ None | Some c ↦ taken_after (scattered fuel (λ page. f page && not (has_page page c.block)) size range topdown (suc left - (c.block.end - c.block.start))) c.block ]) h

-- a block is put after those before it
one_block_more : (spans : List Span) (block : Span) (rest : Option (List Span))
    → option_map (λ more. (spans ++ block ∷ []) ++ more) rest ≡ option_map (λ more. spans ++ more) (taken_after rest block)
one_block_more spans block None = refl
one_block_more spans block (Some more) = ap Some (append_assoc spans (block ∷ []) more)

pub scattered_more : (fuel : ℕ) (f : ℕ → Bool) (size : ℕ) (range : Span) (topdown : Bool) (left : ℕ) (spans : List Span) (c : Candidate)
    → 0 < fuel → 0 < left → first_candidate (candidate f size range topdown) (log2 left + 1) ≡ Some c
    → option_map (λ more. (spans ++ c.block ∷ []) ++ more) (scattered (fuel - 1) (less f c.block) size range topdown (left - (c.block.end - c.block.start)))
    ≡ option_map (λ more. spans ++ more) (scattered fuel f size range topdown left)
scattered_more zero f size range topdown left spans c some more h = absurd (omega arith)
scattered_more (suc fuel) f size range topdown zero spans c some more h = absurd (omega arith)
scattered_more (suc fuel) f size range topdown (suc left) spans c some more h =
    let e : suc fuel - 1 ≡ fuel = omega arith in
    ap (λ n. option_map (λ more. (spans ++ c.block ∷ []) ++ more) (scattered n (less f c.block) size range topdown (suc left - (c.block.end - c.block.start)))) e
    ∙ one_block_more spans c.block (scattered fuel (less f c.block) size range topdown (suc left - (c.block.end - c.block.start)))
    ∙ sym (ap (option_map (λ more. spans ++ more)) (scattered_some fuel f size range topdown left c h))

-- the first pages of a block
pub can_take_first : (f : ℕ → Bool) (n : ℕ) (b : Span) (pages : ℕ) → b.end ≤ n → ((page : ℕ) → has_page page b ≡ true → f page ≡ true) → 1 ≤ pages → b.start + pages ≤ b.end
    → CanTake f n (record { start = b.start; end = b.start + pages })
can_take_first f n b pages w h s l =
    record {
      some = omega arith;
      within = omega arith;
      free = λ page t. let p = has_parts page (record { start = b.start; end = b.start + pages }) t in h page (has_from page b p.0 (let u = p.1 in omega arith));
    }

pub can_take_all : (f : ℕ → Bool) (n : ℕ) (b : Span) (k : ℕ) → b.end ≤ n → ((page : ℕ) → has_page page b ≡ true → f page ≡ true) → b.end ≡ b.start + 2 ^ k → CanTake f n b
can_take_all f n b k w h l = let s = pow_pos k in record { some = omega arith; within = w; free = h }

-- ---- no page is left

pub scattered_done : (fuel : ℕ) (f : ℕ → Bool) (size : ℕ) (range : Span) (topdown : Bool) → scattered fuel f size range topdown 0 ≡ Some []
scattered_done zero f size range topdown = refl
scattered_done (suc fuel) f size range topdown = refl

-- ---- spans that are given back together

pub any_more : (page : ℕ) (bs : List Span) (i : ℕ) (d : Span) → i < length bs → list_any (has_page page) (take (i + 1) bs) ≡ (list_any (has_page page) (take i bs) || has_page page (get_or bs i d))
any_more page [] i d h = absurd (omega arith)
any_more page (b ∷ bs) zero d h = or_false (has_page page b) where
  or_false : (t : Bool) → (t || false) ≡ t
  or_false true = refl
  or_false false = refl
any_more page (b ∷ bs) (suc i) d h =
    let e : suc i + 1 ≡ suc (i + 1) = omega arith in
    ap (λ n. list_any (has_page page) (take n (b ∷ bs))) e
    ∙ ap (λ t. has_page page b || t) (any_more page bs i d (omega arith))
    ∙ sym (or_assoc (has_page page b) (list_any (has_page page) (take i bs)) (has_page page (get_or bs i d)))

pub given_at : (f : ℕ → Bool) (n : ℕ) (bs : List Span) (i : ℕ) (d : Span) → AreGiven f n bs → i < length bs → CanGive (λ page. f page || list_any (has_page page) (take i bs)) n (get_or bs i d)
given_at f n [] i d a h = absurd (omega arith)
given_at f n (b ∷ bs) zero d a h = record { within = (a.0).within; held = λ page t. or_from (f page) false ((a.0).held page t) refl }
given_at f n (b ∷ bs) (suc i) d a h =
    let g = given_at (more f b) n bs i d a.1 (omega arith) in
    record { within = g.within; held = λ page t. sym (or_assoc (f page) (has_page page b) (list_any (has_page page) (take i bs))) ∙ g.held page t }

-- where fewer pages are free
pub given_less : (f g : ℕ → Bool) (n : ℕ) (bs : List Span) → ((page : ℕ) → g page ≡ true → f page ≡ true) → AreGiven f n bs → AreGiven g n bs
given_less f g n [] h a = tt
given_less f g n (b ∷ bs) h a = (
  record { within = (a.0).within; held = λ page t. false_from_ne_true (g page) (λ e. both_ways (f page) ((a.0).held page t) (h page e)) },
  given_less (more f b) (more g b) n bs (λ page. two (f page) (g page) (has_page page b) (h page)) a.1,
) where
  two : (x y t : Bool) → (y ≡ true → x ≡ true) → (y || t) ≡ true → (x || t) ≡ true
  two x true t h e = ap (λ x. x || t) (h refl)
  two true false t h e = refl
  two false false t h e = e

less_free : (f : ℕ → Bool) (b : Span) (page : ℕ) → less f b page ≡ true → f page ≡ true
less_free f b page e = (and_parts (f page) (not (has_page page b)) e).0

-- what is left was free before
left_free : (f : ℕ → Bool) (bs : List Span) (page : ℕ) → beside f bs page ≡ true → f page ≡ true
left_free f [] page e = e
left_free f (b ∷ bs) page e = less_free f b page (left_free (less f b) bs page e)

left_more : (f g : ℕ → Bool) (bs : List Span) (page : ℕ) → (f page ≡ true → g page ≡ true) → beside f bs page ≡ true → beside g bs page ≡ true
left_more f g [] page h e = h e
left_more f g (b ∷ bs) page h e = left_more (less f b) (less g b) bs page (two (f page) (g page) (has_page page b) h) e where
  two : (x y t : Bool) → (x ≡ true → y ≡ true) → (x && not t) ≡ true → (y && not t) ≡ true
  two true y t h e = ap (λ y. y && not t) (h refl) ∙ e
  two false y t h e = absurd cc

-- the blocks have none of the pages that weren't free when they were taken
others_left : (f g : ℕ → Bool) (n : ℕ) (bs : List Span) (page : ℕ) → AreTaken f n bs → f page ≡ false → g page ≡ true → beside g bs page ≡ true
others_left f g n [] page a h e = e
others_left f g n (b ∷ bs) page a h e =
    let out : has_page page b ≡ false = false_from_ne_true (has_page page b) (λ t. both_ways (f page) h ((a.0).free page t)) in
    others_left (less f b) (less g b) n bs page a.1 (ap (λ x. x && not (has_page page b)) h) (ap (λ x. x && not (has_page page b)) e ∙ ap not out)

pub others_taken : (f : ℕ → Bool) (n : ℕ) (b : Span) (bs : List Span) → AreTaken f n (b ∷ bs) → AreTaken f n bs
others_taken f n b bs t = taken_same (less f b) f n bs (less_free f b) t.1

-- blocks that were taken can be given back
given_taken : (f : ℕ → Bool) (n : ℕ) (bs : List Span) → AreTaken f n bs → AreGiven (beside f bs) n bs
given_taken f n [] a = tt
given_taken f n (b ∷ bs) a = (
  record { within = (a.0).within; held = λ page t. false_from_ne_true (beside (less f b) bs page) (λ e. both_ways (less f b page) (gone page t) (left_free (less f b) bs page e)) },
  given_less (beside f bs) (more (beside (less f b) bs) b) n bs (λ page e. elim (or_cases (beside (less f b) bs page) (has_page page b) e) [
    | inl l ↦ left_more (less f b) f bs page (less_free f b page) l
    | inr t ↦ others_left (less f b) f n bs page a.1 (gone page t) ((a.0).free page t)
  ])
      (given_taken f n bs (others_taken f n b bs a)),
) where
  gone : (page : ℕ) → has_page page b ≡ true → less f b page ≡ false
  gone page t = ap (λ x. f page && not x) t ∙ and_false (f page) where
    and_false : (t : Bool) → (t && false) ≡ false
    and_false true = refl
    and_false false = refl

pub given_now : (before now : List Bool) (bs : List Span) → IsTakenBy before bs now → AreGiven (is_free now) (length now) bs
given_now before now bs t =
    subst (λ n. AreGiven (is_free now) n bs) (sym t.size)
    (given_less (beside (is_free before) bs) (is_free now) (length before) bs (λ page e. sym (t.marks page) ∙ e) (given_taken (is_free before) (length before) bs t.each))

-- a page that was marked as held isn't free
pub marked_not : (b : Span) (x : Bool) (page : ℕ) → has_page page b ≡ true → is_marked b false x page ≡ false
marked_not b x page t = ap (λ (t : Bool). if t then false else x) t
