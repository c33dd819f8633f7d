-- Marks, ends and the count of held pages fit together.
use Rattle.std.proofs.Common.{◌≡◌, ℕ, ◌+◌, ◌-◌, ◌^◌, ◌<◌, ◌≤◌, ◌&&◌, ◌||◌, inl, inr, Bool, true, false, List, [], ◌∷◌, length, get_or, set, drop, replicate, refl, ap, sym, ◌∙◌, subst, arith, not, nat_lt, nat_le, get_or-set_same, set-set, drop-cons, add-one}
use Rattle.std.specs.List.{list_any}
use Rattle.std.proofs.lemmas.Grind.{common_steps}
use Rattle.std.proofs.lemmas.Bool.{cases_lt, and_right, or_from, lt-ltb, le-ltb, false_from_ne_true, both_ways}
use Rattle.ttm_base.specs.declared.Span.{Span}
use Rattle.ttm_base.specs.Holes.{has_page, is_free_beside}
use Rattle.ttm_base.specs.Reach.{length_of}
use Rattle.block_tree.specs.FreeSet.{is_free}
use Rattle.block_tree.specs.Masks.{is_marked}
use Rattle.buddy_manager.specs.Held.{held_from, with_block, with_blocks, without, without_all, is_held, pages_of, AllBy, AreHeld, IsApart}
use Rattle.buddy_manager.specs.Taking.{less, beside, more, AreGiven, CanTake, AreTaken, IsTakenBy, IsSame, IsManaged}
use Rattle.buddy_manager.proofs.HeldLaws.{has_parts, has_from, free_with, apart_with, all_by_with, pages_with, held_is_by, held_not_free, apart_without, all_by_without, free_without, pages_without, pages_within, held_set, held_clear, end_of_held, free_begins_none, none_held, is_held_at}
use Rattle.buddy_manager.proofs.TakingLaws.{taken_same, taken_below, marked_more}

-- ---- one block in the list of ends

own_span : (b : Span) → ◌≡◌ {A = Span} (record { start = 0 + b.start; end = b.end }) b
own_span b = ap (λ n. let s : Span = record { start = n; end = b.end } in s) (let e : 0 + b.start ≡ b.start = omega arith in e)

pub hold_one : (es : List ℕ) (n : ℕ) (b : Span) → n ≡ length es → CanTake (is_free_beside (held_from 0 es)) n b → held_from 0 (set es b.start b.end) ≡ with_block b (held_from 0 es)
hold_one es n b l c =
    let some = c.some in
    let within = c.within in
    let z : 0 + b.start ≡ b.start = omega arith in
    let free : is_free_beside (held_from 0 es) (0 + b.start) ≡ true = ap (is_free_beside (held_from 0 es)) z ∙ c.free b.start (has_from b.start b (omega arith) some) in
    let none = free_begins_none 0 es b.start (omega arith) free in
    held_set 0 es b.start b.end (omega arith) none (omega arith) ∙ ap (λ s. with_block s (held_from 0 es)) (own_span b)

pub record IsAt (es : List ℕ) (b : Span) : Type 0 where
  pub below : b.start < length es
  pub end : get_or es b.start 0 ≡ b.end
  pub some : b.start < b.end

pub held_at : (es : List ℕ) (b : Span) → is_held b (held_from 0 es) ≡ true → IsAt es b
held_at es b h =
    let e = end_of_held 0 es b h in
    let i : b.start - 0 ≡ b.start = omega arith in
    let below = e.below in
    record { below = omega arith; end = sym (ap (λ n. get_or es n 0) i) ∙ e.end; some = e.some }

pub let_go_one : (es : List ℕ) (b : Span) → is_held b (held_from 0 es) ≡ true → held_from 0 (set es b.start 0) ≡ without b (held_from 0 es)
let_go_one es b h =
    let a = held_at es b h in
    let below = a.below in
    let some = a.some in
    let end = a.end in
    held_clear 0 es b.start below (omega arith)
    ∙ ap (λ e. without (record { start = 0 + b.start; end = e }) (held_from 0 es)) end
    ∙ ap (λ s. without s (held_from 0 es)) (own_span b)

-- ---- blocks that were taken

pub record AreKept (n pages : ℕ) (hs : List Span) : Type 0 where
  pub apart : IsApart hs
  pub by : AllBy n hs
  pub count : pages_of hs ≡ pages

pub with_free : (f : ℕ → Bool) (hs : List Span) (b : Span) (page : ℕ) → (f page ≡ true → is_free_beside hs page ≡ true) → less f b page ≡ true → is_free_beside (with_block b hs) page ≡ true
with_free f hs b page h e = free_with b hs page ∙ two (f page) (is_free_beside hs page) (has_page page b) h e where
  two : (x y t : Bool) → (x ≡ true → y ≡ true) → (x && not t) ≡ true → (y && not t) ≡ true
  two true y t h e = ap (λ y. y && not t) (h refl) ∙ e
  two false y t h e = absurd cc

pub blocks_kept : (f : ℕ → Bool) (n : ℕ) (bs hs : List Span) → AreTaken f n bs → ((page : ℕ) → f page ≡ true → is_free_beside hs page ≡ true) → IsApart hs → AllBy n hs
    → AreKept n (pages_of bs + pages_of hs) (with_blocks bs hs)
blocks_kept f n [] hs t h a b = record { apart = a; by = b; count = let e : pages_of hs ≡ 0 + pages_of hs = omega arith in e }
blocks_kept f n (x ∷ bs) hs t h a b =
    let c = t.0 in
    let k = blocks_kept (less f x) n bs (with_block x hs) t.1 (λ page. with_free f hs x page (h page)) (apart_with x hs a c.some (λ page e. h page (c.free page e))) (all_by_with n x hs c.within b) in
    let p = pages_with x hs in
    let q = k.count in
    record { apart = k.apart; by = k.by; count = let e : pages_of (with_blocks bs (with_block x hs)) ≡ length_of x + pages_of bs + pages_of hs = omega (arith, p, q) in e }

pub blocks_free : (f : ℕ → Bool) (n : ℕ) (bs hs : List Span) (page : ℕ) → f page ≡ (nat_lt page n && is_free_beside hs page) → beside f bs page ≡ (nat_lt page n && is_free_beside (with_blocks bs hs) page)
blocks_free f n [] hs page h = h
blocks_free f n (b ∷ bs) hs page h =
    blocks_free (less f b) n bs (with_block b hs) page (ap (λ t. t && not (has_page page b)) h ∙ regroup (nat_lt page n) (is_free_beside hs page) (has_page page b) ∙ sym (ap (λ t. nat_lt page n && t) (free_with b hs page))) where
      regroup : (x y t : Bool) → ((x && y) && not t) ≡ (x && (y && not t))
      regroup true y t = refl
      regroup false y t = refl

free_tells : (marks : List Bool) (ends : List ℕ) (used : ℕ) (page : ℕ) → IsManaged marks ends used → is_free marks page ≡ true → is_free_beside (held_from 0 ends) page ≡ true
free_tells marks ends used page m h = two (nat_lt page (length marks)) (is_free_beside (held_from 0 ends) page) (sym (m.free page) ∙ h) where
  two : (x y : Bool) → (x && y) ≡ true → y ≡ true
  two true y e = e
  two false y e = absurd cc

pub can_hold : (marks after : List Bool) (ends : List ℕ) (used : ℕ) (out : List Span) → IsManaged marks ends used → IsTakenBy marks out after → AreTaken (is_free_beside (held_from 0 ends)) (length ends) out
can_hold marks after ends used out m t =
    subst (λ n. AreTaken (is_free_beside (held_from 0 ends)) n out) (sym m.size)
    (taken_same (is_free marks) (is_free_beside (held_from 0 ends)) (length marks) out (λ page. free_tells marks ends used page m) t.each)

-- blocks that are free beside those that are held are marked as free
pub can_take_all_of : (marks : List Bool) (ends : List ℕ) (used : ℕ) (out : List Span) → IsManaged marks ends used → AreTaken (is_free_beside (held_from 0 ends)) (length marks) out → AreTaken (is_free marks) (length marks) out
can_take_all_of marks ends used out m =
    taken_below (is_free_beside (held_from 0 ends)) (is_free marks) (length marks) out (λ page l e. m.free page ∙ and_right_of (lt-ltb page (length marks) l) e) where
      and_right_of : {x y : Bool} → x ≡ true → y ≡ true → (x && y) ≡ true
      and_right_of a b = cc

-- the other way round
pub can_hold_all : (marks : List Bool) (ends : List ℕ) (used : ℕ) (out : List Span) → IsManaged marks ends used → AreTaken (is_free marks) (length marks) out → AreTaken (is_free_beside (held_from 0 ends)) (length marks) out
can_hold_all marks ends used out m = taken_same (is_free marks) (is_free_beside (held_from 0 ends)) (length marks) out (λ page. free_tells marks ends used page m)

taken_kept : (marks after : List Bool) (ends : List ℕ) (used : ℕ) (out : List Span) → IsManaged marks ends used → IsTakenBy marks out after → AreKept (length marks) (pages_of out + used) (with_blocks out (held_from 0 ends))
taken_kept marks after ends used out m t =
    let k = blocks_kept (is_free marks) (length marks) out (held_from 0 ends) t.each (λ page. free_tells marks ends used page m) m.apart m.within in
    record { apart = k.apart; by = k.by; count = k.count ∙ ap (λ n. pages_of out + n) (sym m.count) }

pub managed_taken : (marks after : List Bool) (ends new : List ℕ) (used : ℕ) (out : List Span) → IsManaged marks ends used → IsTakenBy marks out after → length new ≡ length ends
    → held_from 0 new ≡ with_blocks out (held_from 0 ends) → IsManaged after new (used + pages_of out)
managed_taken marks after ends new used out m t l h =
    let k = taken_kept marks after ends used out m t in
    let small = m.small in
    let size = t.size in
    record {
      size = l ∙ m.size ∙ sym t.size;
      small = omega arith;
      free = λ page. t.marks page ∙ blocks_free (is_free marks) (length marks) out (held_from 0 ends) page (m.free page)
          ∙ ap (λ n. nat_lt page n && is_free_beside (with_blocks out (held_from 0 ends)) page) (sym t.size) ∙ sym (ap (λ hs. nat_lt page (length after) && is_free_beside hs page) h);
      apart = subst IsApart (sym h) k.apart;
      within = subst (AllBy (length after)) (sym h) (subst (λ n. AllBy n (with_blocks out (held_from 0 ends))) (sym t.size) k.by);
      count = (let c = k.count in let e : used + pages_of out ≡ pages_of (with_blocks out (held_from 0 ends)) = omega (arith, c) in e) ∙ sym (ap pages_of h);
    }

-- the pages that were taken are no more than there are
pub taken_small : (marks after : List Bool) (ends : List ℕ) (used : ℕ) (out : List Span) → IsManaged marks ends used → IsTakenBy marks out after → used + pages_of out < 2 ^ 31
taken_small marks after ends used out m t =
    let k = taken_kept marks after ends used out m t in
    let p = pages_within (length marks) (with_blocks out (held_from 0 ends)) k.apart k.by in
    let c = k.count in
    let s = m.small in
    omega (arith, p, c, s)

pub managed_same : (marks after : List Bool) (ends : List ℕ) (used : ℕ) → IsManaged marks ends used → IsSame marks after → IsManaged after ends used
managed_same marks after ends used m s =
    let small = m.small in
    let size = s.size in
    record {
      size = m.size ∙ sym s.size;
      small = omega arith;
      free = λ page. s.marks page ∙ m.free page ∙ ap (λ n. nat_lt page n && is_free_beside (held_from 0 ends) page) (sym s.size);
      apart = m.apart;
      within = subst (λ n. AllBy n (held_from 0 ends)) (sym s.size) m.within;
      count = m.count;
    }

-- ---- blocks that were given back

all_held_by : (n : ℕ) (bs hs : List Span) → AreHeld bs hs → AllBy n hs → AllBy n bs
all_held_by n [] hs h b = tt
all_held_by n (x ∷ bs) hs h b = (held_is_by n x hs b h.0, all_held_by n bs (without x hs) h.1 (all_by_without n x hs b))

-- their pages aren't free, and lie apart
pub held_given : (f : ℕ → Bool) (n : ℕ) (bs hs : List Span) → ((page : ℕ) → f page ≡ true → is_free_beside hs page ≡ true) → IsApart hs → AllBy n hs → AreHeld bs hs → AreGiven f n bs
held_given f n [] hs h a b r = tt
held_given f n (x ∷ bs) hs h a b r = (
  record { within = held_is_by n x hs b r.0; held = λ page t. false_from_ne_true (f page) (λ e. both_ways (is_free_beside hs page) (held_not_free x hs page r.0 t) (h page e)) },
  held_given (more f x) n bs (without x hs)
      (λ page e. free_without x hs page a r.0 ∙ two (f page) (is_free_beside hs page) (has_page page x) (h page) e)
      (apart_without x hs a) (all_by_without n x hs b) r.1,
) where
  two : (x y t : Bool) → (x ≡ true → y ≡ true) → (x || t) ≡ true → (y || t) ≡ true
  two true y t h e = ap (λ y. y || t) (h refl)
  two false true t h e = refl
  two false false t h e = e

pub can_give_all : (marks : List Bool) (ends : List ℕ) (used : ℕ) (bs : List Span) → IsManaged marks ends used → AreHeld bs (held_from 0 ends) → AreGiven (is_free marks) (length marks) bs
can_give_all marks ends used bs m = held_given (is_free marks) (length marks) bs (held_from 0 ends) (λ page. free_tells marks ends used page m) m.apart m.within

past_all : (n page : ℕ) (bs : List Span) → AllBy n bs → n ≤ page → list_any (has_page page) bs ≡ false
past_all n page [] a h = refl
past_all n page (b ∷ bs) a h =
    let l = a.0 in
    or_from (has_page page b) (list_any (has_page page) bs) (and_right (nat_le b.start page) (nat_lt page b.end) (le-ltb page b.end (omega arith))) (past_all n page bs a.1 h)

all_without_kept : (n : ℕ) (bs hs : List Span) → AreHeld bs hs → IsApart hs → AllBy n hs → (p : ℕ) → pages_of hs ≡ pages_of bs + p → AreKept n p (without_all bs hs)
all_without_kept n [] hs h a b p e = record { apart = a; by = b; count = let z : pages_of hs ≡ p = omega (arith, e) in z }
all_without_kept n (x ∷ bs) hs h a b p e =
    let w = pages_without x hs a h.0 in
    all_without_kept n bs (without x hs) h.1 (apart_without x hs a) (all_by_without n x hs b) p (let z : pages_of (without x hs) ≡ pages_of bs + p = omega (arith, w, e) in z)

pub held_pages : (bs hs : List Span) → AreHeld bs hs → IsApart hs → pages_of bs ≤ pages_of hs
held_pages [] hs h a = omega arith
held_pages (x ∷ bs) hs h a =
    let w = pages_without x hs a h.0 in
    let i = held_pages bs (without x hs) h.1 (apart_without x hs a) in
    let e : length_of x + pages_of bs ≤ pages_of hs = omega (arith, w, i) in e

all_without_free : (bs hs : List Span) (page : ℕ) → AreHeld bs hs → IsApart hs → is_free_beside (without_all bs hs) page ≡ (is_free_beside hs page || list_any (has_page page) bs)
all_without_free [] hs page h a = or_false (is_free_beside hs page) where
  or_false : (t : Bool) → t ≡ (t || false)
  or_false true = refl
  or_false false = refl
all_without_free (x ∷ bs) hs page h a =
    all_without_free bs (without x hs) page h.1 (apart_without x hs a) ∙ ap (λ t. t || list_any (has_page page) bs) (free_without x hs page a h.0)
    ∙ regroup (is_free_beside hs page) (has_page page x) (list_any (has_page page) bs) where
      regroup : (x y z : Bool) → ((x || y) || z) ≡ (x || (y || z))
      regroup true y z = refl
      regroup false y z = refl

pub managed_released : (marks after : List Bool) (ends new : List ℕ) (used : ℕ) (bs : List Span) → IsManaged marks ends used → AreHeld bs (held_from 0 ends) → length new ≡ length ends
    → held_from 0 new ≡ without_all bs (held_from 0 ends) → length after ≡ length marks
    → ((page : ℕ) → is_free after page ≡ (is_free marks page || list_any (has_page page) bs)) → IsManaged after new (used - pages_of bs)
managed_released marks after ends new used bs m r l h s f =
    let small = m.small in
    let most = held_pages bs (held_from 0 ends) r m.apart in
    let count = m.count in
    let k = all_without_kept (length marks) bs (held_from 0 ends) r m.apart m.within (used - pages_of bs) (omega (arith, most, count)) in
    record {
      size = l ∙ m.size ∙ sym s;
      small = omega arith;
      free = λ page. f page ∙ ap (λ t. t || list_any (has_page page) bs) (m.free page) ∙ whether page
          ∙ sym (ap (λ t. nat_lt page (length marks) && t) (all_without_free bs (held_from 0 ends) page r m.apart))
          ∙ ap (λ n. nat_lt page n && is_free_beside (without_all bs (held_from 0 ends)) page) (sym s) ∙ sym (ap (λ hs. nat_lt page (length after) && is_free_beside hs page) h);
      apart = subst IsApart (sym h) k.apart;
      within = subst (AllBy (length after)) (sym h) (subst (λ n. AllBy n (without_all bs (held_from 0 ends))) (sym s) k.by);
      count = sym k.count ∙ sym (ap pages_of h);
    }
  where
    two : (t x y : Bool) → (t ≡ false → y ≡ false) → ((t && x) || y) ≡ (t && (x || y))
    two true x y n = refl
    two false x y n = n refl

    whether : (page : ℕ) → ((nat_lt page (length marks) && is_free_beside (held_from 0 ends) page) || list_any (has_page page) bs) ≡ (nat_lt page (length marks) && (is_free_beside (held_from 0 ends) page || list_any (has_page page) bs))
    whether page = elim (cases_lt page (length marks)) [
      | inl l ↦
          let t = lt-ltb page (length marks) l in
          ap (λ u. (u && is_free_beside (held_from 0 ends) page) || list_any (has_page page) bs) t ∙ sym (ap (λ u. u && (is_free_beside (held_from 0 ends) page || list_any (has_page page) bs)) t)
      | inr l ↦ two (nat_lt page (length marks)) (is_free_beside (held_from 0 ends) page) (list_any (has_page page) bs) (λ e. past_all (length marks) page bs (all_held_by (length marks) bs (held_from 0 ends) r m.within) l)
    ]

-- one block
pub managed_gone : (marks after : List Bool) (ends : List ℕ) (used : ℕ) (b : Span) → IsManaged marks ends used → is_held b (held_from 0 ends) ≡ true → length after ≡ length marks
    → ((page : ℕ) → is_free after page ≡ is_marked b true (is_free marks page) page) → IsManaged after (set ends b.start 0) (used - (b.end - b.start))
managed_gone marks after ends used b m h s f =
    let len : length (set ends b.start 0) ≡ length ends = grind (arith, common_steps) in
    let n : pages_of (b ∷ []) ≡ b.end - b.start = omega arith in
    subst (λ k. IsManaged after (set ends b.start 0) (used - k)) n
    (managed_released marks after ends (set ends b.start 0) used (b ∷ []) m (h, tt) len (let_go_one ends b h) s
    (λ page. f page ∙ marked_more b (is_free marks page) page ∙ ap (λ t. is_free marks page || t) (or_none (has_page page b)))) where
      or_none : (t : Bool) → t ≡ (t || false)
      or_none true = refl
      or_none false = refl

-- ---- a block that was cut

pub trimmed_ends : (es : List ℕ) (b : Span) (keep : ℕ) → 1 ≤ keep → is_held b (held_from 0 es) ≡ true → held_from 0 (set es b.start (b.start + keep)) ≡ with_block (record { start = b.start; end = b.start + keep }) (without b (held_from 0 es))
trimmed_ends es b keep some h =
    let a = held_at es b h in
    let below = a.below in
    let twice = set-set es b.start 0 (b.start + keep) in
    let none = get_or-set_same es b.start 0 0 below in
    let len : length (set es b.start 0) ≡ length es = grind (arith, common_steps) in
    sym (ap (held_from 0) twice)
    ∙ held_set 0 (set es b.start 0) b.start (b.start + keep) (omega arith) (omega arith) (omega arith)
    ∙ ap (λ s. with_block s (held_from 0 (set es b.start 0))) (own_span (record { start = b.start; end = b.start + keep }))
    ∙ ap (with_block (record { start = b.start; end = b.start + keep })) (let_go_one es b h)

pub managed_trimmed : (marks after : List Bool) (ends new : List ℕ) (used : ℕ) (b : Span) (keep : ℕ) → IsManaged marks ends used → is_held b (held_from 0 ends) ≡ true → 1 ≤ keep → b.start + keep ≤ b.end → length new ≡ length ends
    → held_from 0 new ≡ with_block (record { start = b.start; end = b.start + keep }) (without b (held_from 0 ends)) → length after ≡ length marks
    → ((page : ℕ) → is_free after page ≡ is_marked (record { start = b.start + keep; end = b.end }) true (is_free marks page) page)
    → IsManaged after new (used - (b.end - (b.start + keep)))
managed_trimmed marks after ends new used b keep m h some most len held s f =
    let small = m.small in
    let hs : List Span = held_from 0 ends in
    let kept : Span = record { start = b.start; end = b.start + keep } in
    let apart = apart_without b hs m.apart in
    let by = all_by_without (length marks) b hs m.within in
    let last = held_is_by (length marks) b hs m.within h in
    let p = pages_without b hs m.apart h in
    let q = pages_with kept (without b hs) in
    let c = m.count in
    record {
      size = len ∙ m.size ∙ sym s;
      small = omega arith;
      free = λ page. f page ∙ marked_more (record { start = b.start + keep; end = b.end }) (is_free marks page) page ∙ ap (λ t. t || has_page page (record { start = b.start + keep; end = b.end })) (m.free page) ∙ whether page
          ∙ sym (ap (λ t. nat_lt page (length marks) && t) (free_with kept (without b hs) page ∙ ap (λ t. t && not (has_page page kept)) (free_without b hs page m.apart h)))
          ∙ ap (λ n. nat_lt page n && is_free_beside (with_block kept (without b hs)) page) (sym s) ∙ sym (ap (λ hs. nat_lt page (length after) && is_free_beside hs page) held);
      apart = subst IsApart (sym held) (apart_with kept (without b hs) apart (omega arith) (λ page t.
          let r = has_parts page kept t in
          let i : has_page page b ≡ true = has_from page b r.0 (let u = r.1 in omega arith) in
          free_without b hs page m.apart h ∙ ap (λ t. is_free_beside hs page || t) i ∙ or_true (is_free_beside hs page)));
      within = subst (AllBy (length after)) (sym held) (subst (λ n. AllBy n (with_block kept (without b hs))) (sym s) (all_by_with (length marks) kept (without b hs) (omega arith) by));
      count = (let e : used - (b.end - (b.start + keep)) ≡ pages_of (with_block kept (without b hs)) = omega (arith, p, q, c) in e) ∙ sym (ap pages_of held);
    }
  where
    or_true : (t : Bool) → (t || true) ≡ true
    or_true true = refl
    or_true false = refl

    -- in the size, free before, in the rest, in the block, in what is kept
    two : (t x r b k : Bool) → (b ≡ true → x ≡ false) → (b ≡ true → t ≡ true) → (r ≡ true → (b ≡ true) × (k ≡ false)) → (k ≡ true → b ≡ true) → (b ≡ true → r ≡ false → k ≡ true)
        → ((t && x) || r) ≡ (t && ((x || b) && not k))
    two t x true b k nx tb rb kb bk =
        let p = rb refl in
        let tt' = tb p.0 in
        ap (λ t. (t && x) || true) tt' ∙ or_true x ∙ sym (ap (λ t. t && ((x || b) && not k)) tt' ∙ ap (λ b. (x || b) && not k) p.0 ∙ ap (λ k. (x || true) && not k) p.1 ∙ ap (λ t. t && true) (or_true x))
    two t x false true k nx tb rb kb bk =
        let kt = bk refl refl in
        ap (λ x. (t && x) || false) (nx refl) ∙ ap (λ t. (t && false) || false) (tb refl) ∙ sym (ap (λ k. t && ((x || true) && not k)) kt ∙ ap (λ t. t && ((x || true) && false)) (tb refl) ∙ ap (λ x. x && false) (or_true x))
    two t x false false true nx tb rb kb bk = absurd (let e = kb refl in cc)
    two true true false false false nx tb rb kb bk = refl
    two true false false false false nx tb rb kb bk = refl
    two false x false false false nx tb rb kb bk = refl

    whether : (page : ℕ) → ((nat_lt page (length marks) && is_free_beside (held_from 0 ends) page) || has_page page (record { start = b.start + keep; end = b.end }))
        ≡ (nat_lt page (length marks) && ((is_free_beside (held_from 0 ends) page || has_page page b) && not (has_page page (record { start = b.start; end = b.start + keep }))))
    whether page =
        let last = held_is_by (length marks) b (held_from 0 ends) m.within h in
        two (nat_lt page (length marks)) (is_free_beside (held_from 0 ends) page) (has_page page (record { start = b.start + keep; end = b.end })) (has_page page b) (has_page page (record { start = b.start; end = b.start + keep }))
        (λ e. held_not_free b (held_from 0 ends) page h e)
        (λ e. let r = has_parts page b e in lt-ltb page (length marks) (let u = r.1 in omega arith))
        (λ e. let r = has_parts page (record { start = b.start + keep; end = b.end }) e in
        let l = r.0 in
        let u = r.1 in
        (has_from page b (omega arith) u, and_right (nat_le b.start page) (nat_lt page (b.start + keep)) (le-ltb page (b.start + keep) l)))
        (λ e. let r = has_parts page (record { start = b.start; end = b.start + keep }) e in let u = r.1 in has_from page b r.0 (omega arith))
        (λ e n. let r = has_parts page b e in
        let l = r.0 in
        let u = r.1 in
        elim (cases_lt page (b.start + keep)) [
          | inl x ↦ has_from page (record { start = b.start; end = b.start + keep }) l x
          | inr x ↦ absurd (let y = has_from page (record { start = b.start + keep; end = b.end }) x u in cc)
        ])

-- the pages that are cut off are among those used
pub trimmed_used : (marks : List Bool) (ends : List ℕ) (used : ℕ) (b : Span) (keep : ℕ) → IsManaged marks ends used → is_held b (held_from 0 ends) ≡ true → b.end - (b.start + keep) ≤ used
trimmed_used marks ends used b keep m h =
    let p = pages_without b (held_from 0 ends) m.apart h in
    let c = m.count in
    omega (arith, p, c)

pub held_not : (marks : List Bool) (ends : List ℕ) (used : ℕ) (b : Span) (page : ℕ) → IsManaged marks ends used → is_held b (held_from 0 ends) ≡ true → has_page page b ≡ true → is_free marks page ≡ false
held_not marks ends used b page m h t =
    false_from_ne_true (is_free marks page) (λ e. both_ways (is_free_beside (held_from 0 ends) page) (held_not_free b (held_from 0 ends) page h t) (free_tells marks ends used page m e))

pub held_within : (marks : List Bool) (ends : List ℕ) (used : ℕ) (b : Span) → IsManaged marks ends used → is_held b (held_from 0 ends) ≡ true → b.end ≤ length marks
held_within marks ends used b m h = held_is_by (length marks) b (held_from 0 ends) m.within h

pub released_used : (marks : List Bool) (ends : List ℕ) (used : ℕ) (bs : List Span) → IsManaged marks ends used → AreHeld bs (held_from 0 ends) → pages_of bs ≤ used
released_used marks ends used bs m h =
    let p = held_pages bs (held_from 0 ends) h m.apart in
    let c = m.count in
    omega (arith, p, c)

pub used_within : (marks : List Bool) (ends : List ℕ) (used : ℕ) → IsManaged marks ends used → used ≤ length marks
used_within marks ends used m =
    let p = pages_within (length marks) (held_from 0 ends) m.apart m.within in
    let c = m.count in
    omega (arith, p, c)

-- ---- a manager of which nothing is held

pub managed_new : (marks : List Bool) (pages : ℕ) → length marks ≡ pages → pages < 2 ^ 31 → ((page : ℕ) → is_free marks page ≡ nat_lt page pages) → IsManaged marks (replicate pages 0) 0
managed_new marks pages l small f =
    let none = none_held pages 0 in
    record {
      size = (let e : length (replicate pages 0) ≡ pages = grind (arith, common_steps) in e) ∙ sym l;
      small = omega arith;
      free = λ page. f page ∙ ap (nat_lt page) (sym l) ∙ and_true (nat_lt page (length marks)) ∙ sym (ap (λ hs. nat_lt page (length marks) && is_free_beside hs page) none);
      apart = subst IsApart (sym none) tt;
      within = subst (AllBy (length marks)) (sym none) tt;
      count = sym (ap pages_of none);
    }
  where
    and_true : (t : Bool) → t ≡ (t && true)
    and_true true = refl
    and_true false = refl

-- ---- one block after the other

pub take_first : (es : List ℕ) (b : Span) (bs : List Span) → AreTaken (is_free_beside (held_from 0 es)) (length es) (b ∷ bs)
    → (held_from 0 (set es b.start b.end) ≡ with_block b (held_from 0 es)) × AreTaken (is_free_beside (held_from 0 (set es b.start b.end))) (length (set es b.start b.end)) bs
take_first es b bs t =
    let one = hold_one es (length es) b refl t.0 in
    let len : length (set es b.start b.end) ≡ length es = grind (arith, common_steps) in (
      one,
      subst (λ hs. AreTaken (is_free_beside hs) (length (set es b.start b.end)) bs) (sym one)
          (subst (λ n. AreTaken (is_free_beside (with_block b (held_from 0 es))) n bs) (sym len)
          (taken_same (less (is_free_beside (held_from 0 es)) b) (is_free_beside (with_block b (held_from 0 es))) (length es) bs (λ page e. free_with b (held_from 0 es) page ∙ e) t.1)),
    )

pub next_of : (bs : List Span) (i : ℕ) → i < length bs → drop i bs ≡ get_or bs i (record { start = 0; end = 0 }) ∷ drop (i + 1) bs
next_of bs i h = rw (add-one, drop-cons bs i (record { start = 0; end = 0 })) refl

-- a block that ends where its start says is held, if it has a page
pub held_tested : (es : List ℕ) (b : Span) → b.start < length es → get_or es b.start 0 ≡ b.end → nat_lt b.start b.end ≡ is_held b (held_from 0 es)
held_tested es b below e =
    elim (cases_lt b.start b.end) [
      | inl l ↦ lt-ltb b.start b.end l ∙ sym (ap (λ s. is_held s (held_from 0 es)) (sym (own_span b)) ∙ is_held_at 0 es b.start b.end below e (omega arith))
      | inr l ↦ le-ltb b.start b.end l ∙ sym (false_from_ne_true (is_held b (held_from 0 es)) (λ t. let s = (held_at es b t).some in omega arith))
    ]
