-- Blocks that are taken and given back leave the others as they were.
use Rattle.std.proofs.Common.{◌≡◌, ℕ, ◌+◌, ◌≤◌, ◌&&◌, ◌||◌, inl, inr, Bool, true, false, List, [], ◌∷◌, refl, ap, sym, ◌∙◌, subst, arith, not, nat_lt, if◌then◌else◌}
use Rattle.std.proofs.lemmas.Bool.{cases_lt, or_left, or_right, or_parts, lt-ltb, le-ltb, false_from_ne_true, both_ways}
use Rattle.ttm_base.specs.declared.Span.{Span}
use Rattle.ttm_base.specs.Holes.{has_page, is_free_beside}
use Rattle.buddy_manager.specs.Held.{with_block, with_blocks, same_span, is_held, without, without_all, AreHeld, IsApart}
use Rattle.buddy_manager.specs.Taking.{less, AreTaken}
use Rattle.buddy_manager.proofs.HeldLaws.{has_from, all_from_less, all_from_without, apart_with, held_not_free, same_parts, same_self, with_first}
use Rattle.buddy_manager.proofs.TakingLaws.{others_taken}
use Rattle.buddy_manager.proofs.ManagedLaws.{with_free}

-- ---- one block

without_absent : (b : Span) (hs : List Span) → is_held b hs ≡ false → without b hs ≡ hs
without_absent b [] n = refl
without_absent b (h ∷ hs) n =
    let p = or_parts (same_span b h) (is_held b hs) n in
    ap (λ t. if t then without b hs else h ∷ without b hs) p.0 ∙ ap (λ r. h ∷ r) (without_absent b hs p.1)

-- the block that was put in
without_own : (b : Span) (hs : List Span) → is_held b hs ≡ false → without b (with_block b hs) ≡ hs
without_own b [] n = ap (λ t. if t then [] else b ∷ []) (same_self b)
without_own b (h ∷ hs) n =
    let p = or_parts (same_span b h) (is_held b hs) n in
    two (nat_lt b.start h.start) p.0 (without_own b hs p.1)
  where
    two : (d : Bool) → same_span b h ≡ false → without b (with_block b hs) ≡ hs → without b (if d then b ∷ (h ∷ hs) else h ∷ with_block b hs) ≡ h ∷ hs
    two true s r = ap (λ t. if t then without b (h ∷ hs) else b ∷ without b (h ∷ hs)) (same_self b) ∙ without_absent b (h ∷ hs) n
    two false s r = ap (λ t. if t then without b (with_block b hs) else h ∷ without b (with_block b hs)) s ∙ ap (λ r. h ∷ r) r

-- another than the one that was put in
without_other : (b c : Span) (hs : List Span) → IsApart hs → same_span b c ≡ false → without b (with_block c hs) ≡ with_block c (without b hs)
without_other b c [] a n = ap (λ t. if t then [] else c ∷ []) n
without_other b c (h ∷ hs) a n =
    elim (cases_lt c.start h.start) [
      | inl l ↦
          let own = a.0 in
          ap (λ t. without b (if t then c ∷ (h ∷ hs) else h ∷ with_block c hs)) (lt-ltb c.start h.start l)
          ∙ ap (λ t. if t then without b (h ∷ hs) else c ∷ without b (h ∷ hs)) n
          ∙ sym (with_first c (without b (h ∷ hs)) (all_from_without (c.start + 1) b (h ∷ hs) (omega arith, all_from_less (c.start + 1) h.end hs (omega arith) a.1)))
      | inr l ↦ ap (λ t. without b (if t then c ∷ (h ∷ hs) else h ∷ with_block c hs)) (le-ltb c.start h.start l) ∙ two (same_span b h) l (without_other b c hs a.2 n)
    ]
  where
    two : (t : Bool) → h.start ≤ c.start → without b (with_block c hs) ≡ with_block c (without b hs)
        → (if t then without b (with_block c hs) else h ∷ without b (with_block c hs)) ≡ with_block c (if t then without b hs else h ∷ without b hs)
    two true l r = r
    two false l r = ap (λ r. h ∷ r) r ∙ sym (ap (λ t. if t then c ∷ (h ∷ without b hs) else h ∷ with_block c (without b hs)) (le-ltb c.start h.start l))

held_own : (b : Span) (hs : List Span) → is_held b (with_block b hs) ≡ true
held_own b [] = or_left (same_span b b) false (same_self b)
held_own b (h ∷ hs) = two (nat_lt b.start h.start) (held_own b hs) where
  two : (d : Bool) → is_held b (with_block b hs) ≡ true → is_held b (if d then b ∷ (h ∷ hs) else h ∷ with_block b hs) ≡ true
  two true r = or_left (same_span b b) (is_held b (h ∷ hs)) (same_self b)
  two false r = or_right (same_span b h) (is_held b (with_block b hs)) r

held_still : (b c : Span) (hs : List Span) → is_held b hs ≡ true → is_held b (with_block c hs) ≡ true
held_still b c [] h = absurd cc
held_still b c (x ∷ hs) h = two (nat_lt c.start x.start) (same_span b x) refl (λ e. held_still b c hs e) where
  two : (d s : Bool) → same_span b x ≡ s → (is_held b hs ≡ true → is_held b (with_block c hs) ≡ true) → is_held b (if d then c ∷ (x ∷ hs) else x ∷ with_block c hs) ≡ true
  two true s e r = or_right (same_span b c) (is_held b (x ∷ hs)) h
  two false true e r = or_left (same_span b x) (is_held b (with_block c hs)) e
  two false false e r = or_right (same_span b x) (is_held b (with_block c hs)) (r (sym (ap (λ t. t || is_held b hs) e) ∙ h))

held_still_all : (b : Span) (bs hs : List Span) → is_held b hs ≡ true → is_held b (with_blocks bs hs) ≡ true
held_still_all b [] hs h = h
held_still_all b (c ∷ bs) hs h = held_still_all b bs (with_block c hs) (held_still b c hs h)

-- ---- blocks that were taken one after the other

-- a block is free of those that are taken where one of its pages isn't free
without_before : (f : ℕ → Bool) (n : ℕ) (b : Span) (bs hs : List Span) → AreTaken f n bs → f b.start ≡ false → ((page : ℕ) → f page ≡ true → is_free_beside hs page ≡ true) → IsApart hs
    → without b (with_blocks bs hs) ≡ with_blocks bs (without b hs)
without_before f n b [] hs t x h a = refl
without_before f n b (c ∷ bs) hs t x h a =
    let k = t.0 in
    let some = k.some in
    let other : same_span b c ≡ false = false_from_ne_true (same_span b c) (λ s.
    let e = (same_parts b c s).0 in
    both_ways (f b.start) x (k.free b.start (has_from b.start c (omega arith) (omega arith)))) in
    without_before (less f c) n b bs (with_block c hs) t.1 (ap (λ t. t && not (has_page b.start c)) x) (λ page. with_free f hs c page (h page)) (apart_with c hs a some (λ page e. h page (k.free page e)))
    ∙ ap (with_blocks bs) (without_other b c hs a other)

-- the first of them is given back
without_first : (f : ℕ → Bool) (n : ℕ) (b : Span) (bs hs : List Span) → AreTaken f n (b ∷ bs) → ((page : ℕ) → f page ≡ true → is_free_beside hs page ≡ true) → IsApart hs
    → without b (with_blocks bs (with_block b hs)) ≡ with_blocks bs hs
without_first f n b bs hs t h a =
    let k = t.0 in
    let some = k.some in
    let first : has_page b.start b ≡ true = has_from b.start b (omega arith) some in
    let free = h b.start (k.free b.start first) in
    let absent : is_held b hs ≡ false = false_from_ne_true (is_held b hs) (λ e. both_ways (is_free_beside hs b.start) (held_not_free b hs b.start e first) free) in
    without_before (less f b) n b bs (with_block b hs) t.1 (ap (λ t. f b.start && not t) first ∙ and_false (f b.start)) (λ page. with_free f hs b page (h page)) (apart_with b hs a some (λ page e. h page (k.free page e)))
    ∙ ap (with_blocks bs) (without_own b hs absent)
  where
    and_false : (t : Bool) → (t && false) ≡ false
    and_false true = refl
    and_false false = refl

pub taken_held : (f : ℕ → Bool) (n : ℕ) (bs hs : List Span) → AreTaken f n bs → ((page : ℕ) → f page ≡ true → is_free_beside hs page ≡ true) → IsApart hs → AreHeld bs (with_blocks bs hs)
taken_held f n [] hs t h a = tt
taken_held f n (b ∷ bs) hs t h a =
    (held_still_all b bs (with_block b hs) (held_own b hs), subst (AreHeld bs) (sym (without_first f n b bs hs t h a)) (taken_held f n bs hs (others_taken f n b bs t) h a))

pub taken_back : (f : ℕ → Bool) (n : ℕ) (bs hs : List Span) → AreTaken f n bs → ((page : ℕ) → f page ≡ true → is_free_beside hs page ≡ true) → IsApart hs → without_all bs (with_blocks bs hs) ≡ hs
taken_back f n [] hs t h a = refl
taken_back f n (b ∷ bs) hs t h a = ap (without_all bs) (without_first f n b bs hs t h a) ∙ taken_back f n bs hs (others_taken f n b bs t) h a
