-- The ends tell which block begins at a page, and blocks that are entered one after the other are let go again.
use Rattle.std.proofs.Common.{◌≡◌, ℕ, zero, suc, ◌+◌, ◌<◌, ◌≤◌, ◌&&◌, ◌==◌, inl, inr, Bool, true, false, List, [], ◌∷◌, ◌++◌, Option, Some, None, length, get_or, set, drop, refl, ap, sym, ◌∙◌, subst, arith, not, nat_lt, length-set, if◌then◌else◌}
use Rattle.std.specs.Prelude.{take}
use Rattle.std.specs.List.{find}
use Rattle.std.proofs.Math.ListN.{get_or-eq_default}
use Rattle.std.proofs.lemmas.Bool.{cases_eq, cases_lt, false_from_ne_true, eq-eqb, ne_eqb, lt-ltb, le-ltb}
use Rattle.std.proofs.lemmas.List.{take_all, drop_all}
use Rattle.ttm_base.specs.declared.Span.{Span}
use Rattle.ttm_base.specs.Holes.{is_free_beside}
use Rattle.buddy_manager.specs.Held.{held_from, with_block, with_blocks, without_all, same_span, is_held, all_held, pages_of, AllBy, AllFrom, AreHeld, IsApart}
use Rattle.buddy_manager.specs.Taking.{less, AreTaken, IsManaged}
use Rattle.buddy_manager.proofs.HeldLaws.{all_from_less}
use Rattle.buddy_manager.proofs.ManagedLaws.{take_first, next_of, held_at, held_tested}
use Rattle.buddy_manager.proofs.BackLaws.{taken_held, taken_back}

-- ---- blocks one after the other

-- one more of them
taken_one_more : (bs : List Span) (i : ℕ) → i < length bs → take (i + 1) bs ≡ take i bs ++ get_or bs i (record { start = 0; end = 0 }) ∷ []
taken_one_more [] i h = absurd (omega arith)
taken_one_more (b ∷ bs) zero h = refl
taken_one_more (b ∷ bs) (suc i) h = let e : suc i + 1 ≡ suc (i + 1) = omega arith in ap (λ n. take n (b ∷ bs)) e ∙ ap (λ l. b ∷ l) (taken_one_more bs i (omega arith))

-- the first of them
front_taken : (f : ℕ → Bool) (n i : ℕ) (bs : List Span) → AreTaken f n bs → AreTaken f n (take i bs)
front_taken f n zero bs t = tt
front_taken f n (suc i) [] t = tt
front_taken f n (suc i) (b ∷ bs) t = (t.0, front_taken (less f b) n i bs t.1)

with_last : (bs hs : List Span) (b : Span) → with_blocks (bs ++ b ∷ []) hs ≡ with_block b (with_blocks bs hs)
with_last [] hs b = refl
with_last (x ∷ bs) hs b = with_last bs (with_block x hs) b

-- the first blocks are entered
pub record IsHolding (olds ends : List ℕ) (bs : List Span) (i : ℕ) : Type 0 where
  pub len : length ends ≡ length olds
  pub taken : AreTaken (is_free_beside (held_from 0 ends)) (length ends) (drop i bs)
  pub held : held_from 0 ends ≡ with_blocks (take i bs) (held_from 0 olds)

pub holding_start : (olds : List ℕ) (bs : List Span) → AreTaken (is_free_beside (held_from 0 olds)) (length olds) bs → IsHolding olds olds bs 0
holding_start olds bs t = record { len = refl; taken = t; held = refl }

pub holding_next : (olds ends news : List ℕ) (bs : List Span) (i : ℕ) → i < length bs → IsHolding olds ends bs i
    → news ≡ set ends (get_or bs i (record { start = 0; end = 0 })).start (get_or bs i (record { start = 0; end = 0 })).end → IsHolding olds news bs (i + 1)
holding_next olds ends news bs i h s e =
    let b : Span = get_or bs i (record { start = 0; end = 0 }) in
    let t = take_first ends b (drop (i + 1) bs) (subst (AreTaken (is_free_beside (held_from 0 ends)) (length ends)) (next_of bs i h) s.taken) in
    subst (λ es. IsHolding olds es bs (i + 1)) (sym e)
    (record {
      len = length-set ends b.start b.end ∙ s.len;
      taken = t.1;
      held = t.0 ∙ ap (with_block b) s.held ∙ sym (with_last (take i bs) (held_from 0 olds) b) ∙ ap (λ l. with_blocks l (held_from 0 olds)) (sym (taken_one_more bs i h));
    })

pub holding_end : (olds ends : List ℕ) (bs : List Span) (i : ℕ) → length bs ≤ i → IsHolding olds ends bs i → held_from 0 ends ≡ with_blocks bs (held_from 0 olds)
holding_end olds ends bs i h s = s.held ∙ ap (λ l. with_blocks l (held_from 0 olds)) (take_all i bs h)

-- those that are entered can be let go, and then all is as it was
pub holding_held : (olds ends : List ℕ) (bs : List Span) (i : ℕ) → AreTaken (is_free_beside (held_from 0 olds)) (length olds) bs → IsApart (held_from 0 olds) → IsHolding olds ends bs i
    → AreHeld (take i bs) (held_from 0 ends)
holding_held olds ends bs i t a s =
    subst (AreHeld (take i bs)) (sym s.held)
    (taken_held (is_free_beside (held_from 0 olds)) (length olds) (take i bs) (held_from 0 olds) (front_taken (is_free_beside (held_from 0 olds)) (length olds) i bs t) (λ page e. e) a)

pub holding_back : (olds ends : List ℕ) (bs : List Span) (i : ℕ) → AreTaken (is_free_beside (held_from 0 olds)) (length olds) bs → IsApart (held_from 0 olds) → IsHolding olds ends bs i
    → without_all (take i bs) (held_from 0 ends) ≡ held_from 0 olds
holding_back olds ends bs i t a s =
    ap (without_all (take i bs)) s.held
    ∙ taken_back (is_free_beside (held_from 0 olds)) (length olds) (take i bs) (held_from 0 olds) (front_taken (is_free_beside (held_from 0 olds)) (length olds) i bs t) (λ page e. e) a

-- other ends that tell the same blocks
pub managed_ends : (marks : List Bool) (ends news : List ℕ) (used : ℕ) → IsManaged marks ends used → length news ≡ length ends → held_from 0 news ≡ held_from 0 ends → IsManaged marks news used
managed_ends marks ends news used m l h = record {
  size = l ∙ m.size;
  small = m.small;
  free = λ page. m.free page ∙ sym (ap (λ hs. nat_lt page (length marks) && is_free_beside hs page) h);
  apart = subst IsApart (sym h) m.apart;
  within = subst (λ hs. AllBy (length marks) hs) (sym h) m.within;
  count = m.count ∙ sym (ap pages_of h);
}

-- all are held if the first is, is none of the others, and these are
pub all_but_first : (b : Span) (bs hs : List Span) → is_held b bs ≡ false → is_held b hs ≡ true → all_held (b ∷ bs) hs ≡ all_held bs hs
all_but_first b bs hs n h = ap (λ t. t && (not (is_held b bs) && all_held bs hs)) h ∙ ap (λ t. not t && all_held bs hs) n

pub first_again : (b : Span) (bs hs : List Span) → is_held b bs ≡ true → all_held (b ∷ bs) hs ≡ false
first_again b bs hs n = ap (λ t. is_held b hs && (not t && all_held bs hs)) n ∙ and_false (is_held b hs) where
  and_false : (t : Bool) → (t && false) ≡ false
  and_false true = refl
  and_false false = refl

pub first_not : (b : Span) (bs hs : List Span) → is_held b hs ≡ false → all_held (b ∷ bs) hs ≡ false
first_not b bs hs h = ap (λ t. t && (not (is_held b bs) && all_held bs hs)) h

-- ---- the block that begins at a page

abbrev begins_at : ℕ → Span → Bool
begins_at start b = b.start == start

all_from_ends : (s : ℕ) (es : List ℕ) → AllFrom s (held_from s es)
all_from_ends s [] = tt
all_from_ends s (x ∷ es) = two (nat_lt s x) (all_from_less s (s + 1) (held_from (s + 1) es) (omega arith) (all_from_ends (s + 1) es)) where
  two : (t : Bool) → AllFrom s (held_from (s + 1) es) → AllFrom s (if t then record { start = s; end = x } ∷ held_from (s + 1) es else held_from (s + 1) es)
  two true r = (omega arith, r)
  two false r = r

find_none : (n start : ℕ) (hs : List Span) → AllFrom n hs → start < n → find (begins_at start) hs ≡ None
find_none n start [] a l = refl
find_none n start (x ∷ hs) a l = let f = a.0 in ap (λ t. if t then Some x else find (begins_at start) hs) (ne_eqb x.start start (λ e. omega arith)) ∙ find_none n start hs a.1 l

abbrev block_if : Bool → Span → Option Span
block_if t s = if t then Some s else None

find_at : (s : ℕ) (es : List ℕ) (i : ℕ) → i < length es → find (begins_at (s + i)) (held_from s es) ≡ block_if (nat_lt (s + i) (get_or es i 0)) (record { start = s + i; end = get_or es i 0 })
find_at s [] i l = absurd (omega arith)
find_at s (x ∷ es) zero l =
    let z : s + 0 ≡ s = omega arith in
    ap (λ n. find (begins_at n) (held_from s (x ∷ es))) z ∙ two (nat_lt s x) (find_none (s + 1) s (held_from (s + 1) es) (all_from_ends (s + 1) es) (omega arith)) ∙ sym (ap (λ n. block_if (nat_lt n x) (record { start = n; end = x })) z)
  where
    two : (t : Bool) → find (begins_at s) (held_from (s + 1) es) ≡ None → find (begins_at s) (if t then record { start = s; end = x } ∷ held_from (s + 1) es else held_from (s + 1) es) ≡ block_if t (record { start = s; end = x })
    two true r = ap (λ t. if t then Some (record { start = s; end = x }) else find (begins_at s) (held_from (s + 1) es)) (eq-eqb s s refl)
    two false r = r
find_at s (x ∷ es) (suc i) l =
    let z : s + suc i ≡ s + 1 + i = omega arith in
    ap (λ n. find (begins_at n) (held_from s (x ∷ es))) z ∙ two (nat_lt s x) (find_at (s + 1) es i (omega arith)) ∙ sym (ap (λ n. block_if (nat_lt n (get_or es i 0)) (record { start = n; end = get_or es i 0 })) z)
  where
    two : (t : Bool) → find (begins_at (s + 1 + i)) (held_from (s + 1) es) ≡ block_if (nat_lt (s + 1 + i) (get_or es i 0)) (record { start = s + 1 + i; end = get_or es i 0 })
        → find (begins_at (s + 1 + i)) (if t then record { start = s; end = x } ∷ held_from (s + 1) es else held_from (s + 1) es) ≡ block_if (nat_lt (s + 1 + i) (get_or es i 0)) (record { start = s + 1 + i; end = get_or es i 0 })
    two true r = ap (λ t. if t then Some (record { start = s; end = x }) else find (begins_at (s + 1 + i)) (held_from (s + 1) es)) (ne_eqb s (s + 1 + i) (λ e. omega arith)) ∙ r
    two false r = r

find_past : (s : ℕ) (es : List ℕ) (start : ℕ) → s + length es ≤ start → find (begins_at start) (held_from s es) ≡ None
find_past s [] start l = refl
find_past s (x ∷ es) start l = two (nat_lt s x) (find_past (s + 1) es start (omega arith)) where
  two : (t : Bool) → find (begins_at start) (held_from (s + 1) es) ≡ None → find (begins_at start) (if t then record { start = s; end = x } ∷ held_from (s + 1) es else held_from (s + 1) es) ≡ None
  two true r = ap (λ t. if t then Some (record { start = s; end = x }) else find (begins_at start) (held_from (s + 1) es)) (ne_eqb s start (λ e. omega arith)) ∙ r
  two false r = r

pub block_begins : (es : List ℕ) (start : ℕ) → start < get_or es start 0 → find (begins_at start) (held_from 0 es) ≡ Some (record { start = start; end = get_or es start 0 })
block_begins es start h =
    let z : 0 + start ≡ start = omega arith in
    elim (cases_lt start (length es)) [
      | inl l ↦
          ap (λ n. find (begins_at n) (held_from 0 es)) (sym z) ∙ find_at 0 es start l ∙ ap (λ n. block_if (nat_lt n (get_or es start 0)) (record { start = n; end = get_or es start 0 })) z
          ∙ ap (λ t. block_if t (record { start = start; end = get_or es start 0 })) (lt-ltb start (get_or es start 0) h)
      | inr l ↦ let e = get_or-eq_default es 0 {n = start} l in absurd (omega (arith, e, h))
    ]

pub none_begins : (es : List ℕ) (start : ℕ) → get_or es start 0 ≤ start → find (begins_at start) (held_from 0 es) ≡ None
none_begins es start h =
    let z : 0 + start ≡ start = omega arith in
    elim (cases_lt start (length es)) [
      | inl l ↦
          ap (λ n. find (begins_at n) (held_from 0 es)) (sym z) ∙ find_at 0 es start l ∙ ap (λ n. block_if (nat_lt n (get_or es start 0)) (record { start = n; end = get_or es start 0 })) z
          ∙ ap (λ t. block_if t (record { start = start; end = get_or es start 0 })) (le-ltb start (get_or es start 0) h)
      | inr l ↦ find_past 0 es start (omega arith)
    ]

-- a block is held where the ends tell its end
pub held_by_end : (es : List ℕ) (b : Span) (e : ℕ) → e ≡ get_or es b.start 0 → b.start < b.end → (e == b.end) ≡ is_held b (held_from 0 es)
held_by_end es b e is some =
    elim (cases_eq e b.end) [
      | inl same ↦
          let below : b.start < length es = elim (cases_lt b.start (length es)) [ inl l ↦ l | inr l ↦ (let z = get_or-eq_default es 0 {n = b.start} l in absurd (omega (arith, z, is, same, some))) ] in
          eq-eqb e b.end same ∙ sym (lt-ltb b.start b.end some) ∙ held_tested es b below (sym is ∙ same)
      | inr other ↦ ne_eqb e b.end other ∙ sym (false_from_ne_true (is_held b (held_from 0 es)) (λ t. other (is ∙ (held_at es b t).end)))
    ]

pub held_some : (es : List ℕ) (b : Span) → b.end ≤ b.start → is_held b (held_from 0 es) ≡ false
held_some es b h = false_from_ne_true (is_held b (held_from 0 es)) (λ t. let s = (held_at es b t).some in omega (arith, s, h))
