-- Spans that are put back one after the other. Each is the only one that begins where it does.
use Rattle.std.proofs.Common.{◌≡◌, ℕ, suc, ◌+◌, ◌<◌, ◌≤◌, ◌||◌, ◌==◌, Bool, true, false, List, [], ◌∷◌, ◌++◌, Some, slice_set, length, drop, get_or, drop-cons, find, filter, is_some, cond, not, refl, ap, sym, ◌∙◌, subst, arith, nat_eq, nat_lt, if◌then◌else◌}
use Rattle.std.proofs.Math.ListN.{drop_of_length-le}
use Rattle.std.proofs.lemmas.Bool.{and_left, eq-eqb, ne_eqb, lt-ltb, both_ways}
use Rattle.ttm_base.specs.declared.Span.{Span}
use Rattle.buddy_manager.specs.Held.{with_block, without, without_all, same_span, is_held, AllFrom, IsApart, AreHeld}
use Rattle.buddy_manager.proofs.HeldLaws.{apart_without}
use Rattle.hole_tree.specs.HoleSet.{with_hole}
use Rattle.range_manager.specs.Held.{with_span}
use Rattle.resource_core.proofs.TotalLaws.{same_is}

other_start : (n start : ℕ) (hs : List Span) → AllFrom n hs → start < n → filter (λ h. not (h.start == start)) hs ≡ hs
other_start n start [] a l = refl
other_start n start (x ∷ hs) a l =
    let low = a.0 in
    ap (λ t. cond (not t) (x ∷ filter (λ h. not (h.start == start)) hs) (filter (λ h. not (h.start == start)) hs)) (ne_eqb x.start start (λ e. omega (arith, e, low, l)))
    ∙ ap (λ r. x ∷ r) (other_start n start hs a.1 l)

same_rest : (n : ℕ) (b : Span) (hs : List Span) → AllFrom n hs → b.start < n → without b hs ≡ hs
same_rest n b [] a h = refl
same_rest n b (x ∷ hs) a h =
    let l = a.0 in
    let other : same_span b x ≡ false = and_left (nat_eq b.start x.start) (nat_eq b.end x.end) (ne_eqb b.start x.start (λ e. omega (arith, e, l, h))) in
    ap (λ t. if t then without b hs else x ∷ without b hs) other ∙ ap (λ r. x ∷ r) (same_rest n b hs a.1 h)

pub from_held : (n : ℕ) (b : Span) (hs : List Span) → AllFrom n hs → is_held b hs ≡ true → n ≤ b.start
from_held n b [] a h = absurd cc
from_held n b (x ∷ hs) a h = by (same_span b x) refl (from_held n b hs a.1) where
  by : (t : Bool) → same_span b x ≡ t → (is_held b hs ≡ true → n ≤ b.start) → n ≤ b.start
  by true e rest = let s = ap (λ (x : Span). x.start) (same_is b x e) in let l = a.0 in omega (arith, s, l)
  by false e rest = rest (sym (ap (λ t. t || is_held b hs) e) ∙ h)

-- the span is the only one that begins where it does
pub without_start : (b : Span) (hs : List Span) → IsApart hs → is_held b hs ≡ true → filter (λ h. not (h.start == b.start)) hs ≡ without b hs
without_start b [] a h = absurd cc
without_start b (x ∷ hs) a h = by (same_span b x) refl (without_start b hs a.2) where
  by : (t : Bool) → same_span b x ≡ t → (is_held b hs ≡ true → filter (λ h. not (h.start == b.start)) hs ≡ without b hs) → filter (λ h. not (h.start == b.start)) (x ∷ hs) ≡ without b (x ∷ hs)
  by true e rest =
      let s = ap (λ (x : Span). x.start) (same_is b x e) in
      let some = a.0 in
      let before : b.start < x.end = omega (arith, s, some) in
      ap (λ t. cond (not t) (x ∷ filter (λ h. not (h.start == b.start)) hs) (filter (λ h. not (h.start == b.start)) hs)) (eq-eqb x.start b.start (sym s))
      ∙ other_start x.end b.start hs a.1 before ∙ sym (same_rest x.end b hs a.1 before) ∙ sym (ap (λ t. if t then without b hs else x ∷ without b hs) e)
  by false e rest =
      let inside : is_held b hs ≡ true = sym (ap (λ t. t || is_held b hs) e) ∙ h in
      let some = a.0 in
      let low = from_held x.end b hs a.1 inside in
      ap (λ t. cond (not t) (x ∷ filter (λ h. not (h.start == b.start)) hs) (filter (λ h. not (h.start == b.start)) hs)) (ne_eqb x.start b.start (λ z. omega (arith, z, low, some)))
      ∙ ap (λ r. x ∷ r) (rest inside) ∙ sym (ap (λ t. if t then without b hs else x ∷ without b hs) e)

pub found_start : (b : Span) (hs : List Span) → is_held b hs ≡ true → is_some (find (λ h. h.start == b.start) hs) ≡ true
found_start b [] h = absurd cc
found_start b (x ∷ hs) h = by (nat_eq x.start b.start) refl (found_start b hs) where
  by : (t : Bool) → nat_eq x.start b.start ≡ t → (is_held b hs ≡ true → is_some (find (λ h. h.start == b.start) hs) ≡ true) → is_some (cond (nat_eq x.start b.start) (Some x) (find (λ h. h.start == b.start) hs)) ≡ true
  by true e rest = ap (λ t. is_some (cond t (Some x) (find (λ (h : Span). h.start == b.start) hs))) e
  by false e rest =
      let other : same_span b x ≡ false = and_left (nat_eq b.start x.start) (nat_eq b.end x.end) (ne_eqb b.start x.start (λ z. both_ways (nat_eq x.start b.start) e (eq-eqb x.start b.start (sym z)))) in
      ap (λ t. is_some (cond t (Some x) (find (λ (h : Span). h.start == b.start) hs))) e ∙ rest (sym (ap (λ t. t || is_held b hs) other) ∙ h)

-- one span more in its place
pub put_in : (b : Span) (hs : List Span) → with_hole b hs ≡ with_block b hs
put_in b [] = refl
put_in b (x ∷ hs) = ap (λ r. if nat_lt b.start x.start then b ∷ (x ∷ hs) else x ∷ r) (put_in b hs)

pub with_taken : (b : Span) (hs : List Span) → b.start < b.end → with_span b hs ≡ with_block b hs
with_taken b hs some = ap (λ t. if t then with_hole b hs else hs) (lt-ltb b.start b.end some) ∙ put_in b hs

-- the span stands in place of the one that kept the room
pub replaced : (xs ys now : List Span) (w s : Span) → xs ≡ [] → ys ≡ xs ++ w ∷ [] → now ≡ slice_set ys 0 s → now ≡ s ∷ []
replaced xs ys now w s e f g = g ∙ ap (λ zs. slice_set zs 0 s) (f ∙ ap (λ zs. zs ++ w ∷ []) e)

-- ---- spans that are put back one after the other

pub record IsLetting (old : List Span) (bs hs : List Span) : Type 0 where
  pub apart : IsApart hs
  pub held : AreHeld bs hs
  pub rest : without_all bs hs ≡ old

pub let_next : (old : List Span) (bs hs : List Span) (i : ℕ) (d : Span) (now : List Span) → IsLetting old (drop i bs) hs → i < length bs
    → now ≡ filter (λ h. not (h.start == (get_or bs i d).start)) hs → IsLetting old (drop (i + 1) bs) now
let_next old bs hs i d now l h e =
    let parts = drop-cons bs i d h in
    let k = subst (λ xs. IsLetting old xs hs) parts l in
    let w = e ∙ without_start (get_or bs i d) hs k.apart (k.held).0 in
    let next : IsLetting old (drop (suc i) bs) (without (get_or bs i d) hs) = record { apart = apart_without (get_or bs i d) hs k.apart; held = (k.held).1; rest = k.rest } in
    let j : suc i ≡ i + 1 = omega arith in
    subst (λ n. IsLetting old (drop n bs) now) j (subst (IsLetting old (drop (suc i) bs)) (sym w) next)

pub let_start : (old : List Span) (bs hs : List Span) (i : ℕ) (d : Span) → IsLetting old (drop i bs) hs → i < length bs → is_some (find (λ h. h.start == (get_or bs i d).start) hs) ≡ true
let_start old bs hs i d l h =
    let k = subst (λ xs. IsLetting old xs hs) (drop-cons bs i d h) l in
    found_start (get_or bs i d) hs (k.held).0

pub let_all : (old : List Span) (bs hs : List Span) (i : ℕ) → IsLetting old (drop i bs) hs → length bs ≤ i → hs ≡ old
let_all old bs hs i l h = (subst (λ xs. IsLetting old xs hs) (drop_of_length-le bs h) l).rest
