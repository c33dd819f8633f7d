-- A walk along a list on which nothing stands twice.
use Rattle.std.proofs.Common.{◌≡◌, ℕ, suc, ◌<◌, Bool, true, false, List, [], ◌∷◌, Option, Some, None, refl, sym, ◌∙◌, ap, subst, arith, length}
use Rattle.std.specs.Prelude.{◌||◌, cond, filter, slice_get, if◌then◌else◌}
use Rattle.std.specs.List.{list_any, IsDistinct, AllByRecursion, All}
use Rattle.std.proofs.lemmas.Bool.Decides.{nat_tests}
use Rattle.std.proofs.lemmas.List.Sums.{length-filter}
use Rattle.ttm_base.specs.declared.BufId.{BufId}
use Rattle.lru_bulk.specs.Lists.{behind}
use Rattle.lru_bulk.specs.Members.{same_buffer, times_in}
use Rattle.room_state.specs.turns.Rests.{from_on, left_from}

same_is : (b c : BufId) → same_buffer b c ≡ true → b ≡ c
same_is b c h = let e : b.0 ≡ c.0 = grind (arith, nat_tests) in ap (λ (n : ℕ). let m : BufId = record { 0 = n } in m) e

same_self : (b : BufId) → same_buffer b b ≡ true
same_self b = grind (arith, nat_tests)

same_turned : (b c : BufId) → same_buffer b c ≡ false → same_buffer c b ≡ false
same_turned b c h = grind (arith, nat_tests)

stands_on : List BufId → BufId → Bool
stands_on l b = list_any (same_buffer b) l

from_self : (b : BufId) (l : List BufId) → from_on b (b ∷ l) ≡ b ∷ l
from_self b l = rw (same_self b) refl

-- from the first on it is the whole list
pub from_first : (l : List BufId) → left_from (slice_get l 0) l ≡ l
from_first [] = refl
from_first (c ∷ cs) = from_self c cs

apart : (c d : BufId) (l : List BufId) → AllByRecursion (λ y. same_buffer c y ≡ false) l → list_any (same_buffer d) l ≡ true → same_buffer d c ≡ false
apart c d [] a h = cc
apart c d (x ∷ l) a h = by (apart c d l a.1) (same_buffer d x) refl h
  where
    by : (list_any (same_buffer d) l ≡ true → same_buffer d c ≡ false) → (q : Bool) → same_buffer d x ≡ q → (q || list_any (same_buffer d) l) ≡ true → same_buffer d c ≡ false
    by ih true e g = let same : d ≡ x = same_is d x e in subst (λ y. same_buffer y c ≡ false) (sym same) (same_turned c x a.0)
    by ih false e g = ih g

-- past one that stands before it
past : (o : Option BufId) (c : BufId) (l : List BufId) → AllByRecursion (λ y. same_buffer c y ≡ false) l
    → ((d : BufId) → o ≡ Some d → list_any (same_buffer d) l ≡ true) → left_from o (c ∷ l) ≡ left_from o l
past None c l a h = refl
past (Some d) c l a h = rw (apart c d l a (h d refl)) refl

head_on : (d : BufId) (l : List BufId) → slice_get l 0 ≡ Some d → list_any (same_buffer d) l ≡ true
head_on d [] h = cc
head_on d (x ∷ l) h = let e : x ≡ d = cc in subst (λ y. list_any (same_buffer d) (y ∷ l) ≡ true) (sym e) (rw (same_self d) refl)

or_right : (a b : Bool) → b ≡ true → (a || b) ≡ true
or_right true b h = refl
or_right false b h = h

behind_on : (b d : BufId) (l : List BufId) → behind b l ≡ Some d → list_any (same_buffer d) l ≡ true
behind_on b d [] h = cc
behind_on b d (c ∷ l) h = by (behind_on b d l) (same_buffer b c) refl h
  where
    by : (behind b l ≡ Some d → list_any (same_buffer d) l ≡ true) → (q : Bool) → same_buffer b c ≡ q → (if q then slice_get l 0 else behind b l) ≡ Some d → list_any (same_buffer d) (c ∷ l) ≡ true
    by ih true p g = or_right (same_buffer d c) (list_any (same_buffer d) l) (head_on d l g)
    by ih false p g = or_right (same_buffer d c) (list_any (same_buffer d) l) (ih g)

-- the list from a buffer on is that buffer, and what is left from the one after it on
pub record Walked (b : BufId) (l : List BufId) : Type 0 where
  pub others : List BufId
  pub here : from_on b l ≡ b ∷ others
  pub next : left_from (behind b l) l ≡ others

pub walked : (b : BufId) (l : List BufId) → IsDistinct same_buffer l → list_any (same_buffer b) l ≡ true → Walked b l
unfolding IsDistinct
walked b [] d h = cc
walked b (c ∷ l) d h = by (walked b l d.1) (same_buffer b c) refl h
  where
    by : (list_any (same_buffer b) l ≡ true → Walked b l) → (q : Bool) → same_buffer b c ≡ q → (q || list_any (same_buffer b) l) ≡ true → Walked b (c ∷ l)
    by ih true p g =
        let e : c ≡ b = sym (same_is b c p) in
        record {
          others = l;
          here = rw p (ap (λ x. x ∷ l) e);
          next = rw p (past (slice_get l 0) c l d.0 (λ x q. head_on x l q) ∙ from_first l);
        }
    by ih false p g =
        let w = ih g in
        record { others = w.others; here = rw p w.here; next = rw p (past (behind b l) c l d.0 (λ x q. behind_on b x l q) ∙ w.next) }

-- ---- what holds of all that stand on a list

module _ (P : BufId → Type 0) where
  pub of_first : (d : BufId) (l : List BufId) → All P l → slice_get l 0 ≡ Some d → P d
  of_first d [] h e = cc
  of_first d (x ∷ l) h e = let same : x ≡ d = cc in subst P same (h 0 d (omega arith))

  of_rest : (x : BufId) (l : List BufId) → All P (x ∷ l) → All P l
  of_rest x l h = λ k d lt. h (suc k) d (omega arith)

  pub of_behind : (b d : BufId) (l : List BufId) → All P l → behind b l ≡ Some d → P d
  of_behind b d [] h e = cc
  of_behind b d (c ∷ l) h e = by (of_behind b d l (of_rest c l h)) (same_buffer b c) refl e
    where
      by : (behind b l ≡ Some d → P d) → (q : Bool) → same_buffer b c ≡ q → (if q then slice_get l 0 else behind b l) ≡ Some d → P d
      by ih true p g = of_first d l (of_rest c l h) g
      by ih false p g = ih g

-- what is found among those that stand there stands there
filtered_on : (b : BufId) (l : List BufId) → 0 < length (filter (same_buffer b) l) → list_any (same_buffer b) l ≡ true
filtered_on b [] h = absurd (omega (arith, h))
filtered_on b (c ∷ l) h = by (filtered_on b l) (same_buffer b c) h
  where
    by : (0 < length (filter (same_buffer b) l) → list_any (same_buffer b) l ≡ true) → (q : Bool) → 0 < length (cond q (c ∷ filter (same_buffer b) l) (filter (same_buffer b) l)) → (q || list_any (same_buffer b) l) ≡ true
    by ih true g = refl
    by ih false g = ih g

-- what stands there once stands there
pub counted_on : (b : BufId) (l : List BufId) → 0 < times_in b l → list_any (same_buffer b) l ≡ true
counted_on b l h = filtered_on b l (let e = length-filter (same_buffer b) l in omega (arith, e, h))
