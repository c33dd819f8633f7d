-- What is found among mappings.
use Rattle.std.proofs.Common.{◌≡◌, ℕ, ◌-◌, ◌*◌, ◌/◌, ◌<◌, ◌≤◌, Bool, true, List, [], ◌∷◌, Option, Some, None, refl, ap, subst, arith, inl, inr, ◌⊎◌}
use Rattle.std.specs.Prelude.{find, option_map, nat_le, nat_lt}
use Rattle.std.proofs.lemmas.Bool.{cases_Bool, and_parts, leb-true, ltb-true}
use Rattle.ttm_base.specs.declared.Span.{Span}
use Rattle.ttm_base.specs.Holes.{has_page}
use Rattle.journal_model.specs.marks.Spaces.{Region}
use Rattle.journal_model.specs.marks.ByName.{Spot, spot_in, spot_at}
use Rattle.law_legal.specs.law_spaces.Rising.{IsPast}

pub cases_option : {A : Type 0} (o : Option A) → (o ≡ None) ⊎ ((x : A) × (o ≡ Some x))
cases_option None = inl refl
cases_option (Some x) = inr (x, refl)

-- what is told of an option that is some
pub one_alone : {A : Type 0} (x y : A) → Some x ≡ Some y → x ≡ y
one_alone x y e = cc

pub none_alone : {A : Type 0} (x : A) → ◌≡◌ {A = Option A} None (Some x) → ⊥
none_alone x e = cc

-- what is found stands past all that the list stands past
pub found_past : (test : Region → Bool) (low : ℕ) (rs : List Region) (r : Region) → IsPast low rs → find test rs ≡ Some r → low ≤ r.span.start
found_past test low [] r p h = absurd (none_alone r h)
found_past test low (x ∷ rs) r p h = elim (cases_Bool (test x)) [
  | inl t ↦ let h' = rw t at h in let same : x ≡ r = one_alone x r h' in subst (λ (y : Region). low ≤ y.span.start) same p.0
  | inr f ↦ found_past test low rs r p.1 (rw f at h)
]

-- it passes the test
pub found_passes : (test : Region → Bool) (rs : List Region) (r : Region) → find test rs ≡ Some r → test r ≡ true
found_passes test [] r h = absurd (none_alone r h)
found_passes test (x ∷ rs) r h = elim (cases_Bool (test x)) [
  | inl t ↦ let h' = rw t at h in let same : x ≡ r = one_alone x r h' in subst (λ (y : Region). test y ≡ true) same t
  | inr f ↦ found_passes test rs r (rw f at h)
]

pub has_parts : (page : ℕ) (s : Span) → has_page page s ≡ true → (s.start ≤ page) × (page < s.end)
has_parts page s e =
    let parts = and_parts (nat_le s.start page) (nat_lt page s.end) e in
    (leb-true s.start page parts.0, ltb-true page s.end parts.1)

room_in : (rs : List Region) (addr : ℕ) (o : Option Region) (s : Spot) → find (λ x. has_page (addr / 4096) x.span) rs ≡ o → option_map (spot_in addr) o ≡ Some s → 1 ≤ s.room
room_in rs addr None s e i = absurd (none_alone s i)
room_in rs addr (Some r) s e i =
    let spot : spot_in addr r ≡ s = one_alone (spot_in addr r) s i in
    let same : 4096 * r.span.end - addr ≡ s.room = ap (λ (t : Spot). t.room) spot in
    let parts = has_parts (addr / 4096) r.span (found_passes (λ x. has_page (addr / 4096) x.span) rs r e) in
    let high = parts.1 in
    omega (arith, high, same)

-- a spot has a byte at least
pub spot_has_room : (rs : List Region) (addr : ℕ) (s : Spot) → spot_at rs addr ≡ Some s → 1 ≤ s.room
spot_has_room rs addr s e = room_in rs addr (find (λ x. has_page (addr / 4096) x.span) rs) s refl e
