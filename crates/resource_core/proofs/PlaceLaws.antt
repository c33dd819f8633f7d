-- Where holdings stand.
use Rattle.std.proofs.Common.{◌≡◌, ℕ, zero, suc, ◌+◌, ◌-◌, ◌<◌, ◌≤◌, ◌||◌, Bool, true, false, List, [], ◌∷◌, ◌++◌, Option, Some, None, length, is_some, refl, ap, sym, ◌∙◌, subst, arith, if◌then◌else◌, take, set, get_or, swap_remove}
use Rattle.std.proofs.lemmas.Bool.{or_parts, both_ways}
use Rattle.ttm_base.specs.declared.Span.{Span}
use Rattle.ttm_base.specs.declared.Owner.{Owner}
use Rattle.ttm_base.specs.ListWords.{last_or}
use Rattle.resource_core.specs.declared.holding.Holding.{Holding}
use Rattle.resource_core.specs.Places.{stands_from}
use Rattle.resource_core.specs.Resources.{same_owner, holds, renamed, before_last, last_first, without_owner, kept_by, all_spans, AreDistinct}
use Rattle.resource_core.specs.Tied.{total}
use Rattle.resource_core.proofs.TotalLaws.{total-append}
use Rattle.resource_core.proofs.OwnerLaws.{owner_is, same_self, other_way, same_along, none_behind, renamed_none, holds_turned, holds_without}

abbrev at_first : ℕ → Option ℕ → Bool → Option ℕ
at_first n rest t = if t then Some n else rest

-- ---- the place of the first holding of an owner

module _ (o : Owner) where
  abbrev pub IsFirst : List Holding → ℕ → Type 0
  IsFirst [] i = ⊥
  IsFirst (x ∷ hs) zero = same_owner o x.owner ≡ true
  IsFirst (x ∷ hs) (suc i) = (same_owner o x.owner ≡ false) × IsFirst hs i

  pub record IsAt (n : ℕ) (hs : List Holding) (i : ℕ) : Type 0 where
    pub place : ℕ
    pub is : i ≡ n + place
    pub first : IsFirst hs place

  pub stands_first : (n : ℕ) (hs : List Holding) (i : ℕ) → stands_from n o hs ≡ Some i → IsAt n hs i
  stands_first n [] i h = absurd cc
  stands_first n (x ∷ hs) i h = by (same_owner o x.owner) refl (stands_first (n + 1) hs i) where
    by : (t : Bool) → same_owner o x.owner ≡ t → (stands_from (n + 1) o hs ≡ Some i → IsAt (n + 1) hs i) → IsAt n (x ∷ hs) i
    by true e rest =
        let z : Some n ≡ Some i = sym (ap (at_first n (stands_from (n + 1) o hs)) e) ∙ h in
        let s : n ≡ i = cc in
        record { place = 0; is = omega (arith, s); first = e }
    by false e rest =
        let r = rest (sym (ap (at_first n (stands_from (n + 1) o hs)) e) ∙ h) in
        let s = r.is in
        record { place = suc r.place; is = omega (arith, s); first = (e, r.first) }

  pub stands_at_first : (hs : List Holding) (i : ℕ) → stands_from 0 o hs ≡ Some i → IsFirst hs i
  stands_at_first hs i h = let r = stands_first 0 hs i h in let s = r.is in let e : r.place ≡ i = omega (arith, s) in subst (IsFirst hs) e r.first

  pub stands_some : (n : ℕ) (hs : List Holding) → is_some (stands_from n o hs) ≡ holds o hs
  stands_some n [] = refl
  stands_some n (x ∷ hs) = by (same_owner o x.owner) (stands_some (n + 1) hs) where
    by : (t : Bool) → is_some (stands_from (n + 1) o hs) ≡ holds o hs → is_some (at_first n (stands_from (n + 1) o hs) t) ≡ (t || holds o hs)
    by true rest = refl
    by false rest = rest

  pub stands_none : (n : ℕ) (hs : List Holding) → holds o hs ≡ false → stands_from n o hs ≡ None
  stands_none n [] h = refl
  stands_none n (x ∷ hs) h =
      let p = or_parts (same_owner o x.owner) (holds o hs) h in
      ap (at_first n (stands_from (n + 1) o hs)) p.0 ∙ stands_none (n + 1) hs p.1

  pub below : (hs : List Holding) (i : ℕ) → IsFirst hs i → i < length hs
  below [] i f = absurd f
  below (x ∷ hs) zero f = omega arith
  below (x ∷ hs) (suc i) f = let r = below hs i f.1 in omega (arith, r)

  pub own_at : (hs : List Holding) (i : ℕ) (d : Holding) → IsFirst hs i → same_owner o (get_or hs i d).owner ≡ true
  own_at [] i d f = absurd f
  own_at (x ∷ hs) zero d f = f
  own_at (x ∷ hs) (suc i) d f = own_at hs i d f.1

  pub kept_at : (hs : List Holding) (i : ℕ) (d : Holding) → IsFirst hs i → kept_by o hs ≡ Some (get_or hs i d).spans
  kept_at [] i d f = absurd f
  kept_at (x ∷ hs) zero d f = ap (λ t. if t then Some x.spans else kept_by o hs) f
  kept_at (x ∷ hs) (suc i) d f = ap (λ t. if t then Some x.spans else kept_by o hs) f.0 ∙ kept_at hs i d f.1

  pub kept_none : (n : ℕ) (hs : List Holding) → stands_from n o hs ≡ None → kept_by o hs ≡ None
  kept_none n [] h = refl
  kept_none n (x ∷ hs) h = by (same_owner o x.owner) refl (kept_none (n + 1) hs) where
    by : (t : Bool) → same_owner o x.owner ≡ t → (stands_from (n + 1) o hs ≡ None → kept_by o hs ≡ None) → kept_by o (x ∷ hs) ≡ None
    by true e rest = absurd (let z : Some n ≡ None = sym (ap (at_first n (stands_from (n + 1) o hs)) e) ∙ h in cc)
    by false e rest = ap (λ t. if t then Some x.spans else kept_by o hs) e ∙ rest (sym (ap (at_first n (stands_from (n + 1) o hs)) e) ∙ h)

  -- ---- a holding that is another's

  pub rename_first : (to : Owner) (hs : List Holding) (i : ℕ) (d : Holding) → IsFirst hs i → AreDistinct hs
      → set hs i (record { owner = to; spans = (get_or hs i d).spans }) ≡ renamed o to hs
  rename_first to [] i d f a = absurd f
  rename_first to (y ∷ hs) zero d f a =
      let w : Owner → Holding → Holding = λ n h. record { owner = n; spans = h.spans } in
      ap (λ r. w to y ∷ r) (sym (renamed_none o to hs (none_behind o y hs f a.0)))
      ∙ sym (ap (λ t. (if t then w to y else y) ∷ renamed o to hs) f)
  rename_first to (y ∷ hs) (suc i) d f a =
      let w : Owner → Holding → Holding = λ n h. record { owner = n; spans = h.spans } in
      ap (λ r. y ∷ r) (rename_first to hs i d f.1 a.1) ∙ sym (ap (λ t. (if t then w to y else y) ∷ renamed o to hs) f.0)

  -- ---- a holding that leaves its place to the last

  last_is : (h : Holding) (hs : List Holding) (d : Holding) → get_or (h ∷ hs) (length hs) d ≡ last_or h hs
  last_is h [] d = refl
  last_is h (x ∷ hs) d = last_is x hs d

  front_is : (h : Holding) (hs : List Holding) → take (length hs) (h ∷ hs) ≡ before_last h hs
  front_is h [] = refl
  front_is h (x ∷ hs) = ap (λ r. h ∷ r) (front_is x hs)

  fill_first : (x : Holding) (hs : List Holding) (d : Holding) → take (length hs) (get_or (x ∷ hs) (length hs) d ∷ hs) ≡ last_first hs
  fill_first x [] d = refl
  fill_first x (h ∷ hs) d = ap (λ y. y ∷ take (length hs) (h ∷ hs)) (last_is h hs d) ∙ ap (λ r. last_or h hs ∷ r) (front_is h hs)

  fill : (hs : List Holding) (x : Holding) (i : ℕ) (d : Holding) → IsFirst (x ∷ hs) i → take (length hs) (set (x ∷ hs) i (get_or (x ∷ hs) (length hs) d)) ≡ without_owner o (x ∷ hs)
  fill hs x zero d f = fill_first x hs d ∙ sym (ap (λ t. if t then last_first hs else x ∷ without_owner o hs) f)
  fill [] x (suc i) d f = absurd (f.1)
  fill (h ∷ hs) x (suc i) d f = ap (λ r. x ∷ r) (fill hs h i d f.1) ∙ sym (ap (λ t. if t then last_first (h ∷ hs) else x ∷ without_owner o (h ∷ hs)) f.0)

  pub removed : (hs : List Holding) (i : ℕ) (d : Holding) → IsFirst hs i → swap_remove hs i d ≡ without_owner o hs
  removed [] i d f = absurd f
  removed (x ∷ hs) i d f =
      let e : suc (length hs) - 1 ≡ length hs = omega arith in
      ap (λ n. take n (set (x ∷ hs) i (get_or (x ∷ hs) n d))) e ∙ fill hs x i d f

  pub length_without : (hs : List Holding) (i : ℕ) → IsFirst hs i → length (without_owner o hs) + 1 ≡ length hs
  length_without [] i f = absurd f
  length_without (x ∷ hs) zero f =
      let e = ap (λ t. length (if t then last_first hs else x ∷ without_owner o hs)) f in
      let l = closed hs in
      omega (arith, e, l)
    where
      front : (h : Holding) (hs : List Holding) → length (before_last h hs) ≡ length hs
      front h [] = refl
      front h (x ∷ hs) = ap suc (front x hs)

      closed : (hs : List Holding) → length (last_first hs) ≡ length hs
      closed [] = refl
      closed (h ∷ hs) = ap suc (front h hs)
  length_without (x ∷ hs) (suc i) f =
      let e = ap (λ t. length (if t then last_first hs else x ∷ without_owner o hs)) f.0 in
      let r = length_without hs i f.1 in
      omega (arith, e, r)

-- ---- the places after a change

pub stands_added : (n : ℕ) (p : Owner) (hs : List Holding) (x : Holding) → holds x.owner hs ≡ false
    → stands_from n p (hs ++ x ∷ []) ≡ (if same_owner x.owner p then Some (n + length hs) else stands_from n p hs)
stands_added n p [] x h = by (same_owner x.owner p) refl (same_owner p x.owner) refl where
  by : (t : Bool) → same_owner x.owner p ≡ t → (u : Bool) → same_owner p x.owner ≡ u → at_first n None u ≡ at_first (n + 0) None t
  by true e true f = let z : n ≡ n + 0 = omega arith in ap Some z
  by true e false f = absurd (both_ways (same_owner x.owner p) (other_way p x.owner f) e)
  by false e true f = absurd (both_ways (same_owner p x.owner) (other_way x.owner p e) f)
  by false e false f = refl
stands_added n p (y ∷ hs) x h = by (same_owner p y.owner) refl (same_owner x.owner p) refl (stands_added (n + 1) p hs x q.1) where
  q : (same_owner x.owner y.owner ≡ false) × (holds x.owner hs ≡ false)
  q = or_parts (same_owner x.owner y.owner) (holds x.owner hs) h

  by : (u : Bool) → same_owner p y.owner ≡ u → (t : Bool) → same_owner x.owner p ≡ t → stands_from (n + 1) p (hs ++ x ∷ []) ≡ at_first (n + 1 + length hs) (stands_from (n + 1) p hs) (same_owner x.owner p)
      → at_first n (stands_from (n + 1) p (hs ++ x ∷ [])) u ≡ at_first (n + suc (length hs)) (at_first n (stands_from (n + 1) p hs) u) t
  by true f true e rest = absurd (both_ways (same_owner x.owner y.owner) q.0 (sym (same_along p y.owner x.owner f) ∙ e))
  by true f false e rest = refl
  by false f true e rest = rest ∙ ap (at_first (n + 1 + length hs) (stands_from (n + 1) p hs)) e ∙ (let z : n + 1 + length hs ≡ n + suc (length hs) = omega arith in ap Some z)
  by false f false e rest = rest ∙ ap (at_first (n + 1 + length hs) (stands_from (n + 1) p hs)) e

module _ (from to : Owner) where
  apart_from : (p : Owner) (x : Holding) → same_owner from x.owner ≡ false → same_owner from p ≡ true → same_owner p x.owner ≡ false
  apart_from p x h e = sym (ap (λ q. same_owner q x.owner) (owner_is from p e)) ∙ h

  pub stands_renamed : (n : ℕ) (p : Owner) (hs : List Holding) (i : ℕ) → IsFirst from hs i → AreDistinct hs → holds to hs ≡ false
      → stands_from n p (renamed from to hs) ≡ (if same_owner to p then Some (n + i) else (if same_owner from p then None else stands_from n p hs))
  stands_renamed n p [] i f a h = absurd f
  stands_renamed n p (x ∷ hs) zero f a h =
      ap (λ t. stands_from n p ((let r : Holding = record { owner = to; spans = x.spans } in if t then r else x) ∷ renamed from to hs)) f
      ∙ ap (λ r. at_first n (stands_from (n + 1) p r) (same_owner p to)) (renamed_none from to hs none)
      ∙ by (same_owner to p) refl (same_owner from p) refl
    where
      none : holds from hs ≡ false
      none = none_behind from x hs f a.0

      by : (t : Bool) → same_owner to p ≡ t → (u : Bool) → same_owner from p ≡ u → at_first n (stands_from (n + 1) p hs) (same_owner p to) ≡ (if t then Some (n + zero) else (if u then None else stands_from n p (x ∷ hs)))
      by true e u g = let z : n ≡ n + 0 = omega arith in ap (at_first n (stands_from (n + 1) p hs)) (ap (λ q. same_owner q to) (sym (owner_is to p e)) ∙ same_self to) ∙ ap Some z
      by false e true g =
          ap (at_first n (stands_from (n + 1) p hs)) (other_way to p e)
          ∙ stands_none p (n + 1) hs (sym (ap (λ q. holds q hs) (owner_is from p g)) ∙ none)
      by false e false g =
          ap (at_first n (stands_from (n + 1) p hs)) (other_way to p e)
          ∙ sym (ap (at_first n (stands_from (n + 1) p hs)) (sym (same_along from x.owner p f) ∙ other_way from p g))
  stands_renamed n p (x ∷ hs) (suc i) f a h =
      ap (λ t. stands_from n p ((let r : Holding = record { owner = to; spans = x.spans } in if t then r else x) ∷ renamed from to hs)) f.0
      ∙ by (same_owner to p) refl (same_owner from p) refl (same_owner p x.owner) refl (stands_renamed (n + 1) p hs i f.1 a.1 q.1)
    where
      q : (same_owner to x.owner ≡ false) × (holds to hs ≡ false)
      q = or_parts (same_owner to x.owner) (holds to hs) h

      choice : Option ℕ → Bool → Bool → Option ℕ → Option ℕ
      choice there t u other = if t then there else (if u then None else other)

      by : (t : Bool) → same_owner to p ≡ t → (u : Bool) → same_owner from p ≡ u → (w : Bool) → same_owner p x.owner ≡ w
          → stands_from (n + 1) p (renamed from to hs) ≡ (if same_owner to p then Some (n + 1 + i) else (if same_owner from p then None else stands_from (n + 1) p hs))
          → at_first n (stands_from (n + 1) p (renamed from to hs)) (same_owner p x.owner) ≡ (if t then Some (n + suc i) else (if u then None else at_first n (stands_from (n + 1) p hs) (same_owner p x.owner)))
      by true e u g true z rest = absurd (both_ways (same_owner to x.owner) q.0 (ap (λ r. same_owner r x.owner) (owner_is to p e) ∙ z))
      by true e u g false z rest = let s : n + 1 + i ≡ n + suc i = omega arith in rw (z) (rest ∙ rw (e) (ap Some s))
      by false e true g true z rest = absurd (both_ways (same_owner p x.owner) (apart_from p x f.0 g) z)
      by false e true g false z rest = rw (z) (rest ∙ rw (e, g) refl)
      by false e false g true z rest = rw (z) refl
      by false e false g false z rest = rw (z) (rest ∙ rw (e, g) refl)

pub holds_at : (q : Owner) (hs : List Holding) (i : ℕ) (d : Holding) → holds q hs ≡ false → i < length hs → same_owner q (get_or hs i d).owner ≡ false
holds_at q [] i d h l = absurd (omega arith)
holds_at q (x ∷ hs) zero d h l = (or_parts (same_owner q x.owner) (holds q hs) h).0
holds_at q (x ∷ hs) (suc i) d h l = holds_at q hs i d ((or_parts (same_owner q x.owner) (holds q hs) h).1) (omega arith)

module _ (o : Owner) where
  front_stands : (n : ℕ) (p : Owner) (h : Holding) (hs : List Holding) → same_owner p (last_or h hs).owner ≡ false → stands_from n p (before_last h hs) ≡ stands_from n p (h ∷ hs)
  front_stands n p h [] e = sym (ap (at_first n None) e)
  front_stands n p h (x ∷ hs) e = ap (λ r. at_first n r (same_owner p h.owner)) (front_stands (n + 1) p x hs e)

  -- the holding that fills the place stands there
  pub stands_moved : (n : ℕ) (p : Owner) (hs : List Holding) (i : ℕ) (d : Holding) → IsFirst o hs i → AreDistinct hs → i < length (without_owner o hs)
      → stands_from n p (without_owner o hs) ≡ (if same_owner (get_or (without_owner o hs) i d).owner p then Some (n + i) else (if same_owner o p then None else stands_from n p hs))
  stands_moved n p [] i d f a l = absurd f
  stands_moved n p (x ∷ []) zero d f a l = absurd (let e = ap (λ t. length (if t then last_first [] else x ∷ [])) f in omega (arith, e, l))
  stands_moved n p (x ∷ h ∷ hs) zero d f a l =
      ap (λ t. stands_from n p (if t then last_first (h ∷ hs) else x ∷ without_owner o (h ∷ hs))) f
      ∙ by (same_owner (last_or h hs).owner p) refl (same_owner o p) refl
      ∙ sym (ap (λ t. if same_owner (get_or (if t then last_first (h ∷ hs) else x ∷ without_owner o (h ∷ hs)) 0 d).owner p then Some (n + 0) else (if same_owner o p then None else stands_from n p (x ∷ h ∷ hs))) f)
    where
      none : holds o (h ∷ hs) ≡ false
      none = none_behind o x (h ∷ hs) f a.0

      behind : (p : Owner) → holds p (h ∷ hs) ≡ false → holds p (before_last h hs) ≡ false
      behind p e = (or_parts (same_owner p (last_or h hs).owner) (holds p (before_last h hs)) (sym (holds_turned p h hs) ∙ e)).1

      by : (t : Bool) → same_owner (last_or h hs).owner p ≡ t → (u : Bool) → same_owner o p ≡ u
          → stands_from n p (last_first (h ∷ hs)) ≡ (if same_owner (last_or h hs).owner p then Some (n + 0) else (if same_owner o p then None else stands_from n p (x ∷ h ∷ hs)))
      by true e u g =
          let z : n ≡ n + 0 = omega arith in
          let s : same_owner p (last_or h hs).owner ≡ true = sym (ap (λ q. same_owner p q) (sym (owner_is (last_or h hs).owner p e))) ∙ same_self p in
          ap (at_first n (stands_from (n + 1) p (before_last h hs))) s ∙ ap Some z ∙ sym (ap (λ t. if t then Some (n + 0) else (if same_owner o p then None else stands_from n p (x ∷ h ∷ hs))) e)
      by false e true g =
          ap (at_first n (stands_from (n + 1) p (before_last h hs))) (other_way (last_or h hs).owner p e)
          ∙ stands_none p (n + 1) (before_last h hs) (behind p (sym (ap (λ q. holds q (h ∷ hs)) (owner_is o p g)) ∙ none))
          ∙ sym (ap (λ t. if t then Some (n + 0) else (if same_owner o p then None else stands_from n p (x ∷ h ∷ hs))) e ∙ ap (λ t. if t then None else stands_from n p (x ∷ h ∷ hs)) g)
      by false e false g =
          ap (at_first n (stands_from (n + 1) p (before_last h hs))) (other_way (last_or h hs).owner p e)
          ∙ front_stands (n + 1) p h hs (other_way (last_or h hs).owner p e)
          ∙ sym (ap (λ t. if t then Some (n + 0) else (if same_owner o p then None else stands_from n p (x ∷ h ∷ hs))) e ∙ ap (λ t. if t then None else stands_from n p (x ∷ h ∷ hs)) g
          ∙ ap (at_first n (stands_from (n + 1) p (h ∷ hs))) (sym (same_along o x.owner p f) ∙ other_way o p g))
  stands_moved n p (x ∷ hs) (suc i) d f a l = subst (λ (r : List Holding). stands_from n p r ≡ (if same_owner (get_or r (suc i) d).owner p then Some (n + suc i) else (if same_owner o p then None else stands_from n p (x ∷ hs)))) (sym shape) (by (same_owner p x.owner) refl (λ l. stands_moved (n + 1) p hs i d f.1 a.1 l)) where
    shape : without_owner o (x ∷ hs) ≡ x ∷ without_owner o hs
    shape = ap (λ t. if t then last_first hs else x ∷ without_owner o hs) f.0

    short : i < length (without_owner o hs)
    short = let e = ap length shape in omega (arith, e, l)

    m : Owner
    m = (get_or (without_owner o hs) i d).owner

    by : (t : Bool) → same_owner p x.owner ≡ t
        → (i < length (without_owner o hs) → stands_from (n + 1) p (without_owner o hs) ≡ (if same_owner m p then Some (n + 1 + i) else (if same_owner o p then None else stands_from (n + 1) p hs)))
        → stands_from n p (x ∷ without_owner o hs) ≡ (if same_owner m p then Some (n + suc i) else (if same_owner o p then None else stands_from n p (x ∷ hs)))
    by true e rest =
        let other : same_owner m p ≡ false = other_way p m (ap (λ q. same_owner q m) (owner_is p x.owner e) ∙ holds_at x.owner (without_owner o hs) i d (holds_without x.owner o hs a.0) short) in
        let away : same_owner o p ≡ false = same_along p x.owner o e ∙ f.0 in
        rw (other, away, e) refl
    by false e rest =
        let s : n + 1 + i ≡ n + suc i = omega arith in
        ap (at_first n (stands_from (n + 1) p (without_owner o hs))) e ∙ rest short ∙ ap (λ k. if same_owner m p then Some k else (if same_owner o p then None else stands_from (n + 1) p hs)) s
        ∙ ap (λ r. if same_owner m p then Some (n + suc i) else (if same_owner o p then None else r)) (sym (ap (at_first n (stands_from (n + 1) p hs)) e))

  -- the last holding leaves no place to fill
  pub stands_gone : (n : ℕ) (p : Owner) (hs : List Holding) (i : ℕ) → IsFirst o hs i → length (without_owner o hs) ≤ i
      → stands_from n p (without_owner o hs) ≡ (if same_owner o p then None else stands_from n p hs)
  stands_gone n p [] i f l = absurd f
  stands_gone n p (x ∷ []) zero f l =
      ap (λ t. stands_from n p (if t then last_first [] else x ∷ [])) f ∙ by (same_owner o p) refl
    where
      by : (u : Bool) → same_owner o p ≡ u → None ≡ (if u then None else stands_from n p (x ∷ []))
      by true g = refl
      by false g = sym (ap (at_first n None) (sym (same_along o x.owner p f) ∙ other_way o p g))
  stands_gone n p (x ∷ h ∷ hs) zero f l = absurd (let e = ap (λ t. length (if t then last_first (h ∷ hs) else x ∷ without_owner o (h ∷ hs))) f in omega (arith, e, l))
  stands_gone n p (x ∷ hs) (suc i) f l =
      ap (stands_from n p) shape ∙ by (same_owner p x.owner) refl (stands_gone (n + 1) p hs i f.1 (let e = ap length shape in omega (arith, e, l)))
    where
      shape : without_owner o (x ∷ hs) ≡ x ∷ without_owner o hs
      shape = ap (λ t. if t then last_first hs else x ∷ without_owner o hs) f.0

      by : (t : Bool) → same_owner p x.owner ≡ t → stands_from (n + 1) p (without_owner o hs) ≡ (if same_owner o p then None else stands_from (n + 1) p hs)
          → stands_from n p (x ∷ without_owner o hs) ≡ (if same_owner o p then None else stands_from n p (x ∷ hs))
      by true e rest =
          let away : same_owner o p ≡ false = same_along p x.owner o e ∙ f.0 in
          rw (away, e) refl
      by false e rest = ap (at_first n (stands_from (n + 1) p (without_owner o hs))) e ∙ rest ∙ ap (λ r. if same_owner o p then None else r) (sym (ap (at_first n (stands_from (n + 1) p hs)) e))

  -- ---- the spans that stay

  total_turned : (w : Span → ℕ) (h : Holding) (hs : List Holding) → total w (all_spans (h ∷ hs)) ≡ total w (last_or h hs).spans + total w (all_spans (before_last h hs))
  total_turned w h [] = total-append w h.spans []
  total_turned w h (x ∷ hs) =
      let a = total-append w h.spans (all_spans (x ∷ hs)) in
      let b = total-append w h.spans (all_spans (before_last x hs)) in
      let r = total_turned w x hs in
      omega (arith, a, b, r)

  total_last_first : (w : Span → ℕ) (hs : List Holding) → total w (all_spans (last_first hs)) ≡ total w (all_spans hs)
  total_last_first w [] = refl
  total_last_first w (h ∷ hs) =
      let a = total-append w (last_or h hs).spans (all_spans (before_last h hs)) in
      let r = total_turned w h hs in
      omega (arith, a, r)

  pub total_removed : (w : Span → ℕ) (hs : List Holding) (i : ℕ) (d : Holding) → IsFirst o hs i → total w (all_spans hs) ≡ total w (get_or hs i d).spans + total w (all_spans (without_owner o hs))
  total_removed w [] i d f = absurd f
  total_removed w (x ∷ hs) zero d f =
      let e = ap (λ t. total w (all_spans (if t then last_first hs else x ∷ without_owner o hs))) f in
      let a = total-append w x.spans (all_spans hs) in
      let r = total_last_first w hs in
      omega (arith, e, a, r)
  total_removed w (x ∷ hs) (suc i) d f =
      let e = ap (λ t. total w (all_spans (if t then last_first hs else x ∷ without_owner o hs))) f.0 in
      let a = total-append w x.spans (all_spans hs) in
      let b = total-append w x.spans (all_spans (without_owner o hs)) in
      let r = total_removed w hs i d f.1 in
      omega (arith, e, a, b, r)
