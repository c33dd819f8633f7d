-- The table of places after a change of the holdings.
use Rattle.std.proofs.Common.{◌≡◌, ℕ, zero, suc, ◌+◌, ◌<◌, ◌≤◌, ◌||◌, Bool, true, false, List, [], ◌∷◌, ◌++◌, Option, Some, None, length, is_some, refl, ap, sym, ◌∙◌, arith, if◌then◌else◌, take, get_or, subst}
use Rattle.std.proofs.lemmas.List.{length-take, take_more}
use Rattle.std.proofs.lemmas.Bool.{both_ways, false_from_ne_true}
use Rattle.ttm_base.specs.declared.Span.{Span}
use Rattle.ttm_base.specs.declared.Owner.{Owner}
use Rattle.ttm_base.specs.declared.Owner.TheVariants.{Live, Target, Ghost}
use Rattle.resource_core.specs.declared.holding.Holding.{Holding}
use Rattle.resource_core.specs.declared.holdings.OwnerKey.{OwnerKey}
use Rattle.resource_core.specs.Places.{key_of, same_key, stands_at, ArePlaced}
use Rattle.resource_core.specs.Resources.{same_owner, holds, renamed, last_first, without_owner, AreDistinct}
use Rattle.resource_core.proofs.OwnerLaws.{owner_is, same_self, other_way, none_behind, holds_last_first, holds_without, distinct_added, distinct_renamed, distinct_without}
use Rattle.resource_core.proofs.PlaceLaws.{IsFirst, stands_some, stands_added, stands_renamed, stands_moved, stands_gone, stands_at_first, length_without, holds_at}

pub key_same : (a b : Owner) → same_key (key_of a) (key_of b) ≡ same_owner a b
key_same (Live a) (Live b) = refl
key_same (Live a) (Target b) = refl
key_same (Live a) (Ghost b) = refl
key_same (Target a) (Live b) = refl
key_same (Target a) (Target b) = refl
key_same (Target a) (Ghost b) = refl
key_same (Ghost a) (Live b) = refl
key_same (Ghost a) (Target b) = refl
key_same (Ghost a) (Ghost b) = refl

abbrev with_place : Option ℕ → Option ℕ → Bool → Option ℕ
with_place there other t = if t then there else other

length_renamed : (from to : Owner) (hs : List Holding) → length (renamed from to hs) ≡ length hs
length_renamed from to [] = refl
length_renamed from to (x ∷ hs) = ap suc (length_renamed from to hs)

length_added : (hs : List Holding) (x : Holding) → length (hs ++ x ∷ []) ≡ length hs + 1
length_added [] x = refl
length_added (y ∷ hs) x = let r = length_added hs x in omega (arith, r)

-- ---- who is where

-- the owner at a place isn't among those before it
pub own_first : (hs : List Holding) (i : ℕ) (d : Holding) → AreDistinct hs → i < length hs → holds (get_or hs i d).owner (take i hs) ≡ false
own_first [] i d a l = absurd (omega arith)
own_first (x ∷ hs) zero d a l = refl
own_first (x ∷ hs) (suc i) d a l =
    ap (λ t. t || holds (get_or hs i d).owner (take i hs)) (other_way x.owner (get_or hs i d).owner (holds_at x.owner hs i d a.0 (omega arith))) ∙ own_first hs i d a.1 (omega arith)

pub holds_own : (hs : List Holding) (i : ℕ) (d : Holding) → i < length hs → holds (get_or hs i d).owner hs ≡ true
holds_own hs i d l = by (holds (get_or hs i d).owner hs) refl where
  by : (t : Bool) → holds (get_or hs i d).owner hs ≡ t → holds (get_or hs i d).owner hs ≡ true
  by true e = e
  by false e = absurd (both_ways (same_owner (get_or hs i d).owner (get_or hs i d).owner) (holds_at (get_or hs i d).owner hs i d e l) (same_self (get_or hs i d).owner))

none_without : (o : Owner) (hs : List Holding) → AreDistinct hs → holds o (without_owner o hs) ≡ false
none_without o [] a = refl
none_without o (x ∷ hs) a = by (same_owner o x.owner) refl (none_without o hs a.1) where
  by : (t : Bool) → same_owner o x.owner ≡ t → holds o (without_owner o hs) ≡ false → holds o (without_owner o (x ∷ hs)) ≡ false
  by true e rest = ap (λ t. holds o (if t then last_first hs else x ∷ without_owner o hs)) e ∙ holds_last_first o hs ∙ none_behind o x hs e a.0
  by false e rest = ap (λ t. holds o (if t then last_first hs else x ∷ without_owner o hs)) e ∙ ap (λ t. t || holds o (without_owner o hs)) e ∙ rest

-- the holding that fills the place is of another owner, who had one before
pub record IsMoved (o m : Owner) (hs : List Holding) : Type 0 where
  pub other : same_owner o m ≡ false
  pub there : holds m hs ≡ true

pub moved : (o : Owner) (hs : List Holding) (i : ℕ) (d : Holding) → AreDistinct hs → i < length (without_owner o hs) → IsMoved o (get_or (without_owner o hs) i d).owner hs
moved o hs i d a l = record { other = other; there = there (holds m hs) refl } where
  m : Owner
  m = (get_or (without_owner o hs) i d).owner

  in_rest : holds m (without_owner o hs) ≡ true
  in_rest = holds_own (without_owner o hs) i d l

  other : same_owner o m ≡ false
  other = false_from_ne_true (same_owner o m) (λ t. both_ways (holds o (without_owner o hs)) (none_without o hs a) (ap (λ q. holds q (without_owner o hs)) (owner_is o m t) ∙ in_rest))

  there : (t : Bool) → holds m hs ≡ t → holds m hs ≡ true
  there true e = e
  there false e = absurd (both_ways (holds m (without_owner o hs)) (holds_without m o hs e) in_rest)

-- ---- the table

module _ (find now : OwnerKey → Option ℕ) (count : ℕ) (held : List Holding) (placed : ArePlaced find count held) where
  pub found_some : (o : Owner) → is_some (find (key_of o)) ≡ holds o held
  found_some o = ap is_some (placed.each o) ∙ stands_some o 0 held

  pub found_first : (o : Owner) (i : ℕ) → find (key_of o) ≡ Some i → IsFirst o held i
  found_first o i h = stands_at_first o held i (sym (placed.each o) ∙ h)

  pub placed_added : (o : Owner) (spans : List Span) (more : ℕ) → holds o held ≡ false
      → ((k : OwnerKey) → now k ≡ (if same_key (key_of o) k then Some count else find k)) → more ≡ count + 1
      → ArePlaced now more (held ++ record { owner = o; spans = spans } ∷ [])
  placed_added o spans more none t c =
      let x : Holding = record { owner = o; spans = spans } in
      let n = placed.len in
      let l = length_added held x in
      record {
        each = λ p. t (key_of p) ∙ ap (with_place (Some count) (find (key_of p))) (key_same o p) ∙ ap (λ r. with_place (Some count) r (same_owner o p)) (placed.each p)
            ∙ ap (λ k. with_place (Some k) (stands_at p held) (same_owner o p)) (let e : count ≡ 0 + length held = omega (arith, n) in e)
            ∙ sym (stands_added 0 p held x none);
        owners = distinct_added held o spans placed.owners none;
        len = (let e : more ≡ length (held ++ record { owner = o; spans = spans } ∷ []) = omega (arith, n, c, l) in e);
      }

  pub placed_renamed : (from to : Owner) (i : ℕ) → IsFirst from held i → holds to held ≡ false
      → ((k : OwnerKey) → now k ≡ (if same_key (key_of to) k then Some i else (if same_key (key_of from) k then None else find k)))
      → ArePlaced now count (renamed from to held)
  placed_renamed from to i f none t =
      record {
        each = λ p. t (key_of p) ∙ ap (with_place (Some i) (with_place None (find (key_of p)) (same_key (key_of from) (key_of p)))) (key_same to p)
            ∙ ap (λ u. with_place (Some i) (with_place None (find (key_of p)) u) (same_owner to p)) (key_same from p)
            ∙ ap (λ r. with_place (Some i) (with_place None r (same_owner from p)) (same_owner to p)) (placed.each p)
            ∙ ap (λ k. with_place (Some k) (with_place None (stands_at p held) (same_owner from p)) (same_owner to p)) (let e : i ≡ 0 + i = omega arith in e)
            ∙ sym (stands_renamed from to 0 p held i f placed.owners none);
        owners = distinct_renamed from to held placed.owners none;
        len = placed.len ∙ sym (length_renamed from to held);
      }

  pub placed_moved : (o : Owner) (i : ℕ) (d : Holding) (less : ℕ) → IsFirst o held i → i < length (without_owner o held)
      → ((k : OwnerKey) → now k ≡ (if same_key (key_of (get_or (without_owner o held) i d).owner) k then Some i else (if same_key (key_of o) k then None else find k))) → less + 1 ≡ count
      → ArePlaced now less (without_owner o held)
  placed_moved o i d less f l t c =
      let m : Owner = (get_or (without_owner o held) i d).owner in
      let n = placed.len in
      let s = length_without o held i f in
      record {
        each = λ p. t (key_of p) ∙ ap (with_place (Some i) (with_place None (find (key_of p)) (same_key (key_of o) (key_of p)))) (key_same m p)
            ∙ ap (λ u. with_place (Some i) (with_place None (find (key_of p)) u) (same_owner m p)) (key_same o p)
            ∙ ap (λ r. with_place (Some i) (with_place None r (same_owner o p)) (same_owner m p)) (placed.each p)
            ∙ ap (λ k. with_place (Some k) (with_place None (stands_at p held) (same_owner o p)) (same_owner m p)) (let e : i ≡ 0 + i = omega arith in e)
            ∙ sym (stands_moved o 0 p held i d f placed.owners l);
        owners = distinct_without o held placed.owners;
        len = (let e : less ≡ length (without_owner o held) = omega (arith, n, s, c) in e);
      }

  pub placed_gone : (o : Owner) (i : ℕ) (less : ℕ) → IsFirst o held i → length (without_owner o held) ≤ i
      → ((k : OwnerKey) → now k ≡ (if same_key (key_of o) k then None else find k)) → less + 1 ≡ count
      → ArePlaced now less (without_owner o held)
  placed_gone o i less f l t c =
      let n = placed.len in
      let s = length_without o held i f in
      record {
        each = λ p. t (key_of p) ∙ ap (with_place None (find (key_of p))) (key_same o p) ∙ ap (λ r. with_place None r (same_owner o p)) (placed.each p) ∙ sym (stands_gone o 0 p held i f l);
        owners = distinct_without o held placed.owners;
        len = (let e : less ≡ length (without_owner o held) = omega (arith, n, s, c) in e);
      }

-- ---- as the calls of `Holdings` change it

pub placed_same : (find now : OwnerKey → Option ℕ) (count same : ℕ) (held after : List Holding) → ArePlaced find count held → ((k : OwnerKey) → now k ≡ find k) → same ≡ count → after ≡ held → ArePlaced now same after
placed_same find now count same held after placed t c h =
    subst (ArePlaced now same) (sym h) (record { each = λ p. t (key_of p) ∙ placed.each p; owners = placed.owners; len = c ∙ placed.len })

pub put_added : (find mid now : OwnerKey → Option ℕ) (count same more : ℕ) (held after : List Holding) (o : Owner) (spans : List Span) (key : OwnerKey) (at : ℕ)
    → ArePlaced find count held → holds o held ≡ false → ((k : OwnerKey) → mid k ≡ find k) → same ≡ count → at ≡ count → key ≡ key_of o
    → ((k : OwnerKey) → now k ≡ (if same_key key k then Some at else mid k)) → more ≡ same + (if is_some (mid key) then 0 else 1)
    → after ≡ held ++ record { owner = o; spans = spans } ∷ [] → ArePlaced now more after
put_added find mid now count same more held after o spans key at placed none m c a k t n h =
    let gone : is_some (mid key) ≡ false = ap (λ k. is_some (mid k)) k ∙ ap is_some (m (key_of o)) ∙ found_some find now count held placed o ∙ none in
    let one = ap {B = ℕ} (λ t. if t then 0 else 1) gone in
    subst (ArePlaced now more) (sym h)
    (placed_added find now count held placed o spans more none
    (λ q. t q ∙ ap (λ k. with_place (Some at) (mid q) (same_key k q)) k ∙ ap (λ r. with_place (Some at) r (same_key (key_of o) q)) (m q) ∙ ap (λ n. with_place (Some n) (find q) (same_key (key_of o) q)) a)
    (let e : more ≡ count + 1 = omega (arith, c, n, one) in e))

pub put_renamed : (find mid now : OwnerKey → Option ℕ) (count less same : ℕ) (held after : List Holding) (from to : Owner) (old key : OwnerKey) (at : ℕ)
    → ArePlaced find count held → find (key_of from) ≡ Some at → holds to held ≡ false → old ≡ key_of from → key ≡ key_of to
    → ((k : OwnerKey) → mid k ≡ (if same_key old k then None else find k)) → less + 1 ≡ count
    → ((k : OwnerKey) → now k ≡ (if same_key key k then Some at else mid k)) → same ≡ less + (if is_some (mid key) then 0 else 1)
    → after ≡ renamed from to held → ArePlaced now same after
put_renamed find mid now count less same held after from to old key at placed f none o k m l t n h =
    let first = found_first find now count held placed from at f in
    let middle : (q : OwnerKey) → mid q ≡ (if same_key (key_of from) q then None else find q) = λ q. m q ∙ ap (λ k. with_place None (find q) (same_key k q)) o in
    let gone : is_some (mid key) ≡ false = ap (λ k. is_some (mid k)) k ∙ ap is_some (middle (key_of to)) ∙ nobody (same_key (key_of from) (key_of to)) in
    let one = ap {B = ℕ} (λ t. if t then 0 else 1) gone in
    let e : same ≡ count = omega (arith, l, n, one) in
    subst (ArePlaced now same) (sym h) (subst (λ n. ArePlaced now n (renamed from to held)) (sym e)
    (placed_renamed find now count held placed from to at first none
    (λ q. t q ∙ ap (λ k. with_place (Some at) (mid q) (same_key k q)) k ∙ ap (λ r. with_place (Some at) r (same_key (key_of to) q)) (middle q))))
  where
    nobody : (t : Bool) → is_some (with_place None (find (key_of to)) t) ≡ false
    nobody true = refl
    nobody false = found_some find now count held placed to ∙ none

pub put_moved : (find mid now : OwnerKey → Option ℕ) (count less same : ℕ) (held after : List Holding) (o : Owner) (old key : OwnerKey) (at : ℕ) (d : Holding)
    → ArePlaced find count held → find (key_of o) ≡ Some at → old ≡ key_of o → after ≡ without_owner o held → at < length after → key ≡ key_of (get_or after at d).owner
    → ((k : OwnerKey) → mid k ≡ (if same_key old k then None else find k)) → less + 1 ≡ count
    → ((k : OwnerKey) → now k ≡ (if same_key key k then Some at else mid k)) → same ≡ less + (if is_some (mid key) then 0 else 1)
    → ArePlaced now same after
put_moved find mid now count less same held after o old key at d placed f old_is h l k m c t n =
    let first = found_first find now count held placed o at f in
    let short : at < length (without_owner o held) = let e = ap length h in omega (arith, e, l) in
    let middle : (q : OwnerKey) → mid q ≡ (if same_key (key_of o) q then None else find q) = λ q. m q ∙ ap (λ k. with_place None (find q) (same_key k q)) old_is in
    let key_is : key ≡ key_of (get_or (without_owner o held) at d).owner = k ∙ ap (λ r. key_of (get_or r at d).owner) h in
    let w = moved o held at d placed.owners short in
    let there : is_some (mid key) ≡ true = ap (λ k. is_some (mid k)) key_is ∙ ap is_some (middle (key_of (get_or (without_owner o held) at d).owner))
    ∙ ap (λ t. is_some (with_place None (find (key_of (get_or (without_owner o held) at d).owner)) t)) (key_same o (get_or (without_owner o held) at d).owner ∙ w.other)
    ∙ found_some find now count held placed (get_or (without_owner o held) at d).owner ∙ w.there in
    let one = ap {B = ℕ} (λ t. if t then 0 else 1) there in
    subst (ArePlaced now same) (sym h)
    (placed_moved find now count held placed o at d same first short
    (λ q. t q ∙ ap (λ k. with_place (Some at) (mid q) (same_key k q)) key_is ∙ ap (λ r. with_place (Some at) r (same_key (key_of (get_or (without_owner o held) at d).owner) q)) (middle q))
    (let e : same + 1 ≡ count = omega (arith, c, n, one) in e))

-- the holding that fills the place is found in the table
pub moved_there : (find mid : OwnerKey → Option ℕ) (count : ℕ) (held after : List Holding) (o : Owner) (old key : OwnerKey) (at : ℕ) (d : Holding)
    → ArePlaced find count held → old ≡ key_of o → after ≡ without_owner o held → at < length after → key ≡ key_of (get_or after at d).owner
    → ((k : OwnerKey) → mid k ≡ (if same_key old k then None else find k)) → is_some (mid key) ≡ true
moved_there find mid count held after o old key at d placed old_is h l k m =
    let short : at < length (without_owner o held) = let e = ap length h in omega (arith, e, l) in
    let key_is : key ≡ key_of (get_or (without_owner o held) at d).owner = k ∙ ap (λ r. key_of (get_or r at d).owner) h in
    let w = moved o held at d placed.owners short in
    ap (λ k. is_some (mid k)) key_is ∙ ap is_some (m (key_of (get_or (without_owner o held) at d).owner) ∙ ap (λ k. with_place None (find (key_of (get_or (without_owner o held) at d).owner)) (same_key k (key_of (get_or (without_owner o held) at d).owner))) old_is)
    ∙ ap (λ t. is_some (with_place None (find (key_of (get_or (without_owner o held) at d).owner)) t)) (key_same o (get_or (without_owner o held) at d).owner ∙ w.other)
    ∙ found_some find mid count held placed (get_or (without_owner o held) at d).owner ∙ w.there

pub put_gone : (find now : OwnerKey → Option ℕ) (count less : ℕ) (held after : List Holding) (o : Owner) (old : OwnerKey) (at : ℕ)
    → ArePlaced find count held → find (key_of o) ≡ Some at → old ≡ key_of o → after ≡ without_owner o held → length after ≤ at
    → ((k : OwnerKey) → now k ≡ (if same_key old k then None else find k)) → less + 1 ≡ count → ArePlaced now less after
put_gone find now count less held after o old at placed f old_is h l t c =
    let first = found_first find now count held placed o at f in
    subst (ArePlaced now less) (sym h)
    (placed_gone find now count held placed o at less first (let e = ap length h in omega (arith, e, l))
    (λ q. t q ∙ ap (λ k. with_place None (find q) (same_key k q)) old_is) c)

-- ---- all places again

pub record IsRun (find : OwnerKey → Option ℕ) (held : List Holding) (i : ℕ) : Type 0 where
  pub each : (owner : Owner) → find (key_of owner) ≡ stands_at owner (take i held)

pub run_next : (find now : OwnerKey → Option ℕ) (held : List Holding) (i : ℕ) (d : Holding) (key : OwnerKey) → AreDistinct held → i < length held → IsRun find held i → key ≡ key_of (get_or held i d).owner
    → ((k : OwnerKey) → now k ≡ (if same_key key k then Some i else find k)) → IsRun now held (i + 1)
run_next find now held i d key a l r k t =
    let x : Holding = get_or held i d in
    let n = length-take i held in
    let more : take (i + 1) held ≡ take i held ++ x ∷ [] = take_more held i d l in
    record {
      each = λ p. t (key_of p) ∙ ap (λ k. with_place (Some i) (find (key_of p)) (same_key k (key_of p))) k ∙ ap (with_place (Some i) (find (key_of p))) (key_same x.owner p)
          ∙ ap (λ r. with_place (Some i) r (same_owner x.owner p)) (r.each p)
          ∙ ap (λ k. with_place (Some k) (stands_at p (take i held)) (same_owner x.owner p)) (let e : i ≡ 0 + length (take i held) = omega (arith, n, l) in e)
          ∙ sym (stands_added 0 p (take i held) x (own_first held i d a l))
          ∙ sym (ap (stands_at p) more);
    }

-- a key that isn't found yet
pub run_fresh : (find : OwnerKey → Option ℕ) (held : List Holding) (i : ℕ) (d : Holding) (key : OwnerKey) → AreDistinct held → i < length held → IsRun find held i → key ≡ key_of (get_or held i d).owner → is_some (find key) ≡ false
run_fresh find held i d key a l r k =
    ap (λ k. is_some (find k)) k ∙ ap is_some (r.each (get_or held i d).owner) ∙ stands_some (get_or held i d).owner 0 (take i held) ∙ own_first held i d a l
