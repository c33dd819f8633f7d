-- Which mapping stands, from one answer to the next.
use Rattle.std.proofs.Common.{◌≡◌, ℕ, ◌+◌, ◌<◌, ◌≤◌, Bool, true, false, cond, List, [], ◌∷◌, ◌++◌, Option, Some, None, ap, refl, sym, ◌∙◌, subst, ◌⊎◌, inl, inr, ⊎_elim, arith}
use Rattle.std.specs.Prelude.{◌==◌, ◌&&◌, ◌||◌, find, nat_le, not, option_map}
use Rattle.std.specs.List.{list_all, list_any}
use Rattle.std.proofs.lemmas.Bool.{and_from, and_parts, cases_lt, eq-eqb, eqb-true, le-leb, leb-true, lt-leb, not-true}
use Rattle.std.proofs.lemmas.Bool.Decides.{nat_tests}
use Rattle.ttm_base.specs.declared.BufId.{BufId}
use Rattle.journal_model.specs.declared.script.Mark.{Mark}
use Rattle.journal_model.specs.declared.script.MarkKind.{MarkKind}
use Rattle.journal_model.specs.declared.script.MarkKind.TheVariants as mark
use Rattle.journal_model.specs.rules.State.{same_buffer}
use Rattle.journal_model.specs.marks.Mapped.{Mapping, end_of, has_ended, is_through, mapping_of, mappings_in, unmaps}
use Rattle.journal_model.specs.scripts.MarkRules.{are_in_order, is_above}
use Rattle.map_follow.specs.Follows.{maps_for}
use Rattle.laws.proofs.law_sound.Bufs.{same_is, same_self}

-- the line ends the thread's mapping of the buffer, after so many commands
abbrev pub ends : ℕ → ℕ → BufId → Mark → Bool
ends t n b m = unmaps t b m && (m.after == n)

-- a mapping through which the thread's command goes
abbrev pub stands : ℕ → ℕ → BufId → Mapping → Bool
stands t n b m = is_through m t n (record { b = b; off = 0; len = 0 })

pub record Through (t n : ℕ) (b : BufId) (m : Mapping) : Type 0 where
  pub own : m.thread ≡ t
  pub same : m.b ≡ b
  pub begun : m.from ≤ n
  pub on : has_ended m n ≡ false

pub through_is : (t n : ℕ) (b : BufId) (m : Mapping) → stands t n b m ≡ true → Through t n b m
through_is t n b m h =
    let p = and_parts ((m.thread == t) && same_buffer m.b b && nat_le m.from n) (not (has_ended m n)) h in
    let q = and_parts ((m.thread == t) && same_buffer m.b b) (nat_le m.from n) p.0 in
    let r = and_parts (m.thread == t) (same_buffer m.b b) q.0 in
    record { own = eqb-true m.thread t r.0; same = same_is m.b b r.1; begun = leb-true m.from n q.1; on = not-true (has_ended m n) p.1 }

all_four : (p q r s : Bool) → p ≡ true → q ≡ true → r ≡ true → s ≡ false → (p && q && r && not s) ≡ true
all_four true true true false a b c d = refl
all_four true true true true a b c d = cc
all_four true true false s a b c d = cc
all_four true false r s a b c d = cc
all_four false q r s a b c d = cc

pub through_from : (t n : ℕ) (b : BufId) (m : Mapping) → Through t n b m → stands t n b m ≡ true
through_from t n b m h =
    all_four (m.thread == t) (same_buffer m.b b) (nat_le m.from n) (has_ended m n)
    (eq-eqb m.thread t h.own) (ap (λ c. same_buffer m.b c) (sym h.same) ∙ same_self m.b) (le-leb m.from n h.begun) h.on

-- ---- a mapping that hasn't ended after an answer hadn't before

ended_before : (o : Option ℕ) (n : ℕ) → elim o as (λ _. Bool) [ None ↦ false | Some e ↦ nat_le e (n + 1) ] ≡ false → elim o as (λ _. Bool) [ None ↦ false | Some e ↦ nat_le e n ] ≡ false
ended_before None n h = refl
ended_before (Some e) n h =
    ⊎_elim
    (λ less. lt-leb e n less)
    (λ more. let yes : true ≡ false = sym (le-leb e (n + 1) (omega (arith, more))) ∙ h in cc)
    (cases_lt n e)

pub on_before : (m : Mapping) (n : ℕ) → has_ended m (n + 1) ≡ false → has_ended m n ≡ false
on_before m n h = ended_before m.upto n h

-- ---- the first of a list

fails_found : {X : Type 0} (p q : X → Bool) (xs : List X) (x : X) → find p xs ≡ None → find q xs ≡ Some x → p x ≡ false
fails_found p q [] x h g = cc
fails_found p q (y ∷ ys) x h g = by (p y) (q y) refl h g (fails_found p q ys x)
  where
    by : (a b : Bool) → p y ≡ a → cond a (Some y) (find p ys) ≡ None → cond b (Some y) (find q ys) ≡ Some x → (find p ys ≡ None → find q ys ≡ Some x → p x ≡ false) → p x ≡ false
    by true b e h g rest = cc
    by false true e h g rest = let same : y ≡ x = cc in ap p (sym same) ∙ e
    by false false e h g rest = rest h g

pub found_passes : {X : Type 0} (p : X → Bool) (xs : List X) (x : X) → find p xs ≡ Some x → p x ≡ true
found_passes p [] x h = cc
found_passes p (y ∷ ys) x h = by (p y) refl h (found_passes p ys x)
  where
    by : (a : Bool) → p y ≡ a → cond a (Some y) (find p ys) ≡ Some x → (find p ys ≡ Some x → p x ≡ true) → p x ≡ true
    by true e g rest = let same : y ≡ x = cc in ap p (sym same) ∙ e
    by false e g rest = rest g

-- what is found first fails a second test that none passes with the first
found_fails : {X : Type 0} (p q : X → Bool) (xs : List X) (x : X) → list_any (λ y. p y && q y) xs ≡ false → find p xs ≡ Some x → q x ≡ false
found_fails p q [] x h g = cc
found_fails p q (y ∷ ys) x h g = by (p y) (q y) refl h g (found_fails p q ys x)
  where
    by : (a b : Bool) → q y ≡ b → ((a && b) || list_any (λ y. p y && q y) ys) ≡ false → cond a (Some y) (find p ys) ≡ Some x →
        (list_any (λ y. p y && q y) ys ≡ false → find p ys ≡ Some x → q x ≡ false) → q x ≡ false
    by true true e h g rest = cc
    by true false e h g rest = let same : y ≡ x = cc in ap q (sym same) ∙ e
    by false b e h g rest = rest h g

-- ---- lines in order

above_on : (m k j : Mark) → is_above m k ≡ true → is_above k j ≡ true → is_above m j ≡ true
above_on m k j h g = grind (arith, nat_tests, h, g)

above_more : (m k : Mark) (ms : List Mark) → is_above m k ≡ true → list_all (is_above k) ms ≡ true → list_all (is_above m) ms ≡ true
above_more m k [] h g = refl
above_more m k (j ∷ ms) h g =
    let p = and_parts (is_above k j) (list_all (is_above k) ms) g in
    and_from (is_above m j) (list_all (is_above m) ms) (above_on m k j h p.0) (above_more m k ms h p.1)

above_all : (m : Mark) (ms : List Mark) → are_in_order (m ∷ ms) ≡ true → list_all (is_above m) ms ≡ true
above_all m [] h = refl
above_all m (k ∷ ms) h =
    let p = and_parts (is_above m k) (are_in_order (k ∷ ms)) h in
    and_from (is_above m k) (list_all (is_above m) ms) p.0 (above_more m k ms p.0 (above_all k ms p.1))

order_behind : (m : Mark) (ms : List Mark) → are_in_order (m ∷ ms) ≡ true → are_in_order ms ≡ true
order_behind m [] h = refl
order_behind m (k ∷ ms) h = (and_parts (is_above m k) (are_in_order (k ∷ ms)) h).1

behind : (m k : Mark) → is_above m k ≡ true → k.thread ≡ m.thread → m.after ≤ k.after
behind m k h same = grind (arith, nat_tests, h, same)

-- ---- where a mapping comes from

abbrev begun : Mark → List Mark → BufId → Mapping
begun j js c = record { thread = j.thread; b = c; from = j.after; upto = end_of j.thread c js }

record Begins (j : Mark) (js : List Mark) (k : MarkKind) (m : Mapping) : Type 0 where
  b : BufId
  kind : k ≡ mark.Map b
  is : record { thread = j.thread; b = b; from = j.after; upto = end_of j.thread b js } ≡ m

found_first : (p : Mapping → Bool) (j : Mark) (js : List Mark) (k : MarkKind) (rest : List Mapping) (m : Mapping) →
    find p (mapping_of j js k ++ rest) ≡ Some m → Begins j js k m ⊎ (find p rest ≡ Some m)
found_first p j js (mark.Map b) rest m h = by (p (record { thread = j.thread; b = b; from = j.after; upto = end_of j.thread b js })) h
  where
    by : (a : Bool) → cond a (Some (record { thread = j.thread; b = b; from = j.after; upto = end_of j.thread b js })) (find p rest) ≡ Some m → Begins j js (mark.Map b) m ⊎ (find p rest ≡ Some m)
    by true g = let same : record { thread = j.thread; b = b; from = j.after; upto = end_of j.thread b js } ≡ m = cc in inl (record { b = b; kind = refl; is = same })
    by false g = inr g
found_first p j js (mark.Unmap b) rest m h = inr h
found_first p j js mark.Mapped rest m h = inr h
found_first p j js (mark.Vmap va n b off) rest m h = inr h
found_first p j js (mark.Vunmap va n) rest m h = inr h
found_first p j js (mark.Vsubmit ops) rest m h = inr h

-- a mapping of lines after a line of its thread begins after it
from_behind : (k : Mark) (ms : List Mark) (p : Mapping → Bool) (m : Mapping) → list_all (is_above k) ms ≡ true → find p (mappings_in ms) ≡ Some m → m.thread ≡ k.thread → k.after ≤ m.from
from_behind k [] p m all h own = cc
from_behind k (j ∷ js) p m all h own =
    let both = and_parts (is_above k j) (list_all (is_above k) js) all in
    ⊎_elim
    (λ begins.
    let at : j.thread ≡ m.thread = ap (λ (x : Mapping). x.thread) begins.is in
    let from : j.after ≡ m.from = ap (λ (x : Mapping). x.from) begins.is in
    subst (λ n. k.after ≤ n) from (behind k j both.0 (at ∙ own)))
    (λ g. from_behind k js p m both.1 g own)
    (found_first p j js j.kind (mappings_in js) m h)

module _ (t n : ℕ) (b : BufId) where
  unmaps_own : (k : Mark) → unmaps t b k ≡ true → k.thread ≡ t
  unmaps_own k h = eqb-true k.thread t (and_parts (k.thread == t) (elim k.kind [ mark.Unmap c ↦ same_buffer b c | _ ↦ false ]) h).0

  -- a line before one that ends the mapping
  end_behind : (k : Mark) (ks : List Mark) → list_all (is_above k) ks ≡ true → list_any (ends t n b) ks ≡ true → k.thread ≡ t → k.after ≤ n
  end_behind k [] all h own = cc
  end_behind k (j ∷ js) all h own = by (ends t n b j) refl h (λ g. end_behind k js (and_parts (is_above k j) (list_all (is_above k) js) all).1 g own)
    where
      by : (a : Bool) → ends t n b j ≡ a → (a || list_any (ends t n b) js) ≡ true → (list_any (ends t n b) js ≡ true → k.after ≤ n) → k.after ≤ n
      by true e g rest =
          let p = and_parts (unmaps t b j) (j.after == n) e in
          let at : j.after ≡ n = eqb-true j.after n p.1 in
          subst (λ x. k.after ≤ x) at (behind k j (and_parts (is_above k j) (list_all (is_above k) js) all).0 (unmaps_own j p.0 ∙ sym own))
      by false e g rest = rest g

  -- the first line that ends it stands there or before
  record EndsEarly (ks : List Mark) : Type 0 where
    u : Mark
    first : find (unmaps t b) ks ≡ Some u
    early : u.after ≤ n

  ends_early : (ks : List Mark) → are_in_order ks ≡ true → list_any (ends t n b) ks ≡ true → EndsEarly ks
  ends_early [] order h = cc
  ends_early (k ∷ ks) order h = by (unmaps t b k) (k.after == n) refl refl h (λ g. ends_early ks (order_behind k ks order) g)
    where
      by : (a c : Bool) → unmaps t b k ≡ a → (k.after == n) ≡ c → ((a && c) || list_any (ends t n b) ks) ≡ true → (list_any (ends t n b) ks ≡ true → EndsEarly ks) → EndsEarly (k ∷ ks)
      by true true e f g behind =
          let at : k.after ≡ n = eqb-true k.after n f in
          record { u = k; first = ap (λ (x : Bool). cond x (Some k) (find (unmaps t b) ks)) e; early = omega (arith, at) }
      by true false e f g behind =
          record {
            u = k;
            first = ap (λ (x : Bool). cond x (Some k) (find (unmaps t b) ks)) e;
            early = end_behind k ks (above_all k ks order) g (unmaps_own k e);
          }
      by false c e f g behind =
          let rest = behind g in
          record { u = rest.u; first = ap (λ (x : Bool). cond x (Some k) (find (unmaps t b) ks)) e ∙ rest.first; early = rest.early }

  -- ---- a mapping that ends after an answer

  ended_there : (ks : List Mark) (o : Option Mark) → find (unmaps t b) ks ≡ o → (u : Mark) → o ≡ Some u → u.after ≤ n → elim (option_map (λ (m : Mark). m.after) o) as (λ _. Bool) [ None ↦ false | Some e ↦ nat_le e n ] ≡ true
  ended_there ks None e u h early = cc
  ended_there ks (Some v) e u h early = let same : v ≡ u = cc in ap (λ (x : Mark). nat_le x.after n) same ∙ le-leb u.after n early

  -- with a line there that ends it, what stands begins there or later
  pub begins_there : (marks : List Mark) (m : Mapping) → are_in_order marks ≡ true → list_any (ends t n b) marks ≡ true → find (stands t n b) (mappings_in marks) ≡ Some m → n ≤ m.from
  begins_there [] m order h f = cc
  begins_there (j ∷ js) m order h f = by (ends t n b j) refl h (λ g f. begins_there js m (order_behind j js order) g f)
    where
      th : Through t n b m
      th = through_is t n b m (found_passes (stands t n b) (mappings_in (j ∷ js)) m f)

      by : (a : Bool) → ends t n b j ≡ a → (a || list_any (ends t n b) js) ≡ true →
          (list_any (ends t n b) js ≡ true → find (stands t n b) (mappings_in js) ≡ Some m → n ≤ m.from) → n ≤ m.from
      by true e g rest =
          let p = and_parts (unmaps t b j) (j.after == n) e in
          let at : j.after ≡ n = eqb-true j.after n p.1 in
          ⊎_elim
          (λ begins. let from : j.after ≡ m.from = ap (λ (x : Mapping). x.from) begins.is in omega (arith, at, from))
          (λ f. let low = from_behind j js (stands t n b) m (above_all j js order) f (th.own ∙ sym (unmaps_own j p.0)) in omega (arith, at, low))
          (found_first (stands t n b) j js j.kind (mappings_in js) m f)
      by false e g rest =
          ⊎_elim
          (λ begins.
          let early = ends_early js (order_behind j js order) g in
          let own : j.thread ≡ t = ap (λ (x : Mapping). x.thread) begins.is ∙ th.own in
          let same : begins.b ≡ b = ap (λ (x : Mapping). x.b) begins.is ∙ th.same in
          let upto : end_of j.thread begins.b js ≡ m.upto = ap (λ (x : Mapping). x.upto) begins.is in
          let upto_is : end_of t b js ≡ m.upto = subst (λ s. end_of s b js ≡ m.upto) own (subst (λ c. end_of j.thread c js ≡ m.upto) same upto) in
          let over : true ≡ false =
          sym (ended_there js (find (unmaps t b) js) refl early.u early.first early.early)
          ∙ ap (λ o. elim o as (λ _. Bool) [ None ↦ false | Some e ↦ nat_le e n ]) upto_is ∙ th.on in
          cc)
          (λ f. rest g f)
          (found_first (stands t n b) j js j.kind (mappings_in js) m f)

-- ---- from one answer to the next

module _ (t n : ℕ) (b : BufId) where
  -- where none stood, what stands begins there
  pub begins_now : (marks : List Mark) (m : Mapping) → find (stands t n b) (mappings_in marks) ≡ None → find (stands t (n + 1) b) (mappings_in marks) ≡ Some m → n < m.from
  begins_now marks m none found =
      let th = through_is t (n + 1) b m (found_passes (stands t (n + 1) b) (mappings_in marks) m found) in
      ⊎_elim (λ less. less)
      (λ low.
      let stood : true ≡ false =
      sym (through_from t n b m (record { own = th.own; same = th.same; begun = low; on = on_before m n th.on }))
      ∙ fails_found (stands t n b) (stands t (n + 1) b) (mappings_in marks) m none found in
      cc)
      (cases_lt n m.from)

  -- the first mark that would end it isn't there
  on_still : (o : Option Mark) → ((u : Mark) → o ≡ Some u → (u.after == (n + 1)) ≡ false) →
      elim (option_map (λ (m : Mark). m.after) o) as (λ _. Bool) [ None ↦ false | Some e ↦ nat_le e n ] ≡ false →
      elim (option_map (λ (m : Mark). m.after) o) as (λ _. Bool) [ None ↦ false | Some e ↦ nat_le e (n + 1) ] ≡ false
  on_still None other on = refl
  on_still (Some u) other on =
      ⊎_elim (λ less. lt-leb u.after (n + 1) less)
      (λ low.
      ⊎_elim
      (λ more. let at : u.after ≡ n + 1 = omega (arith, low, more) in let yes : true ≡ false = sym (eq-eqb u.after (n + 1) at) ∙ other u refl in cc)
      (λ less. let yes : true ≡ false = sym (le-leb u.after n less) ∙ on in cc)
      (cases_lt n u.after))
      (cases_lt (n + 1) u.after)

  goes_on : (j : Mark) (js : List Mark) (m : Mapping) (k : MarkKind) → Begins j js k m → list_any (ends t (n + 1) b) js ≡ false → Through t n b m → Through t (n + 1) b m
  goes_on j js m k begins none th =
      let own : j.thread ≡ t = ap (λ (x : Mapping). x.thread) begins.is ∙ th.own in
      let same : begins.b ≡ b = ap (λ (x : Mapping). x.b) begins.is ∙ th.same in
      let upto : end_of j.thread begins.b js ≡ m.upto = ap (λ (x : Mapping). x.upto) begins.is in
      let upto_is : end_of t b js ≡ m.upto = subst (λ s. end_of s b js ≡ m.upto) own (subst (λ c. end_of j.thread c js ≡ m.upto) same upto) in
      let low = th.begun in
      record {
        own = th.own;
        same = th.same;
        begun = omega (arith, low);
        on =
            subst (λ o. elim o as (λ _. Bool) [ None ↦ false | Some e ↦ nat_le e (n + 1) ] ≡ false) upto_is
            (on_still (find (unmaps t b) js) (λ u e. found_fails (unmaps t b) (λ (x : Mark). x.after == (n + 1)) js u none e)
            (subst (λ o. elim o as (λ _. Bool) [ None ↦ false | Some e ↦ nat_le e n ] ≡ false) (sym upto_is) th.on));
      }

  -- without a line there that ends it, what stood stands
  pub stands_still : (marks : List Mark) (m : Mapping) → are_in_order marks ≡ true → list_any (ends t (n + 1) b) marks ≡ false → find (stands t n b) (mappings_in marks) ≡ Some m
      → find (stands t (n + 1) b) (mappings_in marks) ≡ Some m
  stands_still [] m order none f = cc
  stands_still (j ∷ js) m order none f = by_kind j.kind f (stands_still js m (order_behind j js order) rest_none)
    where
      rest_none : list_any (ends t (n + 1) b) js ≡ false
      rest_none = by (ends t (n + 1) b j) none
        where
          by : (a : Bool) → (a || list_any (ends t (n + 1) b) js) ≡ false → list_any (ends t (n + 1) b) js ≡ false
          by true g = cc
          by false g = g

      mapped : (c : BufId) (p q : Bool) → stands t n b (begun j js c) ≡ p → stands t (n + 1) b (begun j js c) ≡ q → cond p (Some (begun j js c)) (find (stands t n b) (mappings_in js)) ≡ Some m
          → (find (stands t n b) (mappings_in js) ≡ Some m → find (stands t (n + 1) b) (mappings_in js) ≡ Some m)
          → cond q (Some (begun j js c)) (find (stands t (n + 1) b) (mappings_in js)) ≡ Some m
      mapped c true true e d g on = g
      mapped c true false e d g on =
          let still = goes_on j js (begun j js c) (mark.Map c) (record { b = c; kind = refl; is = refl }) rest_none (through_is t n b (begun j js c) e) in
          let yes : true ≡ false = sym (through_from t (n + 1) b (begun j js c) still) ∙ d in
          cc
      mapped c false false e d g on = on g
      mapped c false true e d g on =
          let now = through_is t (n + 1) b (begun j js c) d in
          let th = through_is t n b m (found_passes (stands t n b) (mappings_in js) m g) in
          let low : j.after ≤ m.from = from_behind j js (stands t n b) m (above_all j js order) g (th.own ∙ sym now.own) in
          let start = th.begun in
          let yes : true ≡ false = sym (through_from t n b (begun j js c) (record { own = now.own; same = now.same; begun = omega (arith, low, start); on = on_before (begun j js c) n now.on })) ∙ e in
          cc

      by_kind : (k : MarkKind) → find (stands t n b) (mapping_of j js k ++ mappings_in js) ≡ Some m
          → (find (stands t n b) (mappings_in js) ≡ Some m → find (stands t (n + 1) b) (mappings_in js) ≡ Some m)
          → find (stands t (n + 1) b) (mapping_of j js k ++ mappings_in js) ≡ Some m
      by_kind (mark.Map c) g on = mapped c (stands t n b (begun j js c)) (stands t (n + 1) b (begun j js c)) refl refl g on
      by_kind (mark.Unmap c) g on = on g
      by_kind mark.Mapped g on = on g
      by_kind (mark.Vmap va len c off) g on = on g
      by_kind (mark.Vunmap va len) g on = on g
      by_kind (mark.Vsubmit ops) g on = on g

-- ---- a mapping has a line

pub has_its_line : (t n : ℕ) (b : BufId) (marks : List Mark) (m : Mapping) → find (stands t n b) (mappings_in marks) ≡ Some m → list_any (maps_for t b) marks ≡ true
has_its_line t n b [] m f = cc
has_its_line t n b (j ∷ js) m f =
    ⊎_elim
    (λ begins.
    let th = through_is t n b m (found_passes (stands t n b) (mappings_in (j ∷ js)) m f) in
    let own : j.thread ≡ t = ap (λ (x : Mapping). x.thread) begins.is ∙ th.own in
    let same : begins.b ≡ b = ap (λ (x : Mapping). x.b) begins.is ∙ th.same in
    ap (λ (q : Bool). q || list_any (maps_for t b) js)
    (ap (λ (q : Bool). q && elim j.kind [ mark.Map c ↦ same_buffer b c | _ ↦ false ]) (eq-eqb j.thread t own)
    ∙ ap (λ k. elim k as (λ _. Bool) [ mark.Map c ↦ same_buffer b c | _ ↦ false ]) begins.kind
    ∙ ap (same_buffer b) same ∙ same_self b))
    (λ g. late (maps_for t b j) (has_its_line t n b js m g))
    (found_first (stands t n b) j js j.kind (mappings_in js) m f)
  where
    late : (p : Bool) → list_any (maps_for t b) js ≡ true → (p || list_any (maps_for t b) js) ≡ true
    late true h = refl
    late false h = h
