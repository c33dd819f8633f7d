-- Sorted tickets are the oldest, and then, sorted, those that come after it.
use Rattle.std.proofs.Common.{◌≡◌, ℕ, ◌<◌, ◌≤◌, Bool, true, false, cond, List, [], ◌∷◌, ◌++◌, Option, Some, None, refl, sym, ap, subst, ◌∙◌, arith}
use Rattle.std.proofs.lemmas.Bool.Decides.{nat_tests}
use Rattle.std.specs.Prelude.{filter, nat_le, nat_lt}
use Rattle.std.specs.List.{AllByRecursion}
use Rattle.ttm_base.specs.ListWords.{first_least, least_by}
use Rattle.journal_model.specs.statements.Scheduled.{Ticketed, by_stamp, sorted_by_stamp}
use Rattle.turn_order.specs.Tickets.{comes_after, older}

-- ---- the oldest of a list

-- of an element, the oldest so far and one more the order of comparing doesn't matter
first_older : (y t : Ticketed) (o : Option Ticketed) → first_least (λ x. x.stamp) y (Some (older o t)) ≡ older (Some (first_least (λ x. x.stamp) y o)) t
first_older y t None = refl
first_older y t (Some u) = by (nat_lt t.stamp u.stamp) (nat_lt u.stamp y.stamp) refl refl
  where
    by : (a b : Bool) → nat_lt t.stamp u.stamp ≡ a → nat_lt u.stamp y.stamp ≡ b
        → first_least (λ x. x.stamp) y (Some (cond a t u)) ≡ older (Some (cond b u y)) t
    by true true e f =
        let g : nat_lt t.stamp y.stamp ≡ true = grind (arith, nat_tests) in
        ap (λ b. cond b t y) g ∙ sym (ap (λ b. cond b t u) e)
    by true false e f = refl
    by false true e f = ap (λ b. cond b u y) f ∙ sym (ap (λ b. cond b t u) e)
    by false false e f =
        let g : nat_lt t.stamp y.stamp ≡ false = grind (arith, nat_tests) in
        ap (λ b. cond b u y) f ∙ sym (ap (λ b. cond b t y) g)

-- the oldest, where a ticket is put at the end
pub least_push : (xs : List Ticketed) (t : Ticketed) → least_by (λ x. x.stamp) (xs ++ t ∷ []) ≡ Some (older (least_by (λ x. x.stamp) xs) t)
least_push [] t = refl
least_push (y ∷ ys) t =
    ap (λ o. Some (first_least (λ x. x.stamp) y o)) (least_push ys t) ∙ ap Some (first_older y t (least_by (λ x. x.stamp) ys))

-- only an empty list has no oldest
pub none_least : (xs : List Ticketed) → least_by (λ x. x.stamp) xs ≡ None → xs ≡ []
none_least [] e = refl
none_least (x ∷ xs) e = cc

chosen : (P : Ticketed → Type 0) (u x m : Ticketed) (b : Bool) → P u → P x → Some (cond b u x) ≡ Some m → P m
chosen P u x m true p q e = let it : u ≡ m = cc in subst P it p
chosen P u x m false p q e = let it : x ≡ m = cc in subst P it q

-- what holds of each ticket holds of the oldest
pub least_all : (P : Ticketed → Type 0) (xs : List Ticketed) (m : Ticketed) → AllByRecursion P xs → least_by (λ x. x.stamp) xs ≡ Some m → P m
least_all P [] m h e = cc
least_all P (x ∷ xs) m h e = by (least_by (λ x. x.stamp) xs) refl e (λ u f. least_all P xs u h.1 f)
  where
    by : (o : Option Ticketed) → least_by (λ x. x.stamp) xs ≡ o → Some (first_least (λ x. x.stamp) x o) ≡ Some m
        → ((u : Ticketed) → least_by (λ x. x.stamp) xs ≡ Some u → P u) → P m
    by None f g rest = let it : x ≡ m = cc in subst P it h.0
    by (Some u) f g rest = chosen P u x m (nat_lt u.stamp x.stamp) (rest u f) h.0 g

all_from : (low high : ℕ) (xs : List Ticketed) → low ≤ high → AllByRecursion (λ u. high ≤ u.stamp) xs → AllByRecursion (λ u. low ≤ u.stamp) xs
all_from low high [] l h = tt
all_from low high (x ∷ xs) l h = let k = h.0 in (omega arith, all_from low high xs l h.1)

-- no ticket is older than the oldest
pub least_low : (xs : List Ticketed) (m : Ticketed) → least_by (λ x. x.stamp) xs ≡ Some m → AllByRecursion (λ u. m.stamp ≤ u.stamp) xs
least_low [] m e = tt
least_low (x ∷ xs) m e = by (least_by (λ x. x.stamp) xs) refl e (λ u f. least_low xs u f)
  where
    by : (o : Option Ticketed) → least_by (λ x. x.stamp) xs ≡ o → Some (first_least (λ x. x.stamp) x o) ≡ Some m
        → ((u : Ticketed) → least_by (λ x. x.stamp) xs ≡ Some u → AllByRecursion (λ v. u.stamp ≤ v.stamp) xs)
        → AllByRecursion (λ v. m.stamp ≤ v.stamp) (x ∷ xs)
    by None f g rest =
        let it : x ≡ m = cc in
        subst (λ w. AllByRecursion (λ v. w.stamp ≤ v.stamp) (x ∷ xs)) it
        (omega arith, subst (λ ys. AllByRecursion (λ v. x.stamp ≤ v.stamp) ys) (sym (none_least xs f)) tt)
    by (Some u) f g rest = pick (nat_lt u.stamp x.stamp) refl g
      where
        pick : (b : Bool) → nat_lt u.stamp x.stamp ≡ b → Some (cond b u x) ≡ Some m → AllByRecursion (λ v. m.stamp ≤ v.stamp) (x ∷ xs)
        pick true k g =
            let it : u ≡ m = cc in
            let low : u.stamp ≤ x.stamp = grind (arith, nat_tests) in
            subst (λ w. AllByRecursion (λ v. w.stamp ≤ v.stamp) (x ∷ xs)) it (low, rest u f)
        pick false k g =
            let it : x ≡ m = cc in
            let low : x.stamp ≤ u.stamp = grind (arith, nat_tests) in
            subst (λ w. AllByRecursion (λ v. w.stamp ≤ v.stamp) (x ∷ xs)) it (omega arith, all_from x.stamp u.stamp xs low (rest u f))

-- ---- filtered lists

filtered_first : {X : Type 0} (p : X → Bool) (x : X) (xs : List X) → p x ≡ true → filter p (x ∷ xs) ≡ x ∷ filter p xs
filtered_first p x xs e = ap (λ b. cond b (x ∷ filter p xs) (filter p xs)) e

filtered_out : {X : Type 0} (p : X → Bool) (x : X) (xs : List X) → p x ≡ false → filter p (x ∷ xs) ≡ filter p xs
filtered_out p x xs e = ap (λ b. cond b (x ∷ filter p xs) (filter p xs)) e

-- where each element passes, all are kept
pub filter_keeps : {X : Type 0} (p : X → Bool) (xs : List X) → AllByRecursion (λ x. p x ≡ true) xs → filter p xs ≡ xs
filter_keeps p [] h = refl
filter_keeps p (x ∷ xs) h = filtered_first p x xs h.0 ∙ ap (λ ys. x ∷ ys) (filter_keeps p xs h.1)

-- what is kept passes
pub kept_passes : {X : Type 0} (p : X → Bool) (xs : List X) → AllByRecursion (λ x. p x ≡ true) (filter p xs)
kept_passes p [] = tt
kept_passes {X = X} p (x ∷ xs) = by (p x) refl (kept_passes p xs)
  where
    by : (b : Bool) → p x ≡ b → AllByRecursion (λ y. p y ≡ true) (filter p xs) → AllByRecursion (λ y. p y ≡ true) (cond b (x ∷ filter p xs) (filter p xs))
    by true e rest = (e, rest)
    by false e rest = rest

-- what holds of each element holds of those that are kept
pub kept_all : {X : Type 0} (P : X → Type 0) (p : X → Bool) (xs : List X) → AllByRecursion P xs → AllByRecursion P (filter p xs)
kept_all P p [] h = tt
kept_all {X = X} P p (x ∷ xs) h = by (p x) (kept_all P p xs h.1)
  where
    by : (b : Bool) → AllByRecursion P (filter p xs) → AllByRecursion P (cond b (x ∷ filter p xs) (filter p xs))
    by true rest = (h.0, rest)
    by false rest = rest

-- a test that is passed only where a first one is makes the first needless
pub filter_twice : {X : Type 0} (p q : X → Bool) (xs : List X) → ((x : X) → p x ≡ true → q x ≡ true) → filter p (filter q xs) ≡ filter p xs
filter_twice p q [] h = refl
filter_twice {X = X} p q (x ∷ xs) h = by (q x) (p x) refl refl (filter_twice p q xs h)
  where
    by : (a b : Bool) → q x ≡ a → p x ≡ b → filter p (filter q xs) ≡ filter p xs
        → filter p (cond a (x ∷ filter q xs) (filter q xs)) ≡ cond b (x ∷ filter p xs) (filter p xs)
    by true b e f rest = ap (λ ys. cond (p x) (x ∷ ys) ys) rest ∙ ap (λ c. cond c (x ∷ filter p xs) (filter p xs)) f
    by false true e f rest = let g : q x ≡ true = h x f in cc
    by false false e f rest = rest

-- ---- which tickets come after which

after_itself : (t : Ticketed) → comes_after (Some t) t ≡ false
after_itself t = grind (arith, nat_tests)

after_younger : (u t : Ticketed) → u.stamp < t.stamp → comes_after (Some u) t ≡ true
after_younger u t h = grind (arith, nat_tests)

after_later : (t u : Ticketed) → t.stamp ≤ u.stamp → t.thread < u.thread → comes_after (Some t) u ≡ true
after_later t u h k = grind (arith, nat_tests)

-- what comes after a later ticket comes after the earlier one
pub after_both : (last : Option Ticketed) (t u : Ticketed) → comes_after last t ≡ true → comes_after (Some t) u ≡ true → comes_after last u ≡ true
after_both None t u h k = refl
after_both (Some l) t u h k = grind (arith, nat_tests)

after_each : (t : Ticketed) (xs : List Ticketed) → AllByRecursion (λ u. t.stamp ≤ u.stamp) xs → AllByRecursion (λ u. t.thread < u.thread) xs
    → AllByRecursion (λ u. comes_after (Some t) u ≡ true) xs
after_each t [] h k = tt
after_each t (x ∷ xs) h k = (after_later t x h.0 k.0, after_each t xs h.1 k.1)

-- ---- sorting

-- each ticket is of a higher thread than those before it
abbrev pub Rising : List Ticketed → Type 0
Rising [] = Unit {0}
Rising (t ∷ ts) = AllByRecursion (λ u. t.thread < u.thread) ts × Rising ts

-- so are those that are kept
pub rising_kept : (p : Ticketed → Bool) (ts : List Ticketed) → Rising ts → Rising (filter p ts)
rising_kept p [] r = tt
rising_kept p (t ∷ ts) r = by (p t) (rising_kept p ts r.1)
  where
    by : (b : Bool) → Rising (filter p ts) → Rising (cond b (t ∷ filter p ts) (filter p ts))
    by true rest = (kept_all (λ u. t.thread < u.thread) p ts r.0, rest)
    by false rest = rest

put_behind : (t u : Ticketed) (rest : List Ticketed) → u.stamp < t.stamp → by_stamp t (u ∷ rest) ≡ u ∷ by_stamp t rest
put_behind t u rest h =
    let e : nat_le t.stamp u.stamp ≡ false = grind (arith, nat_tests) in
    ap (λ b. cond b (t ∷ u ∷ rest) (u ∷ by_stamp t rest)) e

put_first : (t u : Ticketed) (rest : List Ticketed) → t.stamp ≤ u.stamp → by_stamp t (u ∷ rest) ≡ t ∷ u ∷ rest
put_first t u rest h =
    let e : nat_le t.stamp u.stamp ≡ true = grind (arith, nat_tests) in
    ap (λ b. cond b (t ∷ u ∷ rest) (u ∷ by_stamp t rest)) e

-- an older ticket stays first
older_first : (t u : Ticketed) (xs : List Ticketed) → u.stamp < t.stamp → sorted_by_stamp xs ≡ u ∷ sorted_by_stamp (filter (comes_after (Some u)) xs)
    → sorted_by_stamp (t ∷ xs) ≡ u ∷ sorted_by_stamp (filter (comes_after (Some u)) (t ∷ xs))
older_first t u xs h e =
    ap (by_stamp t) e
    ∙ (put_behind t u (sorted_by_stamp (filter (comes_after (Some u)) xs)) h
    ∙ ap (λ ts. u ∷ sorted_by_stamp ts) (sym (filtered_first (comes_after (Some u)) t xs (after_younger u t h))))

-- a ticket goes before those that come after it
itself_first : (t u : Ticketed) (xs rest : List Ticketed) → t.stamp ≤ u.stamp → AllByRecursion (λ v. comes_after (Some t) v ≡ true) xs
    → sorted_by_stamp xs ≡ u ∷ rest → sorted_by_stamp (t ∷ xs) ≡ t ∷ sorted_by_stamp (filter (comes_after (Some t)) (t ∷ xs))
itself_first t u xs rest h all e =
    ap (by_stamp t) e
    ∙ (put_first t u rest h
    ∙ (ap (λ ts. t ∷ ts) (sym e)
    ∙ ap (λ ts. t ∷ sorted_by_stamp ts) (sym (filtered_out (comes_after (Some t)) t xs (after_itself t) ∙ filter_keeps (comes_after (Some t)) xs all))))

-- one ticket alone
alone : (t : Ticketed) → sorted_by_stamp (t ∷ []) ≡ t ∷ sorted_by_stamp (filter (comes_after (Some t)) (t ∷ []))
alone t = ap (λ ts. t ∷ sorted_by_stamp ts) (sym (filtered_out (comes_after (Some t)) t [] (after_itself t)))

-- the oldest comes first, and then those that come after it
pub sorted_first : (xs : List Ticketed) (m : Ticketed) → Rising xs → least_by (λ x. x.stamp) xs ≡ Some m
    → sorted_by_stamp xs ≡ m ∷ sorted_by_stamp (filter (comes_after (Some m)) xs)
sorted_first [] m r e = cc
sorted_first (t ∷ xs) m r e = by (least_by (λ x. x.stamp) xs) refl e (λ u f. sorted_first xs u r.1 f)
  where
    by : (o : Option Ticketed) → least_by (λ x. x.stamp) xs ≡ o → Some (first_least (λ x. x.stamp) t o) ≡ Some m
        → ((u : Ticketed) → least_by (λ x. x.stamp) xs ≡ Some u → sorted_by_stamp xs ≡ u ∷ sorted_by_stamp (filter (comes_after (Some u)) xs))
        → sorted_by_stamp (t ∷ xs) ≡ m ∷ sorted_by_stamp (filter (comes_after (Some m)) (t ∷ xs))
    by None f g rest =
        let it : t ≡ m = cc in
        subst (λ w. sorted_by_stamp (t ∷ xs) ≡ w ∷ sorted_by_stamp (filter (comes_after (Some w)) (t ∷ xs))) it
        (subst (λ ys. sorted_by_stamp (t ∷ ys) ≡ t ∷ sorted_by_stamp (filter (comes_after (Some t)) (t ∷ ys))) (sym (none_least xs f)) (alone t))
    by (Some u) f g rest = pick (nat_lt u.stamp t.stamp) refl g
      where
        pick : (b : Bool) → nat_lt u.stamp t.stamp ≡ b → Some (cond b u t) ≡ Some m
            → sorted_by_stamp (t ∷ xs) ≡ m ∷ sorted_by_stamp (filter (comes_after (Some m)) (t ∷ xs))
        pick true k g =
            let it : u ≡ m = cc in
            let low : u.stamp < t.stamp = grind (arith, nat_tests) in
            subst (λ w. sorted_by_stamp (t ∷ xs) ≡ w ∷ sorted_by_stamp (filter (comes_after (Some w)) (t ∷ xs))) it (older_first t u xs low (rest u f))
        pick false k g =
            let it : t ≡ m = cc in
            let low : t.stamp ≤ u.stamp = grind (arith, nat_tests) in
            let all = after_each t xs (all_from t.stamp u.stamp xs low (least_low xs u f)) r.0 in
            subst (λ w. sorted_by_stamp (t ∷ xs) ≡ w ∷ sorted_by_stamp (filter (comes_after (Some w)) (t ∷ xs))) it
            (itself_first t u xs (sorted_by_stamp (filter (comes_after (Some u)) xs)) low all (rest u f))
