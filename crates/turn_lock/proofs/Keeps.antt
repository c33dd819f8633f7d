-- Each step of a turn lock keeps its rule.
use Rattle.std.proofs.Common.{◌≡◌, ℕ, zero, suc, ◌+◌, ◌-◌, ◌%◌, ◌^◌, ◌<◌, ◌≤◌, ◌≢◌, ◌⊎◌, eqb, List, [], ◌∷◌, ◌++◌, length, get_or, set, replicate, sym, refl, ap, ◌∙◌, subst, inl, inr, ⊎_elim, arith, le_refl, eq-eqb, ne_eqb, Option, Some, None, max, All, length-set, get_or-set_same, get_or-set_other}
use mathlib.Core.Option as maybe
use mathlib.Core.Option.{none, some, some-injective, some-ne-none}
use mathlib.Core.Logic.{dite}
use mathlib.Core.List.{IsPrefix}
use native.Mathlib.Decide.{ℕ_discrete}
use lib.ListN.{get_elem?}
use lib.Seq.{set-get_or}
use prog.Atomic.{either}
use Rattle.std.proofs.lemmas.List.Elements.{All-nil, All-cons, All-append, All-push, All-weaker}
use Rattle.atomic_table.specs.Table.{State, Me, step, Act, keeps, takes, gives, stepped, put_back, rest, opening, Final, Seen, Allows, Splits, Joins, Valid, carried_after}
use Rattle.atomic_table.proofs.Lists.{set_else, set_again, at_snoc, at_longer}
use Rattle.turn_lock.specs.Growing.{Grows}
use Rattle.turn_lock.specs.declared.Known.{Known}
use Rattle.turn_lock.specs.declared.Stage.{Stage}
use Rattle.turn_lock.specs.declared.Stage.TheVariants.{Idle, Waiting, Called, Holding}
use Rattle.turn_lock.specs.Turning.{Has, Holds, Knows, Once, times, total, staged, fenced, told, joined, spent_view, wrote, IsSeat, IsLine, InPlace, IsTurning, IsDone, IsTaken, drew, looked, called, published, advanced, settled, peeked, raised, start}
use Rattle.turn_lock.proofs.Prefixes.{longer_behind, longer_whole, shorter_behind, longer_length, prefix_self, prefix_trans, prefix_length}
use Rattle.turn_lock.proofs.Seats.{set_at, each_set, one_value, line_set, total_set, total_more, total_has, total_none, times_append, times_none, times_last, times_here}

has_self : (st : Stage) (n m : ℕ) → Has n st → Has m st → n ≡ m
has_self Idle n m h k = absurd h
has_self (Waiting a) n m h k = sym h ∙ k
has_self (Called a) n m h k = sym h ∙ k
has_self (Holding a) n m h k = sym h ∙ k

idle_holds : (st : Stage) → st ≡ Idle → Holds st → ⊥
idle_holds st e = subst (λ (z : Stage). Holds z → ⊥) (sym e) (λ h. h)

idle_has : (st : Stage) (n : ℕ) → st ≡ Idle → Has n st → ⊥
idle_has st n e = subst (λ (z : Stage). Has n z → ⊥) (sym e) (λ h. h)

waiting_holds : (st : Stage) (n : ℕ) → st ≡ Waiting n → Holds st → ⊥
waiting_holds st n e = subst (λ (z : Stage). Holds z → ⊥) (sym e) (λ h. h)

waiting_is : (st : Stage) (n m : ℕ) → st ≡ Waiting n → Has m st → m ≡ n
waiting_is st n m e h = sym (subst (λ (z : Stage). Has m z) e h)

module _ {I : Type 0} where
  holds_has : (sv t : ℕ) (current seen : List I) (st : Stage) → Knows sv t current seen st → Holds st → Has sv st
  holds_has sv t current seen Idle k h = absurd h
  holds_has sv t current seen (Waiting n) k h = absurd h
  holds_has sv t current seen (Called n) k h = absurd h
  holds_has sv t current seen (Holding n) k h = sym k.0

  -- what a stage knows stays so, where the ticket grows
  knows_on : (sv t t' : ℕ) (current seen : List I) (st : Stage) → t ≤ t' → Knows sv t current seen st → Knows sv t' current seen st
  knows_on sv t t' current seen Idle le k = tt
  knows_on sv t t' current seen (Waiting n) le k = let a = k.1 in (k.0, omega arith)
  knows_on sv t t' current seen (Called n) le k = let a = k.1 in (k.0, omega arith)
  knows_on sv t t' current seen (Holding n) le k = let a = k.1 in (k.0, omega arith, k.2)

  -- whoever does not have the number served may see the current list grow, or the next number served
  knows_not : (sv t sv' : ℕ) (current current' seen : List I) (st : Stage) → sv ≤ sv' → sv' ≤ sv + 1 → (Has sv st → ⊥) → Knows sv t current seen st → Knows sv' t current' seen st
  knows_not sv t sv' current current' seen Idle a b free k = tt
  knows_not sv t sv' current current' seen (Waiting n) a b free k = let x = k.0 in let y : sv ≢ n = λ e. free (sym e) in (omega arith, k.1)
  knows_not sv t sv' current current' seen (Called n) a b free k = absurd (free (sym k.0))
  knows_not sv t sv' current current' seen (Holding n) a b free k = absurd (free (sym k.0))

  has_below : (sv t : ℕ) (current seen : List I) (st : Stage) (n : ℕ) → Knows sv t current seen st → Has n st → (sv ≤ n) × (n < t)
  has_below sv t current seen Idle n k h = absurd h
  has_below sv t current seen (Waiting m) n k h = let a = k.0 in let b = k.1 in let e : m ≡ n = h in (omega arith, omega arith)
  has_below sv t current seen (Called m) n k h = let a = k.0 in let b = k.1 in let e : m ≡ n = h in (omega arith, omega arith)
  has_below sv t current seen (Holding m) n k h = let a = k.0 in let b = k.1 in let e : m ≡ n = h in (omega arith, omega arith)

  pub grown : (xs ys : List I) → Grows xs ys → IsPrefix xs ys
  grown xs ys (inl e) = subst (λ (l : List I). IsPrefix xs l) (sym e) (prefix_self xs)
  grown xs ys (inr e) = (e.0 ∷ [], sym e.1)

  holding_knows : (sv t : ℕ) (cur seen : List I) (st : Stage) (n : ℕ) → st ≡ Holding n → Knows sv t cur seen st → (sv ≡ n) × (n < t) × (seen ≡ cur)
  holding_knows sv t cur seen st n e k = subst (Knows sv t cur seen) e k

next_word : (x : ℕ) → x + 1 < 2 ^ 64 → (x + 1) % 2 ^ 64 ≡ x + 1
next_word x h = omega arith

-- the fence word of c is the word c + 3
word_at : (t sv k : ℕ) (fs : List ℕ) (c : ℕ) → get_or (t ∷ sv ∷ k ∷ fs) (c + 3) 0 ≡ get_or fs c 0
word_at t sv k fs c = let e : c + 3 ≡ suc (suc (suc c)) = omega arith in ap (λ (i : ℕ). get_or (t ∷ sv ∷ k ∷ fs) i 0) e

word_set : (t sv k : ℕ) (fs : List ℕ) (c x : ℕ) → set (t ∷ sv ∷ k ∷ fs) (c + 3) x ≡ t ∷ sv ∷ k ∷ set fs c x
word_set t sv k fs c x = let e : c + 3 ≡ suc (suc (suc c)) = omega arith in ap (λ (i : ℕ). set (t ∷ sv ∷ k ∷ fs) i x) e

module _ {V I R : Type 0} (list : V → List I) (root : V → R) (done : List I → ℕ → ℕ) (r : R) (m : ℕ) where
  abbrev D : Type 0
  D = Known I R

  abbrev St : Type 0
  St = State (Option V) D

  abbrev M : Type 0
  M = Me (Option V) D

  abbrev Rule : St → Type 0
  Rule = IsTurning list root done r m

  abbrev Homes : Type 0
  Homes = List (maybe.Option (Option V))

  abbrev Place : ℕ → List I → Homes → List D → Type 0
  Place sv cur homes vs = InPlace list root done sv cur r homes vs

  abbrev Home : List I → Homes → List D → Type 0
  Home cur homes vs = (y : V) × (homes ≡ some (Some y) ∷ []) × (list y ≡ cur) × (root y ≡ r) × ((j : ℕ) (v : D) → get_elem? vs j ≡ some v → Holds v.stage → ⊥)

  abbrev Long : List I → List D → Type 0
  Long cur vs = (j : ℕ) × (u : D) × (get_elem? vs j ≡ some u) × (u.seen ≡ cur)

  abbrev Apart : List D → Type 0
  Apart vs = (p : ℕ) → total (λ (v : D). times p v.own) vs ≤ 1

  -- a seat can go on from these words
  abbrev Goes : Homes → List D → ℕ → M → ℕ → (ℕ → ℕ) → (ℕ → M → Type 0) → List ℕ → Type 0
  Goes homes vs id me i f then ws = (w : D) × (a : Act (Option V)) × Valid homes me.1 a × Rule (stepped record { words = ws; homes = homes; views = vs } i (f (get_or ws i 0)) id me.1 w a) × then (get_or ws i 0) (w, carried_after me.1 a)

  -- the longest list is still some seat's
  longest_set : (vs : List D) (me : ℕ) (v w : D) (cur : List I) → get_elem? vs me ≡ some v → w.seen ≡ v.seen → Long cur vs → Long cur (set vs me w)
  longest_set vs me v w cur at same old = dite (ℕ_discrete old.0 me)
      (λ e. (me, w, set_at vs me v w at, same ∙ (ap (λ (z : D). z.seen) (one_value vs me v old.1 at (subst (λ (k : ℕ). get_elem? vs k ≡ some old.1) e old.2)) ∙ old.3)))
      (λ ne. (old.0, old.1, set_else vs me old.0 w ne ∙ old.2, old.3))

  apart_set : (vs : List D) (me : ℕ) (v w : D) → get_elem? vs me ≡ some v → w.own ≡ v.own → Apart vs → Apart (set vs me w)
  apart_set vs me v w at same apart p = let h = total_set (λ (v : D). times p v.own) vs me v w at in let e : times p w.own ≡ times p v.own = ap (times p) same in let b = apart p in omega arith

  own_once : (vs : List D) (me : ℕ) (v : D) → get_elem? vs me ≡ some v → Apart vs → Once v.own
  own_once vs me v at apart p = let h = total_has (λ (v : D). times p v.own) vs me v at in let b = apart p in omega arith

  -- a seat's stage changes, and it held no turn and holds none
  place_set : (sv : ℕ) (cur : List I) (homes : Homes) (vs : List D) (me : ℕ) (v w : D) → get_elem? vs me ≡ some v → (Holds v.stage → ⊥) → (Holds w.stage → ⊥)
      → Place sv cur homes vs → Place sv cur homes (set vs me w)
  place_set sv cur homes vs me v w at idle still (inl h) = inl (h.0, h.1, h.2, h.3, each_set (λ (z : D). Holds z.stage → ⊥) vs me w still (λ j u _ e. h.4 j u e))
  place_set sv cur homes vs me v w at idle still (inr h) = let j = h.1.0 in let u = h.1.1 in
      let other : j ≢ me = λ e. idle (subst Holds (sym (ap (λ (z : D). z.stage) (one_value vs me v u at (subst (λ (k : ℕ). get_elem? vs k ≡ some u) e h.1.2)) ∙ h.1.3)) tt) in
      inr (h.0, (j, u, set_else vs me j w other ∙ h.1.2, h.1.3))

  -- its stage stays
  place_same : (sv : ℕ) (cur : List I) (homes : Homes) (vs : List D) (me : ℕ) (v w : D) → get_elem? vs me ≡ some v → w.stage ≡ v.stage → Place sv cur homes vs → Place sv cur homes (set vs me w)
  place_same sv cur homes vs me v w at same (inl h) = inl (h.0, h.1, h.2, h.3, each_set (λ (z : D). Holds z.stage → ⊥) vs me w (subst (λ (z : Stage). Holds z → ⊥) (sym same) (h.4 me v at)) (λ j u _ e. h.4 j u e))
  place_same sv cur homes vs me v w at same (inr h) = let j = h.1.0 in let u = h.1.1 in inr (
    h.0,
    dite (ℕ_discrete j me)
        (λ e. (me, w, set_at vs me v w at, same ∙ (ap (λ (z : D). z.stage) (one_value vs me v u at (subst (λ (k : ℕ). get_elem? vs k ≡ some u) e h.1.2)) ∙ h.1.3)))
        (λ ne. (j, u, set_else vs me j w ne ∙ h.1.2, h.1.3)),
  )

  -- a seat at other numbers
  seat_on : (sv t sv' t' : ℕ) (cur : List I) (fs : List ℕ) (v : D) (st : Stage) → IsSeat sv t cur fs r v → Knows sv' t' cur v.seen st → IsSeat sv' t' cur fs r (staged v st)
  seat_on sv t sv' t' cur fs v st seat k = record { knows = k; behind = seat.behind; also_behind = seat.also_behind; owns = seat.owns; rooted = seat.rooted; reached = seat.reached }

  other_on : (sv t sv' t' : ℕ) (cur cur' : List I) (fs : List ℕ) (v : D) → IsSeat sv t cur fs r v → Knows sv' t' cur' v.seen v.stage → IsPrefix cur cur' → IsSeat sv' t' cur' fs r v
  other_on sv t sv' t' cur cur' fs v seat k more = record { knows = k; behind = prefix_trans v.seen cur cur' seat.behind more; also_behind = seat.also_behind; owns = seat.owns; rooted = seat.rooted; reached = seat.reached }

  -- nothing changes
  unmoved : (ws : List ℕ) (homes : Homes) (vs : List D) (me : ℕ) (v : D) → Rule record { words = ws; homes = homes; views = vs } → get_elem? vs me ≡ some v → Rule record { words = ws; homes = homes; views = set vs me v }
  unmoved ws homes vs me v rule at = subst (λ (z : List D). Rule record { words = ws; homes = homes; views = z }) (sym (set_again vs me v at)) rule

  pub draws : (slots id : ℕ) (me : M) (old : ℕ) → me.0.stage ≡ Idle → old + 1 < 2 ^ 64
      → Allows Rule slots id me 0 (λ x. either (eqb x old) (old + 1) x) (drew list root done (step slots 0 old (old + 1) none) me)
  draws slots id me old idle small s rule _ at _ =
      let then : ℕ → M → Type 0 = drew list root done (step slots 0 old (old + 1) none) me in
      let t : ℕ = rule.ticket in let sv : ℕ = rule.served in let cur : List I = rule.current in let fs : List ℕ = rule.fence_words in let f : ℕ → ℕ = λ x. either (eqb x old) (old + 1) x in
      let order = rule.in_order in
      subst (Goes s.homes s.views id me 0 f then) (sym rule.words) (dite (ℕ_discrete t old)
      (λ hit. let w : D = staged me.0 (Waiting old) in (
        w,
        keeps,
        tt,
        subst (λ b. Rule record { words = either b (old + 1) t ∷ sv ∷ length cur ∷ fs; homes = s.homes; views = set s.views id w }) (sym (eq-eqb t old hit)) record {
          ticket = old + 1;
          served = sv;
          current = cur;
          fence_words = fs;
          words = refl;
          many = rule.many;
          in_order = omega arith;
          fits = omega arith;
          line = line_set r sv t cur fs sv (old + 1) cur fs s.views id me.0 w rule.line at
              (seat_on sv t sv (old + 1) cur fs me.0 (Waiting old) (rule.line.each id me.0 at) (omega arith, omega arith))
              (λ j u ne e. let seat = rule.line.each j u e in other_on sv t sv (old + 1) cur cur fs u seat (knows_on sv t (old + 1) cur u.seen u.stage (omega arith) seat.knows) (prefix_self cur))
              (λ n j u ne e has mine. let b = has_below sv t cur u.seen u.stage n (rule.line.each j u e).knows has in let b1 = b.1 in let same : old ≡ n = mine in absurd (omega arith))
              (λ n low high. dite (ℕ_discrete old n) (λ e. inl e) (λ ne. inr (low, omega arith, idle_has me.0.stage n idle)));
          longest = longest_set s.views id me.0 w cur at refl rule.longest;
          in_place = place_set sv cur s.homes s.views id me.0 w at (idle_holds me.0.stage idle) (λ h. h) rule.in_place;
          apart = apart_set s.views id me.0 w at refl rule.apart;
          done_all = rule.done_all;
        },
        (refl, (λ _. refl), (λ ne. absurd (ne hit))),
      ))
      (λ miss. (
        me.0,
        keeps,
        tt,
        subst (λ b. Rule record { words = either b (old + 1) t ∷ sv ∷ length cur ∷ fs; homes = s.homes; views = set s.views id me.0 }) (sym (ne_eqb t old miss))
            (unmoved (t ∷ sv ∷ length cur ∷ fs) s.homes s.views id me.0 (subst (λ (ws : List ℕ). Rule record { words = ws; homes = s.homes; views = s.views }) rule.words rule) at),
        (refl, (λ e. absurd (miss e)), (λ _. refl)),
      )))

  -- the seat that has the number served is alone with it
  not_mine : (sv t : ℕ) (cur : List I) (fs : List ℕ) (vs : List D) → IsLine sv t cur fs r vs → (n id : ℕ) (v : D) → get_elem? vs id ≡ some v → Has n v.stage
      → (j : ℕ) (u : D) → j ≢ id → get_elem? vs j ≡ some u → Has n u.stage → ⊥
  not_mine sv t cur fs vs line n id v at has j u other e h = other (line.alone n j id u v e at h has)

  -- a view with a new stage of the same number
  restaged : (sv t : ℕ) (cur : List I) (fs : List ℕ) (vs : List D) (id n : ℕ) (v w : D) → IsLine sv t cur fs r vs → get_elem? vs id ≡ some v → Has n v.stage → ((k : ℕ) → Has k w.stage → k ≡ n) → Has n w.stage → IsSeat sv t cur fs r w → IsLine sv t cur fs r (set vs id w)
  restaged sv t cur fs vs id n v w line at had only has seat = line_set r sv t cur fs sv t cur fs vs id v w line at seat
      (λ j u _ e. line.each j u e)
      (λ k j u other e h mine. not_mine sv t cur fs vs line n id v at had j u other e (subst (λ (z : ℕ). Has z u.stage) (only k mine) h))
      (λ k low high. dite (ℕ_discrete k n)
      (λ e. inl (subst (λ (z : ℕ). Has z w.stage) (sym e) has))
      (λ ne. inr (low, high, λ h. ne (has_self v.stage k n h had))))

  done_below : (cur : List I) (fs : List ℕ) (v : D) → All (λ f. f.1 ≤ get_or fs f.0 0) v.fences → ((c : ℕ) → get_or fs c 0 ≤ done cur c) → IsDone list root done cur v
  done_below cur fs v reached all = All-weaker (λ (f : ℕ × ℕ). f.1 ≤ get_or fs f.0 0) (λ f. f.1 ≤ done cur f.0) (λ f h. let a = all f.0 in omega arith) v.fences reached

  pub looks : (slots id : ℕ) (me : M) (n : ℕ) → me.0.stage ≡ Waiting n → me.1 ≡ []
      → Allows Rule slots id me 1 (λ x. x) (looked list root done (step slots 1 0 0 none) me)
  looks slots id me n waits empty s rule _ at _ =
      let then : ℕ → M → Type 0 = looked list root done (step slots 1 0 0 none) me in
      let t : ℕ = rule.ticket in let sv : ℕ = rule.served in let cur : List I = rule.current in let fs : List ℕ = rule.fence_words in
      let had : Has n me.0.stage = subst (λ (z : Stage). Has n z) (sym waits) refl in
      let seat = rule.line.each id me.0 at in
      let only : (k : ℕ) → me.0.stage ≡ Waiting k → k ≡ n = λ k e. waiting_is me.0.stage n k waits (subst (λ (z : Stage). Has k z) (sym e) refl) in
      subst (Goes s.homes s.views id me 1 (λ x. x) then) (sym rule.words) (dite (ℕ_discrete sv n)
      (λ hit. ⊎_elim
      (λ (h : Home cur s.homes s.views).
      let y : V = h.0 in let w : D = record me.0 { stage = Holding n; seen = list y; root = Some (root y) } in
      let more : IsPrefix me.0.seen (list y) = subst (λ (l : List I). IsPrefix me.0.seen l) (sym h.2) seat.behind in
      let len = prefix_length me.0.seen (list y) more in (
        w,
        takes 0 (Some y),
        subst (λ (hs : Homes). get_elem? hs 0 ≡ some (some (Some y))) (sym h.1) refl,
        record {
          ticket = t;
          served = sv;
          current = cur;
          fence_words = fs;
          words = refl;
          many = rule.many;
          in_order = rule.in_order;
          fits = rule.fits;
          line = restaged sv t cur fs s.views id n me.0 w rule.line at had (λ k e. sym e) refl record {
            knows = (hit, (has_below sv t cur me.0.seen me.0.stage n seat.knows had).1, h.2);
            behind = subst (λ (l : List I). IsPrefix l cur) (sym h.2) (prefix_self cur);
            also_behind = prefix_trans me.0.also me.0.seen (list y) seat.also_behind more;
            owns = All-weaker (λ p. p < length me.0.seen) (λ p. p < length (list y)) (λ p a. omega arith) me.0.own seat.owns;
            rooted = λ x e. let same : root y ≡ x = cc in sym same ∙ h.3;
            reached = seat.reached;
          };
          longest = (id, w, set_at s.views id me.0 w at, h.2);
          in_place = inr (ap (λ (hs : Homes). set hs 0 none) h.1, (id, w, set_at s.views id me.0 w at, ap Holding (sym hit)));
          apart = apart_set s.views id me.0 w at refl rule.apart;
          done_all = rule.done_all;
        },
        (λ k is. (
          (λ _. (
            y,
            ap (λ (z : ℕ). record me.0 { stage = Holding z; seen = list y; root = Some (root y) }) (sym (only k is)),
            ap (λ (c : List (ℕ × Option V)). (0, Some y) ∷ c) empty,
            record {
              before = more;
              same_root = λ x e. h.3 ∙ sym (seat.rooted x e);
              once = own_once s.views id me.0 at rule.apart;
              within = seat.owns;
              fences = subst (λ (l : List I). IsDone list root done l me.0) (sym h.2) (done_below cur fs me.0 seat.reached rule.done_all);
            },
          )),
          (λ ne. absurd (ne (hit ∙ sym (only k is)))),
        )),
      ))
      (λ h. let j = h.1.0 in let u = h.1.1 in
      let same : j ≡ id = rule.line.alone n j id u me.0 h.1.2 at (subst (λ (z : Stage). Has n z) (sym h.1.3) hit) had in
      let is : u ≡ me.0 = one_value s.views id u me.0 (subst (λ (k : ℕ). get_elem? s.views k ≡ some u) same h.1.2) at in
      absurd (waiting_holds me.0.stage n waits (subst Holds (sym h.1.3 ∙ ap (λ (z : D). z.stage) is) tt)))
      rule.in_place)
      (λ miss. (
        me.0,
        keeps,
        tt,
        unmoved (t ∷ sv ∷ length cur ∷ fs) s.homes s.views id me.0 (subst (λ (ws : List ℕ). Rule record { words = ws; homes = s.homes; views = s.views }) rule.words rule) at,
        (λ k is. ((λ e. absurd (miss (e ∙ only k is))), (λ _. refl))),
      )))

  pub calls : (slots id : ℕ) (me : M) (n : ℕ) → me.0.stage ≡ Waiting n
      → Allows Rule slots id me 1 (λ x. x) (called list root done (step slots 1 0 0 none) me)
  calls slots id me n waits s rule _ at _ =
      let then : ℕ → M → Type 0 = called list root done (step slots 1 0 0 none) me in
      let t : ℕ = rule.ticket in let sv : ℕ = rule.served in let cur : List I = rule.current in let fs : List ℕ = rule.fence_words in
      let had : Has n me.0.stage = subst (λ (z : Stage). Has n z) (sym waits) refl in
      let seat = rule.line.each id me.0 at in
      let only : (k : ℕ) → me.0.stage ≡ Waiting k → k ≡ n = λ k e. waiting_is me.0.stage n k waits (subst (λ (z : Stage). Has k z) (sym e) refl) in
      subst (Goes s.homes s.views id me 1 (λ x. x) then) (sym rule.words) (dite (ℕ_discrete sv n)
      (λ hit. let w : D = staged me.0 (Called n) in (
        w,
        keeps,
        tt,
        record {
          ticket = t;
          served = sv;
          current = cur;
          fence_words = fs;
          words = refl;
          many = rule.many;
          in_order = rule.in_order;
          fits = rule.fits;
          line = restaged sv t cur fs s.views id n me.0 w rule.line at had (λ k e. sym e) refl
              (seat_on sv t sv t cur fs me.0 (Called n) seat (hit, (has_below sv t cur me.0.seen me.0.stage n seat.knows had).1));
          longest = longest_set s.views id me.0 w cur at refl rule.longest;
          in_place = place_set sv cur s.homes s.views id me.0 w at (waiting_holds me.0.stage n waits) (λ h. h) rule.in_place;
          apart = apart_set s.views id me.0 w at refl rule.apart;
          done_all = rule.done_all;
        },
        (λ k is. (refl, (λ _. ap (λ (z : ℕ). staged me.0 (Called z)) (sym (only k is))), (λ ne. absurd (ne (hit ∙ sym (only k is)))))),
      ))
      (λ miss. (
        me.0,
        keeps,
        tt,
        unmoved (t ∷ sv ∷ length cur ∷ fs) s.homes s.views id me.0 (subst (λ (ws : List ℕ). Rule record { words = ws; homes = s.homes; views = s.views }) rule.words rule) at,
        (λ k is. (refl, (λ e. absurd (miss (e ∙ only k is))), (λ _. refl))),
      )))

  pub settles : (slots id : ℕ) (me : M) → Allows Rule slots id me 0 (λ x. x) (settled list root done (step slots 0 0 0 none) me)
  settles slots id me s rule _ at _ =
      let t : ℕ = rule.ticket in let sv : ℕ = rule.served in let cur : List I = rule.current in let fs : List ℕ = rule.fence_words in
      subst (Goes s.homes s.views id me 0 (λ x. x) (settled list root done (step slots 0 0 0 none) me)) (sym rule.words) (
        me.0,
        keeps,
        tt,
        unmoved (t ∷ sv ∷ length cur ∷ fs) s.homes s.views id me.0 (subst (λ (ws : List ℕ). Rule record { words = ws; homes = s.homes; views = s.views }) rule.words rule) at,
        (refl, (rule.line.each id me.0 at).also_behind, own_once s.views id me.0 at rule.apart, (rule.line.each id me.0 at).owns),
      )

  abbrev carried_value : V → List (ℕ × Option V) → V
  carried_value d [] = d
  carried_value d (x ∷ xs) = elim x.1 [ Some y ↦ y | None ↦ d ]

  -- the new positions of a seat whose list became ys
  own_after : (v : D) (ys : List I) → Grows v.seen ys → List ℕ
  own_after v ys (inl e) = v.own
  own_after v ys (inr e) = v.own ++ length v.seen ∷ []

  no_longer : (xs : List I) (e : I) → xs ≡ xs ++ e ∷ [] → ⊥
  no_longer [] e h = absurd cc
  no_longer (x ∷ xs) e h = no_longer xs e cc

  one_more : (xs ys : List I) (e : I) → ys ≡ xs ++ e ∷ [] → length ys ≡ suc (length xs)
  one_more xs ys e h = ap length h ∙ go xs
    where
      go : (zs : List I) → length (zs ++ e ∷ []) ≡ suc (length zs)
      go [] = refl
      go (z ∷ zs) = ap suc (go zs)

  module _ (slots id : ℕ) (me : M) (n k : ℕ) (y : V) (holds : me.0.stage ≡ Holding n) (carries : me.1 ≡ (0, Some y) ∷ []) (rooted : me.0.root ≡ Some (root y)) (counts : k ≡ length (list y)) (s : St) (rule : Rule s) (at : get_elem? s.views id ≡ some me.0) where
    abbrev the_ticket : ℕ
    the_ticket = rule.ticket

    abbrev the_served : ℕ
    the_served = rule.served

    abbrev the_current : List I
    the_current = rule.current

    abbrev the_words : List ℕ
    the_words = rule.fence_words

    abbrev then : ℕ → M → Type 0
    then _ = published list root done (step slots 2 k 0 none) me k

    -- the list in hand becomes the current one
    publish_as : (own : List ℕ) → IsPrefix me.0.seen (list y) → All (λ p. p < length (list y)) own → ((p : ℕ) → total (λ (v : D). times p v.own) (set s.views id (wrote list root done me.0 (list y) own)) ≤ 1)
        → ((c : ℕ) → done me.0.seen c ≤ done (list y) c) → then k (wrote list root done me.0 (list y) own, me.1)
        → Goes s.homes s.views id me 2 (λ _. k) then s.words
    publish_as own more owns apart up tells =
        let had : Has n me.0.stage = subst (λ (z : Stage). Has n z) (sym holds) refl in
        let seat = rule.line.each id me.0 at in
        let mine = holding_knows the_served the_ticket the_current me.0.seen me.0.stage n holds seat.knows in
        let w : D = wrote list root done me.0 (list y) own in
        let longer_now : IsPrefix the_current (list y) = subst (λ (l : List I). IsPrefix l (list y)) mine.2 more in
        let has_sv : Has the_served me.0.stage = subst (λ (z : ℕ). Has z me.0.stage) (sym mine.0) had in
        subst (Goes s.homes s.views id me 2 (λ _. k) then) (sym rule.words) (
          w,
          keeps,
          tt,
          record {
            ticket = the_ticket;
            served = the_served;
            current = list y;
            fence_words = the_words;
            words = ap (λ (z : ℕ). the_ticket ∷ the_served ∷ z ∷ the_words) counts;
            many = rule.many;
            in_order = rule.in_order;
            fits = rule.fits;
            line = line_set r the_served the_ticket the_current the_words the_served the_ticket (list y) the_words s.views id me.0 w rule.line at
                record {
                  knows = subst (Knows the_served the_ticket (list y) (list y)) (sym holds) (mine.0, mine.1, refl);
                  behind = prefix_self (list y);
                  also_behind = prefix_trans me.0.also me.0.seen (list y) seat.also_behind more;
                  owns = owns;
                  rooted = seat.rooted;
                  reached = seat.reached;
                }
                (λ j u other e. let that = rule.line.each j u e in other_on the_served the_ticket the_served the_ticket the_current (list y) the_words u that
                (knows_not the_served the_ticket the_served the_current (list y) u.seen u.stage (omega arith) (omega arith) (not_mine the_served the_ticket the_current the_words s.views rule.line the_served id me.0 at has_sv j u other e) that.knows) longer_now)
                (λ i j u other e h has. not_mine the_served the_ticket the_current the_words s.views rule.line i id me.0 at has j u other e h)
                (λ i low high. dite (ℕ_discrete i n)
                (λ e. inl (subst (λ (z : ℕ). Has z me.0.stage) (sym e) had))
                (λ ne. inr (low, high, λ h. ne (has_self me.0.stage i n h had))));
            longest = (id, w, set_at s.views id me.0 w at, refl);
            in_place = ⊎_elim
                (λ h. absurd (h.4 id me.0 at (subst Holds (sym holds) tt)))
                (λ h. inr (h.0, (id, w, set_at s.views id me.0 w at, holds ∙ ap Holding (sym mine.0))))
                rule.in_place;
            apart = apart;
            done_all = λ c. let a = rule.done_all c in let b = up c in let e : done me.0.seen c ≡ done the_current c = ap (λ (l : List I). done l c) mine.2 in omega arith;
          },
          tells,
        )

    same_value : (z : V) → me.1 ≡ (0, Some z) ∷ [] → y ≡ z
    same_value z is = ap (carried_value y) (sym carries ∙ is)

    pub publishes_at : ((xs zs : List I) (c : ℕ) → done xs c ≤ done (xs ++ zs) c) → Grows me.0.seen (list y) → Goes s.homes s.views id me 2 (λ _. k) then s.words
    publishes_at up (inl e) = publish_as me.0.own (subst (λ (l : List I). IsPrefix me.0.seen l) (sym e) (prefix_self me.0.seen))
        (subst (λ (l : List I). All (λ p. p < length l) me.0.own) (sym e) (rule.line.each id me.0 at).owns)
        (apart_set s.views id me.0 (wrote list root done me.0 (list y) me.0.own) at refl rule.apart)
        (λ c. let same : done me.0.seen c ≡ done (list y) c = ap (λ (l : List I). done l c) (sym e) in omega arith)
        (λ z is. let same = same_value z is in (
          me.0.own,
          ap (λ (q : V). (wrote list root done me.0 (list q) me.0.own, me.1)) same,
          (λ _. refl),
          (λ x longer_by. absurd (no_longer me.0.seen x (sym e ∙ (ap list same ∙ longer_by)))),
          own_once s.views id me.0 at rule.apart,
          subst (λ (l : List I). All (λ p. p < length l) me.0.own) (sym e ∙ ap list same) (rule.line.each id me.0 at).owns,
        ))
    publishes_at up (inr e) = let last : ℕ = length me.0.seen in let own : List ℕ = me.0.own ++ last ∷ [] in let w : D = wrote list root done me.0 (list y) own in
        let len : length (list y) ≡ suc last = one_more me.0.seen (list y) e.0 e.1 in
        let seat = rule.line.each id me.0 at in let old_owns = seat.owns in
        let mine = holding_knows the_served the_ticket the_current me.0.seen me.0.stage n holds seat.knows in
        let none_here : total (λ (v : D). times last v.own) s.views ≡ 0 = total_none (λ (v : D). times last v.own) s.views (λ j v e. let that = rule.line.each j v e in
        let short = prefix_length v.seen the_current that.behind in let same : length me.0.seen ≡ length the_current = ap length mine.2 in
        times_none last (length v.seen) v.own that.owns (omega arith)) in
        let within : All (λ p. p < length (list y)) own = All-push (λ p. p < length (list y)) me.0.own last (All-weaker (λ p. p < last) (λ p. p < length (list y)) (λ p a. omega arith) me.0.own old_owns) (omega arith) in
        let apart : Apart (set s.views id w) = λ p. let h = total_set (λ (v : D). times p v.own) s.views id me.0 w at in let b = rule.apart p in dite (ℕ_discrete p last)
        (λ is. let z : total (λ (v : D). times p v.own) s.views ≡ 0 = subst (λ (q : ℕ). total (λ (v : D). times q v.own) s.views ≡ 0) (sym is) none_here in
        let o : times p me.0.own ≡ 0 = subst (λ (q : ℕ). times q me.0.own ≡ 0) (sym is) (times_none last last me.0.own old_owns (le_refl last)) in
        let new : times p own ≡ 1 = subst (λ (q : ℕ). times q own ≡ 1) (sym is) (times_here last me.0.own (times_none last last me.0.own old_owns (le_refl last))) in omega arith)
        (λ not. let same : times p own ≡ times p me.0.own = times_last p last me.0.own not in omega arith) in
        publish_as own (e.0 ∷ [], sym e.1)
        within
        apart
        (λ c. subst (λ (l : List I). done me.0.seen c ≤ done l c) (sym e.1) (up me.0.seen (e.0 ∷ []) c))
        (λ z is. let same = same_value z is in (
          own,
          ap (λ (q : V). (wrote list root done me.0 (list q) own, me.1)) same,
          (λ kept. absurd (no_longer me.0.seen e.0 (sym kept ∙ (ap list (sym same) ∙ e.1)))),
          (λ x _. refl),
          own_once (set s.views id w) id w (set_at s.views id me.0 w at) apart,
          subst (λ (l : List I). All (λ p. p < length l) own) (ap list same) within,
        ))

  pub publishes : (slots id : ℕ) (me : M) (n k : ℕ) (y : V) → ((xs zs : List I) (c : ℕ) → done xs c ≤ done (xs ++ zs) c) → me.0.stage ≡ Holding n → me.1 ≡ (0, Some y) ∷ [] → Grows me.0.seen (list y) → me.0.root ≡ Some (root y) → k ≡ length (list y)
      → Allows Rule slots id me 2 (λ _. k) (λ _. published list root done (step slots 2 k 0 none) me k)
  publishes slots id me n k y up holds carries grows rooted counts s rule _ at _ = publishes_at slots id me n k y holds carries rooted counts s rule at up grows

  nobody : (sv t : ℕ) (cur : List I) (fs : List ℕ) (vs : List D) → IsLine sv t cur fs r vs → (id : ℕ) (v : D) → get_elem? vs id ≡ some v → Has sv v.stage
      → (j : ℕ) (u : D) → j ≢ id → get_elem? vs j ≡ some u → Holds u.stage → ⊥
  nobody sv t cur fs vs line id v at has j u other e holds = not_mine sv t cur fs vs line sv id v at has j u other e (holds_has sv t cur u.seen u.stage (line.each j u e).knows holds)

  put_home : (sv : ℕ) (cur : List I) (homes : Homes) (vs : List D) (y : V) → Place sv cur homes vs → put_back homes ((0, Some y) ∷ []) ≡ some (Some y) ∷ []
  put_home sv cur homes vs y (inl h) = ap (λ (hs : Homes). set hs 0 (some (Some y))) h.1
  put_home sv cur homes vs y (inr h) = ap (λ (hs : Homes). set hs 0 (some (Some y))) h.0

  pub advances : (slots id : ℕ) (me : M) (n : ℕ) (y : V) → me.0.stage ≡ Holding n → me.1 ≡ (0, Some y) ∷ [] → list y ≡ me.0.seen → me.0.root ≡ Some (root y)
      → Allows Rule slots id me 1 (λ x. (x + 1) % 2 ^ 64) (advanced list root done (step slots 1 1 0 none) me)
  advances slots id me n y holds carries same_list rooted s rule _ at _ =
      let then : ℕ → M → Type 0 = advanced list root done (step slots 1 1 0 none) me in
      let t : ℕ = rule.ticket in let sv : ℕ = rule.served in let cur : List I = rule.current in let fs : List ℕ = rule.fence_words in
      let had : Has n me.0.stage = subst (λ (z : Stage). Has n z) (sym holds) refl in
      let seat = rule.line.each id me.0 at in
      let mine = holding_knows sv t cur me.0.seen me.0.stage n holds seat.knows in
      let w : D = staged me.0 Idle in
      let has_sv : Has sv me.0.stage = subst (λ (z : ℕ). Has z me.0.stage) (sym mine.0) had in
      let m0 : sv ≡ n = mine.0 in let m1 : n < t = mine.1 in let fits = rule.fits in
      subst (Goes s.homes s.views id me 1 (λ x. (x + 1) % 2 ^ 64) then) (sym rule.words) (
        w,
        gives,
        tt,
        record {
          ticket = t;
          served = sv + 1;
          current = cur;
          fence_words = fs;
          words = ap (λ (z : ℕ). t ∷ z ∷ length cur ∷ fs) (next_word sv (omega arith));
          many = rule.many;
          in_order = omega arith;
          fits = rule.fits;
          line = line_set r sv t cur fs (sv + 1) t cur fs s.views id me.0 w rule.line at
              (seat_on sv t (sv + 1) t cur fs me.0 Idle seat tt)
              (λ j u other e. let that = rule.line.each j u e in other_on sv t (sv + 1) t cur cur fs u that
              (knows_not sv t (sv + 1) cur cur u.seen u.stage (omega arith) (omega arith) (not_mine sv t cur fs s.views rule.line sv id me.0 at has_sv j u other e) that.knows) (prefix_self cur))
              (λ i j u other e h has. has)
              (λ i low high. inr (omega arith, high, λ h. let e : i ≡ n = has_self me.0.stage i n h had in omega arith));
          longest = longest_set s.views id me.0 w cur at refl rule.longest;
          in_place = inl (
            y,
            ap (put_back s.homes) carries ∙ put_home sv cur s.homes s.views y rule.in_place,
            same_list ∙ mine.2,
            seat.rooted (root y) rooted,
            each_set (λ (z : D). Holds z.stage → ⊥) s.views id w (λ h. h) (nobody sv t cur fs s.views rule.line id me.0 at has_sv),
          );
          apart = apart_set s.views id me.0 w at refl rule.apart;
          done_all = rule.done_all;
        },
        (λ i. (w, ap rest carries i)),
      )

  line_more : (sv t : ℕ) (cur : List I) (fs : List ℕ) (vs : List D) (w : D) → w.stage ≡ Idle → IsLine sv t cur fs r vs → IsSeat sv t cur fs r w → IsLine sv t cur fs r (vs ++ w ∷ [])
  line_more sv t cur fs vs w idle line seat = record {
    each = λ j v e. ⊎_elim (line.each j v) (λ (q : w ≡ v). subst (IsSeat sv t cur fs r) q seat) (at_snoc vs w v j e);
    alone = λ n i j v u at_i at_j has_v has_u. ⊎_elim
        (λ (p : get_elem? vs i ≡ some v). ⊎_elim (λ (q : get_elem? vs j ≡ some u). line.alone n i j v u p q has_v has_u)
        (λ (q : w ≡ u). absurd (idle_has u.stage n (ap (λ (z : D). z.stage) (sym q) ∙ idle) has_u)) (at_snoc vs w u j at_j))
        (λ (p : w ≡ v). absurd (idle_has v.stage n (ap (λ (z : D). z.stage) (sym p) ∙ idle) has_v)) (at_snoc vs w v i at_i);
    drawn = λ n low high. let old = line.drawn n low high in (old.0, old.1, at_longer vs (w ∷ []) old.0 old.1 old.2, old.3);
  }

  place_more : (sv : ℕ) (cur : List I) (homes : Homes) (vs : List D) (w : D) → w.stage ≡ Idle → Place sv cur homes vs → Place sv cur homes (vs ++ w ∷ [])
  place_more sv cur homes vs w idle (inl h) = inl (h.0, h.1, h.2, h.3, λ j v e. ⊎_elim (h.4 j v) (λ (q : w ≡ v). idle_holds v.stage (ap (λ (z : D). z.stage) (sym q) ∙ idle)) (at_snoc vs w v j e))
  place_more sv cur homes vs w idle (inr h) = inr (h.0, (h.1.0, h.1.1, at_longer vs (w ∷ []) h.1.0 h.1.1 h.1.2, h.1.3))

  pub splits : (id : ℕ) (v : D) → v.stage ≡ Idle → Splits Rule id v v (told v)
  splits id v idle s rule at = let sv : ℕ = rule.served in let t : ℕ = rule.ticket in let cur : List I = rule.current in let fs : List ℕ = rule.fence_words in let w : D = told v in
      let seat = rule.line.each id v at in
      subst (λ (vs : List D). Rule record { words = s.words; homes = s.homes; views = vs ++ w ∷ [] }) (sym (set_again s.views id v at)) record {
        ticket = t;
        served = sv;
        current = cur;
        fence_words = fs;
        words = rule.words;
        many = rule.many;
        in_order = rule.in_order;
        fits = rule.fits;
        line = line_more sv t cur fs s.views w refl rule.line record { knows = tt; behind = seat.behind; also_behind = (v.seen, refl); owns = All-nil (λ p. p < length v.seen); rooted = seat.rooted; reached = seat.reached };
        longest = let old = rule.longest in (old.0, old.1, at_longer s.views (w ∷ []) old.0 old.1 old.2, old.3);
        in_place = place_more sv cur s.homes s.views w refl rule.in_place;
        apart = λ p. let h = total_more (λ (v : D). times p v.own) s.views w in let b = rule.apart p in omega arith;
        done_all = rule.done_all;
      }

  place_idle : (sv : ℕ) (cur : List I) (homes : Homes) (vs : List D) (me : ℕ) (v w : D) → get_elem? vs me ≡ some v → v.stage ≡ Idle → w.stage ≡ Idle → Place sv cur homes vs → Place sv cur homes (set vs me w)
  place_idle sv cur homes vs me v w at idle still = place_set sv cur homes vs me v w at (idle_holds v.stage idle) (idle_holds w.stage still)

  line_idle : (sv t : ℕ) (cur : List I) (fs : List ℕ) (vs : List D) (me : ℕ) (v w : D) → IsLine sv t cur fs r vs → get_elem? vs me ≡ some v → v.stage ≡ Idle → w.stage ≡ Idle → IsSeat sv t cur fs r w → IsLine sv t cur fs r (set vs me w)
  line_idle sv t cur fs vs me v w line at idle still seat = line_set r sv t cur fs sv t cur fs vs me v w line at seat (λ j u _ e. line.each j u e)
      (λ n j u _ _ _ h. idle_has w.stage n still h) (λ n low high. inr (low, high, idle_has v.stage n idle))

  pub joins : (id : ℕ) (v : D) (other : ℕ) (w : D) → v.stage ≡ Idle → w.stage ≡ Idle → Joins Rule id v other w (joined v w) spent_view
  joins id v other w idle still s rule at apart there = let sv : ℕ = rule.served in let t : ℕ = rule.ticket in let cur : List I = rule.current in let fs : List ℕ = rule.fence_words in
      let b : D = joined v w in let vs : List D = set s.views id b in
      let there' : get_elem? s.views other ≡ some w = sym (set_else s.views id other b apart) ∙ there in
      let a = rule.line.each id v at in let c = rule.line.each other w there' in
      let p : IsPrefix b.seen cur = longer_behind v.seen w.seen cur a.behind c.behind in
      let len = longer_length v.seen w.seen in let len0 = len.0 in let len1 = len.1 in
      let first : IsLine sv t cur fs r vs = line_idle sv t cur fs s.views id v b rule.line at idle idle record {
        knows = subst (Knows sv t cur b.seen) (sym idle) tt;
        behind = p;
        also_behind = shorter_behind v.seen w.seen cur a.behind c.behind;
        owns = All-append (λ p. p < length b.seen) v.own w.own (All-weaker (λ p. p < length v.seen) (λ p. p < length b.seen) (λ p h. omega arith) v.own a.owns) (All-weaker (λ p. p < length w.seen) (λ p. p < length b.seen) (λ p h. omega arith) w.own c.owns);
        rooted = a.rooted;
        reached = All-append (λ f. f.1 ≤ get_or fs f.0 0) v.fences w.fences a.reached c.reached;
      } in
      let old = rule.longest in
      let here : get_elem? (set vs other spent_view) id ≡ some b = set_else vs other id spent_view (λ e. apart (sym e)) ∙ set_at s.views id v b at in
      let whole = longer_whole v.seen w.seen cur a.behind c.behind in
      let seen_of : (k : ℕ) (x : D) → get_elem? s.views k ≡ some x → old.0 ≡ k → x.seen ≡ cur = λ k x e same. ap (λ (z : D). z.seen) (one_value s.views k x old.1 e (subst (λ (z : ℕ). get_elem? s.views z ≡ some old.1) same old.2)) ∙ old.3 in
      record {
        ticket = t;
        served = sv;
        current = cur;
        fence_words = fs;
        words = rule.words;
        many = rule.many;
        in_order = rule.in_order;
        fits = rule.fits;
        line = line_idle sv t cur fs vs other w spent_view first there still refl record { knows = tt; behind = (cur, refl); also_behind = ([], refl); owns = All-nil (λ p. p < 0); rooted = λ x e. absurd cc; reached = All-nil (λ f. f.1 ≤ get_or fs f.0 0) };
        longest = dite (ℕ_discrete old.0 id)
            (λ e. (id, b, here, whole (inl (seen_of id v at e))))
            (λ ne. dite (ℕ_discrete old.0 other)
            (λ e. (id, b, here, whole (inr (seen_of other w there' e))))
            (λ ne2. (old.0, old.1, set_else vs other old.0 spent_view ne2 ∙ (set_else s.views id old.0 b ne ∙ old.2), old.3)));
        in_place = place_idle sv cur s.homes vs other w spent_view there still refl (place_idle sv cur s.homes s.views id v b at idle idle rule.in_place);
        apart = λ p. let f : D → ℕ = λ v. times p v.own in let h = total_set f s.views id v b at in let g = total_set f vs other w spent_view there in let e = times_append p v.own w.own in let x = rule.apart p in omega arith;
        done_all = rule.done_all;
      }

  -- the seat that was called finds the value at home
  pub rests : (s : St) (id : ℕ) (v : D) (n : ℕ) → Rule s → get_elem? s.views id ≡ some v → v.stage ≡ Called n
      → (y : V) × (get_elem? s.homes 0 ≡ some (some (Some y))) × IsTaken list root done v y
  rests s id v n rule at is = let sv : ℕ = rule.served in let t : ℕ = rule.ticket in let cur : List I = rule.current in let fs : List ℕ = rule.fence_words in let seat = rule.line.each id v at in ⊎_elim
      (λ (h : Home cur s.homes s.views). (
        h.0,
        subst (λ (hs : Homes). get_elem? hs 0 ≡ some (some (Some h.0))) (sym h.1) refl,
        record {
          before = subst (λ (l : List I). IsPrefix v.seen l) (sym h.2) seat.behind;
          same_root = λ x e. h.3 ∙ sym (seat.rooted x e);
          once = own_once s.views id v at rule.apart;
          within = seat.owns;
          fences = subst (λ (l : List I). IsDone list root done l v) (sym h.2) (done_below cur fs v seat.reached rule.done_all);
        },
      ))
      (λ h. let j = h.1.0 in let u = h.1.1 in
      let k = subst (Knows sv t cur v.seen) is seat.knows in
      let had : Has sv v.stage = subst (λ (z : Stage). Has sv z) (sym is) (sym k.0) in
      let same : j ≡ id = rule.line.alone sv j id u v h.1.2 at (subst (λ (z : Stage). Has sv z) (sym h.1.3) refl) had in
      let eq : u ≡ v = one_value s.views id u v (subst (λ (k : ℕ). get_elem? s.views k ≡ some u) same h.1.2) at in
      let clash : Called n ≡ Holding sv = sym is ∙ (ap (λ (z : D). z.stage) (sym eq) ∙ h.1.3) in absurd cc)
      rule.in_place

  -- so it is what a closed table has
  pub closes : (id : ℕ) (v : D) (n : ℕ) (ws : List ℕ) (xs : List (Option V)) (got : Option V) → Final (Seen Rule id v) ws xs → v.stage ≡ Called n → get_elem? xs 0 ≡ some got
      → (y : V) × (got ≡ Some y) × IsTaken list root done v y
  closes id v n ws xs got end is e = let q = rests end.0 id v n end.1.0 end.1.1 is in
      (q.0, some-injective got (Some q.0) (sym e ∙ end.4 0 (Some q.0) q.1), q.2)

  -- of a view that drew its number and was called since
  pub closes_with : (id : ℕ) (v u : D) (n : ℕ) (ws : List ℕ) (xs : List (Option V)) (got : Option V) → Final (Seen Rule id v) ws xs → v ≡ staged u (Called n) → get_elem? xs 0 ≡ some got
      → (y : V) → got ≡ Some y → IsTaken list root done u y
  closes_with id v u n ws xs got end is e y taken = let t = closes id v n ws xs got end (ap (λ (z : D). z.stage) is) e in let same : t.0 ≡ y = let q : Some t.0 ≡ Some y = sym t.1 ∙ taken in cc in
      let k : IsTaken list root done (staged u (Called n)) y = subst (λ (z : D × V). IsTaken list root done z.0 z.1) (λ i. (is i, same i)) t.2 in
      record { before = k.before; same_root = k.same_root; once = k.once; within = k.within; fences = k.fences }

  abbrev unset : ℕ → List ℕ
  unset n = replicate n 0

  zeros : (n c : ℕ) → get_or (unset n) c 0 ≡ 0
  zeros zero c = refl
  zeros (suc n) zero = refl
  zeros (suc n) (suc c) = zeros n c

  only_seat : (P : D → Type 0) (w : D) (j : ℕ) (v : D) → get_elem? (w ∷ []) j ≡ some v → P w → P v
  only_seat P w zero v e h = subst P (some-injective w v e) h
  only_seat P w (suc j) v e h = absurd (some-ne-none v (sym e))

  pub opens : (y : V) (k : ℕ) (fs : List ℕ) → k ≡ length (list y) → root y ≡ r → fs ≡ unset m → Rule (opening (0 ∷ 0 ∷ k ∷ fs) (Some y ∷ []) (start list root done y))
  opens y k fs counts same blank = let first : D = start list root done y in record {
    ticket = 0;
    served = 0;
    current = list y;
    fence_words = fs;
    words = ap (λ (z : ℕ). 0 ∷ 0 ∷ z ∷ fs) counts;
    many = ap length blank ∙ replicated m;
    in_order = omega arith;
    fits = omega arith;
    line = record {
      each = λ j v e. only_seat (λ (z : D). IsSeat 0 0 (list y) fs r z) first j v e record {
        knows = tt;
        behind = prefix_self (list y);
        also_behind = (list y, refl);
        owns = All-nil (λ p. p < length (list y));
        rooted = λ x e. let q : root y ≡ x = cc in sym q ∙ same;
        reached = All-nil (λ f. f.1 ≤ get_or fs f.0 0);
      };
      alone = λ n i j v w at_i at_j has_v has_w. absurd (only_seat (λ (z : D). Has n z.stage → ⊥) first i v at_i (λ h. h) has_v);
      drawn = λ n low high. absurd (omega arith);
    };
    longest = (0, first, refl, refl);
    in_place = inl (y, refl, refl, same, λ j v e. only_seat (λ (z : D). Holds z.stage → ⊥) first j v e (λ h. h));
    apart = λ p. omega arith;
    done_all = λ c. let z : get_or fs c 0 ≡ 0 = ap (λ (l : List ℕ). get_or l c 0) blank ∙ zeros m c in omega arith;
  }
    where
      replicated : (n : ℕ) → length (unset n) ≡ n
      replicated zero = refl
      replicated (suc n) = ap suc (replicated n)

  has_or_not : (n : ℕ) (st : Stage) → Has n st ⊎ (Has n st → ⊥)
  has_or_not n Idle = inr (λ h. h)
  has_or_not n (Waiting k) = dite (ℕ_discrete k n) inl inr
  has_or_not n (Called k) = dite (ℕ_discrete k n) inl inr
  has_or_not n (Holding k) = dite (ℕ_discrete k n) inl inr

  -- a seat that keeps its stage, while fence words grow
  line_same : (sv t : ℕ) (cur : List I) (fs fs' : List ℕ) (vs : List D) (me : ℕ) (v w : D) → IsLine sv t cur fs r vs → get_elem? vs me ≡ some v → w.stage ≡ v.stage → ((c : ℕ) → get_or fs c 0 ≤ get_or fs' c 0)
      → IsSeat sv t cur fs' r w → IsLine sv t cur fs' r (set vs me w)
  line_same sv t cur fs fs' vs me v w line at same up seat = line_set r sv t cur fs sv t cur fs' vs me v w line at seat
      (λ j u _ e. let that = line.each j u e in record {
        knows = that.knows;
        behind = that.behind;
        also_behind = that.also_behind;
        owns = that.owns;
        rooted = that.rooted;
        reached = All-weaker (λ (f : ℕ × ℕ). f.1 ≤ get_or fs f.0 0) (λ f. f.1 ≤ get_or fs' f.0 0) (λ f h. let a = up f.0 in omega arith) u.fences that.reached;
      })
      (λ n j u other e h mine. not_mine sv t cur fs vs line n me v at (subst (Has n) same mine) j u other e h)
      (λ n low high. ⊎_elim (λ (h : Has n v.stage). inl (subst (Has n) (sym same) h)) (λ (h : Has n v.stage → ⊥). inr (low, high, h)) (has_or_not n v.stage))

  back : (c : ℕ) → (c + 3) - 3 ≡ c
  back c = omega arith

  pub peeks : (slots id : ℕ) (me : M) (c : ℕ) → Allows Rule slots id me (c + 3) (λ x. x) (peeked list root done (step slots (c + 3) 0 0 none) me)
  peeks slots id me c s rule _ at _ =
      let then : ℕ → M → Type 0 = peeked list root done (step slots (c + 3) 0 0 none) me in
      let t : ℕ = rule.ticket in let sv : ℕ = rule.served in let cur : List I = rule.current in let fs : List ℕ = rule.fence_words in
      let ws : List ℕ = t ∷ sv ∷ length cur ∷ fs in let x : ℕ = get_or ws (c + 3) 0 in let is : x ≡ get_or fs c 0 = word_at t sv (length cur) fs c in
      let w : D = fenced me.0 ((c + 3) - 3) x in let seat = rule.line.each id me.0 at in
      let there : get_or fs ((c + 3) - 3) 0 ≡ x = ap (λ (i : ℕ). get_or fs i 0) (back c) ∙ sym is in
      subst (Goes s.homes s.views id me (c + 3) (λ x. x) then) (sym rule.words) (
        w,
        keeps,
        tt,
        subst (λ (ws : List ℕ). Rule record { words = ws; homes = s.homes; views = set s.views id w }) (sym (set-get_or ws (c + 3) 0)) record {
          ticket = t;
          served = sv;
          current = cur;
          fence_words = fs;
          words = refl;
          many = rule.many;
          in_order = rule.in_order;
          fits = rule.fits;
          line = line_same sv t cur fs fs s.views id me.0 w rule.line at refl (λ c. le_refl (get_or fs c 0)) record {
            knows = seat.knows;
            behind = seat.behind;
            also_behind = seat.also_behind;
            owns = seat.owns;
            rooted = seat.rooted;
            reached = All-cons (λ f. f.1 ≤ get_or fs f.0 0) ((c + 3) - 3, x) me.0.fences (omega arith) seat.reached;
          };
          longest = longest_set s.views id me.0 w cur at refl rule.longest;
          in_place = place_same sv cur s.homes s.views id me.0 w at refl rule.in_place;
          apart = apart_set s.views id me.0 w at refl rule.apart;
          done_all = rule.done_all;
        },
        (refl, All-weaker (λ (f : ℕ × ℕ). f.1 ≤ get_or fs f.0 0) (λ f. f.0 ≡ (c + 3) - 3 → f.1 ≤ x) (λ f h e. let same : get_or fs f.0 0 ≡ get_or fs ((c + 3) - 3) 0 = ap (λ (i : ℕ). get_or fs i 0) e in omega arith) me.0.fences seat.reached),
      )

  pub raises : (slots id : ℕ) (me : M) (c num : ℕ) → c < m → num ≤ done me.0.seen c → ((xs zs : List I) (c : ℕ) → done xs c ≤ done (xs ++ zs) c)
      → Allows Rule slots id me (c + 3) (λ x. max x num) (raised list root done (step slots (c + 3) num 0 none) me)
  raises slots id me c num inside seen_done up s rule _ at _ =
      let then : ℕ → M → Type 0 = raised list root done (step slots (c + 3) num 0 none) me in
      let t : ℕ = rule.ticket in let sv : ℕ = rule.served in let cur : List I = rule.current in let fs : List ℕ = rule.fence_words in
      let ws : List ℕ = t ∷ sv ∷ length cur ∷ fs in let x : ℕ = get_or ws (c + 3) 0 in let is : x ≡ get_or fs c 0 = word_at t sv (length cur) fs c in
      let y : ℕ = max x num in let fs' : List ℕ = set fs c y in
      let many : length fs ≡ m = rule.many in
      let here : get_or fs' c 0 ≡ y = get_or-set_same fs c y 0 (omega arith) in
      let w : D = fenced me.0 ((c + 3) - 3) num in let seat = rule.line.each id me.0 at in
      let there : get_or fs' ((c + 3) - 3) 0 ≡ y = ap (λ (i : ℕ). get_or fs' i 0) (back c) ∙ here in
      let grows : (i : ℕ) → get_or fs i 0 ≤ get_or fs' i 0 = λ i. dite (ℕ_discrete i c)
      (λ e. let a : get_or fs i 0 ≡ get_or fs c 0 = ap (λ (i : ℕ). get_or fs i 0) e in let b : get_or fs' i 0 ≡ get_or fs' c 0 = ap (λ (i : ℕ). get_or fs' i 0) e in omega arith)
      (λ ne. let a : get_or fs' i 0 ≡ get_or fs i 0 = get_or-set_other fs c i y 0 ne in omega arith) in
      let more = seat.behind in
      let now : num ≤ done cur c = subst (λ (l : List I). num ≤ done l c) more.1 (let a = up me.0.seen more.0 c in omega arith) in
      subst (Goes s.homes s.views id me (c + 3) (λ x. max x num) then) (sym rule.words) (
        w,
        keeps,
        tt,
        record {
          ticket = t;
          served = sv;
          current = cur;
          fence_words = fs';
          words = word_set t sv (length cur) fs c y;
          many = length-set fs c y ∙ rule.many;
          in_order = rule.in_order;
          fits = rule.fits;
          line = line_same sv t cur fs fs' s.views id me.0 w rule.line at refl grows record {
            knows = seat.knows;
            behind = seat.behind;
            also_behind = seat.also_behind;
            owns = seat.owns;
            rooted = seat.rooted;
            reached = All-cons (λ f. f.1 ≤ get_or fs' f.0 0) ((c + 3) - 3, num) me.0.fences (omega arith)
                (All-weaker (λ (f : ℕ × ℕ). f.1 ≤ get_or fs f.0 0) (λ f. f.1 ≤ get_or fs' f.0 0) (λ f h. let a = grows f.0 in omega arith) me.0.fences seat.reached);
          };
          longest = longest_set s.views id me.0 w cur at refl rule.longest;
          in_place = place_same sv cur s.homes s.views id me.0 w at refl rule.in_place;
          apart = apart_set s.views id me.0 w at refl rule.apart;
          done_all = λ i. dite (ℕ_discrete i c)
              (λ e. let a : get_or fs' i 0 ≡ get_or fs' c 0 = ap (λ (i : ℕ). get_or fs' i 0) e in let b = rule.done_all c in let d : done cur i ≡ done cur c = ap (done cur) e in omega arith)
              (λ ne. let a : get_or fs' i 0 ≡ get_or fs i 0 = get_or-set_other fs c i y 0 ne in let b = rule.done_all i in omega arith);
        },
        refl,
      )
