-- Lists whose members of a group stand side by side, and in which no buffer stands twice: what filters, places and bulk moves
-- keep of that.
use Rattle.std.proofs.Common.{◌≡◌, ℕ, ◌+◌, suc, Bool, true, false, List, [], ◌∷◌, ◌++◌, length, Option, Some, None, refl, sym, ◌∙◌, ap, ap₂, subst, arith, ◌⊎◌, inl, inr, ⊎_elim}
use Rattle.std.specs.Prelude.{not, cond, ◌||◌, ◌==◌, filter, insert, unwrap_or}
use Rattle.std.specs.List.{list_any, list_all}
use Rattle.std.proofs.lemmas.Bool.{cases_Bool, cases_eq, cond-true, cond-false, not-true, and_parts, and_from, or_parts, or_from, or_cases, or_left, or_right, false_from_ne_true}
use Rattle.std.proofs.lemmas.Bool.Decides.{nat_tests}
use Rattle.std.proofs.lemmas.List.Folds.{list_any-append}
use Rattle.ttm_base.specs.declared.BufId.{BufId}
use Rattle.journal_model.specs.declared.script.Script.{Script}
use Rattle.journal_model.specs.rules.State.{same_buffer, has_buffer}
use Rattle.journal_model.specs.rules.Commands.{decl}
use Rattle.journal_model.specs.rules.Lists.{same_group, is_mate, one_further, behind_last, placed_in, is_member, members_last}
use Rattle.laws.proofs.law_sound.Bufs.{same_self, same_is, other_is, clash}
use Rattle.laws.specs.law_lists.GoodLists.{stand_once, SideBySide}

-- members first, and none after them
abbrev pub runs : (BufId → Bool) → List BufId → Bool
runs m [] = true
runs m (b ∷ bs) = cond (m b) (runs m bs) (not (list_any m bs))

-- members side by side
abbrev pub bunched : (BufId → Bool) → List BufId → Bool
bunched m [] = true
bunched m (b ∷ bs) = cond (m b) (runs m bs) (bunched m bs)

or_swap : (x y z : Bool) → (x || (y || z)) ≡ (y || (x || z))
or_swap true true z = refl
or_swap true false z = refl
or_swap false y z = refl

or_assoc : (x y z : Bool) → ((x || y) || z) ≡ (x || (y || z))
or_assoc true y z = refl
or_assoc false y z = refl

module _ (m : BufId → Bool) where
  pub runs_in : (c : BufId) (cs : List BufId) → m c ≡ true → runs m (c ∷ cs) ≡ runs m cs
  runs_in c cs e = cond-true (m c) (runs m cs) (not (list_any m cs)) e

  pub runs_out : (c : BufId) (cs : List BufId) → m c ≡ false → runs m (c ∷ cs) ≡ not (list_any m cs)
  runs_out c cs e = cond-false (m c) (runs m cs) (not (list_any m cs)) e

  pub bunched_in : (c : BufId) (cs : List BufId) → m c ≡ true → bunched m (c ∷ cs) ≡ runs m cs
  bunched_in c cs e = cond-true (m c) (runs m cs) (bunched m cs) e

  pub bunched_out : (c : BufId) (cs : List BufId) → m c ≡ false → bunched m (c ∷ cs) ≡ bunched m cs
  bunched_out c cs e = cond-false (m c) (runs m cs) (bunched m cs) e

  none_runs : (l : List BufId) → list_any m l ≡ false → runs m l ≡ true
  none_runs [] h = refl
  none_runs (b ∷ bs) h = let p = or_parts (m b) (list_any m bs) h in runs_out b bs p.0 ∙ ap not p.1

  runs_bunched : (l : List BufId) → runs m l ≡ true → bunched m l ≡ true
  runs_bunched [] h = refl
  runs_bunched (b ∷ bs) h =
      ⊎_elim
      (λ e. bunched_in b bs e ∙ (sym (runs_in b bs e) ∙ h))
      (λ e. bunched_out b bs e ∙ runs_bunched bs (none_runs bs (not-true (list_any m bs) (sym (runs_out b bs e) ∙ h))))
      (cases_Bool (m b))

  all_runs : (l : List BufId) → list_all m l ≡ true → runs m l ≡ true
  all_runs [] h = refl
  all_runs (b ∷ bs) h = let p = and_parts (m b) (list_all m bs) h in runs_in b bs p.0 ∙ all_runs bs p.1

  -- ---- one list after another

  runs_front : (l r : List BufId) → runs m l ≡ true → list_any m r ≡ false → runs m (l ++ r) ≡ true
  runs_front [] r h n = none_runs r n
  runs_front (b ∷ bs) r h n =
      ⊎_elim
      (λ e. runs_in b (bs ++ r) e ∙ runs_front bs r (sym (runs_in b bs e) ∙ h) n)
      (λ e. runs_out b (bs ++ r) e ∙ ap not (list_any-append m bs r ∙ or_from (list_any m bs) (list_any m r) (not-true (list_any m bs) (sym (runs_out b bs e) ∙ h)) n))
      (cases_Bool (m b))

  pub bunched_front : (l r : List BufId) → bunched m l ≡ true → list_any m r ≡ false → bunched m (l ++ r) ≡ true
  bunched_front [] r h n = runs_bunched r (none_runs r n)
  bunched_front (b ∷ bs) r h n =
      ⊎_elim
      (λ e. bunched_in b (bs ++ r) e ∙ runs_front bs r (sym (bunched_in b bs e) ∙ h) n)
      (λ e. bunched_out b (bs ++ r) e ∙ bunched_front bs r (sym (bunched_out b bs e) ∙ h) n)
      (cases_Bool (m b))

  pub bunched_behind : (l r : List BufId) → list_any m l ≡ false → list_all m r ≡ true → bunched m (l ++ r) ≡ true
  bunched_behind [] r h a = runs_bunched r (all_runs r a)
  bunched_behind (b ∷ bs) r h a = let p = or_parts (m b) (list_any m bs) h in bunched_out b (bs ++ r) p.0 ∙ bunched_behind bs r p.1 a

-- ---- filters

module _ (m p : BufId → Bool) where
  any_filter : (l : List BufId) → list_any m l ≡ false → list_any m (filter p l) ≡ false
  any_filter [] h = refl
  any_filter (b ∷ bs) h = let q = or_parts (m b) (list_any m bs) h in by (p b) q.0 (any_filter bs q.1)
    where
      by : (k : Bool) → m b ≡ false → list_any m (filter p bs) ≡ false → list_any m (cond k (b ∷ filter p bs) (filter p bs)) ≡ false
      by true e ih = or_from (m b) (list_any m (filter p bs)) e ih
      by false e ih = ih

  runs_filter : (l : List BufId) → runs m l ≡ true → runs m (filter p l) ≡ true
  runs_filter [] h = refl
  runs_filter (b ∷ bs) h = by (p b) (m b) refl h (λ k. runs_filter bs k)
    where
      by : (k r : Bool) → m b ≡ r → cond r (runs m bs) (not (list_any m bs)) ≡ true → (runs m bs ≡ true → runs m (filter p bs) ≡ true) → runs m (cond k (b ∷ filter p bs) (filter p bs)) ≡ true
      by true true e h ih = runs_in m b (filter p bs) e ∙ ih h
      by true false e h ih = runs_out m b (filter p bs) e ∙ ap not (any_filter bs (not-true (list_any m bs) h))
      by false true e h ih = ih h
      by false false e h ih = none_runs m (filter p bs) (any_filter bs (not-true (list_any m bs) h))

  pub bunched_filter : (l : List BufId) → bunched m l ≡ true → bunched m (filter p l) ≡ true
  bunched_filter [] h = refl
  bunched_filter (b ∷ bs) h = by (p b) (m b) refl h (λ k. bunched_filter bs k)
    where
      by : (k r : Bool) → m b ≡ r → cond r (runs m bs) (bunched m bs) ≡ true → (bunched m bs ≡ true → bunched m (filter p bs) ≡ true) → bunched m (cond k (b ∷ filter p bs) (filter p bs)) ≡ true
      by true true e h ih = bunched_in m b (filter p bs) e ∙ runs_filter bs h
      by true false e h ih = bunched_out m b (filter p bs) e ∙ ih h
      by false true e h ih = runs_bunched m (filter p bs) (runs_filter bs h)
      by false false e h ih = ih h

  -- what passes is no member
  none_of : ((d : BufId) → p d ≡ true → m d ≡ false) → (l : List BufId) → list_any m (filter p l) ≡ false
  none_of apart [] = refl
  none_of apart (b ∷ bs) = by (p b) refl (none_of apart bs)
    where
      by : (k : Bool) → p b ≡ k → list_any m (filter p bs) ≡ false → list_any m (cond k (b ∷ filter p bs) (filter p bs)) ≡ false
      by true e ih = or_from (m b) (list_any m (filter p bs)) (apart b e) ih
      by false e ih = ih

  -- what passes and what doesn't are the whole
  split_any : (l : List BufId) → (list_any m (filter (λ b. not (p b)) l) || list_any m (filter p l)) ≡ list_any m l
  split_any [] = refl
  split_any (b ∷ bs) = by (p b) (split_any bs)
    where
      by : (k : Bool) → (list_any m (filter (λ b. not (p b)) bs) || list_any m (filter p bs)) ≡ list_any m bs →
          (list_any m (cond (not k) (b ∷ filter (λ b. not (p b)) bs) (filter (λ b. not (p b)) bs)) || list_any m (cond k (b ∷ filter p bs) (filter p bs))) ≡ (m b || list_any m bs)
      by true ih = or_swap (list_any m (filter (λ b. not (p b)) bs)) (m b) (list_any m (filter p bs)) ∙ ap (λ x. m b || x) ih
      by false ih = or_assoc (m b) (list_any m (filter (λ b. not (p b)) bs)) (list_any m (filter p bs)) ∙ ap (λ x. m b || x) ih

all_filter : (p : BufId → Bool) (l : List BufId) → list_all p (filter p l) ≡ true
all_filter p [] = refl
all_filter p (b ∷ bs) = by (p b) refl (all_filter p bs)
  where
    by : (k : Bool) → p b ≡ k → list_all p (filter p bs) ≡ true → list_all p (cond k (b ∷ filter p bs) (filter p bs)) ≡ true
    by true e ih = and_from (p b) (list_all p (filter p bs)) e ih
    by false e ih = ih

passed : (p : BufId → Bool) (l : List BufId) (d : BufId) → has_buffer (filter p l) d ≡ true → p d ≡ true
passed p [] d h = cc
passed p (b ∷ bs) d h = by (p b) refl h (λ k. passed p bs d k)
  where
    by : (k : Bool) → p b ≡ k → has_buffer (cond k (b ∷ filter p bs) (filter p bs)) d ≡ true → (has_buffer (filter p bs) d ≡ true → p d ≡ true) → p d ≡ true
    by true e h ih = ⊎_elim (λ q. subst (λ z. p z ≡ true) (sym (same_is d b q)) e) ih (or_cases (same_buffer d b) (has_buffer (filter p bs) d) h)
    by false e h ih = ih h

-- ---- no buffer twice

pub once_filter : (p : BufId → Bool) (l : List BufId) → stand_once l ≡ true → stand_once (filter p l) ≡ true
once_filter p [] h = refl
once_filter p (b ∷ bs) h =
    let q = and_parts (not (has_buffer bs b)) (stand_once bs) h in
    by (p b) (any_filter (same_buffer b) p bs (not-true (has_buffer bs b) q.0)) (once_filter p bs q.1)
  where
    by : (k : Bool) → has_buffer (filter p bs) b ≡ false → stand_once (filter p bs) ≡ true → stand_once (cond k (b ∷ filter p bs) (filter p bs)) ≡ true
    by true e ih = and_from (not (has_buffer (filter p bs) b)) (stand_once (filter p bs)) (ap not e) ih
    by false e ih = ih

once_append : (l r : List BufId) → stand_once l ≡ true → stand_once r ≡ true → ((d : BufId) → has_buffer l d ≡ true → has_buffer r d ≡ true → ⊥) → stand_once (l ++ r) ≡ true
once_append [] r h k apart = k
once_append (b ∷ bs) r h k apart =
    let q = and_parts (not (has_buffer bs b)) (stand_once bs) h in
    and_from (not (has_buffer (bs ++ r) b)) (stand_once (bs ++ r))
    (ap not (list_any-append (same_buffer b) bs r ∙ or_from (has_buffer bs b) (has_buffer r b) (not-true (has_buffer bs b) q.0) (false_from_ne_true (has_buffer r b) (λ z. apart b (or_left (same_buffer b b) (has_buffer bs b) (same_self b)) z))))
    (once_append bs r q.1 k (λ d z. apart d (or_right (same_buffer d b) (has_buffer bs d) z)))

-- ---- a bulk move

module _ (script : Script) (h : ℕ) where
  groups_apart : (g : ℕ) (o : Option ℕ) → (g ≡ h → ⊥) → same_group o (Some h) ≡ true → same_group o (Some g) ≡ false
  groups_apart g None n e = refl
  groups_apart g (Some k) n e = false_from_ne_true (k == g) (λ f. let a : k ≡ h = grind (arith, nat_tests) in let b : k ≡ g = grind (arith, nat_tests) in n (sym b ∙ a))

  pub bulk_has : (l : List BufId) (d : BufId) → has_buffer (members_last (is_member script h) l) d ≡ has_buffer l d
  bulk_has l d =
      list_any-append (same_buffer d) (filter (λ b. not (is_member script h b)) l) (filter (is_member script h) l) ∙ split_any (same_buffer d) (is_member script h) l

  pub bulk_once : (l : List BufId) → stand_once l ≡ true → stand_once (members_last (is_member script h) l) ≡ true
  bulk_once l k =
      once_append (filter (λ b. not (is_member script h b)) l) (filter (is_member script h) l) (once_filter (λ b. not (is_member script h b)) l k) (once_filter (is_member script h) l k)
      (λ d p q. clash (sym (passed (is_member script h) l d q) ∙ not-true (is_member script h d) (passed (λ b. not (is_member script h b)) l d p)))

  pub bulk_bunched : (l : List BufId) (g : ℕ) → bunched (is_member script g) l ≡ true → bunched (is_member script g) (members_last (is_member script h) l) ≡ true
  bulk_bunched l g k =
      ⊎_elim
      (λ e.
      bunched_behind (is_member script g) (filter (λ b. not (is_member script h b)) l) (filter (is_member script h) l)
      (none_of (is_member script g) (λ b. not (is_member script h b)) (λ d q. ap (λ i. is_member script i d) e ∙ not-true (is_member script h d) q) l)
      (subst (λ i. list_all (is_member script i) (filter (is_member script h) l) ≡ true) (sym e) (all_filter (is_member script h) l)))
      (λ n.
      bunched_front (is_member script g) (filter (λ b. not (is_member script h b)) l) (filter (is_member script h) l)
      (bunched_filter (is_member script g) (λ b. not (is_member script h b)) l k)
      (none_of (is_member script g) (is_member script h) (λ d q. groups_apart g (decl script d).group n q) l))
      (cases_eq g h)

-- ---- a buffer placed

none_last : (mate : BufId → Bool) (cs : List BufId) → behind_last mate cs ≡ None → list_any mate cs ≡ false
none_last mate [] h = refl
none_last mate (c ∷ cs) h = by (mate c) (behind_last mate cs) refl h (λ e. none_last mate cs e)
  where
    by : (q : Bool) (o : Option ℕ) → behind_last mate cs ≡ o → one_further q o ≡ None → (behind_last mate cs ≡ None → list_any mate cs ≡ false) → (q || list_any mate cs) ≡ false
    by true (Some k) e h ih = cc
    by false (Some k) e h ih = cc
    by true None e h ih = cc
    by false None e h ih = ih e

last_none : (mate : BufId → Bool) (cs : List BufId) → list_any mate cs ≡ false → behind_last mate cs ≡ None
last_none mate [] h = refl
last_none mate (c ∷ cs) h = let p = or_parts (mate c) (list_any mate cs) h in ap₂ one_further p.0 (last_none mate cs p.1)

-- before the rest, which is placed; or right after the last mate
pub record GoesOn (mate : BufId → Bool) (b c : BufId) (cs : List BufId) : Type 0 where
  pub placed : placed_in mate b (c ∷ cs) ≡ c ∷ placed_in mate b cs
  pub mates : list_any mate cs ≡ false → mate c ≡ false

pub record StopsHere (mate : BufId → Bool) (b c : BufId) (cs : List BufId) : Type 0 where
  pub placed : placed_in mate b (c ∷ cs) ≡ c ∷ b ∷ cs
  pub last : mate c ≡ true

placed_step : (mate : BufId → Bool) (b c : BufId) (cs : List BufId) → GoesOn mate b c cs ⊎ StopsHere mate b c cs
placed_step mate b c cs = by (mate c) refl (behind_last mate cs) refl
  where
    some_last : (k : ℕ) → Some k ≡ None → ⊥
    some_last k e = cc

    by : (q : Bool) → mate c ≡ q → (o : Option ℕ) → behind_last mate cs ≡ o → GoesOn mate b c cs ⊎ StopsHere mate b c cs
    by q e (Some k) f =
        inl (record {
          placed = ap₂ (λ q o. insert (c ∷ cs) (unwrap_or (one_further q o) (length (c ∷ cs))) b) e f ∙ (further q k ∙ ap (λ o. c ∷ insert cs (unwrap_or o (length cs)) b) (sym f));
          mates = λ n. absurd (some_last k (sym f ∙ last_none mate cs n));
        })
      where
        further : (q : Bool) (k : ℕ) → insert (c ∷ cs) (unwrap_or (one_further q (Some k)) (length (c ∷ cs))) b ≡ c ∷ insert cs k b
        further true k = let e : k + 1 ≡ suc k = omega arith in ap (λ n. insert (c ∷ cs) n b) e
        further false k = let e : k + 1 ≡ suc k = omega arith in ap (λ n. insert (c ∷ cs) n b) e
    by true e None f = inr (record { placed = ap₂ (λ q o. insert (c ∷ cs) (unwrap_or (one_further q o) (length (c ∷ cs))) b) e f; last = e })
    by false e None f =
        inl (record {
          placed = ap₂ (λ q o. insert (c ∷ cs) (unwrap_or (one_further q o) (length (c ∷ cs))) b) e f ∙ ap (λ o. c ∷ insert cs (unwrap_or o (length cs)) b) (sym f);
          mates = λ n. e;
        })

pub any_placed : (p mate : BufId → Bool) (b : BufId) (l : List BufId) → list_any p (placed_in mate b l) ≡ (p b || list_any p l)
any_placed p mate b [] = refl
any_placed p mate b (c ∷ cs) =
    ⊎_elim
    (λ g. ap (list_any p) g.placed ∙ (ap (λ q. p c || q) (any_placed p mate b cs) ∙ or_swap (p c) (p b) (list_any p cs)))
    (λ g. ap (list_any p) g.placed ∙ or_swap (p c) (p b) (list_any p cs))
    (placed_step mate b c cs)

pub once_placed : (mate : BufId → Bool) (b : BufId) (l : List BufId) → stand_once l ≡ true → has_buffer l b ≡ false → stand_once (placed_in mate b l) ≡ true
once_placed mate b [] h n = refl
once_placed mate b (c ∷ cs) h n =
    let p = and_parts (not (has_buffer cs c)) (stand_once cs) h in
    let q = or_parts (same_buffer b c) (has_buffer cs b) n in
    let other : same_buffer c b ≡ false = other_is c b (λ e. clash (sym (subst (λ z. same_buffer z c ≡ true) e (same_self c)) ∙ q.0)) in
    let gone : has_buffer cs c ≡ false = not-true (has_buffer cs c) p.0 in
    ⊎_elim
    (λ g.
    subst (λ l. stand_once l ≡ true) (sym g.placed)
    (and_from (not (has_buffer (placed_in mate b cs) c)) (stand_once (placed_in mate b cs))
    (ap not (any_placed (same_buffer c) mate b cs ∙ or_from (same_buffer c b) (has_buffer cs c) other gone)) (once_placed mate b cs p.1 q.1)))
    (λ g.
    subst (λ l. stand_once l ≡ true) (sym g.placed)
    (and_from (not (has_buffer (b ∷ cs) c)) (stand_once (b ∷ cs))
    (ap not (or_from (same_buffer c b) (has_buffer cs c) other gone)) (and_from (not (has_buffer cs b)) (stand_once cs) (ap not q.1) p.1)))
    (placed_step mate b c cs)

any_alike : (m n : BufId → Bool) → ((c : BufId) → m c ≡ n c) → (l : List BufId) → list_any m l ≡ list_any n l
any_alike m n same [] = refl
any_alike m n same (c ∷ cs) = ap₂ (λ x y. x || y) (same c) (any_alike m n same cs)

-- among the members of its own group
module _ (m mate : BufId → Bool) (b : BufId) (same : (c : BufId) → mate c ≡ m c) (own : m b ≡ true) where
  -- after a member there are more
  more : (c : BufId) (cs : List BufId) → GoesOn mate b c cs → m c ≡ true → list_any m cs ≡ true
  more c cs g e = ⊎_elim (λ k. k) (λ k. absurd (clash (sym e ∙ (sym (same c) ∙ g.mates (any_alike mate m same cs ∙ k))))) (cases_Bool (list_any m cs))

  runs_own : (l : List BufId) → list_any m l ≡ true → runs m l ≡ true → runs m (placed_in mate b l) ≡ true
  runs_own [] h r = cc
  runs_own (c ∷ cs) h r =
      let first : m c ≡ true = ⊎_elim (λ e. e) (λ e. absurd (clash (sym h ∙ or_from (m c) (list_any m cs) e (not-true (list_any m cs) (sym (runs_out m c cs e) ∙ r))))) (cases_Bool (m c)) in
      let rest : runs m cs ≡ true = sym (runs_in m c cs first) ∙ r in
      ⊎_elim
      (λ g. ap (runs m) g.placed ∙ (runs_in m c (placed_in mate b cs) first ∙ runs_own cs (more c cs g first) rest))
      (λ g. ap (runs m) g.placed ∙ (runs_in m c (b ∷ cs) first ∙ (runs_in m b cs own ∙ rest)))
      (placed_step mate b c cs)

  bunched_own : (l : List BufId) → bunched m l ≡ true → bunched m (placed_in mate b l) ≡ true
  bunched_own [] h = bunched_in m b [] own
  bunched_own (c ∷ cs) h =
      ⊎_elim
      (λ e.
      let rest : runs m cs ≡ true = sym (bunched_in m c cs e) ∙ h in
      ⊎_elim
      (λ g. ap (bunched m) g.placed ∙ (bunched_in m c (placed_in mate b cs) e ∙ runs_own cs (more c cs g e) rest))
      (λ g. ap (bunched m) g.placed ∙ (bunched_in m c (b ∷ cs) e ∙ (runs_in m b cs own ∙ rest)))
      (placed_step mate b c cs))
      (λ e.
      ⊎_elim
      (λ g. ap (bunched m) g.placed ∙ (bunched_out m c (placed_in mate b cs) e ∙ bunched_own cs (sym (bunched_out m c cs e) ∙ h)))
      (λ g. absurd (clash (sym g.last ∙ (same c ∙ e))))
      (placed_step mate b c cs))
      (cases_Bool (m c))

-- among others, where its mates are no members
module _ (m mate : BufId → Bool) (b : BufId) (apart : (c : BufId) → mate c ≡ true → m c ≡ false) (other : m b ≡ false) where
  any_other : (l : List BufId) → list_any m (placed_in mate b l) ≡ list_any m l
  any_other l = any_placed m mate b l ∙ ap (λ q. q || list_any m l) other

  runs_other : (l : List BufId) → runs m l ≡ true → runs m (placed_in mate b l) ≡ true
  runs_other [] h = runs_out m b [] other
  runs_other (c ∷ cs) h =
      ⊎_elim
      (λ e.
      ⊎_elim
      (λ g. ap (runs m) g.placed ∙ (runs_in m c (placed_in mate b cs) e ∙ runs_other cs (sym (runs_in m c cs e) ∙ h)))
      (λ g. absurd (clash (sym e ∙ apart c g.last)))
      (placed_step mate b c cs))
      (λ e.
      let none : not (list_any m cs) ≡ true = sym (runs_out m c cs e) ∙ h in
      ⊎_elim
      (λ g. ap (runs m) g.placed ∙ (runs_out m c (placed_in mate b cs) e ∙ (ap not (any_other cs) ∙ none)))
      (λ g. ap (runs m) g.placed ∙ (runs_out m c (b ∷ cs) e ∙ (ap (λ q. not (q || list_any m cs)) other ∙ none)))
      (placed_step mate b c cs))
      (cases_Bool (m c))

  bunched_other : (l : List BufId) → bunched m l ≡ true → bunched m (placed_in mate b l) ≡ true
  bunched_other [] h = bunched_out m b [] other
  bunched_other (c ∷ cs) h =
      ⊎_elim
      (λ e.
      ⊎_elim
      (λ g. ap (bunched m) g.placed ∙ (bunched_in m c (placed_in mate b cs) e ∙ runs_other cs (sym (bunched_in m c cs e) ∙ h)))
      (λ g. absurd (clash (sym e ∙ apart c g.last)))
      (placed_step mate b c cs))
      (λ e.
      let rest : bunched m cs ≡ true = sym (bunched_out m c cs e) ∙ h in
      ⊎_elim
      (λ g. ap (bunched m) g.placed ∙ (bunched_out m c (placed_in mate b cs) e ∙ bunched_other cs rest))
      (λ g. ap (bunched m) g.placed ∙ (bunched_out m c (b ∷ cs) e ∙ (bunched_out m b cs other ∙ rest)))
      (placed_step mate b c cs))
      (cases_Bool (m c))

eq_sym : (a b : ℕ) → (a == b) ≡ (b == a)
eq_sym a b = grind (arith, nat_tests)

mates_are : (o p : Option ℕ) (g : ℕ) → same_group o (Some g) ≡ true → same_group o p ≡ same_group p (Some g)
mates_are None p g h = cc
mates_are (Some k) None g h = refl
mates_are (Some k) (Some n) g h = let e : k ≡ g = grind (arith, nat_tests) in ap (λ x. x == n) e ∙ eq_sym g n

mates_other : (o p : Option ℕ) (g : ℕ) → same_group o (Some g) ≡ false → same_group o p ≡ true → same_group p (Some g) ≡ false
mates_other None p g h k = cc
mates_other (Some k) None g h l = cc
mates_other (Some k) (Some n) g h l = let e : k ≡ n = grind (arith, nat_tests) in ap (λ x. x == g) (sym e) ∙ h

pub bunched_placed : (script : Script) (b : BufId) (l : List BufId) (g : ℕ) → bunched (is_member script g) l ≡ true → bunched (is_member script g) (placed_in (is_mate script b) b l) ≡ true
bunched_placed script b l g h =
    ⊎_elim
    (λ own. bunched_own (is_member script g) (is_mate script b) b (λ c. mates_are (decl script b).group (decl script c).group g own) own l h)
    (λ other. bunched_other (is_member script g) (is_mate script b) b (λ c k. mates_other (decl script b).group (decl script c).group g other k) other l h)
    (cases_Bool (is_member script g b))

-- ---- as three parts

runs_parts : (m : BufId → Bool) (l : List BufId) → runs m l ≡ true → (front : List BufId) × (back : List BufId) × (l ≡ front ++ back) × (list_all m front ≡ true) × (list_any m back ≡ false)
runs_parts m [] h = ([], [], refl, refl, refl)
runs_parts m (c ∷ cs) h =
    ⊎_elim
    (λ e. let r = runs_parts m cs (sym (runs_in m c cs e) ∙ h) in (c ∷ r.0, r.1, ap (λ l. c ∷ l) r.2, and_from (m c) (list_all m r.0) e r.3, r.4))
    (λ e. ([], c ∷ cs, refl, refl, or_from (m c) (list_any m cs) e (not-true (list_any m cs) (sym (runs_out m c cs e) ∙ h))))
    (cases_Bool (m c))

pub side_by_side : (m : BufId → Bool) (l : List BufId) → bunched m l ≡ true → SideBySide m l
side_by_side m [] h = record { before = []; members = []; behind = []; parts = refl; none_before = refl; all_among = refl; none_behind = refl }
side_by_side m (c ∷ cs) h =
    ⊎_elim
    (λ e.
    let r = runs_parts m (c ∷ cs) (runs_in m c cs e ∙ (sym (bunched_in m c cs e) ∙ h)) in
    record { before = []; members = r.0; behind = r.1; parts = r.2; none_before = refl; all_among = r.3; none_behind = r.4 })
    (λ e.
    let r = side_by_side m cs (sym (bunched_out m c cs e) ∙ h) in
    record {
      before = c ∷ r.before;
      members = r.members;
      behind = r.behind;
      parts = ap (λ l. c ∷ l) r.parts;
      none_before = or_from (m c) (list_any m r.before) e r.none_before;
      all_among = r.all_among;
      none_behind = r.none_behind;
    })
    (cases_Bool (m c))
