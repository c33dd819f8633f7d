-- The range of a group where one of its members joins or leaves, or all go to the end.
use Rattle.std.proofs.Common.{◌≡◌, ℕ, ◌+◌, Bool, true, false, List, [], ◌∷◌, ◌++◌, length, Option, Some, None, refl, sym, ap, subst, ◌∙◌, arith, filter}
use Rattle.std.specs.Prelude.{not, ◌==◌, insert, unwrap_or}
use Rattle.std.proofs.lemmas.Bool.Decides.{nat_tests}
use Rattle.std.proofs.lemmas.List.{append-nil, append_assoc, take_at, drop_at}
use Rattle.std.proofs.lemmas.List.Edits.{insert_end}
use Rattle.std.proofs.lemmas.List.Elements.{filter-append}
use Rattle.ttm_base.specs.declared.BufId.{BufId}
use Rattle.lru_bulk.specs.declared.rings.Range.{Range}
use Rattle.lru_bulk.specs.Rings.{Each}
use Rattle.lru_bulk.specs.Lists.{placed_in, behind_last, one_further, members_last}
use Rattle.lru_bulk.specs.Sound.{IsBlock, range_of, last_from, first_from, narrowed, widened}
use Rattle.lru_bulk.proofs.Paths.{each_map, each_append, each_left, each_right}
use Rattle.lru_bulk.proofs.Blocks.{locate, filter_all, filter_none}

-- none of them is b
abbrev pub Unlike : BufId → List BufId → Type 0
Unlike b l = Each (λ c. (b.0 == c.0) ≡ false) l

last_from-append : (b : BufId) (x : List BufId) (m : BufId) (y : List BufId) → last_from b (x ++ m ∷ y) ≡ last_from m y
last_from-append b [] m y = refl
last_from-append b (c ∷ x) m y = last_from-append c x m y

last_from_each : (P : BufId → Type 0) (b : BufId) (l : List BufId) → P b → Each P l → P (last_from b l)
last_from_each P b [] h e = h
last_from_each P b (c ∷ l) h e = last_from_each P c l e.0 e.1

same_id : (b : BufId) → (b.0 == b.0) ≡ true
same_id b = grind (arith, nat_tests)

-- what narrowing gives, case by case
narrowed_both : (b p s : BufId) → narrowed (record { first = b; last = b }) b p s ≡ None
narrowed_both b p s = rw (same_id b) refl

narrowed_first : (b l p s : BufId) → (b.0 == l.0) ≡ false → narrowed (record { first = b; last = l }) b p s ≡ Some (record { first = s; last = l })
narrowed_first b l p s h = rw (same_id b, h) refl

narrowed_last : (b f p s : BufId) → (b.0 == f.0) ≡ false → narrowed (record { first = f; last = b }) b p s ≡ Some (record { first = f; last = p })
narrowed_last b f p s h = rw (h, same_id b) refl

narrowed_none : (b f l p s : BufId) → (b.0 == f.0) ≡ false → (b.0 == l.0) ≡ false → narrowed (record { first = f; last = l }) b p s ≡ Some (record { first = f; last = l })
narrowed_none b f l p s h k = rw (h, k) refl

-- the range of what stays
left_range : (front : List BufId) (b : BufId) (back before after : List BufId) (r : Range) → Unlike b front → Unlike b back → Some r ≡ range_of (front ++ b ∷ back)
    → narrowed r b (last_from b (before ++ front)) (first_from b (back ++ after)) ≡ range_of (front ++ back)
left_range [] b [] before after r uf ub e =
    let f : r ≡ record { first = b; last = b } = cc in
    ap (λ (x : Range). narrowed x b (last_from b (before ++ [])) (first_from b after)) f ∙ narrowed_both b _ _
left_range [] b (k ∷ back) before after r uf ub e =
    let f : r ≡ record { first = b; last = last_from k back } = cc in
    ap (λ (x : Range). narrowed x b (last_from b (before ++ [])) k) f
    ∙ narrowed_first b (last_from k back) _ k (last_from_each (λ c. (b.0 == c.0) ≡ false) k back ub.0 ub.1)
left_range (m ∷ front) b [] before after r uf ub e =
    let g : last_from m (front ++ b ∷ []) ≡ b = last_from-append m front b [] in
    let f : r ≡ record { first = m; last = last_from m (front ++ b ∷ []) } = cc in
    let f' : r ≡ record { first = m; last = b } = f ∙ ap (λ (x : BufId). record { first = m; last = x }) g in
    ap (λ (x : Range). narrowed x b (last_from b (before ++ m ∷ front)) (first_from b after)) f'
    ∙ narrowed_last b m _ _ uf.0
    ∙ ap (λ (x : BufId). Some (record { first = m; last = x })) (last_from-append b before m front ∙ ap (last_from m) (sym (append-nil front)))
left_range (m ∷ front) b (k ∷ back) before after r uf ub e =
    let g : last_from m (front ++ b ∷ k ∷ back) ≡ last_from k back = last_from-append m front b (k ∷ back) in
    let f : r ≡ record { first = m; last = last_from m (front ++ b ∷ k ∷ back) } = cc in
    let f' : r ≡ record { first = m; last = last_from k back } = f ∙ ap (λ (x : BufId). record { first = m; last = x }) g in
    ap (λ (x : Range). narrowed x b (last_from b (before ++ m ∷ front)) k) f'
    ∙ narrowed_none b m (last_from k back) _ _ uf.0 (last_from_each (λ c. (b.0 == c.0) ≡ false) k back ub.0 ub.1)
    ∙ ap (λ (x : BufId). Some (record { first = m; last = x })) (sym (last_from-append m front k back))

-- a member leaves
pub record Left (test : BufId → Bool) (x : List BufId) (b : BufId) (y : List BufId) (range : Option Range) : Type 0 where
  pub old : Range
  pub old_is : range ≡ Some old
  pub block : IsBlock test (x ++ y) (narrowed old b (last_from b x) (first_from b y))

some_range : (l : List BufId) (b : BufId) (m : List BufId) (range : Option Range) → range ≡ range_of (l ++ b ∷ m) → (r : Range) × (range ≡ Some r)
some_range [] b m range e = (_, e)
some_range (c ∷ l) b m range e = (_, e)

pub block_left : (test : BufId → Bool) (x : List BufId) (b : BufId) (y : List BufId) (range : Option Range) → test b ≡ true → Unlike b x → Unlike b y
    → IsBlock test (x ++ b ∷ y) range → Left test x b y range
block_left test x b y range t ux uy h =
    let at = locate test h.before h.inside h.after x b y (sym h.split) h.none_before h.none_after t in
    let is : range ≡ range_of (at.front ++ b ∷ at.back) = h.range_is ∙ ap range_of at.inside_is in
    let some = some_range at.front b at.back range is in
    let all = subst (Each (λ c. test c ≡ true)) at.inside_is h.all_inside in
    let u_front = each_right (λ c. (b.0 == c.0) ≡ false) h.before at.front (subst (Unlike b) at.before_is ux) in
    let u_back = each_left (λ c. (b.0 == c.0) ≡ false) at.back h.after (subst (Unlike b) at.after_is uy) in
    record {
      old = some.0;
      old_is = some.1;
      block = record {
        before = h.before;
        inside = at.front ++ at.back;
        after = h.after;
        split = ap (λ (m : List BufId). m ++ y) at.before_is ∙ ap (λ (m : List BufId). (h.before ++ at.front) ++ m) at.after_is
            ∙ append_assoc h.before at.front (at.back ++ h.after) ∙ ap (λ (m : List BufId). h.before ++ m) (sym (append_assoc at.front at.back h.after));
        none_before = h.none_before;
        all_inside = each_append (λ c. test c ≡ true) at.front at.back (each_left (λ c. test c ≡ true) at.front (b ∷ at.back) all) (each_right (λ c. test c ≡ true) at.front (b ∷ at.back) all).1;
        none_after = h.none_after;
        range_is = ap (λ (m : List BufId). narrowed some.0 b (last_from b m) (first_from b y)) at.before_is
            ∙ ap (λ (m : List BufId). narrowed some.0 b (last_from b (h.before ++ at.front)) (first_from b m)) at.after_is
            ∙ left_range at.front b at.back h.before h.after some.0 u_front u_back (sym some.1 ∙ is);
      };
    }

-- the place after the last member
behind_last-none : (test : BufId → Bool) (l : List BufId) → Each (λ c. test c ≡ false) l → behind_last test l ≡ None
behind_last-none test [] h = refl
behind_last-none test (c ∷ l) h = rw (h.0, behind_last-none test l h.1) refl

one_further_some : (t : Bool) (k : ℕ) → one_further t (Some k) ≡ Some (k + 1)
one_further_some true k = refl
one_further_some false k = refl

behind_last_members : (test : BufId → Bool) (k : BufId) (l after : List BufId) → Each (λ c. test c ≡ true) (k ∷ l) → Each (λ c. test c ≡ false) after
    → behind_last test (k ∷ (l ++ after)) ≡ Some (length (k ∷ l))
behind_last_members test k [] after h n = rw (behind_last-none test after n, h.0) refl
behind_last_members test k (m ∷ l) after h n =
    let e : length (m ∷ l) + 1 ≡ length (k ∷ m ∷ l) = omega arith in
    rw (behind_last_members test m l after h.1 n) (one_further_some (test k) (length (m ∷ l)) ∙ ap (λ (x : ℕ). Some x) e)

behind_last_block : (test : BufId → Bool) (before : List BufId) (k : BufId) (l after : List BufId) → Each (λ c. test c ≡ true) (k ∷ l) → Each (λ c. test c ≡ false) after
    → behind_last test (before ++ k ∷ (l ++ after)) ≡ Some (length (before ++ k ∷ l))
behind_last_block test [] k l after h n = behind_last_members test k l after h n
behind_last_block test (c ∷ before) k l after h n =
    let e : length (before ++ k ∷ l) + 1 ≡ length (c ∷ (before ++ k ∷ l)) = omega arith in
    rw (behind_last_block test before k l after h n) (one_further_some (test c) (length (before ++ k ∷ l)) ∙ ap (λ (x : ℕ). Some x) e)

pub placed_last : (test : BufId → Bool) (b : BufId) (l : List BufId) → Each (λ c. test c ≡ false) l → placed_in test b l ≡ l ++ b ∷ []
placed_last test b l h = rw (behind_last-none test l h) (insert_end l b)

pub insert_between : (p q : List BufId) (b : BufId) → insert (p ++ q) (length p) b ≡ p ++ b ∷ q
insert_between p q b = rw (take_at p q (length p) refl, drop_at p q (length p) refl) refl

-- a first member joins at the end
pub record JoinedLast (test : BufId → Bool) (l : List BufId) (b : BufId) : Type 0 where
  pub placed : placed_in test b l ≡ l ++ b ∷ []
  pub block : IsBlock test (l ++ b ∷ []) (Some (widened None b))

none_inside : (l : List BufId) → None ≡ range_of l → l ≡ []
none_inside [] e = refl
none_inside (b ∷ l) e = cc

pub block_joined_last : (test : BufId → Bool) (l : List BufId) (b : BufId) → test b ≡ true → IsBlock test l None → JoinedLast test l b
block_joined_last test l b t h =
    let empty = none_inside h.inside h.range_is in
    let is : l ≡ h.before ++ h.after = h.split ∙ ap (λ (m : List BufId). h.before ++ (m ++ h.after)) empty in
    let none : Each (λ c. test c ≡ false) l = subst (Each (λ c. test c ≡ false)) (sym is) (each_append (λ c. test c ≡ false) h.before h.after h.none_before h.none_after) in
    record {
      placed = placed_last test b l none;
      block = record {
        before = l;
        inside = b ∷ [];
        after = [];
        split = refl;
        none_before = none;
        all_inside = (t, tt);
        none_after = tt;
        range_is = refl;
      };
    }

-- a member joins after the last
pub record JoinedBehind (test : BufId → Bool) (l : List BufId) (r : Range) (b : BufId) : Type 0 where
  pub front : List BufId
  pub back : List BufId
  pub split : l ≡ front ++ r.last ∷ back
  pub placed : placed_in test b l ≡ front ++ r.last ∷ b ∷ back
  pub block : IsBlock test (front ++ r.last ∷ b ∷ back) (Some (widened (Some r) b))
  pub last_passes : test r.last ≡ true

pub record Ends (k : BufId) (l : List BufId) : Type 0 where
  pub front : List BufId
  pub is : k ∷ l ≡ front ++ last_from k l ∷ []

pub ends_of : (k : BufId) (l : List BufId) → Ends k l
ends_of k [] = record { front = []; is = refl }
ends_of k (m ∷ l) = let r = ends_of m l in record { front = k ∷ r.front; is = ap (λ (x : List BufId). k ∷ x) r.is }

joined_inside : (test : BufId → Bool) (before inside after : List BufId) (r : Range) (b : BufId) → Some r ≡ range_of inside → test b ≡ true
    → Each (λ c. test c ≡ false) before → Each (λ c. test c ≡ true) inside → Each (λ c. test c ≡ false) after → JoinedBehind test (before ++ (inside ++ after)) r b
joined_inside test before [] after r b e t n1 all n2 = absurd (cc)
joined_inside test before (k ∷ l) after r b e t n1 all n2 =
    let last_is : r.last ≡ last_from k l = cc in
    let first_is : r.first ≡ k = cc in
    let ends = ends_of k l in
    let cut : k ∷ l ≡ ends.front ++ r.last ∷ [] = ends.is ∙ ap (λ (x : BufId). ends.front ++ x ∷ []) (sym last_is) in
    let whole : before ++ k ∷ (l ++ after) ≡ (before ++ ends.front) ++ r.last ∷ after =
    ap (λ (m : List BufId). before ++ (m ++ after)) cut ∙ ap (λ (m : List BufId). before ++ m) (append_assoc ends.front (r.last ∷ []) after) ∙ sym (append_assoc before ends.front (r.last ∷ after)) in
    let grown : (before ++ ends.front) ++ r.last ∷ b ∷ after ≡ before ++ ((k ∷ (l ++ b ∷ [])) ++ after) =
    append_assoc before ends.front (r.last ∷ b ∷ after)
    ∙ ap (λ (m : List BufId). before ++ m) (sym (append_assoc ends.front (r.last ∷ []) (b ∷ after)) ∙ ap (λ (m : List BufId). m ++ b ∷ after) (sym cut)
    ∙ ap (λ (m : List BufId). k ∷ m) (sym (append_assoc l (b ∷ []) after))) in
    let same : before ++ k ∷ (l ++ after) ≡ (before ++ k ∷ l) ++ after = sym (append_assoc before (k ∷ l) after) in
    let again : (before ++ k ∷ l) ++ b ∷ after ≡ before ++ ((k ∷ (l ++ b ∷ [])) ++ after) =
    append_assoc before (k ∷ l) (b ∷ after) ∙ ap (λ (m : List BufId). before ++ k ∷ m) (sym (append_assoc l (b ∷ []) after)) in
    record {
      front = before ++ ends.front;
      back = after;
      split = whole;
      placed = ap (λ (x : Option ℕ). insert (before ++ k ∷ (l ++ after)) (unwrap_or x (length (before ++ k ∷ (l ++ after)))) b) (behind_last_block test before k l after all n2)
          ∙ ap (λ (m : List BufId). insert m (length (before ++ k ∷ l)) b) same
          ∙ insert_between (before ++ k ∷ l) after b ∙ again ∙ sym grown;
      block = record {
        before = before;
        inside = k ∷ (l ++ b ∷ []);
        after = after;
        split = grown;
        none_before = n1;
        all_inside = (all.0, each_append (λ c. test c ≡ true) l (b ∷ []) all.1 (t, tt));
        none_after = n2;
        range_is = ap (λ (x : BufId). Some (record { first = x; last = b })) first_is ∙ ap (λ (x : BufId). Some (record { first = k; last = x })) (sym (last_from-append k l b []));
      };
      last_passes = subst (λ x. test x ≡ true) (sym last_is) (last_from_each (λ c. test c ≡ true) k l all.0 all.1);
    }

pub block_joined_behind : (test : BufId → Bool) (l : List BufId) (r : Range) (b : BufId) → test b ≡ true → IsBlock test l (Some r) → JoinedBehind test l r b
block_joined_behind test l r b t h =
    subst (λ m. JoinedBehind test m r b) (sym h.split) (joined_inside test h.before h.inside h.after r b h.range_is t h.none_before h.all_inside h.none_after)

-- all members go to the end
pub record Moved (test : BufId → Bool) (l : List BufId) (r : Range) : Type 0 where
  pub before : List BufId
  pub rest : List BufId
  pub after : List BufId
  pub split : l ≡ before ++ r.first ∷ (rest ++ after)
  pub last_is : r.last ≡ last_from r.first rest
  pub moved : members_last test l ≡ before ++ (after ++ r.first ∷ rest)
  pub block : IsBlock test (before ++ (after ++ r.first ∷ rest)) (Some r)

not_passing : (test : BufId → Bool) (x : BufId) → test x ≡ false → not (test x) ≡ true
not_passing test x h = rw h refl

not_failing : (test : BufId → Bool) (x : BufId) → test x ≡ true → not (test x) ≡ false
not_failing test x h = rw h refl

members_last_parts : (test : BufId → Bool) (before inside after : List BufId) → Each (λ c. test c ≡ false) before → Each (λ c. test c ≡ true) inside → Each (λ c. test c ≡ false) after
    → members_last test (before ++ (inside ++ after)) ≡ before ++ (after ++ inside)
members_last_parts test before inside after n1 all n2 =
    let keep : BufId → Bool = λ c. not (test c) in
    let e1 : filter keep (before ++ (inside ++ after)) ≡ before ++ after =
    filter-append keep before (inside ++ after)
    ∙ ap (λ (m : List BufId). m ++ filter keep (inside ++ after)) (filter_all keep before (each_map (λ c. test c ≡ false) (λ c. keep c ≡ true) (not_passing test) before n1))
    ∙ ap (λ (m : List BufId). before ++ m) (filter-append keep inside after
    ∙ ap (λ (m : List BufId). m ++ filter keep after) (filter_none keep inside (each_map (λ c. test c ≡ true) (λ c. keep c ≡ false) (not_failing test) inside all))
    ∙ filter_all keep after (each_map (λ c. test c ≡ false) (λ c. keep c ≡ true) (not_passing test) after n2)) in
    let e2 : filter test (before ++ (inside ++ after)) ≡ inside =
    filter-append test before (inside ++ after)
    ∙ ap (λ (m : List BufId). m ++ filter test (inside ++ after)) (filter_none test before n1)
    ∙ filter-append test inside after
    ∙ ap (λ (m : List BufId). m ++ filter test after) (filter_all test inside all)
    ∙ ap (λ (m : List BufId). inside ++ m) (filter_none test after n2) ∙ append-nil inside in
    ap (λ (m : List BufId). m ++ filter test (before ++ (inside ++ after))) e1 ∙ ap (λ (m : List BufId). (before ++ after) ++ m) e2 ∙ append_assoc before after inside

moved_inside : (test : BufId → Bool) (before inside after : List BufId) (r : Range) → Some r ≡ range_of inside
    → Each (λ c. test c ≡ false) before → Each (λ c. test c ≡ true) inside → Each (λ c. test c ≡ false) after → Moved test (before ++ (inside ++ after)) r
moved_inside test before [] after r e n1 all n2 = absurd (cc)
moved_inside test before (k ∷ l) after r e n1 all n2 =
    let last_is : r.last ≡ last_from k l = cc in
    let first_is : k ≡ r.first = cc in
    let all' : Each (λ c. test c ≡ true) (r.first ∷ l) = (subst (λ x. test x ≡ true) first_is all.0, all.1) in
    record {
      before = before;
      rest = l;
      after = after;
      split = ap (λ (x : BufId). before ++ x ∷ (l ++ after)) first_is;
      last_is = last_is ∙ ap (λ (x : BufId). last_from x l) first_is;
      moved = members_last_parts test before (k ∷ l) after n1 all n2 ∙ ap (λ (x : BufId). before ++ (after ++ x ∷ l)) first_is;
      block = record {
        before = before ++ after;
        inside = r.first ∷ l;
        after = [];
        split = sym (append_assoc before after (r.first ∷ l)) ∙ ap (λ (m : List BufId). (before ++ after) ++ m) (sym (append-nil (r.first ∷ l)));
        none_before = each_append (λ c. test c ≡ false) before after n1 n2;
        all_inside = all';
        none_after = tt;
        range_is = ap (λ (x : BufId). Some (record { first = r.first; last = x })) (last_is ∙ ap (λ (x : BufId). last_from x l) first_is);
      };
    }

pub block_moved : (test : BufId → Bool) (l : List BufId) (r : Range) → IsBlock test l (Some r) → Moved test l r
block_moved test l r h = subst (λ m. Moved test m r) (sym h.split) (moved_inside test h.before h.inside h.after r h.range_is h.none_before h.all_inside h.none_after)

pub block_empty : (test : BufId → Bool) (l : List BufId) → IsBlock test l None → members_last test l ≡ l
block_empty test l h =
    let empty = none_inside h.inside h.range_is in
    let is : l ≡ h.before ++ h.after = h.split ∙ ap (λ (m : List BufId). h.before ++ (m ++ h.after)) empty in
    let e = members_last_parts test h.before [] h.after h.none_before tt h.none_after in
    ap (members_last test) is ∙ e ∙ ap (λ (m : List BufId). h.before ++ m) (append-nil h.after) ∙ sym is
