-- What a part of the marks says of all of them.
use Rattle.std.proofs.Common.{◌≡◌, ℕ, Bool, true, false, cond, List, [], ◌∷◌, ◌++◌, Option, Some, None, refl, sym, ap, ◌∙◌, inl, inr, arith}
use Rattle.std.specs.Prelude.{◌==◌, ◌&&◌, ◌||◌, not, nat_le, find, fold, option_map}
use Rattle.std.specs.List.{list_any}
use Rattle.std.proofs.lemmas.Bool.{cases_Bool, eqb-true}
use Rattle.std.proofs.lemmas.Bool.Decides.{nat_tests}
use Rattle.ttm_base.specs.declared.BufId.{BufId}
use Rattle.journal_model.specs.declared.script.Mark.{Mark}
use Rattle.journal_model.specs.declared.script.MarkKind.{MarkKind}
use Rattle.journal_model.specs.declared.script.MarkKind.TheVariants as mark
use Rattle.journal_model.specs.rules.State.{same_buffer}
use Rattle.journal_model.specs.marks.Mapped.{Access, Mapping, end_of, has_ended, is_through, mapping_of, mappings_in, unmaps}
use Rattle.map_access.specs.Accesses.{has_ended_by, is_way_of}
use Rattle.map_access.specs.Parts.{IsPart, is_within}
use Rattle.map_access.proofs.Accesses.{beyond, ended_is, here}

either : (a b : Bool) → (a || b) ≡ false → (a ≡ false) × (b ≡ false)
either true b h = absurd cc
either false true h = absurd cc
either false false h = (refl, refl)

-- ---- a step that changes nothing for other marks

module _ {X : Type 0} (f : X → Mark → X) (w : Mark → Bool) (same : (x : X) (m : Mark) → w m ≡ false → f x m ≡ x) where
  pub fold_none : (x : X) (ms : List Mark) → list_any w ms ≡ false → fold f x ms ≡ x
  fold_none x [] h = refl
  fold_none x (m ∷ ms) h =
      let parts = either (w m) (list_any w ms) h in
      ap (λ y. fold f y ms) (same x m parts.0) ∙ fold_none x ms parts.1

  fold_joined : (x : X) (xs ys : List Mark) → list_any w ys ≡ false → fold f x (xs ++ ys) ≡ fold f x xs
  fold_joined x [] ys h = fold_none x ys h
  fold_joined x (m ∷ xs) ys h = fold_joined (f x m) xs ys h

  fold_behind : (x : X) (xs ys : List Mark) → list_any w xs ≡ false → fold f x (xs ++ ys) ≡ fold f x ys
  fold_behind x [] ys h = refl
  fold_behind x (m ∷ xs) ys h =
      let parts = either (w m) (list_any w xs) h in
      ap (λ y. fold f y (xs ++ ys)) (same x m parts.0) ∙ fold_behind x xs ys parts.1

-- a fold over all marks is one over the part
pub fold_part : {X : Type 0} (f : X → Mark → X) (thread first last : ℕ) (part marks : List Mark)
    → ((x : X) (m : Mark) → is_within thread first last m ≡ false → f x m ≡ x) → IsPart thread first last part marks → (x : X) → fold f x part ≡ fold f x marks
fold_part f thread first last part marks same is x =
    let w = is_within thread first last in
    sym (ap (fold f x) is.whole ∙ fold_behind f w same x is.before (part ++ is.behind) is.none_before ∙ fold_joined f w same x part is.behind is.none_behind)

-- ---- a mark makes the command a peek or poke

module _ (p w : Mark → Bool) (needs : (m : Mark) → w m ≡ false → p m ≡ false) where
  none_any : (ms : List Mark) → list_any w ms ≡ false → list_any p ms ≡ false
  none_any [] h = refl
  none_any (m ∷ ms) h =
      let parts = either (w m) (list_any w ms) h in
      ap (λ (b : Bool). b || list_any p ms) (needs m parts.0) ∙ none_any ms parts.1

  any_joined : (xs ys : List Mark) → list_any w ys ≡ false → list_any p (xs ++ ys) ≡ list_any p xs
  any_joined [] ys h = none_any ys h
  any_joined (m ∷ xs) ys h = ap (λ (b : Bool). p m || b) (any_joined xs ys h)

  any_behind : (xs ys : List Mark) → list_any w xs ≡ false → list_any p (xs ++ ys) ≡ list_any p ys
  any_behind [] ys h = refl
  any_behind (m ∷ xs) ys h =
      let parts = either (w m) (list_any w xs) h in
      ap (λ (b : Bool). b || list_any p (xs ++ ys)) (needs m parts.0) ∙ any_behind xs ys parts.1

no_way : (thread n : ℕ) (m : Mark) → is_within thread n n m ≡ false → is_way_of thread n m ≡ false
no_way thread n m h = grind (arith, nat_tests, h)

pub way_in_part : (thread n : ℕ) (part marks : List Mark) → IsPart thread n n part marks → list_any (is_way_of thread n) part ≡ list_any (is_way_of thread n) marks
way_in_part thread n part marks is =
    let p = is_way_of thread n in
    let w = is_within thread n n in
    sym (ap (list_any p) is.whole ∙ any_behind p w (no_way thread n) is.before (part ++ is.behind) is.none_before ∙ any_joined p w (no_way thread n) part is.behind is.none_behind)

-- ---- mappings

module _ (thread n : ℕ) (a : Access) where
  abbrev through : Mapping → Bool
  through r = is_through r thread n a

  not_through : (r : Mapping) (m : Mark) → r.thread ≡ m.thread → r.from ≡ m.after → is_within thread 0 n m ≡ false → through r ≡ false
  not_through r m e f h = by (not (has_ended r n)) (same_buffer r.b a.b)
    where
      by : (b c : Bool) → ((r.thread == thread) && c && nat_le r.from n && b) ≡ false
      by b c = grind (arith, nat_tests, e, f, h)

  none_by : (m : Mark) (behind : List Mark) (k : MarkKind) → is_within thread 0 n m ≡ false → list_any through (mapping_of m behind k) ≡ false
  none_by m behind (mark.Map b) h =
      let r : Mapping = record { thread = m.thread; b = b; from = m.after; upto = end_of m.thread b behind } in
      ap (λ (c : Bool). c || false) (not_through r m refl refl h)
  none_by m behind (mark.Unmap b) h = refl
  none_by m behind mark.Mapped h = refl
  none_by m behind (mark.Vmap va k b off) h = refl
  none_by m behind (mark.Vunmap va k) h = refl
  none_by m behind (mark.Vsubmit ops) h = refl

  find_behind : (xs ys : List Mark) → list_any (is_within thread 0 n) xs ≡ false → find through (mappings_in (xs ++ ys)) ≡ find through (mappings_in ys)
  find_behind [] ys h = refl
  find_behind (m ∷ xs) ys h =
      let parts = either (is_within thread 0 n m) (list_any (is_within thread 0 n) xs) h in
      beyond through m (xs ++ ys) m.kind (mappings_in (xs ++ ys)) (none_by m (xs ++ ys) m.kind parts.0) ∙ find_behind xs ys parts.1

  find_none : (ms : List Mark) → list_any (is_within thread 0 n) ms ≡ false → find through (mappings_in ms) ≡ None
  find_none [] h = refl
  find_none (m ∷ ms) h =
      let parts = either (is_within thread 0 n m) (list_any (is_within thread 0 n) ms) h in
      beyond through m ms m.kind (mappings_in ms) (none_by m ms m.kind parts.0) ∙ find_none ms parts.1

  -- a line that follows more commands ends no mapping before
  late : (b : BufId) (m : Mark) → is_within thread 0 n m ≡ false → unmaps thread b m ≡ true → nat_le m.after n ≡ false
  late b m h u = by (elim m.kind as (λ _. Bool) [ mark.Unmap c ↦ same_buffer b c | _ ↦ false ]) u
    where
      by : (c : Bool) → ((m.thread == thread) && c) ≡ true → nat_le m.after n ≡ false
      by true k = grind (arith, nat_tests, h, k)
      by false k = grind (arith, nat_tests, h, k)

  pub not_ended : (b : BufId) (ms : List Mark) → list_any (is_within thread 0 n) ms ≡ false → has_ended_by (end_of thread b ms) n ≡ false
  not_ended b [] h = refl
  not_ended b (m ∷ ms) h =
      let parts = either (is_within thread 0 n m) (list_any (is_within thread 0 n) ms) h in
      by parts.0 (not_ended b ms parts.1) (unmaps thread b m) refl
    where
      by : is_within thread 0 n m ≡ false → has_ended_by (end_of thread b ms) n ≡ false → (c : Bool) → unmaps thread b m ≡ c
          → has_ended_by (option_map (λ k. k.after) (cond c (Some m) (find (unmaps thread b) ms))) n ≡ false
      by out rest true e = late b m out e
      by out rest false e = rest

  ended_same : (b : BufId) (xs ys : List Mark) → list_any (is_within thread 0 n) ys ≡ false → has_ended_by (end_of thread b (xs ++ ys)) n ≡ has_ended_by (end_of thread b xs) n
  ended_same b [] ys h = not_ended b ys h
  ended_same b (m ∷ xs) ys h = by (ended_same b xs ys h) (unmaps thread b m)
    where
      by : has_ended_by (end_of thread b (xs ++ ys)) n ≡ has_ended_by (end_of thread b xs) n → (c : Bool)
          → has_ended_by (option_map (λ k. k.after) (cond c (Some m) (find (unmaps thread b) (xs ++ ys)))) n
          ≡ has_ended_by (option_map (λ k. k.after) (cond c (Some m) (find (unmaps thread b) xs))) n
      by rest true = refl
      by rest false = rest

  -- lines that follow more commands don't count for the mapping of a mark
  will_same : (m : Mark) (xs ys : List Mark) (k : MarkKind) → list_any (is_within thread 0 n) ys ≡ false
      → list_any through (mapping_of m (xs ++ ys) k) ≡ list_any through (mapping_of m xs k)
  will_same m xs ys (mark.Map b) h = by (m.thread == thread) refl
    where
      all : Mapping
      all = record { thread = m.thread; b = b; from = m.after; upto = end_of m.thread b (xs ++ ys) }

      some : Mapping
      some = record { thread = m.thread; b = b; from = m.after; upto = end_of m.thread b xs }

      ended : m.thread ≡ thread → has_ended all n ≡ has_ended some n
      ended same =
          sym (ended_is all n) ∙ ap (λ u. has_ended_by (end_of u b (xs ++ ys)) n) same ∙ ended_same b xs ys h
          ∙ ap (λ u. has_ended_by (end_of u b xs) n) (sym same) ∙ ended_is some n

      by : (t : Bool) → (m.thread == thread) ≡ t
          → ((t && same_buffer b a.b && nat_le m.after n && not (has_ended all n)) || false)
          ≡ ((t && same_buffer b a.b && nat_le m.after n && not (has_ended some n)) || false)
      by true e = ap (λ x. (true && same_buffer b a.b && nat_le m.after n && not x) || false) (ended (eqb-true m.thread thread e))
      by false e = refl
  will_same m xs ys (mark.Unmap b) h = refl
  will_same m xs ys mark.Mapped h = refl
  will_same m xs ys (mark.Vmap va k b off) h = refl
  will_same m xs ys (mark.Vunmap va k) h = refl
  will_same m xs ys (mark.Vsubmit ops) h = refl

  abbrev begun : List Mapping → Option ℕ
  begun rs = option_map (λ r. r.from) (find through rs)

  find_joined : (xs ys : List Mark) → list_any (is_within thread 0 n) ys ≡ false → begun (mappings_in (xs ++ ys)) ≡ begun (mappings_in xs)
  find_joined [] ys h = ap (option_map (λ (r : Mapping). r.from)) (find_none ys h)
  find_joined (m ∷ xs) ys h =
      let same = will_same m xs ys m.kind h in
      elim (cases_Bool (list_any through (mapping_of m xs m.kind))) [
        | inl e ↦ here through m (xs ++ ys) m.kind (mappings_in (xs ++ ys)) (same ∙ e) ∙ sym (here through m xs m.kind (mappings_in xs) e)
        | inr e ↦
            ap (option_map (λ (r : Mapping). r.from)) (beyond through m (xs ++ ys) m.kind (mappings_in (xs ++ ys)) (same ∙ e))
            ∙ find_joined xs ys h
            ∙ sym (ap (option_map (λ (r : Mapping). r.from)) (beyond through m xs m.kind (mappings_in xs) e))
      ]

  -- the part has the mapping through which the command goes
  pub mapped_in_part : (part marks : List Mark) → IsPart thread 0 n part marks → begun (mappings_in part) ≡ begun (mappings_in marks)
  mapped_in_part part marks is =
      sym (ap (λ ms. begun (mappings_in ms)) is.whole
      ∙ ap (option_map (λ (r : Mapping). r.from)) (find_behind is.before (part ++ is.behind) is.none_before)
      ∙ find_joined part is.behind is.none_behind)
