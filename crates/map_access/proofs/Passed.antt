-- The mapping that stands, command by command: lines in order are passed one by one.
use Rattle.std.proofs.Common.{◌≡◌, ℕ, zero, suc, ◌+◌, Bool, true, false, cond, List, [], ◌∷◌, ◌++◌, Option, Some, None, refl, sym, ap, ◌∙◌, arith}
use Rattle.std.specs.Prelude.{◌==◌, ◌&&◌, not, nat_le, find, fold, option_map, if◌then◌else◌}
use Rattle.std.specs.List.{list_any}
use Rattle.std.proofs.lemmas.Bool.{eqb-true}
use Rattle.std.proofs.lemmas.Bool.Decides.{nat_tests}
use Rattle.ttm_base.specs.declared.BufId.{BufId}
use Rattle.journal_model.specs.declared.script.Script.{Script}
use Rattle.journal_model.specs.declared.script.Mark.{Mark}
use Rattle.journal_model.specs.declared.script.MarkKind.{MarkKind}
use Rattle.journal_model.specs.declared.script.MarkKind.TheVariants as mark
use Rattle.journal_model.specs.rules.State.{same_buffer}
use Rattle.journal_model.specs.scripts.MarkRules.{is_above, are_in_order}
use Rattle.journal_model.specs.marks.Mapped.{Access, Mapping, end_of, has_ended, is_through, mapping_of, mappings_in, unmaps}
use Rattle.map_access.specs.Accesses.{has_ended_by}
use Rattle.map_access.specs.Parts.{IsPart, is_up_to, is_within}
use Rattle.map_access.specs.Passing.{Stands, behind_line, behind_mark, or_from, start_of}
use Rattle.map_access.proofs.Accesses.{ended_is}
use Rattle.map_access.proofs.Order.{both, or_false, past_not_within, tail_order}
use Rattle.map_access.proofs.Parts.{fold_none, fold_part, not_ended}

pub pick_same : {X : Type 0} (c : Bool) (x : X) → (if c then x else x) ≡ x
pick_same true x = refl
pick_same false x = refl

-- ---- lines below one that follows more commands follow more, too

below_is_past : (thread n : ℕ) (m k : Mark) → is_above m k ≡ true → is_up_to thread n m ≡ false → is_up_to thread n k ≡ false
below_is_past thread n m k a h = grind (arith, nat_tests, h, a)

none_below : (thread n : ℕ) (m : Mark) (ms : List Mark) → are_in_order (m ∷ ms) ≡ true → is_up_to thread n m ≡ false → list_any (is_within thread 0 n) ms ≡ false
none_below thread n m [] o h = refl
none_below thread n m (k ∷ ms) o h =
    let parts = both (is_above m k) (are_in_order (k ∷ ms)) o in
    let past = below_is_past thread n m k parts.0 h in
    or_false (is_within thread 0 n k) (list_any (is_within thread 0 n) ms) (past_not_within thread 0 n k past) (none_below thread n k ms parts.1 past)

late_is_past : (thread n : ℕ) (m : Mark) → (m.thread == thread) ≡ true → nat_le m.after n ≡ false → is_up_to thread n m ≡ false
late_is_past thread n m t u = grind (arith, nat_tests, t, u)

module _ (thread : ℕ) (b : BufId) where
  -- a line was passed that follows at most `n` commands
  abbrev pub up_to_mark : ℕ → Option ℕ → Mark → Option ℕ
  up_to_mark n old m = if (m.thread == thread) && nat_le m.after n then behind_line b m.after m.kind old else old

  abbrev pub up_to : ℕ → Option ℕ → List Mark → Option ℕ
  up_to n old ms = fold (up_to_mark n) old ms

  beyond_same : (n : ℕ) (old : Option ℕ) (m : Mark) → is_within thread 0 n m ≡ false → up_to_mark n old m ≡ old
  beyond_same n old m h =
      let out : ((m.thread == thread) && nat_le m.after n) ≡ false = grind (arith, nat_tests, h) in
      ap (λ (c : Bool). if c then behind_line b m.after m.kind old else old) out

  none_passed : (n : ℕ) (old : Option ℕ) (m : Mark) (ms : List Mark) → are_in_order (m ∷ ms) ≡ true → (m.thread == thread) ≡ true → nat_le m.after n ≡ false → up_to n old ms ≡ old
  none_passed n old m ms o t u = fold_none (up_to_mark n) (is_within thread 0 n) (beyond_same n) old ms (none_below thread n m ms o (late_is_past thread n m t u))

  -- ---- the lines of one more command

  abbrev Next : ℕ → Option ℕ → List Mark → Type 0
  Next n old ms = up_to (n + 1) old ms ≡ fold (behind_mark thread (n + 1) b) (up_to n old ms) ms

  one_next : (n : ℕ) (old : Option ℕ) (m : Mark) (ms : List Mark) → are_in_order (m ∷ ms) ≡ true → ((old : Option ℕ) → Next n old ms)
      → (t u v w : Bool) → (m.thread == thread) ≡ t → nat_le m.after n ≡ u → (m.after == n + 1) ≡ v → nat_le m.after (n + 1) ≡ w
      → up_to (n + 1) (if t && w then behind_line b m.after m.kind old else old) ms
      ≡ fold (behind_mark thread (n + 1) b) (if t && v then behind_line b (n + 1) m.kind (up_to n (if t && u then behind_line b m.after m.kind old else old) ms) else up_to n (if t && u then behind_line b m.after m.kind old else old) ms) ms
  one_next n old m ms o rest false u v w te ue ve we = rest old
  one_next n old m ms o rest true true false true te ue ve we = rest (behind_line b m.after m.kind old)
  one_next n old m ms o rest true true false false te ue ve we = let no : nat_le m.after (n + 1) ≡ true = grind (arith, nat_tests, ue) in absurd cc
  one_next n old m ms o rest true true true w te ue ve we = let no : (m.after == n + 1) ≡ false = grind (arith, nat_tests, ue) in absurd cc
  one_next n old m ms o rest true false true true te ue ve we =
      let here : m.after ≡ n + 1 = eqb-true m.after (n + 1) ve in
      let before = none_passed n old m ms o te ue in
      let now = none_passed n (behind_line b m.after m.kind old) m ms o te ue in
      rest (behind_line b m.after m.kind old)
      ∙ ap (λ x. fold (behind_mark thread (n + 1) b) x ms) (now ∙ ap (λ a. behind_line b a m.kind old) here ∙ ap (λ x. behind_line b (n + 1) m.kind x) (sym before))
  one_next n old m ms o rest true false true false te ue ve we = let no : nat_le m.after (n + 1) ≡ true = grind (arith, nat_tests, ve) in absurd cc
  one_next n old m ms o rest true false false true te ue ve we = let no : nat_le m.after (n + 1) ≡ false = grind (arith, nat_tests, ue, ve) in absurd cc
  one_next n old m ms o rest true false false false te ue ve we = rest old

  pub passed_next : (n : ℕ) (old : Option ℕ) (ms : List Mark) → are_in_order ms ≡ true → Next n old ms
  passed_next n old [] o = refl
  passed_next n old (m ∷ ms) o =
      one_next n old m ms o (λ x. passed_next n x ms (tail_order m ms o)) (m.thread == thread) (nat_le m.after n) (m.after == n + 1) (nat_le m.after (n + 1)) refl refl refl refl

  -- ---- the lines above the first command

  one_first : (a : ℕ) (k : MarkKind) (old : Option ℕ) (t u v : Bool) → nat_le a 0 ≡ u → (a == 0) ≡ v
      → (if t && u then behind_line b a k old else old) ≡ (if t && v then behind_line b 0 k old else old)
  one_first a k old false u v ue ve = refl
  one_first a k old true true true ue ve = ap (λ x. behind_line b x k old) (eqb-true a 0 ve)
  one_first a k old true false false ue ve = refl
  one_first a k old true true false ue ve = let no : (a == 0) ≡ true = grind (arith, nat_tests, ue) in absurd cc
  one_first a k old true false true ue ve = let no : (a == 0) ≡ false = grind (arith, nat_tests, ue) in absurd cc

  pub passed_first : (old : Option ℕ) (ms : List Mark) → up_to 0 old ms ≡ fold (behind_mark thread 0 b) old ms
  passed_first old [] = refl
  passed_first old (m ∷ ms) =
      ap (λ x. up_to 0 x ms) (one_first m.after m.kind old (m.thread == thread) (nat_le m.after 0) (m.after == 0) refl refl) ∙ passed_first (behind_mark thread 0 b old m) ms

  -- ---- what stands after the lines is the first mapping through which the command goes

  abbrev named : Access
  named = record { b = b; off = 0; len = 0 }

  abbrev through : ℕ → Mapping → Bool
  through n r = is_through r thread n named

  -- after how many commands the first of these mappings stands
  abbrev begun : ℕ → List Mapping → Option ℕ
  begun n rs = option_map (λ r. r.from) (find (through n) rs)

  abbrev pub stands : ℕ → List Mark → Option ℕ
  stands n ms = begun n (mappings_in ms)

  abbrev or_else : Option ℕ → Option ℕ → Option ℕ
  or_else None new = new
  or_else (Some old) new = Some old

  -- what stood before stands on, unless it is ended
  abbrev Passed : ℕ → Option ℕ → List Mark → Type 0
  Passed n old ms = up_to n old ms ≡ (if has_ended_by (end_of thread b ms) n then stands n ms else or_else old (stands n ms))

  from_first : (old new : Option ℕ) (n : ℕ) → or_else (or_from old n) new ≡ or_else old (Some n)
  from_first None new n = refl
  from_first (Some x) new n = refl

  same_end : (m : Mark) (c : BufId) (ms : List Mark) → (m.thread == thread) ≡ true → same_buffer c b ≡ true → end_of m.thread c ms ≡ end_of thread b ms
  same_end m c ms t s =
      ap (λ u. end_of u c ms) (eqb-true m.thread thread t) ∙ ap (λ (i : ℕ). end_of thread (record { 0 = i }) ms) (eqb-true c.0 b.0 s)

  module _ (n : ℕ) (old : Option ℕ) (m : Mark) (ms : List Mark) (o : are_in_order (m ∷ ms) ≡ true) (rest : (x : Option ℕ) → Passed n x ms) where
    abbrev ends : Bool
    ends = has_ended_by (end_of thread b ms) n

    -- a map line of the buffer
    opened : (c : BufId) (h : Bool) → ends ≡ h → has_ended_by (end_of m.thread c ms) n ≡ h
        → up_to n (or_from old m.after) ms
        ≡ (if ends then option_map (λ (r : Mapping). r.from) (cond (true && true && true && not h) (Some (record { thread = m.thread; b = c; from = m.after; upto = end_of m.thread c ms })) (find (through n) (mappings_in ms)))
        else or_else old (option_map (λ (r : Mapping). r.from) (cond (true && true && true && not h) (Some (record { thread = m.thread; b = c; from = m.after; upto = end_of m.thread c ms })) (find (through n) (mappings_in ms)))))
    opened c true e f =
        rest (or_from old m.after) ∙ ap (λ (x : Bool). if x then stands n ms else or_else (or_from old m.after) (stands n ms)) e
        ∙ ap (λ (x : Bool). if x then stands n ms else or_else old (stands n ms)) (sym e)
    opened c false e f =
        rest (or_from old m.after) ∙ ap (λ (x : Bool). if x then stands n ms else or_else (or_from old m.after) (stands n ms)) e
        ∙ from_first old (stands n ms) m.after
        ∙ ap (λ (x : Bool). if x then Some m.after else or_else old (Some m.after)) (sym e)

    by_map : (c : BufId) (t s u h : Bool) → (m.thread == thread) ≡ t → same_buffer c b ≡ s → nat_le m.after n ≡ u → has_ended_by (end_of m.thread c ms) n ≡ h
        → up_to n (if t && u then (if s then or_from old m.after else old) else old) ms
        ≡ (if has_ended_by (option_map (λ k. k.after) (cond (t && false) (Some m) (find (unmaps thread b) ms))) n
        then option_map (λ (r : Mapping). r.from) (cond (t && s && u && not h) (Some (record { thread = m.thread; b = c; from = m.after; upto = end_of m.thread c ms })) (find (through n) (mappings_in ms)))
        else or_else old (option_map (λ (r : Mapping). r.from) (cond (t && s && u && not h) (Some (record { thread = m.thread; b = c; from = m.after; upto = end_of m.thread c ms })) (find (through n) (mappings_in ms)))))
    by_map c false s u h te se ue he = rest old
    by_map c true false u h te se ue he = ap (λ x. up_to n x ms) (pick_same u old) ∙ rest old
    by_map c true true false h te se ue he = rest old
    by_map c true true true h te se ue he = opened c h (ap (λ e. has_ended_by e n) (sym (same_end m c ms te se)) ∙ he) he

    cleared : (h : Bool) → ends ≡ h → up_to n None ms ≡ stands n ms
    cleared true e = rest None ∙ ap (λ (x : Bool). if x then stands n ms else or_else None (stands n ms)) e
    cleared false e = rest None ∙ ap (λ (x : Bool). if x then stands n ms else or_else None (stands n ms)) e

    by_unmap : (t s u : Bool) → (m.thread == thread) ≡ t → nat_le m.after n ≡ u
        → up_to n (if t && u then (if s then None else old) else old) ms
        ≡ (if has_ended_by (option_map (λ k. k.after) (cond (t && s) (Some m) (find (unmaps thread b) ms))) n then stands n ms else or_else old (stands n ms))
    by_unmap false s u te ue = rest old
    by_unmap true false u te ue = ap (λ x. up_to n x ms) (pick_same u old) ∙ rest old
    by_unmap true true true te ue = cleared ends refl ∙ ap (λ (x : Bool). if x then stands n ms else or_else old (stands n ms)) (sym ue)
    by_unmap true true false te ue =
        rest old
        ∙ ap (λ (x : Bool). if x then stands n ms else or_else old (stands n ms))
        (not_ended thread n named b ms (none_below thread n m ms o (late_is_past thread n m te ue)) ∙ sym ue)

    by_other : (t u : Bool) → up_to n (if t && u then old else old) ms
        ≡ (if has_ended_by (option_map (λ k. k.after) (cond (t && false) (Some m) (find (unmaps thread b) ms))) n then stands n ms else or_else old (stands n ms))
    by_other true u = ap (λ x. up_to n x ms) (pick_same u old) ∙ rest old
    by_other false u = rest old

    one_passed : (k : MarkKind) → up_to n (if (m.thread == thread) && nat_le m.after n then behind_line b m.after k old else old) ms
        ≡ (if has_ended_by (option_map (λ j. j.after) (cond ((m.thread == thread) && elim k as (λ _. Bool) [ mark.Unmap c ↦ same_buffer b c | _ ↦ false ]) (Some m) (find (unmaps thread b) ms))) n
        then begun n (mapping_of m ms k ++ mappings_in ms) else or_else old (begun n (mapping_of m ms k ++ mappings_in ms)))
    one_passed (mark.Map c) =
        let r : Mapping = record { thread = m.thread; b = c; from = m.after; upto = end_of m.thread c ms } in
        by_map c (m.thread == thread) (same_buffer c b) (nat_le m.after n) (has_ended r n) refl refl refl (ended_is r n)
    one_passed (mark.Unmap c) = by_unmap (m.thread == thread) (same_buffer b c) (nat_le m.after n) refl refl
    one_passed mark.Mapped = by_other (m.thread == thread) (nat_le m.after n)
    one_passed (mark.Vmap va k b off) = by_other (m.thread == thread) (nat_le m.after n)
    one_passed (mark.Vunmap va k) = by_other (m.thread == thread) (nat_le m.after n)
    one_passed (mark.Vsubmit ops) = by_other (m.thread == thread) (nat_le m.after n)

  passed : (n : ℕ) (old : Option ℕ) (ms : List Mark) → are_in_order ms ≡ true → Passed n old ms
  passed n None [] o = refl
  passed n (Some x) [] o = refl
  passed n old (m ∷ ms) o = one_passed n old m ms o (λ x. passed n x ms (tail_order m ms o)) m.kind

  pub stands_is : (n : ℕ) (ms : List Mark) → are_in_order ms ≡ true → up_to n None ms ≡ stands n ms
  stands_is n ms o = passed n None ms o ∙ pick_same (has_ended_by (end_of thread b ms) n) (stands n ms)

  -- above the first command
  pub stands_first : (ms : List Mark) → are_in_order ms ≡ true → fold (behind_mark thread 0 b) None ms ≡ stands 0 ms
  stands_first ms o = sym (passed_first None ms) ∙ stands_is 0 ms o

  -- above the next command
  pub stands_next : (n : ℕ) (ms : List Mark) → are_in_order ms ≡ true → fold (behind_mark thread (n + 1) b) (stands n ms) ms ≡ stands (n + 1) ms
  stands_next n ms o =
      ap (λ x. fold (behind_mark thread (n + 1) b) x ms) (sym (stands_is n ms o)) ∙ sym (passed_next n None ms o) ∙ stands_is (n + 1) ms o

-- ---- the list of the mappings that stand

-- the part has all lines of the command
pub passed_by_part : (thread n : ℕ) (b : BufId) (part marks : List Mark) → IsPart thread n n part marks → (old : Option ℕ)
    → fold (behind_mark thread n b) old part ≡ fold (behind_mark thread n b) old marks
passed_by_part thread n b part marks is old = fold_part (behind_mark thread n b) thread n n part marks same is old
  where
    same : (x : Option ℕ) (m : Mark) → is_within thread n n m ≡ false → behind_mark thread n b x m ≡ x
    same x m h =
        let out : ((m.thread == thread) && (m.after == n)) ≡ false = grind (arith, nat_tests, h) in
        ap (λ (c : Bool). if c then behind_line b n m.kind x else x) out

nothing_stands : (i : ℕ) (starts : List (Option ℕ)) → starts ≡ [] → start_of starts (record { 0 = i }) ≡ None
nothing_stands i starts e = ap (λ (ss : List (Option ℕ)). start_of ss (record { 0 = i })) e ∙ none i
  where
    none : (i : ℕ) → start_of [] (record { 0 = i }) ≡ None
    none zero = refl
    none (suc i) = refl

pub stand_first : (script : Script) (thread : ℕ) (old new : List (Option ℕ)) → old ≡ []
    → ((b : BufId) → start_of new b ≡ fold (behind_mark thread 0 b) (start_of old b) script.marks) → Stands script thread 0 new
stand_first script thread old new e is o b =
    is b ∙ ap (λ x. fold (behind_mark thread 0 b) x script.marks) (nothing_stands b.0 old e) ∙ stands_first thread b script.marks o

pub stand_next : (script : Script) (thread n : ℕ) (old new : List (Option ℕ)) → Stands script thread n old
    → ((b : BufId) → start_of new b ≡ fold (behind_mark thread (n + 1) b) (start_of old b) script.marks) → Stands script thread (n + 1) new
stand_next script thread n old new here is o b =
    is b ∙ ap (λ x. fold (behind_mark thread (n + 1) b) x script.marks) (here o b) ∙ stands_next thread b n script.marks o
