-- `verdict_of` answers exactly the verdict that holds.
use Rattle.std.proofs.Common.{◌≡◌, ℕ, zero, suc, ◌+◌, ◌-◌, ◌<◌, ◌⊎◌, inl, inr, Bool, true, false, cond, List, [], ◌∷◌, ◌++◌, length, Option, Some, None, Ok, Err, refl, ap, sym, subst, ◌∙◌, arith, append_assoc, append-nil, length-append, bytes_eq}
use Rattle.std.specs.Prelude.{◌^◌, Result}
use Rattle.std.proofs.lemmas.Bool.Decides.{nat_tests}
use Rattle.std.proofs.lemmas.Slice.Eq.{bytes_eq-Decides}
use Rattle.ttm_base.specs.declared.Actor.{Actor}
use Rattle.ttm_base.specs.declared.Need.{Need}
use Rattle.journal_model.specs.declared.script.Script.{Script}
use Rattle.journal_model.specs.declared.entry.Entry.{Entry}
use Rattle.journal_model.specs.declared.entry.Kind.{Kind}
use Rattle.journal_model.specs.declared.entry.Kind.TheVariants as kind
use Rattle.journal_model.specs.declared.state.State.{State}
use Rattle.journal_model.specs.scripts.Words.{Text}
use Rattle.journal_model.specs.scripts.Cut.{lines_of}
use Rattle.journal_model.specs.scripts.Readable.{is_u64}
use Rattle.journal_model.specs.rules.Next.{next}
use Rattle.journal_model.specs.rules.Stores.{Stores, showing}
use Rattle.journal_model.specs.rules.Legal.{World, IsLegalFrom, IsLegalNext, first_world, shown_step, world_after, world_of}
use Rattle.journal_model.specs.statements.Complete.{is_complete}
use Rattle.journal_model.specs.reports.ReportText.{report}
use Rattle.journal_model.specs.reports.Verdict.{AreEntryTexts, HasHead, IsEntryText, IsRejected, IsRightTo, IsStep, TellsNext, no_head, no_entry, no_step, not_shown, not_complete, no_end, unshown, unshown_step}
use Rattle.journal_model.specs.reports.VerdictOf.{HoldsOf, IsExact, Reader, VerdictIsExact, IsReport, rule_of_entry, rule_of_step, verdict_at_end, verdict_from, verdict_of}
use Rattle.journal_model.proofs.JournalLaws.{IsLegal-append, world_of-append}

-- ---- small facts

either : {A : Type 0} (P : A → Type 0) (q : Bool) (a b : A) → (q ≡ true → P a) → (q ≡ false → P b) → P (cond q a b)
either P true a b f g = f refl
either P false a b f g = g refl

both_ways : {b : Bool} → b ≡ false → b ≡ true → ⊥
both_ways o c = cc

bytes_all : (t : Text) → bytes_eq t t ≡ true
bytes_all t = (bytes_eq-Decides t t).1 refl

bytes_are : (a b : Text) → bytes_eq a b ≡ true → a ≡ b
bytes_are a b h = (bytes_eq-Decides a b).0 h

none_some : {A : Type 0} (x : A) → ◌≡◌ {A = Option A} None (Some x) → ⊥
none_some x h = cc

fits : (n : ℕ) → is_u64 n ≡ true → n < 2 ^ 64
fits n h = grind (arith, nat_tests)

is_small : (n : ℕ) → n < 2 ^ 64 → is_u64 n ≡ true
is_small n h = grind (arith, nat_tests)

next_small : (count n : ℕ) → is_u64 count ≡ true → n < count → is_u64 (n + 1) ≡ true
next_small count n h less = let most = fits count h in is_small (n + 1) (omega (arith, most, less))

unshown_showing : (script : Script) (stores : Stores) (s : State) (who : Actor) (k : Kind) → unshown (showing script stores s who k) ≡ unshown k
unshown_showing script stores s who (kind.Result r) = refl
unshown_showing script stores s who (kind.Packet n k piece) = refl
unshown_showing script stores s who k = refl

-- ---- the lines after a journal

append_same : (a b x y : List Text) → length a ≡ length b → a ++ x ≡ b ++ y → x ≡ y
append_same [] [] x y e h = h
append_same [] (u ∷ b) x y e h = absurd (omega (arith, e))
append_same (t ∷ a) [] x y e h = absurd (omega (arith, e))
append_same (t ∷ a) (u ∷ b) x y e h = let rest : a ++ x ≡ b ++ y = cc in append_same a b x y (omega (arith, e)) rest

after_two : (t u : Text) (a b : List Text) → t ∷ u ∷ a ≡ t ∷ u ∷ b → a ≡ b
after_two t u a b h = cc

same_length : (script : Script) (n : ℕ) (texts : List Text) (es : List Entry) → AreEntryTexts script n texts es → length texts ≡ length es
same_length script n [] [] h = refl
same_length script n [] (e ∷ es) h = absurd h
same_length script n (t ∷ texts) [] h = absurd h
same_length script n (t ∷ texts) (e ∷ es) h = ap suc (same_length script (n + 1) texts es h.1)

one_more : (script : Script) (n : ℕ) (texts : List Text) (es : List Entry) (t : Text) (e : Entry) → AreEntryTexts script n texts es → IsEntryText script (n + length es) t e →
    AreEntryTexts script n (texts ++ t ∷ []) (es ++ e ∷ [])
one_more script n [] [] t e h k = let at : n + 0 ≡ n = omega arith in (subst (λ m. IsEntryText script m t e) at k, tt)
one_more script n [] (f ∷ es) t e h k = absurd h
one_more script n (u ∷ texts) [] t e h k = absurd h
one_more script n (u ∷ texts) (f ∷ es) t e h k =
    let at : n + length (f ∷ es) ≡ (n + 1) + length es = omega arith in
    (h.0, one_more script (n + 1) texts es t e h.1 (subst (λ m. IsEntryText script m t e) at k))

no_lines : (t : Text) (ts : List Text) → t ∷ ts ≡ [] → ⊥
no_lines t ts h = cc

first_line : (t u : Text) (ts us : List Text) → t ∷ ts ≡ u ∷ us → t ≡ u
first_line t u ts us h = cc

module _ (script : Script) (reader : Reader) (exact : IsExact script reader) (text : Text) where
  same_rest : (count : ℕ) (journal : List Entry) (a b : List Text) → IsRightTo script text count journal a → IsRightTo script text count journal b → a ≡ b
  same_rest count journal a b h k =
      let len = same_length script 1 h.right journal h.entries ∙ sym (same_length script 1 k.right journal k.entries) in
      append_same h.right k.right a b len (after_two _ _ (h.right ++ a) (k.right ++ b) (sym h.head.lines ∙ k.head.lines))

  -- ---- an entry

  -- what a rule says of an entry that is told
  abbrev Judges : World → Entry → Option ℕ → Type 0
  Judges w e None = IsLegalNext script w e
  Judges w e (Some rule) = ((rule ≡ 3) × (IsStep script w e → ⊥)) ⊎ ((rule ≡ 4) × IsStep script w e × (IsLegalNext script w e → ⊥))

  err_apart : (need : Need) (k : Kind) → ◌≡◌ {A = Result Kind Need} (Err need) (Ok k) → ⊥
  err_apart need k h = cc

  ok_same : (k l : Kind) → ◌≡◌ {A = Result Kind Need} (Ok k) (Ok l) → k ≡ l
  ok_same k l h = cc

  entry_same : (e f : Entry) → ◌≡◌ {A = Result Entry Need} (Ok e) (Ok f) → e ≡ f
  entry_same e f h = cc

  not_same : (k l : Kind) → reader.same k l ≡ false → k ≡ l → ⊥
  not_same k l h e = both_ways h ((exact.same k l).1 e)

  judged : (w : World) (e : Entry) (s : Result Kind Need) → next script w.state e.who ≡ s → Judges w e (rule_of_step reader script w e s)
  judged w e (Err need) h = inl (refl, λ step. err_apart need (unshown e.kind) (sym (ap unshown_step h) ∙ step))
  judged w e (Ok k) h =
      either (Judges w e) (reader.same (unshown k) (unshown e.kind)) (cond (reader.same (showing script w.stores w.state e.who k) e.kind) None (Some 4)) (Some 3)
      (λ s. either (Judges w e) (reader.same (showing script w.stores w.state e.who k) e.kind) None (Some 4)
      (λ q. ap (shown_step script w e.who) h ∙ ap (λ (x : Kind). (let f : Entry = record { who = e.who; kind = x } in Ok f)) ((exact.same (showing script w.stores w.state e.who k) e.kind).0 q))
      (λ q. inr (
        refl,
        ap unshown_step h ∙ ap (λ (x : Kind). Ok x) ((exact.same (unshown k) (unshown e.kind)).0 s),
        λ legal. not_same (showing script w.stores w.state e.who k) e.kind q
            (ap (λ (f : Entry). f.kind) (entry_same (record { who = e.who; kind = showing script w.stores w.state e.who k }) e (sym (ap (shown_step script w e.who) h) ∙ legal))),
      )))
      (λ s. inl (refl, λ step. not_same (unshown k) (unshown e.kind) s (ok_same (unshown k) (unshown e.kind) (sym (ap unshown_step h) ∙ step))))

  -- ---- the rest of a report

  at_end : (journal : List Entry) (lines : List Text) → IsRightTo script text (length journal) journal lines → HoldsOf script text (verdict_at_end script text journal)
  at_end journal lines right =
      either (HoldsOf script text) (is_complete script journal) (cond (bytes_eq text (report script journal)) None (Some (length journal + 1, 6))) (Some (length journal + 1, 5))
      (λ c. either (HoldsOf script text) (bytes_eq text (report script journal)) None (Some (length journal + 1, 6))
      (λ q. record { journal = journal; lines = lines; right = right; complete = c; says = bytes_are text (report script journal) q })
      (λ q. no_end journal lines right c (λ same. both_ways q (subst (λ t. bytes_eq text t ≡ true) same (bytes_all text)))))
      (λ c. not_complete journal lines right c)

  no_read : (n : ℕ) (l : Text) (e : Entry) → is_u64 n ≡ true → reader.entry n l ≡ None → IsEntryText script n l e → ⊥
  no_read n l e small h k = none_some e (sym h ∙ (exact.entry n l e small).1 k)

  number_small : (count : ℕ) (journal : List Entry) (lines : List Text) → IsRightTo script text count journal lines → length journal < count → is_u64 (length journal + 1) ≡ true
  number_small count journal lines right less = next_small count (length journal) right.head.fits less

  told : (count : ℕ) (journal : List Entry) (l : Text) (lines : List Text) (e : Entry) → IsRightTo script text count journal (l ∷ lines) → length journal < count →
      IsEntryText script (length journal + 1) l e → TellsNext script text count journal e
  told count journal l lines e right less said = record { next_line = l; behind = lines; right = right; counted = less; entry = said }

  goes_on : (count : ℕ) (journal : List Entry) (l : Text) (lines : List Text) (e : Entry) → IsRightTo script text count journal (l ∷ lines) → length journal < count →
      IsEntryText script (length journal + 1) l e → IsLegalNext script (world_of script journal) e → IsRightTo script text count (journal ++ e ∷ []) lines
  goes_on count journal l lines e right less said legal =
      let len = length-append journal (e ∷ []) in
      let at : length journal + 1 ≡ 1 + length journal = omega arith in
      record {
        right = right.right ++ l ∷ [];
        head = subst (λ (ls : List Text). HasHead script text count ls) (sym (append_assoc right.right (l ∷ []) lines)) right.head;
        within = omega (arith, less, len);
        entries = one_more script 1 right.right journal l e right.entries (subst (λ m. IsEntryText script m l e) at said);
        legal = IsLegal-append script journal e right.legal legal;
      }

  breaks : (count : ℕ) (journal : List Entry) (e : Entry) (rule : ℕ) → TellsNext script text count journal e → Judges (world_of script journal) e (Some rule) →
      IsRejected script text (length journal + 1) rule
  breaks count journal e rule t (inl h) = subst (λ n. IsRejected script text (length journal + 1) n) (sym h.0) (no_step count journal e t h.1)
  breaks count journal e rule t (inr h) = subst (λ n. IsRejected script text (length journal + 1) n) (sym h.0) (not_shown count journal e t h.1 h.2)

  module _ (left count : ℕ) (journal : List Entry) (l : Text) (lines : List Text) (right : IsRightTo script text count journal (l ∷ lines)) (less : length journal < count)
      (rest : (e : Entry) → IsRightTo script text count (journal ++ e ∷ []) lines →
      HoldsOf script text (verdict_from reader script text left (journal ++ e ∷ []) (world_after script (world_of script journal) e) lines)) where
    by_rule : (e : Entry) → IsEntryText script (length journal + 1) l e → (q : Option ℕ) → Judges (world_of script journal) e q →
        HoldsOf script text (elim q [
          | Some rule ↦ Some (length journal + 1, rule)
          | None ↦ verdict_from reader script text left (journal ++ e ∷ []) (world_after script (world_of script journal) e) lines
        ])
    by_rule e said None h = rest e (goes_on count journal l lines e right less said h)
    by_rule e said (Some rule) h = breaks count journal e rule (told count journal l lines e right less said) h

    by_entry : (o : Option Entry) → reader.entry (length journal + 1) l ≡ o →
        HoldsOf script text (elim o [
          | None ↦ Some (length journal + 1, 2)
          | Some e ↦ elim (rule_of_entry reader script (world_of script journal) e) [
            | Some rule ↦ Some (length journal + 1, rule)
            | None ↦ verdict_from reader script text left (journal ++ e ∷ []) (world_after script (world_of script journal) e) lines
          ]
        ])
    by_entry None h =
        no_entry count journal (l ∷ lines) right less
        (λ e t. no_read (length journal + 1) l e (number_small count journal (l ∷ lines) right less) h
        (subst (λ (x : Text). IsEntryText script (length journal + 1) x e) (first_line t.next_line l t.behind lines (same_rest count journal (t.next_line ∷ t.behind) (l ∷ lines) t.right right)) t.entry))
    by_entry (Some e) h =
        by_rule e ((exact.entry (length journal + 1) l e (number_small count journal (l ∷ lines) right less)).0 h) (rule_of_entry reader script (world_of script journal) e)
        (judged (world_of script journal) e (next script (world_of script journal).state e.who) refl)

  from : (left count : ℕ) (journal : List Entry) (lines : List Text) → count ≡ length journal + left → IsRightTo script text count journal lines →
      HoldsOf script text (verdict_from reader script text left journal (world_of script journal) lines)
  from zero count journal lines n right =
      let all : count ≡ length journal = omega (arith, n) in at_end journal lines (subst (λ m. IsRightTo script text m journal lines) all right)
  from (suc left) count journal [] n right =
      no_entry count journal [] right (omega (arith, n)) (λ e t. no_lines t.next_line t.behind (same_rest count journal (t.next_line ∷ t.behind) [] t.right right))
  from (suc left) count journal (l ∷ lines) n right =
      by_entry left count journal l lines right (omega (arith, n))
      (λ e longer.
      let len = length-append journal (e ∷ []) in
      let fewer : count ≡ length (journal ++ e ∷ []) + left = omega (arith, n, len) in
      subst (λ (w : World). HoldsOf script text (verdict_from reader script text left (journal ++ e ∷ []) w lines)) (world_of-append script journal e)
      (from left count (journal ++ e ∷ []) lines fewer longer))
      (reader.entry (length journal + 1) l) refl

  by_head : (o : Option (ℕ × List Text)) → reader.head (lines_of text) ≡ o →
      HoldsOf script text (elim o [
        | None ↦ Some (0, 1)
        | Some head ↦ verdict_from reader script text head.0 [] (first_world script) head.1
      ])
  by_head None h = no_head (λ count lines k. none_some (count, lines) (sym h ∙ (exact.head text count lines).1 k))
  by_head (Some head) h =
      from head.0 head.0 [] head.1 (omega arith) (record { right = []; head = (exact.head text head.0 head.1).0 h; within = omega arith; entries = tt; legal = tt })

  holds : HoldsOf script text (verdict_of reader script text)
  holds = by_head (reader.head (lines_of text)) refl

  -- ---- what holds is answered

  legal_is_step : (w : World) (e : Entry) (s : Result Kind Need) → shown_step script w e.who s ≡ Ok e → unshown_step s ≡ Ok (unshown e.kind)
  legal_is_step w e (Err need) h = absurd (err_entry need e h)
    where
      err_entry : (need : Need) (f : Entry) → ◌≡◌ {A = Result Entry Need} (Err need) (Ok f) → ⊥
      err_entry need f h = cc
  legal_is_step w e (Ok k) h =
      let same = ap (λ (f : Entry). f.kind) (entry_same (record { who = e.who; kind = showing script w.stores w.state e.who k }) e h) in
      ap (λ (x : Kind). Ok x) (sym (unshown_showing script w.stores w.state e.who k) ∙ ap unshown same)

  step_of_legal : (w : World) (e : Entry) → IsLegalNext script w e → IsStep script w e
  step_of_legal w e h = legal_is_step w e (next script w.state e.who) h

  judged_entry : (w : World) (e : Entry) → Judges w e (rule_of_entry reader script w e)
  judged_entry w e = judged w e (next script w.state e.who) refl

  none_of_legal : (w : World) (e : Entry) (q : Option ℕ) → Judges w e q → IsLegalNext script w e → q ≡ None
  none_of_legal w e None j l = refl
  none_of_legal w e (Some rule) (inl h) l = absurd (h.1 (step_of_legal w e l))
  none_of_legal w e (Some rule) (inr h) l = absurd (h.2 l)

  three_of_other : (w : World) (e : Entry) (q : Option ℕ) → Judges w e q → (IsStep script w e → ⊥) → q ≡ Some 3
  three_of_other w e None j other = absurd (other (step_of_legal w e j))
  three_of_other w e (Some rule) (inl h) other = ap (λ n. Some n) h.0
  three_of_other w e (Some rule) (inr h) other = absurd (other h.1)

  four_of_shown : (w : World) (e : Entry) (q : Option ℕ) → Judges w e q → IsStep script w e → (IsLegalNext script w e → ⊥) → q ≡ Some 4
  four_of_shown w e None j step other = absurd (other j)
  four_of_shown w e (Some rule) (inl h) step other = absurd (h.1 step)
  four_of_shown w e (Some rule) (inr h) step other = ap (λ n. Some n) h.0

  -- a line, by what is read of it and by the rule of that
  abbrev after_rule : ℕ → List Entry → World → List Text → Entry → Option ℕ → Option (ℕ × ℕ)
  after_rule left journal w lines e q = elim q [
    | Some rule ↦ Some (length journal + 1, rule)
    | None ↦ verdict_from reader script text left (journal ++ e ∷ []) (world_after script w e) lines
  ]

  abbrev after_line : ℕ → List Entry → World → List Text → Option Entry → Option (ℕ × ℕ)
  after_line left journal w lines o = elim o [
    | None ↦ Some (length journal + 1, 2)
    | Some e ↦ elim (rule_of_entry reader script w e) [
      | Some rule ↦ Some (length journal + 1, rule)
      | None ↦ verdict_from reader script text left (journal ++ e ∷ []) (world_after script w e) lines
    ]
  ]

  line_read : (left : ℕ) (journal : List Entry) (w : World) (l : Text) (lines : List Text) (o : Option Entry) → reader.entry (length journal + 1) l ≡ o →
      verdict_from reader script text (suc left) journal w (l ∷ lines) ≡ after_line left journal w lines o
  line_read left journal w l lines o h = ap (after_line left journal w lines) h

  line_judged : (left : ℕ) (journal : List Entry) (w : World) (l : Text) (lines : List Text) (e : Entry) (q : Option ℕ) → is_u64 (length journal + 1) ≡ true →
      IsEntryText script (length journal + 1) l e → rule_of_entry reader script w e ≡ q →
      verdict_from reader script text (suc left) journal w (l ∷ lines) ≡ after_rule left journal w lines e q
  line_judged left journal w l lines e q small said h =
      line_read left journal w l lines (Some e) ((exact.entry (length journal + 1) l e small).1 said) ∙ ap (after_rule left journal w lines e) h

  -- legal entries are passed
  walk : (front es : List Entry) (right : List Text) (all left : ℕ) (lines : List Text) → all ≡ length es + left → length front + length es < 2 ^ 64 → AreEntryTexts script (1 + length front) right es →
      IsLegalFrom script (world_of script front) es →
      verdict_from reader script text all front (world_of script front) (right ++ lines)
      ≡ verdict_from reader script text left (front ++ es) (world_of script (front ++ es)) lines
  walk front [] [] all left lines n few h legal =
      let same : all ≡ left = omega (arith, n) in
      ap (λ m. verdict_from reader script text m front (world_of script front) lines) same
      ∙ ap (λ (xs : List Entry). verdict_from reader script text left xs (world_of script xs) lines) (sym (append-nil front))
  walk front [] (t ∷ right) all left lines n few h legal = absurd h
  walk front (e ∷ es) [] all left lines n few h legal = absurd h
  walk front (e ∷ es) (t ∷ right) zero left lines n few h legal = absurd (omega (arith, n))
  walk front (e ∷ es) (t ∷ right) (suc all) left lines n few h legal =
      let at : 1 + length front ≡ length front + 1 = omega arith in
      let len = length-append front (e ∷ []) in
      let next_at : (1 + length front) + 1 ≡ 1 + length (front ++ e ∷ []) = omega (arith, len) in
      let world = world_of-append script front e in
      line_judged all front (world_of script front) t (right ++ lines) e None (is_small (length front + 1) (omega (arith, few)))
      (subst (λ m. IsEntryText script m t e) at h.0) (none_of_legal (world_of script front) e _ (judged_entry (world_of script front) e) legal.0)
      ∙ ap (λ (w : World). verdict_from reader script text all (front ++ e ∷ []) w (right ++ lines)) (sym world)
      ∙ walk (front ++ e ∷ []) es right all left lines (omega (arith, n)) (omega (arith, few, len)) (subst (λ m. AreEntryTexts script m right es) next_at h.1)
      (subst (λ (w : World). IsLegalFrom script w es) (sym world) legal.1)
      ∙ ap (λ (xs : List Entry). verdict_from reader script text left xs (world_of script xs) lines) (append_assoc front (e ∷ []) es)

  abbrev after_head : Option (ℕ × List Text) → Option (ℕ × ℕ)
  after_head o = elim o [
    | None ↦ Some (0, 1)
    | Some head ↦ verdict_from reader script text head.0 [] (first_world script) head.1
  ]

  head_read : (o : Option (ℕ × List Text)) → reader.head (lines_of text) ≡ o → verdict_of reader script text ≡ after_head o
  head_read o h = ap after_head h

  -- it comes to the end of what is right
  reaches : (count left : ℕ) (journal : List Entry) (lines : List Text) → count ≡ length journal + left → IsRightTo script text count journal lines →
      verdict_of reader script text ≡ verdict_from reader script text left journal (world_of script journal) lines
  reaches count left journal lines n right =
      let most = fits count right.head.fits in
      let within = right.within in
      head_read (Some (count, right.right ++ lines)) ((exact.head text count (right.right ++ lines)).1 right.head)
      ∙ walk [] journal right.right count left lines n (omega (arith, most, within)) right.entries right.legal

  -- an entry that is told, by its rule
  told_rule : (count : ℕ) (journal : List Entry) (e : Entry) (rule : ℕ) → TellsNext script text count journal e → rule_of_entry reader script (world_of script journal) e ≡ Some rule →
      verdict_of reader script text ≡ Some (length journal + 1, rule)
  told_rule count journal e rule t h =
      let less = t.counted in
      let more : count ≡ length journal + suc (count - length journal - 1) = omega (arith, less) in
      reaches count (suc (count - length journal - 1)) journal (t.next_line ∷ t.behind) more t.right
      ∙ line_judged (count - length journal - 1) journal (world_of script journal) t.next_line t.behind e (Some rule)
      (number_small count journal (t.next_line ∷ t.behind) t.right t.counted) t.entry h

  no_line : (left count : ℕ) (journal : List Entry) (lines : List Text) → IsRightTo script text count journal lines → length journal < count →
      ((e : Entry) → TellsNext script text count journal e → ⊥) → verdict_from reader script text (suc left) journal (world_of script journal) lines ≡ Some (length journal + 1, 2)
  no_line left count journal [] right less none = refl
  no_line left count journal (l ∷ lines) right less none = line_read left journal (world_of script journal) l lines None (by (reader.entry (length journal + 1) l) refl)
    where
      by : (o : Option Entry) → reader.entry (length journal + 1) l ≡ o → reader.entry (length journal + 1) l ≡ None
      by None h = h
      by (Some e) h = absurd (none e (told count journal l lines e right less ((exact.entry (length journal + 1) l e (number_small count journal (l ∷ lines) right less)).0 h)))

  no_first : ((count : ℕ) (lines : List Text) → HasHead script text count lines → ⊥) → (o : Option (ℕ × List Text)) → reader.head (lines_of text) ≡ o → o ≡ None
  no_first none None h = refl
  no_first none (Some head) h = absurd (none head.0 head.1 ((exact.head text head.0 head.1).0 h))

  answered : (entry rule : ℕ) → IsRejected script text entry rule → verdict_of reader script text ≡ Some (entry, rule)
  answered entry rule (no_head none) = head_read None (no_first none (reader.head (lines_of text)) refl)
  answered entry rule (no_entry count journal lines right less none) =
      let more : count ≡ length journal + suc (count - length journal - 1) = omega (arith, less) in
      reaches count (suc (count - length journal - 1)) journal lines more right ∙ no_line (count - length journal - 1) count journal lines right less none
  answered entry rule (no_step count journal e t other) =
      told_rule count journal e 3 t (three_of_other (world_of script journal) e _ (judged_entry (world_of script journal) e) other)
  answered entry rule (not_shown count journal e t step other) =
      told_rule count journal e 4 t (four_of_shown (world_of script journal) e _ (judged_entry (world_of script journal) e) step other)
  answered entry rule (not_complete journal lines right c) =
      reaches (length journal) zero journal lines (omega arith) right
      ∙ ap (λ b. cond b (cond (bytes_eq text (report script journal)) None (Some (length journal + 1, 6))) (Some (length journal + 1, 5))) c
  answered entry rule (no_end journal lines right c other) =
      reaches (length journal) zero journal lines (omega arith) right
      ∙ ap (λ b. cond b (cond (bytes_eq text (report script journal)) None (Some (length journal + 1, 6))) (Some (length journal + 1, 5))) c
      ∙ ap (λ b. cond b None (Some (length journal + 1, 6))) (is_false (bytes_eq text (report script journal)) (λ q. other (bytes_are text (report script journal) q)))
    where
      is_false : (b : Bool) → (b ≡ true → ⊥) → b ≡ false
      is_false true f = absurd (f refl)
      is_false false f = refl

  accepted : IsReport script text → verdict_of reader script text ≡ None
  accepted a =
      reaches (length a.journal) zero a.journal a.lines (omega arith) a.right
      ∙ ap (λ b. cond b (cond (bytes_eq text (report script a.journal)) None (Some (length a.journal + 1, 6))) (Some (length a.journal + 1, 5))) a.complete
      ∙ ap (λ b. cond b None (Some (length a.journal + 1, 6))) ((bytes_eq-Decides text (report script a.journal)).1 a.says)

  only : (v : Option (ℕ × ℕ)) → HoldsOf script text v → verdict_of reader script text ≡ v
  only None h = accepted h
  only (Some v) h = answered v.0 v.1 h

pub verdict_is_exact : VerdictIsExact
verdict_is_exact script reader text v exact =
    (λ h. subst (λ u. HoldsOf script text u) h (holds script reader exact text), λ h. only script reader exact text v h)
