-- Lists of spans and of causes come back.
use Rattle.std.proofs.Common.{◌≡◌, ℕ, Bool, true, false, cond, eqb, List, [], ◌∷◌, ◌++◌, map, length, ◌<◌, ◌^◌, refl, ap, ◌∙◌, arith, append_assoc}
use Rattle.std.specs.Prelude.{not, ◌&&◌, nat_le, decimal, codes}
use Rattle.std.specs.List.{join_with_byte, list_all}
use Rattle.std.proofs.lemmas.Bool.Decides.{nat_tests}
use Rattle.ttm_base.specs.declared.Span.{Span}
use Rattle.ttm_base.specs.declared.BufId.{BufId}
use Rattle.journal_model.specs.declared.script.Script.{Script}
use Rattle.journal_model.specs.declared.entry.CauseRow.{CauseRow}
use Rattle.journal_model.specs.declared.entry.Cause.{Cause}
use Rattle.journal_model.specs.declared.entry.Cause.TheVariants as cause
use Rattle.journal_model.specs.scripts.Words.{Text, listed, name_of, span_word, spans_word}
use Rattle.journal_model.specs.reports.EntryText.{cause_word, cause_row_word}
use Rattle.journal_model.specs.scripts.ScriptRules.{is_letter, is_letter_or_digit, is_name, is_script, same_text}
use Rattle.journal_model.specs.scripts.CommandRules.{is_declared}
use Rattle.journal_model.specs.scripts.Readable.{is_cause, is_cause_row, is_span, is_u32, is_u64}
use Rattle.law_legal.proofs.law_report.Cuts.{both, joint, cut_at, cut_again, lacks}
use Rattle.law_legal.proofs.law_report.Numbers.{digits_of, is_digit, number_again, read_on}
use Rattle.std.proofs.lemmas.Fmt.{decimal_nonempty}
use Rattle.law_legal.proofs.law_report.Names.{declared_name, name_again, un_name}
use Rattle.law_legal.proofs.law_report.Items.{above, above_append, above_lower, lacks_it, name_above, number_above, weaker}

-- ---- lists of items, with a comma between each two, or a dash

-- it doesn't begin with a dash
abbrev pub is_item : Text → Bool
is_item [] = false
is_item (c ∷ w) = not (eqb c 45) && above 44 (c ∷ w)

-- the items of a list
abbrev pub un_listed : {X : Type 0} → (Text → X) → Text → List X
un_listed un w = cond (same_text w (codes "-")) [] (map un (cut_at 44 w))

no_dash_byte : (c : ℕ) (w : Text) → not (eqb c 45) ≡ true → same_text (c ∷ w) (45 ∷ []) ≡ false
no_dash_byte c w h = grind (arith, nat_tests)

no_dash : (w : Text) (ws : List Text) → is_item w ≡ true → same_text (join_with_byte 44 (w ∷ ws)) (codes "-") ≡ false
no_dash [] ws h = absurd cc
no_dash (c ∷ w) [] h = no_dash_byte c w (both (not (eqb c 45)) (above 44 (c ∷ w)) h).0
no_dash (c ∷ w) (v ∷ ws) h = no_dash_byte c (w ++ 44 ∷ join_with_byte 44 (v ∷ ws)) (both (not (eqb c 45)) (above 44 (c ∷ w)) h).0

item_above : (w : Text) → is_item w ≡ true → above 44 w ≡ true
item_above [] h = absurd cc
item_above (c ∷ w) h = (both (not (eqb c 45)) (above 44 (c ∷ w)) h).1

items_lack : (ws : List Text) → list_all is_item ws ≡ true → list_all (lacks 44) ws ≡ true
items_lack [] h = refl
items_lack (w ∷ ws) h =
    let f = both (is_item w) (list_all is_item ws) h in
    joint (lacks 44 w) (list_all (lacks 44) ws) (lacks_it 44 w (item_above w f.0)) (items_lack ws f.1)

joined_above : (ws : List Text) → list_all is_item ws ≡ true → above 32 (join_with_byte 44 ws) ≡ true
joined_above [] h = refl
joined_above (w ∷ []) h = above_lower 44 32 w (omega arith) (item_above w (both (is_item w) true h).0)
joined_above (w ∷ v ∷ ws) h =
    let f = both (is_item w) (list_all is_item (v ∷ ws)) h in
    above_append 32 w (44 ∷ join_with_byte 44 (v ∷ ws)) (above_lower 44 32 w (omega arith) (item_above w f.0)) (joined_above (v ∷ ws) f.1)

module _ {X : Type 0} (word : X → Text) (un : Text → X) (ok : X → Bool)
    (good : (x : X) → ok x ≡ true → is_item (word x) ≡ true) (again : (x : X) → ok x ≡ true → un (word x) ≡ x) where
  words_are_items : (xs : List X) → list_all ok xs ≡ true → list_all is_item (map word xs) ≡ true
  words_are_items [] h = refl
  words_are_items (x ∷ xs) h =
      let f = both (ok x) (list_all ok xs) h in joint (is_item (word x)) (list_all is_item (map word xs)) (good x f.0) (words_are_items xs f.1)

  each_again : (xs : List X) → list_all ok xs ≡ true → map un (map word xs) ≡ xs
  each_again [] h = refl
  each_again (x ∷ xs) h =
      let f = both (ok x) (list_all ok xs) h in ap (λ y. y ∷ map un (map word xs)) (again x f.0) ∙ ap (λ ys. x ∷ ys) (each_again xs f.1)

  pub listed_again : (xs : List X) → list_all ok xs ≡ true → un_listed un (listed (map word xs)) ≡ xs
  listed_again [] h = refl
  listed_again (x ∷ xs) h =
      let f = both (ok x) (list_all ok xs) h in
      let whole = join_with_byte 44 (word x ∷ map word xs) in
      ap (λ b. cond b [] (map un (cut_at 44 whole))) (no_dash (word x) (map word xs) (good x f.0))
      ∙ ap (map un) (cut_again 44 (word x) (map word xs) (items_lack (word x ∷ map word xs) (words_are_items (x ∷ xs) h)))
      ∙ each_again (x ∷ xs) h

  pub listed_above : (xs : List X) → list_all ok xs ≡ true → above 32 (listed (map word xs)) ≡ true
  listed_above [] h = refl
  listed_above (x ∷ xs) h = joined_above (word x ∷ map word xs) (words_are_items (x ∷ xs) h)

-- ---- spans

-- of both numbers
abbrev pub span_of : List Text → Span
span_of [] = record { start = 0; end = 0 }
span_of (a ∷ []) = record { start = 0; end = 0 }
span_of (a ∷ b ∷ ws) = record { start = read_on 0 a; end = read_on 0 b }

abbrev pub un_span : Text → Span
un_span w = span_of (cut_at 45 w)

pub fits : (n : ℕ) → is_u64 n ≡ true → n < 2 ^ 64
fits n h = grind (arith, nat_tests)

pub widened : (n : ℕ) → is_u32 n ≡ true → is_u64 n ≡ true
widened n h = grind (arith, nat_tests)

-- the numbers of a span
span_numbers : (s : Span) → is_span s ≡ true → (is_u64 s.start ≡ true) × (is_u64 s.end ≡ true)
span_numbers s h = (grind (arith, nat_tests), grind (arith, nat_tests))

digit_no_dash : (b : ℕ) → is_digit b ≡ true → not (eqb b 45) ≡ true
digit_no_dash b h = grind (arith, nat_tests)

number_lacks : (n : ℕ) → is_u64 n ≡ true → lacks 45 (decimal n) ≡ true
number_lacks n h = weaker is_digit (λ b. not (eqb b 45)) (decimal n) digit_no_dash (digits_of n (grind (arith, nat_tests)))

span_is : (s : Span) → span_word s ≡ join_with_byte 45 (decimal s.start ∷ decimal s.end ∷ [])
span_is s = append_assoc (decimal s.start) (45 ∷ []) (decimal s.end)

span_again : (s : Span) → is_span s ≡ true → un_span (span_word s) ≡ s
span_again s h =
    let f = span_numbers s h in
    ap un_span (span_is s)
    ∙ ap span_of (cut_again 45 (decimal s.start) (decimal s.end ∷ [])
    (joint (lacks 45 (decimal s.start)) (list_all (lacks 45) (decimal s.end ∷ [])) (number_lacks s.start f.0)
    (joint (lacks 45 (decimal s.end)) true (number_lacks s.end f.1) refl)))
    ∙ ap (λ n. (let t : Span = record { start = n; end = read_on 0 (decimal s.end) } in t)) (number_again s.start (fits s.start f.0))
    ∙ ap (λ n. (let t : Span = record { start = s.start; end = n } in t)) (number_again s.end (fits s.end f.1))

-- what begins with a digit is an item
digits_first : (w v : Text) → 0 < length w → list_all is_digit w ≡ true → above 44 (w ++ v) ≡ true → is_item (w ++ v) ≡ true
digits_first [] v some h a = absurd (omega (arith, some))
digits_first (c ∷ w) v some h a = joint (not (eqb c 45)) (above 44 (c ∷ (w ++ v))) (digit_no_dash c (both (is_digit c) (list_all is_digit w) h).0) a

span_above : (s : Span) → is_span s ≡ true → above 44 (decimal s.start ++ 45 ∷ decimal s.end) ≡ true
span_above s h =
    let f = span_numbers s h in
    above_append 44 (decimal s.start) (45 ∷ decimal s.end) (number_above s.start f.0) (number_above s.end f.1)

span_is_item : (s : Span) → is_span s ≡ true → is_item (span_word s) ≡ true
span_is_item s h =
    let f = span_numbers s h in
    ap is_item (span_is s)
    ∙ digits_first (decimal s.start) (45 ∷ decimal s.end) (decimal_nonempty s.start (fits s.start f.0)) (digits_of s.start (fits s.start f.0)) (span_above s h)

-- the spans of a word
abbrev pub un_spans : Text → List Span
un_spans w = un_listed un_span w

pub spans_again : (spans : List Span) → list_all is_span spans ≡ true → un_spans (spans_word spans) ≡ spans
spans_again spans h = listed_again span_word un_span is_span span_is_item span_again spans h

pub spans_above : (spans : List Span) → list_all is_span spans ≡ true → above 32 (spans_word spans) ≡ true
spans_above spans h = listed_above span_word un_span is_span span_is_item span_again spans h

-- ---- causes

-- the first of the other words
abbrev pub first_number : List Text → ℕ
first_number [] = 0
first_number (w ∷ ws) = read_on 0 w

abbrev pub cause_of : Text → List Text → Cause
cause_of w ws =
    cond (same_text w (codes "pinned")) cause.Pinned (cond (same_text w (codes "outside")) cause.Outside
    (cond (same_text w (codes "skipped")) cause.Skipped (cause.Reserved (record { 0 = first_number ws }))))

abbrev pub row_of : Script → List Text → CauseRow
row_of script [] = record { b = record { 0 = 0 }; cause = cause.Pinned }
row_of script (n ∷ []) = record { b = record { 0 = 0 }; cause = cause.Pinned }
row_of script (n ∷ w ∷ ws) = record { b = un_name script n; cause = cause_of w ws }

abbrev pub un_row : Script → Text → CauseRow
un_row script w = row_of script (cut_at 58 w)

-- the words of a cause
abbrev cause_words : Cause → List Text
cause_words cause.Pinned = codes "pinned" ∷ []
cause_words (cause.Reserved s) = codes "reserved" ∷ decimal s.0 ∷ []
cause_words cause.Outside = codes "outside" ∷ []
cause_words cause.Skipped = codes "skipped" ∷ []

name_byte_lacks : (b : ℕ) → is_letter_or_digit b ≡ true → not (eqb b 58) ≡ true
name_byte_lacks b h = grind (arith, nat_tests)

letter_lacks : (b : ℕ) → is_letter b ≡ true → (not (eqb b 58) ≡ true) × (not (eqb b 45) ≡ true)
letter_lacks b h = (grind (arith, nat_tests), grind (arith, nat_tests))

name_lacks : (w : Text) → is_name w ≡ true → lacks 58 w ≡ true
name_lacks [] h = absurd cc
name_lacks (c ∷ cs) h =
    let f = both (is_letter c) (list_all is_letter_or_digit cs) (both (is_letter c && list_all is_letter_or_digit cs) (nat_le (length cs) 7) h).0 in
    joint (not (eqb c 58)) (lacks 58 cs) (letter_lacks c f.0).0 (weaker is_letter_or_digit (λ b. not (eqb b 58)) cs name_byte_lacks f.1)

name_first : (w v : Text) → is_name w ≡ true → above 44 (w ++ v) ≡ true → is_item (w ++ v) ≡ true
name_first [] v h a = absurd cc
name_first (c ∷ cs) v h a =
    let f = both (is_letter c) (list_all is_letter_or_digit cs) (both (is_letter c && list_all is_letter_or_digit cs) (nat_le (length cs) 7) h).0 in
    joint (not (eqb c 45)) (above 44 (c ∷ (cs ++ v))) (letter_lacks c f.0).1 a

digit_lacks : (b : ℕ) → is_digit b ≡ true → not (eqb b 58) ≡ true
digit_lacks b h = grind (arith, nat_tests)

causes_lack : (c : Cause) → is_cause c ≡ true → list_all (lacks 58) (cause_words c) ≡ true
causes_lack cause.Pinned h = refl
causes_lack (cause.Reserved s) h = joint (lacks 58 (decimal s.0)) true (weaker is_digit (λ b. not (eqb b 58)) (decimal s.0) digit_lacks (digits_of s.0 (fits s.0 h))) refl
causes_lack cause.Outside h = refl
causes_lack cause.Skipped h = refl

cause_joined : (n : Text) (c : Cause) → (n ++ 58 ∷ []) ++ cause_word c ≡ join_with_byte 58 (n ∷ cause_words c)
cause_joined n cause.Pinned = append_assoc n (58 ∷ []) (codes "pinned")
cause_joined n (cause.Reserved s) = append_assoc n (58 ∷ []) (cause_word (cause.Reserved s))
cause_joined n cause.Outside = append_assoc n (58 ∷ []) (codes "outside")
cause_joined n cause.Skipped = append_assoc n (58 ∷ []) (codes "skipped")

row_back : (script : Script) (b : BufId) (c : Cause) → un_name script (name_of script b) ≡ b → is_cause c ≡ true
    → (let row : CauseRow = record { b = b; cause = c } in row_of script (name_of script b ∷ cause_words c) ≡ row)
row_back script b cause.Pinned e h = ap (λ d. (let row : CauseRow = record { b = d; cause = cause.Pinned } in row)) e
row_back script b (cause.Reserved s) e h =
    ap (λ d. (let row : CauseRow = record { b = d; cause = cause.Reserved (record { 0 = read_on 0 (decimal s.0) }) } in row)) e
    ∙ ap (λ n. (let row : CauseRow = record { b = b; cause = cause.Reserved (record { 0 = n }) } in row)) (number_again s.0 (fits s.0 h))
row_back script b cause.Outside e h = ap (λ d. (let row : CauseRow = record { b = d; cause = cause.Outside } in row)) e
row_back script b cause.Skipped e h = ap (λ d. (let row : CauseRow = record { b = d; cause = cause.Skipped } in row)) e

cause_above : (c : Cause) → is_cause c ≡ true → above 44 (cause_word c) ≡ true
cause_above cause.Pinned h = refl
cause_above (cause.Reserved s) h = number_above s.0 h
cause_above cause.Outside h = refl
cause_above cause.Skipped h = refl

other_byte : (c : ℕ) (b u : Text) → not (eqb c 58) ≡ true → same_text (58 ∷ b) (c ∷ u) ≡ false
other_byte c b u h = grind (arith, nat_tests)

and_false : (a b : Bool) → b ≡ false → (a && b) ≡ false
and_false true b h = h
and_false false b h = refl

-- a text with a colon isn't one without
not_same : (a b u : Text) → lacks 58 u ≡ true → same_text (a ++ 58 ∷ b) u ≡ false
not_same [] b [] h = refl
not_same [] b (c ∷ u) h = other_byte c b u (both (not (eqb c 58)) (lacks 58 u) h).0
not_same (x ∷ a) b [] h = refl
not_same (x ∷ a) b (c ∷ u) h = and_false (eqb x c) (same_text (a ++ 58 ∷ b) u) (not_same a b u (both (not (eqb c 58)) (lacks 58 u) h).1)

with_colon : (n w : Text) (ws : List Text) → (b : Text) × (join_with_byte 44 (((n ++ 58 ∷ []) ++ w) ∷ ws) ≡ n ++ 58 ∷ b)
with_colon n w [] = (w, append_assoc n (58 ∷ []) w)
with_colon n w (v ∷ ws) =
    let rest = 44 ∷ join_with_byte 44 (v ∷ ws) in
    (w ++ rest, ap (λ t. t ++ rest) (append_assoc n (58 ∷ []) w) ∙ append_assoc n (58 ∷ w) rest)

module _ (script : Script) (is : is_script script ≡ true) where
  row_again : (row : CauseRow) → is_cause_row script row ≡ true → un_row script (cause_row_word script row) ≡ row
  row_again row h =
      let f = both (is_declared script row.b) (is_cause row.cause) h in
      let n = name_of script row.b in
      ap (un_row script) (cause_joined n row.cause)
      ∙ ap (row_of script) (cut_again 58 n (cause_words row.cause)
      (joint (lacks 58 n) (list_all (lacks 58) (cause_words row.cause)) (name_lacks n (declared_name script row.b is f.0)) (causes_lack row.cause f.1)))
      ∙ row_back script row.b row.cause (name_again script row.b is f.0) f.1

  row_is_item : (row : CauseRow) → is_cause_row script row ≡ true → is_item (cause_row_word script row) ≡ true
  row_is_item row h =
      let f = both (is_declared script row.b) (is_cause row.cause) h in
      let n = name_of script row.b in
      ap is_item (append_assoc n (58 ∷ []) (cause_word row.cause))
      ∙ name_first n (58 ∷ cause_word row.cause) (declared_name script row.b is f.0)
      (above_append 44 n (58 ∷ cause_word row.cause) (name_above script row.b is f.0) (cause_above row.cause f.1))

  -- the causes of a word
  pub rows_again : (rows : List CauseRow) → list_all (is_cause_row script) rows ≡ true → un_listed (un_row script) (listed (map (cause_row_word script) rows)) ≡ rows
  rows_again rows h = listed_again (cause_row_word script) (un_row script) (is_cause_row script) row_is_item row_again rows h

  pub rows_above : (rows : List CauseRow) → list_all (is_cause_row script) rows ≡ true → above 32 (listed (map (cause_row_word script) rows)) ≡ true
  rows_above rows h = listed_above (cause_row_word script) (un_row script) (is_cause_row script) row_is_item row_again rows h

  -- a list of causes isn't the word for a place that is too short
  pub rows_not_short : (rows : List CauseRow) → list_all (is_cause_row script) rows ≡ true → same_text (listed (map (cause_row_word script) rows)) (codes "short") ≡ false
  rows_not_short [] h = refl
  rows_not_short (row ∷ rows) h =
      let c = with_colon (name_of script row.b) (cause_word row.cause) (map (cause_row_word script) rows) in
      ap (λ t. same_text t (codes "short")) c.1 ∙ not_same (name_of script row.b) c.0 (codes "short") refl
