-- The first line of a text by its front.
use Rattle.std.proofs.Common.{◌≡◌, Some, ℕ, zero, suc, ◌+◌, ◌-◌, ◌≤◌, ◌<◌, Bool, true, false, cond, eqb, [], ◌∷◌, length, take, Result, Err, refl, sym, ap, ◌∙◌, arith, add-one}
use Rattle.std.specs.Prelude.{nat_lt, not, ◌&&◌, ◌||◌, slice_get}
use Rattle.std.specs.List.{list_any}
use Rattle.std.proofs.lemmas.Bool.Decides.{nat_tests}
use Rattle.std.proofs.lemmas.List.{length-take-le, take-take, get_or-take}
use Rattle.std.proofs.lemmas.Option.{slice_get-get_or}
use Rattle.journal_model.specs.scripts.Cut.{cut_at}
use Rattle.script_words.specs.Lines.{line_len}
use Rattle.journal_model.specs.scripts.Words.{Text}
use Rattle.journal_model.specs.declared.line.Progress.{Progress}
use Rattle.journal_model.specs.scripts.FirstFault.{after_line, after_words, breaks_text, ends_line, is_line_feed, is_shown, without_end}
use Rattle.script_words.specs.Lines.{shown_len}
use Rattle.script_text.specs.Fronts.{ends_at}
use Rattle.script_text.proofs.Lines.{line_len-within}

is_hidden : ℕ → Bool
is_hidden b = not (is_shown b)

short : (t : Bool) (n m : ℕ) → n ≤ m → cond t (n + 1) 0 ≤ suc m
short true n m h = omega arith
short false n m h = omega arith

pub shown_len-within : (text : Text) → shown_len text ≤ length text
shown_len-within [] = omega arith
shown_len-within (b ∷ bs) = short (is_shown b) (shown_len bs) (length bs) (shown_len-within bs)

one_shown : (t : Bool) (b n : ℕ) (bs : Text) → is_shown b ≡ t → list_any (λ c. not (is_shown c)) (take n bs) ≡ false
    → list_any (λ c. not (is_shown c)) (take (cond t (n + 1) 0) (b ∷ bs)) ≡ false
one_shown true b n bs h rest = rw (add-one n, h) rest
one_shown false b n bs h rest = refl

all_shown : (text : Text) → list_any (λ c. not (is_shown c)) (take (shown_len text) text) ≡ false
all_shown [] = refl
all_shown (b ∷ bs) = one_shown (is_shown b) b (shown_len bs) bs refl (all_shown bs)

no_feed : (b : ℕ) → is_shown b ≡ true → eqb b 10 ≡ false
no_feed b h = grind (arith, nat_tests)

feed_hides : (b : ℕ) → eqb b 10 ≡ true → is_shown b ≡ false
feed_hides b h = grind (arith, nat_tests)

one_before : (t : Bool) (b n : ℕ) (bs : Text) → is_shown b ≡ t → (is_line_feed (slice_get bs n) ≡ true → line_len bs ≡ n + 1)
    → is_line_feed (slice_get (b ∷ bs) (cond t (n + 1) 0)) ≡ true → cond (eqb b 10) 1 (line_len bs + 1) ≡ cond t (n + 1) 0 + 1
one_before true b n bs h rest feed =
    rw (no_feed b h) (ap (λ k. k + 1) (rest (rw add-one at feed)))
one_before false b n bs h rest feed = rw feed refl

pub feed_ends : (text : Text) → is_line_feed (slice_get text (shown_len text)) ≡ true → line_len text ≡ shown_len text + 1
feed_ends [] h = absurd cc
feed_ends (b ∷ bs) h = one_before (is_shown b) b (shown_len bs) bs refl (feed_ends bs) h

either : (a b : Bool) → (a || b) ≡ false → (a ≡ false) × (b ≡ false)
either false b h = (refl, h)
either true b h = absurd cc

shown_by_not : (t : Bool) → not t ≡ false → t ≡ true
shown_by_not true h = refl
shown_by_not false h = absurd cc

pub shown_up_to : (text : Text) (k : ℕ) → list_any (λ c. not (is_shown c)) (take k text) ≡ false → is_line_feed (slice_get text k) ≡ true → shown_len text ≡ k
shown_up_to [] k h feed = absurd cc
shown_up_to (b ∷ bs) zero h feed = rw (feed_hides b feed) refl
shown_up_to (b ∷ bs) (suc k) h feed =
    let parts = either (not (is_shown b)) (list_any (λ c. not (is_shown c)) (take k bs)) h in
    rw (shown_by_not (is_shown b) parts.0) (ap (λ n. n + 1) (shown_up_to bs k parts.1 feed) ∙ add-one k)

both : (a b : Bool) → (a && b) ≡ true → (a ≡ true) × (b ≡ true)
both true b h = (refl, h)
both false b h = absurd cc

both_hold : (a b : Bool) → a ≡ true → b ≡ true → (a && b) ≡ true
both_hold true b g h = h
both_hold false b g h = absurd cc

none_holds : (a b c : Bool) → a ≡ true → b ≡ false → c ≡ false → (not a || b || c) ≡ false
none_holds true false c f g h = h
none_holds true true c f g h = absurd cc
none_holds false b c f g h = absurd cc

no_one_holds : (a b c : Bool) → (not a || b || c) ≡ false → (a ≡ true) × (b ≡ false) × (c ≡ false)
no_one_holds true false c h = (refl, refl, h)
no_one_holds true true c h = absurd cc
no_one_holds false b c h = absurd cc

same_item : (text : Text) (k n : ℕ) → k < n → n ≤ length text → slice_get (take n text) k ≡ slice_get text k
same_item text k n lt le =
    let len : length (take n text) ≡ n = length-take-le n text le in
    slice_get-get_or (take n text) k 0 (omega (arith, len)) ∙ ap Some (get_or-take n text k 0 lt) ∙ sym (slice_get-get_or text k 0 (omega arith))

passes : (t : Bool) (line : Result Progress ℕ) → t ≡ false → cond t (Err 2) line ≡ line
passes false line h = refl
passes true line h = absurd cc

-- the first line is its front and a line feed
pub whole_line : (p : Progress) (text : Text) → ends_at text (shown_len text) ≡ true → after_line p (take (line_len text) text) ≡ after_words p (cut_at 32 (take (shown_len text) text))
whole_line p text h =
    let n = shown_len text in
    let parts = both (nat_lt 0 n) (is_line_feed (slice_get text n)) h in
    let some : 0 < n = grind (arith, nat_tests, parts.0) in
    let e = feed_ends text parts.1 in
    let within : n + 1 ≤ length text = omega (arith, e, line_len-within text) in
    let line = take (n + 1) text in
    let len : length line ≡ n + 1 = length-take-le (n + 1) text within in
    let last : length line - 1 ≡ n = omega (arith, len) in
    let lt : n < n + 1 = omega arith in
    let le : n ≤ n + 1 = omega arith in
    let ends : ends_line line ≡ true = ap (λ i. is_line_feed (slice_get line i)) last ∙ ap is_line_feed (same_item text n (n + 1) lt within) ∙ parts.1 in
    let long : nat_lt (length line) 2 ≡ false = grind (arith, nat_tests, len, some) in
    let front : without_end line ≡ take n text = ap (λ i. take i line) last ∙ take-take n (n + 1) text le in
    let clear = ap (list_any (λ c. not (is_shown c))) front ∙ all_shown text in
    ap (λ k. after_line p (take k text)) e
    ∙ passes (breaks_text line) (after_words p (cut_at 32 (without_end line))) (none_holds _ _ _ ends long clear)
    ∙ ap (λ f. after_words p (cut_at 32 f)) front

by_breaks : (p : Progress) (line : Text) (t : Bool) → breaks_text line ≡ t → (t ≡ false → true ≡ false) → after_line p line ≡ Err 2
by_breaks p line true h wrong = ap (λ (t : Bool). cond t (Err 2) (after_words p (cut_at 32 (without_end line)))) h
by_breaks p line false h wrong =
    let e : true ≡ false = wrong refl in
    absurd cc

pub front_fits : (text : Text) → ends_at text (shown_len text) ≡ true → shown_len text + 1 ≤ length text
front_fits text h =
    let parts = both (nat_lt 0 (shown_len text)) (is_line_feed (slice_get text (shown_len text))) h in
    omega (arith, feed_ends text parts.1, line_len-within text)

pub front_ends : (text : Text) → ends_at text (shown_len text) ≡ true → line_len text ≡ shown_len text + 1
front_ends text h =
    let parts = both (nat_lt 0 (shown_len text)) (is_line_feed (slice_get text (shown_len text))) h in
    feed_ends text parts.1

-- the first line breaks rule 2
pub broken_line : (p : Progress) (text : Text) → 0 < length text → ends_at text (shown_len text) ≡ false → after_line p (take (line_len text) text) ≡ Err 2
broken_line p text some h =
    let n = line_len text in
    let line = take n text in
    let within = line_len-within text in
    let len : length line ≡ n = length-take-le n text within in
    by_breaks p line (breaks_text line) refl (λ clean.
    let parts = no_one_holds (ends_line line) (nat_lt (length line) 2) (list_any (λ c. not (is_shown c)) (without_end line)) clean in
    let long : 2 ≤ n = grind (arith, nat_tests, len, parts.1) in
    let k = n - 1 in
    let last : length line - 1 ≡ k = omega (arith, len) in
    let lt : k < n = omega (arith, long) in
    let le : k ≤ n = omega arith in
    let feed : is_line_feed (slice_get text k) ≡ true = ap is_line_feed (sym (same_item text k n lt within)) ∙ ap (λ i. is_line_feed (slice_get line i)) (sym last) ∙ parts.0 in
    let front : without_end line ≡ take k text = ap (λ i. take i line) last ∙ take-take k n text le in
    let clear = ap (list_any (λ c. not (is_shown c))) (sym front) ∙ parts.2 in
    let first : nat_lt 0 k ≡ true = grind (arith, nat_tests, long) in
    sym (both_hold (nat_lt 0 k) (is_line_feed (slice_get text k)) first feed) ∙ ap (ends_at text) (sym (shown_up_to text k clear feed)) ∙ h)
