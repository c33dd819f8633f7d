-- Entries come back from their words.
use Rattle.std.proofs.Common.{◌≡◌, ℕ, true, cond, List, [], ◌∷◌, ◌++◌, map, drop, refl, ap, ◌∙◌, arith}
use Rattle.std.specs.Prelude.{◌&&◌, decimal, codes}
use Rattle.std.specs.List.{list_all}
use Rattle.ttm_base.specs.declared.BufId.{BufId}
use Rattle.journal_model.specs.declared.script.Script.{Script}
use Rattle.journal_model.specs.declared.entry.Kind.{Kind}
use Rattle.journal_model.specs.declared.entry.Kind.TheVariants as kind
use Rattle.journal_model.specs.declared.entry.DryWhy.{DryWhy}
use Rattle.journal_model.specs.declared.entry.DryWhy.TheVariants as dry
use Rattle.journal_model.specs.scripts.Words.{Text, listed, mem_word, name_of, spans_word}
use Rattle.journal_model.specs.reports.EntryText.{cause_row_word, deny_word, dry_word, kind_words, left_word, piece_words, why_word}
use Rattle.journal_model.specs.scripts.ScriptRules.{is_script, same_text}
use Rattle.journal_model.specs.scripts.CommandRules.{is_declared}
use Rattle.journal_model.specs.scripts.Readable.{are_bytes, is_dry_why, is_kind, is_left, is_span, is_u32, is_u64}
use Rattle.law_legal.proofs.law_report.Cuts.{both, joint}
use Rattle.law_legal.proofs.law_report.Numbers.{number_again, read_on}
use Rattle.law_legal.proofs.law_report.Names.{name_again, un_name}
use Rattle.law_legal.proofs.law_report.Items.{above, above_lower, name_above}
use Rattle.law_legal.proofs.law_report.Listed.{fits, rows_above, rows_again, rows_not_short, spans_above, spans_again, un_listed, un_row, un_spans, widened}
use Rattle.law_legal.proofs.law_report.SmallWords.{deny_above, deny_again, left_above, left_again, mem_above, mem_again, number_at, piece_above, piece_again, shown_above, shown_again, un_deny, un_left, un_mem, un_piece, un_shown, un_why, why_above, why_again, word_above, word_at}

-- why a place is dry
abbrev pub un_dry : Script → Text → DryWhy
un_dry script w = cond (same_text w (codes "short")) dry.Short (dry.Of (un_listed (un_row script) w))

dry_again : (script : Script) → is_script script ≡ true → (w : DryWhy) → is_dry_why script w ≡ true → un_dry script (dry_word script w) ≡ w
dry_again script is dry.Short h = refl
dry_again script is (dry.Of rows) h =
    let w = listed (map (cause_row_word script) rows) in
    ap (λ b. cond b dry.Short (dry.Of (un_listed (un_row script) w))) (rows_not_short script is rows h) ∙ ap dry.Of (rows_again script is rows h)

dry_above : (script : Script) → is_script script ≡ true → (w : DryWhy) → is_dry_why script w ≡ true → above 32 (dry_word script w) ≡ true
dry_above script is dry.Short h = refl
dry_above script is (dry.Of rows) h = rows_above script is rows h

-- a number after a letter
abbrev pub number_after : Text → ℕ
number_after [] = 0
number_after (c ∷ w) = read_on 0 w

name_word : (script : Script) → is_script script ≡ true → (b : BufId) → is_declared script b ≡ true → above 32 (name_of script b) ≡ true
name_word script is b h = above_lower 44 32 (name_of script b) (omega arith) (name_above script b is h)

-- equal parts make equal wholes
two : {A B C : Type 0} (f : A → B → C) {a a' : A} {b b' : B} → a ≡ a' → b ≡ b' → f a b ≡ f a' b'
two f {a} {a'} {b} {b'} p q = ap (λ x. f x b) p ∙ ap (f a') q

three : {A B C D : Type 0} (f : A → B → C → D) {a a' : A} {b b' : B} {c c' : C} → a ≡ a' → b ≡ b' → c ≡ c' → f a b c ≡ f a' b' c'
three f {a} {a'} {b} {b'} {c} {c'} p q r = ap (λ x. f x b c) p ∙ two (f a') q r

four : {A B C D E : Type 0} (f : A → B → C → D → E) {a a' : A} {b b' : B} {c c' : C} {d d' : D} → a ≡ a' → b ≡ b' → c ≡ c' → d ≡ d' → f a b c d ≡ f a' b' c' d'
four f {a} {a'} {b} {b'} {c} {c'} {d} {d'} p q r s = ap (λ x. f x b c d) p ∙ three (f a') q r s

-- an entry by its words
abbrev pub read_kind : Script → List Text → Kind
read_kind script [] = kind.Bulk 0
read_kind script (v ∷ ws) =
    cond (same_text v (codes "ticket")) (kind.Ticket (record { 0 = number_at ws 0 })) (
    cond (same_text v (codes "reserve")) (kind.Reserve (un_name script (word_at ws 0))) (
    cond (same_text v (codes "backoff")) (kind.Backoff (un_name script (word_at ws 0)) (record { 0 = number_at ws 1 })) (
    cond (same_text v (codes "new")) (kind.New (un_name script (word_at ws 0))) (
    cond (same_text v (codes "free")) (kind.Free (un_name script (word_at ws 0)) (number_at ws 1)) (
    cond (same_text v (codes "take")) (kind.Take (un_name script (word_at ws 0)) (un_mem (word_at ws 1)) (un_spans (word_at ws 2))) (
    cond (same_text v (codes "untake")) (kind.Untake (un_name script (word_at ws 0)) (un_mem (word_at ws 1))) (
    cond (same_text v (codes "populate")) (kind.Populate (un_name script (word_at ws 0)) (number_at ws 1) (number_at ws 2)) (
    cond (same_text v (codes "swapin")) (kind.SwapIn (un_name script (word_at ws 0)) (number_at ws 1) (number_at ws 2) (number_at ws 3)) (
    cond (same_text v (codes "depopulate")) (kind.Depopulate (un_name script (word_at ws 0))) (
    cond (same_text v (codes "bind")) (kind.Bind (un_name script (word_at ws 0))) (
    cond (same_text v (codes "unbind")) (kind.Unbind (un_name script (word_at ws 0))) (
    cond (same_text v (codes "move")) (kind.Move (un_name script (word_at ws 0)) (un_mem (word_at ws 1)) (number_at ws 2) (un_left (word_at ws 3))) (
    cond (same_text v (codes "catch")) (kind.Catch (un_name script (word_at ws 0)) (un_why (word_at ws 1))) (
    cond (same_text v (codes "loose")) (kind.Loose (un_name script (word_at ws 0))) (
    cond (same_text v (codes "skip")) (kind.Skip (un_name script (word_at ws 0))) (
    cond (same_text v (codes "dry")) (kind.Dry (un_name script (word_at ws 0)) (number_at ws 1) (un_dry script (word_at ws 2))) (
    cond (same_text v (codes "swapout")) (kind.SwapOut (un_name script (word_at ws 0)) (number_at ws 1) (number_at ws 2)) (
    cond (same_text v (codes "nopages")) (kind.NoPages (un_name script (word_at ws 0))) (
    cond (same_text v (codes "arm")) (kind.Arm (number_after (word_at ws 0)) (number_at ws 1)) (
    cond (same_text v (codes "packet")) (kind.Packet (number_at ws 0) (number_at ws 1) (un_piece (drop 2 ws))) (
    cond (same_text v (codes "done")) (kind.Done (number_at ws 0)) (
    cond (same_text v (codes "reap")) (kind.Reap (number_at ws 0)) (
    cond (same_text v (codes "bulk")) (kind.Bulk (number_at ws 0)) (
    cond (same_text v (codes "result")) (kind.Result (un_shown ws)) (
    cond (same_text v (codes "refused")) (kind.Refused (un_deny (word_at ws 0))) (
    kind.Bulk 0))))))))))))))))))))))))))

pub kind_again : (script : Script) → is_script script ≡ true → (k : Kind) → is_kind script k ≡ true → read_kind script (kind_words script k) ≡ k
kind_again script is (kind.Ticket s) h =
    ap (λ x0. kind.Ticket (record { 0 = x0 })) (number_again s.0 (fits s.0 h))
kind_again script is (kind.Reserve b) h =
    ap (λ x0. kind.Reserve x0) (name_again script b is h)
kind_again script is (kind.Backoff b s) h =
    let p1 = both (is_declared script b) (is_u64 s.0) h in
    two (λ x0 x1. kind.Backoff x0 (record { 0 = x1 })) (name_again script b is p1.0) (number_again s.0 (fits s.0 p1.1))
kind_again script is (kind.New b) h =
    ap (λ x0. kind.New x0) (name_again script b is h)
kind_again script is (kind.Free b g) h =
    let p1 = both (is_declared script b) (is_u64 g) h in
    two (λ x0 x1. kind.Free x0 x1) (name_again script b is p1.0) (number_again g (fits g p1.1))
kind_again script is (kind.Take b mem spans) h =
    let p1 = both (is_declared script b) (list_all is_span spans) h in
    three (λ x0 x1 x2. kind.Take x0 x1 x2) (name_again script b is p1.0) (mem_again mem) (spans_again spans p1.1)
kind_again script is (kind.Untake b mem) h =
    two (λ x0 x1. kind.Untake x0 x1) (name_again script b is h) (mem_again mem)
kind_again script is (kind.Populate b page f) h =
    let p2 = both (is_declared script b && is_u32 page) (is_u32 f) h in
    let p1 = both (is_declared script b) (is_u32 page) p2.0 in
    three (λ x0 x1 x2. kind.Populate x0 x1 x2) (name_again script b is p1.0) (number_again page (fits page (widened page p1.1))) (number_again f (fits f (widened f p2.1)))
kind_again script is (kind.SwapIn b page k f) h =
    let p3 = both (is_declared script b && is_u32 page && is_u32 k) (is_u32 f) h in
    let p2 = both (is_declared script b && is_u32 page) (is_u32 k) p3.0 in
    let p1 = both (is_declared script b) (is_u32 page) p2.0 in
    four (λ x0 x1 x2 x3. kind.SwapIn x0 x1 x2 x3) (name_again script b is p1.0) (number_again page (fits page (widened page p1.1))) (number_again k (fits k (widened k p2.1))) (number_again f (fits f (widened f p3.1)))
kind_again script is (kind.Depopulate b) h =
    ap (λ x0. kind.Depopulate x0) (name_again script b is h)
kind_again script is (kind.Bind b) h =
    ap (λ x0. kind.Bind x0) (name_again script b is h)
kind_again script is (kind.Unbind b) h =
    ap (λ x0. kind.Unbind x0) (name_again script b is h)
kind_again script is (kind.Move b mem n l) h =
    let p2 = both (is_declared script b && is_u64 n) (is_left l) h in
    let p1 = both (is_declared script b) (is_u64 n) p2.0 in
    four (λ x0 x1 x2 x3. kind.Move x0 x1 x2 x3) (name_again script b is p1.0) (mem_again mem) (number_again n (fits n p1.1)) (left_again l p2.1)
kind_again script is (kind.Catch b w) h =
    two (λ x0 x1. kind.Catch x0 x1) (name_again script b is h) (why_again w)
kind_again script is (kind.Loose b) h =
    ap (λ x0. kind.Loose x0) (name_again script b is h)
kind_again script is (kind.Skip b) h =
    ap (λ x0. kind.Skip x0) (name_again script b is h)
kind_again script is (kind.Dry b k w) h =
    let p2 = both (is_declared script b && is_u32 k) (is_dry_why script w) h in
    let p1 = both (is_declared script b) (is_u32 k) p2.0 in
    three (λ x0 x1 x2. kind.Dry x0 x1 x2) (name_again script b is p1.0) (number_again k (fits k (widened k p1.1))) (dry_again script is w p2.1)
kind_again script is (kind.SwapOut b page k) h =
    let p2 = both (is_declared script b && is_u32 page) (is_u32 k) h in
    let p1 = both (is_declared script b) (is_u32 page) p2.0 in
    three (λ x0 x1 x2. kind.SwapOut x0 x1 x2) (name_again script b is p1.0) (number_again page (fits page (widened page p1.1))) (number_again k (fits k (widened k p2.1)))
kind_again script is (kind.NoPages b) h =
    ap (λ x0. kind.NoPages x0) (name_again script b is h)
kind_again script is (kind.Arm engine n) h =
    let p1 = both (is_u32 engine) (is_u64 n) h in
    two (λ x0 x1. kind.Arm x0 x1) (number_again engine (fits engine (widened engine p1.0))) (number_again n (fits n p1.1))
kind_again script is (kind.Packet n k piece) h =
    let p2 = both (is_u64 n && is_u32 k) (are_bytes piece) h in
    let p1 = both (is_u64 n) (is_u32 k) p2.0 in
    three (λ x0 x1 x2. kind.Packet x0 x1 x2) (number_again n (fits n p1.0)) (number_again k (fits k (widened k p1.1))) (piece_again piece p2.1)
kind_again script is (kind.Done n) h =
    ap (λ x0. kind.Done x0) (number_again n (fits n h))
kind_again script is (kind.Reap g) h =
    ap (λ x0. kind.Reap x0) (number_again g (fits g h))
kind_again script is (kind.Bulk group) h =
    ap (λ x0. kind.Bulk x0) (number_again group (fits group (widened group h)))
kind_again script is (kind.Result r) h =
    ap (λ x0. kind.Result x0) (shown_again r h)
kind_again script is (kind.Refused d) h =
    ap (λ x0. kind.Refused x0) (deny_again d)

pub kind_above : (script : Script) → is_script script ≡ true → (k : Kind) → is_kind script k ≡ true → list_all (above 32) (kind_words script k) ≡ true
kind_above script is (kind.Ticket s) h =
    joint (above 32 (decimal s.0)) (list_all (above 32) ([]))
    (word_above s.0 h) (refl)
kind_above script is (kind.Reserve b) h =
    joint (above 32 (name_of script b)) (list_all (above 32) ([]))
    (name_word script is b h) (refl)
kind_above script is (kind.Backoff b s) h =
    let p1 = both (is_declared script b) (is_u64 s.0) h in
    joint (above 32 (name_of script b)) (list_all (above 32) ((decimal s.0) ∷ []))
    (name_word script is b p1.0) (joint (above 32 (decimal s.0)) (list_all (above 32) ([]))
    (word_above s.0 p1.1) (refl))
kind_above script is (kind.New b) h =
    joint (above 32 (name_of script b)) (list_all (above 32) ([]))
    (name_word script is b h) (refl)
kind_above script is (kind.Free b g) h =
    let p1 = both (is_declared script b) (is_u64 g) h in
    joint (above 32 (name_of script b)) (list_all (above 32) ((decimal g) ∷ []))
    (name_word script is b p1.0) (joint (above 32 (decimal g)) (list_all (above 32) ([]))
    (word_above g p1.1) (refl))
kind_above script is (kind.Take b mem spans) h =
    let p1 = both (is_declared script b) (list_all is_span spans) h in
    joint (above 32 (name_of script b)) (list_all (above 32) ((mem_word mem) ∷ (spans_word spans) ∷ []))
    (name_word script is b p1.0) (joint (above 32 (mem_word mem)) (list_all (above 32) ((spans_word spans) ∷ []))
    (mem_above mem) (joint (above 32 (spans_word spans)) (list_all (above 32) ([]))
    (spans_above spans p1.1) (refl)))
kind_above script is (kind.Untake b mem) h =
    joint (above 32 (name_of script b)) (list_all (above 32) ((mem_word mem) ∷ []))
    (name_word script is b h) (joint (above 32 (mem_word mem)) (list_all (above 32) ([]))
    (mem_above mem) (refl))
kind_above script is (kind.Populate b page f) h =
    let p2 = both (is_declared script b && is_u32 page) (is_u32 f) h in
    let p1 = both (is_declared script b) (is_u32 page) p2.0 in
    joint (above 32 (name_of script b)) (list_all (above 32) ((decimal page) ∷ (decimal f) ∷ []))
    (name_word script is b p1.0) (joint (above 32 (decimal page)) (list_all (above 32) ((decimal f) ∷ []))
    (word_above page (widened page p1.1)) (joint (above 32 (decimal f)) (list_all (above 32) ([]))
    (word_above f (widened f p2.1)) (refl)))
kind_above script is (kind.SwapIn b page k f) h =
    let p3 = both (is_declared script b && is_u32 page && is_u32 k) (is_u32 f) h in
    let p2 = both (is_declared script b && is_u32 page) (is_u32 k) p3.0 in
    let p1 = both (is_declared script b) (is_u32 page) p2.0 in
    joint (above 32 (name_of script b)) (list_all (above 32) ((decimal page) ∷ (decimal k) ∷ (decimal f) ∷ []))
    (name_word script is b p1.0) (joint (above 32 (decimal page)) (list_all (above 32) ((decimal k) ∷ (decimal f) ∷ []))
    (word_above page (widened page p1.1)) (joint (above 32 (decimal k)) (list_all (above 32) ((decimal f) ∷ []))
    (word_above k (widened k p2.1)) (joint (above 32 (decimal f)) (list_all (above 32) ([]))
    (word_above f (widened f p3.1)) (refl))))
kind_above script is (kind.Depopulate b) h =
    joint (above 32 (name_of script b)) (list_all (above 32) ([]))
    (name_word script is b h) (refl)
kind_above script is (kind.Bind b) h =
    joint (above 32 (name_of script b)) (list_all (above 32) ([]))
    (name_word script is b h) (refl)
kind_above script is (kind.Unbind b) h =
    joint (above 32 (name_of script b)) (list_all (above 32) ([]))
    (name_word script is b h) (refl)
kind_above script is (kind.Move b mem n l) h =
    let p2 = both (is_declared script b && is_u64 n) (is_left l) h in
    let p1 = both (is_declared script b) (is_u64 n) p2.0 in
    joint (above 32 (name_of script b)) (list_all (above 32) ((mem_word mem) ∷ (decimal n) ∷ (left_word l) ∷ []))
    (name_word script is b p1.0) (joint (above 32 (mem_word mem)) (list_all (above 32) ((decimal n) ∷ (left_word l) ∷ []))
    (mem_above mem) (joint (above 32 (decimal n)) (list_all (above 32) ((left_word l) ∷ []))
    (word_above n p1.1) (joint (above 32 (left_word l)) (list_all (above 32) ([]))
    (left_above l p2.1) (refl))))
kind_above script is (kind.Catch b w) h =
    joint (above 32 (name_of script b)) (list_all (above 32) ((why_word w) ∷ []))
    (name_word script is b h) (joint (above 32 (why_word w)) (list_all (above 32) ([]))
    (why_above w) (refl))
kind_above script is (kind.Loose b) h =
    joint (above 32 (name_of script b)) (list_all (above 32) ([]))
    (name_word script is b h) (refl)
kind_above script is (kind.Skip b) h =
    joint (above 32 (name_of script b)) (list_all (above 32) ([]))
    (name_word script is b h) (refl)
kind_above script is (kind.Dry b k w) h =
    let p2 = both (is_declared script b && is_u32 k) (is_dry_why script w) h in
    let p1 = both (is_declared script b) (is_u32 k) p2.0 in
    joint (above 32 (name_of script b)) (list_all (above 32) ((decimal k) ∷ (dry_word script w) ∷ []))
    (name_word script is b p1.0) (joint (above 32 (decimal k)) (list_all (above 32) ((dry_word script w) ∷ []))
    (word_above k (widened k p1.1)) (joint (above 32 (dry_word script w)) (list_all (above 32) ([]))
    (dry_above script is w p2.1) (refl)))
kind_above script is (kind.SwapOut b page k) h =
    let p2 = both (is_declared script b && is_u32 page) (is_u32 k) h in
    let p1 = both (is_declared script b) (is_u32 page) p2.0 in
    joint (above 32 (name_of script b)) (list_all (above 32) ((decimal page) ∷ (decimal k) ∷ []))
    (name_word script is b p1.0) (joint (above 32 (decimal page)) (list_all (above 32) ((decimal k) ∷ []))
    (word_above page (widened page p1.1)) (joint (above 32 (decimal k)) (list_all (above 32) ([]))
    (word_above k (widened k p2.1)) (refl)))
kind_above script is (kind.NoPages b) h =
    joint (above 32 (name_of script b)) (list_all (above 32) ([]))
    (name_word script is b h) (refl)
kind_above script is (kind.Arm engine n) h =
    let p1 = both (is_u32 engine) (is_u64 n) h in
    joint (above 32 (codes "e" ++ decimal engine)) (list_all (above 32) ((decimal n) ∷ []))
    (word_above engine (widened engine p1.0)) (joint (above 32 (decimal n)) (list_all (above 32) ([]))
    (word_above n p1.1) (refl))
kind_above script is (kind.Packet n k piece) h =
    let p2 = both (is_u64 n && is_u32 k) (are_bytes piece) h in
    let p1 = both (is_u64 n) (is_u32 k) p2.0 in
    joint (above 32 (decimal n)) (list_all (above 32) ((decimal k) ∷ piece_words piece))
    (word_above n p1.0) (joint (above 32 (decimal k)) (list_all (above 32) (piece_words piece))
    (word_above k (widened k p1.1)) (piece_above piece))
kind_above script is (kind.Done n) h =
    joint (above 32 (decimal n)) (list_all (above 32) ([]))
    (word_above n h) (refl)
kind_above script is (kind.Reap g) h =
    joint (above 32 (decimal g)) (list_all (above 32) ([]))
    (word_above g h) (refl)
kind_above script is (kind.Bulk group) h =
    joint (above 32 (decimal group)) (list_all (above 32) ([]))
    (word_above group (widened group h)) (refl)
kind_above script is (kind.Result r) h =
    shown_above r h
kind_above script is (kind.Refused d) h =
    joint (above 32 (deny_word d)) (list_all (above 32) ([]))
    (deny_above d) (refl)
