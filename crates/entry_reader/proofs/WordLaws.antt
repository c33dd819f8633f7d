-- Words of entries: what is read is spelled so, and what is spelled is read.
use Rattle.std.proofs.Common.{◌≡◌, ℕ, ◌<◌, ◌≤◌, ◌^◌, Bool, true, false, cond, eqb, List, [], ◌∷◌, ◌++◌, length, Option, Some, None, refl, ap, sym, subst, ◌∙◌, arith, append_assoc, bytes_eq}
use Rattle.std.specs.Prelude.{codes, decimal, nat_lt, option_map}
use Rattle.std.specs.List.{join_with_byte, list_all}
use Rattle.std.proofs.lemmas.Bool.{eqb-true}
use Rattle.std.proofs.lemmas.Bool.Decides.{nat_tests}
use Rattle.std.proofs.lemmas.Fmt.{digits_decimal, decimal_nonempty}
use Rattle.std.proofs.lemmas.List.Concat.{flat_map-cons}
use Rattle.ttm_base.specs.declared.Mem.{Mem}
use Rattle.ttm_base.specs.declared.Span.{Span}
use Rattle.ttm_base.specs.declared.BufId.{BufId}
use Rattle.ttm_base.specs.declared.Deny.{Deny}
use Rattle.ttm_base.specs.declared.Deny.TheVariants as deny
use Rattle.journal_model.specs.declared.script.Script.{Script}
use Rattle.journal_model.specs.declared.entry.Why.{Why}
use Rattle.journal_model.specs.declared.entry.Why.TheVariants as why
use Rattle.journal_model.specs.declared.entry.Left.{Left}
use Rattle.journal_model.specs.declared.entry.Left.TheVariants as left
use Rattle.journal_model.specs.scripts.Words.{Text, hex, hex_byte, mem_word, name_of, span_word, spans_word}
use Rattle.journal_model.specs.reports.EntryText.{deny_word, left_word, piece_words, why_word}
use Rattle.journal_model.specs.scripts.Cut.{cut_at}
use Rattle.journal_model.specs.scripts.CommandRules.{is_declared}
use Rattle.journal_model.specs.scripts.Readable.{are_bytes, is_left, is_span, is_u32, is_u64}
use Rattle.journal_model.specs.scripts.Reading.{bytes_in_hex, is_digit, known, mem_of, names_of}
use Rattle.law_legal.proofs.law_items.Tests.{both, joint, lt_is, true_lt}
use Rattle.law_legal.proofs.law_script.NumberLaws.{number_again, number_takes, own}
use Rattle.law_legal.proofs.law_script.HexLaws.{bytes_take}
use Rattle.law_legal.proofs.law_script.CommandFits.{bytes_small}
use Rattle.law_legal.proofs.law_script.AgainLaws.{bytes_again}
use Rattle.law_legal.proofs.law_script.CutLaws.{cut_append, cut_free, joined}
use Rattle.law_legal.proofs.law_script.WordLaws.{IsMemOf, bytes_are, known_is, mem_is}
use Rattle.law_legal.proofs.law_script.PlaceAgain.{lacks_by}
use Rattle.entry_reader.specs.EntryReading.{deny_of, engine_of, left_of, list_of, piece_of, span_between, span_of, span_parts, span_with, u32_of, u64_of, why_of}
use Rattle.entry_reader.proofs.Wholes.{Told, one_told, told_at, told_by, told_if}
use Rattle.entry_reader.proofs.Lists.{IsItem, list_again, list_told, none_append, none_is}

-- ---- numbers

small : (n : ℕ) → n ≤ 4294967295 → is_u32 n ≡ true
small n h = lt_is n (2 ^ 32) (omega (arith, h))

large : (n : ℕ) → n ≤ 18446744073709551615 → is_u64 n ≡ true
large n h = lt_is n (2 ^ 64) (omega (arith, h))

pub u32_told : (w : Text) (n : ℕ) → u32_of w ≡ Some n → (is_u32 n ≡ true) × (decimal n ≡ w)
u32_told w n h = let t = number_takes 0 4294967295 w n (omega arith) h in (small n t.2, sym t.0)

pub u64_told : (w : Text) (n : ℕ) → u64_of w ≡ Some n → (is_u64 n ≡ true) × (decimal n ≡ w)
u64_told w n h = let t = number_takes 0 18446744073709551615 w n (omega arith) h in (large n t.2, sym t.0)

pub below_32 : (n : ℕ) → is_u32 n ≡ true → n < 2 ^ 32
below_32 n h = true_lt n (2 ^ 32) h

pub below_64 : (n : ℕ) → is_u64 n ≡ true → n < 2 ^ 64
below_64 n h = true_lt n (2 ^ 64) h

pub u32_again : (n : ℕ) → is_u32 n ≡ true → u32_of (decimal n) ≡ Some n
u32_again n h = let b = below_32 n h in number_again 0 4294967295 n (omega arith) (omega arith) (omega (arith, b))

pub u64_again : (n : ℕ) → is_u64 n ≡ true → u64_of (decimal n) ≡ Some n
u64_again n h = let b = below_64 n h in number_again 0 18446744073709551615 n (omega arith) (omega arith) (omega (arith, b))

-- digits have no other byte
pub digits_lack : (c n : ℕ) → is_digit c ≡ false → n < 2 ^ 64 → none_is c (decimal n) ≡ false
digits_lack c n nay h = lacks_by is_digit c (decimal n) nay (digits_decimal own n h)

-- ---- names

pub known_told : (script : Script) (w : Text) (b : BufId) → known (names_of script.buffers) w ≡ Some b → (is_declared script b ≡ true) × (name_of script b ≡ w)
known_told script w b h = let k = known_is script w b h in (lt_is b.0 (length script.buffers) k.1, k.0)

-- ---- memory types

pub mem_told : (w : Text) (mem : Mem) → mem_of w ≡ Some mem → mem_word mem ≡ w
mem_told w mem h = sym (subst (λ (o : Option Mem). IsMemOf w o) h (mem_is w))

-- ---- spans

span_joined : (s : Span) → span_word s ≡ decimal s.start ++ 45 ∷ decimal s.end
span_joined s = append_assoc (decimal s.start) (45 ∷ []) (decimal s.end)

span_is : (first last : Text) (a b : ℕ) (s : Span) → u32_of first ≡ Some a → u32_of last ≡ Some b → span_between a b ≡ Some s
    → (is_span s ≡ true) × (span_word s ≡ join_with_byte 45 (first ∷ last ∷ []))
span_is first last a b s p q h =
    let P : Span → Type 0 = λ t. (is_span t ≡ true) × (span_word t ≡ join_with_byte 45 (first ∷ last ∷ [])) in
    let made : Span = record { start = a; end = b } in
    told_at (span_between a b) s P
    (told_if (nat_lt a b) (Some made) None P
    (λ e.
    let x = u32_told first a p in
    let y = u32_told last b q in (
      joint (nat_lt a b) (is_u32 b) e y.0,
      append_assoc (decimal a) (45 ∷ []) (decimal b) ∙ ap (λ t. t ++ 45 ∷ decimal b) x.1 ∙ ap (λ t. first ++ 45 ∷ t) y.1,
    )) tt) h

span_with_told : (first last : Text) (a b : Option ℕ) → u32_of first ≡ a → u32_of last ≡ b
    → Told (span_with a b) (λ s. (is_span s ≡ true) × (span_word s ≡ join_with_byte 45 (first ∷ last ∷ [])))
span_with_told first last (Some a) (Some b) p q =
    told_by (span_between a b) (λ s. (is_span s ≡ true) × (span_word s ≡ join_with_byte 45 (first ∷ last ∷ []))) (λ s e. span_is first last a b s p q e)
span_with_told first last (Some a) None p q = tt
span_with_told first last None b p q = tt

span_parts_told : (ws : List Text) → Told (span_parts ws) (λ s. (is_span s ≡ true) × (span_word s ≡ join_with_byte 45 ws))
span_parts_told [] = tt
span_parts_told (a ∷ []) = tt
span_parts_told (a ∷ b ∷ []) = span_with_told a b (u32_of a) (u32_of b) refl refl
span_parts_told (a ∷ b ∷ c ∷ ws) = tt

span_told : (w : Text) (s : Span) → span_of w ≡ Some s → (is_span s ≡ true) × (span_word s ≡ w)
span_told w s h =
    let t = told_at (span_of w) s (λ t. (is_span t ≡ true) × (span_word t ≡ join_with_byte 45 (cut_at 45 w))) (span_parts_told (cut_at 45 w)) h in
    (t.0, t.1 ∙ joined 45 w)

-- both ends are numbers
span_ends : (s : Span) → is_span s ≡ true → (is_u32 s.start ≡ true) × (is_u32 s.end ≡ true)
span_ends s h =
    let f = both (nat_lt s.start s.end) (is_u32 s.end) h in
    let lt = true_lt s.start s.end f.0 in
    let top = below_32 s.end f.1 in
    (lt_is s.start (2 ^ 32) (omega (arith, lt, top)), f.1)

span_again : (s : Span) → is_span s ≡ true → span_of (span_word s) ≡ Some s
span_again s h =
    let f = both (nat_lt s.start s.end) (is_u32 s.end) h in
    let e = span_ends s h in
    let a = below_32 s.start e.0 in
    let b = below_32 s.end e.1 in
    ap (λ t. span_parts (cut_at 45 t)) (span_joined s)
    ∙ ap span_parts (cut_append (λ c. eqb c 45) (decimal s.start) 45 (decimal s.end) (digits_lack 45 s.start refl (omega (arith, a))) refl
    ∙ ap (λ ps. decimal s.start ∷ ps) (cut_free (λ c. eqb c 45) (decimal s.end) (digits_lack 45 s.end refl (omega (arith, b)))))
    ∙ ap (λ n. span_with n (u32_of (decimal s.end))) (u32_again s.start e.0) ∙ ap (span_with (Some s.start)) (u32_again s.end e.1)
    ∙ ap (λ t. cond t (Some s) None) f.0

no_dash_digit : (c : ℕ) → is_digit c ≡ true → eqb c 45 ≡ false
no_dash_digit c h = grind (arith, nat_tests)

-- what begins with a digit is an item
digit_first : (w v : Text) → 0 < length w → list_all is_digit w ≡ true → none_is 44 (w ++ v) ≡ false → IsItem (w ++ v)
digit_first [] v some h a = absurd (omega (arith, some))
digit_first (c ∷ w) v some h a =
    let f = both (is_digit c) (list_all is_digit w) h in
    (no_dash_digit c f.0, a)

span_item : (s : Span) → is_span s ≡ true → IsItem (span_word s)
span_item s h =
    let e = span_ends s h in
    let a = below_32 s.start e.0 in
    let b = below_32 s.end e.1 in
    let low : s.start < 2 ^ 64 = omega (arith, a) in
    let high : s.end < 2 ^ 64 = omega (arith, b) in
    subst IsItem (sym (span_joined s))
    (digit_first (decimal s.start) (45 ∷ decimal s.end) (decimal_nonempty s.start low) (digits_decimal own s.start low)
    (none_append 44 (decimal s.start) (45 ∷ decimal s.end) (digits_lack 44 s.start refl low) (digits_lack 44 s.end refl high)))

pub spans_told : (w : Text) (spans : List Span) → list_of span_of w ≡ Some spans → (list_all is_span spans ≡ true) × (spans_word spans ≡ w)
spans_told w spans h = list_told span_of span_word is_span span_told w spans h

pub spans_again : (spans : List Span) → list_all is_span spans ≡ true → list_of span_of (spans_word spans) ≡ Some spans
spans_again spans h = list_again span_of span_word is_span span_again span_item spans h

-- ---- words of a few letters

pub why_told : (w : Text) (x : Why) → why_of w ≡ Some x → why_word x ≡ w
why_told w x h =
    let P : Why → Type 0 = λ y. why_word y ≡ w in
    told_at (why_of w) x P
    (told_if (bytes_eq w (codes "vram")) (Some why.Vram) _ P (λ e. sym (bytes_are w (codes "vram") e))
    (told_if (bytes_eq w (codes "tt")) (Some why.Tt) _ P (λ e. sym (bytes_are w (codes "tt") e))
    (told_if (bytes_eq w (codes "swap")) (Some why.Swap) None P (λ e. sym (bytes_are w (codes "swap") e)) tt))) h

pub why_again : (x : Why) → why_of (why_word x) ≡ Some x
why_again why.Vram = refl
why_again why.Tt = refl
why_again why.Swap = refl

pub deny_told : (w : Text) (x : Deny) → deny_of w ≡ Some x → deny_word x ≡ w
deny_told w x h =
    let P : Deny → Type 0 = λ y. deny_word y ≡ w in
    told_at (deny_of w) x P
    (told_if (bytes_eq w (codes "PinMax")) (Some deny.PinMax) _ P (λ e. sym (bytes_are w (codes "PinMax") e))
    (told_if (bytes_eq w (codes "NoSpace")) (Some deny.NoSpace) _ P (λ e. sym (bytes_are w (codes "NoSpace") e))
    (told_if (bytes_eq w (codes "NoPages")) (Some deny.NoPages) _ P (λ e. sym (bytes_are w (codes "NoPages") e))
    (told_if (bytes_eq w (codes "NoSwap")) (Some deny.NoSwap) _ P (λ e. sym (bytes_are w (codes "NoSwap") e))
    (told_if (bytes_eq w (codes "NoBuffer")) (Some deny.NoBuffer) _ P (λ e. sym (bytes_are w (codes "NoBuffer") e))
    (told_if (bytes_eq w (codes "Exists")) (Some deny.Exists) _ P (λ e. sym (bytes_are w (codes "Exists") e))
    (told_if (bytes_eq w (codes "Pinned")) (Some deny.Pinned) _ P (λ e. sym (bytes_are w (codes "Pinned") e))
    (told_if (bytes_eq w (codes "NotPinned")) (Some deny.NotPinned) None P (λ e. sym (bytes_are w (codes "NotPinned") e)) tt)))))))) h

pub deny_again : (x : Deny) → deny_of (deny_word x) ≡ Some x
deny_again deny.NoBuffer = refl
deny_again deny.Exists = refl
deny_again deny.Pinned = refl
deny_again deny.NotPinned = refl
deny_again deny.PinMax = refl
deny_again deny.NoSpace = refl
deny_again deny.NoPages = refl
deny_again deny.NoSwap = refl

pub left_told : (w : Text) (x : Left) → left_of w ≡ Some x → (is_left x ≡ true) × (left_word x ≡ w)
left_told w x h =
    let P : Left → Type 0 = λ y. (is_left y ≡ true) × (left_word y ≡ w) in
    told_at (left_of w) x P
    (told_if (bytes_eq w (codes "now")) (Some left.Now) _ P (λ e. (refl, sym (bytes_are w (codes "now") e)))
    (one_told (λ g. left.Ghost g) (u64_of w) P (λ g p. u64_told w g p))) h

-- a text of digits isn't one with another byte first
pub not_digits : (b : Bool) (w : Text) (v : Text) → list_all is_digit v ≡ false → bytes_eq w v ≡ b → list_all is_digit w ≡ true → b ≡ false
not_digits false w v nay e h = refl
not_digits true w v nay e h =
    let same = ap (list_all is_digit) (bytes_are w v e) in
    let both_ways : true ≡ false = sym h ∙ same ∙ nay in cc

pub left_again : (x : Left) → is_left x ≡ true → left_of (left_word x) ≡ Some x
left_again left.Now h = refl
left_again (left.Ghost g) h =
    let fits = below_64 g h in
    ap (λ b. cond b (Some left.Now) (option_map (λ n. left.Ghost n) (u64_of (decimal g))))
    (not_digits (bytes_eq (decimal g) (codes "now")) (decimal g) (codes "now") refl refl (digits_decimal own g fits))
    ∙ ap (option_map (λ n. left.Ghost n)) (u64_again g h)

-- ---- engines

behind_letter : (b : Bool) (c e : ℕ) (number : Text) → (b ≡ true → c ≡ 101) → cond b (u32_of number) None ≡ Some e
    → (is_u32 e ≡ true) × (codes "e" ++ decimal e ≡ c ∷ number)
behind_letter true c e number k h =
    let t = u32_told number e h in (t.0, ap (λ x. x ∷ decimal e) (sym (k refl)) ∙ ap (λ t. c ∷ t) t.1)
behind_letter false c e number k h = cc

pub engine_told : (w : Text) (e : ℕ) → engine_of w ≡ Some e → (is_u32 e ≡ true) × (codes "e" ++ decimal e ≡ w)
engine_told [] e h = cc
engine_told (c ∷ number) e h = behind_letter (eqb c 101) c e number (eqb-true c 101) h

pub engine_again : (e : ℕ) → is_u32 e ≡ true → engine_of (codes "e" ++ decimal e) ≡ Some e
engine_again e h = u32_again e h

-- ---- bytes

pub bytes_told : (w : Text) (bytes : List ℕ) → bytes_in_hex w ≡ Some bytes → (are_bytes bytes ≡ true) × (hex bytes ≡ w)
bytes_told w bytes h = (bytes_small w bytes h, sym (bytes_take w bytes h))

words_of_piece : (c : ℕ) (cs : Text) (bytes : List ℕ) → hex bytes ≡ c ∷ cs → piece_words bytes ≡ (c ∷ cs) ∷ []
words_of_piece c cs [] e = cc
words_of_piece c cs (b ∷ bytes) e = ap (λ t. t ∷ []) e

pub piece_told : (w : Text) (bytes : List ℕ) → piece_of w ≡ Some bytes → (are_bytes bytes ≡ true) × (piece_words bytes ≡ w ∷ [])
piece_told [] bytes h = cc
piece_told (c ∷ cs) bytes h = let t = bytes_told (c ∷ cs) bytes h in (t.0, words_of_piece c cs bytes t.1)

pub piece_again : (b : ℕ) (bytes : List ℕ) → are_bytes (b ∷ bytes) ≡ true → piece_of (hex (b ∷ bytes)) ≡ Some (b ∷ bytes)
piece_again b bytes h =
    ap piece_of (flat_map-cons hex_byte b bytes) ∙ ap bytes_in_hex (sym (flat_map-cons hex_byte b bytes)) ∙ bytes_again (b ∷ bytes) h
