-- The first two lines of a report: what is read is their text, and that text is read.
use Rattle.std.proofs.Common.{◌≡◌, ℕ, suc, ◌+◌, ◌<◌, ◌≤◌, Bool, true, false, cond, eqb, List, [], ◌∷◌, ◌++◌, length, take, drop, Option, Some, None, refl, ap, sym, subst, ◌∙◌, arith, add-one, append_assoc, bytes_eq, drop-drop, length-drop, length-take}
use Rattle.std.specs.Prelude.{not, codes, decimal}
use Rattle.std.specs.List.{list_all}
use Rattle.std.proofs.lemmas.Bool.{eqb-true}
use Rattle.std.proofs.lemmas.Bool.Decides.{nat_tests}
use Rattle.std.proofs.lemmas.List.{length-take-le, take-append-drop}
use Rattle.journal_model.specs.declared.script.Script.{Script}
use Rattle.journal_model.specs.scripts.Words.{Text, line, spaced}
use Rattle.journal_model.specs.scripts.Cut.{cut_at, lines_of, onto}
use Rattle.journal_model.specs.scripts.FirstFault.{ends_line, without_end}
use Rattle.journal_model.specs.reports.ReportText.{report_head}
use Rattle.journal_model.specs.scripts.Readable.{is_u64}
use Rattle.script_words.specs.Lines.{line_len}
use Rattle.law_legal.proofs.law_items.Tests.{and_true, joint}
use Rattle.law_legal.proofs.law_script.WordLaws.{bytes_are}
use Rattle.law_legal.proofs.law_script.CutLaws.{cut_again, lacks}
use Rattle.law_legal.proofs.law_script.TextLaws.{text_is_line}
use Rattle.entry_reader.specs.EntryReading.{is_number, u64_of}
use Rattle.entry_reader.specs.HeadReading.{count_of, numbered_of, numbered_words}
use Rattle.entry_reader.specs.Parsing.{HasNoHead, IsHead}
use Rattle.entry_reader.proofs.Wholes.{Told, told_at, told_by, told_if, two_words}
use Rattle.entry_reader.proofs.WordLaws.{below_64, digits_lack, u64_again, u64_told}
use Rattle.entry_reader.proofs.EntryLaws.{line_ends}

-- ---- the lines of a text

within : (t : Bool) (n m : ℕ) → n ≤ m → cond t 1 (n + 1) ≤ suc m
within true n m h = omega arith
within false n m h = omega arith

pub line_len_within : (text : Text) → line_len text ≤ length text
line_len_within [] = omega arith
line_len_within (b ∷ bs) = within (eqb b 10) (line_len bs) (length bs) (line_len_within bs)

abbrev IsFirst : List Text → ℕ → Text → Type 0
IsFirst lines n text = lines ≡ take n text ∷ lines_of (drop n text)

first_more : (t : Bool) (b : ℕ) (bs : Text) (lines : List Text) (n : ℕ) → (0 < length bs → IsFirst lines n bs) → (bs ≡ [] → (lines ≡ []) × (n ≡ 0)) → lines ≡ lines_of bs
    → IsFirst (cond t ((b ∷ []) ∷ lines) (onto b lines)) (cond t 1 (n + 1)) (b ∷ bs)
first_more true b bs lines n some none same = ap (λ ls. (b ∷ []) ∷ ls) same
first_more false b [] lines n some none same =
    let e = none refl in
    rw (e.0, e.1) refl
first_more false b (c ∷ cs) lines n some none same =
    let e = some (omega arith) in
    rw add-one (ap (onto b) e)

pub first_line : (text : Text) → 0 < length text → lines_of text ≡ take (line_len text) text ∷ lines_of (drop (line_len text) text)
first_line [] h = absurd (omega (arith, h))
first_line (b ∷ bs) h = first_more (eqb b 10) b bs (lines_of bs) (line_len bs) (first_line bs) (λ e. (ap lines_of e, ap line_len e)) refl

-- the first line has so many bytes
pub first_length : (text line : Text) (n : ℕ) → n ≡ length line → line ≡ take (line_len text) text → (n ≡ line_len text) × (line ≡ take n text)
first_length text line n p e =
    let whole : n ≡ line_len text = p ∙ ap length e ∙ length-take-le (line_len text) text (line_len_within text) in
    (whole, e ∙ ap (λ k. take k text) (sym whole))

-- ---- a keyword and a number

words_told : (keyword : Text) (ws : List Text) → Told (numbered_words keyword ws) (λ n. (is_u64 n ≡ true) × (keyword ∷ decimal n ∷ [] ≡ ws))
words_told keyword [] = tt
words_told keyword (w ∷ []) = tt
words_told keyword (w ∷ number ∷ []) =
    told_if (bytes_eq w keyword) (u64_of number) None (λ n. (is_u64 n ≡ true) × (keyword ∷ decimal n ∷ [] ≡ w ∷ number ∷ []))
    (λ e. told_by (u64_of number) (λ n. (is_u64 n ≡ true) × (keyword ∷ decimal n ∷ [] ≡ w ∷ number ∷ []))
    (λ n p. let t = u64_told number n p in (t.0, two_words (sym (bytes_are w keyword e)) t.1))) tt
words_told keyword (w ∷ number ∷ x ∷ ws) = tt

numbered_told : (keyword text : Text) (n : ℕ) → numbered_of keyword text ≡ Some n → (is_u64 n ≡ true) × (text ≡ line (keyword ∷ decimal n ∷ []))
numbered_told keyword text n h =
    let P : ℕ → Type 0 = λ m. (is_u64 m ≡ true) × (text ≡ line (keyword ∷ decimal m ∷ [])) in
    told_at (numbered_of keyword text) n P
    (told_if (ends_line text) (numbered_words keyword (cut_at 32 (without_end text))) None P
    (λ e. told_by (numbered_words keyword (cut_at 32 (without_end text))) P
    (λ m p.
    let t = told_at (numbered_words keyword (cut_at 32 (without_end text))) m (λ k. (is_u64 k ≡ true) × (keyword ∷ decimal k ∷ [] ≡ cut_at 32 (without_end text)))
    (words_told keyword (cut_at 32 (without_end text))) p in
    (t.0, text_is_line text e ∙ ap line (sym t.1)))) tt) h

same_keyword : (w : Text) → bytes_eq w w ≡ true
same_keyword [] = refl
same_keyword (c ∷ w) = let e = same_keyword w in joint (eqb c c) (bytes_eq w w) (grind (arith, nat_tests)) e

numbered_again : (keyword : Text) (n : ℕ) → lacks 32 keyword ≡ true → is_u64 n ≡ true → numbered_of keyword (line (keyword ∷ decimal n ∷ [])) ≡ Some n
numbered_again keyword n free small =
    let t = spaced (keyword ∷ decimal n ∷ []) in
    let ends = line_ends t in
    let cut : cut_at 32 (without_end (t ++ 10 ∷ [])) ≡ keyword ∷ decimal n ∷ [] =
    ap (cut_at 32) ends.1 ∙ cut_again 32 keyword (decimal n ∷ []) (joint (lacks 32 keyword) (list_all (lacks 32) (decimal n ∷ [])) free (and_true (lacks 32 (decimal n)) (ap not (digits_lack 32 n refl (below_64 n small))))) in
    ap (λ b. cond b (numbered_words keyword (cut_at 32 (without_end (t ++ 10 ∷ [])))) None) ends.0
    ∙ ap (numbered_words keyword) cut
    ∙ ap (λ b. cond b (u64_of (decimal n)) None) (same_keyword keyword)
    ∙ u64_again n small

-- ---- both lines

number_told : (n : ℕ) (o : Option ℕ) → is_number n o ≡ true → o ≡ Some n
number_told n None h = cc
number_told n (Some m) h = ap (λ k. Some k) (eqb-true m n h)

both_told : (script : Script) (first second : Text) (n : ℕ) (b : Bool) → is_number script.version (numbered_of (codes "report") first) ≡ b
    → cond b (numbered_of (codes "journal") second) None ≡ Some n
    → (is_u64 n ≡ true) × (first ≡ report_head script) × (second ≡ line (codes "journal" ∷ decimal n ∷ []))
both_told script first second n true e h =
    let version = numbered_told (codes "report") first script.version (number_told script.version (numbered_of (codes "report") first) e) in
    let count = numbered_told (codes "journal") second n h in
    (count.0, version.1, count.1)
both_told script first second n false e h = cc

count_told : (script : Script) (first second : Text) (n : ℕ) → count_of script first second ≡ Some n
    → (is_u64 n ≡ true) × (first ≡ report_head script) × (second ≡ line (codes "journal" ∷ decimal n ∷ []))
count_told script first second n h = both_told script first second n (is_number script.version (numbered_of (codes "report") first)) refl h

same_number : (n : ℕ) → eqb n n ≡ true
same_number n = grind (arith, nat_tests)

count_again : (script : Script) (n : ℕ) → is_u64 script.version ≡ true → is_u64 n ≡ true → count_of script (report_head script) (line (codes "journal" ∷ decimal n ∷ [])) ≡ Some n
count_again script n version small =
    ap (λ o. cond (is_number script.version o) (numbered_of (codes "journal") (line (codes "journal" ∷ decimal n ∷ []))) None)
    (numbered_again (codes "report") script.version refl version)
    ∙ ap (λ b. cond b (numbered_of (codes "journal") (line (codes "journal" ∷ decimal n ∷ []))) None) (same_number script.version)
    ∙ numbered_again (codes "journal") n refl small

-- ---- a text that begins with them

some_end : (t : Text) → 0 < length (t ++ 10 ∷ [])
some_end [] = omega arith
some_end (c ∷ t) = omega arith

some_begin : (text : Text) (n : ℕ) (ws : List Text) → take n text ≡ line ws → 0 < length text
some_begin text n ws h = let some = some_end (spaced ws) in omega (arith, ap length h, length-take n text, some)

first_some : (text x : Text) (xs : List Text) → lines_of text ≡ x ∷ xs → 0 < length text
first_some [] x xs h = cc
first_some (b ∷ bs) x xs h = omega arith

cons_parts : {X : Type 0} (x y : X) (xs ys : List X) → x ∷ xs ≡ y ∷ ys → (x ≡ y) × (xs ≡ ys)
cons_parts x y xs ys h = (cc, cc)

-- the first line of a text that has one
pub first_is : (text x : Text) (xs : List Text) → lines_of text ≡ x ∷ xs → (take (line_len text) text ≡ x) × (lines_of (drop (line_len text) text) ≡ xs)
first_is text x xs h =
    cons_parts (take (line_len text) text) x (lines_of (drop (line_len text) text)) xs (sym (first_line text (first_some text x xs h)) ∙ h)

pub head_told : (script : Script) (text : Text) (f s n : ℕ) → f ≡ line_len text → s ≡ line_len (drop f text)
    → count_of script (take f text) (take s (drop f text)) ≡ Some n → IsHead script text n (f + s)
head_told script text f s n p q h =
    let behind = drop f text in
    let told = count_told script (take f text) (take s behind) n h in
    let count = line (codes "journal" ∷ decimal n ∷ []) in
    let some = some_begin text f (codes "report" ∷ decimal script.version ∷ []) told.1 in
    let more = some_begin behind s (codes "journal" ∷ decimal n ∷ []) told.2 in
    let one : lines_of text ≡ take f text ∷ lines_of behind = subst (λ k. lines_of text ≡ take k text ∷ lines_of (drop k text)) (sym p) (first_line text some) in
    let two : lines_of behind ≡ take s behind ∷ lines_of (drop s behind) = subst (λ k. lines_of behind ≡ take k behind ∷ lines_of (drop k behind)) (sym q) (first_line behind more) in
    let rest : drop s behind ≡ drop (f + s) text = drop-drop s f text in
    record {
      lines = record {
        lines = one ∙ ap (λ t. t ∷ lines_of behind) told.1
            ∙ ap (λ ls. report_head script ∷ ls) (two ∙ ap (λ t. t ∷ lines_of (drop s behind)) told.2 ∙ ap (λ t. count ∷ lines_of t) rest);
        fits = told.0;
      };
      bytes = sym (take-append-drop f text) ∙ ap (λ t. t ++ behind) told.1
          ∙ ap (λ t. report_head script ++ t) (sym (take-append-drop s behind) ∙ ap (λ t. t ++ drop s behind) told.2 ∙ ap (λ t. count ++ t) rest)
          ∙ sym (append_assoc (report_head script) count (drop (f + s) text));
      within = let a = line_len_within text in let b = line_len_within behind in omega (arith, p, q, a, b, length-drop f text);
    }

pub head_none : (script : Script) (text : Text) (f s : ℕ) → is_u64 script.version ≡ true → f ≡ line_len text → s ≡ line_len (drop f text)
    → count_of script (take f text) (take s (drop f text)) ≡ None → HasNoHead script text
head_none script text f s version p q h = λ count texts has.
    (let behind = drop f text in
    let second = line (codes "journal" ∷ decimal count ∷ []) in
    let one = first_is text (report_head script) (second ∷ texts) has.lines in
    let first : take f text ≡ report_head script = ap (λ k. take k text) p ∙ one.0 in
    let others : lines_of behind ≡ second ∷ texts = ap (λ k. lines_of (drop k text)) p ∙ one.1 in
    let two = first_is behind second texts others in
    let next : take s behind ≡ second = ap (λ k. take k behind) q ∙ two.0 in
    let told : count_of script (take f text) (take s behind) ≡ Some count =
    ap (λ t. count_of script t (take s behind)) first ∙ ap (count_of script (report_head script)) next ∙ count_again script count version has.fits in
    let both_ways : None ≡ Some count = sym h ∙ told in cc)

-- the same of both lines as they are found
pub head_found : (script : Script) (text first after second : Text) (f s n : ℕ) → f ≡ length first → first ≡ take (line_len text) text → after ≡ drop f text
    → s ≡ length second → second ≡ take (line_len after) after → count_of script first second ≡ Some n → IsHead script text n (f + s)
head_found script text first after second f s n p one q r two h =
    let a = first_length text first f p one in
    let b = first_length after second s r two in
    let back : second ≡ take s (drop f text) = b.1 ∙ ap (take s) q in
    head_told script text f s n a.0 (b.0 ∙ ap line_len q)
    (ap (λ t. count_of script t (take s (drop f text))) (sym a.1) ∙ ap (count_of script first) (sym back) ∙ h)

pub head_missing : (script : Script) (text first after second : Text) (f s : ℕ) → is_u64 script.version ≡ true → f ≡ length first → first ≡ take (line_len text) text
    → after ≡ drop f text → s ≡ length second → second ≡ take (line_len after) after → count_of script first second ≡ None → HasNoHead script text
head_missing script text first after second f s version p one q r two h =
    let a = first_length text first f p one in
    let b = first_length after second s r two in
    let back : second ≡ take s (drop f text) = b.1 ∙ ap (take s) q in
    head_none script text f s version a.0 (b.0 ∙ ap line_len q)
    (ap (λ t. count_of script t (take s (drop f text))) (sym a.1) ∙ ap (count_of script first) (sym back) ∙ h)
