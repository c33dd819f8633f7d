-- The operations of a job that were written are read.
use Rattle.std.proofs.Common.{◌≡◌, ℕ, ◌+◌, ◌*◌, ◌<◌, ◌≤◌, Bool, true, false, cond, eqb, List, [], ◌∷◌, ◌++◌, length, map, Some, None, refl, sym, ap, ◌∙◌, arith}
use Rattle.std.specs.Prelude.{◌&&◌, ◌||◌, ◌/◌, ◌%◌, not, codes, decimal, flat_map, sum_by, nat_lt, nat_le}
use Rattle.std.specs.List.{list_any, list_all}
use Rattle.std.specs.Char.{digit_char}
use Rattle.std.proofs.lemmas.Bool.Decides.{nat_tests}
use Rattle.std.proofs.lemmas.List.Folds.{list_all-append}
use Rattle.std.proofs.lemmas.List.Concat.{flat_map-cons}
use Rattle.std.proofs.lemmas.List.Sums.{sum_by-cons}
use Rattle.ttm_base.specs.declared.BufId.{BufId}
use Rattle.ttm_base.specs.declared.Op.{Op}
use Rattle.ttm_base.specs.declared.Op.TheVariants as op
use Rattle.ttm_base.specs.Cutting.{op_len}
use Rattle.journal_model.specs.declared.script.Script.{Script}
use Rattle.journal_model.specs.declared.line.OpWord.{OpWord}
use Rattle.journal_model.specs.declared.line.OpWord.TheVariants as op_word
use Rattle.journal_model.specs.scripts.Words.{Text, name_of, hex_byte}
use Rattle.journal_model.specs.scripts.Cut.{cut_by, is_semicolon}
use Rattle.journal_model.specs.rules.Commands.{decl, buffers_of_op}
use Rattle.journal_model.specs.scripts.Spelling.{op_words, parted}
use Rattle.journal_model.specs.scripts.CommandRules.{is_between, is_declared, is_range_of, is_op, is_byte}
use Rattle.journal_model.specs.scripts.Reading.{known, names_of, offset_of, byte_in_hex, is_hex, hex_value}
use Rattle.journal_model.specs.scripts.LineWords.{op_of, op_words_of}
use Rattle.journal_model.specs.scripts.LineRules.{buffers_of_word, len_of_word, has_wrong_range, passes, passes_in_op, names_one_twice}
use Rattle.journal_model.specs.scripts.FirstFault.{op_in}
use Rattle.law_legal.proofs.law_script.CutLaws.{cut_free, cut_append}
use Rattle.law_legal.proofs.law_script.NumberLaws.{between}
use Rattle.law_legal.proofs.law_script.AgainLaws.{offset_again, digit_again}
use Rattle.law_legal.proofs.law_script.NamesAgain.{IsNamed, known_again, name_word_small}
use Rattle.law_legal.proofs.law_script.Solid.{is_word, is_small, small_word, small_no_sign, number_small_word, byte_small_word}
use Rattle.law_legal.proofs.law_items.Tests.{not_true, both, joint, three_facts, four_facts, le_is, at_most}

-- ---- a byte

byte_chosen : (c d b : ℕ) (x y : Bool) → x ≡ true → y ≡ true → hex_value c * 16 + hex_value d ≡ b → cond (x && y) (Some (hex_value c * 16 + hex_value d)) None ≡ Some b
byte_chosen c d b true true p q e = ap (λ (n : ℕ). Some n) e
byte_chosen c d b false y p q e = absurd cc
byte_chosen c d b true false p q e = absurd cc

-- a byte is read
pub byte_again : (b : ℕ) → is_byte b ≡ true → byte_in_hex (hex_byte b) ≡ Some b
byte_again b h =
    let small = le_is b 255 h in
    let high = digit_again (b / 16) (omega (arith, small)) in
    let low = digit_again (b % 16) (omega (arith, small)) in
    byte_chosen (digit_char (b / 16)) (digit_char (b % 16)) b (is_hex (digit_char (b / 16))) (is_hex (digit_char (b % 16))) high.0 low.0 (omega (arith, high.1, low.1))

-- ---- ranges

-- a range that may be written
pub record IsRange (s : Script) (b : BufId) (off len : ℕ) : Type 0 where
  pub there : is_declared s b ≡ true
  pub off_small : off ≤ 16777216
  pub some : 1 ≤ len
  pub len_small : len ≤ 16777216
  pub inside : nat_lt (4096 * (decl s b).pages) (off + len) ≡ false

le_not : (n m : ℕ) → nat_le m n ≡ true → nat_lt n m ≡ false
le_not n m h = grind (arith, nat_tests, h)

-- the limits of a range, each for itself
pub range_is : (s : Script) (b : BufId) (off len : ℕ) → is_range_of s b off len ≡ true → IsRange s b off len
range_is s b off len h =
    let f = four_facts (is_declared s b) (nat_le off 16777216) (is_between 1 16777216 len) (nat_le (off + len) (4096 * (decl s b).pages)) h in
    let g = between 1 16777216 len f.2 in
    record { there = f.0; off_small = le_is off 16777216 f.1; some = g.0; len_small = g.1; inside = le_not (4096 * (decl s b).pages) (off + len) f.3 }

some_not : (n : ℕ) → 1 ≤ n → eqb n 0 ≡ false
some_not n h = grind (arith, nat_tests)

-- such a range is not wrong
pub right_range : (s : Script) (b : BufId) (off len : ℕ) → IsRange s b off len → has_wrong_range s (Some b) (Some off) (Some len) ≡ false
right_range s b off len r = ap (λ x. x || passes s (Some b) (Some off) (Some len)) (some_not len r.some) ∙ r.inside

-- ---- operations

-- an operation, each of its parts there
abbrev pub whole_op : Op → OpWord
whole_op (op.Fill dst off len byte) = op_word.Fill (Some dst) (Some off) (Some len) (Some byte)
whole_op (op.Copy dst doff src soff len) = op_word.Copy (Some dst) (Some doff) (Some src) (Some soff) (Some len)
whole_op (op.Xor dst doff src soff len) = op_word.Xor (Some dst) (Some doff) (Some src) (Some soff) (Some len)
whole_op (op.Probe src off len) = op_word.Probe (Some src) (Some off) (Some len)

op_again : (s : Script) (o : Op) → IsNamed s → is_op s o ≡ true → op_of (names_of s.buffers) (op_words s o) ≡ whole_op o
op_again s (op.Fill dst off len byte) h k =
    let f = both (is_range_of s dst off len) (is_byte byte) k in
    let r = range_is s dst off len f.0 in
    ap (λ x. op_word.Fill x (offset_of (decimal off)) (offset_of (decimal len)) (byte_in_hex (hex_byte byte))) (known_again s dst h r.there)
    ∙ ap (λ x. op_word.Fill (Some dst) x (offset_of (decimal len)) (byte_in_hex (hex_byte byte))) (offset_again off r.off_small)
    ∙ ap (λ x. op_word.Fill (Some dst) (Some off) x (byte_in_hex (hex_byte byte))) (offset_again len r.len_small)
    ∙ ap (λ x. op_word.Fill (Some dst) (Some off) (Some len) x) (byte_again byte f.1)
op_again s (op.Copy dst doff src soff len) h k =
    let f = three_facts (is_range_of s dst doff len) (is_range_of s src soff len) (not (eqb dst.0 src.0)) k in
    let r = range_is s dst doff len f.0 in
    let q = range_is s src soff len f.1 in
    ap (λ x. op_word.Copy x (offset_of (decimal doff)) (known (names_of s.buffers) (name_of s src)) (offset_of (decimal soff)) (offset_of (decimal len))) (known_again s dst h r.there)
    ∙ ap (λ x. op_word.Copy (Some dst) x (known (names_of s.buffers) (name_of s src)) (offset_of (decimal soff)) (offset_of (decimal len))) (offset_again doff r.off_small)
    ∙ ap (λ x. op_word.Copy (Some dst) (Some doff) x (offset_of (decimal soff)) (offset_of (decimal len))) (known_again s src h q.there)
    ∙ ap (λ x. op_word.Copy (Some dst) (Some doff) (Some src) x (offset_of (decimal len))) (offset_again soff q.off_small)
    ∙ ap (λ x. op_word.Copy (Some dst) (Some doff) (Some src) (Some soff) x) (offset_again len r.len_small)
op_again s (op.Xor dst doff src soff len) h k =
    let f = three_facts (is_range_of s dst doff len) (is_range_of s src soff len) (not (eqb dst.0 src.0)) k in
    let r = range_is s dst doff len f.0 in
    let q = range_is s src soff len f.1 in
    ap (λ x. op_word.Xor x (offset_of (decimal doff)) (known (names_of s.buffers) (name_of s src)) (offset_of (decimal soff)) (offset_of (decimal len))) (known_again s dst h r.there)
    ∙ ap (λ x. op_word.Xor (Some dst) x (known (names_of s.buffers) (name_of s src)) (offset_of (decimal soff)) (offset_of (decimal len))) (offset_again doff r.off_small)
    ∙ ap (λ x. op_word.Xor (Some dst) (Some doff) x (offset_of (decimal soff)) (offset_of (decimal len))) (known_again s src h q.there)
    ∙ ap (λ x. op_word.Xor (Some dst) (Some doff) (Some src) x (offset_of (decimal len))) (offset_again soff q.off_small)
    ∙ ap (λ x. op_word.Xor (Some dst) (Some doff) (Some src) (Some soff) x) (offset_again len r.len_small)
op_again s (op.Probe src off len) h k =
    let f = both (is_range_of s src off len) (nat_le len 256) k in
    let r = range_is s src off len f.0 in
    ap (λ x. op_word.Probe x (offset_of (decimal off)) (offset_of (decimal len))) (known_again s src h r.there)
    ∙ ap (λ x. op_word.Probe (Some src) x (offset_of (decimal len))) (offset_again off r.off_small)
    ∙ ap (λ x. op_word.Probe (Some src) (Some off) x) (offset_again len r.len_small)

number_small : (n : ℕ) → n ≤ 16777216 → is_small (decimal n) ≡ true
number_small n h = number_small_word n (omega (arith, h))

five_small : (word a b c d e : Text) → is_small word ≡ true → is_small a ≡ true → is_small b ≡ true → is_small c ≡ true → is_small d ≡ true → is_small e ≡ true → list_all is_small (word ∷ a ∷ b ∷ c ∷ d ∷ e ∷ []) ≡ true
five_small word a b c d e w p q r s t =
    joint (is_small word) _ w (joint (is_small a) _ p (joint (is_small b) _ q (joint (is_small c) _ r (joint (is_small d) _ s (joint (is_small e) true t refl)))))

op_small : (s : Script) (o : Op) → IsNamed s → is_op s o ≡ true → list_all is_small (op_words s o) ≡ true
op_small s (op.Fill dst off len byte) h k =
    let f = both (is_range_of s dst off len) (is_byte byte) k in
    let r = range_is s dst off len f.0 in
    joint true _ refl (joint (is_small (name_of s dst)) _ (name_word_small s dst h r.there) (joint (is_small (decimal off)) _ (number_small off r.off_small) (joint (is_small (decimal len)) _ (number_small len r.len_small) (joint (is_small (hex_byte byte)) true (byte_small_word byte f.1) refl))))
op_small s (op.Copy dst doff src soff len) h k =
    let f = three_facts (is_range_of s dst doff len) (is_range_of s src soff len) (not (eqb dst.0 src.0)) k in
    let r = range_is s dst doff len f.0 in
    let q = range_is s src soff len f.1 in
    five_small (codes "copy") (name_of s dst) (decimal doff) (name_of s src) (decimal soff) (decimal len) refl (name_word_small s dst h r.there) (number_small doff r.off_small) (name_word_small s src h q.there) (number_small soff q.off_small) (number_small len r.len_small)
op_small s (op.Xor dst doff src soff len) h k =
    let f = three_facts (is_range_of s dst doff len) (is_range_of s src soff len) (not (eqb dst.0 src.0)) k in
    let r = range_is s dst doff len f.0 in
    let q = range_is s src soff len f.1 in
    five_small (codes "xor") (name_of s dst) (decimal doff) (name_of s src) (decimal soff) (decimal len) refl (name_word_small s dst h r.there) (number_small doff r.off_small) (name_word_small s src h q.there) (number_small soff q.off_small) (number_small len r.len_small)
op_small s (op.Probe src off len) h k =
    let f = both (is_range_of s src off len) (nat_le len 256) k in
    let r = range_is s src off len f.0 in
    joint true _ refl (joint (is_small (name_of s src)) _ (name_word_small s src h r.there) (joint (is_small (decimal off)) _ (number_small off r.off_small) (joint (is_small (decimal len)) true (number_small len r.len_small) refl)))

-- ---- jobs

none_sign : (ws : List Text) → list_all is_small ws ≡ true → list_any is_semicolon ws ≡ false
none_sign [] h = refl
none_sign (w ∷ ws) h =
    let f = both (is_small w) (list_all is_small ws) h in
    ap (λ b. b || list_any is_semicolon ws) (small_no_sign w f.0) ∙ none_sign ws f.1

-- groups of small words are cut again
pub parted_cut : (g : List Text) (gs : List (List Text)) → list_all (list_all is_small) (g ∷ gs) ≡ true → cut_by is_semicolon (parted (g ∷ gs)) ≡ g ∷ gs
parted_cut g [] h = cut_free is_semicolon g (none_sign g (both (list_all is_small g) true h).0)
parted_cut g (k ∷ gs) h =
    let f = both (list_all is_small g) (list_all (list_all is_small) (k ∷ gs)) h in
    cut_append is_semicolon g (codes ";") (parted (k ∷ gs)) (none_sign g f.0) refl ∙ ap (λ vs. g ∷ vs) (parted_cut k gs f.1)

all_words : (ws : List Text) → list_all is_small ws ≡ true → list_all is_word ws ≡ true
all_words [] h = refl
all_words (w ∷ ws) h = let f = both (is_small w) (list_all is_small ws) h in joint (is_word w) (list_all is_word ws) (small_word w f.0) (all_words ws f.1)

-- groups of small words are words
pub parted_words : (gs : List (List Text)) → list_all (list_all is_small) gs ≡ true → list_all is_word (parted gs) ≡ true
parted_words [] h = refl
parted_words (g ∷ []) h = all_words g (both (list_all is_small g) true h).0
parted_words (g ∷ k ∷ gs) h =
    let f = both (list_all is_small g) (list_all (list_all is_small) (k ∷ gs)) h in
    list_all-append is_word g (codes ";" ∷ parted (k ∷ gs)) ∙ joint (list_all is_word g) (list_all is_word (codes ";" ∷ parted (k ∷ gs))) (all_words g f.0) (parted_words (k ∷ gs) f.1)

groups_small : (s : Script) (ops : List Op) → IsNamed s → list_all (is_op s) ops ≡ true → list_all (list_all is_small) (map (op_words s) ops) ≡ true
groups_small s [] h k = refl
groups_small s (o ∷ ops) h k =
    let f = both (is_op s o) (list_all (is_op s) ops) k in
    joint (list_all is_small (op_words s o)) (list_all (list_all is_small) (map (op_words s) ops)) (op_small s o h f.0) (groups_small s ops h f.1)

each_again : (s : Script) (ops : List Op) → IsNamed s → list_all (is_op s) ops ≡ true → map (op_of (names_of s.buffers)) (map (op_words s) ops) ≡ map whole_op ops
each_again s [] h k = refl
each_again s (o ∷ ops) h k =
    let f = both (is_op s o) (list_all (is_op s) ops) k in
    ap (λ x. x ∷ map (op_of (names_of s.buffers)) (map (op_words s) ops)) (op_again s o h f.0) ∙ ap (λ xs. whole_op o ∷ xs) (each_again s ops h f.1)

-- the operations of a job are words
pub ops_words : (s : Script) (ops : List Op) → IsNamed s → list_all (is_op s) ops ≡ true → list_all is_word (parted (map (op_words s) ops)) ≡ true
ops_words s ops h k = parted_words (map (op_words s) ops) (groups_small s ops h k)

-- the operations of a job are read
pub ops_again : (s : Script) (ops : List Op) → 0 < length ops → IsNamed s → list_all (is_op s) ops ≡ true → op_words_of (names_of s.buffers) (parted (map (op_words s) ops)) ≡ map whole_op ops
ops_again s [] some h k = absurd (omega (arith, some))
ops_again s (o ∷ ops) some h k =
    ap (map (op_of (names_of s.buffers))) (parted_cut (op_words s o) (map (op_words s) ops) (groups_small s (o ∷ ops) h k)) ∙ each_again s (o ∷ ops) h k

-- ---- what whole operations keep

-- no whole operation fails a test that each passes
pub none_of : (P : OpWord → Bool) → ((o : Op) → P (whole_op o) ≡ false) → (ops : List Op) → list_any P (map whole_op ops) ≡ false
none_of P h [] = refl
none_of P h (o ∷ ops) = ap (λ b. b || list_any P (map whole_op ops)) (h o) ∙ none_of P h ops

three_or : (a b c : Bool) → a ≡ false → b ≡ false → (a || b) ≡ false
three_or false false c p q = refl
three_or true b c p q = absurd cc
three_or false true c p q = absurd cc

op_inside : (s : Script) (o : Op) → is_op s o ≡ true → passes_in_op s (whole_op o) ≡ false
op_inside s (op.Fill dst off len byte) k = right_range s dst off len (range_is s dst off len (both (is_range_of s dst off len) (is_byte byte) k).0)
op_inside s (op.Copy dst doff src soff len) k =
    let f = three_facts (is_range_of s dst doff len) (is_range_of s src soff len) (not (eqb dst.0 src.0)) k in
    three_or (has_wrong_range s (Some dst) (Some doff) (Some len)) _ true (right_range s dst doff len (range_is s dst doff len f.0)) (range_is s src soff len f.1).inside
op_inside s (op.Xor dst doff src soff len) k =
    let f = three_facts (is_range_of s dst doff len) (is_range_of s src soff len) (not (eqb dst.0 src.0)) k in
    three_or (has_wrong_range s (Some dst) (Some doff) (Some len)) _ true (right_range s dst doff len (range_is s dst doff len f.0)) (range_is s src soff len f.1).inside
op_inside s (op.Probe src off len) k =
    let f = both (is_range_of s src off len) (nat_le len 256) k in
    three_or (has_wrong_range s (Some src) (Some off) (Some len)) _ true (right_range s src off len (range_is s src off len f.0)) (at_most len f.1)

op_apart : (s : Script) (o : Op) → is_op s o ≡ true → names_one_twice (whole_op o) ≡ false
op_apart s (op.Fill dst off len byte) k = refl
op_apart s (op.Copy dst doff src soff len) k = not_true (eqb dst.0 src.0) (three_facts (is_range_of s dst doff len) (is_range_of s src soff len) (not (eqb dst.0 src.0)) k).2
op_apart s (op.Xor dst doff src soff len) k = not_true (eqb dst.0 src.0) (three_facts (is_range_of s dst doff len) (is_range_of s src soff len) (not (eqb dst.0 src.0)) k).2
op_apart s (op.Probe src off len) k = refl

-- operations stay inside their buffers and apart
pub ops_inside : (s : Script) (ops : List Op) → list_all (is_op s) ops ≡ true → (list_any (passes_in_op s) (map whole_op ops) ≡ false) × (list_any names_one_twice (map whole_op ops) ≡ false)
ops_inside s [] k = (refl, refl)
ops_inside s (o ∷ ops) k =
    let f = both (is_op s o) (list_all (is_op s) ops) k in
    let r = ops_inside s ops f.1 in (
      ap (λ b. b || list_any (passes_in_op s) (map whole_op ops)) (op_inside s o f.0) ∙ r.0,
      ap (λ b. b || list_any names_one_twice (map whole_op ops)) (op_apart s o f.0) ∙ r.1,
    )

names_of_op : (o : Op) → buffers_of_word (whole_op o) ≡ buffers_of_op o
names_of_op (op.Fill dst off len byte) = refl
names_of_op (op.Copy dst doff src soff len) = refl
names_of_op (op.Xor dst doff src soff len) = refl
names_of_op (op.Probe src off len) = refl

-- whole operations name the buffers of theirs
pub names_again : (ops : List Op) → flat_map buffers_of_word (map whole_op ops) ≡ flat_map buffers_of_op ops
names_again [] = refl
names_again (o ∷ ops) =
    flat_map-cons buffers_of_word (whole_op o) (map whole_op ops) ∙ ap (λ bs. bs ++ flat_map buffers_of_word (map whole_op ops)) (names_of_op o) ∙ ap (λ bs. buffers_of_op o ++ bs) (names_again ops) ∙ sym (flat_map-cons buffers_of_op o ops)

len_of_op : (o : Op) → len_of_word (whole_op o) ≡ op_len o
len_of_op (op.Fill dst off len byte) = refl
len_of_op (op.Copy dst doff src soff len) = refl
len_of_op (op.Xor dst doff src soff len) = refl
len_of_op (op.Probe src off len) = refl

-- whole operations are as long as theirs
pub lens_again : (ops : List Op) → sum_by len_of_word (map whole_op ops) ≡ sum_by op_len ops
lens_again [] = refl
lens_again (o ∷ ops) =
    sum_by-cons len_of_word (whole_op o) (map whole_op ops) ∙ ap (λ n. n + sum_by len_of_word (map whole_op ops)) (len_of_op o) ∙ ap (λ n. op_len o + n) (lens_again ops) ∙ sym (sum_by-cons op_len o ops)

in_op : (o : Op) → op_in (whole_op o) ≡ o
in_op (op.Fill dst off len byte) = refl
in_op (op.Copy dst doff src soff len) = refl
in_op (op.Xor dst doff src soff len) = refl
in_op (op.Probe src off len) = refl

-- whole operations say theirs
pub ops_said : (ops : List Op) → map op_in (map whole_op ops) ≡ ops
ops_said [] = refl
ops_said (o ∷ ops) = ap (λ x. x ∷ map op_in (map whole_op ops)) (in_op o) ∙ ap (λ xs. o ∷ xs) (ops_said ops)
