-- A command that was read keeps its rules.
use Rattle.std.proofs.Common.{◌≡◌, ℕ, ◌+◌, ◌*◌, ◌≤◌, Bool, true, false, cond, eqb, List, [], ◌∷◌, ◌++◌, length, map, Option, Some, None, refl, sym, ap, subst, ◌∙◌, arith, bytes_eq}
use Rattle.std.specs.Prelude.{◌&&◌, ◌||◌, not, codes, is_none, option_map, flat_map, sum_by, nat_le, nat_lt, option_to_list}
use Rattle.std.specs.List.{list_any, list_all}
use Rattle.std.proofs.lemmas.Bool.Decides.{nat_tests}
use Rattle.std.proofs.lemmas.List.Concat.{flat_map-cons}
use Rattle.std.proofs.lemmas.List.Sums.{sum_by-cons}
use Rattle.ttm_base.specs.declared.BufId.{BufId}
use Rattle.ttm_base.specs.Cutting.{op_len}
use Rattle.journal_model.specs.declared.script.Script.{Script}
use Rattle.journal_model.specs.declared.line.OpWord.{OpWord}
use Rattle.journal_model.specs.declared.line.OpWord.TheVariants as op_word
use Rattle.journal_model.specs.scripts.Words.{Text}
use Rattle.journal_model.specs.rules.Commands.{buffers_of_op}
use Rattle.journal_model.specs.scripts.CommandRules.{is_between, is_declared, is_range_of, is_op, is_byte}
use Rattle.journal_model.specs.scripts.Reading.{known, names_of, number_in, offset_of, bytes_in_hex, byte_in_hex, is_hex, hex_value, is_plain, read_on}
use Rattle.journal_model.specs.scripts.LineWords.{op_of}
use Rattle.journal_model.specs.scripts.LineRules.{has_wrong_range, passes, passes_in_op, is_more_than, names_one_twice, same_known, buffers_of_word, len_of_word}
use Rattle.journal_model.specs.scripts.FirstFault.{or_zero, or_first, op_in}
use Rattle.law_legal.proofs.law_script.NumberLaws.{between, is_in}
use Rattle.law_legal.proofs.law_script.WordLaws.{known_is}
use Rattle.law_legal.proofs.law_script.SubmitLaws.{IsGood, AreGood, first_good, others_good}
use Rattle.law_legal.proofs.law_script.HeadSteps.{there}
use Rattle.law_legal.proofs.law_items.Tests.{either, joint, second, differ, three, four, is_le, lt_is}

-- ---- numbers and names

small_choice : (b : Bool) (n low high : ℕ) → (b ≡ true → n ≤ high) → or_zero (cond b (Some n) None) ≤ high
small_choice true n low high h = h refl
small_choice false n low high h = omega arith

-- what is read of a number is in its range, or 0
pub number_small : (low high : ℕ) (w : Text) → or_zero (number_in low high w) ≤ high
number_small low high w =
    small_choice (is_plain w && is_between low high (read_on 0 w)) (read_on 0 w) low high (λ e. (between low high (read_on 0 w) (second (is_plain w) (is_between low high (read_on 0 w)) e)).1)

-- a known name is that of a declared buffer
pub known_there : (s : Script) (w : Text) → is_none (known (names_of s.buffers) w) ≡ false → is_declared s (or_first (known (names_of s.buffers) w)) ≡ true
known_there s w h =
    let b = or_first (known (names_of s.buffers) w) in
    lt_is b.0 (length s.buffers) (known_is s w b (there (known (names_of s.buffers) w) or_first (λ x. refl) h)).1

-- ---- ranges

not_lt : (n m : ℕ) → nat_lt n m ≡ false → nat_le m n ≡ true
not_lt n m h = grind (arith, nat_tests, h)

some_len : (n : ℕ) → eqb n 0 ≡ false → 1 ≤ n
some_len n h = grind (arith, nat_tests, h)

fits : (s : Script) (b : BufId) (off len : ℕ) → passes s (Some b) (Some off) (Some len) ≡ false → is_declared s b ≡ true → off ≤ 16777216 → 1 ≤ len → len ≤ 16777216 → is_range_of s b off len ≡ true
fits s b off len h d o l m =
    four (is_declared s b) (nat_le off 16777216) (is_between 1 16777216 len) _ d (is_le off 16777216 o) (is_in 1 16777216 len l m) (not_lt _ (off + len) h)

-- a range whose parts are there, and that doesn't pass its buffer
pub passes_fits : (s : Script) (b : Option BufId) (off len : Option ℕ) → is_none b ≡ false → is_none off ≡ false → is_none len ≡ false
    → passes s b off len ≡ false → (is_none b ≡ false → is_declared s (or_first b) ≡ true) → or_zero off ≤ 16777216 → 1 ≤ or_zero len → or_zero len ≤ 16777216
    → is_range_of s (or_first b) (or_zero off) (or_zero len) ≡ true
passes_fits s (Some b) (Some off) (Some len) p q r h d o l m = fits s b off len h (d refl) o l m
passes_fits s None off len p q r h d o l m = absurd cc
passes_fits s (Some b) None len p q r h d o l m = absurd cc
passes_fits s (Some b) (Some off) None p q r h d o l m = absurd cc

len_there : (len : Option ℕ) → is_none len ≡ false → (s : Script) (b : Option BufId) (off : Option ℕ) → has_wrong_range s b off len ≡ false → (1 ≤ or_zero len) × (passes s b off len ≡ false)
len_there None h s b off k = absurd cc
len_there (Some n) h s b off k = let f = either (eqb n 0) (passes s b off (Some n)) k in (some_len n f.0, f.1)

-- a range that is not wrong, and not empty
pub range_fits : (s : Script) (b : Option BufId) (off len : Option ℕ) → is_none b ≡ false → is_none off ≡ false → is_none len ≡ false
    → has_wrong_range s b off len ≡ false → (is_none b ≡ false → is_declared s (or_first b) ≡ true) → or_zero off ≤ 16777216 → or_zero len ≤ 16777216
    → (is_range_of s (or_first b) (or_zero off) (or_zero len) ≡ true) × (1 ≤ or_zero len)
range_fits s b off len p q r h d o m =
    let t = len_there len r s b off h in
    (passes_fits s b off len p q r t.1 d o t.0 m, t.0)

-- a length that is not too great
pub not_more : (most : ℕ) (o : Option ℕ) → is_none o ≡ false → is_more_than most o ≡ false → nat_le (or_zero o) most ≡ true
not_more most None h k = absurd cc
not_more most (Some n) h k = not_lt most n k

-- ---- bytes

pair_small : (c d : ℕ) → is_hex c ≡ true → is_hex d ≡ true → is_byte (hex_value c * 16 + hex_value d) ≡ true
pair_small c d h k =
    let a : hex_value c ≤ 15 = grind (arith, nat_tests, h) in
    let b : hex_value d ≤ 15 = grind (arith, nat_tests, k) in
    is_le (hex_value c * 16 + hex_value d) 255 (omega (arith, a, b))

bytes_step : (c d : ℕ) (a b : Bool) (o : Option (List ℕ)) (bytes : List ℕ) → is_hex c ≡ a → is_hex d ≡ b → ((bs : List ℕ) → o ≡ Some bs → list_all is_byte bs ≡ true)
    → cond (a && b) (option_map (λ bs. (hex_value c * 16 + hex_value d) ∷ bs) o) None ≡ Some bytes → list_all is_byte bytes ≡ true
bytes_step c d true true (Some bs) bytes p q rest h =
    let e : (hex_value c * 16 + hex_value d) ∷ bs ≡ bytes = cc in
    subst (λ (x : List ℕ). list_all is_byte x ≡ true) e (joint (is_byte (hex_value c * 16 + hex_value d)) (list_all is_byte bs) (pair_small c d p q) (rest bs refl))
bytes_step c d true true None bytes p q rest h = absurd cc
bytes_step c d true false o bytes p q rest h = absurd cc
bytes_step c d false b o bytes p q rest h = absurd cc

-- what is read of bytes is bytes
pub bytes_small : (w : Text) (bytes : List ℕ) → bytes_in_hex w ≡ Some bytes → list_all is_byte bytes ≡ true
bytes_small [] bytes h = let e : [] ≡ bytes = cc in ap (list_all is_byte) (sym e)
bytes_small (c ∷ []) bytes h = absurd cc
bytes_small (c ∷ d ∷ w) bytes h = bytes_step c d (is_hex c) (is_hex d) (bytes_in_hex w) bytes refl refl (bytes_small w) h

byte_choice : (c d : ℕ) (a b : Bool) → is_hex c ≡ a → is_hex d ≡ b → is_byte (or_zero (cond (a && b) (Some (hex_value c * 16 + hex_value d)) None)) ≡ true
byte_choice c d true true p q = pair_small c d p q
byte_choice c d true false p q = refl
byte_choice c d false b p q = refl

-- what is read of a byte is one
pub byte_small : (w : Text) → is_byte (or_zero (byte_in_hex w)) ≡ true
byte_small [] = refl
byte_small (c ∷ []) = refl
byte_small (c ∷ d ∷ []) = byte_choice c d (is_hex c) (is_hex d) refl refl
byte_small (c ∷ d ∷ e ∷ cs) = refl

-- ---- operations

-- the parts of an operation are in their ranges
abbrev InRange : Script → OpWord → Type 0
InRange s (op_word.Fill dst off len byte) = (is_none dst ≡ false → is_declared s (or_first dst) ≡ true) × (or_zero off ≤ 16777216) × (or_zero len ≤ 16777216) × (is_byte (or_zero byte) ≡ true)
InRange s (op_word.Copy dst doff src soff len) =
    (is_none dst ≡ false → is_declared s (or_first dst) ≡ true) × (is_none src ≡ false → is_declared s (or_first src) ≡ true) × (or_zero doff ≤ 16777216) × (or_zero soff ≤ 16777216) × (or_zero len ≤ 16777216)
InRange s (op_word.Xor dst doff src soff len) =
    (is_none dst ≡ false → is_declared s (or_first dst) ≡ true) × (is_none src ≡ false → is_declared s (or_first src) ≡ true) × (or_zero doff ≤ 16777216) × (or_zero soff ≤ 16777216) × (or_zero len ≤ 16777216)
InRange s (op_word.Probe src off len) = (is_none src ≡ false → is_declared s (or_first src) ≡ true) × (or_zero off ≤ 16777216) × (or_zero len ≤ 16777216)
InRange s op_word.Malformed = Unit {0}

choose : (P : OpWord → Type 0) (b : Bool) (x y : OpWord) → P x → P y → P (cond b x y)
choose P true x y p q = p
choose P false x y p q = q

offset_small : (w : Text) → or_zero (offset_of w) ≤ 16777216
offset_small w = number_small 0 16777216 w

op_in_range : (s : Script) (g : List Text) → InRange s (op_of (names_of s.buffers) g)
op_in_range s [] = tt
op_in_range s (w ∷ []) = tt
op_in_range s (w ∷ b ∷ []) = tt
op_in_range s (w ∷ b ∷ off ∷ []) = tt
op_in_range s (w ∷ b ∷ off ∷ len ∷ []) = choose (InRange s) (bytes_eq w (codes "probe")) _ op_word.Malformed (known_there s b, offset_small off, offset_small len) tt
op_in_range s (w ∷ b ∷ off ∷ len ∷ byte ∷ []) = choose (InRange s) (bytes_eq w (codes "fill")) _ op_word.Malformed (known_there s b, offset_small off, offset_small len, byte_small byte) tt
op_in_range s (w ∷ d ∷ doff ∷ t ∷ soff ∷ len ∷ []) =
    choose (InRange s) (bytes_eq w (codes "copy")) _ _ (known_there s d, known_there s t, offset_small doff, offset_small soff, offset_small len)
    (choose (InRange s) (bytes_eq w (codes "xor")) _ op_word.Malformed (known_there s d, known_there s t, offset_small doff, offset_small soff, offset_small len) tt)
op_in_range s (w ∷ d ∷ doff ∷ t ∷ soff ∷ len ∷ x ∷ xs) = tt

not_twice : (a b : Option BufId) → is_none a ≡ false → is_none b ≡ false → same_known a b ≡ false → not (eqb (or_first a).0 (or_first b).0) ≡ true
not_twice (Some a) (Some b) p q h = ap not h
not_twice None b p q h = absurd cc
not_twice (Some a) None p q h = absurd cc

two_ranges : (s : Script) (dst src : Option BufId) (doff soff len : Option ℕ)
    → (is_none dst ≡ false → is_declared s (or_first dst) ≡ true) × (is_none src ≡ false → is_declared s (or_first src) ≡ true) × (or_zero doff ≤ 16777216) × (or_zero soff ≤ 16777216) × (or_zero len ≤ 16777216)
    → (is_none doff || is_none soff || is_none len) ≡ false → (is_none dst || is_none src) ≡ false → (has_wrong_range s dst doff len || passes s src soff len) ≡ false → same_known dst src ≡ false
    → (is_range_of s (or_first dst) (or_zero doff) (or_zero len) && is_range_of s (or_first src) (or_zero soff) (or_zero len) && not (eqb (or_first dst).0 (or_first src).0)) ≡ true
two_ranges s dst src doff soff len r numbers names p t =
    let a = either (is_none doff || is_none soff) (is_none len) numbers in
    let b = either (is_none doff) (is_none soff) a.0 in
    let c = either (is_none dst) (is_none src) names in
    let d = either (has_wrong_range s dst doff len) (passes s src soff len) p in
    let x = range_fits s dst doff len c.0 b.0 a.1 d.0 r.0 r.2 r.4 in
    three (is_range_of s (or_first dst) (or_zero doff) (or_zero len)) (is_range_of s (or_first src) (or_zero soff) (or_zero len)) _ x.0
    (passes_fits s src soff len c.1 b.1 a.1 d.1 r.1 r.3 x.1 r.4) (not_twice dst src c.0 c.1 t)

op_fits : (s : Script) (x : OpWord) → InRange s x → IsGood x → passes_in_op s x ≡ false → names_one_twice x ≡ false → is_op s (op_in x) ≡ true
op_fits s (op_word.Fill dst off len byte) r g p t =
    let n = either (is_none off) (is_none len) g.numbers in
    joint (is_range_of s (or_first dst) (or_zero off) (or_zero len)) (is_byte (or_zero byte)) (range_fits s dst off len g.names n.0 n.1 p r.0 r.1 r.2).0 r.3
op_fits s (op_word.Copy dst doff src soff len) r g p t = two_ranges s dst src doff soff len r g.numbers g.names p t
op_fits s (op_word.Xor dst doff src soff len) r g p t = two_ranges s dst src doff soff len r g.numbers g.names p t
op_fits s (op_word.Probe src off len) r g p t =
    let n = either (is_none off) (is_none len) g.numbers in
    let q = either (has_wrong_range s src off len) (is_more_than 256 len) p in
    joint (is_range_of s (or_first src) (or_zero off) (or_zero len)) (nat_le (or_zero len) 256) (range_fits s src off len g.names n.0 n.1 q.0 r.0 r.1 r.2).0 (not_more 256 len n.1 q.1)
op_fits s op_word.Malformed r g p t = absurd (differ g.shape)

-- the operations of a job keep their rules
pub ops_fit : (s : Script) (gs : List (List Text)) → let xs = map (op_of (names_of s.buffers)) gs in AreGood xs → list_any (passes_in_op s) xs ≡ false → list_any names_one_twice xs ≡ false → list_all (is_op s) (map op_in xs) ≡ true
ops_fit s [] h p t = refl
ops_fit s (g ∷ gs) h p t =
    let x = op_of (names_of s.buffers) g in
    let xs = map (op_of (names_of s.buffers)) gs in
    let a = either (passes_in_op s x) (list_any (passes_in_op s) xs) p in
    let b = either (names_one_twice x) (list_any names_one_twice xs) t in
    joint (is_op s (op_in x)) (list_all (is_op s) (map op_in xs)) (op_fits s x (op_in_range s g) (first_good x xs h) a.0 b.0) (ops_fit s gs (others_good x xs h) a.1 b.1)

-- ---- what a job names, and how long it is

only : (b : Option BufId) → is_none b ≡ false → option_to_list b ≡ or_first b ∷ []
only (Some b) h = refl
only None h = absurd cc

named_is : (x : OpWord) → IsGood x → buffers_of_word x ≡ buffers_of_op (op_in x)
named_is (op_word.Fill dst off len byte) g = only dst g.names
named_is (op_word.Copy dst doff src soff len) g = let n = either (is_none dst) (is_none src) g.names in ap (λ bs. bs ++ option_to_list src) (only dst n.0) ∙ ap (λ bs. or_first dst ∷ bs) (only src n.1)
named_is (op_word.Xor dst doff src soff len) g = let n = either (is_none dst) (is_none src) g.names in ap (λ bs. bs ++ option_to_list src) (only dst n.0) ∙ ap (λ bs. or_first dst ∷ bs) (only src n.1)
named_is (op_word.Probe src off len) g = only src g.names
named_is op_word.Malformed g = absurd (differ g.shape)

-- a job names the buffers of its words
pub names_are : (xs : List OpWord) → AreGood xs → flat_map buffers_of_word xs ≡ flat_map buffers_of_op (map op_in xs)
names_are [] h = refl
names_are (x ∷ xs) h =
    flat_map-cons buffers_of_word x xs ∙ ap (λ bs. bs ++ flat_map buffers_of_word xs) (named_is x (first_good x xs h)) ∙ ap (λ bs. buffers_of_op (op_in x) ++ bs) (names_are xs (others_good x xs h))
    ∙ sym (flat_map-cons buffers_of_op (op_in x) (map op_in xs))

len_is : (x : OpWord) → len_of_word x ≡ op_len (op_in x)
len_is (op_word.Fill dst off len byte) = refl
len_is (op_word.Copy dst doff src soff len) = refl
len_is (op_word.Xor dst doff src soff len) = refl
len_is (op_word.Probe src off len) = refl
len_is op_word.Malformed = refl

-- a job is as long as its words say
pub lens_are : (xs : List OpWord) → sum_by len_of_word xs ≡ sum_by op_len (map op_in xs)
lens_are [] = refl
lens_are (x ∷ xs) = sum_by-cons len_of_word x xs ∙ ap (λ n. n + sum_by len_of_word xs) (len_is x) ∙ ap (λ n. op_len (op_in x) + n) (lens_are xs) ∙ sym (sum_by-cons op_len (op_in x) (map op_in xs))
