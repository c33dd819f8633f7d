-- The words of a job are those of its operations, with a lone semicolon between each two.
use Rattle.std.proofs.Common.{◌≡◌, ℕ, ◌+◌, ◌*◌, ◌<◌, Bool, true, false, cond, List, [], ◌∷◌, ◌++◌, length, map, Option, Some, None, refl, sym, ap, ◌∙◌, arith, bytes_eq}
use Rattle.std.specs.Prelude.{◌||◌, ◌&&◌, codes, decimal, is_none}
use Rattle.std.specs.List.{list_any}
use Rattle.journal_model.specs.declared.script.Script.{Script}
use Rattle.journal_model.specs.declared.line.OpWord.{OpWord}
use Rattle.journal_model.specs.declared.line.OpWord.TheVariants as op_word
use Rattle.journal_model.specs.scripts.Words.{Text, name_of, hex_byte}
use Rattle.journal_model.specs.scripts.Cut.{onto, cut_by, is_semicolon}
use Rattle.journal_model.specs.scripts.Spelling.{op_words, parted}
use Rattle.journal_model.specs.scripts.Reading.{known, names_of, offset_of, byte_in_hex, is_hex, hex_value}
use Rattle.journal_model.specs.scripts.LineWords.{op_of, is_no_op, op_words_of}
use Rattle.journal_model.specs.scripts.LineRules.{lacks_number_in_op, lacks_name_in_op, lacks_byte_in_op}
use Rattle.journal_model.specs.scripts.FirstFault.{or_zero, or_first, op_in}
use Rattle.law_legal.proofs.law_script.CutLaws.{cut_some}
use Rattle.law_legal.proofs.law_script.WordLaws.{bytes_are}
use Rattle.law_legal.proofs.law_script.HexLaws.{two_digits}
use Rattle.law_legal.proofs.law_script.LineLaws.{offset_word, name_word}
use Rattle.law_legal.proofs.law_items.Tests.{either, differ}

parted_onto : (x : Text) (parts : List (List Text)) → parted (onto x parts) ≡ x ∷ parted parts
parted_onto x [] = refl
parted_onto x (p ∷ []) = refl
parted_onto x (p ∷ q ∷ ps) = refl

parted_after : (parts : List (List Text)) → 0 < length parts → parted ([] ∷ parts) ≡ codes ";" ∷ parted parts
parted_after [] h = absurd (omega (arith, h))
parted_after (p ∷ ps) h = refl

parted_step : (b : Bool) (x : Text) (parts : List (List Text)) → (b ≡ true → x ≡ codes ";") → 0 < length parts → parted (cond b ([] ∷ parts) (onto x parts)) ≡ x ∷ parted parts
parted_step true x parts same some = parted_after parts some ∙ ap (λ y. y ∷ parted parts) (sym (same refl))
parted_step false x parts same some = parted_onto x parts

-- words are their groups joined
pub parted_again : (ws : List Text) → parted (cut_by is_semicolon ws) ≡ ws
parted_again [] = refl
parted_again (x ∷ xs) = parted_step (is_semicolon x) x (cut_by is_semicolon xs) (bytes_are x (codes ";")) (cut_some is_semicolon xs) ∙ ap (λ ys. x ∷ ys) (parted_again xs)

-- an operation that breaks no rule of words
pub record IsGood (x : OpWord) : Type 0 where
  pub shape : is_no_op x ≡ false
  pub numbers : lacks_number_in_op x ≡ false
  pub names : lacks_name_in_op x ≡ false
  pub bytes : lacks_byte_in_op x ≡ false

byte_pair : (c d : ℕ) (a b : Bool) → is_hex c ≡ a → is_hex d ≡ b → let o : Option ℕ = cond (a && b) (Some (hex_value c * 16 + hex_value d)) None in is_none o ≡ false → c ∷ d ∷ [] ≡ hex_byte (or_zero o)
byte_pair c d true true p q h = sym (two_digits c d p q)
byte_pair c d true false p q h = absurd cc
byte_pair c d false b p q h = absurd cc

-- a byte is spelled as it was read
pub byte_word : (w : Text) → is_none (byte_in_hex w) ≡ false → w ≡ hex_byte (or_zero (byte_in_hex w))
byte_word [] h = absurd cc
byte_word (c ∷ []) h = absurd cc
byte_word (c ∷ d ∷ []) h = byte_pair c d (is_hex c) (is_hex d) refl refl h
byte_word (c ∷ d ∷ e ∷ cs) h = absurd cc

probe_is : (script : Script) (t : Bool) (w b off len : Text) → (t ≡ true → w ≡ codes "probe")
    → let x = cond t (op_word.Probe (known (names_of script.buffers) b) (offset_of off) (offset_of len)) op_word.Malformed in IsGood x → w ∷ b ∷ off ∷ len ∷ [] ≡ op_words script (op_in x)
probe_is script true w b off len p g =
    let n = either (is_none (offset_of off)) (is_none (offset_of len)) g.numbers in
    let name = name_of script (or_first (known (names_of script.buffers) b)) in
    ap (λ t. t ∷ b ∷ off ∷ len ∷ []) (p refl) ∙ ap (λ t. codes "probe" ∷ t ∷ off ∷ len ∷ []) (name_word script b g.names)
    ∙ ap (λ t. codes "probe" ∷ name ∷ t ∷ len ∷ []) (offset_word off n.0) ∙ ap (λ t. codes "probe" ∷ name ∷ decimal (or_zero (offset_of off)) ∷ t ∷ []) (offset_word len n.1)
probe_is script false w b off len p g = absurd (differ g.shape)

fill_is : (script : Script) (t : Bool) (w b off len byte : Text) → (t ≡ true → w ≡ codes "fill")
    → let x = cond t (op_word.Fill (known (names_of script.buffers) b) (offset_of off) (offset_of len) (byte_in_hex byte)) op_word.Malformed in IsGood x → w ∷ b ∷ off ∷ len ∷ byte ∷ [] ≡ op_words script (op_in x)
fill_is script true w b off len byte p g =
    let n = either (is_none (offset_of off)) (is_none (offset_of len)) g.numbers in
    let name = name_of script (or_first (known (names_of script.buffers) b)) in
    ap (λ t. t ∷ b ∷ off ∷ len ∷ byte ∷ []) (p refl) ∙ ap (λ t. codes "fill" ∷ t ∷ off ∷ len ∷ byte ∷ []) (name_word script b g.names)
    ∙ ap (λ t. codes "fill" ∷ name ∷ t ∷ len ∷ byte ∷ []) (offset_word off n.0) ∙ ap (λ t. codes "fill" ∷ name ∷ decimal (or_zero (offset_of off)) ∷ t ∷ byte ∷ []) (offset_word len n.1)
    ∙ ap (λ t. codes "fill" ∷ name ∷ decimal (or_zero (offset_of off)) ∷ decimal (or_zero (offset_of len)) ∷ t ∷ []) (byte_word byte g.bytes)
fill_is script false w b off len byte p g = absurd (differ g.shape)

five_words : (script : Script) (word w d doff s soff len : Text) → w ≡ word → is_none (known (names_of script.buffers) d) ≡ false → is_none (known (names_of script.buffers) s) ≡ false
    → is_none (offset_of doff) ≡ false → is_none (offset_of soff) ≡ false → is_none (offset_of len) ≡ false
    → w ∷ d ∷ doff ∷ s ∷ soff ∷ len ∷ [] ≡ word ∷ name_of script (or_first (known (names_of script.buffers) d)) ∷ decimal (or_zero (offset_of doff)) ∷ name_of script (or_first (known (names_of script.buffers) s)) ∷ decimal (or_zero (offset_of soff)) ∷ decimal (or_zero (offset_of len)) ∷ []
five_words script word w d doff s soff len k nd ns a b c =
    let dn = name_of script (or_first (known (names_of script.buffers) d)) in
    let sn = name_of script (or_first (known (names_of script.buffers) s)) in
    let da = decimal (or_zero (offset_of doff)) in
    let sa = decimal (or_zero (offset_of soff)) in
    ap (λ t. t ∷ d ∷ doff ∷ s ∷ soff ∷ len ∷ []) k ∙ ap (λ t. word ∷ t ∷ doff ∷ s ∷ soff ∷ len ∷ []) (name_word script d nd)
    ∙ ap (λ t. word ∷ dn ∷ t ∷ s ∷ soff ∷ len ∷ []) (offset_word doff a) ∙ ap (λ t. word ∷ dn ∷ da ∷ t ∷ soff ∷ len ∷ []) (name_word script s ns)
    ∙ ap (λ t. word ∷ dn ∷ da ∷ sn ∷ t ∷ len ∷ []) (offset_word soff b) ∙ ap (λ t. word ∷ dn ∷ da ∷ sn ∷ sa ∷ t ∷ []) (offset_word len c)

copy_is : (script : Script) (t u : Bool) (w d doff s soff len : Text) → (t ≡ true → w ≡ codes "copy") → (u ≡ true → w ≡ codes "xor")
    → let x = cond t (op_word.Copy (known (names_of script.buffers) d) (offset_of doff) (known (names_of script.buffers) s) (offset_of soff) (offset_of len))
    (cond u (op_word.Xor (known (names_of script.buffers) d) (offset_of doff) (known (names_of script.buffers) s) (offset_of soff) (offset_of len)) op_word.Malformed) in
    IsGood x → w ∷ d ∷ doff ∷ s ∷ soff ∷ len ∷ [] ≡ op_words script (op_in x)
copy_is script true u w d doff s soff len p q g =
    let n = either (is_none (offset_of doff) || is_none (offset_of soff)) (is_none (offset_of len)) g.numbers in
    let m = either (is_none (offset_of doff)) (is_none (offset_of soff)) n.0 in
    let k = either (is_none (known (names_of script.buffers) d)) (is_none (known (names_of script.buffers) s)) g.names in
    five_words script (codes "copy") w d doff s soff len (p refl) k.0 k.1 m.0 m.1 n.1
copy_is script false true w d doff s soff len p q g =
    let n = either (is_none (offset_of doff) || is_none (offset_of soff)) (is_none (offset_of len)) g.numbers in
    let m = either (is_none (offset_of doff)) (is_none (offset_of soff)) n.0 in
    let k = either (is_none (known (names_of script.buffers) d)) (is_none (known (names_of script.buffers) s)) g.names in
    five_words script (codes "xor") w d doff s soff len (q refl) k.0 k.1 m.0 m.1 n.1
copy_is script false false w d doff s soff len p q g = absurd (differ g.shape)

-- an operation that is read is spelled so
pub op_takes : (script : Script) (g : List Text) → IsGood (op_of (names_of script.buffers) g) → g ≡ op_words script (op_in (op_of (names_of script.buffers) g))
op_takes script [] h = absurd (differ h.shape)
op_takes script (w ∷ []) h = absurd (differ h.shape)
op_takes script (w ∷ b ∷ []) h = absurd (differ h.shape)
op_takes script (w ∷ b ∷ off ∷ []) h = absurd (differ h.shape)
op_takes script (w ∷ b ∷ off ∷ len ∷ []) h = probe_is script (bytes_eq w (codes "probe")) w b off len (bytes_are w (codes "probe")) h
op_takes script (w ∷ b ∷ off ∷ len ∷ byte ∷ []) h = fill_is script (bytes_eq w (codes "fill")) w b off len byte (bytes_are w (codes "fill")) h
op_takes script (w ∷ d ∷ doff ∷ s ∷ soff ∷ len ∷ []) h = copy_is script (bytes_eq w (codes "copy")) (bytes_eq w (codes "xor")) w d doff s soff len (bytes_are w (codes "copy")) (bytes_are w (codes "xor")) h
op_takes script (w ∷ d ∷ doff ∷ s ∷ soff ∷ len ∷ x ∷ xs) h = absurd (differ h.shape)

-- operations that break no rule of words
pub record AreGood (xs : List OpWord) : Type 0 where
  pub shape : list_any is_no_op xs ≡ false
  pub numbers : list_any lacks_number_in_op xs ≡ false
  pub names : list_any lacks_name_in_op xs ≡ false
  pub bytes : list_any lacks_byte_in_op xs ≡ false

-- the first of them
pub first_good : (x : OpWord) (xs : List OpWord) → AreGood (x ∷ xs) → IsGood x
first_good x xs g = record {
  shape = (either (is_no_op x) (list_any is_no_op xs) g.shape).0;
  numbers = (either (lacks_number_in_op x) (list_any lacks_number_in_op xs) g.numbers).0;
  names = (either (lacks_name_in_op x) (list_any lacks_name_in_op xs) g.names).0;
  bytes = (either (lacks_byte_in_op x) (list_any lacks_byte_in_op xs) g.bytes).0;
}

-- the others
pub others_good : (x : OpWord) (xs : List OpWord) → AreGood (x ∷ xs) → AreGood xs
others_good x xs g = record {
  shape = (either (is_no_op x) (list_any is_no_op xs) g.shape).1;
  numbers = (either (lacks_number_in_op x) (list_any lacks_number_in_op xs) g.numbers).1;
  names = (either (lacks_name_in_op x) (list_any lacks_name_in_op xs) g.names).1;
  bytes = (either (lacks_byte_in_op x) (list_any lacks_byte_in_op xs) g.bytes).1;
}

groups_take : (script : Script) (gs : List (List Text)) → AreGood (map (op_of (names_of script.buffers)) gs) → parted gs ≡ parted (map (op_words script) (map op_in (map (op_of (names_of script.buffers)) gs)))
groups_take script [] h = refl
groups_take script (g ∷ []) h = op_takes script g (first_good _ _ h)
groups_take script (g ∷ k ∷ gs) h =
    let names = names_of script.buffers in
    ap (λ t. t ++ codes ";" ∷ parted (k ∷ gs)) (op_takes script g (first_good (op_of names g) (map (op_of names) (k ∷ gs)) h))
    ∙ ap (λ t. op_words script (op_in (op_of names g)) ++ codes ";" ∷ t) (groups_take script (k ∷ gs) (others_good (op_of names g) (map (op_of names) (k ∷ gs)) h))

-- the operations of a job are spelled as they were read
pub ops_take : (script : Script) (ws : List Text) → AreGood (op_words_of (names_of script.buffers) ws) → ws ≡ parted (map (op_words script) (map op_in (op_words_of (names_of script.buffers) ws)))
ops_take script ws h = sym (parted_again ws) ∙ groups_take script (cut_by is_semicolon ws) h
