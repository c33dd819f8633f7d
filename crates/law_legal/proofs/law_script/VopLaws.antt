-- The words of a job with addresses are those of its operations, which keep their rules.
use Rattle.std.proofs.Common.{◌≡◌, ℕ, ◌+◌, ◌≤◌, Bool, true, false, cond, eqb, List, [], ◌∷◌, ◌++◌, map, Option, Some, None, refl, sym, ap, ◌∙◌, arith, bytes_eq}
use Rattle.std.specs.Prelude.{◌&&◌, ◌||◌, not, codes, decimal, is_none, sum_by, nat_le, nat_lt}
use Rattle.std.specs.List.{list_any, list_all}
use Rattle.std.proofs.lemmas.Bool.Decides.{nat_tests}
use Rattle.std.proofs.lemmas.List.Sums.{sum_by-cons}
use Rattle.journal_model.specs.declared.line.VOpWord.{VOpWord}
use Rattle.journal_model.specs.declared.line.VOpWord.TheVariants as vop_word
use Rattle.journal_model.specs.scripts.Words.{Text, hex_byte}
use Rattle.journal_model.specs.scripts.Cut.{cut_by, is_semicolon}
use Rattle.journal_model.specs.scripts.Spelling.{vop_words, parted}
use Rattle.journal_model.specs.marks.ByName.{vop_len}
use Rattle.journal_model.specs.scripts.CommandRules.{is_between, is_byte}
use Rattle.journal_model.specs.scripts.MarkRules.{ThreadMappings, is_addressed, is_vop, has_apart_ranges}
use Rattle.journal_model.specs.scripts.Reading.{offset_of, address_of, byte_in_hex}
use Rattle.journal_model.specs.scripts.LineWords.{vop_of, is_no_vop, vop_words_of}
use Rattle.journal_model.specs.scripts.LineRules.{lacks_number_in_vop, lacks_byte_in_vop, has_wrong_addresses, passes_end, passes_in_vop, is_more_than, vop_in, has_buffer_twice, len_of_vop_word}
use Rattle.journal_model.specs.scripts.FirstFault.{or_zero}
use Rattle.law_legal.proofs.law_script.NumberLaws.{is_in}
use Rattle.law_legal.proofs.law_script.WordLaws.{bytes_are}
use Rattle.law_legal.proofs.law_script.LineLaws.{offset_word, number_word}
use Rattle.law_legal.proofs.law_script.SubmitLaws.{parted_again, byte_word}
use Rattle.law_legal.proofs.law_script.CommandFits.{number_small, not_more, byte_small}
use Rattle.law_legal.proofs.law_items.Tests.{either, joint, differ, three, is_le}

-- an address is spelled as it was read
pub address_word : (w : Text) → is_none (address_of w) ≡ false → w ≡ decimal (or_zero (address_of w))
address_word w h = number_word 0 4294967295 w (omega arith) h

-- an operation that breaks no rule of words
pub record IsGoodVop (x : VOpWord) : Type 0 where
  pub shape : is_no_vop x ≡ false
  pub numbers : lacks_number_in_vop x ≡ false
  pub bytes : lacks_byte_in_vop x ≡ false

probe_is : (t : Bool) (w addr len : Text) → (t ≡ true → w ≡ codes "probe")
    → let x = cond t (vop_word.Probe (address_of addr) (offset_of len)) vop_word.Malformed in IsGoodVop x → w ∷ addr ∷ len ∷ [] ≡ vop_words (vop_in x)
probe_is true w addr len p g =
    let n = either (is_none (address_of addr)) (is_none (offset_of len)) g.numbers in
    ap (λ t. t ∷ addr ∷ len ∷ []) (p refl) ∙ ap (λ t. codes "probe" ∷ t ∷ len ∷ []) (address_word addr n.0)
    ∙ ap (λ t. codes "probe" ∷ decimal (or_zero (address_of addr)) ∷ t ∷ []) (offset_word len n.1)
probe_is false w addr len p g = absurd (differ g.shape)

fill_words : (w addr len byte : Text) → w ≡ codes "fill" → is_none (address_of addr) ≡ false → is_none (offset_of len) ≡ false → is_none (byte_in_hex byte) ≡ false
    → w ∷ addr ∷ len ∷ byte ∷ [] ≡ codes "fill" ∷ decimal (or_zero (address_of addr)) ∷ decimal (or_zero (offset_of len)) ∷ hex_byte (or_zero (byte_in_hex byte)) ∷ []
fill_words w addr len byte k a b c =
    ap (λ t. t ∷ addr ∷ len ∷ byte ∷ []) k ∙ ap (λ t. codes "fill" ∷ t ∷ len ∷ byte ∷ []) (address_word addr a)
    ∙ ap (λ t. codes "fill" ∷ decimal (or_zero (address_of addr)) ∷ t ∷ byte ∷ []) (offset_word len b)
    ∙ ap (λ t. codes "fill" ∷ decimal (or_zero (address_of addr)) ∷ decimal (or_zero (offset_of len)) ∷ t ∷ []) (byte_word byte c)

two_words : (word w addr from len : Text) → w ≡ word → (is_none (address_of addr) || is_none (address_of from) || is_none (offset_of len)) ≡ false
    → w ∷ addr ∷ from ∷ len ∷ [] ≡ word ∷ decimal (or_zero (address_of addr)) ∷ decimal (or_zero (address_of from)) ∷ decimal (or_zero (offset_of len)) ∷ []
two_words word w addr from len k numbers =
    let n = either (is_none (address_of addr) || is_none (address_of from)) (is_none (offset_of len)) numbers in
    let m = either (is_none (address_of addr)) (is_none (address_of from)) n.0 in
    ap (λ t. t ∷ addr ∷ from ∷ len ∷ []) k ∙ ap (λ t. word ∷ t ∷ from ∷ len ∷ []) (address_word addr m.0)
    ∙ ap (λ t. word ∷ decimal (or_zero (address_of addr)) ∷ t ∷ len ∷ []) (address_word from m.1)
    ∙ ap (λ t. word ∷ decimal (or_zero (address_of addr)) ∷ decimal (or_zero (address_of from)) ∷ t ∷ []) (offset_word len n.1)

four_is : (f c r : Bool) (w addr x y : Text) → (f ≡ true → w ≡ codes "fill") → (c ≡ true → w ≡ codes "copy") → (r ≡ true → w ≡ codes "xor")
    → let v = cond f (vop_word.Fill (address_of addr) (offset_of x) (byte_in_hex y)) (cond c (vop_word.Copy (address_of addr) (address_of x) (offset_of y)) (cond r (vop_word.Xor (address_of addr) (address_of x) (offset_of y)) vop_word.Malformed)) in
    IsGoodVop v → w ∷ addr ∷ x ∷ y ∷ [] ≡ vop_words (vop_in v)
four_is true c r w addr x y p q s g = let n = either (is_none (address_of addr)) (is_none (offset_of x)) g.numbers in fill_words w addr x y (p refl) n.0 n.1 g.bytes
four_is false true r w addr x y p q s g = two_words (codes "copy") w addr x y (q refl) g.numbers
four_is false false true w addr x y p q s g = two_words (codes "xor") w addr x y (s refl) g.numbers
four_is false false false w addr x y p q s g = absurd (differ g.shape)

vop_takes : (g : List Text) → IsGoodVop (vop_of g) → g ≡ vop_words (vop_in (vop_of g))
vop_takes [] h = absurd (differ h.shape)
vop_takes (w ∷ []) h = absurd (differ h.shape)
vop_takes (w ∷ addr ∷ []) h = absurd (differ h.shape)
vop_takes (w ∷ addr ∷ len ∷ []) h = probe_is (bytes_eq w (codes "probe")) w addr len (bytes_are w (codes "probe")) h
vop_takes (w ∷ addr ∷ x ∷ y ∷ []) h =
    four_is (bytes_eq w (codes "fill")) (bytes_eq w (codes "copy")) (bytes_eq w (codes "xor")) w addr x y (bytes_are w (codes "fill")) (bytes_are w (codes "copy")) (bytes_are w (codes "xor")) h
vop_takes (w ∷ addr ∷ x ∷ y ∷ z ∷ zs) h = absurd (differ h.shape)

-- operations that break no rule of words
pub record AreGoodVops (xs : List VOpWord) : Type 0 where
  pub shape : list_any is_no_vop xs ≡ false
  pub numbers : list_any lacks_number_in_vop xs ≡ false
  pub bytes : list_any lacks_byte_in_vop xs ≡ false

first_good : (x : VOpWord) (xs : List VOpWord) → AreGoodVops (x ∷ xs) → IsGoodVop x
first_good x xs g = record {
  shape = (either (is_no_vop x) (list_any is_no_vop xs) g.shape).0;
  numbers = (either (lacks_number_in_vop x) (list_any lacks_number_in_vop xs) g.numbers).0;
  bytes = (either (lacks_byte_in_vop x) (list_any lacks_byte_in_vop xs) g.bytes).0;
}

others_good : (x : VOpWord) (xs : List VOpWord) → AreGoodVops (x ∷ xs) → AreGoodVops xs
others_good x xs g = record {
  shape = (either (is_no_vop x) (list_any is_no_vop xs) g.shape).1;
  numbers = (either (lacks_number_in_vop x) (list_any lacks_number_in_vop xs) g.numbers).1;
  bytes = (either (lacks_byte_in_vop x) (list_any lacks_byte_in_vop xs) g.bytes).1;
}

groups_take : (gs : List (List Text)) → AreGoodVops (map vop_of gs) → parted gs ≡ parted (map vop_words (map vop_in (map vop_of gs)))
groups_take [] h = refl
groups_take (g ∷ []) h = vop_takes g (first_good _ _ h)
groups_take (g ∷ k ∷ gs) h =
    ap (λ t. t ++ codes ";" ∷ parted (k ∷ gs)) (vop_takes g (first_good (vop_of g) (map vop_of (k ∷ gs)) h))
    ∙ ap (λ t. vop_words (vop_in (vop_of g)) ++ codes ";" ∷ t) (groups_take (k ∷ gs) (others_good (vop_of g) (map vop_of (k ∷ gs)) h))

-- the operations of a job are spelled as they were read
pub vops_take : (ws : List Text) → AreGoodVops (vop_words_of ws) → ws ≡ parted (map vop_words (map vop_in (vop_words_of ws)))
vops_take ws h = sym (parted_again ws) ∙ groups_take (cut_by is_semicolon ws) h

-- ---- rules

-- the parts of an operation are in their ranges
abbrev InRange : VOpWord → Type 0
InRange (vop_word.Fill addr len byte) = (or_zero addr ≤ 4294967295) × (or_zero len ≤ 16777216) × (is_byte (or_zero byte) ≡ true)
InRange (vop_word.Copy addr from len) = (or_zero addr ≤ 4294967295) × (or_zero from ≤ 4294967295) × (or_zero len ≤ 16777216)
InRange (vop_word.Xor addr from len) = (or_zero addr ≤ 4294967295) × (or_zero from ≤ 4294967295) × (or_zero len ≤ 16777216)
InRange (vop_word.Probe addr len) = (or_zero addr ≤ 4294967295) × (or_zero len ≤ 16777216)
InRange vop_word.Malformed = Unit {0}

choose : (P : VOpWord → Type 0) (b : Bool) (x y : VOpWord) → P x → P y → P (cond b x y)
choose P true x y p q = p
choose P false x y p q = q

address_small : (w : Text) → or_zero (address_of w) ≤ 4294967295
address_small w = number_small 0 4294967295 w

offset_small : (w : Text) → or_zero (offset_of w) ≤ 16777216
offset_small w = number_small 0 16777216 w

vop_in_range : (g : List Text) → InRange (vop_of g)
vop_in_range [] = tt
vop_in_range (w ∷ []) = tt
vop_in_range (w ∷ addr ∷ []) = tt
vop_in_range (w ∷ addr ∷ len ∷ []) = choose InRange (bytes_eq w (codes "probe")) _ vop_word.Malformed (address_small addr, offset_small len) tt
vop_in_range (w ∷ addr ∷ x ∷ y ∷ []) =
    choose InRange (bytes_eq w (codes "fill")) _ _ (address_small addr, offset_small x, byte_small y)
    (choose InRange (bytes_eq w (codes "copy")) _ _ (address_small addr, address_small x, offset_small y)
    (choose InRange (bytes_eq w (codes "xor")) _ vop_word.Malformed (address_small addr, address_small x, offset_small y) tt))
vop_in_range (w ∷ addr ∷ x ∷ y ∷ z ∷ zs) = tt

some_len : (n : ℕ) → eqb n 0 ≡ false → 1 ≤ n
some_len n h = grind (arith, nat_tests, h)

not_lt : (n m : ℕ) → nat_lt n m ≡ false → nat_le m n ≡ true
not_lt n m h = grind (arith, nat_tests, h)

range_fits : (addr len : Option ℕ) → is_none addr ≡ false → is_none len ≡ false → has_wrong_addresses addr len ≡ false → or_zero addr ≤ 4294967295 → or_zero len ≤ 16777216 → is_addressed (or_zero addr) (or_zero len) ≡ true
range_fits None len p q w a b = absurd cc
range_fits (Some addr) None p q w a b = absurd cc
range_fits (Some addr) (Some len) p q w a b =
    let f = either (eqb len 0) (passes_end 4294967296 (Some addr) (Some len)) w in
    three (nat_le addr 4294967295) (is_between 1 16777216 len) (nat_le (addr + len) 4294967296) (is_le addr 4294967295 a) (is_in 1 16777216 len (some_len len f.0) b) (not_lt 4294967296 (addr + len) f.1)

ranges_fit : (addr from len : Option ℕ) → (is_none addr || is_none from || is_none len) ≡ false → (has_wrong_addresses addr len || has_wrong_addresses from len) ≡ false
    → (or_zero addr ≤ 4294967295) × (or_zero from ≤ 4294967295) × (or_zero len ≤ 16777216) → (is_addressed (or_zero addr) (or_zero len) && is_addressed (or_zero from) (or_zero len)) ≡ true
ranges_fit addr from len numbers p r =
    let n = either (is_none addr || is_none from) (is_none len) numbers in
    let m = either (is_none addr) (is_none from) n.0 in
    let q = either (has_wrong_addresses addr len) (has_wrong_addresses from len) p in
    joint (is_addressed (or_zero addr) (or_zero len)) (is_addressed (or_zero from) (or_zero len)) (range_fits addr len m.0 n.1 q.0 r.0 r.2) (range_fits from len m.1 n.1 q.1 r.1 r.2)

vop_fits : (x : VOpWord) → InRange x → IsGoodVop x → passes_in_vop x ≡ false → is_vop (vop_in x) ≡ true
vop_fits (vop_word.Fill addr len byte) r g p =
    let n = either (is_none addr) (is_none len) g.numbers in
    joint (is_addressed (or_zero addr) (or_zero len)) (is_byte (or_zero byte)) (range_fits addr len n.0 n.1 p r.0 r.1) r.2
vop_fits (vop_word.Copy addr from len) r g p = ranges_fit addr from len g.numbers p r
vop_fits (vop_word.Xor addr from len) r g p = ranges_fit addr from len g.numbers p r
vop_fits (vop_word.Probe addr len) r g p =
    let n = either (is_none addr) (is_none len) g.numbers in
    let q = either (has_wrong_addresses addr len) (is_more_than 256 len) p in
    joint (is_addressed (or_zero addr) (or_zero len)) (nat_le (or_zero len) 256) (range_fits addr len n.0 n.1 q.0 r.0 r.1) (not_more 256 len n.1 q.1)
vop_fits vop_word.Malformed r g p = absurd (differ g.shape)

-- the operations of a job with addresses keep their rules
pub vops_fit : (gs : List (List Text)) → let xs = map vop_of gs in AreGoodVops xs → list_any passes_in_vop xs ≡ false → list_all is_vop (map vop_in xs) ≡ true
vops_fit [] h p = refl
vops_fit (g ∷ gs) h p =
    let x = vop_of g in
    let xs = map vop_of gs in
    let a = either (passes_in_vop x) (list_any passes_in_vop xs) p in
    joint (is_vop (vop_in x)) (list_all is_vop (map vop_in xs)) (vop_fits x (vop_in_range g) (first_good x xs h) a.0) (vops_fit gs (others_good x xs h) a.1)

-- a test that does not fail
not_false : (b : Bool) → not b ≡ false → b ≡ true
not_false true h = refl
not_false false h = absurd cc

-- no buffer stands in both ranges
pub vops_apart : (d : ThreadMappings) (xs : List VOpWord) → list_any (has_buffer_twice d) xs ≡ false → list_all (has_apart_ranges d.regions) (map vop_in xs) ≡ true
vops_apart d [] h = refl
vops_apart d (x ∷ xs) h =
    let f = either (has_buffer_twice d x) (list_any (has_buffer_twice d) xs) h in
    joint (has_apart_ranges d.regions (vop_in x)) (list_all (has_apart_ranges d.regions) (map vop_in xs)) (not_false (has_apart_ranges d.regions (vop_in x)) f.0) (vops_apart d xs f.1)

vlen_is : (x : VOpWord) → len_of_vop_word x ≡ vop_len (vop_in x)
vlen_is (vop_word.Fill addr len byte) = refl
vlen_is (vop_word.Copy addr from len) = refl
vlen_is (vop_word.Xor addr from len) = refl
vlen_is (vop_word.Probe addr len) = refl
vlen_is vop_word.Malformed = refl

-- a job with addresses is as long as its words say
pub vlens_are : (xs : List VOpWord) → sum_by len_of_vop_word xs ≡ sum_by vop_len (map vop_in xs)
vlens_are [] = refl
vlens_are (x ∷ xs) = sum_by-cons len_of_vop_word x xs ∙ ap (λ n. n + sum_by len_of_vop_word xs) (vlen_is x) ∙ ap (λ n. vop_len (vop_in x) + n) (vlens_are xs) ∙ sym (sum_by-cons vop_len (vop_in x) (map vop_in xs))
