-- The operations of a job with addresses that were written are read.
use Rattle.std.proofs.Common.{◌≡◌, ℕ, ◌+◌, ◌<◌, ◌≤◌, Bool, true, false, eqb, List, [], ◌∷◌, length, map, Some, refl, sym, ap, ◌∙◌, arith}
use Rattle.std.specs.Prelude.{◌||◌, not, codes, decimal, sum_by, nat_le, nat_lt}
use Rattle.std.specs.List.{list_any, list_all}
use Rattle.std.proofs.lemmas.Bool.Decides.{nat_tests}
use Rattle.std.proofs.lemmas.List.Sums.{sum_by-cons}
use Rattle.journal_model.specs.declared.line.VOpWord.{VOpWord}
use Rattle.journal_model.specs.declared.line.VOpWord.TheVariants as vop_word
use Rattle.journal_model.specs.declared.space.VOp.{VOp}
use Rattle.journal_model.specs.declared.space.VOp.TheVariants as vop
use Rattle.journal_model.specs.scripts.Words.{Text, hex_byte}
use Rattle.journal_model.specs.scripts.Spelling.{vop_words, parted}
use Rattle.journal_model.specs.marks.ByName.{vop_len}
use Rattle.journal_model.specs.scripts.CommandRules.{is_between, is_byte}
use Rattle.journal_model.specs.scripts.MarkRules.{ThreadMappings, is_addressed, is_vop, has_apart_ranges}
use Rattle.journal_model.specs.scripts.Reading.{offset_of, address_of, byte_in_hex}
use Rattle.journal_model.specs.scripts.LineWords.{vop_of, vop_words_of}
use Rattle.journal_model.specs.scripts.LineRules.{has_wrong_addresses, passes_in_vop, vop_in, has_buffer_twice, len_of_vop_word}
use Rattle.law_legal.proofs.law_script.NumberLaws.{number_again, between}
use Rattle.law_legal.proofs.law_script.AgainLaws.{offset_again}
use Rattle.law_legal.proofs.law_script.OpsAgain.{byte_again, parted_cut, parted_words}
use Rattle.law_legal.proofs.law_script.Solid.{is_word, is_small, number_small_word, byte_small_word}
use Rattle.law_legal.proofs.law_items.Tests.{neither, both, joint, three_facts, le_is, at_most}

-- an address is read
pub address_again : (n : ℕ) → n ≤ 4294967295 → address_of (decimal n) ≡ Some n
address_again n h = number_again 0 4294967295 n (omega arith) (omega arith) h

-- an address is of digits
pub address_small : (n : ℕ) → n ≤ 4294967295 → is_small (decimal n) ≡ true
address_small n h = number_small_word n (omega (arith, h))

-- ---- ranges

-- a range of the space that may be written
record IsRange (addr len : ℕ) : Type 0 where
  addr_small : addr ≤ 4294967295
  some : 1 ≤ len
  len_small : len ≤ 16777216
  inside : has_wrong_addresses (Some addr) (Some len) ≡ false

right : (addr len : ℕ) → 1 ≤ len → nat_le (addr + len) 4294967296 ≡ true → has_wrong_addresses (Some addr) (Some len) ≡ false
right addr len s h =
    let a : eqb len 0 ≡ false = grind (arith, nat_tests) in
    let b : nat_lt 4294967296 (addr + len) ≡ false = grind (arith, nat_tests, h) in
    neither (eqb len 0) (nat_lt 4294967296 (addr + len)) a b

range_is : (addr len : ℕ) → is_addressed addr len ≡ true → IsRange addr len
range_is addr len h =
    let f = three_facts (nat_le addr 4294967295) (is_between 1 16777216 len) (nat_le (addr + len) 4294967296) h in
    let g = between 1 16777216 len f.1 in
    record { addr_small = le_is addr 4294967295 f.0; some = g.0; len_small = g.1; inside = right addr len g.0 f.2 }

-- ---- operations

-- an operation, each of its parts there
abbrev pub whole_vop : VOp → VOpWord
whole_vop (vop.Fill addr len byte) = vop_word.Fill (Some addr) (Some len) (Some byte)
whole_vop (vop.Copy addr from len) = vop_word.Copy (Some addr) (Some from) (Some len)
whole_vop (vop.Xor addr from len) = vop_word.Xor (Some addr) (Some from) (Some len)
whole_vop (vop.Probe addr len) = vop_word.Probe (Some addr) (Some len)

vop_again : (v : VOp) → is_vop v ≡ true → vop_of (vop_words v) ≡ whole_vop v
vop_again (vop.Fill addr len byte) k =
    let f = both (is_addressed addr len) (is_byte byte) k in
    let r = range_is addr len f.0 in
    ap (λ x. vop_word.Fill x (offset_of (decimal len)) (byte_in_hex (hex_byte byte))) (address_again addr r.addr_small)
    ∙ ap (λ x. vop_word.Fill (Some addr) x (byte_in_hex (hex_byte byte))) (offset_again len r.len_small)
    ∙ ap (λ x. vop_word.Fill (Some addr) (Some len) x) (byte_again byte f.1)
vop_again (vop.Copy addr from len) k =
    let f = both (is_addressed addr len) (is_addressed from len) k in
    let r = range_is addr len f.0 in
    let q = range_is from len f.1 in
    ap (λ x. vop_word.Copy x (address_of (decimal from)) (offset_of (decimal len))) (address_again addr r.addr_small)
    ∙ ap (λ x. vop_word.Copy (Some addr) x (offset_of (decimal len))) (address_again from q.addr_small)
    ∙ ap (λ x. vop_word.Copy (Some addr) (Some from) x) (offset_again len r.len_small)
vop_again (vop.Xor addr from len) k =
    let f = both (is_addressed addr len) (is_addressed from len) k in
    let r = range_is addr len f.0 in
    let q = range_is from len f.1 in
    ap (λ x. vop_word.Xor x (address_of (decimal from)) (offset_of (decimal len))) (address_again addr r.addr_small)
    ∙ ap (λ x. vop_word.Xor (Some addr) x (offset_of (decimal len))) (address_again from q.addr_small)
    ∙ ap (λ x. vop_word.Xor (Some addr) (Some from) x) (offset_again len r.len_small)
vop_again (vop.Probe addr len) k =
    let f = both (is_addressed addr len) (nat_le len 256) k in
    let r = range_is addr len f.0 in
    ap (λ x. vop_word.Probe x (offset_of (decimal len))) (address_again addr r.addr_small)
    ∙ ap (λ x. vop_word.Probe (Some addr) x) (offset_again len r.len_small)

number_small : (n : ℕ) → n ≤ 16777216 → is_small (decimal n) ≡ true
number_small n h = number_small_word n (omega (arith, h))

three_small : (word a b c : Text) → is_small word ≡ true → is_small a ≡ true → is_small b ≡ true → is_small c ≡ true → list_all is_small (word ∷ a ∷ b ∷ c ∷ []) ≡ true
three_small word a b c w p q r = joint (is_small word) _ w (joint (is_small a) _ p (joint (is_small b) _ q (joint (is_small c) true r refl)))

vop_small : (v : VOp) → is_vop v ≡ true → list_all is_small (vop_words v) ≡ true
vop_small (vop.Fill addr len byte) k =
    let f = both (is_addressed addr len) (is_byte byte) k in
    let r = range_is addr len f.0 in
    three_small (codes "fill") (decimal addr) (decimal len) (hex_byte byte) refl (address_small addr r.addr_small) (number_small len r.len_small) (byte_small_word byte f.1)
vop_small (vop.Copy addr from len) k =
    let f = both (is_addressed addr len) (is_addressed from len) k in
    let r = range_is addr len f.0 in
    let q = range_is from len f.1 in
    three_small (codes "copy") (decimal addr) (decimal from) (decimal len) refl (address_small addr r.addr_small) (address_small from q.addr_small) (number_small len r.len_small)
vop_small (vop.Xor addr from len) k =
    let f = both (is_addressed addr len) (is_addressed from len) k in
    let r = range_is addr len f.0 in
    let q = range_is from len f.1 in
    three_small (codes "xor") (decimal addr) (decimal from) (decimal len) refl (address_small addr r.addr_small) (address_small from q.addr_small) (number_small len r.len_small)
vop_small (vop.Probe addr len) k =
    let f = both (is_addressed addr len) (nat_le len 256) k in
    let r = range_is addr len f.0 in
    joint (is_small (codes "probe")) _ refl (joint (is_small (decimal addr)) _ (address_small addr r.addr_small) (joint (is_small (decimal len)) true (number_small len r.len_small) refl))

-- ---- jobs

groups_small : (vs : List VOp) → list_all is_vop vs ≡ true → list_all (list_all is_small) (map vop_words vs) ≡ true
groups_small [] k = refl
groups_small (v ∷ vs) k =
    let f = both (is_vop v) (list_all is_vop vs) k in
    joint (list_all is_small (vop_words v)) (list_all (list_all is_small) (map vop_words vs)) (vop_small v f.0) (groups_small vs f.1)

each_again : (vs : List VOp) → list_all is_vop vs ≡ true → map vop_of (map vop_words vs) ≡ map whole_vop vs
each_again [] k = refl
each_again (v ∷ vs) k =
    let f = both (is_vop v) (list_all is_vop vs) k in
    ap (λ x. x ∷ map vop_of (map vop_words vs)) (vop_again v f.0) ∙ ap (λ xs. whole_vop v ∷ xs) (each_again vs f.1)

-- the operations of a job with addresses are words
pub vops_words : (vs : List VOp) → list_all is_vop vs ≡ true → list_all is_word (parted (map vop_words vs)) ≡ true
vops_words vs k = parted_words (map vop_words vs) (groups_small vs k)

-- the operations of a job with addresses are read
pub vops_again : (vs : List VOp) → 0 < length vs → list_all is_vop vs ≡ true → vop_words_of (parted (map vop_words vs)) ≡ map whole_vop vs
vops_again [] some k = absurd (omega (arith, some))
vops_again (v ∷ vs) some k = ap (map vop_of) (parted_cut (vop_words v) (map vop_words vs) (groups_small (v ∷ vs) k)) ∙ each_again (v ∷ vs) k

-- ---- what whole operations keep

-- no whole operation fails a test that each passes
pub no_vop_of : (P : VOpWord → Bool) → ((v : VOp) → P (whole_vop v) ≡ false) → (vs : List VOp) → list_any P (map whole_vop vs) ≡ false
no_vop_of P h [] = refl
no_vop_of P h (v ∷ vs) = ap (λ b. b || list_any P (map whole_vop vs)) (h v) ∙ no_vop_of P h vs

vop_inside : (v : VOp) → is_vop v ≡ true → passes_in_vop (whole_vop v) ≡ false
vop_inside (vop.Fill addr len byte) k = (range_is addr len (both (is_addressed addr len) (is_byte byte) k).0).inside
vop_inside (vop.Copy addr from len) k =
    let f = both (is_addressed addr len) (is_addressed from len) k in
    neither (has_wrong_addresses (Some addr) (Some len)) (has_wrong_addresses (Some from) (Some len)) (range_is addr len f.0).inside (range_is from len f.1).inside
vop_inside (vop.Xor addr from len) k =
    let f = both (is_addressed addr len) (is_addressed from len) k in
    neither (has_wrong_addresses (Some addr) (Some len)) (has_wrong_addresses (Some from) (Some len)) (range_is addr len f.0).inside (range_is from len f.1).inside
vop_inside (vop.Probe addr len) k =
    let f = both (is_addressed addr len) (nat_le len 256) k in
    neither (has_wrong_addresses (Some addr) (Some len)) (nat_lt 256 len) (range_is addr len f.0).inside (at_most len f.1)

-- operations stay inside the space
pub vops_inside : (vs : List VOp) → list_all is_vop vs ≡ true → list_any passes_in_vop (map whole_vop vs) ≡ false
vops_inside [] k = refl
vops_inside (v ∷ vs) k =
    let f = both (is_vop v) (list_all is_vop vs) k in
    ap (λ b. b || list_any passes_in_vop (map whole_vop vs)) (vop_inside v f.0) ∙ vops_inside vs f.1

in_vop : (v : VOp) → vop_in (whole_vop v) ≡ v
in_vop (vop.Fill addr len byte) = refl
in_vop (vop.Copy addr from len) = refl
in_vop (vop.Xor addr from len) = refl
in_vop (vop.Probe addr len) = refl

-- whole operations say theirs
pub vops_said : (vs : List VOp) → map vop_in (map whole_vop vs) ≡ vs
vops_said [] = refl
vops_said (v ∷ vs) = ap (λ x. x ∷ map vop_in (map whole_vop vs)) (in_vop v) ∙ ap (λ xs. v ∷ xs) (vops_said vs)

-- no buffer stands in both ranges
pub vops_differ : (d : ThreadMappings) (vs : List VOp) → list_all (has_apart_ranges d.regions) vs ≡ true → list_any (has_buffer_twice d) (map whole_vop vs) ≡ false
vops_differ d [] k = refl
vops_differ d (v ∷ vs) k =
    let f = both (has_apart_ranges d.regions v) (list_all (has_apart_ranges d.regions) vs) k in
    let here : has_buffer_twice d (whole_vop v) ≡ false = ap (λ x. not (has_apart_ranges d.regions x)) (in_vop v) ∙ ap not f.0 in
    ap (λ b. b || list_any (has_buffer_twice d) (map whole_vop vs)) here ∙ vops_differ d vs f.1

vlen_of : (v : VOp) → len_of_vop_word (whole_vop v) ≡ vop_len v
vlen_of (vop.Fill addr len byte) = refl
vlen_of (vop.Copy addr from len) = refl
vlen_of (vop.Xor addr from len) = refl
vlen_of (vop.Probe addr len) = refl

-- whole operations are as long as theirs
pub vlens_again : (vs : List VOp) → sum_by len_of_vop_word (map whole_vop vs) ≡ sum_by vop_len vs
vlens_again [] = refl
vlens_again (v ∷ vs) =
    sum_by-cons len_of_vop_word (whole_vop v) (map whole_vop vs) ∙ ap (λ n. n + sum_by len_of_vop_word (map whole_vop vs)) (vlen_of v) ∙ ap (λ n. vop_len v + n) (vlens_again vs) ∙ sym (sum_by-cons vop_len v vs)
