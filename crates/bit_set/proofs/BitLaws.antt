-- Bits in words.
use Rattle.std.proofs.Common.{◌≡◌, ℕ, ◌+◌, ◌*◌, ◌/◌, ◌%◌, ◌-◌, ◌^◌, ◌<◌, ◌≤◌, ◌≢◌, ◌==◌, Bool, true, false, not, cond, List, length, get_or, set, take, drop, replicate, ◌++◌, bit_and, bit_or, refl, ap, sym, subst, ◌∙◌, arith, inl, inr, w64}
use Rattle.std.specs.Int.{bit_at, div_ceil}
use Rattle.std.proofs.Math.ListN.{get_or-eq_default}
use Rattle.std.proofs.Math.Nat.{div-le_self}
use Rattle.std.proofs.lemmas.Bool.{cases_eq, cases_lt, eq-eqb, ne_eqb, eqb-false, eqb-true, not-true}
use Rattle.std.proofs.lemmas.Grind.{common_steps}
use Rattle.std.proofs.lemmas.List.{get_or_default, get_or-set_same, get_or-set_other, same_lists, length-set, length-replicate, get_or-replicate}
use Rattle.std.proofs.lemmas.List.FromFn.{length-map-range_with_len, get_or-map-range_with_len, fill_by_all}
use Rattle.std.proofs.lemmas.Nat.{and_le_l}
use Rattle.std.proofs.lemmas.Nat.Bits.{bit_at-zero, bit_at-lt, bit_at_above, bit_at_and, bit_at_not, bit_at_ones, bit_at_ones_above, bit_at_mask_inside, bit_at_mask_below, bit_at_set_same, bit_at_set_other, bit_at_clear_same, bit_at_clear_other, ones_shl, ones_shr, shr_and_one}
use Rattle.bit_set.specs.Marks.{has, IsFirstFrom, IsLastTo}
use Rattle.bit_set.specs.Words.{has_bit, marks_of, level_start, IsBase, IsBitTree, IsFirstBit, IsKept, IsLastBit, IsPart, IsPut}

-- ---- one bit

pub no_bit : (bits t : ℕ) → bits ≡ 0 → bit_at bits t ≡ 1 → ⊥
no_bit bits t e h = let z : bit_at bits t ≡ 0 = ap (λ n. bit_at n t) e ∙ bit_at-zero t in omega (arith, z, h)

pub clear_bit : (n t : ℕ) → bit_at n t ≡ 0 → bit_at n t ≡ 1 → ⊥
clear_bit n t e h = omega (arith, e, h)

pub some_word : (n t : ℕ) → bit_at n t ≡ 1 → 0 < n
some_word n t h = elim (cases_lt 0 n) [ inl lt ↦ lt | inr le ↦ absurd (no_bit n t (omega arith) h) ]

pub below_width : (n t : ℕ) → n < 2 ^ 64 → bit_at n t ≡ 1 → t < 64
below_width n t lt h = elim (cases_lt t 64) [ inl l ↦ l | inr ge ↦ absurd (clear_bit n t (bit_at_above n 64 t lt ge) h) ]

-- the bit of a place
pub bit_from : (ws : List ℕ) (p w b k : ℕ) → p / 64 ≡ w → p % 64 ≡ k → bit_at (get_or ws w 0) k ≡ b → has_bit ws p ≡ (b == 1)
unfolding has_bit
bit_from ws p w b k e f h = ap (λ v. bit_at (get_or ws v 0) (p % 64) == 1) e ∙ ap (λ v. bit_at (get_or ws w 0) v == 1) f ∙ ap (λ v. v == 1) h

pub set_from : (ws : List ℕ) (p w k : ℕ) → p / 64 ≡ w → p % 64 ≡ k → bit_at (get_or ws w 0) k ≡ 1 → has_bit ws p ≡ true
set_from ws p w k e f h = bit_from ws p w 1 k e f h

pub one_of : (ws : List ℕ) (p : ℕ) → has_bit ws p ≡ true → bit_at (get_or ws (p / 64) 0) (p % 64) ≡ 1
unfolding has_bit
one_of ws p h = eqb-true (bit_at (get_or ws (p / 64) 0) (p % 64)) 1 h

pub same_word : (vs ws : List ℕ) (p : ℕ) → get_or vs (p / 64) 0 ≡ get_or ws (p / 64) 0 → has_bit vs p ≡ has_bit ws p
unfolding has_bit
same_word vs ws p e = ap (λ v. bit_at v (p % 64) == 1) e

pub zero_word : (ws : List ℕ) (p : ℕ) → get_or ws (p / 64) 0 ≡ 0 → has_bit ws p ≡ false
zero_word ws p e = bit_from ws p (p / 64) 0 (p % 64) refl refl (ap (λ v. bit_at v (p % 64)) e ∙ bit_at-zero (p % 64))

pub within_words : (ws : List ℕ) (p : ℕ) → has_bit ws p ≡ true → p / 64 < length ws
within_words ws p h =
    elim (cases_lt (p / 64) (length ws)) [
      | inl lt ↦ lt
      | inr le ↦ absurd (no_bit (get_or ws (p / 64) 0) (p % 64) (get_or-eq_default ws 0 {n = p / 64} le) (one_of ws p h))
    ]

pub told_some : (n : ℕ) → 0 < n → not (n == 0) ≡ true
told_some n h = ap not (ne_eqb n 0 (λ e. omega arith))

pub told_none : (n : ℕ) → n ≡ 0 → not (n == 0) ≡ false
told_none n h = ap not (eq-eqb n 0 h)

pub some_told : (n : ℕ) → not (n == 0) ≡ true → 0 < n
some_told n h = let ne = eqb-false n 0 (not-true (n == 0) h) in elim (cases_lt 0 n) [ inl lt ↦ lt | inr le ↦ absurd (ne (omega arith)) ]

-- a word tells that it has a bit once one was set in it, and if one is left
pub set_some : (word bit : ℕ) → bit < 64 → not (bit_or word (1 * 2 ^ bit % 18446744073709551616) == 0) ≡ true
set_some word bit h =
    let v = bit_or word (1 * 2 ^ bit % 18446744073709551616) in
    told_some v (some_word v bit (bit_at_set_same w64 word bit h))

pub still_some : (word bit : ℕ) → 0 < bit_and word (18446744073709551615 - 1 * 2 ^ bit % 18446744073709551616)
    → not (bit_and word (18446744073709551615 - 1 * 2 ^ bit % 18446744073709551616) == 0) ≡ not (word == 0)
still_some word bit h =
    let m = 18446744073709551615 - 1 * 2 ^ bit % 18446744073709551616 in
    told_some (bit_and word m) h ∙ sym (told_some word (let l = and_le_l word m in omega (arith, h, l)))

-- ---- a bit that was put

put_here : (ws : List ℕ) (n v : ℕ) (on : Bool) → n / 64 < length ws → (bit_at v (n % 64) == 1) ≡ on → has_bit (set ws (n / 64) v) n ≡ on
unfolding has_bit
put_here ws n v on h b = ap (λ x. bit_at x (n % 64) == 1) (get_or-set_same ws (n / 64) v 0 h) ∙ b

put_beside : (ws : List ℕ) (n v i : ℕ) → n / 64 < length ws → ((k : ℕ) → k < 64 → k ≢ n % 64 → bit_at v k ≡ bit_at (get_or ws (n / 64) 0) k)
    → i ≢ n → has_bit (set ws (n / 64) v) i ≡ has_bit ws i
unfolding has_bit
put_beside ws n v i h others ne =
    elim (cases_eq (i / 64) (n / 64)) [
      | inl e ↦
          let apart : i % 64 ≢ n % 64 = λ m. ne (omega arith) in
          ap (λ x. bit_at x (i % 64) == 1) (ap (λ k. get_or (set ws (n / 64) v) k 0) e ∙ get_or-set_same ws (n / 64) v 0 h)
          ∙ ap (λ x. x == 1) (others (i % 64) (omega arith) apart)
          ∙ ap (λ k. bit_at (get_or ws k 0) (i % 64) == 1) (sym e)
      | inr other ↦ same_word (set ws (n / 64) v) ws i (get_or-set_other ws (n / 64) (i / 64) v 0 other)
    ]

-- one word was written, so that one bit is on or off
pub record IsWritten (ws : List ℕ) (n v : ℕ) (on : Bool) : Type 0 where
  pub within : n / 64 < length ws
  pub here : (bit_at v (n % 64) == 1) ≡ on
  pub others : (k : ℕ) → k < 64 → k ≢ n % 64 → bit_at v k ≡ bit_at (get_or ws (n / 64) 0) k

-- a word with one bit more, and with one less
abbrev pub with_bit : ℕ → ℕ → ℕ
with_bit word bit = bit_or word (1 * 2 ^ bit % 18446744073709551616)

abbrev pub without_bit : ℕ → ℕ → ℕ
without_bit word bit = bit_and word (18446744073709551615 - 1 * 2 ^ bit % 18446744073709551616)

pub written_on : (ws : List ℕ) (n : ℕ) → n / 64 < length ws → IsWritten ws n (with_bit (get_or ws (n / 64) 0) (n % 64)) true
written_on ws n h = record {
  within = h;
  here = ap (λ b. b == 1) (bit_at_set_same w64 (get_or ws (n / 64) 0) (n % 64) (omega arith));
  others = λ k lt ne. bit_at_set_other w64 (get_or ws (n / 64) 0) (n % 64) (omega arith) k ne;
}

pub written_off : (ws : List ℕ) (n : ℕ) → n / 64 < length ws → IsWritten ws n (without_bit (get_or ws (n / 64) 0) (n % 64)) false
written_off ws n h = record {
  within = h;
  here = ap (λ b. b == 1) (bit_at_clear_same w64 (get_or ws (n / 64) 0) (n % 64) (omega arith));
  others = λ k lt ne. bit_at_clear_other w64 (get_or ws (n / 64) 0) (n % 64) (omega arith) k lt ne;
}

written_same : (ws : List ℕ) (n v : ℕ) (on : Bool) → IsWritten ws n v on → has_bit (set ws (n / 64) v) n ≡ on
written_same ws n v on h = put_here ws n v on h.within h.here

written_other : (ws : List ℕ) (n v : ℕ) (on : Bool) (i : ℕ) → IsWritten ws n v on → i ≢ n → has_bit (set ws (n / 64) v) i ≡ has_bit ws i
written_other ws n v on i h ne = put_beside ws n v i h.within h.others ne

-- The bit at `start` was put on the way up to `place`, where the bit may be wrong, and nothing else is.
pub record IsPutBelow (first start place : ℕ) (on : Bool) (olds ws : List ℕ) : Type 0 where
  pub depth : ℕ
  pub first_is : first ≡ 64 * level_start depth
  pub fits : length ws ≤ first + 1
  pub tells : (p : ℕ) → p < first → p ≢ place → has_bit ws p ≡ not (get_or ws (p + 1) 0 == 0)
  pub told : place < first → not (get_or ws (place + 1) 0 == 0) ≡ on
  pub numbers : (i : ℕ) → first ≤ i → i ≢ place → has_bit ws i ≡ cond (i == start) on (has_bit olds i)
  pub here : first ≤ place → place ≡ start

pub put_start : (first start : ℕ) (on : Bool) (ws : List ℕ) → first ≤ start → IsBitTree first ws → IsPutBelow first start start on ws ws
put_start first start on ws from tree = record {
  depth = tree.depth;
  first_is = tree.first_is;
  fits = tree.fits;
  tells = λ p lt ne. tree.tells p lt;
  told = λ lt. absurd (omega arith);
  numbers = λ i ge ne. sym (ap (λ b. cond b on (has_bit ws i)) (ne_eqb i start ne));
  here = λ ge. refl;
}

-- what the words tell once the word of the place was written, but for the bit that tells of that word
after_tells : (first start place v : ℕ) (on : Bool) (olds ws : List ℕ) → IsPutBelow first start place on olds ws → IsWritten ws place v on
    → (p : ℕ) → p < first → p + 1 ≢ place / 64 → has_bit (set ws (place / 64) v) p ≡ not (get_or (set ws (place / 64) v) (p + 1) 0 == 0)
after_tells first start place v on olds ws s w p lt ne =
    let word = get_or-set_other ws (place / 64) (p + 1) v 0 ne in
    elim (cases_eq p place) [
      | inl e ↦
          ap (has_bit (set ws (place / 64) v)) e ∙ written_same ws place v on w
          ∙ sym (ap (λ x. not (x == 0)) word ∙ ap (λ q. not (get_or ws (q + 1) 0 == 0)) e ∙ s.told (omega arith))
      | inr other ↦ written_other ws place v on p w other ∙ s.tells p lt other ∙ sym (ap (λ x. not (x == 0)) word)
    ]

after_numbers : (first start place v : ℕ) (on : Bool) (olds ws : List ℕ) → IsPutBelow first start place on olds ws → IsWritten ws place v on
    → (i : ℕ) → first ≤ i → has_bit (set ws (place / 64) v) i ≡ cond (i == start) on (has_bit olds i)
after_numbers first start place v on olds ws s w i ge =
    elim (cases_eq i place) [
      | inl e ↦
          let is : i ≡ start = e ∙ s.here (omega arith) in
          ap (has_bit (set ws (place / 64) v)) e ∙ written_same ws place v on w ∙ sym (ap (λ b. cond b on (has_bit olds i)) (eq-eqb i start is))
      | inr other ↦ written_other ws place v on i w other ∙ s.numbers i ge other
    ]

-- the bit above is next
pub put_next : (first start place v : ℕ) (on : Bool) (olds ws : List ℕ) → IsPutBelow first start place on olds ws → IsWritten ws place v on
    → 0 < place / 64 → not (v == 0) ≡ on → IsPutBelow first start (place / 64 - 1) on olds (set ws (place / 64) v)
put_next first start place v on olds ws s w some told =
    let l = length-set ws (place / 64) v in
    let back : place / 64 - 1 + 1 ≡ place / 64 = omega arith in
    record {
      depth = s.depth;
      first_is = s.first_is;
      fits = omega (arith, l, s.fits);
      tells = λ p lt ne. after_tells first start place v on olds ws s w p lt (λ e. ne (omega arith));
      told = λ lt. ap (λ k. not (get_or (set ws (place / 64) v) k 0 == 0)) back ∙ ap (λ x. not (x == 0)) (get_or-set_same ws (place / 64) v 0 w.within) ∙ told;
      numbers = λ i ge ne. after_numbers first start place v on olds ws s w i ge;
      here = λ ge. absurd (omega (arith, s.fits, w.within));
    }

-- no bit above has to change
pub put_end : (first start place v : ℕ) (on : Bool) (olds ws : List ℕ) → IsPutBelow first start place on olds ws → IsWritten ws place v on
    → (0 < place / 64 → not (v == 0) ≡ not (get_or ws (place / 64) 0 == 0)) → IsPut first start on olds (set ws (place / 64) v)
put_end first start place v on olds ws s w same =
    let l = length-set ws (place / 64) v in
    record {
      tree = record {
        depth = s.depth;
        first_is = s.first_is;
        fits = omega (arith, l, s.fits);
        tells = λ p lt. elim (cases_eq (p + 1) (place / 64)) [
          | inl e ↦
              let ne : p ≢ place = λ f. omega arith in
              written_other ws place v on p w ne ∙ s.tells p lt ne ∙ ap (λ k. not (get_or ws k 0 == 0)) e ∙ sym (same (omega arith))
              ∙ sym (ap (λ k. not (get_or (set ws (place / 64) v) k 0 == 0)) e ∙ ap (λ x. not (x == 0)) (get_or-set_same ws (place / 64) v 0 w.within))
          | inr ne ↦ after_tells first start place v on olds ws s w p lt ne
        ];
      };
      numbers = λ i ge. after_numbers first start place v on olds ws s w i ge;
    }

-- ---- parts of words

one_both : (a m k : ℕ) → bit_at (bit_and a m) k ≡ 1 → (bit_at a k ≡ 1) × (bit_at m k ≡ 1)
one_both a m k h = let e = bit_at_and a m k in let x = bit_at-lt a k in let y = bit_at-lt m k in (omega (arith, e, x, y, h), omega (arith, e, x, y, h))

both_one : (a m k : ℕ) → bit_at a k ≡ 1 → bit_at m k ≡ 1 → bit_at (bit_and a m) k ≡ 1
both_one a m k h g = let e = bit_at_and a m k in omega (arith, e, h, g)

-- the parts that the masks keep
pub part_from : (word bit : ℕ) → word < 2 ^ 64 → bit < 64 → IsPart (λ k. bit ≤ k) word (bit_and word (18446744073709551615 * 2 ^ bit % 18446744073709551616))
part_from word bit small h =
    let m = ones_shl 64 bit (omega arith) in
    record {
      inside = λ k b.
          let one = (one_both word (18446744073709551615 * 2 ^ bit % 18446744073709551616) k b).1 in
          elim (cases_lt k bit) [ inl lt ↦ absurd (clear_bit _ k (ap (λ n. bit_at n k) m ∙ bit_at_mask_below bit 64 k lt) one) | inr ge ↦ ge ];
      is = λ k b. (one_both word (18446744073709551615 * 2 ^ bit % 18446744073709551616) k b).0;
      all = λ k ge b. both_one word (18446744073709551615 * 2 ^ bit % 18446744073709551616) k b (ap (λ n. bit_at n k) m ∙ bit_at_mask_inside bit 64 k ge (below_width word k small b));
    }

pub part_below : (word bit : ℕ) → word < 2 ^ 64 → bit < 64 → IsPart (λ k. k < bit) word (bit_and word (18446744073709551615 - 18446744073709551615 * 2 ^ bit % 18446744073709551616))
part_below word bit small h =
    let n : ℕ = 18446744073709551615 * 2 ^ bit % 18446744073709551616 in
    let m = ones_shl 64 bit (omega arith) in
    let n_small : n < 18446744073709551616 = omega arith in
    record {
      inside = λ k b.
          let both = one_both word (18446744073709551615 - n) k b in
          let within = below_width word k small both.0 in
          elim (cases_lt k bit) [
            | inl lt ↦ lt
            | inr ge ↦
                let one : bit_at n k ≡ 1 = ap (λ v. bit_at v k) m ∙ bit_at_mask_inside bit 64 k ge within in
                absurd (clear_bit (18446744073709551615 - n) k (bit_at_not w64 n k n_small within ∙ ap (λ v. 1 - v) one) both.1)
          ];
      is = λ k b. (one_both word (18446744073709551615 - n) k b).0;
      all = λ k lt b.
          let none : bit_at n k ≡ 0 = ap (λ v. bit_at v k) m ∙ bit_at_mask_below bit 64 k lt in
          both_one word (18446744073709551615 - n) k b (bit_at_not w64 n k n_small (below_width word k small b) ∙ ap (λ v. 1 - v) none);
    }

low_mask : (bit k : ℕ) → bit < 64 → k ≤ bit → bit_at (18446744073709551615 / 2 ^ (63 - bit)) k ≡ 1
low_mask bit k h le =
    let m = ones_shr 64 (63 - bit) (omega arith) in
    ap (λ n. bit_at n k) m ∙ bit_at_ones (64 - (63 - bit)) k (omega arith)

low_mask_above : (bit k : ℕ) → bit < 64 → bit < k → bit_at (18446744073709551615 / 2 ^ (63 - bit)) k ≡ 0
low_mask_above bit k h lt =
    let m = ones_shr 64 (63 - bit) (omega arith) in
    ap (λ n. bit_at n k) m ∙ bit_at_ones_above (64 - (63 - bit)) k (omega arith)

pub part_to : (word bit : ℕ) → bit < 64 → IsPart (λ k. k ≤ bit) word (bit_and word (18446744073709551615 / 2 ^ (63 - bit)))
part_to word bit h = record {
  inside = λ k b. elim (cases_lt bit k) [
    | inl lt ↦ absurd (clear_bit (18446744073709551615 / 2 ^ (63 - bit)) k (low_mask_above bit k h lt) (one_both word (18446744073709551615 / 2 ^ (63 - bit)) k b).1)
    | inr le ↦ le
  ];
  is = λ k b. (one_both word (18446744073709551615 / 2 ^ (63 - bit)) k b).0;
  all = λ k le b. both_one word (18446744073709551615 / 2 ^ (63 - bit)) k b (low_mask bit k h le);
}

pub part_above : (word bit : ℕ) → word < 2 ^ 64 → bit < 64 → IsPart (λ k. bit < k) word (bit_and word (18446744073709551615 - 18446744073709551615 / 2 ^ (63 - bit)))
part_above word bit small h =
    let n : ℕ = 18446744073709551615 / 2 ^ (63 - bit) in
    let d = div-le_self 18446744073709551615 (2 ^ (63 - bit)) in
    let n_small : n < 18446744073709551616 = omega (arith, d) in
    record {
      inside = λ k b.
          let both = one_both word (18446744073709551615 - n) k b in
          let within = below_width word k small both.0 in
          elim (cases_lt bit k) [
            | inl lt ↦ lt
            | inr le ↦ absurd (clear_bit (18446744073709551615 - n) k (bit_at_not w64 n k n_small within ∙ ap (λ v. 1 - v) (low_mask bit k h le)) both.1)
          ];
      is = λ k b. (one_both word (18446744073709551615 - n) k b).0;
      all = λ k lt b. both_one word (18446744073709551615 - n) k b (bit_at_not w64 n k n_small (below_width word k small b) ∙ ap (λ v. 1 - v) (low_mask_above bit k h lt));
    }

-- ---- the set

pub length-marks : (first len : ℕ) (ws : List ℕ) → length (marks_of first len ws) ≡ len
length-marks first len ws = length-map-range_with_len (λ i. has_bit ws (first + i)) 0 len

pub mark_at : (first len : ℕ) (ws : List ℕ) (k : ℕ) (d : Bool) → k < len → get_or (marks_of first len ws) k d ≡ has_bit ws (first + k)
mark_at first len ws k d h = get_or-map-range_with_len (λ i. has_bit ws (first + i)) 0 len k k d h (omega arith)

pub mark_beyond : (first len : ℕ) (ws : List ℕ) (k : ℕ) → len ≤ k → get_or (marks_of first len ws) k false ≡ false
mark_beyond first len ws k h = get_or-eq_default (marks_of first len ws) false {n = k} (omega (arith, length-marks first len ws))

pub has_mark : (first len : ℕ) (ws : List ℕ) → IsKept first len ws → (k : ℕ) → has (marks_of first len ws) k ≡ has_bit ws (first + k)
has_mark first len ws s k =
    elim (cases_lt k len) [
      | inl lt ↦ mark_at first len ws k false lt
      | inr le ↦ mark_beyond first len ws k le ∙ sym (s.beyond (first + k) (omega arith))
    ]

pub put_marks : (first len : ℕ) (ws vs : List ℕ) (n : ℕ) (on : Bool) → n < len → IsPut first (first + n) on ws vs
    → marks_of first len vs ≡ set (marks_of first len ws) n on
put_marks first len ws vs n on h s =
    same_lists (marks_of first len vs) (set (marks_of first len ws) n on)
    (length-marks first len vs ∙ sym (length-set (marks_of first len ws) n on ∙ length-marks first len ws))
    (λ k d lt.
    let within : k < len = omega (arith, length-marks first len vs) in
    let inside : n < length (marks_of first len ws) = omega (arith, length-marks first len ws) in
    mark_at first len vs k d within ∙ s.numbers (first + k) (omega arith)
    ∙ elim (cases_eq k n) [
      | inl e ↦
          ap (λ b. cond b on (has_bit ws (first + k))) (eq-eqb (first + k) (first + n) (omega arith))
          ∙ sym (ap (λ j. get_or (set (marks_of first len ws) n on) j d) e ∙ get_or-set_same (marks_of first len ws) n on d inside)
      | inr ne ↦
          ap (λ b. cond b on (has_bit ws (first + k))) (ne_eqb (first + k) (first + n) (λ e. ne (omega arith)))
          ∙ sym (get_or-set_other (marks_of first len ws) n k on d ne ∙ mark_at first len ws k d within)
    ])

pub kept_after : (first len n : ℕ) (ws vs : List ℕ) (on : Bool) → n < len → length vs ≡ length ws → IsKept first len ws → IsPut first (first + n) on ws vs → IsKept first len vs
kept_after first len n ws vs on h l s p = record {
  tree = p.tree;
  room = omega (arith, l, s.room);
  small = s.small;
  beyond = λ q ge. p.numbers q (omega arith) ∙ ap (λ b. cond b on (has_bit ws q)) (ne_eqb q (first + n) (λ e. omega arith)) ∙ s.beyond q ge;
}

-- a number that the set has room for
pub within_len : (first len : ℕ) (ws : List ℕ) (xs : List Bool) (n : ℕ) → marks_of first len ws ≡ xs → n < length xs → n < len
within_len first len ws xs n e h = let l = ap length e in omega (arith, l, length-marks first len ws)

pub room_at : (first len n : ℕ) (ws : List ℕ) → IsKept first len ws → n < len → (first + n) / 64 < length ws
room_at first len n ws s h = omega (arith, s.room)

-- a vector's items once its slice was written
pub written_items : (n : ℕ) (news mid olds : List ℕ) → mid ≡ olds → length mid ≡ n → length news ≡ length mid → take n (news ++ drop (length news) olds) ≡ news
written_items n news mid olds e h l =
    let m = ap length e in
    grind (arith, common_steps)

pub record IsAfterPut (first len n : ℕ) (on : Bool) (marks : List Bool) (ws : List ℕ) : Type 0 where
  pub kept : IsKept first len ws
  pub marks_are : marks_of first len ws ≡ set marks n on

-- the set after a write, in its vector: olds are the items before, mid the slice that is written, news the slice after
pub after_put : (first len n m : ℕ) (on : Bool) (marks : List Bool) (olds mid news : List ℕ) → IsKept first len olds → marks_of first len olds ≡ marks → n < length marks
    → mid ≡ olds → length mid ≡ m → length news ≡ length mid
    → ((f : ℕ) → f ≤ first + n → IsBitTree f mid → IsPut f (first + n) on mid news)
    → IsAfterPut first len n on marks (take m (news ++ drop (length news) olds))
after_put first len n m on marks olds mid news s v h e l k put =
    let w = within_len first len olds marks n v h in
    let s_mid = subst (λ ws. IsKept first len ws) (sym e) s in
    let p = put first (omega arith) s_mid.tree in
    let i = written_items m news mid olds e l k in
    record {
      kept = subst (λ ws. IsKept first len ws) (sym i) (kept_after first len n mid news on w k s_mid p);
      marks_are = ap (marks_of first len) i ∙ put_marks first len mid news n on w p ∙ ap (λ xs. set xs n on) (ap (marks_of first len) e ∙ v);
    }

-- the test of the bit at a place, whose word is v
pub tested_bit : (ws : List ℕ) (p v : ℕ) → v ≡ get_or ws (p / 64) v → p / 64 < length ws → (bit_and (v / 2 ^ (p % 64)) 1 == 1) ≡ has_bit ws p
unfolding has_bit
tested_bit ws p v e h = ap (λ b. b == 1) (shr_and_one v (p % 64) ∙ ap (λ x. bit_at x (p % 64)) (e ∙ get_or_default ws (p / 64) v 0 h))

-- ---- the set as callers see it

pub none_beyond : (first len n i : ℕ) (ws : List ℕ) (marks : List Bool) → marks_of first len ws ≡ marks → len ≤ n → n ≤ i → has marks i ≡ false
none_beyond first len n i ws marks v h le = ap (λ xs. has xs i) (sym v) ∙ mark_beyond first len ws i (omega arith)

-- ---- the empty set

zero_at : (n k : ℕ) → get_or {A = ℕ} (replicate n 0) k 0 ≡ 0
zero_at n k =
    elim (cases_lt k n) [
      | inl lt ↦ get_or-replicate {A = ℕ} n k 0 0 lt
      | inr le ↦ get_or-eq_default {A = ℕ} (replicate n 0) 0 {n = k} (omega (arith, length-replicate {A = ℕ} n 0))
    ]

no_bits : (n p : ℕ) → has_bit (replicate n 0) p ≡ false
no_bits n p = zero_word (replicate n 0) p (zero_at n (p / 64))

pub kept_none : (len words base : ℕ) → len ≤ 2 ^ 32 → words ≡ div_ceil len 64 → IsBase words base → IsKept (base * 64) len (replicate (base + words) 0)
kept_none len words base h e s =
    let l = length-replicate {A = ℕ} (base + words) 0 in
    record {
      tree = record {
        depth = s.depth;
        first_is = omega (arith, s.base_is);
        fits = omega (arith, l, s.room);
        tells = λ p lt. no_bits (base + words) p ∙ sym (told_none (get_or (replicate (base + words) 0) (p + 1) 0) (zero_at (base + words) (p + 1)));
      };
      room = omega (arith, l, e);
      small = omega (arith, e, s.small);
      beyond = λ p ge. no_bits (base + words) p;
    }

pub none_marked : (first len n : ℕ) → marks_of first len (replicate n 0) ≡ replicate len false
none_marked first len n = sym (fill_by_all (λ i. has_bit (replicate n 0) (first + i)) (replicate len false) len false (length-replicate len false)
    (λ k lt. get_or-replicate len k false false lt ∙ sym (no_bits n (first + k))))

-- ---- the first and the last number

number_of : (first len m : ℕ) (ws : List ℕ) → IsKept first len ws → first ≤ m → has_bit ws m ≡ true → m - first < len
number_of first len m ws s h b =
    elim (cases_lt m (first + len)) [ inl lt ↦ omega arith | inr ge ↦ let f : true ≡ false = sym b ∙ s.beyond m ge in cc ]

mark_of : (first len m : ℕ) (ws : List ℕ) → IsKept first len ws → first ≤ m → has (marks_of first len ws) (m - first) ≡ has_bit ws m
mark_of first len m ws s h = let e : first + (m - first) ≡ m = omega arith in has_mark first len ws s (m - first) ∙ ap (has_bit ws) e

first_marked : (first len n m : ℕ) (ws : List ℕ) → IsKept first len ws → IsFirstBit ws (first + n) m → IsFirstFrom (marks_of first len ws) n (m - first)
first_marked first len n m ws s f =
    let low : first ≤ m = omega (arith, f.from) in
    record {
      from = omega (arith, f.from);
      within = let l = length-marks first len ws in let w = number_of first len m ws s low f.is in omega (arith, l, w);
      is = mark_of first len m ws s low ∙ f.is;
      before = λ i h lt. has_mark first len ws s i ∙ f.before (first + i) (omega (arith, h)) (omega (arith, lt));
    }

pub first_number : (first len n m : ℕ) (ws mid : List ℕ) (marks : List Bool) → IsKept first len ws → marks_of first len ws ≡ marks → mid ≡ ws
    → IsFirstBit mid (first + n) m → IsFirstFrom marks n (m - first)
first_number first len n m ws mid marks s v e f =
    subst (λ xs. IsFirstFrom xs n (m - first)) v (first_marked first len n m ws s (subst (λ xs. IsFirstBit xs (first + n) m) e f))

pub none_from : (first len n : ℕ) (ws mid : List ℕ) (marks : List Bool) → IsKept first len ws → marks_of first len ws ≡ marks → mid ≡ ws
    → ((p : ℕ) → first + n ≤ p → has_bit mid p ≡ false) → (i : ℕ) → n ≤ i → has marks i ≡ false
none_from first len n ws mid marks s v e none i h =
    sym (ap (λ xs. has xs i) v) ∙ has_mark first len ws s i ∙ sym (ap (λ xs. has_bit xs (first + i)) e) ∙ none (first + i) (omega (arith, h))

last_marked : (first len n m : ℕ) (ws : List ℕ) → IsKept first len ws → IsLastBit ws first (first + n) m → IsLastTo (marks_of first len ws) n (m - first)
last_marked first len n m ws s f = record {
  to = omega (arith, f.to);
  is = mark_of first len m ws s f.from ∙ f.is;
  behind = λ i lt h. let low = f.from in has_mark first len ws s i ∙ f.behind (first + i) (omega (arith, lt, low)) (omega (arith, h));
}

pub last_number : (first len n m : ℕ) (ws mid : List ℕ) (marks : List Bool) → IsKept first len ws → marks_of first len ws ≡ marks → mid ≡ ws
    → IsLastBit mid first (first + n) m → IsLastTo marks n (m - first)
last_number first len n m ws mid marks s v e f =
    subst (λ xs. IsLastTo xs n (m - first)) v (last_marked first len n m ws s (subst (λ xs. IsLastBit xs first (first + n) m) e f))

pub none_to : (first len n : ℕ) (ws mid : List ℕ) (marks : List Bool) → IsKept first len ws → marks_of first len ws ≡ marks → mid ≡ ws
    → ((p : ℕ) → first ≤ p → p ≤ first + n → has_bit mid p ≡ false) → (i : ℕ) → i ≤ n → has marks i ≡ false
none_to first len n ws mid marks s v e none i h =
    sym (ap (λ xs. has xs i) v) ∙ has_mark first len ws s i ∙ sym (ap (λ xs. has_bit xs (first + i)) e) ∙ none (first + i) (omega arith) (omega (arith, h))

-- what a walk asks of the words
pub record IsWalkable (first start : ℕ) (ws : List ℕ) : Type 0 where
  pub tree : IsBitTree first ws
  pub within : start / 64 < length ws

pub walkable : (first len n : ℕ) (ws mid : List ℕ) → IsKept first len ws → mid ≡ ws → n < len → IsWalkable first (first + n) mid
walkable first len n ws mid s e w =
    let s_mid = subst (λ xs. IsKept first len xs) (sym e) s in
    record { tree = s_mid.tree; within = room_at first len n mid s_mid w }
