-- Ways up and down among levels of words, to the last place with a bit.
use Rattle.std.proofs.Common.{◌≡◌, ℕ, zero, suc, ◌+◌, ◌*◌, ◌/◌, ◌%◌, ◌-◌, ◌^◌, ◌<◌, ◌≤◌, true, false, List, length, get_or, refl, ap, subst, ◌∙◌, arith, inl, inr, w64}
use Rattle.std.specs.Int.{bit_at, leading_zeros}
use Rattle.std.proofs.Math.Nat.{div-eq_of_lt-le, pow-suc}
use Rattle.std.proofs.lemmas.Bool.{cases_eq, cases_lt}
use Rattle.std.proofs.lemmas.Nat.{leading_top}
use Rattle.std.proofs.lemmas.Nat.Bits.{bit_at_above}
use Rattle.bit_set.specs.Words.{has_bit, level_start, IsBitTree, IsHighestBit, IsLastBit, IsPart}
use Rattle.bit_set.proofs.BitLaws.{no_bit, clear_bit, one_of, set_from, within_words}
use Rattle.bit_set.proofs.BitWalks.{up, IsOnLevel, start_grows, up_mono, next_level, place_up, set_above, set_up, false_from}

-- on the way up: the bits that are looked at, in the word of the place that tells of `start`
pub record IsClimbBack (first start : ℕ) (ws : List ℕ) (place bits : ℕ) : Type 0 where
  pub above : ℕ
  pub below : ℕ
  pub first_is : first ≡ 64 * level_start (above + below)
  pub place_is : place ≡ up below start
  pub is : (t : ℕ) → bit_at bits t ≡ 1 → bit_at (get_or ws (place / 64) 0) t ≡ 1
  pub behind : (t p : ℕ) → bit_at bits t ≡ 1 → up below p ≤ place / 64 * 64 + t → p ≤ start
  pub all : (p : ℕ) → first ≤ p → p ≤ start → has_bit ws p ≡ true → up below p / 64 ≡ place / 64 → bit_at bits (up below p % 64) ≡ 1

pub climb_start : (first start bits : ℕ) (ws : List ℕ) → IsBitTree first ws → IsPart (λ k. k ≤ start % 64) (get_or ws (start / 64) 0) bits → IsClimbBack first start ws start bits
climb_start first start bits ws t part =
    let e : t.depth ≡ t.depth + 0 = omega arith in
    record {
      above = t.depth;
      below = 0;
      first_is = t.first_is ∙ ap (λ n. 64 * level_start n) e;
      place_is = refl;
      is = part.is;
      behind = λ k p b le. let i = part.inside k b in omega (arith, i, le);
      all = λ p low h b same. part.all (p % 64) (omega (arith, h, same)) (subst (λ w. bit_at (get_or ws w 0) (p % 64) ≡ 1) same (one_of ws p b));
    }

climb_on : (k j first start place bits next : ℕ) (ws : List ℕ) → IsBitTree first ws → first ≤ start → start / 64 < length ws
    → first ≡ 64 * level_start (k + j) → place ≡ up j start
    → ((p : ℕ) → first ≤ p → p ≤ start → has_bit ws p ≡ true → up j p / 64 ≡ place / 64 → bit_at bits (up j p % 64) ≡ 1)
    → bits ≡ 0 → 0 < place / 64 → IsPart (λ b. b < (place / 64 - 1) % 64) (get_or ws ((place / 64 - 1) / 64) 0) next → IsClimbBack first start ws (place / 64 - 1) next
climb_on zero j first start place bits next ws t from within first_is place_is all none some part =
    let on = place_up first 0 j start ws t first_is from within in
    absurd (omega (arith, on.high, place_is, some))
climb_on (suc k) j first start place bits next ws t from within first_is place_is all none some part =
    let f : suc k + j ≡ k + suc j = omega arith in
    record {
      above = k;
      below = suc j;
      first_is = first_is ∙ ap (λ n. 64 * level_start n) f;
      place_is = ap (λ q. q / 64 - 1) place_is;
      is = part.is;
      behind = λ b p one le.
          let i = part.inside b one in
          elim (cases_lt start p) [
            | inl lt ↦ let m = up_mono j start p (omega arith) in absurd (omega (arith, i, m, place_is, le))
            | inr ge ↦ ge
          ];
      all = λ p low h b same.
          let on = place_up first (suc k) j p ws t first_is low (within_words ws p b) in
          let some_up = (next_level k (up j p) on).0 in
          let m = up_mono j p start h in
          let before : up j p / 64 < place / 64 = elim (cases_lt (up j p / 64) (place / 64)) [
            | inl lt ↦ lt
            | inr ge ↦ absurd (no_bit bits (up j p % 64) none (all p low h b (omega (arith, ge, m, place_is))))
          ] in
          part.all (up (suc j) p % 64) (omega (arith, same, before, some_up)) (
          subst (λ w. bit_at (get_or ws w 0) (up (suc j) p % 64) ≡ 1) same
          (one_of ws (up (suc j) p) (set_above first (up j p) ws t (set_up first (suc k) j p ws t first_is low b) some_up)));
    }

-- one level up
pub climb_next : (first start place bits next : ℕ) (ws : List ℕ) → IsBitTree first ws → first ≤ start → start / 64 < length ws → IsClimbBack first start ws place bits
    → bits ≡ 0 → 0 < place / 64 → IsPart (λ b. b < (place / 64 - 1) % 64) (get_or ws ((place / 64 - 1) / 64) 0) next → IsClimbBack first start ws (place / 64 - 1) next
climb_next first start place bits next ws t from within c none some part =
    climb_on c.above c.below first start place bits next ws t from within c.first_is c.place_is c.all none some part

none_on : (k j first start place bits : ℕ) (ws : List ℕ) → IsBitTree first ws → first ≤ start → start / 64 < length ws
    → first ≡ 64 * level_start (k + j) → place ≡ up j start
    → ((p : ℕ) → first ≤ p → p ≤ start → has_bit ws p ≡ true → up j p / 64 ≡ place / 64 → bit_at bits (up j p % 64) ≡ 1)
    → bits ≡ 0 → place / 64 ≡ 0 → (i : ℕ) → first ≤ i → i ≤ start → has_bit ws i ≡ true → ⊥
none_on zero j first start place bits ws t from within first_is place_is all none top i low h b =
    let on = place_up first 0 j i ws t first_is low (within_words ws i b) in
    no_bit bits (up j i % 64) none (all i low h b (omega (arith, on.high, top)))
none_on (suc k) j first start place bits ws t from within first_is place_is all none top i low h b =
    let on = place_up first (suc k) j start ws t first_is from within in
    omega (arith, on.low, place_is, top)

-- at the top there is none
pub climb_none : (first start place bits : ℕ) (ws : List ℕ) → IsBitTree first ws → first ≤ start → start / 64 < length ws → IsClimbBack first start ws place bits
    → bits ≡ 0 → place / 64 ≡ 0 → (i : ℕ) → first ≤ i → i ≤ start → has_bit ws i ≡ false
climb_none first start place bits ws t from within c none top i low h =
    false_from (has_bit ws i) (λ b. none_on c.above c.below first start place bits ws t from within c.first_is c.place_is c.all none top i low h b)

-- on the way down: the place that tells of the last bit
pub record IsDescentBack (first start : ℕ) (ws : List ℕ) (place : ℕ) : Type 0 where
  pub above : ℕ
  pub below : ℕ
  pub first_is : first ≡ 64 * level_start (above + below)
  pub on : IsOnLevel above place
  pub is : has_bit ws place ≡ true
  pub greatest : (p : ℕ) → first ≤ p → p ≤ start → has_bit ws p ≡ true → up below p ≤ place
  pub behind : (p : ℕ) → up below p ≤ place → p ≤ start

highest_last : (word t i : ℕ) → IsHighestBit word t → bit_at word i ≡ 1 → i ≤ t
highest_last word t i l h = elim (cases_lt t i) [ inl lt ↦ absurd (clear_bit word i (l.above i lt) h) | inr ge ↦ ge ]

pub leading_below : (word : ℕ) → 0 < word → word < 2 ^ 64 → leading_zeros w64 word ≤ 63
leading_below word some small = let t = leading_top 64 word some small in omega (arith, t.1)

pub highest_bit : (word : ℕ) → 0 < word → word < 2 ^ 64 → IsHighestBit word (63 - leading_zeros w64 word)
highest_bit word some small =
    let t = leading_top 64 word some small in
    let e : t.0 ≡ 63 - leading_zeros w64 word = omega (arith, t.1) in
    let one : word / 2 ^ t.0 ≡ 1 = div-eq_of_lt-le (2 ^ t.0) (omega (arith, t.2)) (omega (arith, t.3, pow-suc 2 t.0)) in
    subst (IsHighestBit word) e (record { within = omega (arith, t.1); is = ap (λ n. n % 2) one; above = λ i lt. bit_at_above word (suc t.0) i t.3 lt })

pub descent_start : (first start place bits t : ℕ) (ws : List ℕ) → IsBitTree first ws → first ≤ start → start / 64 < length ws → IsClimbBack first start ws place bits
    → IsHighestBit bits t → IsDescentBack first start ws (place / 64 * 64 + t)
descent_start first start place bits t ws tree from within c l =
    let on = place_up first c.above c.below start ws tree c.first_is from within in
    record {
      above = c.above;
      below = c.below;
      first_is = c.first_is;
      on = record { low = omega (arith, on.low, c.place_is); high = omega (arith, on.high, c.place_is, l.within) };
      is = set_from ws (place / 64 * 64 + t) (place / 64) t (omega (arith, l.within)) (omega (arith, l.within)) (c.is t l.is);
      greatest = λ p low h b.
          let m = up_mono c.below p start h in
          elim (cases_eq (up c.below p / 64) (place / 64)) [
            | inl same ↦ let x = highest_last bits t (up c.below p % 64) l (c.all p low h b same) in omega (arith, x, same)
            | inr apart ↦ omega (arith, apart, m, c.place_is)
          ];
      behind = λ p le. c.behind t p l.is le;
    }

descent_on : (k j first start place t : ℕ) (ws : List ℕ) → IsBitTree first ws → first ≡ 64 * level_start (k + j) → IsOnLevel k place
    → ((p : ℕ) → first ≤ p → p ≤ start → has_bit ws p ≡ true → up j p ≤ place) → ((p : ℕ) → up j p ≤ place → p ≤ start)
    → place < first → IsHighestBit (get_or ws (place + 1) 0) t → IsDescentBack first start ws ((place + 1) * 64 + t)
descent_on k zero first start place t ws tree first_is on greatest behind more l =
    let e : k + 0 ≡ k = omega arith in
    let f = first_is ∙ ap (λ n. 64 * level_start n) e in
    absurd (omega (arith, f, on.low, more))
descent_on k (suc j) first start place t ws tree first_is on greatest behind more l =
    let e : k + suc j ≡ suc k + j = omega arith in
    let f = first_is ∙ ap (λ n. 64 * level_start n) e in
    record {
      above = suc k;
      below = j;
      first_is = f;
      on = record { low = omega (arith, on.low); high = omega (arith, on.high, l.within) };
      is = set_from ws ((place + 1) * 64 + t) (place + 1) t (omega (arith, l.within)) (omega (arith, l.within)) l.is;
      greatest = λ p low h b.
          let le = greatest p low h b in
          elim (cases_eq (up j p / 64) (place + 1)) [
            | inl same ↦
                let one = one_of ws (up j p) (set_up first (suc k) j p ws tree f low b) in
                let x = highest_last (get_or ws (place + 1) 0) t (up j p % 64) l (subst (λ w. bit_at (get_or ws w 0) (up j p % 64) ≡ 1) same one) in
                omega (arith, x, same)
            | inr apart ↦ omega (arith, apart, le)
          ];
      behind = λ p le. behind p (omega (arith, le, l.within));
    }

-- one level down
pub descent_next : (first start place t : ℕ) (ws : List ℕ) → IsBitTree first ws → IsDescentBack first start ws place → place < first
    → IsHighestBit (get_or ws (place + 1) 0) t → IsDescentBack first start ws ((place + 1) * 64 + t)
descent_next first start place t ws tree d more l =
    descent_on d.above d.below first start place t ws tree d.first_is d.on d.greatest d.behind more l

last_on : (k j first start place : ℕ) (ws : List ℕ) → first ≡ 64 * level_start (k + j) → IsOnLevel k place → has_bit ws place ≡ true
    → ((p : ℕ) → first ≤ p → p ≤ start → has_bit ws p ≡ true → up j p ≤ place) → ((p : ℕ) → up j p ≤ place → p ≤ start) → first ≤ place → IsLastBit ws first start place
last_on k zero first start place ws first_is on is greatest behind low = record {
  from = low;
  to = behind place (omega arith);
  is = is;
  behind = λ i lt h. false_from (has_bit ws i) (λ b. let le = greatest i (omega arith) h b in omega (arith, le, lt));
}
last_on k (suc j) first start place ws first_is on is greatest behind low =
    let e : k + suc j ≡ suc k + j = omega arith in
    let f = first_is ∙ ap (λ n. 64 * level_start n) e in
    let g = start_grows (suc k) j in
    absurd (omega (arith, f, g, on.high))

-- among the numbers
pub descent_end : (first start place : ℕ) (ws : List ℕ) → IsDescentBack first start ws place → first ≤ place → IsLastBit ws first start place
descent_end first start place ws d low = last_on d.above d.below first start place ws d.first_is d.on d.is d.greatest d.behind low
