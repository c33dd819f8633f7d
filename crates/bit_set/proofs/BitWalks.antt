-- Ways up and down among levels of words.
use Rattle.std.proofs.Common.{◌≡◌, ℕ, zero, suc, ◌+◌, ◌*◌, ◌/◌, ◌%◌, ◌-◌, ◌^◌, ◌<◌, ◌≤◌, ◌==◌, Bool, true, false, not, List, length, get_or, refl, ap, sym, subst, ◌∙◌, arith, inl, inr, w64}
use Rattle.std.specs.Int.{bit_at, trailing_zeros}
use Rattle.std.proofs.lemmas.Nat.Bits.{bit_at-trailing_zeros}
use Rattle.std.proofs.lemmas.Bool.{cases_eq, cases_lt, cases_Bool}
use Rattle.bit_set.specs.Words.{has_bit, level_start, IsBitTree, IsFirstBit, IsPart}
use Rattle.bit_set.proofs.BitLaws.{no_bit, clear_bit, some_word, one_of, set_from, within_words, told_some, some_told}

-- the place that tells of a place, so many levels up
abbrev pub up : ℕ → ℕ → ℕ
up zero p = p
up (suc j) p = up j p / 64 - 1

-- a place on a level
pub record IsOnLevel (above place : ℕ) : Type 0 where
  pub low : 64 * level_start above ≤ place
  pub high : place < 64 * (64 * level_start above + 1)

pub start_grows : (a b : ℕ) → level_start a ≤ level_start (a + b)
start_grows a zero = let e : a ≡ a + 0 = omega arith in let f : level_start a ≡ level_start (a + 0) = ap level_start e in omega (arith, f)
start_grows a (suc b) =
    let e : suc (a + b) ≡ a + suc b = omega arith in
    let f : level_start (suc (a + b)) ≡ level_start (a + suc b) = ap level_start e in
    let i = start_grows a b in
    omega (arith, f, i)

pub up_mono : (j p q : ℕ) → p ≤ q → up j p ≤ up j q
up_mono zero p q h = h
up_mono (suc j) p q h = let i = up_mono j p q h in omega (arith, i)

pub next_level : (k q : ℕ) → IsOnLevel (suc k) q → (1 ≤ q / 64) × IsOnLevel k (q / 64 - 1)
next_level k q h = let lo = h.low in let hi = h.high in (omega (arith, lo), record { low = omega (arith, lo); high = omega (arith, lo, hi) })

pub level_up : (k j p : ℕ) → IsOnLevel (k + j) p → IsOnLevel k (up j p)
level_up k zero p h = let e : k + 0 ≡ k = omega arith in subst (λ n. IsOnLevel n p) e h
level_up k (suc j) p h =
    let e : k + suc j ≡ suc k + j = omega arith in
    (next_level k (up j p) (level_up (suc k) j p (subst (λ n. IsOnLevel n p) e h))).1

-- a number's place
pub number_level : (first n p : ℕ) (ws : List ℕ) → IsBitTree first ws → first ≡ 64 * level_start n → first ≤ p → p / 64 < length ws → IsOnLevel n p
number_level first n p ws t e h w = record { low = omega (arith, e, h); high = omega (arith, e, w, t.fits) }

pub place_up : (first k j p : ℕ) (ws : List ℕ) → IsBitTree first ws → first ≡ 64 * level_start (k + j) → first ≤ p → p / 64 < length ws → IsOnLevel k (up j p)
place_up first k j p ws t e h w = level_up k j p (number_level first (k + j) p ws t e h w)

-- the bit that tells of a bit's word is set too
pub set_above : (first q : ℕ) (ws : List ℕ) → IsBitTree first ws → has_bit ws q ≡ true → 1 ≤ q / 64 → has_bit ws (q / 64 - 1) ≡ true
set_above first q ws t h some =
    let w = within_words ws q h in
    let e : q / 64 - 1 + 1 ≡ q / 64 = omega arith in
    t.tells (q / 64 - 1) (omega (arith, w, some, t.fits))
    ∙ ap (λ k. not (get_or ws k 0 == 0)) e
    ∙ told_some (get_or ws (q / 64) 0) (some_word (get_or ws (q / 64) 0) (q % 64) (one_of ws q h))

pub set_up : (first k j p : ℕ) (ws : List ℕ) → IsBitTree first ws → first ≡ 64 * level_start (k + j) → first ≤ p → has_bit ws p ≡ true → has_bit ws (up j p) ≡ true
set_up first k zero p ws t e h b = b
set_up first k (suc j) p ws t e h b =
    let f : k + suc j ≡ suc k + j = omega arith in
    let g = e ∙ ap (λ n. 64 * level_start n) f in
    let on = place_up first (suc k) j p ws t g h (within_words ws p b) in
    set_above first (up j p) ws t (set_up first (suc k) j p ws t g h b) (next_level k (up j p) on).0

-- ---- the first place with a bit

-- on the way up: the bits that are looked at, in the word of the place that tells of `start`
pub record IsClimb (first start : ℕ) (ws : List ℕ) (place bits : ℕ) : Type 0 where
  pub above : ℕ
  pub below : ℕ
  pub first_is : first ≡ 64 * level_start (above + below)
  pub place_is : place ≡ up below start
  pub is : (t : ℕ) → bit_at bits t ≡ 1 → bit_at (get_or ws (place / 64) 0) t ≡ 1
  pub ahead : (t p : ℕ) → bit_at bits t ≡ 1 → place / 64 * 64 + t ≤ up below p → start ≤ p
  pub all : (p : ℕ) → start ≤ p → has_bit ws p ≡ true → up below p / 64 ≡ place / 64 → bit_at bits (up below p % 64) ≡ 1

pub climb_start : (first start bits : ℕ) (ws : List ℕ) → IsBitTree first ws → IsPart (λ k. start % 64 ≤ k) (get_or ws (start / 64) 0) bits → IsClimb first start ws start bits
climb_start first start bits ws t part =
    let e : t.depth ≡ t.depth + 0 = omega arith in
    record {
      above = t.depth;
      below = 0;
      first_is = t.first_is ∙ ap (λ n. 64 * level_start n) e;
      place_is = refl;
      is = part.is;
      ahead = λ k p b le. let i = part.inside k b in omega (arith, i, le);
      all = λ p h b same. part.all (p % 64) (omega (arith, h, same)) (subst (λ w. bit_at (get_or ws w 0) (p % 64) ≡ 1) same (one_of ws p b));
    }

climb_on : (k j first start place bits next : ℕ) (ws : List ℕ) → IsBitTree first ws → first ≤ start → start / 64 < length ws
    → first ≡ 64 * level_start (k + j) → place ≡ up j start
    → ((p : ℕ) → start ≤ p → has_bit ws p ≡ true → up j p / 64 ≡ place / 64 → bit_at bits (up j p % 64) ≡ 1)
    → bits ≡ 0 → 0 < place / 64 → IsPart (λ b. (place / 64 - 1) % 64 < b) (get_or ws ((place / 64 - 1) / 64) 0) next → IsClimb first start ws (place / 64 - 1) next
climb_on zero j first start place bits next ws t from within first_is place_is all none some part =
    let on = place_up first 0 j start ws t first_is from within in
    absurd (omega (arith, on.high, place_is, some))
climb_on (suc k) j first start place bits next ws t from within first_is place_is all none some part =
    let f : suc k + j ≡ k + suc j = omega arith in
    record {
      above = k;
      below = suc j;
      first_is = first_is ∙ ap (λ n. 64 * level_start n) f;
      place_is = ap (λ q. q / 64 - 1) place_is;
      is = part.is;
      ahead = λ b p one le.
          let i = part.inside b one in
          elim (cases_lt p start) [
            | inl lt ↦ let m = up_mono j p start (omega arith) in absurd (omega (arith, i, m, place_is, le))
            | inr ge ↦ ge
          ];
      all = λ p h b same.
          let on = place_up first (suc k) j p ws t first_is (omega arith) (within_words ws p b) in
          let some_up = (next_level k (up j p) on).0 in
          let m = up_mono j start p h in
          let later : place / 64 < up j p / 64 = elim (cases_lt (place / 64) (up j p / 64)) [
            | inl lt ↦ lt
            | inr ge ↦ absurd (no_bit bits (up j p % 64) none (all p h b (omega (arith, ge, m, place_is))))
          ] in
          part.all (up (suc j) p % 64) (omega (arith, same, later, some)) (
          subst (λ w. bit_at (get_or ws w 0) (up (suc j) p % 64) ≡ 1) same
          (one_of ws (up (suc j) p) (set_above first (up j p) ws t (set_up first (suc k) j p ws t first_is (omega arith) b) some_up)));
    }

-- one level up
pub climb_next : (first start place bits next : ℕ) (ws : List ℕ) → IsBitTree first ws → first ≤ start → start / 64 < length ws → IsClimb first start ws place bits
    → bits ≡ 0 → 0 < place / 64 → IsPart (λ b. (place / 64 - 1) % 64 < b) (get_or ws ((place / 64 - 1) / 64) 0) next → IsClimb first start ws (place / 64 - 1) next
climb_next first start place bits next ws t from within c none some part =
    climb_on c.above c.below first start place bits next ws t from within c.first_is c.place_is c.all none some part

none_on : (k j first start place bits : ℕ) (ws : List ℕ) → IsBitTree first ws → first ≤ start → start / 64 < length ws
    → first ≡ 64 * level_start (k + j) → place ≡ up j start
    → ((p : ℕ) → start ≤ p → has_bit ws p ≡ true → up j p / 64 ≡ place / 64 → bit_at bits (up j p % 64) ≡ 1)
    → bits ≡ 0 → place / 64 ≡ 0 → (i : ℕ) → start ≤ i → has_bit ws i ≡ true → ⊥
none_on zero j first start place bits ws t from within first_is place_is all none top i h b =
    let on = place_up first 0 j i ws t first_is (omega arith) (within_words ws i b) in
    no_bit bits (up j i % 64) none (all i h b (omega (arith, on.high, top)))
none_on (suc k) j first start place bits ws t from within first_is place_is all none top i h b =
    let on = place_up first (suc k) j start ws t first_is from within in
    omega (arith, on.low, place_is, top)

pub false_from : (b : Bool) → (b ≡ true → ⊥) → b ≡ false
false_from b h = elim (cases_Bool b) [ inl e ↦ absurd (h e) | inr e ↦ e ]

-- at the top there is none
pub climb_none : (first start place bits : ℕ) (ws : List ℕ) → IsBitTree first ws → first ≤ start → start / 64 < length ws → IsClimb first start ws place bits
    → bits ≡ 0 → place / 64 ≡ 0 → (i : ℕ) → start ≤ i → has_bit ws i ≡ false
climb_none first start place bits ws t from within c none top i h =
    false_from (has_bit ws i) (λ b. none_on c.above c.below first start place bits ws t from within c.first_is c.place_is c.all none top i h b)

-- on the way down: the place that tells of the first bit
pub record IsDescent (first start : ℕ) (ws : List ℕ) (place : ℕ) : Type 0 where
  pub above : ℕ
  pub below : ℕ
  pub first_is : first ≡ 64 * level_start (above + below)
  pub on : IsOnLevel above place
  pub is : has_bit ws place ≡ true
  pub least : (p : ℕ) → start ≤ p → has_bit ws p ≡ true → place ≤ up below p
  pub ahead : (p : ℕ) → place ≤ up below p → start ≤ p

-- the lowest bit of a word
pub record IsLowestBit (word t : ℕ) : Type 0 where
  pub within : t < 64
  pub is : bit_at word t ≡ 1
  pub below : (i : ℕ) → i < t → bit_at word i ≡ 0

lowest_first : (word t i : ℕ) → IsLowestBit word t → bit_at word i ≡ 1 → t ≤ i
lowest_first word t i l h = elim (cases_lt i t) [ inl lt ↦ absurd (clear_bit word i (l.below i lt) h) | inr ge ↦ ge ]

pub descent_start : (first start place bits t : ℕ) (ws : List ℕ) → IsBitTree first ws → first ≤ start → start / 64 < length ws → IsClimb first start ws place bits
    → IsLowestBit bits t → IsDescent first start ws (place / 64 * 64 + t)
descent_start first start place bits t ws tree from within c l =
    let on = place_up first c.above c.below start ws tree c.first_is from within in
    record {
      above = c.above;
      below = c.below;
      first_is = c.first_is;
      on = record { low = omega (arith, on.low, c.place_is); high = omega (arith, on.high, c.place_is, l.within) };
      is = set_from ws (place / 64 * 64 + t) (place / 64) t (omega (arith, l.within)) (omega (arith, l.within)) (c.is t l.is);
      least = λ p h b.
          let m = up_mono c.below start p h in
          elim (cases_eq (up c.below p / 64) (place / 64)) [
            | inl same ↦ let x = lowest_first bits t (up c.below p % 64) l (c.all p h b same) in omega (arith, x, same)
            | inr apart ↦ omega (arith, apart, m, c.place_is, l.within)
          ];
      ahead = λ p le. c.ahead t p l.is le;
    }

descent_on : (k j first start place t : ℕ) (ws : List ℕ) → IsBitTree first ws → first ≡ 64 * level_start (k + j) → IsOnLevel k place → first ≤ start
    → ((p : ℕ) → start ≤ p → has_bit ws p ≡ true → place ≤ up j p) → ((p : ℕ) → place ≤ up j p → start ≤ p)
    → place < first → IsLowestBit (get_or ws (place + 1) 0) t → IsDescent first start ws ((place + 1) * 64 + t)
descent_on k zero first start place t ws tree first_is on from least ahead more l =
    let e : k + 0 ≡ k = omega arith in
    let f = first_is ∙ ap (λ n. 64 * level_start n) e in
    absurd (omega (arith, f, on.low, more))
descent_on k (suc j) first start place t ws tree first_is on from least ahead more l =
    let e : k + suc j ≡ suc k + j = omega arith in
    let f = first_is ∙ ap (λ n. 64 * level_start n) e in
    record {
      above = suc k;
      below = j;
      first_is = f;
      on = record { low = omega (arith, on.low); high = omega (arith, on.high, l.within) };
      is = set_from ws ((place + 1) * 64 + t) (place + 1) t (omega (arith, l.within)) (omega (arith, l.within)) l.is;
      least = λ p h b.
          let le = least p h b in
          let up_on = place_up first (suc k) j p ws tree f (omega arith) (within_words ws p b) in
          let some = (next_level k (up j p) up_on).0 in
          elim (cases_eq (up j p / 64) (place + 1)) [
            | inl same ↦
                let one = one_of ws (up j p) (set_up first (suc k) j p ws tree f (omega arith) b) in
                let x = lowest_first (get_or ws (place + 1) 0) t (up j p % 64) l (subst (λ w. bit_at (get_or ws w 0) (up j p % 64) ≡ 1) same one) in
                omega (arith, x, same)
            | inr apart ↦ omega (arith, apart, le, some, l.within)
          ];
      ahead = λ p le. ahead p (omega (arith, le));
    }

-- one level down
pub descent_next : (first start place t : ℕ) (ws : List ℕ) → IsBitTree first ws → first ≤ start → IsDescent first start ws place → place < first
    → IsLowestBit (get_or ws (place + 1) 0) t → IsDescent first start ws ((place + 1) * 64 + t)
descent_next first start place t ws tree from d more l =
    descent_on d.above d.below first start place t ws tree d.first_is d.on from d.least d.ahead more l

first_on : (k j first start place : ℕ) (ws : List ℕ) → first ≡ 64 * level_start (k + j) → IsOnLevel k place → has_bit ws place ≡ true
    → ((p : ℕ) → start ≤ p → has_bit ws p ≡ true → place ≤ up j p) → ((p : ℕ) → place ≤ up j p → start ≤ p) → first ≤ place → IsFirstBit ws start place
first_on k zero first start place ws first_is on is least ahead low = record {
  from = ahead place (omega arith);
  is = is;
  before = λ i h lt. false_from (has_bit ws i) (λ b. let le = least i h b in omega (arith, le));
}
first_on k (suc j) first start place ws first_is on is least ahead low =
    let e : k + suc j ≡ suc k + j = omega arith in
    let f = first_is ∙ ap (λ n. 64 * level_start n) e in
    let g = start_grows (suc k) j in
    absurd (omega (arith, f, g, on.high))

-- among the numbers
pub descent_end : (first start place : ℕ) (ws : List ℕ) → IsDescent first start ws place → first ≤ place → IsFirstBit ws start place
descent_end first start place ws d low = first_on d.above d.below first start place ws d.first_is d.on d.is d.least d.ahead low

-- the word below a bit has one
pub word_below : (first place : ℕ) (ws : List ℕ) → IsBitTree first ws → has_bit ws place ≡ true → place < first → 0 < get_or ws (place + 1) 0
word_below first place ws t b lt = some_told (get_or ws (place + 1) 0) (sym (t.tells place lt) ∙ b)

pub lowest_bit : (word : ℕ) → 0 < word → word < 2 ^ 64 → IsLowestBit word (trailing_zeros w64 word)
lowest_bit word some small = let t = bit_at-trailing_zeros w64 word some small in record { within = t.0; is = t.1; below = t.2 }
