-- Entries in pieces, page by page.
use Rattle.std.proofs.Common.{◌≡◌, ◌≢◌, ℕ, zero, suc, ◌+◌, ◌*◌, ◌/◌, ◌<◌, ◌≤◌, inl, inr, List, [], ◌∷◌, ◌++◌, Option, None, Some, length, length-set, get_or, set, replicate, refl, ap, sym, ◌∙◌, arith, get_or-set_same, get_or-set_other}
use Rattle.std.specs.Prelude.{◌%◌, false, is_some, map, option_and_then}
use Rattle.std.proofs.lemmas.Bool.{cases_lt}
use Rattle.std.proofs.lemmas.List.{ext_get_or, get_or_append_left, get_or-append-add, set-get_or, get_or-replicate, length-append, length-replicate}
use Rattle.ttm_base.specs.declared.PagePlace.{PagePlace}
use Rattle.cpu_maps.specs.Pieces.{HasPieces, count_begun, entries_from, entry_at, slot_in, slot_of}

abbrev Slots : Type 0
Slots = List (Option PagePlace)

-- ---- the list of entries

pub length_entries : (begun : List ℕ) (slots : Slots) (start n : ℕ) → length (entries_from begun slots start n) ≡ n
length_entries begun slots start zero = refl
length_entries begun slots start (suc n) = ap suc (length_entries begun slots (start + 1) n)

at_from : (begun : List ℕ) (slots : Slots) (n start k : ℕ) → k < n → get_or (entries_from begun slots start n) k None ≡ entry_at begun slots (start + k)
at_from begun slots zero start k l = absurd (omega arith)
at_from begun slots (suc n) start zero l = let e : start ≡ start + 0 = omega arith in ap (λ i. entry_at begun slots i) e
at_from begun slots (suc n) start (suc k) l =
    let e : start + 1 + k ≡ start + suc k = omega arith in at_from begun slots n (start + 1) k (omega arith) ∙ ap (λ i. entry_at begun slots i) e

pub entry_there : (begun : List ℕ) (slots : Slots) (n k : ℕ) → k < n → get_or (entries_from begun slots 0 n) k None ≡ entry_at begun slots k
entry_there begun slots n k l = let e : 0 + k ≡ k = omega arith in at_from begun slots n 0 k l ∙ ap (λ i. entry_at begun slots i) e

-- the same entry of each page
same_entries : (begun others : List ℕ) (slots more : Slots) (n : ℕ) → ((k : ℕ) → k < n → entry_at others more k ≡ entry_at begun slots k)
    → entries_from others more 0 n ≡ entries_from begun slots 0 n
same_entries begun others slots more n each =
    ext_get_or None (entries_from others more 0 n) (entries_from begun slots 0 n) (length_entries others more 0 n ∙ sym (length_entries begun slots 0 n))
    (λ k l.
    let few : k < n = omega (arith, l, length_entries others more 0 n) in
    entry_there others more n k few ∙ each k few ∙ sym (entry_there begun slots n k few))

-- ---- no slots

nothing_at : (slot : Option ℕ) → option_and_then (λ at. get_or {A = Option PagePlace} [] at None) slot ≡ None
nothing_at None = refl
nothing_at (Some at) = refl

pub no_slots : (begun : List ℕ) (start n : ℕ) → entries_from begun [] start n ≡ replicate n None
no_slots begun start zero = refl
no_slots begun start (suc n) =
    ap (λ e. e ∷ entries_from begun [] (start + 1) n) (nothing_at (slot_of begun start)) ∙ ap (λ es. None ∷ es) (no_slots begun (start + 1) n)

-- as many without a place
abbrev pub blank : Slots → Slots
blank xs = map (λ entry. None) xs

pub all_none : (xs : Slots) → blank xs ≡ replicate (length xs) None
all_none [] = refl
all_none (x ∷ xs) = ap (λ es. None ∷ es) (all_none xs)

-- what is left where all slots go
pub cleared : (begun others : List ℕ) (slots : Slots) (n : ℕ) → entries_from others [] 0 n ≡ blank (entries_from begun slots 0 n)
cleared begun others slots n =
    no_slots others 0 n ∙ sym (all_none (entries_from begun slots 0 n) ∙ ap (λ m. replicate m None) (length_entries begun slots 0 n))

-- ---- how many pieces have begun

pub none_begun : (n : ℕ) → count_begun (replicate n 0) ≡ 0
none_begun zero = refl
none_begun (suc n) = none_begun n

no_number : (n r : ℕ) → get_or {A = ℕ} (replicate n 0) r 0 ≡ 0
no_number zero r = refl
no_number (suc n) zero = refl
no_number (suc n) (suc r) = no_number n r

-- no more than there are
some_begun : (begun : List ℕ) → count_begun begun < suc (length begun)
some_begun [] = omega arith
some_begun (zero ∷ begun) = omega (arith, some_begun begun)
some_begun (suc k ∷ begun) = omega (arith, some_begun begun)

-- while one hasn't begun, fewer have than there are
pub fewer_begun : (begun : List ℕ) (r : ℕ) → r < length begun → get_or begun r 0 ≡ 0 → count_begun begun < length begun
fewer_begun [] r l none = absurd (omega arith)
fewer_begun (zero ∷ begun) zero l none = some_begun begun
fewer_begun (suc k ∷ begun) zero l none = absurd (omega (arith, none))
fewer_begun (zero ∷ begun) (suc r) l none = omega (arith, fewer_begun begun r (omega arith) none)
fewer_begun (suc k ∷ begun) (suc r) l none = omega (arith, fewer_begun begun r (omega arith) none)

-- once it has begun, one more has
pub one_more_begun : (begun : List ℕ) (r k : ℕ) → r < length begun → get_or begun r 0 ≡ 0 → count_begun (set begun r (suc k)) ≡ suc (count_begun begun)
one_more_begun [] r k l none = absurd (omega arith)
one_more_begun (zero ∷ begun) zero k l none = refl
one_more_begun (suc n ∷ begun) zero k l none = absurd (omega (arith, none))
one_more_begun (zero ∷ begun) (suc r) k l none = one_more_begun begun r k (omega arith) none
one_more_begun (suc n ∷ begun) (suc r) k l none = ap suc (one_more_begun begun r k (omega arith) none)

-- where none has begun
pub has_none : (begun : List ℕ) (slots : Slots) (rows n capacity : ℕ) → begun ≡ replicate rows 0 → slots ≡ [] → n ≤ rows * 16 → rows < 4294967296 → rows * 16 ≤ capacity
    → HasPieces begun slots n capacity
has_none begun slots rows n capacity zeros empty wide few room =
    let l : length begun ≡ rows = ap (λ (xs : List ℕ). length xs) zeros ∙ length-replicate rows 0 in
    let s : length slots ≡ 0 = ap (λ (xs : Slots). length xs) empty in
    let c : count_begun begun ≡ 0 = ap (λ (xs : List ℕ). count_begun xs) zeros ∙ none_begun rows in
    let z : (r : ℕ) → get_or begun r 0 ≡ 0 = λ r. ap (λ (xs : List ℕ). get_or xs r 0) zeros ∙ no_number rows r in
    record {
      rows = omega (arith, l, wide);
      few = omega (arith, l, few);
      full = omega (arith, s, c);
      room = omega (arith, l, room);
      inside = λ r. let y = z r in omega (arith, y);
      apart = λ r s e p. let y = z r in absurd (omega (arith, y, p));
    }

-- ---- slots

-- the slot of a page is that of its number
record IsSlot (number at slot : ℕ) : Type 0 where
  begins : 0 < number
  there : number * 16 + at ≡ slot + 16

slot_is : (number at slot : ℕ) → slot_in number at ≡ Some slot → IsSlot number at slot
slot_is zero at slot e = cc
slot_is (suc k) at slot e = let f : k * 16 + at ≡ slot = cc in record { begins = omega arith; there = omega (arith, f) }

pub no_slot : (number at : ℕ) → slot_in number at ≡ None → number ≡ 0
no_slot zero at e = refl
no_slot (suc k) at e = cc

pub no_place : {X : Type 0} (entry : Option X) → is_some entry ≡ false → entry ≡ None
no_place None e = refl
no_place (Some x) e = cc

module _ (begun : List ℕ) (slots : Slots) (n capacity : ℕ) (has : HasPieces begun slots n capacity) where
  pub slot_there : (page slot : ℕ) → slot_of begun page ≡ Some slot → slot < length slots
  slot_there page slot e =
      let s = slot_is (get_or begun (page / 16) 0) (page % 16) slot e in
      let b = s.begins in
      let t = s.there in
      let i = has.inside (page / 16) in
      let f = has.full in
      omega (arith, b, t, i, f)

  one_page : (page other slot : ℕ) → slot_of begun page ≡ Some slot → slot_of begun other ≡ Some slot → page ≡ other
  one_page page other slot e f =
      let s = slot_is (get_or begun (page / 16) 0) (page % 16) slot e in
      let r = slot_is (get_or begun (other / 16) 0) (other % 16) slot f in
      let b = s.begins in
      let t = s.there in
      let u = r.there in
      let same : get_or begun (page / 16) 0 ≡ get_or begun (other / 16) 0 = omega (arith, t, u) in
      let at : page % 16 ≡ other % 16 = omega (arith, t, u, same) in
      let piece = has.apart (page / 16) (other / 16) same b in
      omega (arith, at, piece)

  -- an entry that is set in its slot
  pub slot_set : (page slot : ℕ) (entry : Option PagePlace) → page < n → slot_of begun page ≡ Some slot
      → entries_from begun (set slots slot entry) 0 n ≡ set (entries_from begun slots 0 n) page entry
  slot_set page slot entry below e =
      ext_get_or None (entries_from begun after 0 n) (set before page entry)
      (length_entries begun after 0 n ∙ sym (length_entries begun slots 0 n) ∙ sym (length-set before page entry))
      (λ k l. each k (omega (arith, l, length_entries begun after 0 n)))
    where
      after : Slots
      after = set slots slot entry

      before : Slots
      before = entries_from begun slots 0 n

      there : entry_at begun after page ≡ entry
      there = ap (λ s. option_and_then (λ at. get_or after at None) s) e ∙ get_or-set_same slots slot entry None (slot_there page slot e)

      in_slot : (k : ℕ) (s : Option ℕ) → slot_of begun k ≡ s → k ≢ page → option_and_then (λ at. get_or after at None) s ≡ option_and_then (λ at. get_or slots at None) s
      in_slot k None f ne = refl
      in_slot k (Some at) f ne = get_or-set_other slots slot at entry None (λ same. ne (one_page k page slot (f ∙ ap Some same) e))

      apart_from : (k : ℕ) → k < n → k ≢ page → get_or (entries_from begun after 0 n) k None ≡ get_or (set before page entry) k None
      apart_from k l ne =
          entry_there begun after n k l ∙ in_slot k (slot_of begun k) refl ne ∙ sym (entry_there begun slots n k l)
          ∙ sym (get_or-set_other before page k entry None ne)

      here : (k : ℕ) → k < n → k ≡ page → get_or (entries_from begun after 0 n) k None ≡ get_or (set before page entry) k None
      here k l same =
          let few : page < length before = omega (arith, below, length_entries begun slots 0 n) in
          entry_there begun after n k l ∙ ap (λ i. entry_at begun after i) same ∙ there
          ∙ sym (ap (λ i. get_or (set before page entry) i None) same ∙ get_or-set_same before page entry None few)

      each : (k : ℕ) → k < n → get_or (entries_from begun after 0 n) k None ≡ get_or (set before page entry) k None
      each k l =
          elim (cases_lt k page) [
            | inl u ↦ apart_from k l (λ e. omega (arith, e, u))
            | inr u ↦ elim (cases_lt page k) [
              | inl v ↦ apart_from k l (λ e. omega (arith, e, v))
              | inr v ↦ here k l (omega (arith, u, v))
            ]
          ]

  -- no entry where there is no slot
  pub no_entry : (page : ℕ) → page < n → slot_of begun page ≡ None → set (entries_from begun slots 0 n) page None ≡ entries_from begun slots 0 n
  no_entry page below e =
      let was = entry_there begun slots n page below ∙ ap (λ s. option_and_then (λ at. get_or slots at None) s) e in
      ap (λ x. set (entries_from begun slots 0 n) page x) (sym was) ∙ set-get_or (entries_from begun slots 0 n) page None

  -- the slots once one was set
  pub slots_set : (slot : ℕ) (entry : Option PagePlace) → HasPieces begun (set slots slot entry) n capacity
  slots_set slot entry = record {
    rows = has.rows;
    few = has.few;
    full = length-set slots slot entry ∙ has.full;
    room = has.room;
    inside = has.inside;
    apart = has.apart;
  }

-- a piece that begins
module _ (begun : List ℕ) (slots : Slots) (n capacity piece : ℕ) (has : HasPieces begun slots n capacity) (within : piece < length begun) (none : get_or begun piece 0 ≡ 0) where
  abbrev numbered : List ℕ
  numbered = set begun piece (suc (count_begun begun))

  abbrev longer : Slots
  longer = slots ++ replicate 16 None

  this_row : (r : ℕ) → r ≡ piece → get_or numbered r 0 ≡ suc (count_begun begun)
  this_row r e = ap (λ i. get_or numbered i 0) e ∙ get_or-set_same begun piece (suc (count_begun begun)) 0 within

  other_row : (r : ℕ) → r ≢ piece → get_or numbered r 0 ≡ get_or begun r 0
  other_row r ne = get_or-set_other begun piece r (suc (count_begun begun)) 0 ne

  either : {P : Type 0} (r : ℕ) → (r ≡ piece → P) → (r ≢ piece → P) → P
  either r same other =
      elim (cases_lt r piece) [
        | inl u ↦ other (λ e. omega (arith, e, u))
        | inr u ↦ elim (cases_lt piece r) [
          | inl v ↦ other (λ e. omega (arith, e, v))
          | inr v ↦ same (omega (arith, u, v))
        ]
      ]

  pub room_for_one : count_begun begun * 16 + 16 ≤ capacity
  room_for_one = let f = fewer_begun begun piece within none in let r = has.room in omega (arith, f, r)

  more : count_begun numbered ≡ suc (count_begun begun)
  more = one_more_begun begun piece (count_begun begun) within none

  inside_more : (r : ℕ) → get_or numbered r 0 ≤ count_begun numbered
  inside_more r =
      let m = more in
      let i = has.inside r in
      either r (λ e. let t = this_row r e in omega (arith, t, m)) (λ ne. let o = other_row r ne in omega (arith, o, i, m))

  apart_more : (r s : ℕ) → get_or numbered r 0 ≡ get_or numbered s 0 → 0 < get_or numbered r 0 → r ≡ s
  apart_more r s e p =
      let i = has.inside r in
      let j = has.inside s in
      either r
      (λ x. either s (λ y. x ∙ sym y) (λ y. let t = this_row r x in let o = other_row s y in absurd (omega (arith, t, o, e, j))))
      (λ x.
      let o = other_row r x in
      either s (λ y. let t = this_row s y in absurd (omega (arith, t, o, e, i)))
      (λ y. has.apart r s (sym o ∙ e ∙ other_row s y) (omega (arith, o, p))))

  pub has_one_more : (wider : ℕ) → capacity ≤ wider → HasPieces numbered longer n wider
  has_one_more wider wide =
      let l = length-set begun piece (suc (count_begun begun)) in
      let a = length-append slots (replicate 16 None) in
      let z : length {A = Option PagePlace} (replicate 16 None) ≡ 16 = length-replicate {A = Option PagePlace} 16 None in
      let m = more in
      let h = has.rows in
      let w = has.few in
      let f = has.full in
      let o = has.room in
      record {
        rows = omega (arith, l, h);
        few = omega (arith, l, w);
        full = omega (arith, a, z, m, f);
        room = omega (arith, l, o, wide);
        inside = inside_more;
        apart = apart_more;
      }

  pub begun_slot : (page : ℕ) → page / 16 ≡ piece → slot_of numbered page ≡ Some (count_begun begun * 16 + page % 16)
  begun_slot page e = ap (λ number. slot_in number (page % 16)) (this_row (page / 16) e)

  in_longer : (k : ℕ) (s : Option ℕ) → slot_of begun k ≡ s → option_and_then (λ at. get_or longer at None) s ≡ option_and_then (λ at. get_or slots at None) s
  in_longer k None e = refl
  in_longer k (Some at) e = get_or_append_left slots (replicate 16 None) None at (slot_there begun slots n capacity has k at e)

  in_new : (k : ℕ) → k / 16 ≡ piece → entry_at numbered longer k ≡ entry_at begun slots k
  in_new k e =
      let f : count_begun begun * 16 + k % 16 ≡ length slots + k % 16 = ap (λ m. m + k % 16) (sym has.full) in
      ap (λ s. option_and_then (λ at. get_or longer at None) s) (begun_slot k e)
      ∙ (ap (λ at. get_or longer at None) f ∙ get_or-append-add slots (replicate 16 None) (k % 16) None ∙ get_or-replicate 16 (k % 16) None None (omega arith))
      ∙ sym (ap (λ number. option_and_then (λ at. get_or slots at None) (slot_in number (k % 16))) (ap (λ r. get_or begun r 0) e ∙ none))

  in_old : (k : ℕ) → k / 16 ≢ piece → entry_at numbered longer k ≡ entry_at begun slots k
  in_old k ne =
      ap (λ number. option_and_then (λ at. get_or longer at None) (slot_in number (k % 16))) (other_row (k / 16) ne) ∙ in_longer k (slot_of begun k) refl

  pub same_begun : entries_from numbered longer 0 n ≡ entries_from begun slots 0 n
  same_begun = same_entries begun numbered slots longer n (λ k l. either (k / 16) (in_new k) (in_old k))
