-- Places and lists of places that were written are read.
use Rattle.std.proofs.Common.{◌≡◌, ℕ, ◌<◌, ◌≤◌, ◌^◌, Bool, true, false, cond, eqb, ltb, List, [], ◌∷◌, ◌++◌, length, map, Some, None, refl, sym, ap, ◌∙◌, append_assoc, arith}
use Rattle.std.specs.Prelude.{◌&&◌, ◌||◌, not, codes, decimal, nat_le, nat_lt}
use Rattle.std.specs.List.{list_any, list_all}
use Rattle.std.proofs.lemmas.Bool.Decides.{nat_tests}
use Rattle.std.proofs.lemmas.List.{append-nil}
use Rattle.std.proofs.lemmas.List.Folds.{list_all-append}
use Rattle.std.proofs.lemmas.Fmt.{digits_decimal, decimal_nonempty}
use Rattle.ttm_base.specs.declared.Mem.{Mem}
use Rattle.ttm_base.specs.declared.Mem.TheVariants.{System, Tt, Vram}
use Rattle.ttm_base.specs.declared.Place.{Place}
use Rattle.ttm_base.specs.declared.FlaggedPlace.{FlaggedPlace}
use Rattle.journal_model.specs.declared.line.Flags.{Flags}
use Rattle.journal_model.specs.declared.line.PlaceWord.{PlaceWord}
use Rattle.journal_model.specs.declared.line.PlaceWord.TheVariants as read_as
use Rattle.journal_model.specs.scripts.Words.{Text, mem_word}
use Rattle.journal_model.specs.scripts.Cut.{cut_at}
use Rattle.journal_model.specs.scripts.Spelling.{flag, reach_word, place_word, flagged_word, words_of_places}
use Rattle.journal_model.specs.scripts.ScriptRules.{is_letter_or_digit, is_place_of, is_place, is_flagged}
use Rattle.journal_model.specs.scripts.Reading.{number_in, flags_of, flagged, ranged, is_system, is_digit, reach_place, based_place, at_place, plus_place, place_word_of, places_of}
use Rattle.journal_model.specs.scripts.LineWords.{is_empty}
use Rattle.law_legal.proofs.law_script.CutLaws.{lacks, cut_free, cut_append, cut_again}
use Rattle.law_legal.proofs.law_script.NumberLaws.{own, number_again}
use Rattle.law_legal.proofs.law_script.WordLaws.{mem_again}
use Rattle.law_legal.proofs.law_script.PlaceLaws.{all_flags}
use Rattle.law_legal.proofs.law_script.PlaceAgain.{lacks_by, flag_list, flags_again, fallback_again, bare_again, cut_flags}
use Rattle.law_legal.proofs.law_script.Solid.{is_solid, is_word}
use Rattle.law_legal.proofs.law_items.Tests.{either, both, joint, three_facts, three_false, le_is}
use Rattle.law_legal.proofs.law_script.Solid.{not_empty}
use Rattle.law_legal.proofs.law_items.ListFacts.{length_map}

-- ---- the bytes of a place

-- before the flags
abbrev is_base_byte : ℕ → Bool
is_base_byte b = is_letter_or_digit b || eqb b 64 || eqb b 45

abbrev is_place_byte : ℕ → Bool
is_place_byte b = is_base_byte b || eqb b 43

implied : (p q : ℕ → Bool) (xs : Text) → ((x : ℕ) → p x ≡ true → q x ≡ true) → list_all p xs ≡ true → list_all q xs ≡ true
implied p q [] h k = refl
implied p q (x ∷ xs) h k = let f = both (p x) (list_all p xs) k in joint (q x) (list_all q xs) (h x f.0) (implied p q xs h f.1)

digit_base : (c : ℕ) → is_digit c ≡ true → is_base_byte c ≡ true
digit_base c h = grind (arith, nat_tests, h)

base_place : (c : ℕ) → is_base_byte c ≡ true → is_place_byte c ≡ true
base_place c h = ap (λ b. b || eqb c 43) h

place_solid_byte : (c : ℕ) → is_place_byte c ≡ true → is_solid c ≡ true
place_solid_byte c h = grind (arith, nat_tests, h)

digits_base : (n : ℕ) → n < 2 ^ 64 → list_all is_base_byte (decimal n) ≡ true
digits_base n h = implied is_digit is_base_byte (decimal n) digit_base (digits_decimal own n h)

mem_base : (mem : Mem) → list_all is_base_byte (mem_word mem) ≡ true
mem_base System = refl
mem_base Tt = refl
mem_base Vram = refl

-- ---- a reach

-- both pages, with what stands between
abbrev pages_word : ℕ → ℕ → Text
pages_word x y = decimal x ++ 45 ∷ decimal y

reach_text : (x y : ℕ) → codes "@" ++ decimal x ++ codes "-" ++ decimal y ≡ 64 ∷ pages_word x y
reach_text x y = ap (λ t. t ++ decimal y) (append_assoc (codes "@") (decimal x) (codes "-")) ∙ ap (λ t. 64 ∷ t) (append_assoc (decimal x) (codes "-") (decimal y))

pages_base : (x y : ℕ) → x < 2 ^ 64 → y < 2 ^ 64 → list_all is_base_byte (pages_word x y) ≡ true
pages_base x y h k = list_all-append is_base_byte (decimal x) (45 ∷ decimal y) ∙ joint (list_all is_base_byte (decimal x)) (list_all is_base_byte (45 ∷ decimal y)) (digits_base x h) (digits_base y k)

digits_lack : (c n : ℕ) → is_digit c ≡ false → n < 2 ^ 64 → list_any (λ b. eqb b c) (decimal n) ≡ false
digits_lack c n nay h = lacks_by is_digit c (decimal n) nay (digits_decimal own n h)

any_append : (p : ℕ → Bool) (xs ys : Text) → list_any p xs ≡ false → list_any p ys ≡ false → list_any p (xs ++ ys) ≡ false
any_append p [] ys h k = k
any_append p (x ∷ xs) ys h k = let f = either (p x) (list_any p xs) h in ap (λ b. b || list_any p (xs ++ ys)) f.0 ∙ any_append p xs ys f.1 k

pages_lack_at : (x y : ℕ) → x < 2 ^ 64 → y < 2 ^ 64 → list_any (λ b. eqb b 64) (pages_word x y) ≡ false
pages_lack_at x y h k = any_append (λ b. eqb b 64) (decimal x) (45 ∷ decimal y) (digits_lack 64 x refl h) (digits_lack 64 y refl k)

cut_pages : (x y : ℕ) → x < 2 ^ 64 → y < 2 ^ 64 → cut_at 45 (pages_word x y) ≡ decimal x ∷ decimal y ∷ []
cut_pages x y h k = cut_append (λ b. eqb b 45) (decimal x) 45 (decimal y) (digits_lack 45 x refl h) refl ∙ ap (λ ps. decimal x ∷ ps) (cut_free (λ b. eqb b 45) (decimal y) (digits_lack 45 y refl k))

-- ---- the word before the flags

abbrev base_word : Place → Text
base_word p = mem_word p.mem ++ reach_word p.first p.last

cut_mem : (mem : Mem) → cut_at 64 (mem_word mem) ≡ mem_word mem ∷ []
cut_mem System = refl
cut_mem Tt = refl
cut_mem Vram = refl

cut_mem_reach : (mem : Mem) (r : Text) → list_any (λ b. eqb b 64) r ≡ false → cut_at 64 (mem_word mem ++ 64 ∷ r) ≡ mem_word mem ∷ r ∷ []
cut_mem_reach System r h = cut_append (λ b. eqb b 64) (mem_word System) 64 r refl refl ∙ ap (λ ps. mem_word System ∷ ps) (cut_free (λ b. eqb b 64) r h)
cut_mem_reach Tt r h = cut_append (λ b. eqb b 64) (mem_word Tt) 64 r refl refl ∙ ap (λ ps. mem_word Tt ∷ ps) (cut_free (λ b. eqb b 64) r h)
cut_mem_reach Vram r h = cut_append (λ b. eqb b 64) (mem_word Vram) 64 r refl refl ∙ ap (λ ps. mem_word Vram ∷ ps) (cut_free (λ b. eqb b 64) r h)

-- a place without a reach
whole_again : (mem : Mem) (f : Flags) → at_place (cut_at 64 (mem_word mem ++ [])) (Some f) ≡ flagged mem 0 0 f
whole_again mem f =
    ap (λ t. at_place (cut_at 64 t) (Some f)) (append-nil (mem_word mem)) ∙ ap (λ ps. at_place ps (Some f)) (cut_mem mem) ∙ ap (λ m. based_place m None (Some f)) (mem_again mem)

some_pages : (w : Text) → 0 < length w → eqb (length w) 0 ≡ false
some_pages w h = grind (arith, nat_tests, h)

-- the place of a reach that is written
reach_again : (mem : Mem) (x y : ℕ) (f : Flags) → is_system mem ≡ false → x ≤ 16384 → y ≤ 16384 → ((eqb y 0 && not (eqb x 0)) || ltb x y) ≡ true
    → at_place (cut_at 64 (mem_word mem ++ 64 ∷ pages_word x y)) (Some f) ≡ flagged mem x y f
reach_again mem x y f s h k right =
    let a : x < 2 ^ 64 = omega (arith, h) in
    let b : y < 2 ^ 64 = omega (arith, k) in
    ap (λ ps. at_place ps (Some f)) (cut_mem_reach mem (pages_word x y) (pages_lack_at x y a b))
    ∙ ap (λ m. based_place m (Some (pages_word x y)) (Some f)) (mem_again mem)
    ∙ ap (λ ps. reach_place mem ps f) (cut_pages x y a b)
    ∙ ap (λ t. cond t read_as.Malformed (ranged mem (number_in 0 16384 (decimal x)) (number_in 0 16384 (decimal y)) f))
    (three_false (is_system mem) (eqb (length (decimal x)) 0) (eqb (length (decimal y)) 0) s (some_pages (decimal x) (decimal_nonempty x a)) (some_pages (decimal y) (decimal_nonempty y b)))
    ∙ ap (λ n. ranged mem n (number_in 0 16384 (decimal y)) f) (number_again 0 16384 x (omega arith) (omega arith) h)
    ∙ ap (λ n. ranged mem (Some x) n f) (number_again 0 16384 y (omega arith) (omega arith) k)
    ∙ ap (λ t. cond t (flagged mem x y f) read_as.Malformed) right

-- ---- a place

-- all that the base of a place says
abbrev IsBase : Place → Type 0
IsBase p = (f : Flags) → at_place (cut_at 64 (base_word p)) (Some f) ≡ flagged p.mem p.first p.last f

right_order : (x y : ℕ) → (eqb y 0 || nat_lt x y) ≡ true → (eqb x 0 && eqb y 0) ≡ false → ((eqb y 0 && not (eqb x 0)) || ltb x y) ≡ true
right_order x y h k = grind (arith, nat_tests, h, k)

zeros : (x y : ℕ) → (eqb x 0 && eqb y 0) ≡ true → (x ≡ 0) × (y ≡ 0)
zeros x y h = (grind (arith, nat_tests, h), grind (arith, nat_tests, h))

-- by whether all of the memory type is meant
by_reach : (mem : Mem) (x y : ℕ) (t : Bool) (f : Flags) → (eqb x 0 && eqb y 0) ≡ t → is_system mem ≡ false → x ≤ 16384 → y ≤ 16384 → (eqb y 0 || nat_lt x y) ≡ true
    → at_place (cut_at 64 (mem_word mem ++ flag (not t) (codes "@" ++ decimal x ++ codes "-" ++ decimal y))) (Some f) ≡ flagged mem x y f
by_reach mem x y true f e s h k o =
    let z = zeros x y e in
    whole_again mem f ∙ ap (λ n. flagged mem n 0 f) (sym z.0) ∙ ap (λ n. flagged mem x n f) (sym z.1)
by_reach mem x y false f e s h k o =
    ap (λ w. at_place (cut_at 64 (mem_word mem ++ w)) (Some f)) (reach_text x y) ∙ reach_again mem x y f s h k (right_order x y o e)

ranged_base : (mem : Mem) (p : Place) (f : Flags) → p.mem ≡ mem → is_system mem ≡ false → (nat_le p.first 16384 && nat_le p.last 16384 && (eqb p.last 0 || nat_lt p.first p.last)) ≡ true
    → at_place (cut_at 64 (mem_word mem ++ reach_word p.first p.last)) (Some f) ≡ flagged mem p.first p.last f
ranged_base mem p f e s h =
    let g = three_facts (nat_le p.first 16384) (nat_le p.last 16384) (eqb p.last 0 || nat_lt p.first p.last) h in
    by_reach mem p.first p.last (eqb p.first 0 && eqb p.last 0) f refl s (le_is p.first 16384 g.0) (le_is p.last 16384 g.1) g.2

whole_base : (p : Place) (f : Flags) → (eqb p.first 0 && eqb p.last 0) ≡ true → at_place (cut_at 64 (mem_word System ++ reach_word p.first p.last)) (Some f) ≡ flagged System p.first p.last f
whole_base p f h =
    let z = zeros p.first p.last h in
    ap (λ b. at_place (cut_at 64 (mem_word System ++ flag (not b) (codes "@" ++ decimal p.first ++ codes "-" ++ decimal p.last))) (Some f)) h
    ∙ whole_again System f ∙ ap (λ n. flagged System n 0 f) (sym z.0) ∙ ap (λ n. flagged System p.first n f) (sym z.1)

base_of : (mem : Mem) (p : Place) (f : Flags) → p.mem ≡ mem → is_place_of mem p ≡ true → at_place (cut_at 64 (mem_word mem ++ reach_word p.first p.last)) (Some f) ≡ flagged mem p.first p.last f
base_of System p f e h = whole_base p f h
base_of Tt p f e h = ranged_base Tt p f e refl h
base_of Vram p f e h = ranged_base Vram p f e refl h

base_again : (p : Place) → is_place p ≡ true → IsBase p
base_again p h f = base_of p.mem p f refl h

-- ---- the bytes of the base

reach_bytes : (x y : ℕ) (t : Bool) → x ≤ 16384 → y ≤ 16384 → list_all is_base_byte (flag t (codes "@" ++ decimal x ++ codes "-" ++ decimal y)) ≡ true
reach_bytes x y false h k = refl
reach_bytes x y true h k = ap (list_all is_base_byte) (reach_text x y) ∙ pages_base x y (omega (arith, h)) (omega (arith, k))

small_of : (mem : Mem) (p : Place) → is_place_of mem p ≡ true → (p.first ≤ 16384) × (p.last ≤ 16384)
small_of System p h = let z = zeros p.first p.last h in (let a = z.0 in omega (arith, a), let b = z.1 in omega (arith, b))
small_of Tt p h = let g = three_facts (nat_le p.first 16384) (nat_le p.last 16384) (eqb p.last 0 || nat_lt p.first p.last) h in (le_is p.first 16384 g.0, le_is p.last 16384 g.1)
small_of Vram p h = let g = three_facts (nat_le p.first 16384) (nat_le p.last 16384) (eqb p.last 0 || nat_lt p.first p.last) h in (le_is p.first 16384 g.0, le_is p.last 16384 g.1)

base_bytes : (p : Place) → is_place p ≡ true → list_all is_base_byte (base_word p) ≡ true
base_bytes p h =
    let g = small_of p.mem p h in
    list_all-append is_base_byte (mem_word p.mem) (reach_word p.first p.last)
    ∙ joint (list_all is_base_byte (mem_word p.mem)) (list_all is_base_byte (reach_word p.first p.last)) (mem_base p.mem) (reach_bytes p.first p.last (not (eqb p.first 0 && eqb p.last 0)) g.0 g.1)

base_lacks_plus : (p : Place) → is_place p ≡ true → lacks 43 (base_word p) ≡ true
base_lacks_plus p h = ap not (lacks_by is_base_byte 43 (base_word p) refl (base_bytes p h))

-- ---- a place with its flags

abbrev flags_in : FlaggedPlace → Flags
flags_in f = record { topdown = f.place.topdown; contig = f.place.contig; desired = f.desired; fallback = f.fallback }

place_parts : (f : FlaggedPlace) → flagged_word f ≡ base_word f.place ++ all_flags (flags_in f)
place_parts f = grind (arith, append_assoc)

by_flags : (t c d e : Bool) → not (d && e) ≡ true → let f : Flags = record { topdown = t; contig = c; desired = d; fallback = e } in flags_of true (flag_list f) ≡ Some f
by_flags t c d false h = flags_again t c d
by_flags t c false true h = fallback_again t c
by_flags t c true true h = absurd cc

-- a place of version 2 is read
place_again : (f : FlaggedPlace) → is_flagged f ≡ true → place_word_of true (flagged_word f) ≡ read_as.Is f
place_again f h =
    let g = both (is_place f.place) (not (f.desired && f.fallback)) h in
    ap (λ t. plus_place true (cut_at 43 t)) (place_parts f)
    ∙ ap (plus_place true) (cut_flags (base_word f.place) (flags_in f) (base_lacks_plus f.place g.0))
    ∙ ap (at_place (cut_at 64 (base_word f.place))) (by_flags f.place.topdown f.place.contig f.desired f.fallback g.1)
    ∙ base_again f.place g.0 (flags_in f)

-- a place without a flag of its own
abbrev pub unflagged_place : Place → FlaggedPlace
unflagged_place p = record { place = p; desired = false; fallback = false }

-- a place of version 1 is read
old_place_again : (p : Place) → is_place p ≡ true → place_word_of false (place_word p) ≡ read_as.Is (unflagged_place p)
old_place_again p h =
    let f = unflagged_place p in
    let same : place_word p ≡ flagged_word f = sym (append-nil (place_word p ++ []) ∙ append-nil (place_word p)) in
    ap (λ t. plus_place false (cut_at 43 t)) (same ∙ place_parts f)
    ∙ ap (plus_place false) (cut_flags (base_word p) (flags_in f) (base_lacks_plus p h))
    ∙ ap (at_place (cut_at 64 (base_word p))) (bare_again p.topdown p.contig)
    ∙ base_again p h (flags_in f)

-- ---- the bytes of a place

flag_bytes : (b : Bool) (w : Text) → list_all is_place_byte w ≡ true → list_all is_place_byte (flag b w) ≡ true
flag_bytes true w h = h
flag_bytes false w h = refl

append_all : (p : ℕ → Bool) (xs ys : Text) → list_all p xs ≡ true → list_all p ys ≡ true → list_all p (xs ++ ys) ≡ true
append_all p xs ys h k = list_all-append p xs ys ∙ joint (list_all p xs) (list_all p ys) h k

place_bytes : (p : Place) → is_place p ≡ true → list_all is_place_byte (place_word p) ≡ true
place_bytes p h =
    append_all is_place_byte (base_word p ++ flag p.topdown (codes "+top")) (flag p.contig (codes "+contig"))
    (append_all is_place_byte (base_word p) (flag p.topdown (codes "+top")) (implied is_base_byte is_place_byte (base_word p) base_place (base_bytes p h)) (flag_bytes p.topdown (codes "+top") refl)) (flag_bytes p.contig (codes "+contig") refl)

flagged_bytes : (f : FlaggedPlace) → is_flagged f ≡ true → list_all is_place_byte (flagged_word f) ≡ true
flagged_bytes f h =
    append_all is_place_byte (place_word f.place ++ flag f.desired (codes "+desired")) (flag f.fallback (codes "+fallback"))
    (append_all is_place_byte (place_word f.place) (flag f.desired (codes "+desired")) (place_bytes f.place (both (is_place f.place) (not (f.desired && f.fallback)) h).0) (flag_bytes f.desired (codes "+desired") refl)) (flag_bytes f.fallback (codes "+fallback") refl)

longer : (xs ys : Text) → 0 < length xs → 0 < length (xs ++ ys)
longer [] ys h = absurd (omega (arith, h))
longer (x ∷ xs) ys h = omega arith

mem_some : (mem : Mem) → 0 < length (mem_word mem)
mem_some System = omega arith
mem_some Tt = omega arith
mem_some Vram = omega arith

place_some : (p : Place) → 0 < length (place_word p)
place_some p = longer (base_word p ++ flag p.topdown (codes "+top")) (flag p.contig (codes "+contig")) (longer (base_word p) (flag p.topdown (codes "+top")) (longer (mem_word p.mem) (reach_word p.first p.last) (mem_some p.mem)))

flagged_some : (f : FlaggedPlace) → 0 < length (flagged_word f)
flagged_some f = longer (place_word f.place ++ flag f.desired (codes "+desired")) (flag f.fallback (codes "+fallback")) (longer (place_word f.place) (flag f.desired (codes "+desired")) (place_some f.place))

-- ---- lists

-- what a word of a list is: bytes of places, and not empty
abbrev is_list_word : Text → Bool
is_list_word w = nat_lt 0 (length w) && list_all is_place_byte w

list_word : (w : Text) → 0 < length w → list_all is_place_byte w ≡ true → is_list_word w ≡ true
list_word w some h = joint (nat_lt 0 (length w)) (list_all is_place_byte w) (grind (arith, nat_tests)) h

words_lack_comma : (ws : List Text) → list_all is_list_word ws ≡ true → list_all (lacks 44) ws ≡ true
words_lack_comma [] h = refl
words_lack_comma (w ∷ ws) h =
    let f = both (is_list_word w) (list_all is_list_word ws) h in
    joint (lacks 44 w) (list_all (lacks 44) ws) (ap not (lacks_by is_place_byte 44 w refl (both (nat_lt 0 (length w)) (list_all is_place_byte w) f.0).1)) (words_lack_comma ws f.1)

some_solid : (w : Text) → is_list_word w ≡ true → (0 < length w) × (list_all is_solid w ≡ true)
some_solid w h = let f = both (nat_lt 0 (length w)) (list_all is_place_byte w) h in (grind (arith, nat_tests, f), implied is_place_byte is_solid w place_solid_byte f.1)

joined_solid : (ws : List Text) → list_all is_list_word ws ≡ true → list_all is_solid (words_of_places ws) ≡ true
joined_solid [] h = refl
joined_solid (w ∷ []) h = (some_solid w (both (is_list_word w) true h).0).1
joined_solid (w ∷ v ∷ ws) h =
    let f = both (is_list_word w) (list_all is_list_word (v ∷ ws)) h in
    append_all is_solid w (44 ∷ words_of_places (v ∷ ws)) (some_solid w f.0).1 (joined_solid (v ∷ ws) f.1)

joined_some : (ws : List Text) → 0 < length ws → list_all is_list_word ws ≡ true → 0 < length (words_of_places ws)
joined_some [] s h = absurd (omega (arith, s))
joined_some (w ∷ []) s h = (some_solid w (both (is_list_word w) true h).0).0
joined_some (w ∷ v ∷ ws) s h = longer w (44 ∷ words_of_places (v ∷ ws)) (some_solid w (both (is_list_word w) (list_all is_list_word (v ∷ ws)) h).0).0

list_solid : (ws : List Text) → 0 < length ws → list_all is_list_word ws ≡ true → is_word (words_of_places ws) ≡ true
list_solid ws some h = joint (not (is_empty (words_of_places ws))) (list_all is_solid (words_of_places ws)) (not_empty (words_of_places ws) (joined_some ws some h)) (joined_solid ws h)

cut_list : (ws : List Text) → 0 < length ws → list_all is_list_word ws ≡ true → cut_at 44 (words_of_places ws) ≡ ws
cut_list [] s h = absurd (omega (arith, s))
cut_list (w ∷ ws) s h = cut_again 44 w ws (words_lack_comma (w ∷ ws) h)

flagged_list : (fs : List FlaggedPlace) → list_all is_flagged fs ≡ true → list_all is_list_word (map flagged_word fs) ≡ true
flagged_list [] h = refl
flagged_list (f ∷ fs) h =
    let g = both (is_flagged f) (list_all is_flagged fs) h in
    joint (is_list_word (flagged_word f)) (list_all is_list_word (map flagged_word fs)) (list_word (flagged_word f) (flagged_some f) (flagged_bytes f g.0)) (flagged_list fs g.1)

place_list : (ps : List Place) → list_all is_place ps ≡ true → list_all is_list_word (map place_word ps) ≡ true
place_list [] h = refl
place_list (p ∷ ps) h =
    let g = both (is_place p) (list_all is_place ps) h in
    joint (is_list_word (place_word p)) (list_all is_list_word (map place_word ps)) (list_word (place_word p) (place_some p) (place_bytes p g.0)) (place_list ps g.1)

-- a word that is a place
abbrev pub there : FlaggedPlace → PlaceWord
there f = read_as.Is f

each_flagged : (fs : List FlaggedPlace) → list_all is_flagged fs ≡ true → map (place_word_of true) (map flagged_word fs) ≡ map there fs
each_flagged [] h = refl
each_flagged (f ∷ fs) h =
    let g = both (is_flagged f) (list_all is_flagged fs) h in
    ap (λ x. x ∷ map (place_word_of true) (map flagged_word fs)) (place_again f g.0) ∙ ap (λ xs. there f ∷ xs) (each_flagged fs g.1)

each_place : (ps : List Place) → list_all is_place ps ≡ true → map (place_word_of false) (map place_word ps) ≡ map (λ p. there (unflagged_place p)) ps
each_place [] h = refl
each_place (p ∷ ps) h =
    let g = both (is_place p) (list_all is_place ps) h in
    ap (λ x. x ∷ map (place_word_of false) (map place_word ps)) (old_place_again p g.0) ∙ ap (λ xs. there (unflagged_place p) ∷ xs) (each_place ps g.1)

-- the list of version 2 is read, and is a word
pub new_list_again : (fs : List FlaggedPlace) → 0 < length fs → list_all is_flagged fs ≡ true → (places_of true (words_of_places (map flagged_word fs)) ≡ map there fs) × (is_word (words_of_places (map flagged_word fs)) ≡ true)
new_list_again fs some h =
    let e = length_map flagged_word fs in
    let s : 0 < length (map flagged_word fs) = omega (arith, e, some) in
    let l = flagged_list fs h in
    (ap (map (place_word_of true)) (cut_list (map flagged_word fs) s l) ∙ each_flagged fs h, list_solid (map flagged_word fs) s l)

-- a list of version 1 is read, and is a word
pub old_list_again : (ps : List Place) → 0 < length ps → list_all is_place ps ≡ true
    → (places_of false (words_of_places (map place_word ps)) ≡ map (λ p. there (unflagged_place p)) ps) × (is_word (words_of_places (map place_word ps)) ≡ true)
old_list_again ps some h =
    let e = length_map place_word ps in
    let s : 0 < length (map place_word ps) = omega (arith, e, some) in
    let l = place_list ps h in
    (ap (map (place_word_of false)) (cut_list (map place_word ps) s l) ∙ each_place ps h, list_solid (map place_word ps) s l)
