-- The places of a buffer line are spelled as they were read.
use Rattle.std.proofs.Common.{◌≡◌, ℕ, Bool, true, false, cond, eqb, ltb, List, [], ◌∷◌, ◌++◌, length, map, Option, Some, None, refl, sym, ap, subst, ◌∙◌, bytes_eq}
use Rattle.std.specs.Prelude.{◌&&◌, ◌||◌, not, codes}
use Rattle.std.specs.List.{list_any, join_with_byte}
use Rattle.std.proofs.lemmas.List.{append-nil}
use Rattle.ttm_base.specs.declared.Mem.{Mem}
use Rattle.ttm_base.specs.declared.FlaggedPlace.{FlaggedPlace}
use Rattle.journal_model.specs.declared.line.Flags.{Flags}
use Rattle.journal_model.specs.declared.line.PlaceWord.{PlaceWord}
use Rattle.journal_model.specs.scripts.Words.{Text}
use Rattle.journal_model.specs.scripts.Cut.{cut_at}
use Rattle.journal_model.specs.scripts.Spelling.{flag, place_word, words_of_places, placement_words}
use Rattle.ttm_base.specs.declared.Place.{Place}
use Rattle.ttm_base.specs.Placement.{first_places, forced_places}
use Rattle.journal_model.specs.scripts.Reading.{number_in, mem_of, last_flags_of, contig_flags_of, flags_of, flagged, ranged, is_system, reach_place, based_place, reach_of, at_place, plus_place, place_word_of, places_of}
use Rattle.journal_model.specs.scripts.LineRules.{is_no_place, is_broken_place}
use Rattle.journal_model.specs.scripts.FirstFault.{place_in, wanted, taken_under_pressure}
use Rattle.law_legal.proofs.law_script.CutLaws.{joined}
use Rattle.law_legal.proofs.law_script.PlaceLaws.{is, some_flags, flag_made, chosen, unless, place_takes}
use Rattle.law_legal.proofs.law_script.HeadLaws.{good_place}
use Rattle.law_legal.proofs.law_items.Tests.{either}

-- the place of a word, without its flags
abbrev pub bare : PlaceWord → Place
bare x = (place_in x).place

abbrev HasNone : Flags → Type 0
HasNone f = (f.desired ≡ false) × (f.fallback ≡ false)

-- ---- a place of version 1 has no flag of version 2

none_last : (t c : Bool) (ws : List Text) (f : Flags) → last_flags_of false t c ws ≡ some_flags f → HasNone f
none_last t c [] f h = subst (λ (x : Flags). HasNone x) (flag_made t c false false f h) (refl, refl)
none_last t c (w ∷ []) f h = absurd cc
none_last t c (w ∷ x ∷ ws) f h = absurd cc

none_either : (b : Bool) (t : Bool) (w : Text) (ws : List Text) (f : Flags) → cond b (last_flags_of false t true ws) (last_flags_of false t false (w ∷ ws)) ≡ some_flags f → HasNone f
none_either true t w ws f h = none_last t true ws f h
none_either false t w ws f h = none_last t false (w ∷ ws) f h

none_contig : (t : Bool) (ws : List Text) (f : Flags) → contig_flags_of false t ws ≡ some_flags f → HasNone f
none_contig t [] f h = none_last t false [] f h
none_contig t (w ∷ ws) f h = none_either (bytes_eq w (codes "contig")) t w ws f h

none_top : (b : Bool) (w : Text) (ws : List Text) (f : Flags) → cond b (contig_flags_of false true ws) (contig_flags_of false false (w ∷ ws)) ≡ some_flags f → HasNone f
none_top true w ws f h = none_contig true ws f h
none_top false w ws f h = none_contig false (w ∷ ws) f h

none_flags : (ws : List Text) (f : Flags) → flags_of false ws ≡ some_flags f → HasNone f
none_flags [] f h = none_contig false [] f h
none_flags (w ∷ ws) f h = none_top (bytes_eq w (codes "top")) w ws f h

abbrev IsBare : FlaggedPlace → Type 0
IsBare f = (f.desired ≡ false) × (f.fallback ≡ false)

bare_flagged : (mem : Mem) (first last : ℕ) (f : Flags) (place : FlaggedPlace) → HasNone f → flagged mem first last f ≡ is place → IsBare place
bare_flagged mem first last f place none h =
    let made : FlaggedPlace = record { place = record { mem = mem; first = first; last = last; topdown = f.topdown; contig = f.contig }; desired = f.desired; fallback = f.fallback } in
    let e : made ≡ place = cc in
    subst (λ (x : FlaggedPlace). IsBare x) e none

bare_ranged : (mem : Mem) (a b : Option ℕ) (f : Flags) (place : FlaggedPlace) → HasNone f → ranged mem a b f ≡ is place → IsBare place
bare_ranged mem (Some x) (Some y) f place none h = bare_flagged mem x y f place none (chosen ((eqb y 0 && not (eqb x 0)) || ltb x y) (flagged mem x y f) place h).1
bare_ranged mem (Some x) None f place none h = absurd cc
bare_ranged mem None b f place none h = absurd cc

bare_reach : (mem : Mem) (parts : List Text) (f : Flags) (place : FlaggedPlace) → HasNone f → reach_place mem parts f ≡ is place → IsBare place
bare_reach mem [] f place none h = absurd cc
bare_reach mem (first ∷ []) f place none h = absurd cc
bare_reach mem (first ∷ last ∷ []) f place none h =
    bare_ranged mem (number_in 0 16384 first) (number_in 0 16384 last) f place none (unless (is_system mem || (eqb (length first) 0) || (eqb (length last) 0)) _ place h)
bare_reach mem (first ∷ last ∷ x ∷ xs) f place none h = absurd cc

bare_based : (words flags : List Text) (mo : Option Mem) (fo : Option Flags) (place : FlaggedPlace) → flags_of false flags ≡ fo → based_place mo (reach_of words) fo ≡ is place → IsBare place
bare_based [] flags (Some mem) (Some f) place q h = bare_flagged mem 0 0 f place (none_flags flags f q) h
bare_based (r ∷ rs) flags (Some mem) (Some f) place q h = bare_reach mem (cut_at 45 (join_with_byte 64 (r ∷ rs))) f place (none_flags flags f q) h
bare_based [] flags (Some mem) None place q h = absurd cc
bare_based (r ∷ rs) flags (Some mem) None place q h = absurd cc
bare_based words flags None fo place q h = absurd cc

bare_at : (parts flags : List Text) (place : FlaggedPlace) → at_place parts (flags_of false flags) ≡ is place → IsBare place
bare_at [] flags place h = absurd cc
bare_at (m ∷ words) flags place h = bare_based words flags (mem_of m) (flags_of false flags) place refl h

bare_plus : (parts : List Text) (place : FlaggedPlace) → plus_place false parts ≡ is place → IsBare place
bare_plus [] place h = absurd cc
bare_plus (base ∷ flags) place h = bare_at (cut_at 64 base) flags place h

-- a place of version 1 is spelled as it was read
pub bare_takes : (w : Text) (f : FlaggedPlace) → place_word_of false w ≡ is f → place_word f.place ≡ w
bare_takes w f h =
    let b = bare_plus (cut_at 43 w) f h in
    sym (append-nil (place_word f.place))
    ∙ sym (append-nil (place_word f.place ++ []))
    ∙ ap (λ d. (place_word f.place ++ flag d (codes "+desired")) ++ []) (sym b.0)
    ∙ ap (λ d. (place_word f.place ++ flag f.desired (codes "+desired")) ++ flag d (codes "+fallback")) (sym b.1)
    ∙ place_takes false w f h

-- ---- lists

bare_are : (parts : List Text) → list_any is_no_place (map (place_word_of false) parts) ≡ false → list_any is_broken_place (map (place_word_of false) parts) ≡ false
    → map place_word (map bare (map (place_word_of false) parts)) ≡ parts
bare_are [] a b = refl
bare_are (w ∷ ws) a b =
    let e = either (is_no_place (place_word_of false w)) (list_any is_no_place (map (place_word_of false) ws)) a in
    let f = either (is_broken_place (place_word_of false w)) (list_any is_broken_place (map (place_word_of false) ws)) b in
    ap (λ t. t ∷ map place_word (map bare (map (place_word_of false) ws))) (bare_takes w (place_in (place_word_of false w)) (good_place (place_word_of false w) e.0 f.0))
    ∙ ap (λ ts. w ∷ ts) (bare_are ws e.1 f.1)

bare_list : (w : Text) → list_any is_no_place (places_of false w) ≡ false → list_any is_broken_place (places_of false w) ≡ false
    → words_of_places (map place_word (map bare (places_of false w))) ≡ w
bare_list w a b = ap (join_with_byte 44) (bare_are (cut_at 44 w) a b) ∙ joined 44 w

-- the places that are wanted are the first ones
pub first_of : (xs ys : List PlaceWord) → first_places (map wanted xs ++ map taken_under_pressure ys) ≡ map bare xs
first_of [] [] = refl
first_of [] (y ∷ ys) = first_of [] ys
first_of (x ∷ xs) ys = ap (λ ps. bare x ∷ ps) (first_of xs ys)

-- those for busy memory are the forced ones
pub forced_of : (xs ys : List PlaceWord) → forced_places (map wanted xs ++ map taken_under_pressure ys) ≡ map bare ys
forced_of [] [] = refl
forced_of [] (y ∷ ys) = ap (λ ps. bare y ∷ ps) (forced_of [] ys)
forced_of (x ∷ xs) ys = forced_of xs ys

-- two lists of version 1 are spelled as they were read
pub two_lists_take : (want busy : Text) → list_any is_no_place (places_of false want) ≡ false → list_any is_broken_place (places_of false want) ≡ false
    → list_any is_no_place (places_of false busy) ≡ false → list_any is_broken_place (places_of false busy) ≡ false
    → placement_words 1 (map wanted (places_of false want) ++ map taken_under_pressure (places_of false busy)) ≡ codes "want" ∷ want ∷ codes "busy" ∷ busy ∷ []
two_lists_take want busy a b c d =
    let xs = places_of false want in
    let ys = places_of false busy in
    let all = map wanted xs ++ map taken_under_pressure ys in
    ap (λ ps. codes "want" ∷ words_of_places (map place_word ps) ∷ codes "busy" ∷ words_of_places (map place_word (forced_places all)) ∷ []) (first_of xs ys)
    ∙ ap (λ ps. codes "want" ∷ words_of_places (map place_word (map bare xs)) ∷ codes "busy" ∷ words_of_places (map place_word ps) ∷ []) (forced_of xs ys)
    ∙ ap (λ t. codes "want" ∷ t ∷ codes "busy" ∷ words_of_places (map place_word (map bare ys)) ∷ []) (bare_list want a b)
    ∙ ap (λ t. codes "want" ∷ want ∷ codes "busy" ∷ t ∷ []) (bare_list busy c d)
