-- Places that were read keep their rules.
use Rattle.std.proofs.Common.{◌≡◌, ℕ, ◌<◌, ◌≤◌, Bool, true, false, cond, eqb, ltb, List, [], ◌∷◌, ◌++◌, length, map, filter, take, drop, Option, Some, None, refl, sym, ap, subst, ◌∙◌, arith, bytes_eq}
use Rattle.std.specs.Prelude.{◌&&◌, ◌||◌, not, codes, nat_le, nat_lt}
use Rattle.std.specs.List.{list_any, list_all, join_with_byte}
use Rattle.std.proofs.lemmas.Bool.Decides.{nat_tests}
use Rattle.std.proofs.lemmas.List.Folds.{list_all-append}
use Rattle.ttm_base.specs.declared.Mem.{Mem}
use Rattle.ttm_base.specs.declared.Mem.TheVariants.{System, Tt, Vram}
use Rattle.ttm_base.specs.declared.FlaggedPlace.{FlaggedPlace}
use Rattle.ttm_base.specs.Placement.{first_places, forced_places}
use Rattle.journal_model.specs.declared.line.Flags.{Flags}
use Rattle.journal_model.specs.declared.line.PlaceWord.{PlaceWord}
use Rattle.journal_model.specs.declared.line.PlaceWord.TheVariants as read_as
use Rattle.journal_model.specs.scripts.Words.{Text}
use Rattle.journal_model.specs.scripts.Cut.{cut_at}
use Rattle.journal_model.specs.scripts.CommandRules.{is_between}
use Rattle.journal_model.specs.scripts.ScriptRules.{is_place_of, is_place, is_flagged, is_old_list, is_new_list, is_place_list}
use Rattle.journal_model.specs.scripts.Reading.{number_in, mem_of, last_flags_of, contig_flags_of, flags_of, flagged, ranged, is_system, reach_place, based_place, reach_of, at_place, plus_place, place_word_of, places_of}
use Rattle.journal_model.specs.scripts.LineRules.{is_no_place, is_broken_place, may_force, is_no_list}
use Rattle.journal_model.specs.scripts.FirstFault.{or_zero, place_in, wanted, taken_under_pressure}
use Rattle.law_legal.proofs.law_script.PlaceLaws.{is, some_flags, flag_made, chosen}
use Rattle.law_legal.proofs.law_script.HeadLaws.{good_place}
use Rattle.law_legal.proofs.law_script.BufferLaws.{bare, first_of, forced_of}
use Rattle.law_legal.proofs.law_script.CommandFits.{number_small}
use Rattle.law_legal.proofs.law_script.CommandSteps.{not_false}
use Rattle.law_legal.proofs.law_items.ListFacts.{length_map}
use Rattle.law_legal.proofs.law_items.Tests.{either, both, joint, three, four, is_le, lt_is}

-- ---- at most one flag

abbrev OneFlag : Flags → Type 0
OneFlag f = not (f.desired && f.fallback) ≡ true

one_of : (t c d e : Bool) (f : Flags) → cond d (Some (record { topdown = t; contig = c; desired = true; fallback = false })) (cond e (Some (record { topdown = t; contig = c; desired = false; fallback = true })) None) ≡ some_flags f → OneFlag f
one_of t c true e f h = subst (λ (x : Flags). OneFlag x) (flag_made t c true false f h) refl
one_of t c false true f h = subst (λ (x : Flags). OneFlag x) (flag_made t c false true f h) refl
one_of t c false false f h = absurd cc

one_last : (two t c : Bool) (ws : List Text) (f : Flags) → last_flags_of two t c ws ≡ some_flags f → OneFlag f
one_last two t c [] f h = subst (λ (x : Flags). OneFlag x) (flag_made t c false false f h) refl
one_last two t c (w ∷ []) f h = one_of t c (two && bytes_eq w (codes "desired")) (two && bytes_eq w (codes "fallback")) f h
one_last two t c (w ∷ x ∷ ws) f h = absurd cc

one_either : (two b t : Bool) (w : Text) (ws : List Text) (f : Flags) → cond b (last_flags_of two t true ws) (last_flags_of two t false (w ∷ ws)) ≡ some_flags f → OneFlag f
one_either two true t w ws f h = one_last two t true ws f h
one_either two false t w ws f h = one_last two t false (w ∷ ws) f h

one_contig : (two t : Bool) (ws : List Text) (f : Flags) → contig_flags_of two t ws ≡ some_flags f → OneFlag f
one_contig two t [] f h = one_last two t false [] f h
one_contig two t (w ∷ ws) f h = one_either two (bytes_eq w (codes "contig")) t w ws f h

one_top : (two b : Bool) (w : Text) (ws : List Text) (f : Flags) → cond b (contig_flags_of two true ws) (contig_flags_of two false (w ∷ ws)) ≡ some_flags f → OneFlag f
one_top two true w ws f h = one_contig two true ws f h
one_top two false w ws f h = one_contig two false (w ∷ ws) f h

one_flags : (two : Bool) (ws : List Text) (f : Flags) → flags_of two ws ≡ some_flags f → OneFlag f
one_flags two [] f h = one_contig two false [] f h
one_flags two (w ∷ ws) f h = one_top two (bytes_eq w (codes "top")) w ws f h

-- ---- a place

abbrev made_of : Mem → ℕ → ℕ → Flags → FlaggedPlace
made_of mem first last f = record { place = record { mem = mem; first = first; last = last; topdown = f.topdown; contig = f.contig }; desired = f.desired; fallback = f.fallback }

flagged_fits : (mem : Mem) (first last : ℕ) (f : Flags) (place : FlaggedPlace) → OneFlag f → is_place_of mem (made_of mem first last f).place ≡ true → flagged mem first last f ≡ is place → is_flagged place ≡ true
flagged_fits mem first last f place one fit h =
    let made : FlaggedPlace = record { place = record { mem = mem; first = first; last = last; topdown = f.topdown; contig = f.contig }; desired = f.desired; fallback = f.fallback } in
    let e : made ≡ place = cc in
    subst (λ (x : FlaggedPlace). is_flagged x ≡ true) e (joint (is_place_of mem (made_of mem first last f).place) (not (f.desired && f.fallback)) fit one)

whole_fits : (mem : Mem) (t c : Bool) → is_place_of mem (record { mem = mem; first = 0; last = 0; topdown = t; contig = c }) ≡ true
whole_fits System t c = refl
whole_fits Tt t c = refl
whole_fits Vram t c = refl

in_order : (x y : ℕ) → ((eqb y 0 && not (eqb x 0)) || ltb x y) ≡ true → (eqb y 0 || nat_lt x y) ≡ true
in_order x y h = grind (arith, nat_tests, h)

range_is : (mem : Mem) (x y : ℕ) (t c : Bool) → is_system mem ≡ false → x ≤ 16384 → y ≤ 16384 → (eqb y 0 || nat_lt x y) ≡ true
    → is_place_of mem (record { mem = mem; first = x; last = y; topdown = t; contig = c }) ≡ true
range_is System x y t c s a b h = absurd cc
range_is Tt x y t c s a b h = three (nat_le x 16384) (nat_le y 16384) (eqb y 0 || nat_lt x y) (is_le x 16384 a) (is_le y 16384 b) h
range_is Vram x y t c s a b h = three (nat_le x 16384) (nat_le y 16384) (eqb y 0 || nat_lt x y) (is_le x 16384 a) (is_le y 16384 b) h

ranged_fits : (mem : Mem) (a b : Option ℕ) (f : Flags) (place : FlaggedPlace) → OneFlag f → is_system mem ≡ false → or_zero a ≤ 16384 → or_zero b ≤ 16384 → ranged mem a b f ≡ is place → is_flagged place ≡ true
ranged_fits mem (Some x) (Some y) f place one s p q h =
    let c = chosen ((eqb y 0 && not (eqb x 0)) || ltb x y) (flagged mem x y f) place h in
    flagged_fits mem x y f place one (range_is mem x y f.topdown f.contig s p q (in_order x y c.0)) c.1
ranged_fits mem (Some x) None f place one s p q h = absurd cc
ranged_fits mem None b f place one s p q h = absurd cc

otherwise : (b : Bool) (x : PlaceWord) (place : FlaggedPlace) → cond b read_as.Malformed x ≡ is place → (b ≡ false) × (x ≡ is place)
otherwise true x place h = absurd cc
otherwise false x place h = (refl, h)

reach_fits : (mem : Mem) (parts : List Text) (f : Flags) (place : FlaggedPlace) → OneFlag f → reach_place mem parts f ≡ is place → is_flagged place ≡ true
reach_fits mem [] f place one h = absurd cc
reach_fits mem (first ∷ []) f place one h = absurd cc
reach_fits mem (first ∷ last ∷ []) f place one h =
    let o = otherwise (is_system mem || (eqb (length first) 0) || (eqb (length last) 0)) _ place h in
    let s = either (is_system mem || (eqb (length first) 0)) (eqb (length last) 0) o.0 in
    ranged_fits mem (number_in 0 16384 first) (number_in 0 16384 last) f place one (either (is_system mem) (eqb (length first) 0) s.0).0 (number_small 0 16384 first) (number_small 0 16384 last) o.1
reach_fits mem (first ∷ last ∷ x ∷ xs) f place one h = absurd cc

based_fits : (two : Bool) (words flags : List Text) (mo : Option Mem) (fo : Option Flags) (place : FlaggedPlace) → flags_of two flags ≡ fo → based_place mo (reach_of words) fo ≡ is place → is_flagged place ≡ true
based_fits two [] flags (Some mem) (Some f) place q h = flagged_fits mem 0 0 f place (one_flags two flags f q) (whole_fits mem f.topdown f.contig) h
based_fits two (r ∷ rs) flags (Some mem) (Some f) place q h = reach_fits mem (cut_at 45 (join_with_byte 64 (r ∷ rs))) f place (one_flags two flags f q) h
based_fits two [] flags (Some mem) None place q h = absurd cc
based_fits two (r ∷ rs) flags (Some mem) None place q h = absurd cc
based_fits two words flags None fo place q h = absurd cc

at_fits : (two : Bool) (parts flags : List Text) (place : FlaggedPlace) → at_place parts (flags_of two flags) ≡ is place → is_flagged place ≡ true
at_fits two [] flags place h = absurd cc
at_fits two (m ∷ words) flags place h = based_fits two words flags (mem_of m) (flags_of two flags) place refl h

plus_fits : (two : Bool) (parts : List Text) (place : FlaggedPlace) → plus_place two parts ≡ is place → is_flagged place ≡ true
plus_fits two [] place h = absurd cc
plus_fits two (base ∷ flags) place h = at_fits two (cut_at 64 base) flags place h

-- a place that is read can be written
place_fits : (two : Bool) (w : Text) → is_no_place (place_word_of two w) ≡ false → is_broken_place (place_word_of two w) ≡ false → is_flagged (place_in (place_word_of two w)) ≡ true
place_fits two w a b = plus_fits two (cut_at 43 w) (place_in (place_word_of two w)) (good_place (place_word_of two w) a b)

-- ---- lists

each_fits : (made : PlaceWord → FlaggedPlace) → ((x : PlaceWord) → is_flagged (place_in x) ≡ true → is_flagged (made x) ≡ true) → (two : Bool) (parts : List Text)
    → list_any is_no_place (map (place_word_of two) parts) ≡ false → list_any is_broken_place (map (place_word_of two) parts) ≡ false → list_all is_flagged (map made (map (place_word_of two) parts)) ≡ true
each_fits made keeps two [] a b = refl
each_fits made keeps two (w ∷ ws) a b =
    let x = place_word_of two w in
    let xs = map (place_word_of two) ws in
    let e = either (is_no_place x) (list_any is_no_place xs) a in
    let f = either (is_broken_place x) (list_any is_broken_place xs) b in
    joint (is_flagged (made x)) (list_all is_flagged (map made xs)) (keeps x (place_fits two w e.0 f.0)) (each_fits made keeps two ws e.1 f.1)

some_in : (b : Bool) (f : FlaggedPlace) (rest : List FlaggedPlace) → (b ≡ false → 0 < length (map (λ p. p.place) rest)) → 0 < length (map (λ p. p.place) (cond b (f ∷ rest) rest))
some_in true f rest h = omega arith
some_in false f rest h = h refl

or_rest : (a b : Bool) → (a || b) ≡ true → a ≡ false → b ≡ true
or_rest true b h k = absurd cc
or_rest false b h k = h

forced_some : (xs : List PlaceWord) → list_any is_no_place xs ≡ false → list_any is_broken_place xs ≡ false → list_any may_force xs ≡ true → 0 < length (forced_places (map place_in xs))
forced_some [] a b h = absurd cc
forced_some (read_as.Is f ∷ xs) a b h =
    some_in (not f.desired) f (filter (λ p. not p.desired) (map place_in xs)) (λ k. forced_some xs (either false (list_any is_no_place xs) a).1 (either false (list_any is_broken_place xs) b).1 (or_rest (not f.desired) (list_any may_force xs) h k))
forced_some (read_as.BrokenNumber ∷ xs) a b h = absurd cc
forced_some (read_as.Malformed ∷ xs) a b h = absurd cc

-- a list that is right
pub not_no_list : (most : ℕ) (xs : List PlaceWord) → is_no_list most xs ≡ false → (list_any is_no_place xs ≡ false) × (is_between 1 most (length xs) ≡ true)
not_no_list most xs h = let e = either (list_any is_no_place xs) (not (is_between 1 most (length xs))) h in (e.0, not_false (is_between 1 most (length xs)) e.1)

-- the list of version 2
pub new_list_fits : (w : Text) → is_no_list 8 (places_of true w) ≡ false → list_any is_broken_place (places_of true w) ≡ false → list_any may_force (places_of true w) ≡ true → is_place_list 2 (map place_in (places_of true w)) ≡ true
new_list_fits w a b h =
    let xs = places_of true w in
    let e = not_no_list 8 xs a in
    joint (list_all is_flagged (map place_in xs)) (is_new_list (map place_in xs)) (each_fits place_in (λ x k. k) true (cut_at 44 w) e.0 b)
    (joint (is_between 1 8 (length (map place_in xs))) (nat_lt 0 (length (forced_places (map place_in xs)))) (ap (is_between 1 8) (length_map place_in xs) ∙ e.1) (lt_is 0 _ (forced_some xs e.0 b h)))

take_front : {X : Type 0} (xs ys : List X) → take (length xs) (xs ++ ys) ≡ xs
take_front [] ys = refl
take_front (x ∷ xs) ys = ap (λ zs. x ∷ zs) (take_front xs ys)

drop_front : {X : Type 0} (xs ys : List X) → drop (length xs) (xs ++ ys) ≡ ys
drop_front [] ys = refl
drop_front (x ∷ xs) ys = drop_front xs ys

all_made : {X : Type 0} (p : FlaggedPlace → Bool) (f : X → FlaggedPlace) (xs : List X) → ((x : X) → p (f x) ≡ true) → list_all p (map f xs) ≡ true
all_made p f [] h = refl
all_made p f (x ∷ xs) h = joint (p (f x)) (list_all p (map f xs)) (h x) (all_made p f xs h)

flags_kept : (f : FlaggedPlace) → is_flagged f ≡ true → (is_place f.place && true) ≡ true
flags_kept f h = joint (is_place f.place) true (both (is_place f.place) (not (f.desired && f.fallback)) h).0 refl

-- the lists of version 1
pub old_lists_fit : (want busy : Text) → let xs = places_of false want in let ys = places_of false busy in
    is_no_list 4 xs ≡ false → list_any is_broken_place xs ≡ false → is_no_list 4 ys ≡ false → list_any is_broken_place ys ≡ false → is_place_list 1 (map wanted xs ++ map taken_under_pressure ys) ≡ true
old_lists_fit want busy a b c d =
    let xs = places_of false want in
    let ys = places_of false busy in
    let e = not_no_list 4 xs a in
    let f = not_no_list 4 ys c in
    let all = map wanted xs ++ map taken_under_pressure ys in
    let front : length (first_places all) ≡ length (map wanted xs) = ap length (first_of xs ys) ∙ length_map bare xs ∙ sym (length_map wanted xs) in
    joint (list_all is_flagged all) (is_old_list all)
    (list_all-append is_flagged (map wanted xs) (map taken_under_pressure ys)
    ∙ joint (list_all is_flagged (map wanted xs)) (list_all is_flagged (map taken_under_pressure ys))
    (each_fits wanted (λ x. flags_kept (place_in x)) false (cut_at 44 want) e.0 b) (each_fits taken_under_pressure (λ x. flags_kept (place_in x)) false (cut_at 44 busy) f.0 d))
    (four _ _ _ _
    (ap (λ n. list_all (λ p. p.desired) (take n all)) front ∙ ap (list_all (λ p. p.desired)) (take_front (map wanted xs) (map taken_under_pressure ys)) ∙ all_made (λ p. p.desired) wanted xs (λ x. refl))
    (ap (λ n. list_all (λ p. p.fallback) (drop n all)) front ∙ ap (list_all (λ p. p.fallback)) (drop_front (map wanted xs) (map taken_under_pressure ys)) ∙ all_made (λ p. p.fallback) taken_under_pressure ys (λ x. refl))
    (ap (is_between 1 4) (ap length (first_of xs ys) ∙ length_map bare xs) ∙ e.1)
    (ap (is_between 1 4) (ap length (forced_of xs ys) ∙ length_map bare ys) ∙ f.1))
