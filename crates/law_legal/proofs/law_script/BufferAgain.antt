-- Buffer lines that were written are read.
use Rattle.std.proofs.Common.{◌≡◌, ℕ, ◌+◌, ◌<◌, ◌≤◌, Bool, true, false, cond, eqb, List, [], ◌∷◌, ◌++◌, length, map, filter, take, drop, Option, Some, Ok, refl, sym, ap, subst, ◌∙◌, arith, bytes_eq, inl, inr, ◌⊎◌}
use Rattle.std.specs.Prelude.{◌&&◌, ◌||◌, not, codes, decimal, nat_le, nat_lt}
use Rattle.std.specs.List.{list_any, list_all}
use Rattle.std.proofs.lemmas.Bool.Decides.{nat_tests}
use Rattle.std.proofs.lemmas.List.{take-append-drop}
use Rattle.std.proofs.lemmas.List.Folds.{list_all-append}
use Rattle.ttm_base.specs.declared.Place.{Place}
use Rattle.ttm_base.specs.declared.FlaggedPlace.{FlaggedPlace}
use Rattle.ttm_base.specs.Placement.{first_places, forced_places}
use Rattle.journal_model.specs.declared.script.Script.{Script}
use Rattle.journal_model.specs.declared.script.Decl.{Decl}
use Rattle.journal_model.specs.declared.line.Phase.TheVariants as phase
use Rattle.journal_model.specs.declared.line.Keyword.TheVariants as key
use Rattle.journal_model.specs.declared.line.Line.TheVariants as line_of
use Rattle.journal_model.specs.declared.line.BufferHead.{BufferHead}
use Rattle.journal_model.specs.declared.line.PlaceWord.{PlaceWord}
use Rattle.journal_model.specs.scripts.Words.{Text, line}
use Rattle.journal_model.specs.scripts.Spelling.{buffer_line, group_word, place_word, flagged_word, words_of_places}
use Rattle.journal_model.specs.scripts.CommandRules.{is_between}
use Rattle.journal_model.specs.scripts.ScriptRules.{is_name, is_group, is_decl, is_place, is_flagged, is_place_list, is_old_list, is_new_list}
use Rattle.journal_model.specs.scripts.Reading.{names_of, number_in, group_of, places_of}
use Rattle.journal_model.specs.scripts.LineWords.{buffer_line_of, two_lists, list_of_version_two, buffer_head_of}
use Rattle.journal_model.specs.scripts.LineRules.{has_wrong_name, is_broken_place, is_no_list, is_no_place, may_force}
use Rattle.journal_model.specs.scripts.FirstFault.{with_buffer, place_in, wanted, taken_under_pressure}
use Rattle.law_legal.proofs.law_script.NumberLaws.{number_again, between}
use Rattle.law_legal.proofs.law_script.LineLaws.{made, Breaks_none}
use Rattle.law_legal.proofs.law_script.HeadSteps.{at}
use Rattle.law_legal.proofs.law_items.ListFacts.{length_map}
use Rattle.law_legal.proofs.law_script.NamesAgain.{group_again, group_solid}
use Rattle.law_legal.proofs.law_script.ListAgain.{there, unflagged_place, new_list_again, old_list_again}
use Rattle.law_legal.proofs.law_script.LineRuns.{Runs, line_runs, says, keeps_all}
use Rattle.law_legal.proofs.law_script.Solid.{is_word, small_word, number_small_word, name_small}
use Rattle.law_legal.proofs.law_items.Tests.{not_true, neither, both, joint, four_facts, le_is, true_lt, not_long}

-- ---- the lists of version 1, by what the places say

abbrev is_wanted : FlaggedPlace → Bool
is_wanted f = f.desired && not f.fallback

abbrev is_pressed : FlaggedPlace → Bool
is_pressed f = f.fallback && not f.desired

one_wanted : (d e : Bool) → not (d && e) ≡ true → d ≡ true → (d && not e) ≡ true
one_wanted true false h k = refl
one_wanted true true h k = absurd cc
one_wanted false e h k = absurd cc

one_pressed : (d e : Bool) → not (d && e) ≡ true → e ≡ true → (e && not d) ≡ true
one_pressed false true h k = refl
one_pressed true true h k = absurd cc
one_pressed true false h k = absurd cc
one_pressed false false h k = absurd cc

all_wanted : (fs : List FlaggedPlace) → list_all is_flagged fs ≡ true → list_all (λ f. f.desired) fs ≡ true → list_all is_wanted fs ≡ true
all_wanted [] h k = refl
all_wanted (f ∷ fs) h k =
    let a = both (is_flagged f) (list_all is_flagged fs) h in
    let b = both f.desired (list_all (λ g. g.desired) fs) k in
    joint (is_wanted f) (list_all is_wanted fs) (one_wanted f.desired f.fallback (both (is_place f.place) (not (f.desired && f.fallback)) a.0).1 b.0) (all_wanted fs a.1 b.1)

all_pressed : (fs : List FlaggedPlace) → list_all is_flagged fs ≡ true → list_all (λ f. f.fallback) fs ≡ true → list_all is_pressed fs ≡ true
all_pressed [] h k = refl
all_pressed (f ∷ fs) h k =
    let a = both (is_flagged f) (list_all is_flagged fs) h in
    let b = both f.fallback (list_all (λ g. g.fallback) fs) k in
    joint (is_pressed f) (list_all is_pressed fs) (one_pressed f.desired f.fallback (both (is_place f.place) (not (f.desired && f.fallback)) a.0).1 b.0) (all_pressed fs a.1 b.1)

abbrev place_of : FlaggedPlace → Place
place_of f = f.place

none_first : (bs : List FlaggedPlace) → list_all is_pressed bs ≡ true → first_places bs ≡ []
none_first [] h = refl
none_first (f ∷ bs) h =
    let a = both (is_pressed f) (list_all is_pressed bs) h in
    let b = both f.fallback (not f.desired) a.0 in
    ap (λ t. map (λ p. p.place) (cond (not t) (f ∷ filter (λ p. not p.fallback) bs) (filter (λ p. not p.fallback) bs))) b.0 ∙ none_first bs a.1

first_are : (xs bs : List FlaggedPlace) → list_all is_wanted xs ≡ true → list_all is_pressed bs ≡ true → first_places (xs ++ bs) ≡ map place_of xs
first_are [] bs h k = none_first bs k
first_are (f ∷ xs) bs h k =
    let a = both (is_wanted f) (list_all is_wanted xs) h in
    let b = both f.desired (not f.fallback) a.0 in
    ap (λ t. map (λ p. p.place) (cond t (f ∷ filter (λ p. not p.fallback) (xs ++ bs)) (filter (λ p. not p.fallback) (xs ++ bs)))) b.1 ∙ ap (λ ps. f.place ∷ ps) (first_are xs bs a.1 k)

all_forced : (bs : List FlaggedPlace) → list_all is_pressed bs ≡ true → forced_places bs ≡ map place_of bs
all_forced [] h = refl
all_forced (f ∷ bs) h =
    let a = both (is_pressed f) (list_all is_pressed bs) h in
    let b = both f.fallback (not f.desired) a.0 in
    ap (λ t. map (λ p. p.place) (cond t (f ∷ filter (λ p. not p.desired) bs) (filter (λ p. not p.desired) bs))) b.1 ∙ ap (λ ps. f.place ∷ ps) (all_forced bs a.1)

forced_are : (xs bs : List FlaggedPlace) → list_all is_wanted xs ≡ true → list_all is_pressed bs ≡ true → forced_places (xs ++ bs) ≡ map place_of bs
forced_are [] bs h k = all_forced bs k
forced_are (f ∷ xs) bs h k =
    let a = both (is_wanted f) (list_all is_wanted xs) h in
    let b = both f.desired (not f.fallback) a.0 in
    ap (λ t. map (λ p. p.place) (cond (not t) (f ∷ filter (λ p. not p.desired) (xs ++ bs)) (filter (λ p. not p.desired) (xs ++ bs)))) b.0 ∙ forced_are xs bs a.1 k

abbrev read_place : Place → PlaceWord
read_place p = there (unflagged_place p)

abbrev place_with : Place → Bool → Bool → FlaggedPlace
place_with p d e = record { place = p; desired = d; fallback = e }

wanted_are : (xs : List FlaggedPlace) → list_all is_wanted xs ≡ true → map wanted (map read_place (map place_of xs)) ≡ xs
wanted_are [] h = refl
wanted_are (f ∷ xs) h =
    let a = both (is_wanted f) (list_all is_wanted xs) h in
    let b = both f.desired (not f.fallback) a.0 in
    ap (λ d. place_with f.place d false ∷ map wanted (map read_place (map place_of xs))) (sym b.0) ∙ ap (λ e. place_with f.place f.desired e ∷ map wanted (map read_place (map place_of xs))) (sym (not_true f.fallback b.1)) ∙ ap (λ fs. f ∷ fs) (wanted_are xs a.1)

pressed_are : (xs : List FlaggedPlace) → list_all is_pressed xs ≡ true → map taken_under_pressure (map read_place (map place_of xs)) ≡ xs
pressed_are [] h = refl
pressed_are (f ∷ xs) h =
    let a = both (is_pressed f) (list_all is_pressed xs) h in
    let b = both f.fallback (not f.desired) a.0 in
    ap (λ e. place_with f.place false e ∷ map taken_under_pressure (map read_place (map place_of xs))) (sym b.0) ∙ ap (λ d. place_with f.place d f.fallback ∷ map taken_under_pressure (map read_place (map place_of xs))) (sym (not_true f.desired b.1)) ∙ ap (λ fs. f ∷ fs) (pressed_are xs a.1)

places_fit : (fs : List FlaggedPlace) → list_all is_flagged fs ≡ true → list_all is_place (map place_of fs) ≡ true
places_fit [] h = refl
places_fit (f ∷ fs) h =
    let a = both (is_flagged f) (list_all is_flagged fs) h in
    joint (is_place f.place) (list_all is_place (map place_of fs)) (both (is_place f.place) (not (f.desired && f.fallback)) a.0).0 (places_fit fs a.1)

-- a list of version 1, in its two parts
record IsOld (list : List FlaggedPlace) : Type 0 where
  want : List Place
  busy : List Place
  first_ones : first_places list ≡ want
  forced_ones : forced_places list ≡ busy
  want_fits : list_all is_place want ≡ true
  busy_fits : list_all is_place busy ≡ true
  want_len : is_between 1 4 (length want) ≡ true
  busy_len : is_between 1 4 (length busy) ≡ true
  again : map wanted (map read_place want) ++ map taken_under_pressure (map read_place busy) ≡ list

split_all : (p : FlaggedPlace → Bool) (xs ys : List FlaggedPlace) → list_all p (xs ++ ys) ≡ true → (list_all p xs ≡ true) × (list_all p ys ≡ true)
split_all p xs ys h = both (list_all p xs) (list_all p ys) (sym (list_all-append p xs ys) ∙ h)

old_is : (list : List FlaggedPlace) → list_all is_flagged list ≡ true → is_old_list list ≡ true → IsOld list
old_is list flagged_ones h =
    let n = length (first_places list) in
    let xs = take n list in
    let ys = drop n list in
    let f = four_facts (list_all (λ p. p.desired) xs) (list_all (λ p. p.fallback) ys) (is_between 1 4 (length (first_places list))) (is_between 1 4 (length (forced_places list))) h in
    let cut : xs ++ ys ≡ list = take-append-drop n list in
    let fl = split_all is_flagged xs ys (ap (list_all is_flagged) cut ∙ flagged_ones) in
    let a = all_wanted xs fl.0 f.0 in
    let b = all_pressed ys fl.1 f.1 in
    let first_ones : first_places list ≡ map place_of xs = sym (ap first_places cut) ∙ first_are xs ys a b in
    let forced_ones : forced_places list ≡ map place_of ys = sym (ap forced_places cut) ∙ forced_are xs ys a b in
    record {
      want = map place_of xs;
      busy = map place_of ys;
      first_ones = first_ones;
      forced_ones = forced_ones;
      want_fits = places_fit xs fl.0;
      busy_fits = places_fit ys fl.1;
      want_len = sym (ap (λ ps. is_between 1 4 (length ps)) first_ones) ∙ f.2;
      busy_len = sym (ap (λ ps. is_between 1 4 (length ps)) forced_ones) ∙ f.3;
      again = ap (λ fs. fs ++ map taken_under_pressure (map read_place (map place_of ys))) (wanted_are xs a) ∙ ap (λ fs. xs ++ fs) (pressed_are ys b) ∙ cut;
    }

-- ---- the head of a buffer line

abbrev whole_head : Decl → BufferHead
whole_head d = record { name = d.name; pages = Some d.pages; prio = Some d.prio; group = Some d.group; align = Some d.align }

-- a declaration within its limits
pub record IsDecl (v : ℕ) (d : Decl) : Type 0 where
  pub name : is_name d.name ≡ true
  pub pages : is_between 1 4096 d.pages ≡ true
  pub prio : d.prio ≤ 3
  pub group : is_group d.group ≡ true
  pub align : is_between 1 4096 d.align ≡ true
  pub places : is_place_list v d.placement.list ≡ true

six_facts : (a b c d e f : Bool) → (a && b && c && d && e && f) ≡ true → (a ≡ true) × (b ≡ true) × (c ≡ true) × (d ≡ true) × (e ≡ true) × (f ≡ true)
six_facts true true true true true true h = (refl, refl, refl, refl, refl, refl)
six_facts false b c d e f h = absurd cc
six_facts true false c d e f h = absurd cc
six_facts true true false d e f h = absurd cc
six_facts true true true false e f h = absurd cc
six_facts true true true true false f h = absurd cc
six_facts true true true true true false h = absurd cc

-- the limits of a declaration, each for itself
pub decl_is : (v : ℕ) (d : Decl) → is_decl v d ≡ true → IsDecl v d
decl_is v d h =
    let f = six_facts (is_name d.name) (is_between 1 4096 d.pages) (nat_le d.prio 3) (is_group d.group) (is_between 1 4096 d.align) (is_place_list v d.placement.list) h in
    record { name = f.0; pages = f.1; prio = le_is d.prio 3 f.2; group = f.3; align = f.4; places = f.5 }

head_again : (v : ℕ) (d : Decl) → IsDecl v d → buffer_head_of d.name (decimal d.pages) (decimal d.prio) (group_word d.group) (decimal d.align) ≡ whole_head d
head_again v d h =
    let p = between 1 4096 d.pages h.pages in
    let a = between 1 4096 d.align h.align in
    let made_head : Option ℕ → Option ℕ → Option (Option ℕ) → Option ℕ → BufferHead = λ w x y z. record { name = d.name; pages = w; prio = x; group = y; align = z } in
    ap (λ w. made_head w (number_in 0 3 (decimal d.prio)) (group_of (group_word d.group)) (number_in 1 4096 (decimal d.align))) (number_again 1 4096 d.pages (omega arith) p.0 p.1)
    ∙ ap (λ x. made_head (Some d.pages) x (group_of (group_word d.group)) (number_in 1 4096 (decimal d.align))) (number_again 0 3 d.prio (omega arith) (omega arith) h.prio)
    ∙ ap (λ y. made_head (Some d.pages) (Some d.prio) y (number_in 1 4096 (decimal d.align))) (group_again d.group h.group)
    ∙ ap (λ z. made_head (Some d.pages) (Some d.prio) (Some d.group) z) (number_again 1 4096 d.align (omega arith) a.0 a.1)

abbrev head_words : Decl → List Text → List Text
head_words d rest = d.name ∷ decimal d.pages ∷ codes "prio" ∷ decimal d.prio ∷ codes "group" ∷ group_word d.group ∷ codes "align" ∷ decimal d.align ∷ rest

head_solid : (v : ℕ) (d : Decl) (rest : List Text) → IsDecl v d → list_all is_word rest ≡ true → list_all is_word (codes "buffer" ∷ head_words d rest) ≡ true
head_solid v d rest h k =
    let p = (between 1 4096 d.pages h.pages).1 in
    let a = (between 1 4096 d.align h.align).1 in
    let prio = h.prio in
    joint true _ refl (joint (is_word d.name) _ (small_word d.name (name_small d.name h.name)) (joint (is_word (decimal d.pages)) _ (small_word (decimal d.pages) (number_small_word d.pages (omega (arith, p))))
    (joint true _ refl (joint (is_word (decimal d.prio)) _ (small_word (decimal d.prio) (number_small_word d.prio (omega (arith, prio)))) (joint true _ refl (joint (is_word (group_word d.group)) _ (group_solid d.group h.group)
    (joint true _ refl (joint (is_word (decimal d.align)) (list_all is_word rest) (small_word (decimal d.align) (number_small_word d.align (omega (arith, a)))) k))))))))

-- ---- a buffer line

-- a declaration that may come next
pub record MayDeclare (s : Script) (m : ℕ) (d : Decl) : Type 0 where
  pub decl : IsDecl s.version d
  pub free : list_any (bytes_eq d.name) (names_of s.buffers) ≡ false
  pub few : length s.buffers < 256
  pub short : m ≤ 67108864

none_read : {X : Type 0} (P : PlaceWord → Bool) (f : X → PlaceWord) → ((x : X) → P (f x) ≡ false) → (xs : List X) → list_any P (map f xs) ≡ false
none_read P f h [] = refl
none_read P f h (x ∷ xs) = ap (λ b. b || list_any P (map f xs)) (h x) ∙ none_read P f h xs

right_list : {X : Type 0} (most : ℕ) (f : X → FlaggedPlace) (xs : List X) → is_between 1 most (length xs) ≡ true → is_no_list most (map (λ x. there (f x)) xs) ≡ false
right_list most f xs h =
    neither (list_any is_no_place (map (λ x. there (f x)) xs)) (not (is_between 1 most (length (map (λ x. there (f x)) xs)))) (none_read is_no_place (λ x. there (f x)) (λ x. refl) xs)
    (ap (λ n. not (is_between 1 most n)) (length_map (λ x. there (f x)) xs) ∙ ap not h)

room_left : (n : ℕ) → n < 256 → nat_le 256 n ≡ false
room_left n h = grind (arith, nat_tests)

right_name : (s : Script) (m : ℕ) (d : Decl) → MayDeclare s m d → has_wrong_name (names_of s.buffers) (whole_head d) ≡ false
right_name s m d h = neither (not (is_name d.name)) (list_any (bytes_eq d.name) (names_of s.buffers)) (ap not h.decl.name) h.free

abbrev with_list : Decl → List FlaggedPlace → Decl
with_list d list = record d { placement = record { list = list } }

old_runs : (s : Script) (n m : ℕ) (d : Decl) → s.version ≡ 1 → MayDeclare s m d → Runs (at phase.Buffers s n m) (buffer_line 1 d) (with_buffer (at phase.Buffers s n m) d)
old_runs s n m d one h =
    let p = at phase.Buffers s n m in
    let list = d.placement.list in
    let f = both (list_all is_flagged list) (is_old_list list) (sym (ap (λ v. is_place_list v list) one) ∙ h.decl.places) in
    let o = old_is list f.0 f.1 in
    let w = between 1 4 (length o.want) o.want_len in
    let b = between 1 4 (length o.busy) o.busy_len in
    let wa = old_list_again o.want (let a = w.0 in omega (arith, a)) o.want_fits in
    let ba = old_list_again o.busy (let a = b.0 in omega (arith, a)) o.busy_fits in
    let xs = map read_place o.want in
    let ys = map read_place o.busy in
    let head = whole_head d in
    let l = line_of.Buffer head xs ys in
    let wt = words_of_places (map place_word o.want) in
    let bt = words_of_places (map place_word o.busy) in
    let rest = codes "want" ∷ wt ∷ codes "busy" ∷ bt ∷ [] in
    let words = head_solid s.version d rest h.decl (joint true _ refl (joint (is_word wt) _ wa.1 (joint true _ refl (joint (is_word bt) true ba.1 refl)))) in
    let r : Breaks_none p l = record {
      numbers = neither _ (list_any is_broken_place ys) (none_read is_broken_place read_place (λ x. refl) o.want) (none_read is_broken_place read_place (λ x. refl) o.busy);
      names = right_name s m d h;
      places = neither (is_no_list 4 xs) (is_no_list 4 ys) (right_list 4 unflagged_place o.want o.want_len) (right_list 4 unflagged_place o.busy o.busy_len);
      ranges = refl;
      bytes = refl;
      jobs = refl;
      actors = refl;
      counts = room_left (length s.buffers) h.few;
      lens = let a = h.short in not_long (m + 0) (omega (arith, a));
      maps = refl;
      pages = refl;
    } in
    let text : buffer_line 1 d ≡ line (codes "buffer" ∷ head_words d rest) =
    ap (λ ps. line (codes "buffer" ∷ head_words d (codes "want" ∷ words_of_places (map place_word ps) ∷ codes "busy" ∷ words_of_places (map place_word (forced_places list)) ∷ []))) o.first_ones
    ∙ ap (λ ps. line (codes "buffer" ∷ head_words d (codes "want" ∷ wt ∷ codes "busy" ∷ words_of_places (map place_word ps) ∷ []))) o.forced_ones in
    let parts = ap (λ v. buffer_line_of (eqb v 2) (codes "buffer" ∷ head_words d rest)) one
    ∙ ap (λ x. two_lists true x (codes "want") wt (codes "busy") bt) (head_again s.version d h.decl)
    ∙ ap (λ x. made (line_of.Buffer head x (places_of false bt))) wa.0 ∙ ap (λ x. made (line_of.Buffer head xs x)) ba.0 in
    let read = says p key.Buffer (codes "buffer" ∷ head_words d rest) l refl refl words parts (keeps_all p l r) ∙ ap (λ x. Ok (with_buffer p (with_list d x))) o.again in
    subst (λ (t : Text). Runs p t (with_buffer p d)) (sym text) (line_runs p (with_buffer p d) (codes "buffer") (head_words d rest) words read)

some_forced : (b : Bool) (f : FlaggedPlace) (fs : List FlaggedPlace) (t : Bool) → not f.desired ≡ b → (0 < length (forced_places fs) → t ≡ true) → 0 < length (map (λ p. p.place) (cond b (f ∷ filter (λ p. not p.desired) fs) (filter (λ p. not p.desired) fs))) → (b || t) ≡ true
some_forced true f fs t e h k = refl
some_forced false f fs t e h k = h k

forced_any : (fs : List FlaggedPlace) → 0 < length (forced_places fs) → list_any may_force (map there fs) ≡ true
forced_any [] h = absurd (omega (arith, h))
forced_any (f ∷ fs) h = some_forced (not f.desired) f fs (list_any may_force (map there fs)) refl (forced_any fs) h

said_places : (fs : List FlaggedPlace) → map place_in (map there fs) ≡ fs
said_places [] = refl
said_places (f ∷ fs) = ap (λ gs. f ∷ gs) (said_places fs)

new_runs : (s : Script) (n m : ℕ) (d : Decl) → s.version ≡ 2 → MayDeclare s m d → Runs (at phase.Buffers s n m) (buffer_line 2 d) (with_buffer (at phase.Buffers s n m) d)
new_runs s n m d two h =
    let p = at phase.Buffers s n m in
    let list = d.placement.list in
    let f = both (list_all is_flagged list) (is_new_list list) (sym (ap (λ v. is_place_list v list) two) ∙ h.decl.places) in
    let g = both (is_between 1 8 (length list)) (nat_lt 0 (length (forced_places list))) f.1 in
    let w = between 1 8 (length list) g.0 in
    let a = new_list_again list (let b = w.0 in omega (arith, b)) f.0 in
    let xs = map there list in
    let head = whole_head d in
    let l = line_of.Placed head xs in
    let lt = words_of_places (map flagged_word list) in
    let rest = codes "place" ∷ lt ∷ [] in
    let words = head_solid s.version d rest h.decl (joint true _ refl (joint (is_word lt) true a.1 refl)) in
    let r : Breaks_none p l = record {
      numbers = none_read is_broken_place there (λ x. refl) list;
      names = right_name s m d h;
      places = neither (is_no_list 8 xs) (not (list_any may_force xs)) (right_list 8 (λ x. x) list g.0) (ap not (forced_any list (true_lt 0 (length (forced_places list)) g.1)));
      ranges = refl;
      bytes = refl;
      jobs = refl;
      actors = refl;
      counts = room_left (length s.buffers) h.few;
      lens = let b = h.short in not_long (m + 0) (omega (arith, b));
      maps = refl;
      pages = refl;
    } in
    let parts = ap (λ v. buffer_line_of (eqb v 2) (codes "buffer" ∷ head_words d rest)) two
    ∙ ap (λ x. list_of_version_two true x (codes "place") lt) (head_again s.version d h.decl) ∙ ap (λ x. made (line_of.Placed head x)) a.0 in
    let read = says p key.Buffer (codes "buffer" ∷ head_words d rest) l refl refl words parts (keeps_all p l r) ∙ ap (λ x. Ok (with_buffer p (with_list d x))) (said_places list) in
    line_runs p (with_buffer p d) (codes "buffer") (head_words d rest) words read

by_two : (b : Bool) (v : ℕ) → eqb v 1 ≡ b → is_between 1 2 v ≡ true → (v ≡ 1) ⊎ (v ≡ 2)
by_two true v e h = inl (grind (arith, nat_tests, e))
by_two false v e h = inr (grind (arith, nat_tests, e, h))

-- there are two versions
pub one_or_two : (v : ℕ) → is_between 1 2 v ≡ true → (v ≡ 1) ⊎ (v ≡ 2)
one_or_two v h = by_two (eqb v 1) v refl h

-- a declaration is read
pub buffer_runs : (s : Script) (n m : ℕ) (d : Decl) → is_between 1 2 s.version ≡ true → MayDeclare s m d → Runs (at phase.Buffers s n m) (buffer_line s.version d) (with_buffer (at phase.Buffers s n m) d)
buffer_runs s n m d v h =
    let p = at phase.Buffers s n m in
    elim (one_or_two s.version v) [
      | inl one ↦ subst (λ (x : ℕ). Runs p (buffer_line x d) (with_buffer p d)) (sym one) (old_runs s n m d one h)
      | inr two ↦ subst (λ (x : ℕ). Runs p (buffer_line x d) (with_buffer p d)) (sym two) (new_runs s n m d two h)
    ]
