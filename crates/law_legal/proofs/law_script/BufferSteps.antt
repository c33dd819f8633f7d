-- The lines of buffers.
use Rattle.std.proofs.Common.{◌≡◌, ℕ, ◌<◌, ◌≤◌, Bool, true, false, cond, eqb, List, [], ◌∷◌, ◌++◌, length, map, Option, Some, None, refl, sym, ap, subst, ◌∙◌, append_assoc, arith, bytes_eq}
use Rattle.std.specs.Prelude.{◌&&◌, ◌||◌, not, codes, decimal, is_none, unwrap_or, option_map, flat_map, nat_le}
use Rattle.std.specs.List.{list_any, list_all}
use Rattle.std.proofs.lemmas.Bool.{eqb-true}
use Rattle.std.proofs.lemmas.Bool.Decides.{nat_tests}
use Rattle.std.proofs.lemmas.List.{append-nil}
use Rattle.std.proofs.lemmas.List.Concat.{flat_map-cons}
use Rattle.std.proofs.lemmas.Grind.{flat_map-append}
use Rattle.ttm_base.specs.declared.FlaggedPlace.{FlaggedPlace}
use Rattle.journal_model.specs.declared.script.Script.{Script}
use Rattle.journal_model.specs.declared.script.Decl.{Decl}
use Rattle.journal_model.specs.declared.line.Phase.TheVariants as phase
use Rattle.journal_model.specs.declared.line.Line.{Line}
use Rattle.journal_model.specs.declared.line.Line.TheVariants as says
use Rattle.journal_model.specs.declared.line.BufferHead.{BufferHead}
use Rattle.journal_model.specs.scripts.Words.{Text, line}
use Rattle.journal_model.specs.scripts.Spelling.{buffer_line, turn_line, group_word, placement_words}
use Rattle.journal_model.specs.scripts.CommandRules.{is_between}
use Rattle.journal_model.specs.scripts.ScriptRules.{is_name, same_text, has_distinct_names, is_group, is_decl, is_place_list, is_turn_line}
use Rattle.journal_model.specs.scripts.Reading.{names_of, number_in, group_of, places_of}
use Rattle.journal_model.specs.scripts.LineWords.{buffer_line_of, lists_line, two_lists, list_of_version_two, has_head_words, buffer_head_of}
use Rattle.journal_model.specs.scripts.LineRules.{lacks_number_in_head, has_wrong_name, is_broken_place, is_no_list, may_force}
use Rattle.journal_model.specs.scripts.FirstFault.{or_zero, first_word, with_line, with_buffer, decl_of, place_in, wanted, taken_under_pressure}
use Rattle.law_legal.proofs.law_script.NumberLaws.{is_in}
use Rattle.law_legal.proofs.law_script.WordLaws.{bytes_are}
use Rattle.law_legal.proofs.law_script.LineLaws.{made, Breaks_none}
use Rattle.law_legal.proofs.law_script.HeadLaws.{places_take}
use Rattle.law_legal.proofs.law_script.KindLaws.{group_takes}
use Rattle.law_legal.proofs.law_script.BufferLaws.{two_lists_take}
use Rattle.law_legal.proofs.law_script.AgainLaws.{turned}
use Rattle.law_legal.proofs.law_script.CommandFits.{number_small}
use Rattle.law_legal.proofs.law_script.CommandSteps.{not_false}
use Rattle.law_legal.proofs.law_script.PlaceFits.{old_lists_fit, new_list_fits, not_no_list}
use Rattle.law_legal.specs.law_items.Items.{Item, items_text, items_fit}
use Rattle.law_legal.proofs.law_items.ListFacts.{all_nil, all_more, length_more}
use Rattle.law_legal.proofs.law_items.Puts.{no_lists}
use Rattle.law_legal.proofs.law_script.Sound.{frame, seats, six, is_asked, Sound, text_of, Grows}
use Rattle.law_legal.proofs.law_script.HeadSteps.{at, number_there}
use Rattle.law_legal.proofs.law_items.Tests.{not_true, either, both, joint, three_facts, is_le}

-- ---- names

-- both tests of texts are one
pub same_is : (a b : Text) → same_text a b ≡ bytes_eq a b
same_is [] [] = refl
same_is (x ∷ a) (y ∷ b) = ap (λ t. eqb x y && t) (same_is a b)
same_is [] (y ∷ b) = refl
same_is (x ∷ a) [] = refl

any_more : {X : Type 0} (p : X → Bool) (xs : List X) (x : X) → list_any p xs ≡ false → p x ≡ false → list_any p (xs ++ x ∷ []) ≡ false
any_more p [] x h k = ap (λ b. b || false) k
any_more p (y ∷ xs) x h k =
    let f = either (p y) (list_any p xs) h in
    ap (λ b. b || list_any p (xs ++ x ∷ [])) f.0 ∙ any_more p xs x f.1 k

-- a free name leaves the names distinct
pub distinct_more : (ds : List Decl) (d : Decl) → has_distinct_names ds ≡ true → list_any (bytes_eq d.name) (names_of ds) ≡ false → has_distinct_names (ds ++ d ∷ []) ≡ true
distinct_more [] d h k = refl
distinct_more (e ∷ ds) d h k =
    let p : Decl → Bool = λ x. same_text e.name x.name in
    let f = both (not (list_any p ds)) (has_distinct_names ds) h in
    let g = either (bytes_eq d.name e.name) (list_any (bytes_eq d.name) (names_of ds)) k in
    let other : p d ≡ false = same_is e.name d.name ∙ turned d.name e.name g.0 in
    joint (not (list_any p (ds ++ d ∷ []))) (has_distinct_names (ds ++ d ∷ [])) (ap not (any_more p ds d (not_true (list_any p ds) f.0) other)) (distinct_more ds d f.1 g.1)

-- ---- one more buffer

-- a line says a declaration that keeps its rules
pub record Declares (s : Script) (n m : ℕ) (ws : List Text) (l : Line) : Type 0 where
  pub d : Decl
  pub taken : with_line (at phase.Buffers s n m) l ≡ with_buffer (at phase.Buffers s n m) d
  pub words : line ws ≡ buffer_line s.version d
  pub fits : is_decl s.version d ≡ true
  pub free : list_any (bytes_eq d.name) (names_of s.buffers) ≡ false
  pub few : length s.buffers < 256

grown : {B C : Type 0} (a b d x : Text) (g k : B → Text) (h : C → Text) (bs : List B) (cs : List C) → bs ≡ [] → cs ≡ [] → d ≡ b ++ x
    → a ++ d ++ flat_map g bs ++ flat_map h cs ≡ (a ++ b ++ flat_map k bs ++ flat_map h cs) ++ x
grown a b d x g k h [] [] p q r =
    append-nil (a ++ d ++ []) ∙ append-nil (a ++ d) ∙ ap (λ t. a ++ t) r ∙ sym (append_assoc a b x) ∙ ap (λ t. t ++ x) (sym (append-nil (a ++ b ++ []) ∙ append-nil (a ++ b)))
grown a b d x g k h (y ∷ bs) cs p q r = absurd cc
grown a b d x g k h [] (y ∷ cs) p q r = absurd cc

with_one : (s : Script) (lists : List (List Item)) (n m : ℕ) (d : Decl) → Sound (at phase.Buffers s n m) lists → is_decl s.version d ≡ true → list_any (bytes_eq d.name) (names_of s.buffers) ≡ false → length s.buffers < 256 → Sound (with_buffer (at phase.Buffers s n m) d) lists
with_one s lists n m d h fit free few = let none = no_lists s lists h.comes h.stage.0 in record {
  version = h.version;
  sizes = h.sizes;
  few_buffers = let e = length_more s.buffers d in omega (arith, e, few);
  decls = all_more (is_decl s.version) s.buffers d h.decls fit;
  names = distinct_more s.buffers d h.names free;
  comes = record { threads = h.comes.threads; marks = h.comes.marks };
  few_threads = h.few_threads;
  commands = all_nil (list_all (is_asked (frame (record s { buffers = s.buffers ++ d ∷ [] })))) lists none;
  few_lines = h.few_lines;
  lines = h.lines;
  lens = h.lens;
  short = h.short;
  marks = all_nil (items_fit (frame (record s { buffers = s.buffers ++ d ∷ [] }))) lists none;
  turns = all_nil (is_turn_line (seats (record s { buffers = s.buffers ++ d ∷ [] }))) s.turns h.stage.1;
  stage = h.stage;
}

-- a buffer line
pub buffer_step : {lists : List (List Item)} (s : Script) (n m : ℕ) (ws : List Text) (l : Line) → Declares s n m ws l → Sound (at phase.Buffers s n m) lists → Grows (at phase.Buffers s n m) lists l ws
buffer_step {lists = lists} s n m ws l t h =
    let p = at phase.Buffers s n m in
    let q = with_buffer p t.d in
    let more : text_of q lists ≡ text_of p lists ++ line ws =
    grown (six s) (flat_map (buffer_line s.version) s.buffers) (flat_map (buffer_line s.version) (s.buffers ++ t.d ∷ [])) (line ws) (items_text (frame q.script)) (items_text (frame s)) turn_line lists s.turns (no_lists s lists h.comes h.stage.0) h.stage.1
    (flat_map-append (buffer_line s.version) s.buffers (t.d ∷ []) ∙ ap (λ x. flat_map (buffer_line s.version) s.buffers ++ x) (flat_map-cons (buffer_line s.version) t.d [] ∙ append-nil (buffer_line s.version t.d) ∙ sym t.words)) in
    record {
      next = lists;
      sound = subst (λ x. Sound x lists) (sym t.taken) (with_one s lists n m t.d h t.fits t.free t.few);
      more = ap (λ x. text_of x lists) t.taken ∙ more;
    }

-- ---- a buffer line

six_facts : (a b c d e f : Bool) → a ≡ true → b ≡ true → c ≡ true → d ≡ true → e ≡ true → f ≡ true → (a && b && c && d && e && f) ≡ true
six_facts true true true true true f p q r s t u = u
six_facts false b c d e f p q r s t u = absurd cc
six_facts true false c d e f p q r s t u = absurd cc
six_facts true true false d e f p q r s t u = absurd cc
six_facts true true true false e f p q r s t u = absurd cc
six_facts true true true true false f p q r s t u = absurd cc

four_nones : (a b c d : Bool) → (a || b || c || d) ≡ false → (a ≡ false) × (b ≡ false) × (c ≡ false) × (d ≡ false)
four_nones false false false false h = (refl, refl, refl, refl)
four_nones true b c d h = absurd cc
four_nones false true c d h = absurd cc
four_nones false false true d h = absurd cc
four_nones false false false true h = absurd cc

group_chosen : (b : Bool) (o : Option ℕ) → or_zero o ≤ 15 → let x : Option (Option ℕ) = cond b (Some None) (option_map (λ n. Some n) o) in is_group (unwrap_or x None) ≡ true
group_chosen true o h = refl
group_chosen false (Some n) h = is_le n 15 h
group_chosen false None h = refl

group_fits : (w : Text) → is_group (unwrap_or (group_of w) None) ≡ true
group_fits w = group_chosen (bytes_eq w (codes "-")) (number_in 0 15 w) (number_small 0 15 w)

-- what a choice answers
pub some_if : (b : Bool) (x l : Line) → cond b (made x) None ≡ made l → (b ≡ true) × (x ≡ l)
some_if true x l h = (refl, cc)
some_if false x l h = absurd cc

none_if : (b : Bool) (o : Option Line) (l : Line) → cond b None o ≡ made l → (b ≡ false) × (o ≡ made l)
none_if true o l h = absurd cc
none_if false o l h = (refl, h)

then_if : (b : Bool) (o : Option Line) (l : Line) → cond b o None ≡ made l → (b ≡ true) × (o ≡ made l)
then_if true o l h = (refl, h)
then_if false o l h = absurd cc

-- a head whose numbers and name are right
pub record IsHead (s : Script) (h : BufferHead) : Type 0 where
  pub numbers : lacks_number_in_head h ≡ false
  pub name : has_wrong_name (names_of s.buffers) h ≡ false

decl_fits : (s : Script) (v : ℕ) (name pages prio group align : Text) (list : List FlaggedPlace) → IsHead s (buffer_head_of name pages prio group align) → is_place_list v list ≡ true → is_decl v (decl_of (buffer_head_of name pages prio group align) list) ≡ true
decl_fits s v name pages prio group align list h places =
    let e = either (not (is_name name)) (list_any (bytes_eq name) (names_of s.buffers)) h.name in
    let f = four_nones (is_none (number_in 1 4096 pages)) (is_none (number_in 0 3 prio)) (is_none (group_of group)) (is_none (number_in 1 4096 align)) h.numbers in
    let a = number_there 1 4096 pages (omega arith) f.0 in
    let b = number_there 1 4096 align (omega arith) f.3 in
    six_facts (is_name name) (is_between 1 4096 (or_zero (number_in 1 4096 pages))) (nat_le (or_zero (number_in 0 3 prio)) 3) (is_group (unwrap_or (group_of group) None)) (is_between 1 4096 (or_zero (number_in 1 4096 align))) (is_place_list v list)
    (not_false (is_name name) e.0) (is_in 1 4096 _ a.1 a.2) (is_le _ 3 (number_small 0 3 prio)) (group_fits group) (is_in 1 4096 _ b.1 b.2) places

-- the words before the places
head_words : (s : Script) (w name pages a prio b group c align : Text) (rest : List Text) → w ≡ codes "buffer" → has_head_words a b c ≡ true → IsHead s (buffer_head_of name pages prio group align)
    → let h = buffer_head_of name pages prio group align in w ∷ name ∷ pages ∷ a ∷ prio ∷ b ∷ group ∷ c ∷ align ∷ rest
    ≡ codes "buffer" ∷ name ∷ decimal (or_zero h.pages) ∷ codes "prio" ∷ decimal (or_zero h.prio) ∷ codes "group" ∷ group_word (unwrap_or h.group None) ∷ codes "align" ∷ decimal (or_zero h.align) ∷ rest
head_words s w name pages a prio b group c align rest k fixed h =
    let t = three_facts (bytes_eq a (codes "prio")) (bytes_eq b (codes "group")) (bytes_eq c (codes "align")) fixed in
    let f = four_nones (is_none (number_in 1 4096 pages)) (is_none (number_in 0 3 prio)) (is_none (group_of group)) (is_none (number_in 1 4096 align)) h.numbers in
    let wp = decimal (or_zero (number_in 1 4096 pages)) in
    let wr = decimal (or_zero (number_in 0 3 prio)) in
    let wg = group_word (unwrap_or (group_of group) None) in
    ap (λ x. x ∷ name ∷ pages ∷ a ∷ prio ∷ b ∷ group ∷ c ∷ align ∷ rest) k
    ∙ ap (λ x. codes "buffer" ∷ name ∷ x ∷ a ∷ prio ∷ b ∷ group ∷ c ∷ align ∷ rest) (number_there 1 4096 pages (omega arith) f.0).0
    ∙ ap (λ x. codes "buffer" ∷ name ∷ wp ∷ x ∷ prio ∷ b ∷ group ∷ c ∷ align ∷ rest) (bytes_are a (codes "prio") t.0)
    ∙ ap (λ x. codes "buffer" ∷ name ∷ wp ∷ codes "prio" ∷ x ∷ b ∷ group ∷ c ∷ align ∷ rest) (number_there 0 3 prio (omega arith) f.1).0
    ∙ ap (λ x. codes "buffer" ∷ name ∷ wp ∷ codes "prio" ∷ wr ∷ x ∷ group ∷ c ∷ align ∷ rest) (bytes_are b (codes "group") t.1)
    ∙ ap (λ x. codes "buffer" ∷ name ∷ wp ∷ codes "prio" ∷ wr ∷ codes "group" ∷ x ∷ c ∷ align ∷ rest) (group_takes group f.2)
    ∙ ap (λ x. codes "buffer" ∷ name ∷ wp ∷ codes "prio" ∷ wr ∷ codes "group" ∷ wg ∷ x ∷ align ∷ rest) (bytes_are c (codes "align") t.2)
    ∙ ap (λ x. codes "buffer" ∷ name ∷ wp ∷ codes "prio" ∷ wr ∷ codes "group" ∷ wg ∷ codes "align" ∷ x ∷ rest) (number_there 1 4096 align (omega arith) f.3).0

is_one : (v : ℕ) → is_between 1 2 v ≡ true → eqb v 2 ≡ false → v ≡ 1
is_one v h k = grind (arith, nat_tests, h, k)

free_room : (n : ℕ) → nat_le 256 n ≡ false → n < 256
free_room n h = grind (arith, nat_tests, h)

three_or : (a b c : Bool) → (a || b || c) ≡ false → (a ≡ false) × (b ≡ false) × (c ≡ false)
three_or false false false h = (refl, refl, refl)
three_or true b c h = absurd cc
three_or false true c h = absurd cc
three_or false false true h = absurd cc

old_says : (s : Script) (n m : ℕ) (w name pages a prio b group c align d want e busy : Text) (l : Line) → w ≡ codes "buffer" → s.version ≡ 1
    → two_lists (has_head_words a b c) (buffer_head_of name pages prio group align) d want e busy ≡ made l → Breaks_none (at phase.Buffers s n m) l
    → Declares s n m (w ∷ name ∷ pages ∷ a ∷ prio ∷ b ∷ group ∷ c ∷ align ∷ d ∷ want ∷ e ∷ busy ∷ []) l
old_says s n m w name pages a prio b group c align d want e busy l k one h r =
    let head = buffer_head_of name pages prio group align in
    let xs = places_of false want in
    let ys = places_of false busy in
    let z = some_if (has_head_words a b c && bytes_eq d (codes "want") && bytes_eq e (codes "busy")) (says.Buffer head xs ys) l h in
    let t = three_facts (has_head_words a b c) (bytes_eq d (codes "want")) (bytes_eq e (codes "busy")) z.0 in
    let list = map wanted xs ++ map taken_under_pressure ys in
    subst (λ (x : Line). Breaks_none (at phase.Buffers s n m) x → Declares s n m (w ∷ name ∷ pages ∷ a ∷ prio ∷ b ∷ group ∷ c ∷ align ∷ d ∷ want ∷ e ∷ busy ∷ []) x) z.1 (λ r.
    let q = three_or (lacks_number_in_head head) (list_any is_broken_place xs) (list_any is_broken_place ys) r.numbers in
    let u = either (is_no_list 4 xs) (is_no_list 4 ys) r.places in
    let good : IsHead s head = record { numbers = q.0; name = r.names } in
    record {
      d = decl_of head list;
      taken = refl;
      words = ap line (head_words s w name pages a prio b group c align (d ∷ want ∷ e ∷ busy ∷ []) k t.0 good)
          ∙ ap (λ ts. line (codes "buffer" ∷ name ∷ decimal (or_zero head.pages) ∷ codes "prio" ∷ decimal (or_zero head.prio) ∷ codes "group" ∷ group_word (unwrap_or head.group None) ∷ codes "align" ∷ decimal (or_zero head.align) ∷ ts))
          (ap (λ x. x ∷ want ∷ e ∷ busy ∷ []) (bytes_are d (codes "want") t.1) ∙ ap (λ x. codes "want" ∷ want ∷ x ∷ busy ∷ []) (bytes_are e (codes "busy") t.2)
          ∙ sym (ap (λ v. placement_words v list) one ∙ two_lists_take want busy (not_no_list 4 xs u.0).0 q.1 (not_no_list 4 ys u.1).0 q.2));
      fits = decl_fits s s.version name pages prio group align list good (ap (λ v. is_place_list v list) one ∙ old_lists_fit want busy u.0 q.1 u.1 q.2);
      free = (either (not (is_name name)) (list_any (bytes_eq name) (names_of s.buffers)) r.names).1;
      few = free_room (length s.buffers) r.counts;
    }) r

new_says : (s : Script) (n m : ℕ) (w name pages a prio b group c align d list : Text) (l : Line) → w ≡ codes "buffer" → s.version ≡ 2
    → list_of_version_two (has_head_words a b c) (buffer_head_of name pages prio group align) d list ≡ made l → Breaks_none (at phase.Buffers s n m) l
    → Declares s n m (w ∷ name ∷ pages ∷ a ∷ prio ∷ b ∷ group ∷ c ∷ align ∷ d ∷ list ∷ []) l
new_says s n m w name pages a prio b group c align d list l k two h r =
    let head = buffer_head_of name pages prio group align in
    let xs = places_of true list in
    let z = some_if (has_head_words a b c && bytes_eq d (codes "place")) (says.Placed head xs) l h in
    let t = both (has_head_words a b c) (bytes_eq d (codes "place")) z.0 in
    subst (λ (x : Line). Breaks_none (at phase.Buffers s n m) x → Declares s n m (w ∷ name ∷ pages ∷ a ∷ prio ∷ b ∷ group ∷ c ∷ align ∷ d ∷ list ∷ []) x) z.1 (λ r.
    let q = either (lacks_number_in_head head) (list_any is_broken_place xs) r.numbers in
    let u = either (is_no_list 8 xs) (not (list_any may_force xs)) r.places in
    let good : IsHead s head = record { numbers = q.0; name = r.names } in
    record {
      d = decl_of head (map place_in xs);
      taken = refl;
      words = ap line (head_words s w name pages a prio b group c align (d ∷ list ∷ []) k t.0 good)
          ∙ ap (λ ts. line (codes "buffer" ∷ name ∷ decimal (or_zero head.pages) ∷ codes "prio" ∷ decimal (or_zero head.prio) ∷ codes "group" ∷ group_word (unwrap_or head.group None) ∷ codes "align" ∷ decimal (or_zero head.align) ∷ ts))
          (ap (λ x. x ∷ list ∷ []) (bytes_are d (codes "place") t.1)
          ∙ sym (ap (λ v. placement_words v (map place_in xs)) two ∙ ap (λ x. codes "place" ∷ x ∷ []) (places_take list (not_no_list 8 xs u.0).0 q.1)));
      fits = decl_fits s s.version name pages prio group align (map place_in xs) good (ap (λ v. is_place_list v (map place_in xs)) two ∙ new_list_fits list u.0 q.1 (not_false (list_any may_force xs) u.1));
      free = (either (not (is_name name)) (list_any (bytes_eq name) (names_of s.buffers)) r.names).1;
      few = free_room (length s.buffers) r.counts;
    }) r

rest_says : (s : Script) (n m : ℕ) (w name pages a prio b group c align : Text) (rest : List Text) (l : Line) → w ≡ codes "buffer" → is_between 1 2 s.version ≡ true
    → lists_line (eqb s.version 2) (has_head_words a b c) (buffer_head_of name pages prio group align) rest ≡ made l → Breaks_none (at phase.Buffers s n m) l
    → Declares s n m (w ∷ name ∷ pages ∷ a ∷ prio ∷ b ∷ group ∷ c ∷ align ∷ rest) l
rest_says s n m w name pages a prio b group c align [] l k v h r = absurd cc
rest_says s n m w name pages a prio b group c align (d ∷ []) l k v h r = absurd cc
rest_says s n m w name pages a prio b group c align (d ∷ list ∷ []) l k v h r =
    let z = then_if (eqb s.version 2) (list_of_version_two (has_head_words a b c) (buffer_head_of name pages prio group align) d list) l h in
    new_says s n m w name pages a prio b group c align d list l k (eqb-true s.version 2 z.0) z.1 r
rest_says s n m w name pages a prio b group c align (d ∷ x ∷ y ∷ []) l k v h r = absurd cc
rest_says s n m w name pages a prio b group c align (d ∷ want ∷ e ∷ busy ∷ []) l k v h r =
    let z = none_if (eqb s.version 2) (two_lists (has_head_words a b c) (buffer_head_of name pages prio group align) d want e busy) l h in
    old_says s n m w name pages a prio b group c align d want e busy l k (is_one s.version v z.0) z.1 r
rest_says s n m w name pages a prio b group c align (d ∷ x ∷ y ∷ z ∷ u ∷ us) l k v h r = absurd cc

-- a buffer line that breaks no rule says a declaration
pub buffer_says : (s : Script) (n m : ℕ) (ws : List Text) (l : Line) → first_word ws ≡ codes "buffer" → is_between 1 2 s.version ≡ true → buffer_line_of (eqb s.version 2) ws ≡ made l → Breaks_none (at phase.Buffers s n m) l → Declares s n m ws l
buffer_says s n m [] l k v h r = absurd cc
buffer_says s n m (w ∷ []) l k v h r = absurd cc
buffer_says s n m (w ∷ x1 ∷ []) l k v h r = absurd cc
buffer_says s n m (w ∷ x1 ∷ x2 ∷ []) l k v h r = absurd cc
buffer_says s n m (w ∷ x1 ∷ x2 ∷ x3 ∷ []) l k v h r = absurd cc
buffer_says s n m (w ∷ x1 ∷ x2 ∷ x3 ∷ x4 ∷ []) l k v h r = absurd cc
buffer_says s n m (w ∷ x1 ∷ x2 ∷ x3 ∷ x4 ∷ x5 ∷ []) l k v h r = absurd cc
buffer_says s n m (w ∷ x1 ∷ x2 ∷ x3 ∷ x4 ∷ x5 ∷ x6 ∷ []) l k v h r = absurd cc
buffer_says s n m (w ∷ x1 ∷ x2 ∷ x3 ∷ x4 ∷ x5 ∷ x6 ∷ x7 ∷ []) l k v h r = absurd cc
buffer_says s n m (w ∷ name ∷ pages ∷ a ∷ prio ∷ b ∷ group ∷ c ∷ align ∷ rest) l k v h r = rest_says s n m w name pages a prio b group c align rest l k v h r
