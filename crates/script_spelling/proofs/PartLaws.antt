-- Places in a list, one more each time.
use Rattle.std.proofs.Common.{◌≡◌, ℕ, ◌+◌, ◌<◌, Bool, true, false, cond, eqb, List, [], ◌∷◌, ◌++◌, length, map, take, get_or, refl, ap, ◌∙◌, sym, append-nil, append_assoc}
use Rattle.std.specs.Prelude.{codes, filter, not}
use Rattle.std.specs.List.{join_with_byte}
use Rattle.std.proofs.lemmas.Bool.{eqb-true}
use Rattle.std.proofs.lemmas.List.{take_more, map-append}
use Rattle.std.proofs.lemmas.List.Elements.{filter-append}
use Rattle.ttm_base.specs.declared.FlaggedPlace.{FlaggedPlace}
use Rattle.ttm_base.specs.Placement.{first_places, forced_places}
use Rattle.journal_model.specs.scripts.Words.{Text}
use Rattle.journal_model.specs.scripts.Spelling.{flag, flagged_word, place_word, placement_words, words_of_places}
use Rattle.script_spelling.specs.Lists.{is_in, item_word, part_word, part_words}
use Rattle.text_line.specs.Spaced.{spaced_out}
use Rattle.script_spelling.specs.declared.places.Part.{Part}
use Rattle.script_spelling.specs.declared.places.Part.TheVariants as part
use Rattle.script_spelling.proofs.SpacedLaws.{words_join}

-- nothing stands yet
abbrev pub is_none : {X : Type 0} → List X → Bool
is_none [] = true
is_none (x ∷ xs) = false

filter_one : {X : Type 0} (p : X → Bool) (x : X) (b : Bool) → p x ≡ b → filter p (x ∷ []) ≡ cond b (x ∷ []) []
filter_one p x b h = ap (λ c. cond c (x ∷ []) []) h

one_more : (which : Part) (list : List FlaggedPlace) (i : ℕ) (d x : FlaggedPlace) (b : Bool) → i < length list → x ≡ get_or list i d → is_in which x ≡ b
    → part_words which (take (i + 1) list) ≡ part_words which (take i list) ++ map (item_word which) (cond b (x ∷ []) [])
one_more which list i d x b h read kept =
    ap (part_words which) (take_more list i d h ∙ ap (λ y. take i list ++ y ∷ []) (sym read))
    ∙ ap (map (item_word which)) (filter-append (is_in which) (take i list) (x ∷ []) ∙ ap (λ ys. filter (is_in which) (take i list) ++ ys) (filter_one (is_in which) x b kept))
    ∙ map-append (item_word which) (filter (is_in which) (take i list)) (cond b (x ∷ []) [])

-- a place that the part has
pub one_kept : (which : Part) (list : List FlaggedPlace) (i : ℕ) (d x : FlaggedPlace) → i < length list → x ≡ get_or list i d → is_in which x ≡ true
    → part_words which (take (i + 1) list) ≡ part_words which (take i list) ++ item_word which x ∷ []
one_kept which list i d x h read kept = one_more which list i d x true h read kept

-- a place that it doesn't have
pub one_passed : (which : Part) (list : List FlaggedPlace) (i : ℕ) (d x : FlaggedPlace) → i < length list → x ≡ get_or list i d → is_in which x ≡ false
    → part_words which (take (i + 1) list) ≡ part_words which (take i list)
one_passed which list i d x h read passed = one_more which list i d x false h read passed ∙ append-nil (part_words which (take i list))

-- a word after the others
pub joined_more : (ws : List Text) (w : Text) → join_with_byte 44 (ws ++ w ∷ []) ≡ join_with_byte 44 ws ++ flag (not (is_none ws)) (44 ∷ []) ++ w
joined_more [] w = refl
joined_more (v ∷ []) w = sym (append_assoc v (44 ∷ []) w)
joined_more (v ∷ u ∷ ws) w =
    let rest = join_with_byte 44 (u ∷ ws) in
    ap (λ t. v ++ (44 ∷ t)) (joined_more (u ∷ ws) w) ∙ sym (append_assoc v (44 ∷ (rest ++ (44 ∷ []))) w)
    ∙ ap (λ t. t ++ w) (sym (append_assoc v (44 ∷ rest) (44 ∷ [])))

-- there is one
pub some_now : {X : Type 0} (ws : List X) (w : X) → is_none (ws ++ w ∷ []) ≡ false
some_now [] w = refl
some_now (v ∷ ws) w = refl

filter_all : {X : Type 0} (xs : List X) → filter (λ _. true) xs ≡ xs
filter_all [] = refl
filter_all (x ∷ xs) = ap (λ ys. x ∷ ys) (filter_all xs)

map_twice : {X Y Z : Type 0} (f : Y → Z) (g : X → Y) (xs : List X) → map f (map g xs) ≡ map (λ x. f (g x)) xs
map_twice f g [] = refl
map_twice f g (x ∷ xs) = ap (λ ys. f (g x) ∷ ys) (map_twice f g xs)

-- the parts of a list
pub words_first : (list : List FlaggedPlace) → part_words part.First list ≡ map place_word (first_places list)
words_first list = sym (map_twice place_word (λ p. p.place) (filter (is_in part.First) list))

pub words_forced : (list : List FlaggedPlace) → part_words part.Forced list ≡ map place_word (forced_places list)
words_forced list = sym (map_twice place_word (λ p. p.place) (filter (is_in part.Forced) list))

pub words_all : (list : List FlaggedPlace) → part_words part.All list ≡ map flagged_word list
words_all list = ap (map flagged_word) (filter_all list)

-- ---- steps of the loop

-- the place is written
pub kept_on : (which : Part) (list : List FlaggedPlace) (i : ℕ) (d x : FlaggedPlace) (first : Bool) (old t t1 t2 : Text) → i < length list → x ≡ get_or list i d → is_in which x ≡ true
    → first ≡ is_none (part_words which (take i list)) → t ≡ old ++ part_word which (take i list) → t1 ≡ t ++ flag (not first) (44 ∷ []) → t2 ≡ t1 ++ item_word which x
    → t2 ≡ old ++ part_word which (take (i + 1) list)
kept_on which list i d x first old t t1 t2 h read kept none e f g =
    let ws = part_words which (take i list) in
    let w = item_word which x in
    let comma : Bool → Text = λ b. flag (not b) (44 ∷ []) in
    g ∙ ap (λ a. a ++ w) (f ∙ ap (λ a. a ++ comma first) e ∙ append_assoc old (join_with_byte 44 ws) (comma first))
    ∙ append_assoc old (join_with_byte 44 ws ++ comma first) w
    ∙ ap (λ b. old ++ ((join_with_byte 44 ws ++ comma b) ++ w)) none
    ∙ ap (λ a. old ++ a) (sym (joined_more ws w) ∙ ap (join_with_byte 44) (sym (one_kept which list i d x h read kept)))

-- and it isn't the first any more
pub not_first : (which : Part) (list : List FlaggedPlace) (i : ℕ) (d x : FlaggedPlace) → i < length list → x ≡ get_or list i d → is_in which x ≡ true
    → false ≡ is_none (part_words which (take (i + 1) list))
not_first which list i d x h read kept = sym (ap is_none (one_kept which list i d x h read kept) ∙ some_now (part_words which (take i list)) (item_word which x))

-- ---- both versions

-- two lists
pub old_words : (version : ℕ) (list : List FlaggedPlace) (old a new : Text) → version ≡ 1 → a ≡ old ++ spaced_out (codes "want" ∷ part_word part.First list ∷ [])
    → new ≡ a ++ spaced_out (codes "busy" ∷ part_word part.Forced list ∷ []) → new ≡ old ++ spaced_out (placement_words version list)
old_words version list old a new one p q =
    words_join old a new (codes "want" ∷ part_word part.First list ∷ []) (codes "busy" ∷ part_word part.Forced list ∷ []) p q
    ∙ ap (λ ws. old ++ spaced_out (codes "want" ∷ words_of_places ws ∷ codes "busy" ∷ part_word part.Forced list ∷ [])) (words_first list)
    ∙ ap (λ ws. old ++ spaced_out (codes "want" ∷ words_of_places (map place_word (first_places list)) ∷ codes "busy" ∷ words_of_places ws ∷ [])) (words_forced list)
    ∙ ap (λ v. old ++ spaced_out (placement_words v list)) (sym one)

-- one list
pub new_words : (version : ℕ) (list : List FlaggedPlace) (old new : Text) → eqb version 1 ≡ false → new ≡ old ++ spaced_out (codes "place" ∷ part_word part.All list ∷ [])
    → new ≡ old ++ spaced_out (placement_words version list)
new_words version list old new other p =
    p ∙ ap (λ ws. old ++ spaced_out (codes "place" ∷ words_of_places ws ∷ [])) (words_all list)
    ∙ ap (λ b. old ++ spaced_out (cond b (codes "want" ∷ words_of_places (map place_word (first_places list)) ∷ codes "busy" ∷ words_of_places (map place_word (forced_places list)) ∷ []) (codes "place" ∷ words_of_places (map flagged_word list) ∷ []))) (sym other)

not_one_by : (n : ℕ) (b : Bool) → eqb n 1 ≡ b → (n ≡ 1 → ⊥) → b ≡ false
not_one_by n true e h = absurd (h (eqb-true n 1 e))
not_one_by n false e h = refl

-- another version
pub not_one : (n : ℕ) → (n ≡ 1 → ⊥) → eqb n 1 ≡ false
not_one n h = not_one_by n (eqb n 1) refl h
