-- Lists of items, with a comma between each two or a dash: what is read is spelled so, and what is spelled is read.
use Rattle.std.proofs.Common.{◌≡◌, ℕ, ◌<◌, Bool, true, false, cond, eqb, List, [], ◌∷◌, ◌++◌, length, map, Option, Some, refl, ap, sym, ◌∙◌, arith, bytes_eq}
use Rattle.std.specs.Prelude.{◌&&◌, ◌||◌, not, codes}
use Rattle.std.specs.List.{join_with_byte, list_all, list_any}
use Rattle.journal_model.specs.scripts.Words.{Text, listed}
use Rattle.journal_model.specs.scripts.Cut.{cut_at}
use Rattle.law_legal.proofs.law_items.Tests.{either, both, joint}
use Rattle.law_legal.proofs.law_script.WordLaws.{bytes_are}
use Rattle.law_legal.proofs.law_script.CutLaws.{cut_some, joined, cut_again, lacks}
use Rattle.entry_reader.specs.EntryReading.{all_of, list_of}
use Rattle.entry_reader.proofs.Wholes.{Told, told_at, told_if, told_by, two_told, two_made}

-- ---- bytes that a word lacks

abbrev pub none_is : ℕ → Text → Bool
none_is c w = list_any (λ b. eqb b c) w

pub none_append : (c : ℕ) (v w : Text) → none_is c v ≡ false → none_is c w ≡ false → none_is c (v ++ w) ≡ false
none_append c [] w p q = q
none_append c (x ∷ v) w p q =
    let f = either (eqb x c) (none_is c v) p in ap (λ b. b || none_is c (v ++ w)) f.0 ∙ none_append c v w f.1 q

-- ---- items

-- it has no comma, and doesn't begin with a dash
abbrev pub IsItem : Text → Type 0
IsItem [] = ⊥
IsItem (c ∷ w) = (eqb c 45 ≡ false) × (none_is 44 (c ∷ w) ≡ false)

no_dash : (c : ℕ) (w : Text) → eqb c 45 ≡ false → bytes_eq (c ∷ w) (codes "-") ≡ false
no_dash c w h = ap (λ b. b && bytes_eq w []) h

joined_no_dash : (w : Text) (ws : List Text) → IsItem w → bytes_eq (join_with_byte 44 (w ∷ ws)) (codes "-") ≡ false
joined_no_dash [] ws h = absurd h
joined_no_dash (c ∷ w) [] h = no_dash c w h.0
joined_no_dash (c ∷ w) (v ∷ ws) h = no_dash c (w ++ 44 ∷ join_with_byte 44 (v ∷ ws)) h.0

item_lacks : (w : Text) → IsItem w → lacks 44 w ≡ true
item_lacks [] h = absurd h
item_lacks (c ∷ w) h = ap not h.1

listed_cut : (ws : List Text) → 0 < length ws → listed ws ≡ join_with_byte 44 ws
listed_cut [] h = absurd (omega (arith, h))
listed_cut (w ∷ ws) h = refl

module _ {A : Type 0} (read : Text → Option A) (word : A → Text) (is : A → Bool) where
  -- ---- what is read

  all_told : ((w : Text) (x : A) → read w ≡ Some x → (is x ≡ true) × (word x ≡ w)) → (ws : List Text)
      → Told (all_of read ws) (λ xs. (list_all is xs ≡ true) × (map word xs ≡ ws))
  all_told told [] = (refl, refl)
  all_told told (w ∷ ws) =
      two_told (λ x xs. x ∷ xs) (read w) (all_of read ws) (λ xs. (list_all is xs ≡ true) × (map word xs ≡ w ∷ ws))
      (λ x xs p q.
      let one = told w x p in
      let rest = told_at (all_of read ws) xs (λ ys. (list_all is ys ≡ true) × (map word ys ≡ ws)) (all_told told ws) q in
      (joint (is x) (list_all is xs) one.0 rest.0, ap (λ t. t ∷ map word xs) one.1 ∙ ap (λ ts. w ∷ ts) rest.1))

  pub list_told : ((w : Text) (x : A) → read w ≡ Some x → (is x ≡ true) × (word x ≡ w)) → (w : Text) (xs : List A) → list_of read w ≡ Some xs
      → (list_all is xs ≡ true) × (listed (map word xs) ≡ w)
  list_told told w xs h =
      told_at (list_of read w) xs (λ ys. (list_all is ys ≡ true) × (listed (map word ys) ≡ w))
      (told_if (bytes_eq w (codes "-")) (Some []) (all_of read (cut_at 44 w)) (λ ys. (list_all is ys ≡ true) × (listed (map word ys) ≡ w))
      (λ e. (refl, sym (bytes_are w (codes "-") e)))
      (told_by (all_of read (cut_at 44 w)) (λ ys. (list_all is ys ≡ true) × (listed (map word ys) ≡ w))
      (λ ys e.
      let parts = told_at (all_of read (cut_at 44 w)) ys (λ zs. (list_all is zs ≡ true) × (map word zs ≡ cut_at 44 w)) (all_told told (cut_at 44 w)) e in
      (parts.0, ap listed parts.1 ∙ listed_cut (cut_at 44 w) (cut_some (λ b. eqb b 44) w) ∙ joined 44 w))))
      h

  -- ---- what is spelled

  all_again : ((x : A) → is x ≡ true → read (word x) ≡ Some x) → (xs : List A) → list_all is xs ≡ true → all_of read (map word xs) ≡ Some xs
  all_again again [] h = refl
  all_again again (x ∷ xs) h =
      let f = both (is x) (list_all is xs) h in
      two_made (λ y ys. y ∷ ys) (read (word x)) (all_of read (map word xs)) x xs (again x f.0) (all_again again xs f.1)

  words_lack : ((x : A) → is x ≡ true → IsItem (word x)) → (xs : List A) → list_all is xs ≡ true → list_all (lacks 44) (map word xs) ≡ true
  words_lack item [] h = refl
  words_lack item (x ∷ xs) h =
      let f = both (is x) (list_all is xs) h in
      joint (lacks 44 (word x)) (list_all (lacks 44) (map word xs)) (item_lacks (word x) (item x f.0)) (words_lack item xs f.1)

  pub list_again : ((x : A) → is x ≡ true → read (word x) ≡ Some x) → ((x : A) → is x ≡ true → IsItem (word x)) → (xs : List A) → list_all is xs ≡ true
      → list_of read (listed (map word xs)) ≡ Some xs
  list_again again item [] h = refl
  list_again again item (x ∷ xs) h =
      let f = both (is x) (list_all is xs) h in
      let whole = join_with_byte 44 (word x ∷ map word xs) in
      ap (λ b. cond b (Some []) (all_of read (cut_at 44 whole))) (joined_no_dash (word x) (map word xs) (item x f.0))
      ∙ ap (all_of read) (cut_again 44 (word x) (map word xs) (words_lack item (x ∷ xs) h))
      ∙ all_again again (x ∷ xs) h
