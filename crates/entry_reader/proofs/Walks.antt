-- Lists of words as far as a loop has come, and the names that a script declares.
use Rattle.std.proofs.Common.{◌≡◌, ℕ, zero, suc, ◌+◌, ◌<◌, Bool, true, false, List, [], ◌∷◌, ◌++◌, length, take, drop, get_or, Option, Some, None, refl, ap, sym, ◌∙◌, arith, append_assoc, add-one, bytes_eq}
use Rattle.std.specs.Prelude.{◌||◌, not, option_map}
use Rattle.std.specs.List.{list_any}
use Rattle.std.proofs.lemmas.List.{append-nil}
use Rattle.journal_model.specs.declared.script.Decl.{Decl}
use Rattle.journal_model.specs.scripts.Words.{Text}
use Rattle.journal_model.specs.scripts.Reading.{names_of}
use Rattle.journal_model.specs.scripts.ScriptRules.{has_distinct_names, same_text}
use Rattle.script_words.proofs.Cuts.{drop_here}
use Rattle.law_legal.proofs.law_items.Tests.{both, either, not_true}
use Rattle.law_legal.proofs.law_script.AgainLaws.{turned}
use Rattle.law_legal.proofs.law_script.BufferSteps.{same_is}
use Rattle.entry_reader.specs.EntryReading.{all_of, with_two}

-- ---- items that are read one by one

-- these, and then those
abbrev pub and_then : {A : Type 0} → List A → Option (List A) → Option (List A)
and_then done o = option_map (λ xs. done ++ xs) o

pub none_so_far : {A : Type 0} (o : Option (List A)) → and_then [] o ≡ o
none_so_far None = refl
none_so_far (Some xs) = refl

grown : {A : Type 0} (done : List A) (x : A) (o : Option (List A)) → and_then done (option_map (λ xs. x ∷ xs) o) ≡ and_then (done ++ x ∷ []) o
grown done x None = refl
grown done x (Some xs) = ap (λ ys. Some ys) (sym (append_assoc done (x ∷ []) xs))

module _ {A : Type 0} (read : Text → Option A) where
  pub one_more : (done : List A) (words : List Text) (i : ℕ) (d : Text) (x : A) (all : Option (List A)) → i < length words → read (get_or words i d) ≡ Some x
      → and_then done (all_of read (drop i words)) ≡ all → and_then (done ++ x ∷ []) (all_of read (drop (i + 1) words)) ≡ all
  one_more done words i d x all lt told so_far =
      sym (grown done x (all_of read (drop (i + 1) words)))
      ∙ sym (ap (λ o. and_then done (with_two (λ y ys. y ∷ ys) o (all_of read (drop (i + 1) words)))) told)
      ∙ sym (ap (λ ws. and_then done (all_of read ws)) (drop_here words i d lt)) ∙ so_far

  pub one_bad : (done : List A) (words : List Text) (i : ℕ) (d : Text) (all : Option (List A)) → i < length words → read (get_or words i d) ≡ None
      → and_then done (all_of read (drop i words)) ≡ all → None ≡ all
  one_bad done words i d all lt told so_far =
      sym (ap (λ o. and_then done (with_two (λ y ys. y ∷ ys) o (all_of read (drop (i + 1) words)))) told)
      ∙ sym (ap (λ ws. and_then done (all_of read ws)) (drop_here words i d lt)) ∙ so_far

  pub no_more : (done : List A) (rest : List Text) (all : Option (List A)) → rest ≡ [] → and_then done (all_of read rest) ≡ all → Some done ≡ all
  no_more done rest all none so_far =
      ap (λ ys. Some ys) (sym (append-nil done)) ∙ sym (ap (λ ws. and_then done (all_of read ws)) none) ∙ so_far

-- ---- names

-- one name more
pub next_name : (ds : List Decl) (i : ℕ) (d : Decl) → i < length ds → names_of (take i ds) ++ (get_or ds i d).name ∷ [] ≡ names_of (take (i + 1) ds)
next_name [] i d lt = absurd (omega (arith, lt))
next_name (x ∷ ds) zero d lt = refl
next_name (x ∷ ds) (suc i) d lt = ap (λ ns. x.name ∷ ns) (next_name ds i d (omega (arith, lt)) ∙ ap (λ k. names_of (take k ds)) (add-one i)) ∙ ap (λ k. names_of (take k (x ∷ ds))) (sym (add-one (suc i)))

none_there : {X : Type 0} (p : X → Bool) (xs : List X) (i : ℕ) (d : X) → list_any p xs ≡ false → i < length xs → p (get_or xs i d) ≡ false
none_there p [] i d h lt = absurd (omega (arith, lt))
none_there p (x ∷ xs) zero d h lt = (either (p x) (list_any p xs) h).0
none_there p (x ∷ xs) (suc i) d h lt = none_there p xs i d (either (p x) (list_any p xs) h).1 (omega (arith, lt))

-- it isn't among those before it
pub fresh_name : (ds : List Decl) (i : ℕ) (d : Decl) → has_distinct_names ds ≡ true → i < length ds → list_any (bytes_eq (get_or ds i d).name) (names_of (take i ds)) ≡ false
fresh_name [] i d h lt = absurd (omega (arith, lt))
fresh_name (x ∷ ds) zero d h lt = refl
fresh_name (x ∷ ds) (suc i) d h lt =
    let f = both (not (list_any (λ e. same_text x.name e.name) ds)) (has_distinct_names ds) h in
    let name = (get_or ds i d).name in
    let below : i < length ds = omega (arith, lt) in
    let other : bytes_eq x.name name ≡ false = sym (same_is x.name name) ∙ none_there (λ e. same_text x.name e.name) ds i d (not_true _ f.0) below in
    ap (λ b. b || list_any (bytes_eq name) (names_of (take i ds))) (turned x.name name other) ∙ fresh_name ds i d f.1 below
