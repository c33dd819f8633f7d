-- Names come back.
use Rattle.std.proofs.Common.{◌≡◌, ℕ, zero, suc, ◌+◌, Bool, true, false, cond, List, [], ◌∷◌, length, Some, unwrap_or, refl, sym, ap, ◌∙◌, arith, zero-add}
use Rattle.std.specs.Prelude.{not, ◌&&◌, ◌||◌, nat_lt, nat_le, slice_get, sum_by}
use Rattle.std.specs.List.{list_any, list_all}
use Rattle.std.proofs.lemmas.Bool.Decides.{nat_tests}
use Rattle.ttm_base.specs.declared.BufId.{BufId}
use Rattle.journal_model.specs.declared.script.Script.{Script}
use Rattle.journal_model.specs.declared.script.Decl.{Decl}
use Rattle.journal_model.specs.scripts.Words.{Text, name_of}
use Rattle.journal_model.specs.rules.Commands.{undeclared}
use Rattle.journal_model.specs.scripts.ScriptRules.{has_distinct_names, has_sizes, is_decl, is_group, is_name, is_place_list, is_script, is_turn_line, same_text}
use Rattle.journal_model.specs.scripts.CommandRules.{is_between, is_command, command_len}
use Rattle.journal_model.specs.scripts.MarkRules.{have_marks}
use Rattle.journal_model.specs.scripts.CommandRules.{is_declared}
use Rattle.law_legal.proofs.law_report.Cuts.{both, joint}

-- a text is the same as itself
pub same_text_refl : (w : Text) → same_text w w ≡ true
same_text_refl [] = refl
same_text_refl (c ∷ w) = let e = same_text_refl w in joint _ _ (grind (arith, nat_tests)) e

-- the place of the first buffer with the name, counted from k
abbrev pub index_of : Text → List Decl → ℕ → ℕ
index_of w [] k = k
index_of w (d ∷ ds) k = cond (same_text d.name w) k (index_of w ds (k + 1))

not_true : (b : Bool) → not b ≡ true → b ≡ false
not_true true h = absurd cc
not_true false h = refl

either : (a b : Bool) → (a || b) ≡ false → (a ≡ false) × (b ≡ false)
either true b h = absurd cc
either false b h = (refl, h)

-- none passes
none_at : {X : Type 0} (p : X → Bool) (xs : List X) (i : ℕ) (x : X) → list_any p xs ≡ false → slice_get xs i ≡ Some x → p x ≡ false
none_at p [] i x h e = cc
none_at p (y ∷ xs) zero x h e = let s : y ≡ x = cc in ap p (sym s) ∙ (either (p y) (list_any p xs) h).0
none_at p (y ∷ xs) (suc i) x h e = none_at p xs i x (either (p y) (list_any p xs) h).1 e

-- each passes
all_at : {X : Type 0} (p : X → Bool) (xs : List X) (i : ℕ) (x : X) → list_all p xs ≡ true → slice_get xs i ≡ Some x → p x ≡ true
all_at p [] i x h e = cc
all_at p (y ∷ xs) zero x h e = let s : y ≡ x = cc in ap p (sym s) ∙ (both (p y) (list_all p xs) h).0
all_at p (y ∷ xs) (suc i) x h e = all_at p xs i x (both (p y) (list_all p xs) h).1 e

index_again : (ds : List Decl) (i k : ℕ) (d : Decl) → has_distinct_names ds ≡ true → slice_get ds i ≡ Some d → index_of d.name ds k ≡ k + i
index_again [] i k d h e = cc
index_again (x ∷ ds) zero k d h e =
    let s : x ≡ d = cc in
    let z : k ≡ k + 0 = omega arith in
    ap (λ b. cond b k (index_of d.name ds (k + 1))) (ap (λ y. same_text y.name d.name) s ∙ same_text_refl d.name) ∙ z
index_again (x ∷ ds) (suc i) k d h e =
    let f = both (not (list_any (λ y. same_text x.name y.name) ds)) (has_distinct_names ds) h in
    let z : (k + 1) + i ≡ k + suc i = omega arith in
    ap (λ b. cond b k (index_of d.name ds (k + 1))) (none_at (λ y. same_text x.name y.name) ds i d (not_true _ f.0) e)
    ∙ index_again ds i (k + 1) d f.1 e ∙ z

-- what is declared
abbrev pub un_name : Script → Text → BufId
un_name script w = record { 0 = index_of w script.buffers 0 }

-- an element is there
there : {X : Type 0} (xs : List X) (i : ℕ) → nat_lt i (length xs) ≡ true → (x : X) × (slice_get xs i ≡ Some x)
there [] i h = absurd (grind (arith, nat_tests))
there (x ∷ xs) zero h = (x, refl)
there (x ∷ xs) (suc i) h = there xs i (grind (arith, nat_tests))

fourth_and_fifth : (a b c d e f g h i j : Bool) → (((((((((a && b) && c) && d) && e) && f) && g) && h) && i) && j) ≡ true → (d ≡ true) × (e ≡ true)
fourth_and_fifth a b c d e f g h i j all =
    let p = both ((((((((a && b) && c) && d) && e) && f) && g) && h) && i) j all in
    let q = both (((((((a && b) && c) && d) && e) && f) && g) && h) i p.0 in
    let r = both ((((((a && b) && c) && d) && e) && f) && g) h q.0 in
    let s = both (((((a && b) && c) && d) && e) && f) g r.0 in
    let t = both ((((a && b) && c) && d) && e) f s.0 in
    let u = both (((a && b) && c) && d) e t.0 in
    ((both ((a && b) && c) d u.0).1, u.1)

-- the names of a script
named : (script : Script) → is_script script ≡ true → (list_all (is_decl script.version) script.buffers ≡ true) × (has_distinct_names script.buffers ≡ true)
named script h =
    fourth_and_fifth (is_between 1 2 script.version) (has_sizes script) (nat_le (length script.buffers) 256) (list_all (is_decl script.version) script.buffers)
    (has_distinct_names script.buffers) (nat_le (length script.threads) 16) (list_all (list_all (is_command script)) script.threads)
    (nat_le (sum_by (sum_by command_len) script.threads) 67108864) (list_all (is_turn_line script) script.turns) (have_marks script) h

decl_is_named : (version : ℕ) (d : Decl) → is_decl version d ≡ true → is_name d.name ≡ true
decl_is_named version d h =
    (both _ (is_between 1 4096 d.pages) (both _ (nat_le d.prio 3) (both _ (is_group d.group) (both _ (is_between 1 4096 d.align)
    (both (is_name d.name && is_between 1 4096 d.pages && nat_le d.prio 3 && is_group d.group && is_between 1 4096 d.align)
    (is_place_list version d.placement.list) h).0).0).0).0).0

-- a declared buffer comes back by its name
pub name_again : (script : Script) (b : BufId) → is_script script ≡ true → is_declared script b ≡ true → un_name script (name_of script b) ≡ b
name_again script b h k =
    let d = there script.buffers b.0 k in
    let named_so : name_of script b ≡ d.0.name = ap (λ o. (unwrap_or o undeclared).name) d.1 in
    ap (un_name script) named_so ∙ ap (λ n. (let c : BufId = record { 0 = n } in c)) (index_again script.buffers b.0 0 d.0 (named script h).1 d.1 ∙ zero-add b.0)

-- its name is one
pub declared_name : (script : Script) (b : BufId) → is_script script ≡ true → is_declared script b ≡ true → is_name (name_of script b) ≡ true
declared_name script b h k =
    let d = there script.buffers b.0 k in
    let named_so : name_of script b ≡ d.0.name = ap (λ o. (unwrap_or o undeclared).name) d.1 in
    ap is_name named_so ∙ decl_is_named script.version d.0 (all_at (is_decl script.version) script.buffers b.0 d.0 (named script h).0 d.1)
