-- In a script of the first version each list of places is that of its preferred and its busy places.
use Rattle.std.proofs.Common.{◌≡◌, ℕ, zero, suc, Bool, true, false, List, [], ◌∷◌, ◌++◌, length, Option, Some, None, IsTrue, refl, sym, ◌∙◌, ap, ap₂, subst}
use Rattle.std.specs.Prelude.{map, take, drop, slice_get, unwrap_or, ◌&&◌, not}
use Rattle.std.specs.List.{list_all}
use Rattle.std.proofs.lemmas.Bool.{and_parts}
use Rattle.ttm_base.specs.declared.BufId.{BufId}
use Rattle.ttm_base.specs.declared.Place.{Place}
use Rattle.ttm_base.specs.declared.FlaggedPlace.{FlaggedPlace}
use Rattle.ttm_base.specs.Placement.{first_places, forced_places}
use Rattle.journal_model.specs.declared.script.Script.{Script}
use Rattle.journal_model.specs.declared.script.Decl.{Decl}
use Rattle.journal_model.specs.rules.Commands.{decl, undeclared, as_desired, as_fallback}
use Rattle.journal_model.specs.statements.OldSearch.{one_list}
use Rattle.journal_model.specs.scripts.CommandRules.{is_between}
use Rattle.journal_model.specs.scripts.ScriptRules.{is_script, is_decl, is_flagged, is_place, is_old_list, is_place_list}
use Rattle.laws.proofs.law_state.JobsKeep.{all_at}
use Rattle.laws.proofs.law_state.Rules.{rules_of}
use Rattle.laws.specs.law_search.TwoLists.{IsTwoLists}
use Rattle.laws.proofs.law_search.Searches.{desired_first, fallback_forced}

alone : (x y : Bool) → (x && y) ≡ true → x ≡ true
alone x y h = (and_parts x y h).0

desired_is : (p : FlaggedPlace) → p.desired ≡ true → is_flagged p ≡ true → p ≡ as_desired p.place
desired_is p d f = by p.fallback refl (and_parts (is_place p.place) (not (p.desired && p.fallback)) f).1
  where
    by : (q : Bool) → p.fallback ≡ q → not (p.desired && p.fallback) ≡ true → p ≡ as_desired p.place
    by true e h = absurd (let z : false ≡ true = sym (ap₂ (λ a b. not (a && b)) d e) ∙ h in cc)
    by false e h = λ i. record { place = p.place; desired = d i; fallback = e i }

fallback_is : (p : FlaggedPlace) → p.fallback ≡ true → is_flagged p ≡ true → p ≡ as_fallback p.place
fallback_is p d f = by p.desired refl (and_parts (is_place p.place) (not (p.desired && p.fallback)) f).1
  where
    by : (q : Bool) → p.desired ≡ q → not (p.desired && p.fallback) ≡ true → p ≡ as_fallback p.place
    by true e h = absurd (let z : false ≡ true = sym (ap₂ (λ a b. not (a && b)) e d) ∙ h in cc)
    by false e h = λ i. record { place = p.place; desired = e i; fallback = d i }

all_desired : (l : List FlaggedPlace) → list_all (λ p. p.desired) l ≡ true → list_all is_flagged l ≡ true → l ≡ map as_desired (map (λ p. p.place) l)
all_desired [] d f = refl
all_desired (p ∷ l) d f =
    let a = and_parts p.desired (list_all (λ p. p.desired) l) d in
    let b = and_parts (is_flagged p) (list_all is_flagged l) f in
    ap₂ (λ x xs. x ∷ xs) (desired_is p a.0 b.0) (all_desired l a.1 b.1)

all_fallback : (l : List FlaggedPlace) → list_all (λ p. p.fallback) l ≡ true → list_all is_flagged l ≡ true → l ≡ map as_fallback (map (λ p. p.place) l)
all_fallback [] d f = refl
all_fallback (p ∷ l) d f =
    let a = and_parts p.fallback (list_all (λ p. p.fallback) l) d in
    let b = and_parts (is_flagged p) (list_all is_flagged l) f in
    ap₂ (λ x xs. x ∷ xs) (fallback_is p a.0 b.0) (all_fallback l a.1 b.1)

all_taken : (n : ℕ) (l : List FlaggedPlace) → list_all is_flagged l ≡ true → list_all is_flagged (take n l) ≡ true
all_taken zero l h = refl
all_taken (suc n) [] h = refl
all_taken (suc n) (p ∷ l) h = let a = and_parts (is_flagged p) (list_all is_flagged l) h in ap₂ (λ x y. x && y) a.0 (all_taken n l a.1)

all_dropped : (n : ℕ) (l : List FlaggedPlace) → list_all is_flagged l ≡ true → list_all is_flagged (drop n l) ≡ true
all_dropped zero l h = h
all_dropped (suc n) [] h = refl
all_dropped (suc n) (p ∷ l) h = all_dropped n l (and_parts (is_flagged p) (list_all is_flagged l) h).1

both_parts : (n : ℕ) (l : List FlaggedPlace) → take n l ++ drop n l ≡ l
both_parts zero l = refl
both_parts (suc n) [] = refl
both_parts (suc n) (p ∷ l) = ap (λ xs. p ∷ xs) (both_parts n l)

pub two_lists : (list : List FlaggedPlace) → list_all is_flagged list ≡ true → is_old_list list ≡ true → IsTwoLists list
two_lists list flagged old =
    let a = and_parts (list_all (λ p. p.desired) (take (length (first_places list)) list) && list_all (λ p. p.fallback) (drop (length (first_places list)) list) && is_between 1 4 (length (first_places list))) (is_between 1 4 (length (forced_places list))) old in
    let b = and_parts (list_all (λ p. p.desired) (take (length (first_places list)) list) && list_all (λ p. p.fallback) (drop (length (first_places list)) list)) (is_between 1 4 (length (first_places list))) a.0 in
    let c = and_parts (list_all (λ p. p.desired) (take (length (first_places list)) list)) (list_all (λ p. p.fallback) (drop (length (first_places list)) list)) b.0 in
    from list (map (λ p. p.place) (take (length (first_places list)) list)) (map (λ p. p.place) (drop (length (first_places list)) list))
    (sym (both_parts (length (first_places list)) list)
    ∙ ap₂ (λ x y. x ++ y) (all_desired (take (length (first_places list)) list) c.0 (all_taken (length (first_places list)) list flagged)) (all_fallback (drop (length (first_places list)) list) c.1 (all_dropped (length (first_places list)) list flagged)))
  where
    from : (l : List FlaggedPlace) (w y : List Place) → l ≡ one_list w y → l ≡ one_list (first_places l) (forced_places l)
    from l w y e = e ∙ ap₂ one_list (sym (ap first_places e ∙ desired_first w y)) (sym (ap forced_places e ∙ fallback_forced w y))

decl_lists : (d : Decl) → is_decl 1 d ≡ true → IsTwoLists d.placement.list
decl_lists d h =
    let places : is_place_list 1 d.placement.list ≡ true = (and_parts _ (is_place_list 1 d.placement.list) h).1 in
    let p = and_parts (list_all is_flagged d.placement.list) (is_old_list d.placement.list) places in
    two_lists d.placement.list p.0 p.1

pub lists_of_first_version : (script : Script) (b : BufId) → IsTrue (is_script script) → script.version ≡ 1 → IsTwoLists (decl script b).placement.list
lists_of_first_version script b fits first = by (slice_get script.buffers b.0) refl
  where
    by : (o : Option Decl) → slice_get script.buffers b.0 ≡ o → IsTwoLists (unwrap_or o undeclared).placement.list
    by None e = refl
    by (Some d) e = decl_lists d (subst (λ v. is_decl v d ≡ true) first (all_at (is_decl script.version) script.buffers b.0 d (rules_of script fits).decls e))
