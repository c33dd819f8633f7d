-- What the LRU asks of a listing, by what a script may declare, and the first state.
use Rattle.std.proofs.Common.{◌≡◌, ℕ, zero, suc, ◌<◌, true, List, [], ◌∷◌, length, get_or, map, replicate, Option, Some, None, IsTrue, refl, sym, ap, ◌∙◌, arith}
use Rattle.std.specs.Prelude.{slice_get, unwrap_or, option_and_then}
use Rattle.std.specs.List.{list_all}
use Rattle.std.proofs.lemmas.Bool.{and_parts}
use Rattle.std.proofs.lemmas.Bool.Decides.{nat_tests}
use Rattle.std.proofs.lemmas.List.{length-map, length-replicate}
use Rattle.ttm_base.specs.declared.BufId.{BufId}
use Rattle.lru_bulk.specs.Lists.{IsGroup, nothing_listed}
use Rattle.journal_model.specs.declared.script.Script.{Script}
use Rattle.journal_model.specs.declared.script.Decl.{Decl}
use Rattle.journal_model.specs.declared.state.Buffer.{Buffer}
use Rattle.journal_model.specs.rules.State.{reservation_in}
use Rattle.journal_model.specs.rules.Commands.{decl, undeclared}
use Rattle.journal_model.specs.scripts.ScriptRules.{is_script, is_decl}
use Rattle.journal_model.specs.rules.Legal.{first_state}
use Rattle.room_representation.specs.lemma_lists.Listed.{listing_as, HasLists}

-- what is declared may be listed
pub record MayBeListed (d : Decl) : Type 0 where
  pub prio : d.prio < 4
  pub group : IsGroup 16 d.group

group_below : (version : ℕ) (d : Decl) (grp : Option ℕ) → d.group ≡ grp → is_decl version d ≡ true → IsGroup 16 grp
group_below version d None e h = tt
group_below version d (Some g) e h = grind (arith, nat_tests)

declared_may : (version : ℕ) (d : Decl) → is_decl version d ≡ true → MayBeListed d
declared_may version d h = record { prio = grind (arith, nat_tests); group = group_below version d d.group refl h }

each_may : (version : ℕ) (decls : List Decl) (i : ℕ) → list_all (is_decl version) decls ≡ true → MayBeListed (unwrap_or (slice_get decls i) undeclared)
each_may version [] i h = record { prio = omega arith; group = tt }
each_may version (d ∷ decls) zero h = declared_may version d (and_parts (is_decl version d) (list_all (is_decl version) decls) h).0
each_may version (d ∷ decls) (suc i) h = each_may version decls i (and_parts (is_decl version d) (list_all (is_decl version) decls) h).1

decls_of : (script : Script) → IsTrue (is_script script) → list_all (is_decl script.version) script.buffers ≡ true
decls_of script h = grind arith

pub may_be_listed : (script : Script) (b : BufId) → IsTrue (is_script script) → MayBeListed (decl script b)
may_be_listed script b h = each_may script.version script.buffers b.0 (decls_of script h)

-- ---- the first state

nobody : (decls : List Decl) (i : ℕ) → option_and_then {T = Option Buffer} {U = Buffer} (λ x. x) (slice_get (map (λ d. None) decls) i) ≡ None
nobody [] i = refl
nobody (d ∷ decls) zero = refl
nobody (d ∷ decls) (suc i) = nobody decls i

unlisted : {X : Type 0} (n i : ℕ) → get_or {A = Option X} (replicate n None) i None ≡ None
unlisted zero i = refl
unlisted (suc n) zero = refl
unlisted (suc n) (suc i) = unlisted n i

pub first_lists : (script : Script) → HasLists script (first_state script) (nothing_listed (length script.buffers) 16)
first_lists script = record {
  lists_are = refl;
  listings_are = λ b.
      unlisted (length script.buffers) b.0
      ∙ sym (ap (listing_as script b (reservation_in ((first_state script).reservations) b).pins) (nobody script.buffers b.0));
  room_is = length-replicate (length script.buffers) None ∙ sym (length-map script.buffers (λ d. None));
  groups_are = refl;
}
