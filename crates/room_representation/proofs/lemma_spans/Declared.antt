-- The requests of a legal journal are those that managers take: a page at least, and an alignment from 1 to 4096.
use Rattle.std.proofs.Common.{◌≡◌, ℕ, ◌<◌, ◌≤◌, zero, suc, true, List, [], ◌∷◌, length, Option, Some, IsTrue, refl, sym, subst, ap, arith}
use Rattle.std.specs.Prelude.{slice_get, option_and_then, unwrap_or}
use Rattle.std.proofs.lemmas.Bool.Decides.{nat_tests}
use Rattle.ttm_base.specs.declared.BufId.{BufId}
use Rattle.journal_model.specs.declared.script.Script.{Script}
use Rattle.journal_model.specs.declared.script.Decl.{Decl}
use Rattle.journal_model.specs.declared.state.Buffer.{Buffer}
use Rattle.journal_model.specs.declared.entry.Entry.{Entry}
use Rattle.journal_model.specs.rules.State.{live_in}
use Rattle.journal_model.specs.rules.Commands.{decl, undeclared}
use Rattle.journal_model.specs.scripts.ScriptRules.{is_script, is_decl}
use Rattle.journal_model.specs.rules.Legal.{IsLegal, state_of}
use Rattle.laws.proofs.law_state.GoodStates.{good_law}
use Rattle.laws.proofs.law_state.JobsKeep.{all_at}
use Rattle.laws.proofs.law_state.Rules.{rules_of}

-- what a buffer asks of a manager
pub record IsRequest (pages align : ℕ) : Type 0 where
  pub some : 1 ≤ pages
  pub aligned : 1 ≤ align
  pub most : align ≤ 4096

decl_asks : (version : ℕ) (d : Decl) → is_decl version d ≡ true → IsRequest d.pages d.align
decl_asks version d h = record { some = grind (arith, nat_tests); aligned = grind (arith, nat_tests); most = grind (arith, nat_tests) }

get_below : {X : Type 0} (xs : List X) (i : ℕ) → i < length xs → (x : X) × (slice_get xs i ≡ Some x)
get_below [] i h = absurd (omega arith)
get_below (x ∷ xs) zero h = (x, refl)
get_below (x ∷ xs) (suc i) h = get_below xs i (omega arith)

live_below : (bs : List (Option Buffer)) (i : ℕ) (x : Buffer) → option_and_then (λ y. y) (slice_get bs i) ≡ Some x → i < length bs
live_below [] i x h = cc
live_below (o ∷ bs) zero x h = omega arith
live_below (o ∷ bs) (suc i) x h = let l = live_below bs i x h in omega (arith, l)

-- of a live buffer
pub live_asks : (script : Script) (journal : List Entry) → IsTrue (is_script script) → IsLegal script journal → (b : BufId) (x : Buffer) → live_in (state_of script journal).core.buffers b ≡ Some x →
    IsRequest (decl script b).pages (decl script b).align
live_asks script journal fits legal b x live =
    let below = live_below (state_of script journal).core.buffers b.0 x live in
    let many = (good_law script fits journal legal).many in
    let g = get_below script.buffers b.0 (omega (arith, below, many)) in
    let is : decl script b ≡ g.0 = ap (λ o. unwrap_or o undeclared) g.1 in
    subst (λ d. IsRequest d.pages d.align) (sym is) (decl_asks script.version g.0 (all_at (is_decl script.version) script.buffers b.0 g.0 (rules_of script fits).decls g.1))
