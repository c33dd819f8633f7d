-- What the grammar says of commands and buffers.
use Rattle.std.proofs.Common.{◌≡◌, ℕ, ◌-◌, ◌<◌, ◌≤◌, zero, suc, Bool, true, false, List, [], ◌∷◌, length, Option, Some, None, IsTrue, refl, sym, subst, ap, arith}
use Rattle.std.specs.Prelude.{slice_get, ◌==◌, sum_by, unwrap_or, option_and_then, if◌then◌else◌}
use Rattle.std.specs.List.{list_all}
use Rattle.std.proofs.lemmas.Bool.Decides.{nat_tests}
use Rattle.std.proofs.lemmas.List.Sums.{sum_by-cons}
use Rattle.ttm_base.specs.declared.BufId.{BufId}
use Rattle.journal_model.specs.declared.script.Script.{Script}
use Rattle.journal_model.specs.declared.script.Decl.{Decl}
use Rattle.journal_model.specs.declared.script.Command.{Command}
use Rattle.journal_model.specs.declared.state.State.{State}
use Rattle.journal_model.specs.declared.state.Course.{Course}
use Rattle.journal_model.specs.rules.State.{course_of}
use Rattle.journal_model.specs.rules.Commands.{commands_of, command_at_work, decl, undeclared}
use Rattle.journal_model.specs.scripts.CommandRules.{is_command, command_len}
use Rattle.journal_model.specs.scripts.ScriptRules.{is_script, is_decl}
use Rattle.laws.proofs.law_state.JobsKeep.{all_at}

pub record Rules (script : Script) : Type 0 where
  pub commands : list_all (list_all (is_command script)) script.threads ≡ true
  pub lens : sum_by (sum_by command_len) script.threads ≤ 67108864
  pub decls : list_all (is_decl script.version) script.buffers ≡ true

pub rules_of : (script : Script) → IsTrue (is_script script) → Rules script
rules_of script h = record { commands = grind arith; lens = grind (arith, nat_tests); decls = grind arith }

-- one of a sum
part_of : {X : Type 0} (f : X → ℕ) (xs : List X) (i : ℕ) (x : X) → slice_get xs i ≡ Some x → f x ≤ sum_by f xs
part_of f [] i x e = cc
part_of f (y ∷ xs) zero x e = let same : y ≡ x = cc in let is : f y ≡ f x = ap f same in let sum = sum_by-cons f y xs in omega (arith, is, sum)
part_of f (y ∷ xs) (suc i) x e = let rest = part_of f xs i x e in let sum = sum_by-cons f y xs in omega (arith, rest, sum)

-- the commands of a thread are those of a list of the script, or none
pub record OfThread (script : Script) (t : ℕ) (cmd : Command) : Type 0 where
  pub command : is_command script cmd ≡ true
  pub len : command_len cmd ≤ 67108864

in_list : (script : Script) → Rules script → (j : ℕ) (o : Option (List Command)) → slice_get script.threads j ≡ o → (i : ℕ) (cmd : Command) → slice_get (unwrap_or o []) i ≡ Some cmd →
    (is_command script cmd ≡ true) × (command_len cmd ≤ 67108864)
in_list script r j None e i cmd h = cc
in_list script r j (Some cmds) e i cmd h =
    let all : list_all (is_command script) cmds ≡ true = all_at (list_all (is_command script)) script.threads j cmds r.commands e in
    let one = part_of command_len cmds i cmd h in
    let more = part_of (sum_by command_len) script.threads j cmds e in
    let most = r.lens in
    (all_at (is_command script) cmds i cmd all h, omega (arith, one, more, most))

in_commands : (script : Script) → Rules script → (t i : ℕ) (cmd : Command) → slice_get (commands_of script t) i ≡ Some cmd → OfThread script t cmd
in_commands script r t i cmd h = by (t == 0) h
  where
    by : (b : Bool) → slice_get (if b then [] else unwrap_or (slice_get script.threads (t - 1)) []) i ≡ Some cmd → OfThread script t cmd
    by true g = cc
    by false g = let k = in_list script r (t - 1) (slice_get script.threads (t - 1)) refl i cmd g in record { command = k.0; len = k.1 }

pub at_work_rules : (script : Script) → Rules script → (s : State) (t : ℕ) (cmd : Command) → command_at_work script s t ≡ Some cmd → OfThread script t cmd
at_work_rules script r s t cmd h = by (course_of s t) h
  where
    by : (o : Option Course) → option_and_then (λ c. slice_get (commands_of script t) c.answered) o ≡ Some cmd → OfThread script t cmd
    by None g = cc
    by (Some c) g = in_commands script r t c.answered cmd g

-- a declared buffer has a page, and few
pub record HasFewPages (script : Script) (b : BufId) : Type 0 where
  pub some : 1 ≤ (decl script b).pages
  pub few : (decl script b).pages ≤ 4096

decl_pages : (version : ℕ) (d : Decl) → is_decl version d ≡ true → (1 ≤ d.pages) × (d.pages ≤ 4096)
decl_pages version d h = (grind (arith, nat_tests), grind (arith, nat_tests))

get_below : {X : Type 0} (xs : List X) (i : ℕ) → i < length xs → (x : X) × (slice_get xs i ≡ Some x)
get_below [] i h = absurd (omega arith)
get_below (x ∷ xs) zero h = (x, refl)
get_below (x ∷ xs) (suc i) h = get_below xs i (omega arith)

pub declared_pages : (script : Script) → Rules script → (b : BufId) → b.0 < length script.buffers → HasFewPages script b
declared_pages script r b h =
    let g = get_below script.buffers b.0 h in
    let is : decl script b ≡ g.0 = ap (λ o. unwrap_or o undeclared) g.1 in
    let p = decl_pages script.version g.0 (all_at (is_decl script.version) script.buffers b.0 g.0 r.decls g.1) in
    record { some = subst (λ d. 1 ≤ d.pages) (sym is) p.0; few = subst (λ d. d.pages ≤ 4096) (sym is) p.1 }
