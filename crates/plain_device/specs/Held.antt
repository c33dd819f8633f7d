-- What a device holds beside its journal: the state and the bytes that the journal leads to.
use Rattle.std.specs.Prelude.{◌≡◌, ℕ, Bool, true, false, List, IsTrue, ◌&&◌, nat_lt}
use Rattle.ttm_base.specs.Pages.{Page, PageBytes}
use Rattle.journal_model.specs.declared.script.Script.{Script}
use Rattle.journal_model.specs.declared.script.Sizes.{Sizes}
use Rattle.journal_model.specs.declared.state.State.{State}
use Rattle.journal_model.specs.declared.entry.Entry.{Entry}
use Rattle.journal_model.specs.declared.entry.Kind.{Kind}
use Rattle.journal_model.specs.declared.entry.Kind.TheVariants as kind
use Rattle.journal_model.specs.rules.Stores.{is_there}
use Rattle.journal_model.specs.scripts.ScriptRules.{is_script}
use Rattle.journal_model.specs.rules.Legal.{IsLegal, state_of, stores_of}

-- all bytes are 0 but those of the pages that there are
abbrev pub HasNoMore : Sizes → PageBytes → Type 0
HasNoMore sizes bytes = (page : Page) (o : ℕ) → (is_there sizes page && nat_lt o 4096) ≡ false → bytes page o ≡ 0

-- the entry is a result
abbrev pub is_result : Kind → Bool
is_result (kind.Result shown) = true
is_result _ = false

-- the script has a spelling, the journal is legal, and state and bytes are those that it leads to
pub record IsHeld (script : Script) (journal : List Entry) (state : State) (sizes : Sizes) (bytes : PageBytes) : Type 0 where
  pub fits : IsTrue (is_script script)
  pub legal : IsLegal script journal
  pub state_is : state ≡ state_of script journal
  pub sizes_are : sizes ≡ script.sizes
  pub bytes_are : bytes ≡ stores_of script journal
  pub no_more : HasNoMore sizes bytes
