-- What a dry entry says of its place.
use Rattle.std.specs.Prelude.{◌≡◌, ℕ, true, Some, slice_get}
use Rattle.ttm_base.specs.declared.BufId.{BufId}
use Rattle.ttm_base.specs.declared.Place.{Place}
use Rattle.ttm_base.specs.Placement.{forced_places}
use Rattle.journal_model.specs.declared.script.Script.{Script}
use Rattle.journal_model.specs.declared.state.State.{State}
use Rattle.journal_model.specs.declared.entry.DryWhy.{DryWhy}
use Rattle.journal_model.specs.rules.State.{course}
use Rattle.journal_model.specs.rules.Dry.{is_dry, dry_why}
use Rattle.journal_model.specs.statements.Causes.{places_sought}

-- the place is the k-th forced one of the search, it is dry, and the entry names `short` or each live buffer's first cause
pub record Explains (script : Script) (s : State) (t : ℕ) (b : BufId) (k : ℕ) (w : DryWhy) : Type 0 where
  pub place : Place
  pub at : slice_get (forced_places (places_sought script s t b)) k ≡ Some place
  pub dry : is_dry script s (course s t).skips b place ≡ true
  pub why : w ≡ dry_why script s b place
