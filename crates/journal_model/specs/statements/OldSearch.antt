-- The search before kernel 6.9, with preferred and busy places. It stands in the law on the two forms of a script alone.
use Rattle.std.specs.Prelude.{◌≡◌, ℕ, Bool, true, false, List, ◌++◌, Some, None, Ok, map}
use Rattle.journal_model.specs.Types.{BufId, Course, FlaggedPlace, Place, Script, State}
use Rattle.journal_model.specs.declared.entry.Kind.TheVariants as kind
use Rattle.journal_model.specs.rules.Commands.{as_desired, as_fallback}
use Rattle.journal_model.specs.rules.Search.{Step, step_of_place_search, step_of_forced, first_choice}

-- not yet forced, the first preferred place with a choice; else the busy place at work
abbrev pub step_of_old_place_search : Script → State → Course → BufId → (want busy : List Place) → (forced : Bool) → (dry : ℕ) → Step
step_of_old_place_search script s c b want busy forced dry =
    elim forced [
      | true ↦ step_of_forced script s c b dry busy
      | false ↦ elim (first_choice script s b want) [
        | Some found ↦ Ok (kind.Take b found.0 found.1)
        | None ↦ step_of_forced script s c b dry busy
      ]
    ]

-- the one list that stands for both: preferred places as desired, and busy places after them as fallback
abbrev pub one_list : (want busy : List Place) → List FlaggedPlace
one_list want busy = map as_desired want ++ map as_fallback busy

-- both texts give the same entry
abbrev pub IsSameSearch : Type 0
IsSameSearch =
    (script : Script) (s : State) (c : Course) (b : BufId) (want busy : List Place) (forced : Bool) (dry : ℕ) →
    step_of_place_search script s c b (record { list = one_list want busy; forced = forced; dry = dry }) ≡ step_of_old_place_search script s c b want busy forced dry
