-- What comes of the wish to swap out a page.
use Rattle.std.specs.Prelude.{◌≡◌}
use Rattle.ttm_base.specs.declared.BufId.{BufId}
use Rattle.journal_model.specs.declared.script.Script.{Script}
use Rattle.journal_model.specs.declared.state.State.{State}
use Rattle.journal_model.specs.rules.Search.{Step}
use Rattle.journal_model.specs.rules.PageSteps.{step_of_swap_out}
use Rattle.rules_search.specs.declared.pages.Swap.{Swap}
use Rattle.rules_search.specs.declared.pages.Swap.TheVariants.{NoFrame, NoSlot, Page}

-- the step of a swap, or the steps for lack of a frame and for lack of a slot
abbrev pub step_of : Swap → (no_frame no_slot : Step) → Step
step_of NoFrame no_frame no_slot = no_frame
step_of NoSlot no_frame no_slot = no_slot
step_of (Page step) no_frame no_slot = step

-- whatever the steps for lack of a frame and of a slot are, the swap gives the step of the buffer's next page to swap out
abbrev pub IsSwap : Script → State → BufId → Swap → Type 0
IsSwap script s b swap = (no_frame no_slot : Step) → step_of swap no_frame no_slot ≡ step_of_swap_out script s b no_frame no_slot
