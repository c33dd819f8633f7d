-- A step that shows no bytes is the entry.
use Rattle.std.proofs.Common.{◌≡◌, Bool, true, Ok, Err, refl, ◌∙◌, ap}
use Rattle.ttm_base.specs.declared.Actor.{Actor}
use Rattle.journal_model.specs.declared.entry.Kind.{Kind}
use Rattle.journal_model.specs.declared.entry.Kind.TheVariants as kind
use Rattle.journal_model.specs.rules.Search.{Step}
use Rattle.journal_model.specs.rules.Next.{next}
use Rattle.journal_model.specs.rules.Legal.{shown_step}
use Rattle.room_state.specs.Kept.{Kept, state_behind, world_behind}
use Rattle.room_state.specs.turns.Turns.{entry_by, entry_of}
use Rattle.room_state.proofs.turns.Threads.{is_quiet}

-- a need, or a kind that shows no bytes
abbrev pub is_quiet_step : Step → Bool
is_quiet_step (Ok k) = is_quiet k
is_quiet_step (Err n) = true

quiet_kind : (r : Kept) (who : Actor) (k : Kind) → is_quiet k ≡ true → shown_step r.script (world_behind r) who (Ok k) ≡ entry_by who (Ok k)
quiet_kind r who (kind.Packet n i piece) h = cc
quiet_kind r who (kind.Result shown) h = cc
quiet_kind r who k h = refl

-- it is shown as it is
pub quiet_shown : (r : Kept) (who : Actor) (st : Step) → is_quiet_step st ≡ true → shown_step r.script (world_behind r) who st ≡ entry_by who st
quiet_shown r who (Ok k) h = quiet_kind r who k h
quiet_shown r who (Err n) h = refl

-- of any actor
pub quiet_turn : (r : Kept) (who : Actor) (st : Step) → is_quiet_step st ≡ true → next r.script (state_behind r) who ≡ st → entry_of r who ≡ entry_by who st
quiet_turn r who st h e = ap (shown_step r.script (world_behind r) who) e ∙ quiet_shown r who st h
