-- The entry that the rules give is the device's next.
use Rattle.std.proofs.Common.{◌≡◌, ◌∙◌, Ok, ap}
use Rattle.ttm_base.specs.declared.Actor.{Actor}
use Rattle.journal_model.specs.declared.script.Script.{Script}
use Rattle.journal_model.specs.declared.entry.Kind.{Kind}
use Rattle.journal_model.specs.declared.state.State.{State}
use Rattle.journal_model.specs.rules.Legal.{World, state_of, stores_of, world_of, shown_step, next_entry}
use Rattle.journal_model.specs.rules.Next.{next}
use Rattle.journal_model.specs.rules.Stores.{Stores, showing}
use Rattle.plain_device.specs.Kept.{Kept, entry_of}

module _ (d : Kept) (who : Actor) (script : Script) (state : State) (bytes : Stores) (same : script ≡ d.script) (state_is : state ≡ state_of d.script d.journal) (bytes_are : bytes ≡ stores_of d.script d.journal) where
  abbrev found : World
  found = record { state = state; stores = bytes }

  found_is : found ≡ world_of d.script d.journal
  found_is = ap (λ s. record { state = s; stores = bytes }) state_is ∙ ap (λ b. record { state = state_of d.script d.journal; stores = b }) bytes_are

  step_is : next_entry script found who ≡ entry_of d who
  step_is = ap (λ w. next_entry script w who) found_is ∙ ap (λ s. next_entry s (world_of d.script d.journal) who) same

  -- with what it shows
  pub entry_shown : (k shown : Kind) → Ok k ≡ next script state who → shown ≡ showing script bytes state who k → Ok (record { who = who; kind = shown }) ≡ entry_of d who
  entry_shown k shown n s = ap (λ (f : Kind). Ok (record { who = who; kind = f })) s ∙ ap (shown_step script found who) n ∙ step_is
