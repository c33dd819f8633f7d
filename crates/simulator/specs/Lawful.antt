-- The bytes that a device keeps are those that its journal leads to.
use Rattle.journal_model.specs.rules.Holds.{held_slots}
use Rattle.journal_model.specs.rules.Legal.{state_of, stores_of}
use Rattle.journal_model.specs.rules.Places.{aperture}
use Rattle.room_representation.specs.declared.parts.Parts.{Parts}
use Rattle.room_representation.specs.Pages.{AreSlots, AreStores}
use Rattle.sim_drive.specs.Ends.{Kept}

-- VRAM and frames have the bytes, and the aperture maps what the state says
abbrev pub HasItsBytes : Kept → Parts → Type 0
HasItsBytes k p = AreStores k.script.sizes (aperture (state_of k.script k.journal).core) (stores_of k.script k.journal) p.stores

-- the slots, held or free, have the bytes
abbrev pub HasItsSlots : Kept → Parts → Type 0
HasItsSlots k p = AreSlots k.script.sizes.swap (held_slots (state_of k.script k.journal).core) (stores_of k.script k.journal) p.swap
