-- What the parts of a device tell.
use Rattle.sim_drive.specs.Ends.{Kept}
use Rattle.law_legal.specs.KeepsLaws.{KeepsLaws}
use Rattle.law_legal.proofs.All.{keeps_laws}
use Rattle.room_representation.specs.declared.parts.Parts.{Parts}
use Rattle.room_representation.specs.Held.{AreHeld}
use Rattle.simulator.specs.Lawful.{HasItsBytes, HasItsSlots}

pub laws_of : (k : Kept) (p : Parts) → AreHeld k.script k.journal p → KeepsLaws k.script k.journal
laws_of k p h = keeps_laws k.script k.journal h.fits h.legal

pub bytes_of : (k : Kept) (p : Parts) → AreHeld k.script k.journal p → HasItsBytes k p
bytes_of k p h = h.represents.stores

pub slots_of : (k : Kept) (p : Parts) → AreHeld k.script k.journal p → HasItsSlots k p
slots_of k p h = h.represents.swap
