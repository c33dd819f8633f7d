-- The aperture where a buffer moves into TT.
use Rattle.std.specs.Prelude.{ℕ, List, Option}
use Rattle.ttm_base.specs.declared.Mem.{Mem}
use Rattle.ttm_base.specs.declared.Mem.TheVariants.{System, Tt, Vram}
use Rattle.journal_model.specs.declared.state.Buffer.{Buffer}
use Rattle.journal_model.specs.rules.State.{target_spans}
use Rattle.journal_model.specs.rules.Places.{pages_of}
use Rattle.room_representation.specs.lemma_bytes.Mapped.{mapped_to}

-- the aperture, where the pages of a target in TT are mapped to the buffer's frames
abbrev pub mapped_in : Mem → List (Option ℕ) → Buffer → List (Option ℕ)
mapped_in Tt aper x = mapped_to aper (pages_of (target_spans Tt x)) x.table
mapped_in Vram aper x = aper
mapped_in System aper x = aper
