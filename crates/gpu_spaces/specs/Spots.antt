-- Spots and pieces as the definitions have them.
use Rattle.journal_model.specs.marks.ByName as name
use Rattle.journal_model.specs.marks.ByName.{Part}
use Rattle.gpu_spaces.specs.declared.spot.Spot.{Spot}
use Rattle.gpu_spaces.specs.declared.pieces.Piece.{Piece}

-- the spot to which an address is mapped
abbrev pub spot_of : Spot → name.Spot
spot_of s = record { b = s.b; off = s.off; room = s.room }

-- bytes that are side by side in a buffer
abbrev pub part_of : Piece → Part
part_of p = record { b = p.b; off = p.off; len = p.len }
