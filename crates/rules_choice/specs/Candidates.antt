-- A free block, and what it would be split from, as the definitions have them.
use Rattle.ttm_base.specs.BuddyChoice as buddy
use Rattle.rules_choice.specs.declared.blocks.FreeBlock.{FreeBlock}

-- the candidate with the same block and order
abbrev pub candidate_of : FreeBlock → buddy.Candidate
candidate_of c = record { block = c.block; whole = c.whole }
