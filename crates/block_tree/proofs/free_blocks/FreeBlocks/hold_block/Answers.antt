use Rattle.block_tree.proofs.free_blocks.FreeBlocks.hold_block.Goals as goal

pub around-requires : goal.around-requires
around-requires c = c.requires

pub split-requires : goal.split-requires
split-requires c = c.in-Some.ensures.around

pub clear_inside-requires : goal.clear_inside-requires
clear_inside-requires c = record { end = c.requires; small = c.around.ensures.size; held = c.in-None.ensures.around }
