use Rattle.std.proofs.Common.{◌≡◌, take}
use Rattle.plain_memory.proofs.ContentLaws.{empty_rooms}
use Rattle.plain_memory.proofs.memory.PlainMemory.new.Given as goal

abbrev pub invariant-loop-buffer : goal.invariant-loop-buffer
invariant-loop-buffer l = l.contents.items ≡ empty_rooms (take l.buffer-index l.buffer-items)
