use Rattle.std.proofs.Common.{take}
use Rattle.journal_model.specs.rules.PlainMemory.{after_ops}
use Rattle.plain_memory.specs.Kept.{BecomesMemory, memory_in}
use Rattle.plain_memory.proofs.memory.PlainMemory.apply_all.Given as goal

abbrev pub invariant-loop-op : goal.invariant-loop-op
invariant-loop-op l = BecomesMemory l.initial.self l.self (after_ops (memory_in l.initial.self) (take l.op-index l.ops))
