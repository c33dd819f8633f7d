-- The memory in which each buffer has its own place for good, after the commands in journal order. A buffer that isn't live has
-- zeros. There are no places, packets, moves, ghosts, lists or swap here.
use Rattle.std.specs.Prelude.{ℕ, ◌+◌, ◌-◌, List, [], ◌∷◌, ◌++◌, Option, Some, ◌==◌, ◌&&◌, nat_lt, nat_le, bit_xor, map, fold, length, unwrap_or, slice_get, slice_index, if◌then◌else◌}
use Rattle.journal_model.specs.Types.{BufId, Command, Entry, JobId, Kind, Op, Script}
use Rattle.ttm_base.specs.declared.Op.TheVariants as op
use Rattle.journal_model.specs.declared.script.Command.TheVariants as command
use Rattle.journal_model.specs.declared.entry.Kind.TheVariants as kind
use Rattle.ttm_base.specs.ListWords.{count_from}
use Rattle.ttm_base.specs.Cutting.{Piece, pieces_of}
use Rattle.journal_model.specs.rules.Commands.{commands_of}
use Rattle.journal_model.specs.rules.Waits.{same_job}
use Rattle.journal_model.specs.rules.Apply.{thread_of}
use Rattle.journal_model.specs.rules.ApplyJobs.{ops_of}

-- the byte of a buffer at an offset
abbrev pub Memory : Type 0
Memory = ℕ → ℕ → ℕ

-- the memory with other bytes in a buffer from an offset on
abbrev pub with_range : BufId → ℕ → ℕ → (ℕ → ℕ) → Memory → Memory
with_range b off len value memory = λ c i. if b.0 == c && nat_le off i && nat_lt i (off + len) then value (i - off) else memory c i

-- a buffer that was made or freed
abbrev pub with_zeros : BufId → Memory → Memory
with_zeros b memory = λ c i. if b.0 == c then 0 else memory c i

-- an operation applied at once and whole
abbrev pub after_op : Memory → Op → Memory
after_op memory (op.Fill dst off len byte) = with_range dst off len (λ i. byte) memory
after_op memory (op.Copy dst doff src soff len) = with_range dst doff len (λ i. memory src.0 (soff + i)) memory
after_op memory (op.Xor dst doff src soff len) =
    with_range dst doff len (λ i. bit_xor (memory dst.0 (doff + i)) (memory src.0 (soff + i))) memory
after_op memory (op.Probe src off len) = memory

-- operations in their order
abbrev pub after_ops : Memory → List Op → Memory
after_ops memory [] = memory
after_ops memory (o ∷ ops) = after_ops (after_op memory o) ops

-- len bytes of a buffer from an offset on
abbrev pub memory_range : Memory → BufId → ℕ → ℕ → List ℕ
memory_range memory b off len = map (memory b.0) (count_from 1 len off)

-- ---- what the probes of a job have to show

-- what a piece of an operation shows
abbrev pub piece_shown : Memory → Op → Piece → List ℕ
piece_shown memory (op.Probe src off len) p = memory_range memory src (off + p.at) p.len
piece_shown memory _ p = []

-- of each packet in order; each operation in the memory that those before it leave
abbrev pub pieces_shown : Memory → List Op → List (List ℕ)
pieces_shown memory [] = []
pieces_shown memory (o ∷ ops) = map (piece_shown memory o) (pieces_of o) ++ pieces_shown (after_op memory o) ops

-- of each job and packet the bytes that it has to show
abbrev pub OwedProbes : Type 0
OwedProbes = JobId → ℕ → List ℕ

-- the owed_probes with those of one more job
abbrev pub with_owed_probes : JobId → List (List ℕ) → OwedProbes → OwedProbes
with_owed_probes job pieces owed_probes = λ j k. if same_job job j then unwrap_or (slice_get pieces k) [] else owed_probes j k

-- ---- along a journal

-- the memory; how many commands each thread has had answered; and what the probes of the jobs that were armed have to show
pub record Plain : Type 0 where
  pub memory : Memory
  pub answered : ℕ → ℕ
  pub owed_probes : OwedProbes

-- before all entries
abbrev pub first_plain : Plain
first_plain = record { memory = λ b i. 0; answered = λ t. 0; owed_probes = λ j k. [] }

-- the command that an entry of a thread belongs to
abbrev pub command_of : Script → Plain → ℕ → Option Command
command_of script p thread = slice_get (commands_of script thread) (p.answered thread)

-- a thread has answered one more command
abbrev pub answered_one_more : ℕ → (ℕ → ℕ) → ℕ → ℕ
answered_one_more thread answered t = if t == thread then answered t + 1 else answered t

-- the result of a write puts its bytes
abbrev pub memory_after_result : Option Command → Memory → Memory
memory_after_result (Some (command.Write b off bytes)) memory = with_range b off (length bytes) (slice_index bytes) memory
memory_after_result _ memory = memory

-- a job is applied when it is armed, and its owed_probes are those of that memory
abbrev pub plain_after_arm : JobId → List Op → Plain → Plain
plain_after_arm job ops p =
    record p { memory = after_ops p.memory ops; owed_probes = with_owed_probes job (pieces_shown p.memory ops) p.owed_probes }

-- by kind; nothing else changes the memory
abbrev pub plain_after_kind : Script → Plain → ℕ → Kind → Plain
plain_after_kind script p thread (kind.New b) = record p { memory = with_zeros b p.memory }
plain_after_kind script p thread (kind.Free b g) = record p { memory = with_zeros b p.memory }
plain_after_kind script p thread (kind.Arm engine n) =
    plain_after_arm (record { ctx = engine; num = n }) (ops_of (command_of script p thread)) p
plain_after_kind script p thread (kind.Result r) =
    record p { memory = memory_after_result (command_of script p thread) p.memory; answered = answered_one_more thread p.answered }
plain_after_kind script p thread (kind.Refused d) = record p { answered = answered_one_more thread p.answered }
plain_after_kind script p thread _ = p

-- after an entry
abbrev pub plain_after : Script → Plain → Entry → Plain
plain_after script p e = plain_after_kind script p (thread_of e.who) e.kind

-- after a journal
abbrev pub plain_of : Script → List Entry → Plain
plain_of script journal = fold (plain_after script) first_plain journal
