-- A journal is transparent where the result of each read and each packet of a probe shows the bytes of the plain memory: a read those
-- before it, a probe those that the journal before the job's arming and then the operations before it in the job leave.
use Rattle.std.specs.Prelude.{◌≡◌, ℕ, List, [], ◌∷◌, Option, Some, None}
use Rattle.journal_model.specs.Types.{Actor, Command, Entry, Kind, Script, Shown}
use Rattle.journal_model.specs.declared.script.Command.TheVariants as command
use Rattle.journal_model.specs.declared.entry.Kind.TheVariants as kind
use Rattle.journal_model.specs.declared.entry.Shown.TheVariants as shown
use Rattle.journal_model.specs.rules.Apply.{thread_of, engine_of}
use Rattle.journal_model.specs.rules.PlainMemory.{Memory, Plain, first_plain, plain_after, memory_range, command_of}

-- the bytes that a result shows, where it shows bytes
abbrev pub bytes_shown : Shown → Option (List ℕ)
bytes_shown (shown.Read bytes) = Some bytes
bytes_shown shown.Plain = None
bytes_shown (shown.Find mem spans) = None

-- the bytes that the result of a command has to show: those of a read, and none of any other command
abbrev pub bytes_owed : Option Command → Memory → Option (List ℕ)
bytes_owed (Some (command.Read b off len)) memory = Some (memory_range memory b off len)
bytes_owed _ memory = None

-- a result shows what it has to
abbrev pub IsResultPlain : Script → Plain → ℕ → Shown → Type 0
IsResultPlain script p thread r = bytes_shown r ≡ bytes_owed (command_of script p thread) p.memory

-- packets that are no probes have no bytes due, and show none
abbrev pub IsKindPlain : Script → Plain → Actor → Kind → Type 0
IsKindPlain script p who (kind.Result r) = IsResultPlain script p (thread_of who) r
IsKindPlain script p who (kind.Packet n k piece) = piece ≡ p.owed_probes (record { ctx = engine_of who; num = n }) k
IsKindPlain script p who _ = Unit {0}

-- from an entry on
abbrev pub IsTransparentFrom : Script → Plain → List Entry → Type 0
IsTransparentFrom script p [] = Unit {0}
IsTransparentFrom script p (e ∷ es) = IsKindPlain script p e.who e.kind × IsTransparentFrom script (plain_after script p e) es

-- the whole journal
abbrev pub IsTransparent : Script → List Entry → Type 0
IsTransparent script journal = IsTransparentFrom script first_plain journal
