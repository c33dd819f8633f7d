-- The commands of a generated script.
use Rattle.std.specs.Prelude.{ℕ, zero, suc, List, [], ◌∷◌, ◌++◌, replicate}
use Rattle.rand_pcg.specs.Lcg.{Lcg}
use Rattle.ttm_base.specs.declared.Op.TheVariants as op
use Rattle.journal_model.specs.declared.script.Command.{Command}
use Rattle.journal_model.specs.declared.script.Command.TheVariants as command
use Rattle.generated_load.specs.declared.choices.Choice.{Choice}
use Rattle.generated_load.specs.declared.choices.ChoiceKind.{ChoiceKind}
use Rattle.generated_load.specs.declared.choices.ChoiceKind.TheVariants as kind
use Rattle.generated_load.specs.Choices.{own_buffer, load_choice}

-- The command of a kind. A copy takes all of the smallest buffers, a thread touches the group of its own buffers.
abbrev pub command_by : ChoiceKind → ℕ → Choice → Command
command_by kind.Write t c = command.Write c.x c.off (replicate 16 c.byte)
command_by kind.Read t c = command.Read c.x c.off 16
command_by kind.Copy t c = command.Submit c.engine (op.Copy c.x 0 c.y 0 16384 ∷ [])
command_by kind.Xor t c = command.Submit c.engine (op.Xor c.x c.off c.y c.off 16 ∷ [])
command_by kind.Fill t c = command.Submit c.engine (op.Fill c.x c.off 16 c.byte ∷ op.Probe c.x c.off 16 ∷ [])
command_by kind.Find t c = command.Find c.x
command_by kind.SwapOut t c = command.SwapOut c.x
command_by kind.Touch t c = command.Touch t

-- the command of a choice
abbrev pub load_command : ℕ → Choice → Command
load_command t c = command_by c.kind t c

-- as many commands of thread `t` as the first argument says, drawn one after another, and the generator after them
unfoldable pub drawn_commands : ℕ → ℕ → Lcg → List Command × Lcg
drawn_commands zero t g = ([], g)
drawn_commands (suc n) t g =
    let before = drawn_commands n t g in
    let choice = load_choice t before.1 in
    (before.0 ++ load_command t choice.0 ∷ [], choice.1)

-- the commands that make the buffers of thread `t` below the given number
unfoldable pub news : ℕ → ℕ → List Command
news zero t = []
news (suc n) t = news n t ++ command.New (own_buffer t n) ∷ []

-- the commands that read the first bytes of the buffers of thread `t` below the given number
unfoldable pub reads : ℕ → ℕ → List Command
reads zero t = []
reads (suc n) t = reads n t ++ command.Read (own_buffer t n) 0 16 ∷ []

-- The commands of thread `t`, counted from 0, and the generator after them. The thread makes its eight buffers, does two hundred commands that are
-- drawn, and reads from each buffer.
abbrev pub load_commands : ℕ → Lcg → List Command × Lcg
load_commands t g =
    let drawn = drawn_commands 200 t g in
    (news 8 t ++ drawn.0 ++ reads 8 t, drawn.1)

-- the commands of the threads below the given number, drawn one after another, and the generator after them
unfoldable pub load_threads : ℕ → Lcg → List (List Command) × Lcg
load_threads zero g = ([], g)
load_threads (suc n) g =
    let before = load_threads n g in
    let commands = load_commands n before.1 in
    (before.0 ++ commands.0 ∷ [], commands.1)
