-- The script that is drawn from a number, and what is promised of it.
use Rattle.std.specs.Prelude.{◌≡◌, ℕ, [], ◌∷◌, IsTrue, length, map}
use Rattle.journal_model.specs.declared.script.Script.{Script}
use Rattle.journal_model.specs.scripts.ScriptRules.{is_script}
use Rattle.generated_load.specs.Draws.{seeded}
use Rattle.generated_load.specs.Buffers.{load_sizes, load_buffers}
use Rattle.generated_load.specs.Commands.{load_threads}

-- The script drawn from `n`: twenty-four buffers, whose priorities are drawn first, and then the commands of three threads.
unfoldable pub load_script : ℕ → Script
load_script n =
    let buffers = load_buffers 24 (seeded n) in
    let threads = load_threads 3 buffers.1 in
    record { version = 1; sizes = load_sizes; buffers = buffers.0; threads = threads.0; turns = []; marks = [] }

-- a script without marks, with three threads of 216 commands
pub record IsLoad (script : Script) : Type 0 where
  pub fits : IsTrue (is_script script)
  pub plain : script.marks ≡ []
  pub sizes : script.sizes ≡ load_sizes
  pub lens : map length script.threads ≡ 216 ∷ 216 ∷ 216 ∷ []
