-- A command that is at work fits the script, and its buffers are live.
use Rattle.std.proofs.Common.{◌≡◌, ℕ, false, Some, IsTrue, sym, ◌∙◌, ap}
use Rattle.journal_model.specs.declared.script.Command.{Command}
use Rattle.journal_model.specs.declared.state.Task.TheVariants as task
use Rattle.journal_model.specs.rules.Commands.{command_at_work}
use Rattle.journal_model.specs.rules.Legal.{IsLegal}
use Rattle.journal_model.specs.scripts.ScriptRules.{is_script}
use Rattle.journal_model.specs.rules.Tasks.{task_of}
use Rattle.laws.proofs.law_state.Rules.{at_work_rules, rules_of}
use Rattle.room_state.specs.turns.Turns.{Kept, state_behind}
use Rattle.room_state.specs.turns.Acting.{command_due, command_in, free_due, frees, swap_due, swaps}
use Rattle.room_state.proofs.turns.Works.{acted_has, has_declared, has_live}
use Rattle.validate_list.specs.Acts.{IsActing}

module _ (k : Kept) (t : ℕ) (cmd : Command) (at : command_at_work k.script (state_behind k) t ≡ Some cmd) (is : task_of k.script (state_behind k) t ≡ task.Act) where
  -- it is the one that is due
  pub due_is : command_due k.script (state_behind k) t ≡ Some cmd
  due_is = ap (command_in (command_at_work k.script (state_behind k) t)) is ∙ at

  pub acting : IsTrue (is_script k.script) → IsLegal k.script k.journal → free_due k.script (state_behind k) t ≡ false → swap_due k.script (state_behind k) t ≡ false → IsActing k cmd
  acting fits legal no_free no_swap =
      record {
        fits = (at_work_rules k.script (rules_of k.script fits) (state_behind k) t cmd at).command;
        there = λ b h. has_live k.script k.journal fits legal t b (acted_has k.script (state_behind k) t cmd at b is h);
        declared = λ b h. has_declared k.script k.journal fits legal t b (acted_has k.script (state_behind k) t cmd at b is h);
        no_free = sym (ap frees due_is) ∙ no_free;
        no_swap = sym (ap (swaps k.script (state_behind k)) due_is) ∙ no_swap;
      }
