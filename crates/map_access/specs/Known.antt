-- What is known of a script whose marks are searched.
use Rattle.std.specs.Prelude.{◌≡◌, Bool, true}
use Rattle.journal_model.specs.declared.script.Script.{Script}
use Rattle.journal_model.specs.scripts.MarkRules.{are_in_order}
use Rattle.journal_model.specs.scripts.ScriptRules.{is_script}

-- where it is known, the marks stand in order, and the script keeps the rules of scripts
pub record IsKnown (in_order keeps_rules : Bool) (script : Script) : Type 0 where
  pub order : in_order ≡ true → are_in_order script.marks ≡ true
  pub rules : keeps_rules ≡ true → is_script script ≡ true
