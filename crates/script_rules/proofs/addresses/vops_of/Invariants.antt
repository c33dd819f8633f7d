use Rattle.std.proofs.Common.{◌≡◌, map, take}
use Rattle.journal_model.specs.scripts.LineRules.{vop_in}
use Rattle.script_rules.proofs.addresses.vops_of.Given as goal

abbrev pub invariant-loop-word : goal.invariant-loop-word
invariant-loop-word l = l.ops ≡ map vop_in (take l.word-index l.words)
