-- The front of a legal journal is a legal journal, so the accounts hold after it.
use Rattle.std.proofs.Common.{ℕ, zero, suc, List, [], ◌∷◌, take}
use Rattle.std.specs.Prelude.{IsTrue}
use Rattle.journal_model.specs.declared.script.Script.{Script}
use Rattle.journal_model.specs.declared.entry.Entry.{Entry}
use Rattle.journal_model.specs.scripts.ScriptRules.{is_script}
use Rattle.journal_model.specs.rules.Legal.{World, IsLegal, IsLegalFrom, first_world, world_after}
use Rattle.laws.specs.law_owners.Throughout.{HoldThroughout}
use Rattle.laws.proofs.law_owners.Accounts.{account_law}

legal_from : (script : Script) (w : World) (journal : List Entry) (n : ℕ) → IsLegalFrom script w journal → IsLegalFrom script w (take n journal)
legal_from script w journal zero h = tt
legal_from script w [] (suc n) h = h
legal_from script w (e ∷ es) (suc n) (here, rest) = (here, legal_from script (world_after script w e) es n rest)

pub legal_front : (script : Script) (journal : List Entry) (n : ℕ) → IsLegal script journal → IsLegal script (take n journal)
legal_front script journal n h = legal_from script (first_world script) journal n h

pub throughout_law : (script : Script) (journal : List Entry) → IsTrue (is_script script) → IsLegal script journal → HoldThroughout script journal
throughout_law script journal fits h = λ n. account_law script (take n journal) fits (legal_front script journal n h)
