use Rattle.rules_stores.proofs.entries.answer.Goals as goal

pub returns-in-Some : goal.returns-in-Some
returns-in-Some c = rw (← c.in-Some.ensures) c.put_write.ensures
