use Rattle.laws.proofs.law_holders.Mapped.{aperture_maps}
use Rattle.journal_model.specs.rules.Legal.{state_of}
use Rattle.laws.proofs.law_holders.aperture_is_of_holders.Goals as goal

pub returns : goal.returns
returns c = λ script journal page frame fits legal h. aperture_maps (state_of script journal).core page frame h
