use Rattle.std.proofs.Common.{◌≡◌, ap, ◌∙◌}
use Rattle.journal_model.specs.marks.Spaces.{regions_of, regions_space, space_of}
use Rattle.journal_model.specs.marks.ByName.{after_vops, vops_shown}
use Rattle.law_legal.proofs.law_spaces.Order.{rising_of}
use Rattle.law_legal.proofs.law_spaces.Points.{regions_are_the_space}
use Rattle.law_legal.proofs.law_spaces.Names.{IsMeant, job_is_meant}
use Rattle.law_legal.proofs.law_spaces.names_are_addresses.Goals as goal

pub returns : goal.returns
returns c = λ requests some vs ops memory apart named.
    let same : regions_space (regions_of requests) ≡ space_of requests = regions_are_the_space requests some in
    let meant : IsMeant (regions_space (regions_of requests)) memory vs ops = job_is_meant (regions_of requests) vs ops memory (rising_of requests some) apart named in (
      λ b i. ap (λ m. m b i) (meant.memory ∙ ap (λ space. after_vops space memory vs) same),
      meant.shown ∙ ap (λ space. vops_shown space memory vs) same,
    )
