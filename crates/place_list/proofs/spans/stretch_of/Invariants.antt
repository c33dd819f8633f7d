use Rattle.std.proofs.Common.{◌≡◌}
use Rattle.std.specs.Prelude.{drop}
use Rattle.place_list.specs.Stretch as words
use Rattle.place_list.proofs.spans.stretch_of.Given as goal

abbrev pub invariant-loop-s : goal.invariant-loop-s
invariant-loop-s l = words.around_all l.initial.stretch l.others ≡ words.around_all l.stretch (drop l.s-index l.others)
