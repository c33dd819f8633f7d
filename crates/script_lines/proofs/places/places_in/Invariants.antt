use Rattle.std.proofs.Common.{◌≡◌, map, take}
use Rattle.journal_model.specs.scripts.Reading.{place_word_of}
use Rattle.script_lines.proofs.places.places_in.Given as goal

abbrev pub invariant-loop-word : goal.invariant-loop-word
invariant-loop-word l = l.places ≡ map (place_word_of l.two) (take l.word-index l.words)
