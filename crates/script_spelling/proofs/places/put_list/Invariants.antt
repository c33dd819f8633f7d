use Rattle.std.proofs.Common.{◌≡◌, ◌++◌, take}
use Rattle.script_spelling.specs.Lists.{part_word, part_words}
use Rattle.script_spelling.proofs.PartLaws.{is_none}
use Rattle.script_spelling.proofs.places.put_list.Given as goal

abbrev pub invariant-loop-place : goal.invariant-loop-place
invariant-loop-place l = record {
  text : l.text ≡ l.fn.text ++ part_word l.part (take l.place-index l.list);
  first : l.is_first ≡ is_none (part_words l.part (take l.place-index l.list));
}
