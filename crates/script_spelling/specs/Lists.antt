-- The places of a buffer that one word of its line names.
use Rattle.std.specs.Prelude.{Bool, true, List, filter, map, not}
use Rattle.ttm_base.specs.declared.FlaggedPlace.{FlaggedPlace}
use Rattle.journal_model.specs.scripts.Words.{Text}
use Rattle.journal_model.specs.scripts.Spelling.{place_word, flagged_word, words_of_places}
use Rattle.script_spelling.specs.declared.places.Part.{Part}
use Rattle.script_spelling.specs.declared.places.Part.TheVariants as part

-- the part has the place
abbrev pub is_in : Part → FlaggedPlace → Bool
is_in part.First p = not p.fallback
is_in part.Forced p = not p.desired
is_in part.All p = true

-- a place as the part writes it
abbrev pub item_word : Part → FlaggedPlace → Text
item_word part.First p = place_word p.place
item_word part.Forced p = place_word p.place
item_word part.All p = flagged_word p

-- the words of the places that the part has
abbrev pub part_words : Part → List FlaggedPlace → List Text
part_words which list = map (item_word which) (filter (is_in which) list)

-- the word of the part
abbrev pub part_word : Part → List FlaggedPlace → Text
part_word which list = words_of_places (part_words which list)
