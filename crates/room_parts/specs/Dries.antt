-- Dry places of a search.
use Rattle.std.specs.Prelude.{ℕ, Bool, ◌||◌, List, is_some, if◌then◌else◌}
use Rattle.ttm_base.specs.declared.BufId.{BufId}
use Rattle.ttm_base.specs.declared.Deny.TheVariants as deny
use Rattle.ttm_base.specs.declared.FlaggedPlace.{FlaggedPlace}
use Rattle.journal_model.specs.declared.script.Script.{Script}
use Rattle.journal_model.specs.declared.script.Command.{Command}
use Rattle.journal_model.specs.declared.state.Course.{Course}
use Rattle.journal_model.specs.declared.state.Targets.{Targets}
use Rattle.journal_model.specs.rules.Commands.{asked_places}
use Rattle.journal_model.specs.rules.Search.{is_caught, through_tt}
use Rattle.journal_model.specs.rules.ApplyVictims.{with_fail, gone_dry}

-- a buffer with these targets has one in some memory type
abbrev pub awaits : Targets → Bool
awaits t = is_some t.system || is_some t.tt || is_some t.vram

-- where the search for a named buffer looks: in TT alone where the buffer has a target, else where its command asks
abbrev pub searched_places : Script → Command → BufId → Targets → List FlaggedPlace
searched_places script cmd b t = if awaits t then through_tt else asked_places script cmd b

-- the course after a dry place: the search for a victim has failed, that for a named buffer has failed with its last place
abbrev pub dried : BufId → ℕ → ℕ → Course → Course
dried b k places c = if is_caught c b then with_fail b deny.NoSpace c else gone_dry k places c
