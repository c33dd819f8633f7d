-- What mappings of buffers by the CPU know, beside a journal.
use Rattle.std.specs.Prelude.{◌≡◌, ℕ, List, Some, IsTrue}
use Rattle.ttm_base.specs.declared.BufId.{BufId}
use Rattle.ttm_base.specs.declared.PagePlace.{PagePlace}
use Rattle.journal_model.specs.rules.Legal.{IsLegal, made_of}
use Rattle.journal_model.specs.rules.Places.{place_of}
use Rattle.journal_model.specs.scripts.ScriptRules.{is_script}
use Rattle.cpu_maps.specs.declared.area.Area.{Area}
use Rattle.cpu_maps.specs.Areas.{entry_in}
use Rattle.law_legal.specs.law_maps.Following.{page_there}
use Rattle.map_follow.specs.Follows.{Follows}
use Rattle.device_core.specs.Kept.{Kept, state_behind}

-- each entry of a mapping names the place that the page has now
abbrev pub NamePlaces : Kept → List Area → Type 0
NamePlaces k areas = (thread : ℕ) (b : BufId) (i : ℕ) (place : PagePlace) → entry_in areas thread b i ≡ Some place → page_there place ≡ place_of (state_behind k).core b i

-- the journal is legal, of a script that has a spelling, and mappings follow it
pub record IsDevice (k : Kept) (areas : List Area) : Type 0 where
  pub fits : IsTrue (is_script k.script)
  pub legal : IsLegal k.script k.journal
  pub follows : Follows k.script (made_of k.script k.journal) areas
