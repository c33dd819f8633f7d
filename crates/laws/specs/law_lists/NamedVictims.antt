-- The victims that entries name (ttm_mem_evict_first, ttm_global_swapout).
use Rattle.std.specs.Prelude.{◌≡◌, ℕ, Bool, true, false, List, ◌∷◌, ◌++◌, Some, None, ◌&&◌, slice_get}
use Rattle.std.specs.List.{list_any}
use Rattle.ttm_base.specs.declared.Mem.TheVariants.{System, Tt}
use Rattle.ttm_base.specs.declared.BufId.{BufId}
use Rattle.ttm_base.specs.declared.Place.{Place}
use Rattle.ttm_base.specs.declared.Actor.TheVariants as actor
use Rattle.ttm_base.specs.Placement.{forced_places}
use Rattle.journal_model.specs.declared.script.Script.{Script}
use Rattle.journal_model.specs.declared.script.Command.{Command}
use Rattle.journal_model.specs.declared.entry.Entry.{Entry}
use Rattle.journal_model.specs.declared.entry.Kind.TheVariants as kind
use Rattle.journal_model.specs.declared.entry.Why.{Why}
use Rattle.journal_model.specs.declared.entry.Why.TheVariants as why
use Rattle.journal_model.specs.declared.state.State.{State}
use Rattle.journal_model.specs.declared.state.SearchAim.{SearchAim}
use Rattle.journal_model.specs.declared.state.Task.TheVariants as task
use Rattle.journal_model.specs.rules.State.{buffer, course, reservation}
use Rattle.journal_model.specs.rules.Commands.{command_at_work}
use Rattle.journal_model.specs.rules.Choice.{choice}
use Rattle.journal_model.specs.rules.Dry.{is_evictable, is_loose, has_frame}
use Rattle.journal_model.specs.rules.Holds.{free_frame}
use Rattle.journal_model.specs.rules.Lists.{in_order}
use Rattle.journal_model.specs.rules.Search.{place_search, why_of}
use Rattle.journal_model.specs.rules.Tasks.{task_of}
use Rattle.journal_model.specs.rules.Legal.{Made, made_of}

-- the buffer stands on the list and passes, and none that stands before it does
pub record IsFirst (test : BufId → Bool) (b : BufId) (l : List BufId) : Type 0 where
  pub before : List BufId
  pub behind : List BufId
  pub parts : l ≡ before ++ b ∷ behind
  pub passes : test b ≡ true
  pub none_before : list_any test before ≡ false

-- the victim is the first evictable of the four lists of the place's memory type, priority 0 first, where the forced place at work of the
-- thread's search has no choice
pub record IsEvicted (script : Script) (s : State) (t : ℕ) (v : BufId) (w : Why) : Type 0 where
  pub cmd : Command
  pub at_work : command_at_work script s t ≡ Some cmd
  pub b : BufId
  pub aim : SearchAim
  pub searching : task_of script s t ≡ task.Search b aim
  pub place : Place
  pub here : slice_get (forced_places (place_search script cmd (course s t) b aim).list) (place_search script cmd (course s t) b aim).dry ≡ Some place
  pub lacks : choice script s.core b place ≡ None
  pub reason : w ≡ why_of place.mem
  pub first : IsFirst (is_evictable script s (course s t).skips place) v (in_order s place.mem)

-- the victim is the first with a frame that is neither pinned nor held, in SYSTEM and then in TT, where the thread fills a buffer and no
-- frame is free
pub record IsSwapped (script : Script) (s : State) (t : ℕ) (v : BufId) : Type 0 where
  pub b : BufId
  pub filling : task_of script s t ≡ task.Fill b
  pub full : free_frame script s.core ≡ None
  pub first : IsFirst (λ b. is_loose (reservation s b) && has_frame (buffer s b)) v (in_order s System ++ in_order s Tt)

-- which victim an entry names, by what the victim is caught for
abbrev pub IsNamedVictim : Script → State → ℕ → BufId → Why → Type 0
IsNamedVictim script s t v why.Vram = IsEvicted script s t v why.Vram
IsNamedVictim script s t v why.Tt = IsEvicted script s t v why.Tt
IsNamedVictim script s t v why.Swap = IsSwapped script s t v

-- each entry of a journal that catches a buffer names that victim, in the state after the entries before it
abbrev pub NamesVictims : Script → List Entry → Type 0
NamesVictims script journal =
    (i : ℕ) (m : Made) (t : ℕ) (v : BufId) (w : Why) → slice_get (made_of script journal) i ≡ Some m →
    m.entry ≡ record { who = actor.Thread t; kind = kind.Catch v w } → IsNamedVictim script m.before t v w
