-- The search at which a thread is.
use Rattle.std.proofs.Common.{◌≡◌, ℕ, zero, suc, ◌<◌, Bool, true, false, List, [], ◌∷◌, ◌⊎◌, inl, inr, Option, Some, None, IsTrue, length, refl, sym, ◌∙◌, ap, subst, arith}
use Rattle.std.specs.Prelude.{not, is_some, option_and_then, slice_get}
use Rattle.ttm_base.specs.declared.Actor.TheVariants as actor
use Rattle.ttm_base.specs.declared.BufId.{BufId}
use Rattle.ttm_base.specs.declared.FlaggedPlace.{FlaggedPlace}
use Rattle.journal_model.specs.declared.script.Script.{Script}
use Rattle.journal_model.specs.declared.script.Command.{Command}
use Rattle.journal_model.specs.declared.script.Command.TheVariants as command
use Rattle.journal_model.specs.declared.state.SearchAim.{SearchAim}
use Rattle.journal_model.specs.declared.state.SearchAim.TheVariants.{Asked, Hop}
use Rattle.journal_model.specs.declared.state.Course.{Course}
use Rattle.journal_model.specs.declared.state.State.{State}
use Rattle.journal_model.specs.declared.state.Stage.TheVariants as stage
use Rattle.journal_model.specs.declared.state.Task.{Task}
use Rattle.journal_model.specs.declared.state.Task.TheVariants as task
use Rattle.journal_model.specs.declared.entry.Entry.{Entry}
use Rattle.journal_model.specs.rules.State.{course, has_buffer}
use Rattle.journal_model.specs.rules.Commands.{asked_places, command_at_work}
use Rattle.journal_model.specs.rules.Ready.{is_ready}
use Rattle.journal_model.specs.scripts.ScriptRules.{is_script}
use Rattle.journal_model.specs.rules.Search.{is_caught, place_search, step_of_place_search}
use Rattle.journal_model.specs.rules.Next.{next}
use Rattle.journal_model.specs.rules.Tasks.{task_of, stage_of}
use Rattle.journal_model.specs.rules.Legal.{IsLegal, state_of}
use Rattle.laws.proofs.law_state.GoodStates.{good_law}
use Rattle.laws.proofs.law_sound.Along.{sound_law}
use Rattle.laws.proofs.law_sound.Bufs.{has_found, last_caught, none_missing}
use Rattle.laws.proofs.law_sound.Turns.{Turn, OnBuffer, turn_of, victim_search, ask, hop_up, hop_down}
use Rattle.journal_model.specs.rules.Commands.{named}
use Rattle.room_state.specs.turns.Searching.{buffer_search_in, buffer_search_of}
use Rattle.room_state.specs.turns.Searching as searching
use Rattle.room_state.proofs.turns.Threads.{command_at, next_at, task_at}
use Rattle.room_state.specs.turns.BufferSearches.{hop_by, buffer_search_by, list_of, seen, sought_by}

-- ---- where it looks

asked_same : (script : Script) (cmd : Command) (b : BufId) → list_of script b (sought_by cmd) ≡ asked_places script cmd b
asked_same script (command.Move c mem) b = refl
asked_same script (command.SwapOut c) b = refl
asked_same script (command.New c) b = refl
asked_same script (command.Free c) b = refl
asked_same script (command.Pin c) b = refl
asked_same script (command.Unpin c) b = refl
asked_same script (command.Find c) b = refl
asked_same script (command.Write c off bytes) b = refl
asked_same script (command.Read c off len) b = refl
asked_same script (command.Touch group) b = refl
asked_same script (command.Submit engine ops) b = refl

-- it is the definition's search
pub buffer_search_same : (script : Script) (cmd : Command) (c : Course) (b : BufId) (aim : SearchAim) → seen script (buffer_search_by cmd c b aim) ≡ record { b = b; place_search = place_search script cmd c b aim }
buffer_search_same script cmd c b Asked =
    ap (λ (l : List FlaggedPlace). let h : searching.BufferSearch = record { b = b; place_search = record { list = l; forced = c.forced; dry = c.dry } } in h) (asked_same script cmd b)
buffer_search_same script cmd c b Hop = by (is_caught c b) refl
  where
    by : (q : Bool) → is_caught c b ≡ q → seen script (hop_by c b) ≡ record { b = b; place_search = place_search script cmd c b Hop }
    by true e = rw e refl
    by false e = rw e refl

-- it is for that buffer
pub buffer_search_buffer : (cmd : Command) (c : Course) (b : BufId) (aim : SearchAim) → (buffer_search_by cmd c b aim).b ≡ b
buffer_search_buffer cmd c b Asked = refl
buffer_search_buffer cmd c b Hop = by (is_caught c b) refl
  where
    by : (q : Bool) → is_caught c b ≡ q → (hop_by c b).b ≡ b
    by true e = rw e refl
    by false e = rw e refl

-- ---- the thread

module _ (script : Script) (s : State) (t : ℕ) (b : BufId) (aim : SearchAim) (is : task_of script s t ≡ task.Search b aim) where
  -- it has a command
  pub searcher : (cmd : Command) × (command_at_work script s t ≡ Some cmd)
  searcher = command_at script s t stage.Search (ap stage_of is) (λ e. cc)

  -- its search, for that command
  pub buffer_searches : (cmd : Command) → command_at_work script s t ≡ Some cmd → buffer_search_of script s t ≡ Some (seen script (buffer_search_by cmd (course s t) b aim))
  buffer_searches cmd at =
      ap (option_and_then (λ c. buffer_search_in script s t c (task_of script s t))) at
      ∙ ap (buffer_search_in script s t cmd) is
      ∙ ap Some (sym (buffer_search_same script cmd (course s t) b aim))

-- ---- its buffer is declared

-- it is held, or caught
searched_buffer : (script : Script) (s : State) (c : Course) (cmd : Command) (b : BufId) (a : SearchAim) → Turn script s c cmd (task.Search b a) → (has_buffer c.held b ≡ true) ⊎ (is_caught c b ≡ true)
searched_buffer script s c cmd b a = by a
  where
    named_held : OnBuffer script s c cmd b → has_buffer c.held b ≡ true
    named_held on = none_missing c cmd b on.named.works.whole (has_found (λ d. not (is_ready script s cmd d)) (named cmd) b on.first)

    by : (a : SearchAim) → Turn script s c cmd (task.Search b a) → (has_buffer c.held b ≡ true) ⊎ (is_caught c b ≡ true)
    by a (victim_search v on vram f q) = inr (last_caught c v on.last)
    by a (ask on n) = inl (named_held on.on)
    by a (hop_up on q) = inl (named_held on.on.on)
    by a (hop_down on q r) = inl (named_held on.on.on)

is_below : {X : Type 0} (xs : List (Option X)) (i : ℕ) → is_some (option_and_then (λ (x : Option X). x) (slice_get xs i)) ≡ true → i < length xs
is_below [] i e = cc
is_below (y ∷ xs) zero e = omega arith
is_below (y ∷ xs) (suc i) e = let r = is_below xs i e in omega (arith, r)

pub searched_declared : (script : Script) (journal : List Entry) → IsTrue (is_script script) → IsLegal script journal → (t : ℕ) (b : BufId) (aim : SearchAim) → task_of script (state_of script journal) t ≡ task.Search b aim →
    b.0 < length script.buffers
searched_declared script journal fits legal t b aim is =
    let s = state_of script journal in
    let work = searcher script s t b aim is in
    let turn = subst (Turn script s (course s t) work.0) (sym (task_at script s t work.0 work.1) ∙ is) (turn_of script s (course s t) work.0) in
    let live = ((sound_law script journal fits legal).owned.held t b (searched_buffer script s (course s t) work.0 b aim turn)).1 in
    let below = is_below s.core.buffers b.0 live in
    let many = (good_law script fits journal legal).many in
    omega (arith, below, many)

-- ---- what its search is

-- a thread that searches, with its command
pub record BufferSearcher (script : Script) (s : State) (t : ℕ) (h : searching.BufferSearch) : Type 0 where
  pub cmd : Command
  pub aim : SearchAim
  pub at : command_at_work script s t ≡ Some cmd
  pub is : task_of script s t ≡ task.Search h.b aim
  pub place_search_is : h.place_search ≡ place_search script cmd (course s t) h.b aim

pub buffer_searcher : (script : Script) (s : State) (t : ℕ) (h : searching.BufferSearch) → buffer_search_of script s t ≡ Some h → BufferSearcher script s t h
buffer_searcher script s t h e = by (command_at_work script s t) refl e
  where
    by_task : (cmd : Command) → command_at_work script s t ≡ Some cmd → (x : Task) → task_of script s t ≡ x → buffer_search_in script s t cmd x ≡ Some h → BufferSearcher script s t h
    by_task cmd at (task.Search b aim) is f =
        let same : record { b = b; place_search = place_search script cmd (course s t) b aim } ≡ h = cc in
        subst (BufferSearcher script s t) same (record { cmd = cmd; aim = aim; at = at; is = is; place_search_is = refl })
    by_task cmd at x is f = cc

    by : (o : Option Command) → command_at_work script s t ≡ o → option_and_then (λ c. buffer_search_in script s t c (task_of script s t)) o ≡ Some h → BufferSearcher script s t h
    by None at f = cc
    by (Some cmd) at f = by_task cmd at (task_of script s t) refl f

-- its step is that of its search
pub buffer_searcher_next : (script : Script) (s : State) (t : ℕ) (h : searching.BufferSearch) → buffer_search_of script s t ≡ Some h → next script s (actor.Thread t) ≡ step_of_place_search script s (course s t) h.b h.place_search
buffer_searcher_next script s t h e =
    let w = buffer_searcher script s t h e in
    next_at script s t w.cmd (task.Search h.b w.aim) w.at w.is ∙ ap (step_of_place_search script s (course s t) h.b) (sym w.place_search_is)
