-- What an entry tells of the task that made it.
use Rattle.std.proofs.Common.{◌≡◌, ℕ, ◌+◌, zero, suc, Bool, true, false, List, [], ◌∷◌, Option, Some, None, Ok, Err, refl, sym, ◌∙◌, ap, subst}
use Rattle.std.specs.Prelude.{slice_get, unwrap_or, if◌then◌else◌}
use Rattle.ttm_base.specs.declared.Mem.{Mem}
use Rattle.ttm_base.specs.declared.Mem.TheVariants.{System, Tt, Vram}
use Rattle.ttm_base.specs.declared.BufId.{BufId}
use Rattle.ttm_base.specs.declared.JobId.{JobId}
use Rattle.ttm_base.specs.declared.Stamp.{Stamp}
use Rattle.ttm_base.specs.declared.Place.{Place}
use Rattle.ttm_base.specs.declared.Span.{Span}
use Rattle.ttm_base.specs.declared.Op.{Op}
use Rattle.ttm_base.specs.declared.Loc.{Loc}
use Rattle.ttm_base.specs.declared.Loc.TheVariants as loc
use Rattle.ttm_base.specs.declared.Deny.{Deny}
use Rattle.ttm_base.specs.declared.Deny.TheVariants as deny
use Rattle.ttm_base.specs.declared.Need.TheVariants as need
use Rattle.ttm_base.specs.Placement.{first_places, forced_places}
use Rattle.journal_model.specs.declared.script.Script.{Script}
use Rattle.journal_model.specs.declared.script.Command.{Command}
use Rattle.journal_model.specs.declared.script.Command.TheVariants as command
use Rattle.journal_model.specs.declared.state.State.{State}
use Rattle.journal_model.specs.declared.state.Ghost.{Ghost}
use Rattle.journal_model.specs.declared.state.Course.{Course}
use Rattle.journal_model.specs.declared.state.SearchAim.{SearchAim}
use Rattle.journal_model.specs.declared.state.Task.{Task}
use Rattle.journal_model.specs.declared.state.Task.TheVariants as task
use Rattle.journal_model.specs.declared.entry.Kind.{Kind}
use Rattle.journal_model.specs.declared.entry.Kind.TheVariants as kind
use Rattle.journal_model.specs.declared.entry.Why.{Why}
use Rattle.journal_model.specs.declared.entry.Why.TheVariants as why
use Rattle.journal_model.specs.declared.entry.DryWhy.{DryWhy}
use Rattle.journal_model.specs.declared.entry.DryWhy.TheVariants as dry
use Rattle.journal_model.specs.declared.entry.Left.TheVariants as left
use Rattle.journal_model.specs.declared.entry.Shown.{Shown}
use Rattle.journal_model.specs.declared.entry.Shown.TheVariants as shown
use Rattle.journal_model.specs.rules.State.{buffer, reservation, is_live}
use Rattle.journal_model.specs.rules.Commands.{whole}
use Rattle.journal_model.specs.rules.Choice.{choice}
use Rattle.journal_model.specs.rules.Places.{loc_of}
use Rattle.journal_model.specs.rules.Holds.{free_frame, free_slot}
use Rattle.journal_model.specs.rules.Dry.{is_long_enough, victim, ghost_in, has_frame, swap_victim, ghost_with_frame, causes}
use Rattle.journal_model.specs.rules.Waits.{waited_for, jobs_before_write, is_idle}
use Rattle.journal_model.specs.rules.Search.{Step, PlaceSearch, place_search, is_caught, why_of, step_of_crowded, step_of_forced, first_choice, step_of_place_search}
use Rattle.journal_model.specs.rules.PageSteps.{unless_waiting, once_idle, page_to_fill, filled_by, step_without_victim, step_without_frame, step_of_fill, first_frame_page, step_of_swap_out, why_caught, step_of_empty, next_job, next_ghost, target_to_untake, step_of_give_back}
use Rattle.journal_model.specs.rules.Next.{step_of_start, backs_off, step_of_holder, step_of_lock, step_of_act, step_of_task}
use Rattle.laws.specs.law_sound.Sound.{locks}

-- ---- what a search gives

-- the place at which a search works: one of those tried first, or the forced one that is next
pub data PlaceOf (q : PlaceSearch) (place : Place) : Type 0 where
  first : (i : ℕ) → q.forced ≡ false → slice_get (first_places q.list) i ≡ Some place → PlaceOf q place
  forced : place ≡ unwrap_or (slice_get (forced_places q.list) q.dry) (whole System) → PlaceOf q place

pub data SearchOutcome (script : Script) (s : State) (c : Course) (b : BufId) (q : PlaceSearch) : Kind → Type 0 where
  finds : (place : Place) {mem : Mem} {spans : List Span} → PlaceOf q place → place.mem ≡ mem → choice script s.core b place ≡ Some spans → SearchOutcome script s c b q (kind.Take b mem spans)
  evicts : (place : Place) {v : BufId} {w : Why} → place ≡ unwrap_or (slice_get (forced_places q.list) q.dry) (whole System) → choice script s.core b place ≡ None → why_of place.mem ≡ w →
      victim script s c.skips place ≡ Some v → SearchOutcome script s c b q (kind.Catch v w)
  dries : (place : Place) {w : DryWhy} → place ≡ unwrap_or (slice_get (forced_places q.list) q.dry) (whole System) → choice script s.core b place ≡ None → SearchOutcome script s c b q (kind.Dry b q.dry w)

module _ (script : Script) (s : State) (c : Course) (b : BufId) (q : PlaceSearch) where
  crowded_gives : (place : Place) → place ≡ unwrap_or (slice_get (forced_places q.list) q.dry) (whole System) → choice script s.core b place ≡ None → (k : Kind) →
      step_of_crowded script s c b q.dry place ≡ Ok k → SearchOutcome script s c b q k
  crowded_gives place at lacks k h = by_long (is_long_enough script b place) h
    where
      by_ghost : (o : Option Ghost) → ◌≡◌ {A = Step} (elim o [ Some g ↦ Err (need.Ghost g.num) | None ↦ Ok (kind.Dry b q.dry (dry.Of (causes script s place))) ]) (Ok k) → SearchOutcome script s c b q k
      by_ghost (Some g) h = cc
      by_ghost None h = let it : kind.Dry b q.dry (dry.Of (causes script s place)) ≡ k = cc in subst (SearchOutcome script s c b q) it (dries place at lacks)

      by_victim : (o : Option BufId) → victim script s c.skips place ≡ o →
          ◌≡◌ {A = Step} (elim o [
            | Some v ↦ Ok (kind.Catch v (why_of place.mem))
            | None ↦ elim (ghost_in script s place) [ Some g ↦ Err (need.Ghost g.num) | None ↦ Ok (kind.Dry b q.dry (dry.Of (causes script s place))) ]
          ]) (Ok k) → SearchOutcome script s c b q k
      by_victim (Some v) e h = let it : kind.Catch v (why_of place.mem) ≡ k = cc in subst (SearchOutcome script s c b q) it (evicts place at lacks refl e)
      by_victim None e h = by_ghost (ghost_in script s place) h

      by_long : (l : Bool) →
          ◌≡◌ {A = Step} (elim l [
            | false ↦ Ok (kind.Dry b q.dry dry.Short)
            | true ↦ elim (victim script s c.skips place) [
              | Some v ↦ Ok (kind.Catch v (why_of place.mem))
              | None ↦ elim (ghost_in script s place) [ Some g ↦ Err (need.Ghost g.num) | None ↦ Ok (kind.Dry b q.dry (dry.Of (causes script s place))) ]
            ]
          ]) (Ok k) → SearchOutcome script s c b q k
      by_long false h = let it : kind.Dry b q.dry dry.Short ≡ k = cc in subst (SearchOutcome script s c b q) it (dries place at lacks)
      by_long true h = by_victim (victim script s c.skips place) refl h

  forced_gives : (k : Kind) → step_of_forced script s c b q.dry (forced_places q.list) ≡ Ok k → SearchOutcome script s c b q k
  forced_gives k h = by_choice (choice script s.core b place) refl h
    where
      place : Place
      place = unwrap_or (slice_get (forced_places q.list) q.dry) (whole System)

      by_choice : (o : Option (List Span)) → choice script s.core b (unwrap_or (slice_get (forced_places q.list) q.dry) (whole System)) ≡ o →
          ◌≡◌ {A = Step} (elim o [
            | Some spans ↦ Ok (kind.Take b (unwrap_or (slice_get (forced_places q.list) q.dry) (whole System)).mem spans)
            | None ↦ step_of_crowded script s c b q.dry (unwrap_or (slice_get (forced_places q.list) q.dry) (whole System))
          ]) (Ok k) → SearchOutcome script s c b q k
      by_choice (Some spans) e h =
          let it : kind.Take b (unwrap_or (slice_get (forced_places q.list) q.dry) (whole System)).mem spans ≡ k = cc in
          subst (SearchOutcome script s c b q) it (finds (unwrap_or (slice_get (forced_places q.list) q.dry) (whole System)) (forced refl) refl e)
      by_choice None e h = crowded_gives (unwrap_or (slice_get (forced_places q.list) q.dry) (whole System)) refl e k h

  -- a first choice is that of one of the places
  pub record ChoiceAt (places : List Place) (found : Mem × List Span) : Type 0 where
    pub at : ℕ
    pub place : Place
    pub here : slice_get places at ≡ Some place
    pub mem : place.mem ≡ found.0
    pub spans : choice script s.core b place ≡ Some found.1

  first_at : (places : List Place) (found : Mem × List Span) → first_choice script s b places ≡ Some found → ChoiceAt places found
  first_at [] found h = cc
  first_at (p ∷ places) found h = by_choice (λ k. first_at places found k) (choice script s.core b p) refl h
    where
      by_choice : (first_choice script s b places ≡ Some found → ChoiceAt places found) → (o : Option (List Span)) → choice script s.core b p ≡ o →
          ◌≡◌ {A = Option (Mem × List Span)} (elim o [ Some spans ↦ Some (p.mem, spans) | None ↦ first_choice script s b places ]) (Some found) → ChoiceAt (p ∷ places) found
      by_choice later (Some spans) e h =
          let it : (p.mem, spans) ≡ found = cc in
          record { at = zero; place = p; here = refl; mem = ap (λ f. f.0) it; spans = e ∙ ap (λ f. Some f.1) it }
      by_choice later None e h = let r = later h in record { at = suc r.at; place = r.place; here = r.here; mem = r.mem; spans = r.spans }

  pub place_search_gives : (k : Kind) → step_of_place_search script s c b q ≡ Ok k → SearchOutcome script s c b q k
  place_search_gives k h = by_forced q.forced refl h
    where
      by_found : q.forced ≡ false → (o : Option (Mem × List Span)) → first_choice script s b (first_places q.list) ≡ o →
          ◌≡◌ {A = Step} (elim o [ Some found ↦ Ok (kind.Take b found.0 found.1) | None ↦ step_of_forced script s c b q.dry (forced_places q.list) ]) (Ok k) → SearchOutcome script s c b q k
      by_found f (Some found) e h =
          let it : kind.Take b found.0 found.1 ≡ k = cc in
          let r = first_at (first_places q.list) found e in
          subst (SearchOutcome script s c b q) it (finds r.place (first r.at f r.here) r.mem r.spans)
      by_found f None e h = forced_gives k h

      by_forced : (f : Bool) → q.forced ≡ f →
          ◌≡◌ {A = Step} (elim f [
            | true ↦ step_of_forced script s c b q.dry (forced_places q.list)
            | false ↦ elim (first_choice script s b (first_places q.list)) [
              | Some found ↦ Ok (kind.Take b found.0 found.1)
              | None ↦ step_of_forced script s c b q.dry (forced_places q.list)
            ]
          ]) (Ok k) → SearchOutcome script s c b q k
      by_forced true e h = forced_gives k h
      by_forced false e h = by_found e (first_choice script s b (first_places q.list)) refl h

-- ---- what a fill gives

pub data Filled (script : Script) (s : State) (b : BufId) : Kind → Type 0 where
  fresh : {frame : ℕ} → free_frame script s.core ≡ Some frame → loc_of (buffer s b) (page_to_fill (buffer s b)) ≡ loc.Zero → Filled script s b (kind.Populate b (page_to_fill (buffer s b)) frame)
  again : {f frame : ℕ} → free_frame script s.core ≡ Some frame → loc_of (buffer s b) (page_to_fill (buffer s b)) ≡ loc.Frame f → Filled script s b (kind.Populate b (page_to_fill (buffer s b)) frame)
  back : {slot frame : ℕ} → free_frame script s.core ≡ Some frame → loc_of (buffer s b) (page_to_fill (buffer s b)) ≡ loc.Slot slot → Filled script s b (kind.SwapIn b (page_to_fill (buffer s b)) slot frame)
  evicts_for_swap : {slot : ℕ} {v : BufId} → free_slot script s.core ≡ Some slot → swap_victim s ≡ Some v → Filled script s b (kind.Catch v why.Swap)
  nothing : free_frame script s.core ≡ None → Filled script s b (kind.NoPages b)

module _ (script : Script) (s : State) (b : BufId) where
  alone_gives : free_frame script s.core ≡ None → (k : Kind) → step_without_victim s b ≡ Ok k → Filled script s b k
  alone_gives f k h = by_ghost (ghost_with_frame s) h
    where
      by_ghost : (o : Option Ghost) → ◌≡◌ {A = Step} (elim o [ Some g ↦ Err (need.Ghost g.num) | None ↦ Ok (kind.NoPages b) ]) (Ok k) → Filled script s b k
      by_ghost (Some g) h = cc
      by_ghost None h = let it : kind.NoPages b ≡ k = cc in subst (Filled script s b) it (nothing f)

  without_gives : free_frame script s.core ≡ None → (k : Kind) → step_without_frame script s b ≡ Ok k → Filled script s b k
  without_gives f k h = by_slot (free_slot script s.core) refl h
    where
      by_victim : {slot : ℕ} → free_slot script s.core ≡ Some slot → (o : Option BufId) → swap_victim s ≡ o →
          ◌≡◌ {A = Step} (elim o [ Some v ↦ Ok (kind.Catch v why.Swap) | None ↦ step_without_victim s b ]) (Ok k) → Filled script s b k
      by_victim sl (Some v) e h = let it : kind.Catch v why.Swap ≡ k = cc in subst (Filled script s b) it (evicts_for_swap sl e)
      by_victim sl None e h = alone_gives f k h

      by_slot : (o : Option ℕ) → free_slot script s.core ≡ o →
          ◌≡◌ {A = Step} (elim o [
            | None ↦ step_without_victim s b
            | Some slot ↦ elim (swap_victim s) [ Some v ↦ Ok (kind.Catch v why.Swap) | None ↦ step_without_victim s b ]
          ]) (Ok k) → Filled script s b k
      by_slot None e h = alone_gives f k h
      by_slot (Some slot) e h = by_victim e (swap_victim s) refl h

  pub fill_gives : (k : Kind) → step_of_fill script s b ≡ Ok k → Filled script s b k
  fill_gives k h = by_frame (free_frame script s.core) refl h
    where
      by_loc : {frame : ℕ} → free_frame script s.core ≡ Some frame → (l : Loc) → loc_of (buffer s b) (page_to_fill (buffer s b)) ≡ l →
          filled_by b (page_to_fill (buffer s b)) frame l ≡ k → Filled script s b k
      by_loc f loc.Zero e it = subst (Filled script s b) it (fresh f e)
      by_loc f (loc.Frame n) e it = subst (Filled script s b) it (again f e)
      by_loc f (loc.Slot n) e it = subst (Filled script s b) it (back f e)

      by_frame : (o : Option ℕ) → free_frame script s.core ≡ o →
          ◌≡◌ {A = Step} (elim o [ Some frame ↦ Ok (filled_by b (page_to_fill (buffer s b)) frame (loc_of (buffer s b) (page_to_fill (buffer s b)))) | None ↦ step_without_frame script s b ]) (Ok k) → Filled script s b k
      by_frame (Some frame) e h = by_loc e (loc_of (buffer s b) (page_to_fill (buffer s b))) refl (let it : filled_by b (page_to_fill (buffer s b)) frame (loc_of (buffer s b) (page_to_fill (buffer s b))) ≡ k = cc in it)
      by_frame None e h = without_gives e k h

-- ---- what each task gives

-- nothing waits for the buffer's jobs
abbrev pub Idle : State → BufId → Type 0
Idle s b = waited_for s.core (jobs_before_write (buffer s b)) ≡ None

pub data Gives (script : Script) (s : State) (c : Course) (cmd : Command) : Task → Kind → Type 0 where
  answers : Gives script s c cmd task.Answer (kind.Result shown.Plain)
  makes : {b : BufId} → cmd ≡ command.New b → is_live s b ≡ false → Gives script s c cmd task.Start (kind.New b)
  exists : {b : BufId} → cmd ≡ command.New b → Gives script s c cmd task.Start (kind.Refused deny.Exists)
  shifts : {group : ℕ} → cmd ≡ command.Touch group → Gives script s c cmd task.Start (kind.Bulk group)
  draws : locks cmd ≡ true → Gives script s c cmd task.Start (kind.Ticket (record { 0 = s.last_stamp + 1 }))
  no_buffer : {b : BufId} → is_live s b ≡ false → Gives script s c cmd (task.Lock b) (kind.Refused deny.NoBuffer)
  reserves : {b : BufId} → is_live s b ≡ true → (reservation s b).holder ≡ None → Gives script s c cmd (task.Lock b) (kind.Reserve b)
  backs : {b : BufId} {st : Stamp} → is_live s b ≡ true → (reservation s b).holder ≡ Some st → backs_off c st ≡ true → Gives script s c cmd (task.Lock b) (kind.Backoff b st)
  seeks : {b : BufId} {aim : SearchAim} {k : Kind} → SearchOutcome script s c b (place_search script cmd c b aim) k → Gives script s c cmd (task.Search b aim) k
  binds : {b : BufId} → Gives script s c cmd (task.Bind b) (kind.Bind b)
  unbinds : {b : BufId} → Idle s b → Gives script s c cmd (task.Unbind b) (kind.Unbind b)
  moves : {b : BufId} {mem : Mem} → Gives script s c cmd (task.Move b mem) (kind.Move b mem (next_job s 0) (if is_caught c b then left.Now else left.Ghost (next_ghost s)))
  fills : {b : BufId} {k : Kind} → Filled script s b k → Gives script s c cmd (task.Fill b) k
  lets_go : {b : BufId} → Gives script s c cmd (task.Empty b) (kind.Loose b)
  empties : {b : BufId} {slot : ℕ} → why_caught c b ≡ Some why.Swap → has_frame (buffer s b) ≡ true → free_slot script s.core ≡ Some slot →
      Gives script s c cmd (task.Empty b) (kind.SwapOut b (first_frame_page (buffer s b)) slot)
  depopulates : {b : BufId} → (buffer s b).mem ≡ Vram → has_frame (buffer s b) ≡ true → Gives script s c cmd (task.GiveBack b) (kind.Depopulate b)
  untakes : {b : BufId} → ((buffer s b).mem ≡ Vram → has_frame (buffer s b) ≡ false) → Gives script s c cmd (task.GiveBack b) (kind.Untake b (target_to_untake (buffer s b)))
  skips : {b : BufId} → Gives script s c cmd (task.Skip b) (kind.Skip b)
  gives_up : {d : Deny} → Gives script s c cmd (task.GiveUp d) (kind.Refused d)
  refuses : {d : Deny} → Gives script s c cmd (task.Refuse d) (kind.Refused d)
  arms : {engine : ℕ} (ops : List Op) → cmd ≡ command.Submit engine ops → Gives script s c cmd task.Act (kind.Arm engine (next_job s engine))
  frees : {b : BufId} {g : ℕ} → cmd ≡ command.Free b → g ≡ (if is_idle s.core (buffer s b) then 0 else next_ghost s) → Gives script s c cmd task.Act (kind.Free b g)
  swaps : {b : BufId} {slot : ℕ} → cmd ≡ command.SwapOut b → has_frame (buffer s b) ≡ true → free_slot script s.core ≡ Some slot →
      Gives script s c cmd task.Act (kind.SwapOut b (first_frame_page (buffer s b)) slot)
  no_swap : {b : BufId} → cmd ≡ command.SwapOut b → Gives script s c cmd task.Act (kind.Refused deny.NoSwap)
  acts : {r : Shown} → Gives script s c cmd task.Act (kind.Result r)

module _ (script : Script) (s : State) (c : Course) (cmd : Command) where
  -- a kind that is made once no job is waited for
  once_gives : (o : Option JobId) (k l : Kind) → unless_waiting o k ≡ Ok l → (o ≡ None) × (k ≡ l)
  once_gives None k l h = (refl, (let it : k ≡ l = cc in it))
  once_gives (Some i) k l h = cc

  lock_gives : (b : BufId) (k : Kind) → step_of_lock s c b ≡ Ok k → Gives script s c cmd (task.Lock b) k
  lock_gives b k h = by_live (is_live s b) refl h
    where
      by_back : (st : Stamp) → is_live s b ≡ true → (reservation s b).holder ≡ Some st → (q : Bool) → backs_off c st ≡ q →
          ◌≡◌ {A = Step} (if q then Ok (kind.Backoff b st) else Err (need.Holder st)) (Ok k) → Gives script s c cmd (task.Lock b) k
      by_back st l g true e h = let it : kind.Backoff b st ≡ k = cc in subst (Gives script s c cmd (task.Lock b)) it (backs l g e)
      by_back st l g false e h = cc

      by_holder : is_live s b ≡ true → (o : Option Stamp) → (reservation s b).holder ≡ o → step_of_holder c b o ≡ Ok k → Gives script s c cmd (task.Lock b) k
      by_holder l None g h = let it : kind.Reserve b ≡ k = cc in subst (Gives script s c cmd (task.Lock b)) it (reserves l g)
      by_holder l (Some st) g h = by_back st l g (backs_off c st) refl h

      by_live : (q : Bool) → is_live s b ≡ q → ◌≡◌ {A = Step} (elim q [ false ↦ Ok (kind.Refused deny.NoBuffer) | true ↦ step_of_holder c b (reservation s b).holder ]) (Ok k) → Gives script s c cmd (task.Lock b) k
      by_live false l h = let it : kind.Refused deny.NoBuffer ≡ k = cc in subst (Gives script s c cmd (task.Lock b)) it (no_buffer l)
      by_live true l h = by_holder l (reservation s b).holder refl h

  -- drawing a ticket
  ticket_gives : (k : Kind) → locks cmd ≡ true → ◌≡◌ {A = Step} (Ok (kind.Ticket (record { 0 = s.last_stamp + 1 }))) (Ok k) → Gives script s c cmd task.Start k
  ticket_gives k l h = let it : kind.Ticket (record { 0 = s.last_stamp + 1 }) ≡ k = cc in subst (Gives script s c cmd task.Start) it (draws l)

  start_gives : (x : Command) → cmd ≡ x → (k : Kind) → step_of_start s x ≡ Ok k → Gives script s c cmd task.Start k
  start_gives (command.New b) e k h = by_live (is_live s b) refl h
    where
      by_live : (q : Bool) → is_live s b ≡ q → ◌≡◌ {A = Step} (Ok (if q then kind.Refused deny.Exists else kind.New b)) (Ok k) → Gives script s c cmd task.Start k
      by_live true l h = let it : kind.Refused deny.Exists ≡ k = cc in subst (Gives script s c cmd task.Start) it (exists e)
      by_live false l h = let it : kind.New b ≡ k = cc in subst (Gives script s c cmd task.Start) it (makes e l)
  start_gives (command.Touch group) e k h = let it : kind.Bulk group ≡ k = cc in subst (Gives script s c cmd task.Start) it (shifts e)
  start_gives cmd e k h = ticket_gives k (ap locks e) h

  unbind_gives : (b : BufId) (k : Kind) → once_idle s.core b (kind.Unbind b) ≡ Ok k → Gives script s c cmd (task.Unbind b) k
  unbind_gives b k h =
      let it = once_gives (waited_for s.core (jobs_before_write (buffer s b))) (kind.Unbind b) k h in
      subst (Gives script s c cmd (task.Unbind b)) it.1 (unbinds it.0)

  give_back_gives : (b : BufId) (k : Kind) → step_of_give_back s b ≡ Ok k → Gives script s c cmd (task.GiveBack b) k
  give_back_gives b k h = by_mem (buffer s b).mem refl h
    where
      untake : ((buffer s b).mem ≡ Vram → has_frame (buffer s b) ≡ false) → kind.Untake b (target_to_untake (buffer s b)) ≡ k → Gives script s c cmd (task.GiveBack b) k
      untake n it = subst (Gives script s c cmd (task.GiveBack b)) it (untakes n)

      by_frame : (buffer s b).mem ≡ Vram → (q : Bool) → has_frame (buffer s b) ≡ q →
          ◌≡◌ {A = Step} (Ok (elim q [ true ↦ kind.Depopulate b | false ↦ kind.Untake b (target_to_untake (buffer s b)) ])) (Ok k) → Gives script s c cmd (task.GiveBack b) k
      by_frame m true f h = let it : kind.Depopulate b ≡ k = cc in subst (Gives script s c cmd (task.GiveBack b)) it (depopulates m f)
      by_frame m false f h = untake (λ z. f) (let it : kind.Untake b (target_to_untake (buffer s b)) ≡ k = cc in it)

      by_mem : (m : Mem) → (buffer s b).mem ≡ m →
          ◌≡◌ {A = Step} (Ok (elim m [
            | Vram ↦ elim (has_frame (buffer s b)) [ true ↦ kind.Depopulate b | false ↦ kind.Untake b (target_to_untake (buffer s b)) ]
            | Tt ↦ kind.Untake b (target_to_untake (buffer s b))
            | System ↦ kind.Untake b (target_to_untake (buffer s b))
          ])) (Ok k) → Gives script s c cmd (task.GiveBack b) k
      by_mem Vram m h = by_frame m (has_frame (buffer s b)) refl h
      by_mem Tt m h = untake (λ z. absurd (let q : Tt ≡ Vram = sym m ∙ z in cc)) (let it : kind.Untake b (target_to_untake (buffer s b)) ≡ k = cc in it)
      by_mem System m h = untake (λ z. absurd (let q : System ≡ Vram = sym m ∙ z in cc)) (let it : kind.Untake b (target_to_untake (buffer s b)) ≡ k = cc in it)

  -- a swap out, or what comes in its place
  pub data Swapped (b : BufId) (k l : Kind) : Kind → Type 0 where
    without_frame : has_frame (buffer s b) ≡ false → Swapped b k l k
    without_slot : free_slot script s.core ≡ None → Swapped b k l l
    out : {slot : ℕ} → has_frame (buffer s b) ≡ true → free_slot script s.core ≡ Some slot → Swapped b k l (kind.SwapOut b (first_frame_page (buffer s b)) slot)

  swap_gives : (b : BufId) (k l m : Kind) → step_of_swap_out script s b (Ok k) (Ok l) ≡ Ok m → Swapped b k l m
  swap_gives b k l m h = by_frame (has_frame (buffer s b)) refl h
    where
      by_slot : has_frame (buffer s b) ≡ true → (o : Option ℕ) → free_slot script s.core ≡ o →
          ◌≡◌ {A = Step} (elim o [ None ↦ Ok l | Some slot ↦ once_idle s.core b (kind.SwapOut b (first_frame_page (buffer s b)) slot) ]) (Ok m) → Swapped b k l m
      by_slot f None e h = let it : l ≡ m = cc in subst (Swapped b k l) it (without_slot e)
      by_slot f (Some slot) e h =
          let it = once_gives (waited_for s.core (jobs_before_write (buffer s b))) (kind.SwapOut b (first_frame_page (buffer s b)) slot) m h in
          subst (Swapped b k l) it.1 (out f e)

      by_frame : (q : Bool) → has_frame (buffer s b) ≡ q →
          ◌≡◌ {A = Step} (elim q [ false ↦ Ok k | true ↦ elim (free_slot script s.core) [ None ↦ Ok l | Some slot ↦ once_idle s.core b (kind.SwapOut b (first_frame_page (buffer s b)) slot) ] ]) (Ok m) → Swapped b k l m
      by_frame false f h = let it : k ≡ m = cc in subst (Swapped b k l) it (without_frame f)
      by_frame true f h = by_slot f (free_slot script s.core) refl h

  empty_gives : (b : BufId) (k : Kind) → step_of_empty script s c b ≡ Ok k → Gives script s c cmd (task.Empty b) k
  empty_gives b k h = by_why (why_caught c b) refl h
    where
      by_swapped : why_caught c b ≡ Some why.Swap → (m : Kind) → Swapped b (kind.Loose b) (kind.Loose b) m → Gives script s c cmd (task.Empty b) m
      by_swapped w m (without_frame f) = lets_go
      by_swapped w m (without_slot f) = lets_go
      by_swapped w m (out f e) = empties w f e

      loose : kind.Loose b ≡ k → Gives script s c cmd (task.Empty b) k
      loose it = subst (Gives script s c cmd (task.Empty b)) it lets_go

      by_which : (w : Why) → why_caught c b ≡ Some w →
          ◌≡◌ {A = Step} (elim w [ why.Swap ↦ step_of_swap_out script s b (Ok (kind.Loose b)) (Ok (kind.Loose b)) | why.Tt ↦ Ok (kind.Loose b) | why.Vram ↦ Ok (kind.Loose b) ]) (Ok k) → Gives script s c cmd (task.Empty b) k
      by_which why.Swap e h = by_swapped e k (swap_gives b (kind.Loose b) (kind.Loose b) k h)
      by_which why.Tt e h = loose (let it : kind.Loose b ≡ k = cc in it)
      by_which why.Vram e h = loose (let it : kind.Loose b ≡ k = cc in it)

      by_why : (o : Option Why) → why_caught c b ≡ o →
          ◌≡◌ {A = Step} (elim o [
            | Some w ↦ elim w [ why.Swap ↦ step_of_swap_out script s b (Ok (kind.Loose b)) (Ok (kind.Loose b)) | why.Tt ↦ Ok (kind.Loose b) | why.Vram ↦ Ok (kind.Loose b) ]
            | None ↦ Ok (kind.Loose b)
          ]) (Ok k) → Gives script s c cmd (task.Empty b) k
      by_why (Some w) e h = by_which w e h
      by_why None e h = loose (let it : kind.Loose b ≡ k = cc in it)

  shown_gives : (r : Shown) (k : Kind) → kind.Result r ≡ k → Gives script s c cmd task.Act k
  shown_gives r k it = subst (Gives script s c cmd task.Act) it acts

  act_gives : (x : Command) → cmd ≡ x → (k : Kind) → step_of_act script s x ≡ Ok k → Gives script s c cmd task.Act k
  act_gives (command.Submit engine ops) e k h = let it : kind.Arm engine (next_job s engine) ≡ k = cc in subst (Gives script s c cmd task.Act) it (arms ops e)
  act_gives (command.Free b) e k h =
      let it : kind.Free b (if is_idle s.core (buffer s b) then 0 else next_ghost s) ≡ k = cc in
      subst (Gives script s c cmd task.Act) it (frees e refl)
  act_gives (command.SwapOut b) e k h = by_swapped k (swap_gives b (kind.Result shown.Plain) (kind.Refused deny.NoSwap) k h)
    where
      by_swapped : (m : Kind) → Swapped b (kind.Result shown.Plain) (kind.Refused deny.NoSwap) m → Gives script s c cmd task.Act m
      by_swapped m (without_frame f) = acts
      by_swapped m (without_slot f) = no_swap e
      by_swapped m (out f g) = swaps e f g
  act_gives (command.Write b off bytes) e k h = shown_gives shown.Plain k (once_gives (waited_for s.core (jobs_before_write (buffer s b))) (kind.Result shown.Plain) k h).1
  act_gives (command.Read b off len) e k h = shown_gives (shown.Read []) k (once_gives _ (kind.Result (shown.Read [])) k h).1
  act_gives (command.Find b) e k h = shown_gives _ k (let it : kind.Result (shown.Find (buffer s b).mem (buffer s b).spans) ≡ k = cc in it)
  act_gives (command.Pin b) e k h = shown_gives shown.Plain k (let it : kind.Result shown.Plain ≡ k = cc in it)
  act_gives (command.Unpin b) e k h = shown_gives shown.Plain k (let it : kind.Result shown.Plain ≡ k = cc in it)
  act_gives (command.Move b mem) e k h = shown_gives shown.Plain k (let it : kind.Result shown.Plain ≡ k = cc in it)
  act_gives (command.New b) e k h = shown_gives shown.Plain k (let it : kind.Result shown.Plain ≡ k = cc in it)
  act_gives (command.Touch group) e k h = shown_gives shown.Plain k (let it : kind.Result shown.Plain ≡ k = cc in it)

  pub task_gives : (t : Task) (k : Kind) → step_of_task script s c cmd t ≡ Ok k → Gives script s c cmd t k
  task_gives task.Idle k h = cc
  task_gives task.Answer k h = let it : kind.Result shown.Plain ≡ k = cc in subst (Gives script s c cmd task.Answer) it answers
  task_gives task.Start k h = start_gives cmd refl k h
  task_gives (task.Lock b) k h = lock_gives b k h
  task_gives (task.Search b aim) k h = seeks (place_search_gives script s c b (place_search script cmd c b aim) k h)
  task_gives (task.Bind b) k h = let it : kind.Bind b ≡ k = cc in subst (Gives script s c cmd (task.Bind b)) it binds
  task_gives (task.Unbind b) k h = unbind_gives b k h
  task_gives (task.Move b mem) k h =
      let it : kind.Move b mem (next_job s 0) (if is_caught c b then left.Now else left.Ghost (next_ghost s)) ≡ k = cc in
      subst (Gives script s c cmd (task.Move b mem)) it moves
  task_gives (task.Fill b) k h = fills (fill_gives script s b k h)
  task_gives (task.Empty b) k h = empty_gives b k h
  task_gives (task.GiveBack b) k h = give_back_gives b k h
  task_gives (task.Skip b) k h = let it : kind.Skip b ≡ k = cc in subst (Gives script s c cmd (task.Skip b)) it skips
  task_gives (task.GiveUp d) k h = let it : kind.Refused d ≡ k = cc in subst (Gives script s c cmd (task.GiveUp d)) it gives_up
  task_gives (task.Refuse d) k h = let it : kind.Refused d ≡ k = cc in subst (Gives script s c cmd (task.Refuse d)) it refuses
  task_gives task.Act k h = act_gives cmd refl k h
