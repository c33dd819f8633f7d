-- Each actor's next entry can be read, as far as it doesn't show bytes.
use Rattle.std.proofs.Common.{◌≡◌, ℕ, ◌+◌, ◌<◌, ◌≤◌, ◌^◌, Bool, true, false, [], length, Option, Some, None, Ok, Err, IsTrue, refl, sym, subst, ap, ◌∙◌, arith, inl, inr}
use Rattle.std.specs.Prelude.{slice_get, unwrap_or, not, nat_lt, ◌==◌, ◌&&◌, if◌then◌else◌}
use Rattle.std.specs.List.{list_all}
use Rattle.std.proofs.lemmas.Bool.{lt-ltb, ltb-true, and_parts, eqb-true, false≢true}
use Rattle.std.proofs.lemmas.Bool.Decides.{nat_tests}
use Rattle.ttm_base.specs.declared.Mem.{Mem}
use Rattle.ttm_base.specs.declared.Mem.TheVariants.{System, Tt, Vram}
use Rattle.ttm_base.specs.declared.BufId.{BufId}
use Rattle.ttm_base.specs.declared.JobId.{JobId}
use Rattle.ttm_base.specs.declared.Stamp.{Stamp}
use Rattle.ttm_base.specs.declared.Loc.TheVariants as loc
use Rattle.ttm_base.specs.declared.Actor.{Actor}
use Rattle.ttm_base.specs.declared.Actor.TheVariants as actor
use Rattle.ttm_base.specs.declared.Deny.TheVariants as deny
use Rattle.ttm_base.specs.declared.Need.{Need}
use Rattle.ttm_base.specs.declared.Need.TheVariants as need
use Rattle.ttm_base.specs.Placement.{forced_places}
use Rattle.journal_model.specs.declared.script.Script.{Script}
use Rattle.journal_model.specs.declared.script.Command.{Command}
use Rattle.journal_model.specs.declared.script.Command.TheVariants as command
use Rattle.journal_model.specs.declared.state.State.{State}
use Rattle.journal_model.specs.declared.state.Buffer.{Buffer}
use Rattle.journal_model.specs.declared.state.Victim.{Victim}
use Rattle.journal_model.specs.declared.state.Job.{Job}
use Rattle.journal_model.specs.declared.state.Ghost.{Ghost}
use Rattle.journal_model.specs.declared.state.SearchAim.{SearchAim}
use Rattle.journal_model.specs.declared.state.SearchAim.TheVariants as aims
use Rattle.journal_model.specs.declared.state.Task.{Task}
use Rattle.journal_model.specs.declared.state.Task.TheVariants as task
use Rattle.journal_model.specs.declared.entry.Kind.{Kind}
use Rattle.journal_model.specs.declared.entry.Kind.TheVariants as kind
use Rattle.journal_model.specs.declared.entry.Left.TheVariants as left
use Rattle.journal_model.specs.declared.entry.Shown.{Shown}
use Rattle.journal_model.specs.declared.entry.Shown.TheVariants as shown
use Rattle.journal_model.specs.rules.State.{buffer, reservation, course, is_live, live_in, new_buffer}
use Rattle.journal_model.specs.rules.Commands.{decl, named, command_at_work}
use Rattle.journal_model.specs.scripts.CommandRules.{is_between, is_command, is_declared, is_op}
use Rattle.journal_model.specs.scripts.ScriptRules.{is_script}
use Rattle.journal_model.specs.rules.Dry.{has_frame}
use Rattle.journal_model.specs.rules.Holds.{size_of, held_frames, held_slots, free_frame, free_slot}
use Rattle.journal_model.specs.rules.Places.{is_frame, loc_of}
use Rattle.journal_model.specs.rules.Ready.{is_ready, first_unready}
use Rattle.journal_model.specs.rules.Waits.{waited_for, jobs_before_read, jobs_before_write}
use Rattle.journal_model.specs.rules.Search.{Step, PlaceSearch, place_search, is_caught, through_tt, step_of_place_search}
use Rattle.journal_model.specs.rules.PageSteps.{unless_waiting, once_idle, page_to_fill, first_frame_page, next_job, next_ghost}
use Rattle.journal_model.specs.rules.Next.{next, head_of, step_of_act, step_of_job, step_of_task}
use Rattle.journal_model.specs.scripts.Readable.{is_dry_why, is_kind, is_left, is_shown, is_some_actor, is_span, is_u32, is_u64}
use Rattle.laws.proofs.law_state.JournalCourses.{thread_is_there}
use Rattle.laws.specs.law_state.GoodState.{GoodState}
use Rattle.laws.specs.law_state.Counters.{Below}
use Rattle.laws.proofs.law_state.JobNames.{found_at}
use Rattle.laws.proofs.law_state.Rules.{Rules, rules_of, at_work_rules, declared_pages}
use Rattle.laws.proofs.law_state.GoodStates.{table_pages}
use Rattle.laws.proofs.law_state.Courses.{place_search_dry}
use Rattle.laws.specs.law_sound.Sound.{Has, Sound}
use Rattle.laws.proofs.law_sound.Bufs.{has_found, last_caught, none_missing}
use Rattle.laws.proofs.law_sound.Reservations.{live_within, victim_free, swap_free}
use Rattle.laws.proofs.law_sound.Orders.{there}
use Rattle.laws.proofs.law_sound.Along.{stepped_of}
use Rattle.laws.proofs.law_sound.Turns.{Turn, OnVictim, OnNamed, OnBuffer, victim_unbind, victim_empty, victim_give, victim_skip, victim_move, victim_fill, victim_search, give, fill_in_place, ask, bind, fill_to_bind, hop_up, unbind, move_up, move_across, move_down, fill_to_move, hop_down}
use Rattle.laws.proofs.law_sound.Gifts as gifts
use Rattle.laws.proofs.law_sound.Gifts.{Gives, SearchOutcome, Filled}
use Rattle.laws.proofs.law_owners.Taken.{lowest_is_free}
use Rattle.laws.proofs.lemma_end_searches.Searches.{few_asked}
use Rattle.law_legal.proofs.law_readable.Tests.{joint, u32, u64, all_got, position_most}
use Rattle.law_legal.proofs.law_readable.Choices.{choice_spans}
use Rattle.law_legal.proofs.law_readable.Typed.{Typed, IsTyped, is_loc, fresh_typed}
use Rattle.law_legal.proofs.law_readable.Whys.{place_search_why}

-- what is known of a state after n entries
pub record Known (script : Script) (s : State) (n : ℕ) : Type 0 where
  pub good : GoodState script s
  pub sound : Sound script s
  pub typed : Typed s
  pub below : Below n s
  pub short : n + 1 < 2 ^ 64

-- ---- steps told apart

one_kind : (k l : Kind) → ◌≡◌ {A = Step} (Ok k) (Ok l) → k ≡ l
one_kind k l h = cc

one_shown : (x r : Shown) → ◌≡◌ {A = Step} (Ok (kind.Result x)) (Ok (kind.Result r)) → x ≡ r
one_shown x r h = cc

need_not_kind : (n : Need) (k : Kind) → ◌≡◌ {A = Step} (Err n) (Ok k) → ⊥
need_not_kind n k h = cc

abbrev is_result : Kind → Bool
is_result (kind.Result r) = true
is_result k = false

other_kind : (k : Kind) (r : Shown) → is_result k ≡ false → ◌≡◌ {A = Step} (Ok k) (Ok (kind.Result r)) → ⊥
other_kind k r other h = false≢true (sym other ∙ ap is_result (one_kind k (kind.Result r) h))

-- ---- sizes

pub record Sizes (script : Script) : Type 0 where
  pub vram : script.sizes.vram ≤ 16384
  pub tt : script.sizes.tt ≤ 16384
  pub frames : script.sizes.frames ≤ 16384
  pub swap : script.sizes.swap ≤ 32768
  pub engines : script.sizes.engines ≤ 8
  pub threads : length script.threads ≤ 16

pub sizes_of : (script : Script) → IsTrue (is_script script) → Sizes script
sizes_of script h = record {
  vram = grind (arith, nat_tests);
  tt = grind (arith, nat_tests);
  frames = grind (arith, nat_tests);
  swap = grind (arith, nat_tests);
  engines = grind (arith, nat_tests);
  threads = grind (arith, nat_tests);
}

-- the buffer of a task that carries, fills or empties one is declared
abbrev names_declared : Script → Task → Bool
names_declared script (task.Search b aim) = is_declared script b
names_declared script (task.Bind b) = is_declared script b
names_declared script (task.Unbind b) = is_declared script b
names_declared script (task.Move b mem) = is_declared script b
names_declared script (task.Fill b) = is_declared script b
names_declared script (task.Empty b) = is_declared script b
names_declared script (task.GiveBack b) = is_declared script b
names_declared script (task.Skip b) = is_declared script b
names_declared script _ = true

module _ (script : Script) (fits : IsTrue (is_script script)) (s : State) (n : ℕ) (known : Known script s n) where
  rules : Rules script
  rules = rules_of script fits

  sizes : Sizes script
  sizes = sizes_of script fits

  few_pages : (mem : Mem) → size_of script mem < 2 ^ 32
  few_pages System = omega arith
  few_pages Tt = let l = sizes.tt in omega (arith, l)
  few_pages Vram = let l = sizes.vram in omega (arith, l)

  -- ---- buffers

  live_declared : (b : BufId) → is_live s b ≡ true → is_declared script b ≡ true
  live_declared b h =
      let l = live_within s.core.buffers b.0 h in
      let many = known.good.many in
      lt-ltb b.0 (length script.buffers) (omega (arith, l, many))

  has_declared : (t : ℕ) (b : BufId) → Has s t b → is_declared script b ≡ true
  has_declared t b h = let r = known.sound.owned.held t b h in live_declared b r.1

  buffer_typed : (b : BufId) → IsTyped (buffer s b)
  buffer_typed b = by (live_in s.core.buffers b) (known.typed.buffers b)
    where
      by : (o : Option Buffer) → ((x : Buffer) → o ≡ Some x → IsTyped x) → IsTyped (unwrap_or o (new_buffer 0))
      by None h = fresh_typed 0
      by (Some x) h = h x refl

  table_few : (b : BufId) → length (buffer s b).table ≤ 4096
  table_few b = by (live_in s.core.buffers b) (λ x e. (table_pages script rules s known.good b x e).1)
    where
      by : (o : Option Buffer) → ((x : Buffer) → o ≡ Some x → length x.table ≤ 4096) → length (unwrap_or o (new_buffer 0)).table ≤ 4096
      by None h = omega arith
      by (Some x) h = h x refl

  page_fits : (b : BufId) (page : ℕ) → page ≤ length (buffer s b).table → is_u32 page ≡ true
  page_fits b page h = let l = table_few b in u32 page (omega (arith, h, l))

  fill_fits : (b : BufId) → is_u32 (page_to_fill (buffer s b)) ≡ true
  fill_fits b = page_fits b (page_to_fill (buffer s b)) (position_most (λ l. not (is_frame l)) (buffer s b).table)

  frame_page_fits : (b : BufId) → is_u32 (first_frame_page (buffer s b)) ≡ true
  frame_page_fits b = page_fits b (first_frame_page (buffer s b)) (position_most is_frame (buffer s b).table)

  frame_fits : (f : ℕ) → free_frame script s.core ≡ Some f → is_u32 f ≡ true
  frame_fits f e = let l = (lowest_is_free (held_frames s.core) script.sizes.frames f e).1 in let few = sizes.frames in u32 f (omega (arith, l, few))

  slot_fits : (k : ℕ) → free_slot script s.core ≡ Some k → is_u32 k ≡ true
  slot_fits k e = let l = (lowest_is_free (held_slots s.core) script.sizes.swap k e).1 in let few = sizes.swap in u32 k (omega (arith, l, few))

  -- a slot that a table has
  old_slot_fits : (b : BufId) (page k : ℕ) → loc_of (buffer s b) page ≡ loc.Slot k → is_u32 k ≡ true
  old_slot_fits b page k e = subst (λ l. is_loc l ≡ true) e (all_got is_loc (buffer s b).table page loc.Zero refl (buffer_typed b).table)

  -- ---- counters

  drawn : (b : BufId) (st : Stamp) → (reservation s b).holder ≡ Some st → is_u64 st.0 ≡ true
  drawn b st e =
      let r = known.sound.owned.holder b st e in
      let l = known.sound.owned.below r.0 st r.1 in
      let m = known.below.stamps in
      let few = known.short in
      u64 st.0 (omega (arith, l, m, few))

  stamp_fits : is_u64 (s.last_stamp + 1) ≡ true
  stamp_fits = let m = known.below.stamps in let few = known.short in u64 (s.last_stamp + 1) (omega (arith, m, few))

  job_fits : (ctx : ℕ) → is_u64 (next_job s ctx) ≡ true
  job_fits ctx = let m = known.below.jobs ctx in let few = known.short in u64 (next_job s ctx) (omega (arith, m, few))

  ghost_fits : is_u64 (next_ghost s) ≡ true
  ghost_fits = let m = known.below.ghosts in let few = known.short in u64 (next_ghost s) (omega (arith, m, few))

  left_fits : (q : Bool) → is_left (if q then left.Now else left.Ghost (next_ghost s)) ≡ true
  left_fits true = refl
  left_fits false = ghost_fits

  freed_fits : (q : Bool) → is_u64 (if q then 0 else next_ghost s) ≡ true
  freed_fits true = refl
  freed_fits false = ghost_fits

  -- ---- threads

  module _ (t : ℕ) (cmd : Command) (at : command_at_work script s t ≡ Some cmd) where
    command_fits : is_command script cmd ≡ true
    command_fits = (at_work_rules script rules s t cmd at).command

    victim_declared : (v : Victim) → OnVictim (course s t) cmd v → is_declared script v.b ≡ true
    victim_declared v on = has_declared t v.b (inr (last_caught (course s t) v on.last))

    first_declared : (b : BufId) → OnNamed s (course s t) cmd → first_unready script s cmd ≡ Some b → is_declared script b ≡ true
    first_declared b on f = has_declared t b (inl (none_missing (course s t) cmd b on.works.whole (has_found (λ b. not (is_ready script s cmd b)) (named cmd) b f)))

    at_declared : (b : BufId) → OnBuffer script s (course s t) cmd b → is_declared script b ≡ true
    at_declared b on = first_declared b on.named on.first

    turn_declared : (x : Task) → Turn script s (course s t) cmd x → names_declared script x ≡ true
    turn_declared x (victim_unbind v on h) = victim_declared v on
    turn_declared x (victim_empty v on h e) = victim_declared v on
    turn_declared x (victim_give v d on i f g) = victim_declared v on
    turn_declared x (victim_skip v d on i f g) = victim_declared v on
    turn_declared x (victim_move v on i f g q) = victim_declared v on
    turn_declared x (victim_fill v on i f g q) = victim_declared v on
    turn_declared x (victim_search v on i f g) = victim_declared v on
    turn_declared x (give {b} d on a f u g) = first_declared b on u
    turn_declared x (fill_in_place {b} on i) = at_declared b on
    turn_declared x (ask {b} on g) = at_declared b on.on
    turn_declared x (bind {b} on g q) = at_declared b on.on.on
    turn_declared x (fill_to_bind {b} on g q) = at_declared b on.on.on
    turn_declared x (hop_up {b} on g) = at_declared b on.on.on
    turn_declared x (unbind {b} on g) = at_declared b on.on.on
    turn_declared x (move_up {b} on g) = at_declared b on.on.on
    turn_declared x (move_across {b} on g) = at_declared b on.on.on
    turn_declared x (move_down {b} on g q r) = at_declared b on.on.on
    turn_declared x (fill_to_move {b} on g q r) = at_declared b on.on.on
    turn_declared x (hop_down {b} on g q) = at_declared b on.on.on
    turn_declared x it = refl

    -- ---- searches

    pages_some : (b : BufId) → is_declared script b ≡ true → 0 < (decl script b).pages
    pages_some b h = let l = (declared_pages script rules b (ltb-true b.0 (length script.buffers) h)).some in omega (arith, l)

    few_forced : (b : BufId) (aim : SearchAim) → length (forced_places (place_search script cmd (course s t) b aim).list) ≤ 8
    few_forced b aims.Asked = few_asked script rules cmd b
    few_forced b aims.Hop = by (is_caught (course s t) b) (record { list = through_tt; forced = false; dry = 0 }) (record { list = through_tt; forced = (course s t).forced; dry = (course s t).dry }) (omega arith) (omega arith)
      where
        by : (q : Bool) (x y : PlaceSearch) → length (forced_places x.list) ≤ 8 → length (forced_places y.list) ≤ 8 → length (forced_places (if q then x else y).list) ≤ 8
        by true x y h k = h
        by false x y h k = k

    sought_fits : (b : BufId) (aim : SearchAim) (k : Kind) → is_declared script b ≡ true → step_of_place_search script s (course s t) b (place_search script cmd (course s t) b aim) ≡ Ok k
        → SearchOutcome script s (course s t) b (place_search script cmd (course s t) b aim) k → is_kind script k ≡ true
    sought_fits b aim k here step (gifts.finds place {mem} {spans} p m e) =
        joint (is_declared script b) (list_all is_span spans) here (choice_spans script rules few_pages s.core b place spans (pages_some b here) e)
    sought_fits b aim k here step (gifts.evicts place {v} {w} p n e f) = live_declared v (victim_free script s (course s t).skips place v f).live
    sought_fits b aim k here step (gifts.dries place {w} p n) =
        let few = few_forced b aim in
        let below = ltb-true _ _ (place_search_dry script s (course s t) b (place_search script cmd (course s t) b aim) k step) in
        joint (is_declared script b && is_u32 (place_search script cmd (course s t) b aim).dry) (is_dry_why script w)
        (joint (is_declared script b) (is_u32 (place_search script cmd (course s t) b aim).dry) here (u32 _ (omega (arith, few, below))))
        (place_search_why script s drawn known.good.many (course s t) b (place_search script cmd (course s t) b aim) k step)

    filled_fits : (b : BufId) (k : Kind) → is_declared script b ≡ true → Filled script s b k → is_kind script k ≡ true
    filled_fits b k here (gifts.fresh {frame} f l) =
        joint (is_declared script b && is_u32 (page_to_fill (buffer s b))) (is_u32 frame) (joint (is_declared script b) (is_u32 (page_to_fill (buffer s b))) here (fill_fits b)) (frame_fits frame f)
    filled_fits b k here (gifts.again {f = old} {frame} f l) =
        joint (is_declared script b && is_u32 (page_to_fill (buffer s b))) (is_u32 frame) (joint (is_declared script b) (is_u32 (page_to_fill (buffer s b))) here (fill_fits b)) (frame_fits frame f)
    filled_fits b k here (gifts.back {slot} {frame} f l) =
        joint (is_declared script b && is_u32 (page_to_fill (buffer s b)) && is_u32 slot) (is_u32 frame)
        (joint (is_declared script b && is_u32 (page_to_fill (buffer s b))) (is_u32 slot) (joint (is_declared script b) (is_u32 (page_to_fill (buffer s b))) here (fill_fits b)) (old_slot_fits b (page_to_fill (buffer s b)) slot l))
        (frame_fits frame f)
    filled_fits b k here (gifts.evicts_for_swap {slot} {v} f e) = live_declared v (swap_free s v e).live
    filled_fits b k here (gifts.nothing f) = here

    swapped_fits : (b : BufId) (slot : ℕ) → is_declared script b ≡ true → free_slot script s.core ≡ Some slot → is_kind script (kind.SwapOut b (first_frame_page (buffer s b)) slot) ≡ true
    swapped_fits b slot here f =
        joint (is_declared script b && is_u32 (first_frame_page (buffer s b))) (is_u32 slot) (joint (is_declared script b) (is_u32 (first_frame_page (buffer s b))) here (frame_page_fits b)) (slot_fits slot f)

    -- ---- acting

    -- what is shown once no job is waited for
    waited_shown : (o : Option JobId) (x : Shown) (r : Shown) → is_shown x ≡ true → unless_waiting o (kind.Result x) ≡ Ok (kind.Result r) → is_shown r ≡ true
    waited_shown None x r h g = subst (λ r. is_shown r ≡ true) (one_shown x r g) h
    waited_shown (Some i) x r h g = absurd (need_not_kind (need.Fence i) (kind.Result r) g)

    result_shown : (x : Shown) (r : Shown) → is_shown x ≡ true → ◌≡◌ {A = Step} (Ok (kind.Result x)) (Ok (kind.Result r)) → is_shown r ≡ true
    result_shown x r h g = waited_shown None x r h g

    act_shown : (r : Shown) (x : Command) → step_of_act script s x ≡ Ok (kind.Result r) → is_shown r ≡ true
    act_shown r (command.Find b) g = result_shown _ r (buffer_typed b).spans g
    act_shown r (command.Write b off bytes) g = waited_shown (waited_for s.core (jobs_before_write (buffer s b))) shown.Plain r refl g
    act_shown r (command.Read b off len) g = waited_shown (waited_for s.core (jobs_before_read (buffer s b))) (shown.Read []) r refl g
    act_shown r (command.SwapOut b) g = by_frame (has_frame (buffer s b)) g
      where
        by_idle : (o : Option JobId) (slot : ℕ) → unless_waiting o (kind.SwapOut b (first_frame_page (buffer s b)) slot) ≡ Ok (kind.Result r) → is_shown r ≡ true
        by_idle None slot h = absurd (other_kind _ r refl h)
        by_idle (Some i) slot h = absurd (need_not_kind (need.Fence i) (kind.Result r) h)

        by_slot : (o : Option ℕ) → ◌≡◌ {A = Step} (elim o [ None ↦ Ok (kind.Refused deny.NoSwap) | Some slot ↦ once_idle s.core b (kind.SwapOut b (first_frame_page (buffer s b)) slot) ]) (Ok (kind.Result r)) → is_shown r ≡ true
        by_slot None h = absurd (other_kind _ r refl h)
        by_slot (Some slot) h = by_idle (waited_for s.core (jobs_before_write (buffer s b))) slot h

        by_frame : (q : Bool) → ◌≡◌ {A = Step} (elim q [
          | false ↦ Ok (kind.Result shown.Plain)
          | true ↦ elim (free_slot script s.core) [ None ↦ Ok (kind.Refused deny.NoSwap) | Some slot ↦ once_idle s.core b (kind.SwapOut b (first_frame_page (buffer s b)) slot) ]
        ]) (Ok (kind.Result r)) → is_shown r ≡ true
        by_frame false h = result_shown shown.Plain r refl h
        by_frame true h = by_slot (free_slot script s.core) h
    act_shown r (command.New b) g = result_shown shown.Plain r refl g
    act_shown r (command.Free b) g = absurd (other_kind _ r refl g)
    act_shown r (command.Pin b) g = result_shown shown.Plain r refl g
    act_shown r (command.Unpin b) g = result_shown shown.Plain r refl g
    act_shown r (command.Move b mem) g = result_shown shown.Plain r refl g
    act_shown r (command.Touch group) g = result_shown shown.Plain r refl g
    act_shown r (command.Submit engine ops) g = absurd (other_kind _ r refl g)

    group_fits : (group : ℕ) → is_command script (command.Touch group) ≡ true → is_u32 group ≡ true
    group_fits group h = u32 group (let l : group ≤ 15 = grind (arith, nat_tests) in omega (arith, l))

    engine_fits : (engine : ℕ) (ops : _) → is_command script (command.Submit engine ops) ≡ true → is_u32 engine ≡ true
    engine_fits engine ops h =
        let p = and_parts (is_between 1 script.sizes.engines engine && is_between 1 64 (length ops)) (list_all (is_op script) ops) (and_parts (is_between 1 script.sizes.engines engine && is_between 1 64 (length ops) && list_all (is_op script) ops) _ h).0 in
        let few = sizes.engines in
        u32 engine (let l : engine ≤ script.sizes.engines = at_most engine script.sizes.engines (and_parts (is_between 1 script.sizes.engines engine) (is_between 1 64 (length ops)) p.0).0 in omega (arith, l, few))
      where
        at_most : (e m : ℕ) → is_between 1 m e ≡ true → e ≤ m
        at_most e m h = grind (arith, nat_tests)

    -- ---- each task

    task_fits : (x : Task) (k : Kind) → names_declared script x ≡ true → step_of_task script s (course s t) cmd x ≡ Ok k → Gives script s (course s t) cmd x k → is_kind script k ≡ true
    task_fits x k here step (gifts.makes {b} e l) = subst (λ c. is_command script c ≡ true) e command_fits
    task_fits x k here step (gifts.shifts {group} e) = group_fits group (subst (λ c. is_command script c ≡ true) e command_fits)
    task_fits x k here step (gifts.draws l) = stamp_fits
    task_fits x k here step (gifts.reserves {b} l h) = live_declared b l
    task_fits x k here step (gifts.backs {b} {st} l h q) = joint (is_declared script b) (is_u64 st.0) (live_declared b l) (drawn b st h)
    task_fits x k here step (gifts.seeks {b} {aim} sought) = sought_fits b aim k here step sought
    task_fits x k here step (gifts.binds {b}) = here
    task_fits x k here step (gifts.unbinds {b} i) = here
    task_fits x k here step (gifts.moves {b} {mem}) =
        joint (is_declared script b && is_u64 (next_job s 0)) (is_left (if is_caught (course s t) b then left.Now else left.Ghost (next_ghost s)))
        (joint (is_declared script b) (is_u64 (next_job s 0)) here (job_fits 0)) (left_fits (is_caught (course s t) b))
    task_fits x k here step (gifts.fills {b} filled) = filled_fits b k here filled
    task_fits x k here step (gifts.lets_go {b}) = here
    task_fits x k here step (gifts.empties {b} {slot} w f e) = swapped_fits b slot here e
    task_fits x k here step (gifts.depopulates {b} m f) = here
    task_fits x k here step (gifts.untakes {b} h) = here
    task_fits x k here step (gifts.skips {b}) = here
    task_fits x k here step (gifts.arms {engine} ops e) =
        joint (is_u32 engine) (is_u64 (next_job s engine)) (engine_fits engine ops (subst (λ c. is_command script c ≡ true) e command_fits)) (job_fits engine)
    task_fits x k here step (gifts.frees {b} {g} e q) =
        joint (is_declared script b) (is_u64 g) (subst (λ c. is_command script c ≡ true) e command_fits) (subst (λ g. is_u64 g ≡ true) (sym q) (freed_fits _))
    task_fits x k here step (gifts.swaps {b} {slot} e f g) = swapped_fits b slot (subst (λ c. is_command script c ≡ true) e command_fits) g
    task_fits x k here step (gifts.acts {r}) = act_shown r cmd step
    task_fits x k here step it = refl

  thread_fits : (t : ℕ) (k : Kind) → next script s (actor.Thread t) ≡ Ok k → is_kind script k ≡ true
  thread_fits t k h =
      let st = stepped_of script s t k known.sound.owned.courses h in
      task_fits t st.step.cmd st.step.at_work st.step.task k (turn_declared t st.step.cmd st.step.at_work st.step.task st.turn) st.step.step st.gives

  thread_is : (t : ℕ) (k : Kind) → next script s (actor.Thread t) ≡ Ok k → is_u32 t ≡ true
  thread_is t k h =
      let l = (there s.courses t (thread_is_there script s t k h)).1 in
      let many = known.sound.owned.courses in
      let few = sizes.threads in
      u32 t (omega (arith, l, many, few))

  -- ---- engines and the reaper

  -- an entry once no job is waited for
  waited_fits : (o : Option JobId) (k l : Kind) → is_kind script k ≡ true → unless_waiting o k ≡ Ok l → is_kind script l ≡ true
  waited_fits None k l h g = subst (λ k. is_kind script k ≡ true) (one_kind k l g) h
  waited_fits (Some i) k l h g = absurd (need_not_kind (need.Fence i) l g)

  engine_says : (e : ℕ) (k : Kind) → next script s (actor.Engine e) ≡ Ok k → (is_u32 e ≡ true) × (is_kind script k ≡ true)
  engine_says e k h = by_head (head_of s e) refl h
    where
      number : (i : ℕ) (j : Job) → slice_get s.core.jobs i ≡ Some j → is_u64 j.id.num ≡ true
      number i j q =
          let l = known.good.jobs.numbers i j q in
          let m = known.below.jobs j.id.ctx in
          let few = known.short in
          u64 j.id.num (omega (arith, l, m, few))

      ran : (i : ℕ) (j : Job) → slice_get s.core.jobs i ≡ Some j → is_u32 j.ran ≡ true
      ran i j q =
          let l = known.good.jobs.ran i j q in
          let few = known.good.jobs.few i j q in
          u32 j.ran (omega (arith, l, few))

      by_left : (i : ℕ) (j : Job) → slice_get s.core.jobs i ≡ Some j → (q : Bool) →
          ◌≡◌ {A = Step} (elim q [ true ↦ unless_waiting (waited_for s.core j.waits) (kind.Packet j.id.num j.ran []) | false ↦ Ok (kind.Done j.id.num) ]) (Ok k) → is_kind script k ≡ true
      by_left i j q true g =
          waited_fits (waited_for s.core j.waits) (kind.Packet j.id.num j.ran []) k
          (joint (is_u64 j.id.num && is_u32 j.ran) true (joint (is_u64 j.id.num) (is_u32 j.ran) (number i j q) (ran i j q)) refl) g
      by_left i j q false g = waited_fits None (kind.Done j.id.num) k (number i j q) g

      context : (i : ℕ) (j : Job) → slice_get s.core.jobs i ≡ Some j → j.id.ctx ≡ e → is_u32 e ≡ true
      context i j q same =
          let l = known.good.jobs.contexts i j q in
          let few = sizes.engines in
          u32 e (omega (arith, l, few, same))

      by_head : (o : Option Job) → head_of s e ≡ o → ◌≡◌ {A = Step} (elim o [ None ↦ Err need.NoJob | Some j ↦ step_of_job s j ]) (Ok k) → (is_u32 e ≡ true) × (is_kind script k ≡ true)
      by_head None q g = absurd (need_not_kind need.NoJob k g)
      by_head (Some j) q g =
          let f = found_at (λ j. (j.id.ctx == e) && not j.finished) s.core.jobs j q in
          (context f.0 j f.1 (eqb-true j.id.ctx e (and_parts (j.id.ctx == e) (not j.finished) f.2).0), by_left f.0 j f.1 (nat_lt j.ran (length j.packets)) g)

  reaper_fits : (k : Kind) → next script s actor.Reaper ≡ Ok k → is_kind script k ≡ true
  reaper_fits k h = by (slice_get s.core.ghosts 0) (known.typed.ghosts 0) h
    where
      by : (o : Option Ghost) → ((g : Ghost) → o ≡ Some g → g.num ≤ s.last_ghost) →
          ◌≡◌ {A = Step} (elim o [ None ↦ Err need.NoGhost | Some g ↦ unless_waiting (waited_for s.core g.jobs) (kind.Reap g.num) ]) (Ok k) → is_kind script k ≡ true
      by None l e = absurd (need_not_kind need.NoGhost k e)
      by (Some g) l e =
          let m = l g refl in
          let b = known.below.ghosts in
          let few = known.short in
          waited_fits (waited_for s.core g.jobs) (kind.Reap g.num) k (u64 g.num (omega (arith, m, b, few))) e

  -- ---- any actor

  pub next_fits : (who : Actor) (k : Kind) → next script s who ≡ Ok k → (is_some_actor who ≡ true) × (is_kind script k ≡ true)
  next_fits (actor.Thread t) k h = (thread_is t k h, thread_fits t k h)
  next_fits (actor.Engine e) k h = engine_says e k h
  next_fits actor.Reaper k h = (refl, reaper_fits k h)
