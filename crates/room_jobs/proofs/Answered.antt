-- All parts after an answer.
use Rattle.std.proofs.Common.{◌≡◌, ℕ, ◌+◌, ◌*◌, ◌^◌, ◌<◌, ◌≤◌, true, false, List, [], ◌∷◌, ◌++◌, inl, Option, Some, None, Ok, IsSome, length, refl, sym, ◌∙◌, ap, subst, arith}
use Rattle.std.specs.Prelude.{◌==◌, fold, option_and_then, option_map, slice_get, unwrap_or, if◌then◌else◌}
use Rattle.std.proofs.lemmas.Bool.Decides.{nat_tests}
use Rattle.std.proofs.lemmas.List.{length-set}
use Rattle.ttm_base.specs.declared.Actor.{Actor}
use Rattle.ttm_base.specs.declared.Actor.TheVariants as actor
use Rattle.ttm_base.specs.declared.BufId.{BufId}
use Rattle.ttm_base.specs.declared.Deny.TheVariants as deny
use Rattle.ttm_base.specs.Pages.{PageBytes, slot}
use Rattle.bo_table.specs.Seen.{Bos}
use Rattle.bo_table.proofs.TableLaws.{get_map}
use Rattle.copy_packet.specs.declared.stores.Stores.{Stores}
use Rattle.copy_packet.specs.StoreBytes.{IsThere as HasPageOf}
use Rattle.lru_bulk.specs.Lists.{IsGroup, Order}
use Rattle.lru_bulk.specs.Members.{AreMembersListed}
use Rattle.journal_model.specs.declared.script.Script.{Script}
use Rattle.journal_model.specs.declared.script.Command.{Command}
use Rattle.journal_model.specs.declared.script.Command.TheVariants as command
use Rattle.journal_model.specs.declared.state.State.{State}
use Rattle.journal_model.specs.declared.state.Buffer.{Buffer}
use Rattle.journal_model.specs.declared.state.Course.{Course}
use Rattle.journal_model.specs.declared.state.Reservation.{Reservation}
use Rattle.journal_model.specs.declared.state.Task.{Task}
use Rattle.journal_model.specs.declared.entry.Entry.{Entry}
use Rattle.journal_model.specs.declared.entry.Kind.{Kind}
use Rattle.journal_model.specs.declared.entry.Kind.TheVariants as kind
use Rattle.journal_model.specs.declared.entry.Shown.{Shown}
use Rattle.journal_model.specs.rules.State.{buffer, course, reservation, reservation_in, has_buffer, live_in, new_buffer}
use Rattle.journal_model.specs.rules.ApplyCommands.{held_as_named, on_to_next, released, with_pins}
use Rattle.journal_model.specs.rules.Commands.{command_at_work, decl, named}
use Rattle.journal_model.specs.scripts.CommandRules.{is_command}
use Rattle.journal_model.specs.rules.Holds.{held_slots}
use Rattle.journal_model.specs.rules.Lists.{touched}
use Rattle.journal_model.specs.rules.Next.{next}
use Rattle.journal_model.specs.rules.Places.{aperture, page_at}
use Rattle.journal_model.specs.rules.Stores.{put_bytes, showing, stores_after, written}
use Rattle.journal_model.specs.rules.Tasks.{forbidden}
use Rattle.journal_model.specs.rules.Legal.{World, IsLegalNext, state_of, stores_of, world_of, world_after}
use Rattle.laws.proofs.law_state.Shown.{legal_step}
use Rattle.laws.specs.law_state.Courses.{makes}
use Rattle.laws.specs.law_state.GoodState.{HasPages}
use Rattle.laws.proofs.law_state.GoodStates.{good_law}
use Rattle.laws.proofs.law_state.Pins.{HasPinLeft, courses_law, result_pins}
use Rattle.laws.proofs.law_state.Rules.{at_work_rules, rules_of}
use Rattle.laws.proofs.law_owners.Law.{once_law}
use Rattle.laws.proofs.law_sound.Along.{Stepped, sound_law, stepped_of}
use Rattle.laws.proofs.law_sound.Bufs.{has_new, none_missing}
use Rattle.laws.proofs.law_sound.Gifts.{Gives, answers, acts, seeks, fills}
use Rattle.laws.proofs.law_sound.Turns.{Turn, Works, answer, act}
use Rattle.laws.specs.lemma_bytes_told.Told.{IsThere}
use Rattle.room_representation.specs.lemma_bytes.Mapped.{HasStoresAfter}
use Rattle.room_representation.proofs.lemma_bytes.Places.{IsReached, page_there}
use Rattle.room_representation.proofs.lemma_bytes.Reached.{write_reached, write_ready}
use Rattle.room_representation.proofs.lemma_bytes.Writes.{result_stores, write_stores}
use Rattle.room_representation.proofs.lemma_jobs.Packets.{nothing_beyond}
use Rattle.room_representation.specs.lemma_lists.Listed.{AreListed, listing_as}
use Rattle.room_representation.proofs.lemma_lists.KindLaws.{released_unseen}
use Rattle.room_representation.proofs.lemma_lists.ScriptLaws.{may_be_listed}
use Rattle.room_representation.specs.declared.parts.Parts.{Parts}
use Rattle.room_representation.specs.Bos.{AreBos, unfenced}
use Rattle.room_representation.specs.Held.{AreHeld}
use Rattle.room_representation.specs.Pages.{AreStores}
use Rattle.room_representation.specs.Represents.{Represents}
use Rattle.state_words.proofs.Pins.{pins-released}
use Rattle.room_representation.specs.steps.Courses.{command_in, course_at, course_in, with_course_by}
use Rattle.room_representation.proofs.steps.Few.{few_commands}
use Rattle.room_representation.proofs.steps.Lent.{is_below, is_there, lent_below, stands_at}
use Rattle.room_representation.proofs.steps.Steps.{held_after}
use Rattle.room_jobs.specs.Bodies.{body_at}
use Rattle.room_jobs.specs.Listings.{AreRelisted, CanRelist}
use Rattle.room_jobs.specs.Writes.{CanWrite, HasWritten}
use Rattle.room_jobs.proofs.Put.{page_unfenced, put_unfenced, slots_kept, slots_put}
use Rattle.room_jobs.proofs.Relisted.{IsHeldFor, answered_lists}

-- ---- what a result tells

-- the step of a result shows a result, whatever bytes
result_step : (script : Script) (w : World) (who : Actor) (r : Shown) → IsLegalNext script w (record { who = who; kind = kind.Result r }) → (x : Shown) × (next script w.state who ≡ Ok (kind.Result x))
result_step script w who r legal =
    let it : Entry = record { who = who; kind = kind.Result r } in
    let st = legal_step script w it legal in
    by st.kind st.step (ap (λ (e : Entry). e.kind) st.entry)
  where
    by : (l : Kind) → next script w.state who ≡ Ok l → kind.Result r ≡ showing script w.stores w.state who l → (x : Shown) × (next script w.state who ≡ Ok (kind.Result x))
    by (kind.Result x) h g = (x, h)
    by (kind.Packet n k piece) h g = cc
    by l h g = cc

-- a command that makes nothing is answered where it works and may be asked
record IsActing (s : State) (c : Course) (cmd : Command) : Type 0 where
  works : Works c cmd
  allowed : forbidden s cmd ≡ None

-- so its thread's task tells
acting_in : (script : Script) (s : State) (c : Course) (cmd : Command) (x : Task) (r : Shown) → (c.made ≡ true → makes cmd ≡ true) → makes cmd ≡ false → Turn script s c cmd x → Gives script s c cmd x (kind.Result r) → IsActing s c cmd
acting_in script s c cmd _ r m n (answer made) answers = let z : true ≡ false = sym (m made) ∙ n in cc
acting_in script s c cmd _ r m n (act on a f u) acts = record { works = on.works; allowed = a }
acting_in script s c cmd _ r m n turn (seeks {aim = aim} k) = elim k [ ]
acting_in script s c cmd _ r m n turn (fills k) = elim k [ ]

-- a range of a write lies in its buffer and is short
record IsRange (pages off len : ℕ) : Type 0 where
  short : off + len < 2 ^ 32
  inside : off + len ≤ 4096 * pages

-- as the grammar says
write_range : (script : Script) (b : BufId) (off : ℕ) (values : List ℕ) → is_command script (command.Write b off values) ≡ true → IsRange (decl script b).pages off (length values)
write_range script b off values h = record { short = grind (arith, nat_tests); inside = grind (arith, nat_tests) }

-- an unpinned buffer has a pin
unpin_some : (s : State) (b : BufId) → forbidden s (command.Unpin b) ≡ None → 0 < (reservation s b).pins
unpin_some s b h = by (reservation s b).pins h
  where
    by : (n : ℕ) → ◌≡◌ {A = Option _} (if n == 0 then Some deny.NotPinned else None) None → 0 < n
    by n h = grind (arith, nat_tests)

-- letting go keeps how many buffers there are
length_released : (bs : List BufId) (reservations : List Reservation) → length (released reservations bs) ≡ length reservations
length_released [] reservations = refl
length_released (b ∷ bs) reservations = length_released bs _ ∙ length-set reservations b.0 _

-- ---- the entry

module _ (script : Script) (journal : List Entry) (p : Parts) (entry : Entry) (t : ℕ) (r : Shown) (held : AreHeld script journal p) (is : entry ≡ record { who = actor.Thread t; kind = kind.Result r }) (legal : IsLegalNext script (world_of script journal) entry) where
  abbrev s : State
  s = state_of script journal

  legal_as : IsLegalNext script (world_of script journal) (record { who = actor.Thread t; kind = kind.Result r })
  legal_as = subst (IsLegalNext script (world_of script journal)) is legal

  step : (x : Shown) × (next script s (actor.Thread t) ≡ Ok (kind.Result x))
  step = result_step script (world_of script journal) (actor.Thread t) r legal_as

  stepped : Stepped script s t (kind.Result step.0)
  stepped = stepped_of script s t (kind.Result step.0) (sound_law script journal held.fits held.legal).owned.courses step.1

  -- the thread is there, and at a command; its commands can be counted
  pub answer_there : IsSome (course_at p.courses t)
  answer_there = subst (λ (cs : List Course). IsSome (course_at cs t)) (sym held.represents.courses) stepped.here

  command_is : command_in script p.courses t ≡ Some stepped.step.cmd
  command_is = ap (λ cs. command_in script cs t) held.represents.courses ∙ stepped.at

  pub answer_command : IsSome (command_in script p.courses t)
  answer_command = subst (λ (o : Option Command). IsSome o) (sym command_is) refl

  pub answer_room : (course_in p.courses t).answered + 1 < 2 ^ 32
  answer_room =
      let few = few_commands script held.fits t in
      let inside = ((sound_law script journal held.fits held.legal).owned.steady t).answered in
      let same = ap (λ (cs : List Course). (course_in cs t).answered) held.represents.courses in
      omega (arith, few, inside, same)

  module _ (cmd : Command) (at : command_in script p.courses t ≡ Some cmd) where
    same_command : stepped.step.cmd ≡ cmd
    same_command = let both : Some stepped.step.cmd ≡ Some cmd = sym command_is ∙ at in cc

    at_work : command_at_work script s t ≡ Some cmd
    at_work = stepped.step.at_work ∙ ap Some same_command

    acting : makes cmd ≡ false → IsActing s (course s t) cmd
    acting =
        subst (λ (c : Command). makes c ≡ false → IsActing s (course s t) c) same_command
        (λ n. acting_in script s (course s t) stepped.step.cmd stepped.step.task step.0 ((courses_law script journal held.legal).makes t stepped.step.cmd stepped.at) n stepped.turn stepped.gives)

    -- a buffer that such a command names is held, and so live
    is_held : (b : BufId) → makes cmd ≡ false → has_buffer (named cmd) b ≡ true → has_buffer (course s t).held b ≡ true
    is_held b n h = none_missing (course s t) cmd b (acting n).works.whole h

    is_live : (b : BufId) → makes cmd ≡ false → has_buffer (named cmd) b ≡ true → IsThere s b
    is_live b n h = is_there s b ((sound_law script journal held.fits held.legal).owned.held t b (inl (is_held b n h))).1

  -- ---- live buffers in the table

  module _ (b : BufId) (live : IsThere s b) where
    in_table : live_in p.bos.buffers b ≡ Some (unfenced (buffer s b))
    in_table =
        ap (option_and_then (λ x. x))
        (ap (λ xs. slice_get xs b.0) held.represents.bos.buffers_are ∙ get_map (option_map unfenced) s.core.buffers b.0 ∙ ap (option_map (option_map unfenced)) (stands_at s.core.buffers b (buffer s b) live))

    body_is : body_at p.bos b ≡ unfenced (buffer s b)
    body_is = ap (λ (o : Option Buffer). unwrap_or o (new_buffer 0)) in_table

    is_body : live_in p.bos.buffers b ≡ Some (body_at p.bos b)
    is_body = in_table ∙ ap Some (sym body_is)

    below : b.0 < length s.core.buffers
    below = is_below s.core.buffers b.0 (Some (buffer s b)) (stands_at s.core.buffers b (buffer s b) live)

  -- ---- what the calls ask for

  pub answer_relists : (cmd : Command) → command_in script p.courses t ≡ Some cmd → (b : BufId) → cmd ≡ command.Unpin b → CanRelist script p.bos p.lru b
  answer_relists cmd at b e =
      let live = is_live (command.Unpin b) (at ∙ ap Some e) b refl (has_new [] b) in
      let inside = below b live in
      let many = (good_law script held.fits journal held.legal).many in
      let room = held.represents.lists.room_is in
      record {
        live = is_body b live;
        below = lent_below script journal p held b live;
        declared = omega (arith, inside, many);
        known = omega (arith, inside, room);
        absent = λ one.
            held.represents.lists.listings_are b
            ∙ ap (λ n. listing_as script b n (live_in s.core.buffers b)) (ap (λ (gs : List Reservation). (reservation_in gs b).pins) (sym held.represents.bos.reservations_are) ∙ one)
            ∙ ap (listing_as script b 1) live;
        prio = (may_be_listed script b held.fits).prio;
        group = subst (λ n. IsGroup n (decl script b).group) (sym held.represents.lists.groups_are) (may_be_listed script b held.fits).group;
      }

  table_long : (b : BufId) → IsThere s b → length (buffer s b).table ≡ (decl script b).pages
  table_long b live = subst (HasPages script b) live ((good_law script held.fits journal held.legal).tables b)

  -- each page that a write reaches is in VRAM or in a frame
  reached : (b : BufId) (off : ℕ) (values : List ℕ) → command_at_work script s t ≡ Some (command.Write b off values) → (i : ℕ) → 4096 * i < off + length values → IsReached (page_at (buffer s b) i)
  reached b off values work i l =
      let live = (write_ready script journal held.fits held.legal t r b off values legal_as work).live in
      let range = write_range script b off values (at_work_rules script (rules_of script held.fits) s t (command.Write b off values) work).command in
      let inside = range.inside in
      let long = table_long b live in
      write_reached script journal held.fits held.legal t r b off values legal_as work i (omega (arith, l, inside, long))

  pub answer_writes : (cmd : Command) → command_in script p.courses t ≡ Some cmd → (b : BufId) (off : ℕ) (values : List ℕ) → cmd ≡ command.Write b off values → CanWrite p.bos p.stores b off values
  answer_writes cmd at b off values e =
      let work = at_work (command.Write b off values) (at ∙ ap Some e) in
      let live = (write_ready script journal held.fits held.legal t r b off values legal_as work).live in
      record {
        live = is_body b live;
        below = lent_below script journal p held b live;
        short = (write_range script b off values (at_work_rules script (rules_of script held.fits) s t (command.Write b off values) work).command).short;
        pages = λ i l.
            let at_page = reached b off values work i l in
            subst (HasPageOf p.stores) (sym (ap (λ (x : Buffer). page_at x i) (body_is b live) ∙ page_unfenced (buffer s b) i))
            (page_there script s.core (once_law script journal held.fits held.legal) b i (aperture s.core) (stores_of script journal) p.stores held.represents.stores (page_at (buffer s b) i) refl at_page.within at_page.some);
      }

  pub answer_pins : (cmd : Command) (bos : Bos) → command_in script p.courses t ≡ Some cmd → bos ≡ record p.bos { reservations = released p.bos.reservations (course_in p.courses t).held } → (b : BufId) → cmd ≡ command.Pin b →
      (reservation_in bos.reservations b).pins < 255
  answer_pins cmd bos at g b e =
      let few : (reservation_in s.reservations b).pins < 255 = subst (HasPinLeft s.reservations) (at_work (command.Pin b) (at ∙ ap Some e)) (result_pins script s t step.0 (courses_law script journal held.legal) stepped.step) in
      let same : (reservation_in bos.reservations b).pins ≡ (reservation_in s.reservations b).pins =
      ap (λ (x : Bos). (reservation_in x.reservations b).pins) g ∙ pins-released p.bos.reservations (course_in p.courses t).held b ∙ ap (λ (gs : List Reservation). (reservation_in gs b).pins) held.represents.bos.reservations_are in
      omega (arith, few, same)

  -- ---- after it

  room_for : (b : BufId) → IsThere s b → b.0 < length (released s.reservations (course s t).held)
  room_for b live =
      let inside = below b live in
      let many = (sound_law script journal held.fits held.legal).owned.reservations in
      let same = length_released (course s t).held s.reservations in
      omega (arith, inside, many, same)

  is_held_for : (cmd : Command) → command_in script p.courses t ≡ Some cmd → IsHeldFor p.bos s.core.buffers (released s.reservations (course s t).held) (course s t).held cmd
  is_held_for (command.Pin b) at = (is_held (command.Pin b) at b refl (has_new [] b), room_for b (is_live (command.Pin b) at b refl (has_new [] b)))
  is_held_for (command.Unpin b) at =
      let live = is_live (command.Unpin b) at b refl (has_new [] b) in
      let pins = pins-released s.reservations (course s t).held b in (
        is_held (command.Unpin b) at b refl (has_new [] b),
        room_for b live,
        record {
          buffer = buffer s b;
          live = live;
          mem = ap (λ (x : Buffer). x.mem) (body_is b live);
          pins = ap (λ (gs : List Reservation). (reservation_in gs b).pins) held.represents.bos.reservations_are ∙ sym pins;
          some = subst (λ n. 0 < n) (sym pins) (unpin_some s b (acting (command.Unpin b) at refl).allowed);
          below = below b live;
        },
      )
  is_held_for cmd at = tt

  -- no slot gets other bytes
  slots_same : (cmd : Command) → command_in script p.courses t ≡ Some cmd → (k o : ℕ) → written s (Some cmd) (stores_of script journal) (slot k) o ≡ stores_of script journal (slot k) o
  slots_same (command.Write b off values) at k o = slots_put (buffer s b) off values (stores_of script journal) (λ i l. (reached b off values (at_work (command.Write b off values) at) i l).within) k o
  slots_same cmd at k o = refl

  -- the stores have the bytes after the answer
  unwritten : (cmd : Command) → command_in script p.courses t ≡ Some cmd → ((b : BufId) (off : ℕ) (values : List ℕ) → cmd ≡ command.Write b off values → ⊥) → (st : Stores) → st ≡ p.stores →
      HasStoresAfter script s (stores_of script journal) (actor.Thread t) (kind.Result r) st
  unwritten cmd at never st is =
      result_stores script s (stores_of script journal) (actor.Thread t) r st
      (λ b off values e. never b off values (let both : Some cmd ≡ Some (command.Write b off values) = sym (at_work cmd at) ∙ e in cc))
      (subst (λ x. AreStores script.sizes (aperture s.core) (stores_of script journal) x) (sym is) held.represents.stores)

  written_stores : (cmd : Command) → command_in script p.courses t ≡ Some cmd → (st : Stores) → HasWritten p.bos cmd p.stores st → HasStoresAfter script s (stores_of script journal) (actor.Thread t) (kind.Result r) st
  written_stores (command.Write b off values) at st h =
      let work = at_work (command.Write b off values) at in
      let live = (write_ready script journal held.fits held.legal t r b off values legal_as work).live in
      write_stores script s (stores_of script journal) (actor.Thread t) r st b off values work
      (subst (λ (x : PageBytes). AreStores script.sizes (aperture s.core) x st) (ap (λ x. put_bytes x off values (stores_of script journal)) (body_is b live) ∙ put_unfenced (buffer s b) off values (stores_of script journal))
      (h script.sizes (aperture s.core) (stores_of script journal) held.represents.stores))
  written_stores (command.New c) at st h = unwritten (command.New c) at (λ b off values e. cc) st h
  written_stores (command.Free c) at st h = unwritten (command.Free c) at (λ b off values e. cc) st h
  written_stores (command.Pin c) at st h = unwritten (command.Pin c) at (λ b off values e. cc) st h
  written_stores (command.Unpin c) at st h = unwritten (command.Unpin c) at (λ b off values e. cc) st h
  written_stores (command.Find c) at st h = unwritten (command.Find c) at (λ b off values e. cc) st h
  written_stores (command.SwapOut c) at st h = unwritten (command.SwapOut c) at (λ b off values e. cc) st h
  written_stores (command.Read c from len) at st h = unwritten (command.Read c from len) at (λ b off values e. cc) st h
  written_stores (command.Move c mem) at st h = unwritten (command.Move c mem) at (λ b off values e. cc) st h
  written_stores (command.Touch group) at st h = unwritten (command.Touch group) at (λ b off values e. cc) st h
  written_stores (command.Submit engine ops) at st h = unwritten (command.Submit engine ops) at (λ b off values e. cc) st h

  pub answer_held : (cmd : Command) (courses : List Course) (bos : Bos) (o : Order) (st : Stores) → command_in script p.courses t ≡ Some cmd → AreRelisted script p.bos (course_in p.courses t).held cmd p.lru o → HasWritten p.bos cmd p.stores st →
      bos ≡ record p.bos { reservations = with_pins (Some cmd) (released p.bos.reservations (course_in p.courses t).held) } → courses ≡ with_course_by on_to_next p.courses t → AreMembersListed p.lru →
      AreHeld script (journal ++ entry ∷ []) (record p { courses = courses; bos = bos; lru = o; stores = st })
  answer_held cmd courses bos o st at l w g c members =
      let world = world_of script journal in
      let represents = held.represents in
      let q : Parts = record p { courses = courses; bos = bos; lru = o; stores = st } in
      let work = at_work cmd at in
      let gs = released s.reservations (course s t).held in
      let table : bos ≡ record p.bos { reservations = with_pins (command_at_work script s t) (released s.reservations (course s t).held) } =
      g ∙ ap (λ (x : List Reservation). record p.bos { reservations = with_pins (Some cmd) (released x (course_in p.courses t).held) }) represents.bos.reservations_are
      ∙ ap (λ (cs : List Course). record p.bos { reservations = with_pins (Some cmd) (released s.reservations (course_in cs t).held) }) represents.courses
      ∙ ap (λ (a : Option Command). record p.bos { reservations = with_pins a (released s.reservations (course s t).held) }) (sym work) in
      let relisted = subst (λ (cs : List Course). AreRelisted script p.bos (course_in cs t).held cmd p.lru o) represents.courses l in
      let listed = answered_lists script s.core.buffers gs s.lists p.lru o p.bos (course s t) (released_unseen script s.core.buffers s.reservations s.lists p.lru (course s t).held represents.lists) members cmd (is_held_for cmd at) relisted in
      held_after script journal p q entry held legal
      (subst (λ (y : Entry). Represents script (world_after script world y).state (world_after script world y).stores q) (sym is)
      (record {
        bos = subst (λ x. AreBos script s.core.buffers (with_pins (command_at_work script s t) gs) s.last_jobs x) (sym table)
            (record { buffers_are = represents.bos.buffers_are; reservations_are = refl; fences_are = represents.bos.fences_are; pages_are = represents.bos.pages_are });
        timeline = represents.timeline;
        rings = represents.rings;
        ghosts = represents.ghosts;
        vram = represents.vram;
        tt = represents.tt;
        pool = represents.pool;
        swap = slots_kept script.sizes (held_slots s.core) (stores_of script journal) (written s (command_at_work script s t) (stores_of script journal)) p.swap represents.no_more
            (λ k o. ap (λ (a : Option Command). written s a (stores_of script journal) (slot k) o) work ∙ slots_same cmd at k o) represents.swap;
        stores = written_stores cmd at st w;
        lists = subst (λ (a : Option Command). AreListed script s.core.buffers (with_pins a gs) (fold (touched script s.core.buffers (with_pins a gs)) s.lists (held_as_named (course s t) a)) o) (sym work) listed;
        courses = c ∙ ap (λ cs. with_course_by on_to_next cs t) represents.courses;
        stamp = represents.stamp;
        ghost = represents.ghost;
        no_more = nothing_beyond script.sizes (stores_after script s (actor.Thread t) (kind.Result r) (stores_of script journal));
      }))
