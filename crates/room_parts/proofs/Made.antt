-- All parts after a buffer that is made.
use Rattle.std.proofs.Common.{◌≡◌, ℕ, zero, suc, ◌<◌, true, List, [], ◌∷◌, ◌++◌, Option, Some, None, IsSome, length, refl, sym, ◌∙◌, ap, ap₂, subst, arith}
use Rattle.std.specs.Prelude.{nat_lt, option_map, slice_get, slice_set, unwrap_or}
use Rattle.std.proofs.lemmas.Bool.Decides.{nat_tests}
use Rattle.ttm_base.specs.declared.Actor.TheVariants as actor
use Rattle.ttm_base.specs.declared.BufId.{BufId}
use Rattle.ttm_base.specs.declared.Mem.TheVariants.{System, Tt, Vram}
use Rattle.lru_bulk.specs.declared.nodes.Listing.{Listing}
use Rattle.lru_bulk.specs.Lists.{Order, added, listing_of, IsGroup}
use Rattle.lru_bulk.specs.Members.{AreMembersListed}
use Rattle.bo_table.specs.Seen.{Bos, with_made}
use Rattle.bo_table.proofs.TableLaws.{map_set, get_map}
use Rattle.journal_model.specs.declared.script.Script.{Script}
use Rattle.journal_model.specs.declared.script.Decl.{Decl}
use Rattle.journal_model.specs.declared.script.Command.{Command}
use Rattle.journal_model.specs.declared.state.State.{State}
use Rattle.journal_model.specs.declared.state.Buffer.{Buffer}
use Rattle.journal_model.specs.declared.state.Course.{Course}
use Rattle.journal_model.specs.declared.state.Reservation.{Reservation}
use Rattle.journal_model.specs.declared.state.Task.{Task}
use Rattle.journal_model.specs.declared.entry.Entry.{Entry}
use Rattle.journal_model.specs.declared.entry.Kind.TheVariants as kind
use Rattle.journal_model.specs.rules.State.{course, reservation_in, live_in, new_buffer, no_reservation}
use Rattle.journal_model.specs.rules.ApplyCommands.{has_made, after_new}
use Rattle.journal_model.specs.scripts.CommandRules.{is_command}
use Rattle.journal_model.specs.rules.Commands.{decl, undeclared}
use Rattle.journal_model.specs.rules.Stores.{stores_after}
use Rattle.journal_model.specs.rules.Legal.{IsLegalNext, state_of, world_of, world_after}
use Rattle.laws.proofs.law_state.GoodStates.{good_law}
use Rattle.laws.proofs.law_state.Rules.{rules_of, at_work_rules}
use Rattle.laws.proofs.law_sound.Along.{Stepped}
use Rattle.laws.proofs.law_sound.Gifts.{Gives, makes, seeks, fills}
use Rattle.laws.specs.lemma_bytes_told.Told as told
use Rattle.laws.specs.lemma_bytes_told.Told.{Told}
use Rattle.laws.proofs.law_transparent.Carried.{told_law}
use Rattle.room_representation.specs.lemma_lists.Listed.{listing_as, HasLists}
use Rattle.room_representation.proofs.lemma_lists.KindLaws.{new_lists}
use Rattle.room_representation.proofs.lemma_lists.ScriptLaws.{may_be_listed}
use Rattle.room_representation.proofs.lemma_spans.Still.{new_spans}
use Rattle.room_representation.specs.declared.parts.Parts.{Parts}
use Rattle.room_representation.specs.Bos.{AreBos, unfenced}
use Rattle.room_representation.specs.Held.{AreHeld}
use Rattle.room_representation.specs.Represents.{Represents}
use Rattle.room_representation.proofs.lemma_jobs.Sets.{fences_cleared}
use Rattle.room_representation.proofs.lemma_jobs.Packets.{nothing_beyond}
use Rattle.room_representation.proofs.lemma_bytes.Others.{new_same, pool_stays, new_slots}
use Rattle.room_representation.proofs.lemma_bytes.Fills.{new_stores}
use Rattle.room_representation.specs.steps.Courses.{course_at, with_course_by}
use Rattle.room_representation.proofs.steps.Steps.{held_after, step_as, thread_stepped, thread_there}

-- what is there at a number of the list
some_below : {X : Type 0} (xs : List X) (i : ℕ) → i < length xs → (x : X) × (slice_get xs i ≡ Some x)
some_below [] i h = absurd (omega (arith, h))
some_below (x ∷ xs) zero h = (x, refl)
some_below (x ∷ xs) (suc i) h = some_below xs i (omega (arith, h))

less_is : (m n : ℕ) → nat_lt m n ≡ true → m < n
less_is m n h = grind (arith, nat_tests)

-- the table with a buffer that was made
made_bos : (script : Script) (bs : List (Option Buffer)) (reservations : List Reservation) (last : List ℕ) (t : Bos) → AreBos script bs reservations last t → (b : BufId) → b.0 < length script.buffers → (old : Option Buffer) → slice_get bs b.0 ≡ Some old →
    AreBos script (slice_set bs b.0 (Some (new_buffer (decl script b).pages))) (slice_set reservations b.0 no_reservation) last (with_made t b)
made_bos script bs reservations last t h b below old at =
    let d = some_below script.buffers b.0 below in
    let is : decl script b ≡ d.0 = ap (λ o. unwrap_or o undeclared) d.1 in
    let pages : unwrap_or (slice_get t.pages b.0) 0 ≡ (decl script b).pages =
    ap (λ ns. unwrap_or (slice_get ns b.0) 0) h.pages_are ∙ ap (λ o. unwrap_or o 0) (get_map (λ (y : Decl). y.pages) script.buffers b.0 ∙ ap (option_map (λ (y : Decl). y.pages)) d.1) ∙ ap (λ (y : Decl). y.pages) (sym is) in
    record {
      buffers_are = ap₂ (λ xs n. slice_set xs b.0 (Some (new_buffer n))) h.buffers_are pages ∙ sym (map_set (option_map unfenced) bs b.0 (Some (new_buffer (decl script b).pages)));
      reservations_are = ap (λ gs. slice_set gs b.0 no_reservation) h.reservations_are;
      fences_are = fences_cleared last bs b old (Some (new_buffer (decl script b).pages)) at refl t.fences h.fences_are;
      pages_are = h.pages_are;
    }

module _ (script : Script) (journal : List Entry) (p : Parts) (entry : Entry) (t : ℕ) (b : BufId) (held : AreHeld script journal p) (is : entry ≡ record { who = actor.Thread t; kind = kind.New b }) (legal : IsLegalNext script (world_of script journal) entry) where
  abbrev s : State
  s = state_of script journal

  stepped : Stepped script s t (kind.New b)
  stepped = thread_stepped script journal p held t (kind.New b) entry is legal refl

  pub make_there : IsSome (course_at p.courses t)
  make_there = thread_there script journal p held t (kind.New b) entry is legal refl

  dead_in : Told script s t (kind.New b) → live_in s.core.buffers b ≡ None
  dead_in (told.still h) = cc
  dead_in (told.makes dead) = dead

  dead : live_in s.core.buffers b ≡ None
  dead = dead_in (told_law script journal t (kind.New b) held.fits held.legal (step_as script journal entry (record { who = actor.Thread t; kind = kind.New b }) is legal refl))

  declared_in : (c : Course) (cmd : Command) (x : Task) → is_command script cmd ≡ true → Gives script s c cmd x (kind.New b) → nat_lt b.0 (length script.buffers) ≡ true
  declared_in c cmd _ h (makes e l) = ap (is_command script) (sym e) ∙ h
  declared_in c cmd _ h (seeks {aim = aim} k) = elim k [ ]
  declared_in c cmd _ h (fills k) = elim k [ ]

  -- the buffer is declared
  pub make_declared : b.0 < length script.buffers
  make_declared =
      let step = stepped.step in
      less_is b.0 (length script.buffers) (declared_in (course s t) step.cmd step.task (at_work_rules script (rules_of script held.fits) s t step.cmd step.at_work).command stepped.gives)

  below : b.0 < length s.core.buffers
  below = let many = (good_law script held.fits journal held.legal).many in let l = make_declared in omega (arith, many, l)

  -- it may be listed
  pub make_known : b.0 < length p.lru.listings
  make_known = let l = below in omega (arith, held.represents.lists.room_is, l)

  pub make_absent : listing_of p.lru b ≡ None
  make_absent = held.represents.lists.listings_are b ∙ ap (listing_as script b (reservation_in s.reservations b).pins) dead

  -- as declared
  decl_is : (d : Decl) → slice_get script.buffers b.0 ≡ Some d → decl script b ≡ d
  decl_is d e = ap (λ o. unwrap_or o undeclared) e

  pub make_prio : (d : Decl) → slice_get script.buffers b.0 ≡ Some d → d.prio < 4
  make_prio d e = subst (λ (x : Decl). x.prio < 4) (decl_is d e) (may_be_listed script b held.fits).prio

  pub make_group : (d : Decl) → slice_get script.buffers b.0 ≡ Some d → IsGroup p.lru.groups d.group
  make_group d e = subst (λ n. IsGroup n d.group) (sym held.represents.lists.groups_are) (subst (λ (x : Decl). IsGroup 16 x.group) (decl_is d e) (may_be_listed script b held.fits).group)

  pub make_held : (courses : List Course) (bos : Bos) (o : Order) (d : Decl) → slice_get script.buffers b.0 ≡ Some d → courses ≡ with_course_by has_made p.courses t → bos ≡ with_made p.bos b →
      o ≡ added p.lru b (record { mem = System; prio = d.prio; group = d.group }) → AreMembersListed p.lru → AreHeld script (journal ++ entry ∷ []) (record p { courses = courses; bos = bos; lru = o })
  make_held courses bos o d at c g l members =
      let w = world_of script journal in
      let represents = held.represents in
      let q : Parts = record p { courses = courses; bos = bos; lru = o } in
      let old = some_below s.core.buffers b.0 below in
      let same : o ≡ added p.lru b (record { mem = System; prio = (decl script b).prio; group = (decl script b).group }) =
      l ∙ ap (λ (x : Decl). added p.lru b (let y : Listing = record { mem = System; prio = x.prio; group = x.group } in y)) (sym (decl_is d at)) in
      held_after script journal p q entry held legal
      (subst (λ (y : Entry). Represents script (world_after script w y).state (world_after script w y).stores q) (sym is)
      (record {
        bos = subst (λ x. AreBos script (after_new script s t b).core.buffers (after_new script s t b).reservations s.last_jobs x) (sym g) (made_bos script s.core.buffers s.reservations s.last_jobs p.bos represents.bos b make_declared old.0 old.1);
        timeline = represents.timeline;
        rings = represents.rings;
        ghosts = represents.ghosts;
        vram = record { rule = represents.vram.rule; held_as = new_spans script.sizes.vram Vram s p.vram.resources represents.vram.held_as script t b dead; fence = represents.vram.fence };
        tt = new_spans script.sizes.tt Tt s p.tt represents.tt script t b dead;
        pool = pool_stays script.sizes.frames s.core (after_new script s t b).core p.pool (new_same script s t b dead) represents.pool;
        swap = new_slots script s (actor.Thread t) b w.stores p.swap dead represents.swap;
        stores = new_stores script s w.stores p.stores represents.stores (actor.Thread t) b dead;
        lists = subst (λ x. HasLists script (after_new script s t b) x) (sym same) (new_lists script s p.lru t b represents.lists members dead below);
        courses = c ∙ ap (λ cs. with_course_by has_made cs t) represents.courses;
        stamp = represents.stamp;
        ghost = represents.ghost;
        no_more = nothing_beyond script.sizes (stores_after script s (actor.Thread t) (kind.New b) w.stores);
      }))
