-- All parts after entries on victims, and on searches that failed.
use Rattle.std.proofs.Common.{◌≡◌, ℕ, Bool, true, false, List, [], ◌∷◌, ◌++◌, Option, Some, None, IsSome, refl, sym, ◌∙◌, ap, subst}
use Rattle.std.specs.Prelude.{◌&&◌, ◌==◌, is_none, not}
use Rattle.ttm_base.specs.declared.Actor.TheVariants as actor
use Rattle.ttm_base.specs.declared.BufId.{BufId}
use Rattle.ttm_base.specs.declared.Deny.TheVariants as deny
use Rattle.ttm_base.specs.declared.Mem.{Mem}
use Rattle.ttm_base.specs.declared.Mem.TheVariants.{System, Tt, Vram}
use Rattle.ttm_base.specs.declared.Stamp.{Stamp}
use Rattle.ttm_base.specs.Reach.{same_mem, intersects}
use Rattle.bo_table.specs.Seen.{Bos, with_changed, with_reservation}
use Rattle.lru_bulk.specs.Lists.{Order, touched}
use Rattle.lru_bulk.specs.Members.{AreMembersListed}
use Rattle.journal_model.specs.declared.script.Script.{Script}
use Rattle.journal_model.specs.declared.script.Command.{Command}
use Rattle.journal_model.specs.declared.state.State.{State}
use Rattle.journal_model.specs.declared.state.Buffer.{Buffer}
use Rattle.journal_model.specs.declared.state.Course.{Course}
use Rattle.journal_model.specs.declared.state.Reservation.{Reservation}
use Rattle.journal_model.specs.declared.state.Task.{Task}
use Rattle.journal_model.specs.declared.entry.Entry.{Entry}
use Rattle.journal_model.specs.declared.entry.Why.{Why}
use Rattle.journal_model.specs.declared.entry.Kind.TheVariants as kind
use Rattle.journal_model.specs.rules.State.{changed, course, buffer, reservation, reservation_in, reservation_changed, has_buffer}
use Rattle.journal_model.specs.rules.ApplyCommands.{with_holder}
use Rattle.journal_model.specs.rules.ApplyPages as pages
use Rattle.journal_model.specs.rules.ApplyVictims.{leaves_tt, with_victim, with_skip, no_longer_caught, with_fail}
use Rattle.journal_model.specs.rules.Choice.{reach_of}
use Rattle.journal_model.specs.rules.Dry.{is_loose, is_evictable, has_frame}
use Rattle.journal_model.specs.rules.Lists as state
use Rattle.journal_model.specs.rules.Lists.{in_order}
use Rattle.journal_model.specs.rules.Legal.{IsLegalNext, state_of, stores_of, world_of}
use Rattle.laws.proofs.law_sound.Along.{Stepped}
use Rattle.laws.proofs.law_sound.Bufs.{found_passes}
use Rattle.laws.proofs.law_sound.Gifts.{Gives, seeks, fills, evicts, evicts_for_swap}
use Rattle.room_representation.specs.lemma_lists.Listed.{AreListed}
use Rattle.room_representation.proofs.lemma_lists.KindLaws.{reservation_changed_unseen, loose_lists}
use Rattle.room_representation.proofs.lemma_spans.Still.{catch_spans}
use Rattle.room_representation.specs.declared.parts.Parts.{Parts}
use Rattle.room_representation.specs.Bos.{unfenced}
use Rattle.room_representation.specs.Held.{AreHeld}
use Rattle.room_representation.specs.Represents.{Represents}
use Rattle.room_representation.specs.steps.Courses.{course_at, course_in, with_course_by}
use Rattle.room_representation.proofs.steps.Steps.{held_still, thread_stepped, thread_there}
use Rattle.room_representation.proofs.steps.Frames.{LeavesInPlace, eased_represented, changed_represented}

-- ---- no frame is available

module _ (script : Script) (journal : List Entry) (p : Parts) (entry : Entry) (t : ℕ) (b : BufId) (held : AreHeld script journal p) (is : entry ≡ record { who = actor.Thread t; kind = kind.NoPages b }) (legal : IsLegalNext script (world_of script journal) entry) where
  pub no_pages_there : IsSome (course_at p.courses t)
  no_pages_there = thread_there script journal p held t (kind.NoPages b) entry is legal refl

  pub no_pages_held : (courses : List Course) → courses ≡ with_course_by (with_fail b deny.NoPages) p.courses t → AreHeld script (journal ++ entry ∷ []) (record p { courses = courses })
  no_pages_held courses c =
      let s = state_of script journal in
      held_still script journal p (record p { courses = courses }) entry (record { who = actor.Thread t; kind = kind.NoPages b }) held is legal refl
      (eased_represented script s (stores_of script journal) p held.represents p.bos p.lru courses p.tickets s.reservations s.lists (with_course_by (with_fail b deny.NoPages) s.courses t) s.last_stamp
      (ap (λ gs. record p.bos { reservations = gs }) held.represents.bos.reservations_are) held.represents.lists (c ∙ ap (λ cs. with_course_by (with_fail b deny.NoPages) cs t) held.represents.courses) held.represents.stamp)

-- ---- a victim is let go

module _ (script : Script) (journal : List Entry) (p : Parts) (entry : Entry) (t : ℕ) (b : BufId) (held : AreHeld script journal p) (is : entry ≡ record { who = actor.Thread t; kind = kind.Skip b }) (legal : IsLegalNext script (world_of script journal) entry) where
  pub skip_there : IsSome (course_at p.courses t)
  skip_there = thread_there script journal p held t (kind.Skip b) entry is legal refl

  pub skip_held : (courses : List Course) (bos : Bos) → courses ≡ with_course_by (λ c. with_skip b (no_longer_caught b c)) p.courses t → bos ≡ with_reservation (with_holder None) p.bos b →
      AreHeld script (journal ++ entry ∷ []) (record p { courses = courses; bos = bos })
  skip_held courses bos c g =
      let s = state_of script journal in
      held_still script journal p (record p { courses = courses; bos = bos }) entry (record { who = actor.Thread t; kind = kind.Skip b }) held is legal refl
      (eased_represented script s (stores_of script journal) p held.represents bos p.lru courses p.tickets (reservation_changed (with_holder None) s.reservations b) s.lists (with_course_by (λ c. with_skip b (no_longer_caught b c)) s.courses t) s.last_stamp
      (g ∙ ap (λ (gs : List Reservation). record p.bos { reservations = reservation_changed (with_holder None) gs b }) held.represents.bos.reservations_are)
      (reservation_changed_unseen script (with_holder None) s.core.buffers s.reservations s.lists p.lru b (λ x. refl) held.represents.lists)
      (c ∙ ap (λ cs. with_course_by (λ c. with_skip b (no_longer_caught b c)) cs t) held.represents.courses) held.represents.stamp)

module _ (script : Script) (journal : List Entry) (p : Parts) (entry : Entry) (t : ℕ) (b : BufId) (held : AreHeld script journal p) (is : entry ≡ record { who = actor.Thread t; kind = kind.Loose b }) (legal : IsLegalNext script (world_of script journal) entry) where
  pub loose_there : IsSome (course_at p.courses t)
  loose_there = thread_there script journal p held t (kind.Loose b) entry is legal refl

  pub loose_held : (courses : List Course) (bos : Bos) (o : Order) → courses ≡ with_course_by (no_longer_caught b) p.courses t → bos ≡ with_reservation (with_holder None) p.bos b → o ≡ touched p.lru b → AreMembersListed p.lru →
      AreHeld script (journal ++ entry ∷ []) (record p { courses = courses; bos = bos; lru = o })
  loose_held courses bos o c g l members =
      let s = state_of script journal in
      let reservations = reservation_changed (with_holder None) s.reservations b in
      held_still script journal p (record p { courses = courses; bos = bos; lru = o }) entry (record { who = actor.Thread t; kind = kind.Loose b }) held is legal refl
      (eased_represented script s (stores_of script journal) p held.represents bos o courses p.tickets reservations (state.touched script s.core.buffers reservations s.lists b) (with_course_by (no_longer_caught b) s.courses t) s.last_stamp
      (g ∙ ap (λ (gs : List Reservation). record p.bos { reservations = reservation_changed (with_holder None) gs b }) held.represents.bos.reservations_are)
      (subst (λ x. AreListed script s.core.buffers reservations (state.touched script s.core.buffers reservations s.lists b) x) (sym l) (loose_lists script s p.lru b held.represents.lists members t))
      (c ∙ ap (λ cs. with_course_by (no_longer_caught b) cs t) held.represents.courses) held.represents.stamp)

-- ---- a victim is caught

-- it gets a target in SYSTEM where it leaves TT, and nothing else
abbrev leaving : Buffer → Buffer
leaving x = leaves_tt x.mem x

leaving_stays : LeavesInPlace leaving
leaving_stays =
    record {
      places = record { mem = λ x. mem_kept x x.mem; spans = λ x. spans_kept x x.mem; table = λ x. table_kept x x.mem };
      fences = λ x. fences_kept x x.mem;
      past = λ x. past x x.mem;
    }
  where
    mem_kept : (x : Buffer) (m : Mem) → (leaves_tt m x).mem ≡ x.mem
    mem_kept x System = refl
    mem_kept x Tt = refl
    mem_kept x Vram = refl

    spans_kept : (x : Buffer) (m : Mem) → (leaves_tt m x).spans ≡ x.spans
    spans_kept x System = refl
    spans_kept x Tt = refl
    spans_kept x Vram = refl

    table_kept : (x : Buffer) (m : Mem) → (leaves_tt m x).table ≡ x.table
    table_kept x System = refl
    table_kept x Tt = refl
    table_kept x Vram = refl

    fences_kept : (x : Buffer) (m : Mem) → (leaves_tt m x).fences ≡ x.fences
    fences_kept x System = refl
    fences_kept x Tt = refl
    fences_kept x Vram = refl

    past : (x : Buffer) (m : Mem) → unfenced (leaves_tt m x) ≡ leaves_tt m (unfenced x)
    past x System = refl
    past x Tt = refl
    past x Vram = refl

module _ (script : Script) (journal : List Entry) (p : Parts) (entry : Entry) (t : ℕ) (b : BufId) (w : Why) (held : AreHeld script journal p) (is : entry ≡ record { who = actor.Thread t; kind = kind.Catch b w }) (legal : IsLegalNext script (world_of script journal) entry) where
  abbrev s : State
  s = state_of script journal

  stepped : Stepped script s t (kind.Catch b w)
  stepped = thread_stepped script journal p held t (kind.Catch b w) entry is legal refl

  pub catch_there : IsSome (course_at p.courses t)
  catch_there = thread_there script journal p held t (kind.Catch b w) entry is legal refl

  none_is : (o : Option Stamp) → is_none o ≡ true → o ≡ None
  none_is None h = refl
  none_is (Some x) h = cc

  loose_free : (g : Reservation) → is_loose g ≡ true → g.holder ≡ None
  loose_free g h = none_is g.holder (second (g.pins == 0) (is_none g.holder) h)
    where
      second : (a b : Bool) → (a && b) ≡ true → b ≡ true
      second true b h = h
      second false b h = cc

  third : (a b c d : Bool) → (((a && b) && c) && d) ≡ true → c ≡ true
  third true true true d h = refl
  third true true false d h = cc
  third true false c d h = cc
  third false b c d h = cc

  first : (a b : Bool) → (a && b) ≡ true → a ≡ true
  first true b h = refl
  first false b h = cc

  free_in : (why : Why) (c : Course) (cmd : Command) (x : Task) → Gives script s c cmd x (kind.Catch b why) → (reservation s b).holder ≡ None
  free_in why c cmd _ (seeks {aim = aim} (evicts place at lacks for found)) =
      loose_free (reservation s b) (third (same_mem (buffer s b).mem place.mem) (intersects (buffer s b).spans (reach_of script place)) (is_loose (reservation s b)) (not (has_buffer c.skips b))
      (found_passes (is_evictable script s c.skips place) (in_order s place.mem) b found))
  free_in why c cmd _ (fills (evicts_for_swap slot found)) =
      loose_free (reservation s b) (first (is_loose (reservation s b)) (has_frame (buffer s b)) (found_passes (λ d. is_loose (reservation s d) && has_frame (buffer s d)) (in_order s System ++ in_order s Tt) b found))

  pub catch_free : (bos : Bos) → bos ≡ with_changed leaving p.bos b → (reservation_in bos.reservations b).holder ≡ None
  catch_free bos e =
      ap (λ (x : Bos). (reservation_in x.reservations b).holder) e ∙ ap (λ (gs : List Reservation). (reservation_in gs b).holder) held.represents.bos.reservations_are ∙ free_in w (course s t) stepped.step.cmd stepped.step.task stepped.gives

  -- the buffer has left TT
  left_represented : (mid : Bos) → mid ≡ with_changed leaving p.bos b → Represents script (pages.with_changed leaving b s) (stores_of script journal) (record p { bos = mid })
  left_represented mid m =
      changed_represented script s (stores_of script journal) p held.represents leaving leaving_stays b mid p.vram p.tt m
      (record {
        rule = held.represents.vram.rule;
        held_as = catch_spans script.sizes.vram Vram s p.vram.resources held.represents.vram.held_as t b w (λ e. let x : Vram ≡ System = e in cc);
        fence = held.represents.vram.fence;
      })
      (catch_spans script.sizes.tt Tt s p.tt held.represents.tt t b w (λ e. let x : Tt ≡ System = e in cc))

  pub catch_held : (courses : List Course) (mid bos : Bos) (st : Option Stamp) → courses ≡ with_course_by (with_victim b w) p.courses t → st ≡ (course_in p.courses t).stamp →
      mid ≡ with_changed leaving p.bos b → bos ≡ with_reservation (with_holder st) mid b → AreHeld script (journal ++ entry ∷ []) (record p { courses = courses; bos = bos })
  catch_held courses mid bos st c i m g =
      let stamp : st ≡ (course s t).stamp = i ∙ ap (λ (cs : List Course). (course_in cs t).stamp) held.represents.courses in
      let left = left_represented mid m in
      held_still script journal p (record p { courses = courses; bos = bos }) entry (record { who = actor.Thread t; kind = kind.Catch b w }) held is legal refl
      (eased_represented script (pages.with_changed leaving b s) (stores_of script journal) (record p { bos = mid }) left bos p.lru courses p.tickets (reservation_changed (with_holder (course s t).stamp) s.reservations b) s.lists (with_course_by (with_victim b w) s.courses t) s.last_stamp
      (g ∙ ap (λ (gs : List Reservation). record mid { reservations = reservation_changed (with_holder st) gs b }) left.bos.reservations_are ∙ ap (λ o. record mid { reservations = reservation_changed (with_holder o) s.reservations b }) stamp)
      (reservation_changed_unseen script (with_holder (course s t).stamp) (changed leaving s.core.buffers b) s.reservations s.lists p.lru b (λ x. refl) left.lists)
      (c ∙ ap (λ cs. with_course_by (with_victim b w) cs t) held.represents.courses) held.represents.stamp)
